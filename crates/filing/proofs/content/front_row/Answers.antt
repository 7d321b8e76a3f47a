-- `filing::content::front_row` meets its contract. The arms of the code are those of the definition. Assumes nothing.
use Rattle.filing.specs.Kinds.{open_row}
use Rattle.filing.proofs.content.front_row.Goals as goal

pub returns-in-Opened : goal.returns-in-Opened
unfolding open_row
returns-in-Opened c = simp (c.in-Opened.is, c.open_row.ensures)

pub returns-in-Received : goal.returns-in-Received
returns-in-Received c = simp (c.in-Received.is, c.row_of.ensures)

pub returns-in-Broken : goal.returns-in-Broken
returns-in-Broken c = simp (c.in-Broken.is, c.row_of-in-Broken.ensures)

pub returns-in-Replied : goal.returns-in-Replied
returns-in-Replied c = simp (c.in-Replied.is, c.row_of-in-Replied.ensures)

pub returns-in-Answered : goal.returns-in-Answered
returns-in-Answered c = simp (c.in-Answered.is, c.row_of-in-Answered.ensures)

pub returns-in-Given : goal.returns-in-Given
returns-in-Given c = simp (c.in-Given.is, c.object_row.ensures)

pub returns-in-Checked : goal.returns-in-Checked
returns-in-Checked c = simp (c.in-Checked.is, c.check_row.ensures)

pub returns-in-Challenged : goal.returns-in-Challenged
returns-in-Challenged c = simp (c.in-Challenged.is, c.row_of-in-Challenged.ensures)

pub returns-in-Closed : goal.returns-in-Closed
returns-in-Closed c = simp (c.in-Closed.is, c.row_of-in-Closed.ensures)

pub returns-in-Filing : goal.returns-in-Filing
returns-in-Filing c = simp (c.in-Filing.is, c.row_of-in-Filing.ensures)

pub returns-in-Failed : goal.returns-in-Failed
returns-in-Failed c = simp (c.in-Failed.is, c.row_of-in-Failed.ensures)

pub returns-in-Ended : goal.returns-in-Ended
returns-in-Ended c = simp (c.in-Ended.is, c.row_of-in-Ended.ensures)
