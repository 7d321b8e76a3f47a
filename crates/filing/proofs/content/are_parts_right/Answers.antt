-- `filing::content::are_parts_right` meets its contract. The arms of the code are those of the definition. Assumes nothing.
use Rattle.filing.proofs.content.are_parts_right.Goals as goal

pub returns-in-Opened : goal.returns-in-Opened
returns-in-Opened c = simp (c.in-Opened.is, c.is_opening.ensures)

pub returns-in-Given : goal.returns-in-Given
returns-in-Given c = simp c.in-Given.is

pub returns-in-Challenged : goal.returns-in-Challenged
returns-in-Challenged c = simp c.in-Challenged.is

pub returns-in-Closed : goal.returns-in-Closed
returns-in-Closed c = simp c.in-Closed.is

pub returns-in-Filing : goal.returns-in-Filing
returns-in-Filing c = simp (c.in-Filing.is, c.is_filing.ensures)
