-- `client_c::words::outcome_numbers` meets its contract. Each kind gets the numbers that the definition says. Assumes nothing.
use Rattle.client_c.proofs.words.outcome_numbers.Goals as goal

pub returns-in-Ready : goal.returns-in-Ready
returns-in-Ready c = simp (c.four_of.ensures, c.in-Ready.is)

pub returns-in-Send : goal.returns-in-Send
returns-in-Send c = simp (c.four_of-in-Send.ensures, c.wide.ensures, c.in-Send.is)

pub returns-in-WantsBytes : goal.returns-in-WantsBytes
returns-in-WantsBytes c = simp (c.four_of-in-WantsBytes.ensures, c.in-WantsBytes.is)

pub returns-in-Read : goal.returns-in-Read
returns-in-Read c = simp (c.four_of-in-Read.ensures, c.wide-in-Read.ensures, c.in-Read.is)

pub returns-in-Part : goal.returns-in-Part
returns-in-Part c = simp (c.part_numbers.ensures, c.in-Part.is)

pub returns-in-Done : goal.returns-in-Done
returns-in-Done c =
    simp (
      c.four_of-in-Done.ensures,
      c.wide-in-Done.ensures,
      c.wide8.ensures.0,
      c.in-Done.is,
    )

pub returns-in-Stopped : goal.returns-in-Stopped
returns-in-Stopped c =
    simp (
      c.four_of-in-Stopped.ensures,
      c.wide-in-Stopped.ensures,
      c.wide8-in-Stopped.ensures.0,
      c.in-Stopped.is,
    )

pub returns-in-Aborted : goal.returns-in-Aborted
returns-in-Aborted c =
    simp (
      c.four_of-in-Aborted.ensures,
      c.wide-in-Aborted.ensures,
      c.wide8-in-Aborted.ensures.0,
      c.in-Aborted.is,
    )

pub returns-in-End : goal.returns-in-End
returns-in-End c =
    simp (
      c.four_of-in-End.ensures,
      c.wide8-in-End.ensures.0,
      c.end_number.ensures,
      c.in-End.is,
    )

pub returns-in-Refused : goal.returns-in-Refused
returns-in-Refused c =
    simp (
      c.four_of-in-Refused.ensures,
      c.wide8-in-Refused.ensures.0,
      c.refusal_number.ensures,
      c.in-Refused.is,
    )
