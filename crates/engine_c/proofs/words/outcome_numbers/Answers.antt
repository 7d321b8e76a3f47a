-- `engine_c::words::outcome_numbers` meets its contract. Each kind gets the numbers that the definition says. Assumes nothing.
use Rattle.engine_c.proofs.words.outcome_numbers.Goals as goal

pub returns-in-WantsBytes : goal.returns-in-WantsBytes
returns-in-WantsBytes c = simp (c.few.ensures, c.in-WantsBytes.is)

pub returns-in-Reply : goal.returns-in-Reply
returns-in-Reply c = simp (c.few-in-Reply.ensures, c.wide.ensures, c.in-Reply.is)

pub returns-in-Request : goal.returns-in-Request
returns-in-Request c = simp (c.request_numbers.ensures, c.in-Request.is)

pub returns-in-End : goal.returns-in-End
returns-in-End c =
    simp (
      c.few-in-End.ensures,
      c.wide8.ensures.0,
      c.end_number.ensures,
      c.in-End.is,
    )

pub returns-in-Refused : goal.returns-in-Refused
returns-in-Refused c =
    simp (
      c.few-in-Refused.ensures,
      c.wide8-in-Refused.ensures.0,
      c.refusal_number.ensures,
      c.in-Refused.is,
    )
