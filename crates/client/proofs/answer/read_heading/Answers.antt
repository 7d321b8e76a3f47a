-- `client::answer::read_heading` meets its contract. The survey finds the headers that count. Assumes nothing.
use Rattle.client.proofs.Answers.{heading-read}
use Rattle.client.proofs.answer.read_heading.Goals as goal

pub returns : goal.returns
returns c =
    let args = c.args in heading-read args.code args.p.now args.from _ _ _ c.survey_headers-v.ensures
    c.id_of.ensures
    c.limit_of-limit.ensures
