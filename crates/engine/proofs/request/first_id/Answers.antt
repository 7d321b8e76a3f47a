-- `engine::request::first_id` meets its contract: the survey gives the first of that id. Assumes nothing.
use Rattle.engine.proofs.LastPacket.{id_given_lem, id_missing}
use Rattle.engine.proofs.request.first_id.Goals as goal

pub returns-then-v : goal.returns-then-v
returns-then-v c = id_given_lem _ _ c.survey_headers-v.ensures c.if-v.true

pub returns : goal.returns
returns c = id_missing _ _ c.survey_headers-v.ensures c.if-v.false
