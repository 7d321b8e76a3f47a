-- `client::request::leading_bytes` meets its contract. Each arm writes the headers that lead. Assumes nothing.
use Rattle.client.proofs.Packets.{leads-both, leads_id, leads-mode, leads-none}
use Rattle.client.proofs.request.leading_bytes.Goals as goal

pub returns-then-srm : goal.returns-then-srm
returns-then-srm c = leads-both _ _ _ c.in-Some.is c.if-srm.true

pub returns-else-srm : goal.returns-else-srm
returns-else-srm c = leads_id _ _ _ c.in-Some.is c.if-srm.false

pub returns-then-srm-2 : goal.returns-then-srm-2
returns-then-srm-2 c = leads-mode _ _ c.in-None.is c.if-srm-2.true

pub returns-else-srm-2 : goal.returns-else-srm-2
returns-else-srm-2 c = leads-none _ _ c.in-None.is c.if-srm-2.false
