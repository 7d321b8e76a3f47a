-- `receiver::log::lay_frame` meets its contract: the check is put in front, and the frame is written behind it. Assumes nothing.
use Rattle.std.proofs.Common.{ℕ, List, ap, ◌∙◌}
use Rattle.filing.specs.Frame.{frame_written}
use Rattle.filing.specs.Kinds.{content_in}
use Rattle.receiver.proofs.log.lay_frame.Goals as goal

pub returns : goal.returns
returns c =
    let a = c.args in
    c.write_frame.ensures
    ∙ ap (λ (s : List ℕ). frame_written s 16 a.log.number (content_in (record { kind = a.kind; number = a.log.number; clock = a.clock }) a.payload.now))
    c.put_octets16.ensures
