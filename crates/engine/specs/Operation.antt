-- A Put, a Get's request and the operations of headers alone, decided without the stores: the design level between model/specs/Operation
-- and the code.
use Rattle.std.specs.Prelude.{ℕ, Bool, true, false}
use Rattle.base.specs.Pick.{pick}
use Rattle.packet.specs.declared.opcode.Opcode.{Opcode}
use Rattle.incoming.specs.declared.gather.Gathered.{Gathered}
use Rattle.model.specs.Step.{Stores, Done, with_gathered}
use Rattle.model.specs.Operation.{headers_request, overrun, put_body}
use Rattle.server.specs.declared.Operation.TheVariants.{Nothing, Putting, Getting, Gathering as GatheringOp}
use Rattle.server.specs.declared.Await.TheVariants as await
use Rattle.server.specs.declared.End.TheVariants as end
use Rattle.server.specs.declared.Engine.{Engine}
use Rattle.server.specs.declared.HostRequest.TheVariants as request
use Rattle.engine.specs.declared.step.Plan.{Plan}
use Rattle.engine.specs.Step.{planned, wants_plan, asks_plan, ends_plan, code_plan, code_keeping_plan, continue_plan}
use Rattle.packet.specs.Packet.{prefix_of}
use Rattle.incoming.specs.Gather.{Gathering}
use Rattle.incoming.specs.declared.gather.Keep.{Keep}
use Rattle.incoming.specs.declared.gather.Keep.TheVariants as keep
use Rattle.engine.specs.declared.operation.GatherFlags.{GatherFlags}
use Rattle.engine.specs.declared.operation.GatherKind.{GatherKind}
use Rattle.engine.specs.declared.operation.GatherKind.TheVariants as kind

-- After a Put packet that is not final, first under Single Response Mode (SRM), then without (docs/PROTOCOL.md#put-limit).
abbrev pub put_continue_plan : Engine → Gathered → GatherFlags → Plan
put_continue_plan e g f =
    pick f.srm (pick f.asked (continue_plan e (Putting g true) false) (wants_plan e e.peer (Putting g true)))
    (pick g.over (code_keeping_plan e (overrun e.settings) 0xCD)
    (continue_plan e (Putting g f.confirm_srm) f.confirm_srm))

-- After the final packet of a Put the host gets the record, unless its body is past the limit.
abbrev pub put_final_plan : Engine → Gathered → Plan
put_final_plan e g =
    pick g.over (code_plan e e.peer await.Taken 0xCD)
    (asks_plan e e.peer Nothing await.Reply (request.Put g.kept (put_body g)))

-- Kept headers over 65,535 bytes end the engine before the limit is looked at.
unfoldable pub put_plan : Engine → Gathered → GatherFlags → Plan
put_plan e g f =
    pick g.full (ends_plan e e.peer end.HeadersTooLarge) (pick f.is_final (put_final_plan e g) (put_continue_plan e g f))

-- After a packet of a Get's request that is not final, first under SRM, then without.
abbrev pub get_continue_plan : Engine → Gathered → GatherFlags → Plan
get_continue_plan e g f =
    pick f.srm (wants_plan e e.peer (Getting g true f.confirm_srm f.asked))
    (continue_plan e (Getting g f.confirm_srm false f.asked) f.confirm_srm)

-- The engine asks the host about a Get once its request is final.
unfoldable pub get_plan : Engine → Gathered → GatherFlags → Plan
get_plan e g f =
    pick g.full (ends_plan e e.peer end.HeadersTooLarge)
    (pick f.is_final
    (asks_plan e e.peer (Getting g f.srm f.confirm_srm f.asked) await.Get (request.Get g.kept))
    (get_continue_plan e g f))

-- The engine asks the host about an Action, a Session or a user-defined operation once it is final.
unfoldable pub headers_plan : Engine → Opcode → Gathered → Bool → Plan
headers_plan e o g final =
    pick g.full (ends_plan e e.peer end.HeadersTooLarge)
    (pick final (asks_plan e e.peer Nothing await.Reply (headers_request o g.kept))
    (continue_plan e (GatheringOp o g) false))

-- The kind of an operation says which of its headers the engine keeps.
abbrev pub keep_of : GatherKind → Keep
keep_of kind.Put = keep.Put
keep_of kind.Get = keep.Get
keep_of (kind.Headers o) = keep.All

-- The headers of such a packet start here.
abbrev pub from_of : GatherKind → ℕ
from_of kind.Put = 3
from_of kind.Get = 3
from_of (kind.Headers o) = prefix_of o

-- The engine plans by the kind of the operation whose packet it has gathered.
unfoldable pub kind_plan : Engine → GatherKind → Gathered → GatherFlags → Plan
kind_plan e kind.Put g f = put_plan e g f
kind_plan e kind.Get g f = get_plan e g f
kind_plan e (kind.Headers o) g f = headers_plan e o g f.is_final

-- The engine carries the plan out on the stores that gathering left.
abbrev pub acts_gathered : Engine → GatherKind → GatherFlags → Gathering → Stores → Done
acts_gathered e k f g s = planned (kind_plan e k g.got f) (with_gathered s g)
