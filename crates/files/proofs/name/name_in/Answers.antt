-- `files::name::name_in` meets its contract: there is no Name, or its text fits, or it does not. Assumes nothing.
use Rattle.std.proofs.Common.{sym, ◌∙◌}
use Rattle.packet.proofs.HeaderLaws.{FoundIn, first_found}
use Rattle.files.proofs.Named.{name-missing, name-written, name-short}
use Rattle.files.proofs.name.name_in.Goals as goal
use Rattle.files.proofs.name.name_in.Goals.{In-Some}

pub returns-in_default-clause-value : goal.returns-in_default-clause-value
returns-in_default-clause-value c =
    name-missing c.args.headers.now c.args.store.now c.first_header.result c.first_header.ensures c.in_default.is

-- the Name stands in the headers
here : (c : In-Some) → FoundIn 0x01 c.args.headers.now c.in-Some.value.start c.in-Some.value.end
here c = first_found 0x01 _ _ _ _ (sym c.first_header.ensures ∙ c.in-Some.is)

pub of-requires-clause-ordered : goal.of-requires-clause-ordered
of-requires-clause-ordered c = (here c).stands.past

pub of-requires-clause-within : goal.of-requires-clause-within
of-requires-clause-within c = (here c).stands.fits

pub returns-in-Ok : goal.returns-in-Ok
returns-in-Ok c =
    let p =
    name-written c.args.headers.now c.args.store.now _ c.first_header.result _ _ _ c.decode_unicode-done.result c.first_header.ensures
    c.in-Some.is (rw c.of.ensures at c.decode_unicode-done.ensures) c.in-Ok.is in
    record { value = p.0; room = p.1 }

pub returns-in-Err-clause-value : goal.returns-in-Err-clause-value
returns-in-Err-clause-value c =
    name-short c.args.headers.now c.args.store.now _ c.first_header.result _ _ c.decode_unicode-done.result c.first_header.ensures
    c.in-Some.is (rw c.of.ensures at c.decode_unicode-done.ensures) c.in-Err.is
