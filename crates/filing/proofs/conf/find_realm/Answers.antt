-- `filing::conf::find_realm` meets its contract: the place of the realm is what counts of it. Assumes nothing.
use lib.ListN.{length}
use Rattle.filing.proofs.Configured.{said-none, said-some, place_in, realm-none, realm-some}
use Rattle.filing.proofs.conf.find_realm.Goals as goal

pub returns-in-None : goal.returns-in-None
returns-in-None c =
    let t = c.args.text.now in
    realm-none t (said-none t _ c.value_of.result c.value_of.ensures.value c.in-None.is)

pub returns-in-Some : goal.returns-in-Some
returns-in-Some c =
    let t = c.args.text.now in
    let i = place_in (length t) c.value_of.result _ _ c.value_of.ensures.room c.in-Some.is in
    realm-some t _ _ c.realm_length.result i.0 i.1
    (said-some t _ c.value_of.result _ _ c.value_of.ensures.value c.in-Some.is)
    (rw c.size.ensures at c.realm_length.ensures)
