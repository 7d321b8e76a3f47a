-- `packet::header::is_allowed` meets its contract: the tests are those of `allowed`, in its order. Assumes nothing.
use mathlib.Core.Path.{sym, ap, ◌∙◌}
use borrow.Author.Tests.{eq-eqb, ne_eqb}
use Rattle.packet.specs.Header.{allowed}
use Rattle.packet.specs.Modes.{is_mode, is_parameter, is_action}
use Rattle.packet.proofs.header.is_allowed.Goals as goal

pub returns-then-id-eq-ACTION_ID : goal.returns-then-id-eq-ACTION_ID
unfolding allowed
returns-then-id-eq-ACTION_ID c = rw (eq-eqb _ _ c.if-id-eq-ACTION_ID.true) (c.is_action.ensures ∙ ap is_action c.first_byte.ensures)

pub returns-then-id-eq-SINGLE_RESPONSE_MODE : goal.returns-then-id-eq-SINGLE_RESPONSE_MODE
unfolding allowed
returns-then-id-eq-SINGLE_RESPONSE_MODE c =
    rw (ne_eqb _ _ c.if-id-eq-ACTION_ID.false, eq-eqb _ _ c.if-id-eq-SINGLE_RESPONSE_MODE.true)
    (c.is_mode.ensures ∙ ap is_mode c.first_byte-then-id-eq-SINGLE_RESPONSE_MODE.ensures)

pub returns-then-id-eq-SINGLE_RESPONSE_MODE_PARAMETERS : goal.returns-then-id-eq-SINGLE_RESPONSE_MODE_PARAMETERS
unfolding allowed
returns-then-id-eq-SINGLE_RESPONSE_MODE_PARAMETERS c =
    rw (ne_eqb _ _ c.if-id-eq-ACTION_ID.false, ne_eqb _ _ c.if-id-eq-SINGLE_RESPONSE_MODE.false, eq-eqb _ _ c.if-id-eq-SINGLE_RESPONSE_MODE_PARAMETERS.true)
    (c.is_parameter.ensures ∙ ap is_parameter c.first_byte-then-id-eq-SINGLE_RESPONSE_MODE_PARAMETERS.ensures)

pub returns-then-is_tagged : goal.returns-then-is_tagged
unfolding allowed
returns-then-is_tagged c =
    rw (
      ne_eqb _ _ c.if-id-eq-ACTION_ID.false,
      ne_eqb _ _ c.if-id-eq-SINGLE_RESPONSE_MODE.false,
      ne_eqb _ _ c.if-id-eq-SINGLE_RESPONSE_MODE_PARAMETERS.false,
      sym c.is_tagged.ensures ∙ c.if-is_tagged.true,
    ) c.is_tag_list.ensures

pub returns : goal.returns
unfolding allowed
returns c =
    rw (
      ne_eqb _ _ c.if-id-eq-ACTION_ID.false,
      ne_eqb _ _ c.if-id-eq-SINGLE_RESPONSE_MODE.false,
      ne_eqb _ _ c.if-id-eq-SINGLE_RESPONSE_MODE_PARAMETERS.false,
      sym c.is_tagged.ensures ∙ c.if-is_tagged.false,
    )
