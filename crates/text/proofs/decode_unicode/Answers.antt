-- `text::decode_unicode` meets its contract, as `recode` from UTF-16 to UTF-8. Assumes nothing.
use Rattle.text.proofs.TextSizes.{is_unicode}
use Rattle.text.proofs.decode_unicode.Goals as goal

pub returns : goal.returns
returns c =
    rw (← is_unicode c.args.payload.now) c.recode.ensures
