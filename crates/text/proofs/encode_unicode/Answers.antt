-- `text::encode_unicode` meets its contract, as `recode` from UTF-8 to UTF-16. Assumes nothing.
use Rattle.text.proofs.TextSizes.{is_encoded}
use Rattle.text.proofs.encode_unicode.Goals as goal

pub returns : goal.returns
returns c =
    rw (← is_encoded c.args.text.now) c.recode.ensures
