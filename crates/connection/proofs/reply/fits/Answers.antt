-- `connection::reply::fits` meets its contract. Its tests are the definition's, without a sum that could wrap. Assumes nothing.
use Rattle.std.proofs.Common.{◌+◌, arith}
use Rattle.connection.proofs.Replies.{too_large, replaced, whole}
use Rattle.connection.proofs.reply.fits.Goals as goal

pub returns-then-headers-lead : goal.returns-then-headers-lead
returns-then-headers-lead c = too_large c.args.remote (c.args.lead + c.args.headers) (omega arith)

pub returns-then-lead-headers : goal.returns-then-lead-headers
returns-then-lead-headers c =
    let x = c.args in
    replaced x.remote (x.lead + x.headers) (omega arith) (omega arith)

pub returns : goal.returns
returns c =
    let x = c.args in
    whole x.remote (x.lead + x.headers) (omega arith) (omega arith)
