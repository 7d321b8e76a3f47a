-- `connection::reply::begin_connect` meets its contract. It goes by what the length leads to, and each case has its prefix. Assumes nothing.
use Rattle.std.proofs.Common.{◌+◌, ◌≤◌, sym, ◌∙◌, arith, rules}
use Rattle.connection.proofs.Replies.{whole-bound}
use Rattle.connection.proofs.reply.begin_connect.Statement.{statement}
use Rattle.connection.proofs.reply.begin_connect.Tie as tie

fits-requires : tie.Need-fits-requires
fits-requires c κs = search rules

enum_told : tie.Need-enum_told-1
enum_told c = search rules

enum-told-2 : tie.Need-enum_told-in-Replaced
enum-told-2 c = search rules

to-byte-requires : tie.Need-to_byte-requires
to-byte-requires c κs = search rules

put-connect-prefix-requires : tie.Need-put_connect_prefix-requires
put-connect-prefix-requires c κs = search rules

enum-told-3 : tie.Need-enum_told-in-Whole
enum-told-3 c = search rules

to-byte-requires-2 : tie.Need-to_byte-requires-in-Whole
to-byte-requires-2 c κs = search rules

-- a whole reply fits
bound : (c : tie.In-Whole) → 7 + c.args.size ≤ 65535
bound c =
    let f = c.before in
    let x = f.args in
    whole-bound x.remote (7 + x.size) (sym c.in-Whole.is ∙ f.fits.ensures)

add-put-connect-prefix : tie.Need-overflow_add-size
add-put-connect-prefix c = omega (arith, bound c.before.before)

put-connect-prefix-requires-2 : tie.Need-put_connect_prefix-requires-in-Whole
put-connect-prefix-requires-2 c κs =
    let k = c.before.before in
    (omega (arith, bound k), k.requires)

add-t18 : tie.Need-overflow_add-result
add-t18 c = omega (arith, bound c.before.before.before.before.before)

returns : tie.Need-returns-in-TooLarge
returns c = rw (← c.fits.ensures, c.in-TooLarge.is)

same_length : tie.Need-shape_of-reply-in-Replaced
same_length c = search rules

returns-2 : tie.Need-returns-in-Replaced
returns-2 c =
    let p = c.before.before in
    let k = p.before.before.before in
    rw (← k.fits.ensures, k.in-Replaced.is, p.put_connect_prefix.ensures, p.to_byte.ensures)

same-length-2 : tie.Need-shape_of-reply-in-Whole
same-length-2 c = search rules

returns-3 : tie.Need-returns-in-Whole
returns-3 c =
    let p = c.before.before in
    let k = p.before.before.before in
    rw (← k.fits.ensures, k.in-Whole.is, p.put_connect_prefix-in-Whole.ensures, p.to_byte-in-Whole.ensures)

pub begin_connect_spec : {M : Type 1} → statement M
begin_connect_spec =
    tie.close
    (tie.spec
    fits-requires
    enum_told
    enum-told-2
    to-byte-requires
    put-connect-prefix-requires
    enum-told-3
    to-byte-requires-2
    add-put-connect-prefix
    put-connect-prefix-requires-2
    add-t18
    returns
    same_length
    returns-2
    same-length-2
    returns-3)
