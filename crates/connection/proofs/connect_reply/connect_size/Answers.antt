-- `connection::connect_reply::connect_size` meets its contract. It is the sum of the pieces, each of which is small. Assumes nothing.
use Rattle.std.proofs.Common.{arith}
use Rattle.connection.proofs.Putting.{id_at_most, who_at_most, answer_at_most, grant_at_most}
use Rattle.connection.proofs.connect_reply.connect_size.Goals as goal

pub overflow_add-result : goal.overflow_add-result
overflow_add-result c = omega (arith, id_at_most c.args.front, c.id_size.ensures, c.requires.0)

pub overflow_add-result-2 : goal.overflow_add-result-2
overflow_add-result-2 c =
    let x = c in
    omega (arith, id_at_most c.args.front, c.id_size.ensures, c.requires.0, who_at_most c.args.who c.requires.1, c.who_size.ensures)

pub overflow_add-result-3 : goal.overflow_add-result-3
overflow_add-result-3 c =
    let x = c in
    omega (
      arith,
      id_at_most c.args.front,
      c.id_size.ensures,
      c.requires.0,
      who_at_most c.args.who c.requires.1,
      c.who_size.ensures,
      answer_at_most c.args.nonce c.args.has_user c.args.user c.requires.2,
      c.answer_size.ensures,
    )

pub overflow_add-result-4 : goal.overflow_add-result-4
overflow_add-result-4 c =
    let x = c in
    omega (
      arith,
      id_at_most c.args.front,
      c.id_size.ensures,
      c.requires.0,
      who_at_most c.args.who c.requires.1,
      c.who_size.ensures,
      answer_at_most c.args.nonce c.args.has_user c.args.user c.requires.2,
      c.answer_size.ensures,
      grant_at_most c.args.srm,
      c.grant_size.ensures,
    )
