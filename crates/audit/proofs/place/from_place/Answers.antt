-- `audit::place::from_place` meets its contract: the part from a place on is the definition's, and nothing is behind the end. Assumes nothing.
use Rattle.std.proofs.Common.{◌-◌, length, drop, sym, arith, length-drop, drop_of_length-le, take_all}
use Rattle.audit.proofs.place.from_place.Goals as goal

pub returns-then-from-s : goal.returns-then-from-s
returns-then-from-s c =
    take_all (length c.args.s.now - c.args.from) (drop c.args.from
    c.args.s.now) (omega (arith, length-drop c.args.from c.args.s.now))

pub returns : goal.returns
returns c = sym (drop_of_length-le c.args.s.now {i = c.args.from} (omega arith))
