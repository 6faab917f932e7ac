-- All fields from `from` on are later fields of sets.
use Rattle.std.proofs.Common.{arith}
use Rattle.records.proofs.stretches.past_inside.Goals as goal

pub returns : goal.returns
returns c = record { reach = omega arith; all = λ j a b. c.loop-i.invariant.all j a (omega arith) }
