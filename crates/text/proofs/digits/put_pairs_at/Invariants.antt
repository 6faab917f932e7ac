-- The invariant: the bytes so far are put.
use Rattle.std.proofs.Common.{take}
use Rattle.hexadecimal.specs.Digits.{digits_of}
use Rattle.text.specs.Sheet.{Puts}
use Rattle.text.proofs.digits.put_pairs_at.Given as goal

abbrev pub invariant-loop-b : goal.invariant-loop-b
invariant-loop-b l = Puts l.initial.page l.at (digits_of (take l.b-index l.s)) l.page l.to
