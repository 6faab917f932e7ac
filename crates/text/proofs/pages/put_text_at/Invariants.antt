-- The invariant: the bytes so far are put.
use Rattle.std.proofs.Common.{take}
use Rattle.text.specs.Sheet.{Puts}
use Rattle.text.proofs.pages.put_text_at.Given as goal

abbrev pub invariant-loop-b : goal.invariant-loop-b
invariant-loop-b l = Puts l.initial.page l.at (take l.b-index l.text) l.page l.to
