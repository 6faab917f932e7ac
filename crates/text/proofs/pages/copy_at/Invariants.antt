-- The invariant: the first i bytes are put.
use Rattle.std.proofs.Common.{◌≡◌, ◌+◌, length, take}
use Rattle.text.specs.Sheet.{Puts}
use Rattle.text.proofs.pages.copy_at.Given as goal

abbrev pub invariant-loop-i : goal.invariant-loop-i
invariant-loop-i l = (length l.page ≡ length l.initial.page) × Puts l.initial.page l.at (take l.i l.text) l.page (l.at + l.i)
