-- The invariant, `Going`: what is held so far, with what is still to come, is what is held in the end.
use Rattle.lines.proofs.Feeding.{Going}
use Rattle.lines.proofs.holding.feed.Given as goal

abbrev pub invariant-loop-i : goal.invariant-loop-i
invariant-loop-i l = Going l.initial.known l.initial.line l.input l.known l.line l.i
