-- The invariant, `Going`: what is known so far, with what is still to come, is what is known in the
-- end.
use Rattle.frames.proofs.Feeding.{Going}
use Rattle.frames.proofs.digest.feed.Given as goal

abbrev pub invariant-loop-i : goal.invariant-loop-i
invariant-loop-i l = Going l.initial.known l.initial.buffer l.input l.known l.buffer l.i
