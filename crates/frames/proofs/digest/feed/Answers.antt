-- The invariant, `Going`: what is known so far, with what is still to come, is what is known in the
-- end.
use mathlib.Core.Path.{◌≡◌, ap, ◌∙◌}
use native.Mathlib.Omega.{arith}
use lib.ListN.{length}
use Rattle.frames.specs.Digest.{fed_at}
use Rattle.frames.proofs.Feeding.{at-newline, at-end, next, done, buffer-done}
use Rattle.frames.proofs.digest.feed.Goals as goal

pub returns-then-b-eq10 : goal.returns-then-b-eq10
returns-then-b-eq10 c =
    let stop = at-newline _ _ c.loop-i-test.true c.if-b-eq10.true in
    (done c.loop-i.invariant stop, buffer-done c.loop-i.invariant stop)

pub loop-i-preserved : goal.loop-i-preserved
loop-i-preserved c = simp (c.with_digit-known.ensures, c.keep.ensures, c.value_of-d.ensures) (next c.loop-i.invariant c.loop-i-test.true c.if-b-eq10.false)

pub returns : goal.returns
returns c =
    let stop = at-end _ _ c.loop-i-test.false in
    let all : length c.args.input.now ≡ c.loop-i.i = omega (arith, c.loop-i-test.false, c.loop-i.invariant.within) in
    (ap (fed_at c.loop-i.known) all ∙ done c.loop-i.invariant stop, buffer-done c.loop-i.invariant stop)
