-- What is left of the call comes to the call.
use mathlib.Core.Path.{◌≡◌, sym, ap, ◌∙◌}
use mathlib.Core.List.{List}
use mathlib.Core.Bool.{Bool}
use Prim.Native.Nat.{ℕ}
use native.Mathlib.Omega.{arith}
use borrow.Author.Rules.{rules}
use Rattle.lines.specs.Machine.{passed, feds}
use Rattle.lines.proofs.Chunk.{few, chunk-done, line-waits, line-answered, at-end}
use Rattle.frames.specs.declared.Line.{Line}
use Rattle.frames.specs.declared.Fed.{Fed}
use Rattle.frames.specs.Digest.{fed_to, buffer_after}
use Rattle.printing.specs.declared.Passed as own
use Rattle.printing.specs.Answers.{kept, samopute}
use Rattle.printing.specs.Clauses.{passed_at}
use Rattle.printing.proofs.Taking.{kept-fed}
use Rattle.printing.proofs.passing.pass_lines.Goals as goal

-- what `passed` answered, in the parts of a call's answer
is : (r : own.Passed) (l : Line) (buffer page : List ℕ) (w : Bool) (n to : ℕ) → r ≡ passed_at l w n to
    → passed (kept r.line buffer) r.waits r.taken page r.to ≡ passed (kept l buffer) w n page to
is r l buffer page w n to e = ap (λ (x : own.Passed). passed (kept x.line buffer) x.waits x.taken page x.to) e

-- what `feed` answered is kept
keeps : (l : Line) (buffer bs : List ℕ) (fed : Fed) (after : List ℕ) → (fed ≡ fed_to l bs) × (after ≡ buffer_after l buffer bs) → kept fed.line after ≡ feds samopute (kept l buffer) bs
keeps l buffer bs fed after e = ap (λ (f : Fed). kept f.line after) e.0 ∙ ap (λ (x : List ℕ). kept (fed_to l bs).line x) e.1 ∙ sym (kept-fed l buffer bs)

pub overflow_add-end : goal.overflow_add-end
overflow_add-end c =
    let k = keeps _ _ _ _ _ c.feed-fed.ensures in
    omega (arith, few samopute c.args.input.now _ _ _ _ (ap (λ (f : Fed). f.taken) c.feed-fed.ensures.0) k c.loop-from.invariant.0.1.1, c.well_formed)

pub returns-then-input-end : goal.returns-then-input-end
returns-then-input-end c =
    let k = keeps _ _ _ _ _ c.feed-fed.ensures in
    is c.passed.result _ _ _ _ _ _ c.passed.ensures
    ∙ chunk-done samopute c.args.input.now _ _ _ _ (ap (λ (f : Fed). f.taken) c.feed-fed.ensures.0) k _ _ _ c.loop-from.invariant.1 c.loop-from.invariant.0.1.1 c.if-input-end.true

pub returns-then-out-next : goal.returns-then-out-next
returns-then-out-next c =
    let k = keeps _ _ _ _ _ c.feed-fed.ensures in
    is c.passed-then-out-next.result _ _ _ _ _ _ c.passed-then-out-next.ensures
    ∙ line-waits samopute c.args.input.now _ _ _ _ (ap (λ (f : Fed). f.taken) c.feed-fed.ensures.0) k _ _ _ c.loop-from.invariant.1 (omega (arith, c.if-input-end.false)) _ _ c.put_answer-next.ensures (omega (arith, c.if-out-next.true))

pub loop-from-preserved : goal.loop-from-preserved
loop-from-preserved c =
    let k = keeps _ _ _ _ _ c.feed-fed.ensures in
    let way = line-answered samopute c.args.input.now _ _ _ _ (ap (λ (f : Fed). f.taken) c.feed-fed.ensures.0) k _ _ _ c.loop-from.invariant.1 (omega (arith, c.if-input-end.false)) _ _ c.put_answer-next.ensures (omega (arith, c.if-out-next.false)) in
    ((search rules, (search rules, omega (arith, c.if-input-end.false))), rw c.empty_line-known.ensures way)

pub returns : goal.returns
returns c =
    is c.passed-2.result _ _ _ _ _ _ c.passed-2.ensures
    ∙ at-end samopute c.args.input.now _ _ _ _ _ c.loop-from.invariant.1 (omega (arith, c.loop-from-test.false, c.loop-from.invariant.0.1.1))
