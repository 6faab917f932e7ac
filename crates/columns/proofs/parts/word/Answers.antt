-- The invariant: the part at place i is that at place i - k of what is left.
use mathlib.Core.Path.{◌≡◌, sym, ap, ◌∙◌}
use mathlib.Core.List.{List, []}
use Prim.Native.Nat.{ℕ, suc, ◌+◌, ◌-◌, ◌≤◌, ◌<◌}
use native.Mathlib.Omega.{arith}
use lib.ListN.{length, take, drop, get_or, drop_of_length-le}
use lib.Seq.{take-nil}
use Rattle.columns.specs.Parts.{space, parts_of}
use Rattle.columns.proofs.Cuts.{place-first, place-last, place-more}
use Rattle.columns.proofs.parts.word.Goals as goal

-- another name for the place
later : (ps : List (List ℕ)) {x : List ℕ} {n m : ℕ} → n ≡ m → x ≡ get_or ps n [] → x ≡ get_or ps m []
later ps e h = h ∙ ap (λ (k : ℕ). get_or ps k []) e

pub returns-then-end-s : goal.returns-then-end-s
returns-then-end-s c =
    let e : c.args.i - c.loop-k._k ≡ suc (c.args.i - (c.loop-k._k + 1)) = omega (arith, c.loop-k-test.true) in
    let past : length c.args.s.now ≤ c.field_end-end.result = omega (arith, c.if-end-s.true) in
    ap (take (length c.args.s.now - c.field_end-end.result)) (drop_of_length-le c.args.s.now past) ∙ take-nil (length c.args.s.now - c.field_end-end.result)
    ∙ sym (later (parts_of space (drop c.loop-k.from c.args.s.now)) e c.loop-k.invariant.1 ∙ place-last space c.args.s.now c.loop-k.from c.field_end-end.result c.loop-k.invariant.0 c.field_end-end.ensures.value _ c.if-end-s.true)

pub loop-k-preserved : goal.loop-k-preserved
loop-k-preserved c =
    let e : c.args.i - c.loop-k._k ≡ suc (c.args.i - (c.loop-k._k + 1)) = omega (arith, c.loop-k-test.true) in
    let far : c.field_end-end.result < length c.args.s.now = omega (arith, c.if-end-s.false, c.field_end-end.ensures.upper_bound) in
    (omega arith, later (parts_of space (drop c.loop-k.from c.args.s.now)) e c.loop-k.invariant.1 ∙ place-more space c.args.s.now c.loop-k.from c.field_end-end.result c.loop-k.invariant.0 c.field_end-end.ensures.value _ far)

pub returns : goal.returns
returns c =
    let e : c.args.i - c.loop-k._k ≡ 0 = omega (arith, c.loop-k-test.false) in
    c.part.ensures
    ∙ sym (later (parts_of space (drop c.loop-k.from c.args.s.now)) e c.loop-k.invariant.1 ∙ place-first space c.args.s.now c.loop-k.from c.field_end-end-2.result c.loop-k.invariant.0 c.field_end-end-2.ensures.value c.field_end-end-2.ensures.upper_bound)
