-- The invariant: the digits passed spell v, and the others go on from there.
use mathlib.Core.Path.{◌≡◌, sym, ap, ◌∙◌}
use Prim.Native.Nat.{ℕ, ◌+◌, ◌*◌, ◌≤◌, ◌<◌}
use native.Mathlib.Omega.{arith}
use lib.ListN.{drop, get_or}
use Rattle.hexadecimal.specs.Digits.{value_of}
use Rattle.columns.specs.Numbers.{number, spelled_in}
use Rattle.columns.proofs.Spelling.{largest, below_end, below_more, below-not, spelled-end, spelled-more, grows, empty, too_long, no-digits, too_large, a-number, fits, wraps}
use Rattle.columns.proofs.figures.number_in.Goals as goal

pub returns-then-s-eq0 : goal.returns-then-s-eq0
returns-then-s-eq0 c = empty _ _ _ c.if-s-eq0.true

pub returns-then-most-s : goal.returns-then-most-s
returns-then-most-s c = too_long _ _ _ c.if-most-s.true

pub returns-then-base-d : goal.returns-then-base-d
returns-then-base-d c =
    let far : c.args.base ≤ value_of (get_or c.args.s.now c.loop-b.b-index 0) = omega (arith, c.if-base-d.true, c.from-d.ensures) in
    no-digits c.args.base c.args.most c.args.s.now (c.loop-b.invariant.1.0 ∙ below-not c.args.base c.args.s.now c.loop-b.b-index c.loop-b-test.true far)

pub returns-then-d-base : goal.returns-then-d-base
returns-then-d-base c =
    let b = value_of (get_or c.args.s.now c.loop-b.b-index 0) in
    let e : c.from-d.result ≡ b = c.from-d.ensures ∙ c.value_of.ensures in
    let far = wraps c.args.base c.loop-b.v c.from-d.result largest c.requires (omega arith) c.if-d-base.true in
    let on = c.loop-b.invariant.1.1 ∙ spelled-more c.args.base c.args.s.now c.loop-b.b-index c.loop-b.v c.loop-b-test.true in
    let g = grows c.args.base (c.loop-b.v * c.args.base + b) (drop (c.loop-b.b-index + 1) c.args.s.now) c.requires in
    too_large c.args.base c.args.most c.args.s.now (omega (arith, far, on, g, e))

pub loop-b-preserved : goal.loop-b-preserved
loop-b-preserved c =
    let one_more : (c.loop-b.v * c.args.base + c.from-d.result ≤ largest) =
    fits c.args.base c.loop-b.v c.from-d.result largest c.requires (omega arith) c.if-d-base.false in
    let e : c.from-d.result ≡ value_of (get_or c.args.s.now c.loop-b.b-index 0) = c.from-d.ensures ∙ c.value_of.ensures in
    let near : value_of (get_or c.args.s.now c.loop-b.b-index 0) < c.args.base = omega (arith, c.if-base-d.false, e) in (
      omega (arith, one_more),
      (
        c.loop-b.invariant.1.0 ∙ below_more c.args.base c.args.s.now c.loop-b.b-index c.loop-b-test.true near,
        c.loop-b.invariant.1.1 ∙ spelled-more c.args.base c.args.s.now c.loop-b.b-index c.loop-b.v c.loop-b-test.true ∙ ap (λ (x : ℕ). spelled_in c.args.base (c.loop-b.v * c.args.base + x) (drop (c.loop-b.b-index + 1) c.args.s.now)) (sym e),
      ),
    )

pub returns : goal.returns
returns c =
    let e = c.loop-b.invariant.1.1 ∙ spelled-end c.args.base c.args.s.now c.loop-b.b-index c.loop-b.v c.loop-b-test.false in
    ap number (sym e)
    ∙ sym (a-number c.args.base c.args.most c.args.s.now (omega arith) (omega arith) (c.loop-b.invariant.1.0 ∙ below_end c.args.base c.args.s.now c.loop-b.b-index c.loop-b-test.false) (omega (arith, e)))
