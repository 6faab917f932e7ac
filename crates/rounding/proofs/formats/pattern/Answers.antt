-- Each way out is one of the definition's four ranges.
use mathlib.Core.Path.{◌≡◌, sym, ap, ◌∙◌}
use Prim.Native.Nat.{ℕ, ◌+◌, ◌-◌, ◌*◌, ◌^◌}
use Rattle.rounding.specs.Narrowing.{pattern_of}
use Rattle.rounding.proofs.FewerDigits.{is-tiny, is_subnormal, is_normal, is-huge}
use Rattle.rounding.proofs.formats.pattern.Goals as goal

pub returns-then-e-lt-HALF_LEAST : goal.returns-then-e-lt-HALF_LEAST
returns-then-e-lt-HALF_LEAST c = sym (is-tiny c.args.e c.args.t c.if-e-lt-HALF_LEAST.true)

pub returns-then-e-lt-LEAST_NORMAL : goal.returns-then-e-lt-LEAST_NORMAL
returns-then-e-lt-LEAST_NORMAL c = c.closest_by.ensures ∙ sym (is_subnormal c.args.e c.args.t c.if-e-lt-HALF_LEAST.false c.if-e-lt-LEAST_NORMAL.true)

pub returns-then-e-lt-PAST_LARGEST : goal.returns-then-e-lt-PAST_LARGEST
returns-then-e-lt-PAST_LARGEST c =
    let made-normal : (c.args.e - 897) * 2 ^ 23 + c.closest_by-then-e-lt-PAST_LARGEST.result ≡ pattern_of c.args.e c.args.t =
    ap (λ (q : ℕ). (c.args.e - 897) * 2 ^ 23 + q) c.closest_by-then-e-lt-PAST_LARGEST.ensures ∙ sym (is_normal c.args.e c.args.t c.if-e-lt-LEAST_NORMAL.false c.if-e-lt-PAST_LARGEST.true) in
    made-normal

pub returns : goal.returns
returns c = sym (is-huge c.args.e c.args.t c.if-e-lt-PAST_LARGEST.false)
