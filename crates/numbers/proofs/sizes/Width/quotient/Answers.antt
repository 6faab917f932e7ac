-- By whether it is finite.
use mathlib.Core.Path.{sym, ap, ◌∙◌}
use lib.Ieee.{Float, binary64, div}
use Rattle.numbers.specs.Quantizing.{cut_of, rounded_of}
use Rattle.numbers.proofs.Limits.{rounded-finite, rounded-infinite}
use Rattle.numbers.proofs.sizes.Width.quotient.Goals as goal

pub returns-then-is_finite : goal.returns-then-is_finite
returns-then-is_finite c =
    let n = c.args.self.bits in
    let s = c.args.self.signed in
    c.cut.ensures ∙ ap (cut_of n s) c.half_away.ensures
    ∙ rounded-finite n s (div binary64 c.args.value c.widen.result) (sym c.is_finite.ensures.value ∙ c.if-is_finite.true)
    ∙ ap (λ (r : Float). rounded_of n s (div binary64 c.args.value r)) c.widen.ensures

pub returns : goal.returns
returns c =
    let n = c.args.self.bits in
    let s = c.args.self.signed in
    rounded-infinite n s (div binary64 c.args.value c.widen.result) (sym c.is_finite.ensures.value ∙ c.if-is_finite.false)
    ∙ ap (λ (r : Float). rounded_of n s (div binary64 c.args.value r)) c.widen.ensures
