-- By whether it is 2^64.
use mathlib.Core.Path.{◌≡◌, refl, sym, ap, ◌∙◌, subst}
use mathlib.Core.Bool.{Bool, true, false, not, true≢false, false≢true}
use lib.Ieee.{binary64, fits, eq}
use denote.Floats.{passes}
use Rattle.std.specs.Prelude.{Ok, Err}
use Rattle.numbers.specs.declared.NumberRefusal.TheVariants.{OutOfRange}
use Rattle.numbers.specs.Quantizing.{cut_of}
use Rattle.numbers.proofs.Beyond.{edge, edge-signed, edge-last, edge-narrow, other}
use Rattle.numbers.proofs.sizes.Width.too_big.Goals as goal
use Rattle.numbers.proofs.sizes.Width.too_big.Goals.{else-y-via-then-y+then-not-self+else-self-eq64, else-y-via-then-y+else-not-self, else-y-via-else-y}

-- a sign by the test that there is none
none : (s : Bool) → not s ≡ true → s ≡ false
none false e = refl
none true e = absurd (false≢true e)

some : (s : Bool) → not s ≡ false → s ≡ true
some true e = refl
some false e = absurd (true≢false e)

pub returns-then-self-eq64 : goal.returns-then-self-eq64
returns-then-self-eq64 c =
    let n = c.args.self.bits in
    let y = c.args.y in
    subst (λ (s : Bool). Ok 0xffff_ffff_ffff_ffff ≡ cut_of n s y) (sym (none c.args.self.signed c.if-not-self.true))
    (edge-last n c.args.self.within y c.if-self-eq64.true (sym (ap (eq y) edge) ∙ c.if-y.true))

pub returns : goal.returns
returns c =
    let n = c.args.self.bits in
    let y = c.args.y in
    elim c.else-y.branch [
      | else-y-via-then-y+then-not-self+else-self-eq64 w ↦
          subst (λ (s : Bool). Err OutOfRange ≡ cut_of n s y) (sym (none c.args.self.signed w.if-not-self.true))
          (edge-narrow n c.args.self.within y w.if-self-eq64.false (sym (ap (eq y) edge) ∙ w.if-y.true))
      | else-y-via-then-y+else-not-self w ↦
          subst (λ (s : Bool). Err OutOfRange ≡ cut_of n s y) (sym (some c.args.self.signed w.if-not-self.false))
          (edge-signed n c.args.self.within y (sym (ap (eq y) edge) ∙ w.if-y.true))
      | else-y-via-else-y w ↦
          other n c.args.self.signed y c.args.self.within (passes (fits binary64 y) c.well_formed.1.0.1) c.requires (sym (ap (eq y) edge) ∙ w.if-y.false)
    ]
