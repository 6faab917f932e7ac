-- The words of a number that is neither signed nor scaled are those of its field. Assumes nothing.
use mathlib.Core.Path.{◌≡◌, sym, ap, ap₂, ◌∙◌}
use mathlib.Core.Logic.{◌⊎◌, inl, inr}
use mathlib.Core.Bool.{Bool, false}
use Prim.Native.Nat.{ℕ, ◌%◌, ◌^◌, ◌≤◌, ◌<◌, min}
use native.Mathlib.Nat.{mod-eq_of_lt}
use native.Mathlib.Omega.{arith}
use Rattle.descriptor.specs.declared.FieldKind.{FieldKind}
use Rattle.descriptor.specs.declared.FieldKind.TheVariants.{Number, Lookup}
use Rattle.descriptor.specs.declared.FieldDescriptor.{FieldDescriptor}
use Rattle.descriptor.specs.declared.Resolution.{Resolution}
use Rattle.descriptor.specs.declared.Resolution.TheVariants.{Unscaled}
use Rattle.numbers.specs.declared.ScaleRule.{ScaleRule}
use Rattle.numbers.specs.declared.ScaleRule.TheVariants.{Plain}
use Rattle.numbers.specs.declared.NumberWords.{NumberWords}
use Rattle.numbers.specs.Scaling.{rule_of_lem, scaled_of, unsigned_of}
use Rattle.numbers.specs.Special.{by_rule, raw_availability_of}
use Rattle.numbers.specs.Words.{silence_of_lem, words_of, number_words_of, simple_words_of}

-- the m low bits of a raw, by all that the words go by
abbrev by : ScaleRule → Resolution → Bool → ℕ → ℕ → NumberWords
by q r signed m x = words_of (scaled_of q r m signed x) (silence_of_lem (by_rule q m signed x))

plain : (k : FieldKind) → (k ≡ Number) ⊎ (k ≡ Lookup) → rule_of_lem k ≡ Plain
plain k (inl e) = ap rule_of_lem e
plain k (inr e) = ap rule_of_lem e

pub simple-words : (f : FieldDescriptor) (n raw : ℕ) → (f.kind ≡ Number) ⊎ (f.kind ≡ Lookup) → f.resolution ≡ Unscaled → f.signed ≡ false → f.width ≡ n → n ≤ 64 → raw < 2 ^ n
    → simple_words_of n raw ≡ number_words_of f raw
simple-words f n raw k r s w l h =
    let m : min f.width 64 ≡ n = omega (arith, w, l) in
    let j : min n 64 ≡ n = omega (arith, l) in
    let e : raw % 2 ^ n ≡ raw = mod-eq_of_lt h in
    ap (λ (b : ℕ). words_of (unsigned_of n raw) (silence_of_lem (raw_availability_of b false raw))) j
    ∙ sym
    (ap₂ (λ (a : ScaleRule) (b : Resolution). by a b f.signed (min f.width 64) (raw % 2 ^ min f.width 64)) (plain f.kind k) r
    ∙ ap₂ (λ (c : Bool) (j : ℕ). by Plain Unscaled c j (raw % 2 ^ j)) s m
    ∙ ap (by Plain Unscaled false n) e)
