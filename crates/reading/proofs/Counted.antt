-- Counters, one set more. Assumes nothing.
use mathlib.Core.Path.{◌≡◌, refl, sym, ap, ◌∙◌}
use mathlib.Core.Bool.{Bool, true, false}
use mathlib.Core.List.{List}
use Prim.Native.Nat.{ℕ, ◌+◌}
use native.Mathlib.Numerals.{add-one}
use lib.Dec.{eqb}
use lib.ListN.{set}
use Rattle.bits.specs.Bits.{pick}
use Rattle.tables.specs.Table.{Table}
use Rattle.reading.specs.Groups.{noted_to}

module _ (t : Table) (i r : ℕ) (cs : List ℕ) where
  more : (k : ℕ) → noted_to t i r cs (k + 1) ≡ pick (eqb (t.set k).counter i) (set (noted_to t i r cs k) k r) (noted_to t i r cs k)
  unfolding noted_to
  more k = ap (noted_to t i r cs) (add-one k)

  pub noted_here : (k : ℕ) → eqb (t.set k).counter i ≡ true → set (noted_to t i r cs k) k r ≡ noted_to t i r cs (k + 1)
  noted_here k h = sym (more k ∙ ap (λ (b : Bool). pick b (set (noted_to t i r cs k) k r) (noted_to t i r cs k)) h)

  pub noted-past : (k : ℕ) → eqb (t.set k).counter i ≡ false → noted_to t i r cs k ≡ noted_to t i r cs (k + 1)
  noted-past k h = sym (more k ∙ ap (λ (b : Bool). pick b (set (noted_to t i r cs k) k r) (noted_to t i r cs k)) h)

  pub noted-none : cs ≡ noted_to t i r cs 0
  unfolding noted_to
  noted-none = refl
