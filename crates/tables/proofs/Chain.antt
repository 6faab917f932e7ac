-- The rules one after the other: where each is kept nothing is refused, and rule a comes first. Assumes nothing.
use mathlib.Core.Path.{◌≡◌, ap}
use mathlib.Core.Bool.{true, false}
use Prim.Native.Nat.{ℕ, ◌<◌}
use native.Mathlib.Omega.{arith}
use Rattle.std.specs.Prelude.{Option, None, Ok, Err}
use Rattle.tables.specs.declared.TableRule.{TableRule}
use Rattle.tables.specs.declared.TableRule.TheVariants.{A, B, C, D, E, F, G, H}
use Rattle.tables.specs.Table.{Table}
use Rattle.tables.specs.Check.{keeps, found_from, settle, from_b, check_of, sizes_fit_lem, KeptField, KeptSet}
use Rattle.tables.proofs.Searches.{none_found, found_here}

module _ (t : Table) where
  all-kept : (rule : TableRule) (n : ℕ) → ((j : ℕ) → j < n → keeps rule t j ≡ true) → found_from rule t 0 n ≡ None
  all-kept rule n h = none_found rule t 0 n (λ j l. h j (omega arith))

  -- where each field and each set keeps its rules, none of b to h is broken
  pub clean : ((i : ℕ) → i < t.count → KeptField t i) → ((k : ℕ) → k < t.sets → KeptSet t k) → from_b t ≡ Ok tt
  clean f s =
      let b = all-kept B t.count (λ j l. (f j l).b) in
      let c = all-kept C t.count (λ j l. (f j l).c) in
      let d = all-kept D t.count (λ j l. (f j l).d) in
      let e = all-kept E t.count (λ j l. (f j l).e) in
      let p = all-kept F t.count (λ j l. (f j l).f) in
      let g = all-kept G t.sets (λ j l. (s j l).g) in
      let h = all-kept H t.sets (λ j l. (s j l).h) in
      λ i. settle B (b i) (settle C (c i) (settle D (d i) (settle E (e i) (settle F (p i) (settle G (g i) (settle H (h i) (Ok tt)))))))

  pub sizes-kept : sizes_fit_lem t ≡ true → check_of t ≡ from_b t
  sizes-kept h = ap (λ (x : Option ℕ). settle A x (from_b t)) (all-kept A 1 (λ j l. h))

  pub sizes-broken : sizes_fit_lem t ≡ false → check_of t ≡ Err (record { rule = A; index = 0 })
  sizes-broken h = ap (λ (x : Option ℕ). settle A x (from_b t)) (found_here A t 0 1 (omega arith) h)
