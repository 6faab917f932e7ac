-- "With it a mark, single or double": in an accepted table no field has a resolution without a mark, or a mark that is neither. Assumes nothing.
use mathlib.Core.Path.{◌≡◌, refl, sym, ◌∙◌}
use mathlib.Core.Bool.{Bool, true, false, ◌&&◌, false≢true}
use mathlib.Core.List.{List}
use Prim.Native.Nat.{ℕ, zero, suc, ◌+◌, ◌<◌}
use native.Mathlib.Nat.{mod-lt}
use native.Mathlib.Omega.{arith}
use lib.Dec.{eqb, lit<}
use lib.Ieee.{le}
use lib.ListN.{get_or}
use borrow.Author.Tests.{eqb-true}
use Rattle.std.specs.Prelude.{Ok}
use Rattle.bits.specs.Bits.{pick}
use Rattle.descriptor.specs.Kinds.{broken, resolution_of_lem}
use Rattle.descriptor.specs.declared.Resolution.TheVariants.{Unscaled}
use Rattle.tables.specs.declared.KindClass.{KindClass}
use Rattle.tables.specs.declared.TableRule.TheVariants.{D}
use Rattle.tables.specs.Table.{part, count_of, table_of}
use Rattle.tables.specs.Rules.{class_of_lem, scales, resolution_fits_lem}
use Rattle.tables.specs.Check.{check_of}
use Rattle.tables.proofs.Accepted.{kept}

-- what a field's word says of its resolution: there is none, or it is marked single or double
pub data Marked (w : ℕ) : Type 0 where
  none : part w 25 2 ≡ 0 → part w 32 32 ≡ 0 → Marked w
  single : part w 25 2 ≡ 1 → Marked w
  double : part w 25 2 ≡ 2 → Marked w

-- a resolution that lacks its mark fits no kind
never : (x : Bool) → x && false ≡ false
never true = refl
never false = refl

unfit : (c : KindClass) → resolution_fits_lem c broken ≡ true → ⊥
unfolding le
unfit c h = false≢true (sym (never (scales c)) ∙ h)

unmarked : (c : KindClass) (b : ℕ) (x : Bool) → eqb b 0 ≡ x → resolution_fits_lem c (pick x Unscaled broken) ≡ true → b ≡ 0
unmarked c b true e h = eqb-true b 0 e
unmarked c b false e h = absurd (unfit c h)

by-mark : (w : ℕ) (c : KindClass) (m : ℕ) → m < 4 → part w 25 2 ≡ m → resolution_fits_lem c (resolution_of_lem m (part w 32 32)) ≡ true → Marked w
by-mark w c zero l e h = none e (unmarked c (part w 32 32) _ refl h)
by-mark w c (suc zero) l e h = single e
by-mark w c (suc (suc zero)) l e h = double e
by-mark w c (suc (suc (suc zero))) l e h = absurd (unfit c h)
by-mark w c (suc (suc (suc (suc m)))) l e h = absurd (omega (arith, l))

pub marked : (words : List ℕ) → check_of (table_of words) ≡ Ok tt → (i : ℕ) → i < count_of words → Marked (get_or words (1 + i) 0)
marked words ok i l =
    let w = get_or words (1 + i) 0 in
    by-mark w (class_of_lem ((table_of words).field i).kind) (part w 25 2) (mod-lt _ (lit< {m = 0} {n = 4} tt)) refl (kept (table_of words) ok D i l)
