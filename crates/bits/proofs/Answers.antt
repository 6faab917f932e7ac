-- What an accepted answer says: the number of a read is below 2 ^ n. Assumes nothing.
use mathlib.Core.Path.{◌≡◌, refl, subst}
use mathlib.Core.List.{List}
use Prim.Native.Nat.{ℕ, ◌^◌, ◌≤◌, ◌<◌}
use native.Mathlib.Nat.{lt_of_lt_of_le}
use lib.ListN.{length}
use lib.Pow.{pow_mono}
use Rattle.std.specs.Prelude.{⊤, Result, Ok, Err}
use Rattle.bits.specs.Bits.{bits_at}
use Rattle.bits.specs.declared.BitRefusal.{BitRefusal}
use Rattle.bits.specs.declared.Cursor.{Cursor}
use Rattle.bits.specs.declared.Read.{Read}
use Rattle.bits.specs.Calls.{room_of, read_in, read_of, place}
use Rattle.bits.proofs.Rooms.{fitting}
use Rattle.bits.proofs.Turns.{bits-lt}

module _ (s : List ℕ) (c : Cursor) (n max : ℕ) (a : Read ℕ) where
  below_in : (r : Result ⊤ BitRefusal) → room_of (length s) (place c) n max ≡ r → read_in r s c n ≡ Ok a → (a.value < 2 ^ n) × (n ≤ max)
  below_in (Ok u) e h =
      let w : bits_at s (place c) n ≡ a.value = cc in
      (subst (λ (x : ℕ). x < 2 ^ n) w (bits-lt s (place c) n), (fitting (length s) (place c) n max e).narrow)
  below_in (Err x) e h = cc

  -- the number that is read is below 2 ^ n ..
  pub read_below : read_of s c n max ≡ Ok a → a.value < 2 ^ n
  read_below h = (below_in (room_of (length s) (place c) n max) refl h).0

  -- .. so it fits the type of the call
  pub read_fits : read_of s c n max ≡ Ok a → a.value < 2 ^ max
  read_fits h =
      let b = below_in (room_of (length s) (place c) n max) refl h in
      lt_of_lt_of_le b.0 (pow_mono b.1)
