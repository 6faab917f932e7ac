-- The laws that callers cite, over any width and place; the definitions' text is opened here and nowhere above.
-- A read: below 2 ^ n (`read_below`, `bits-lt`), of its own bits and the length alone (`read-local`).
-- A write: read back (`read-write`), apart from it all stays (`read-apart`), the length too.
-- Slices have theirs in `Slices`. Assumes nothing.
use mathlib.Core.Path.{◌≡◌, refl, ap, ◌∙◌}
use mathlib.Core.Logic.{◌⊎◌, ⊎_elim}
use mathlib.Core.List.{List}
use Prim.Native.Nat.{ℕ, ◌+◌, ◌*◌, ◌%◌, ◌^◌, ◌≤◌, ◌<◌}
use native.Mathlib.Omega.{arith}
use lib.ListN.{length, get_or}
use Rattle.std.specs.Prelude.{⊤, Result, Ok, Err}
use Rattle.bits.specs.Bits.{bit_at, bits_at, written}
use Rattle.bits.specs.declared.BitRefusal.{BitRefusal}
use Rattle.bits.specs.declared.Cursor.{Cursor}
use Rattle.bits.specs.Calls.{place, moved_by, room_of, read_in, read_of, written_in, written_of}
use Rattle.bits.proofs.Sums.{sum-ext}
use Rattle.bits.proofs.Rooms.{Fitting, fitting, room_fits}
use Rattle.bits.proofs.Written.{length_from, read_back, apart-before, apart-after}
use Rattle.bits.proofs.Words.{byte}

-- Reads.

-- a run is the same in two buffers that have the same bits there
pub run-local : (s t : List ℕ) (at n : ℕ) → ((k : ℕ) → k < n → bit_at s (at + k) ≡ bit_at t (at + k)) → bits_at s at n ≡ bits_at t at n
run-local s t at n h = sum-ext _ _ n h

local-in : (s t : List ℕ) (c : Cursor) (n : ℕ) (r : Result ⊤ BitRefusal) → ((k : ℕ) → k < n → bit_at s (place c + k) ≡ bit_at t (place c + k)) → read_in r s c n ≡ read_in r t c n
local-in s t c n (Ok u) h = ap (λ (v : ℕ). Ok (record { value = v; next = moved_by c n })) (run-local s t (place c) n h)
local-in s t c n (Err e) h = refl

-- a read depends on its own bits and the length alone, refusals too
pub read-local : (s t : List ℕ) (c : Cursor) (n max : ℕ) → length s ≡ length t → ((k : ℕ) → k < n → bit_at s (place c + k) ≡ bit_at t (place c + k)) → read_of s c n max ≡ read_of t c n max
read-local s t c n max e h =
    ap (λ (m : ℕ). read_in (room_of m (place c) n max) s c n) e ∙ local-in s t c n (room_of (length t) (place c) n max) h

-- bytes are 8-bit reads
pub byte-read : (s : List ℕ) (i : ℕ) → get_or s i 0 < 2 ^ 8 → bits_at s (i * 8) 8 ≡ get_or s i 0
byte-read s i h = byte s i (i * 8) refl h

-- Writes.

-- a buffer keeps its length
pub length-written : (s : List ℕ) (at n v : ℕ) → length (written s at n v) ≡ length s
length-written s at n v = length_from _ 0 (length s)

length-in : (s : List ℕ) (c : Cursor) (n v : ℕ) (r : Result ⊤ BitRefusal) → length (written_in r s c n v) ≡ length s
length-in s c n v (Ok u) = length-written s (place c) n v
length-in s c n v (Err e) = refl

pub length-written_of : (s : List ℕ) (c : Cursor) (n max v : ℕ) → length (written_of s c n max v) ≡ length s
length-written_of s c n max v = length-in s c n v (room_of (length s) (place c) n max)

module _ (s : List ℕ) (c : Cursor) (n max v : ℕ) (f : Fitting (length s) (place c) n max) where
  accepted : written_of s c n max v ≡ written s (place c) n v
  accepted = ap (λ (r : Result ⊤ BitRefusal). written_in r s c n v) (room_fits _ _ _ _ f)

  -- what is written is read back, mod 2 ^ n, and the cursor comes to the same place
  pub read-write : read_of (written_of s c n max v) c n max ≡ Ok (record { value = v % 2 ^ n; next = moved_by c n })
  read-write =
      let g : length (written s (place c) n v) ≡ length s = length-written s (place c) n v in
      ap (λ (l : List ℕ). read_of l c n max) accepted
      ∙ ap (λ (r : Result ⊤ BitRefusal). read_in r (written s (place c) n v) c n) (ap (λ (m : ℕ). room_of m (place c) n max) g ∙ room_fits _ _ _ _ f)
      ∙ ap (λ (x : ℕ). Ok (record { value = x; next = moved_by c n })) (read_back s (place c) n v f.inside)

  -- a run that shares no bit with the write
  pub run-apart : (p m : ℕ) → (p + m ≤ place c) ⊎ (place c + n ≤ p) → p + m ≤ length s * 8 → bits_at (written s (place c) n v) p m ≡ bits_at s p m
  run-apart p m d h =
      let q : place c ≤ length s * 8 = omega (arith, f.inside) in
      ⊎_elim (λ w. apart-before s (place c) n v p m w q) (λ w. apart-after s (place c) n v p m w h) d

  apart_in : (d : Cursor) (m most : ℕ) → (place d + m ≤ place c) ⊎ (place c + n ≤ place d) → (r : Result ⊤ BitRefusal) → room_of (length s) (place d) m most ≡ r
      → read_in r (written s (place c) n v) d m ≡ read_in r s d m
  apart_in d m most a (Err x) h = refl
  apart_in d m most a (Ok u) h =
      ap (λ (x : ℕ). Ok (record { value = x; next = moved_by d m })) (run-apart (place d) m a (fitting (length s) (place d) m most h).inside)

  -- a read apart from a write answers as it did, refusals too
  pub read-apart : (d : Cursor) (m most : ℕ) → (place d + m ≤ place c) ⊎ (place c + n ≤ place d) → read_of (written_of s c n max v) d m most ≡ read_of s d m most
  read-apart d m most a =
      ap (λ (l : List ℕ). read_of l d m most) accepted
      ∙ ap (λ (k : ℕ). read_in (room_of k (place d) m most) (written s (place c) n v) d m) (length-written s (place c) n v)
      ∙ apart_in d m most a (room_of (length s) (place d) m most) refl
