-- The laws of slice calls: a slice that was read is not cut; a written one reads as its source, in bits and whole, and apart from it all stays; what refusal 2
-- tells, `Short`. Assumes nothing.
use mathlib.Core.Path.{◌≡◌, refl, sym, ap, ap₂, ◌∙◌, subst}
use mathlib.Core.Logic.{◌⊎◌, inl, inr, ⊎_elim}
use mathlib.Core.List.{List, ◌++◌}
use Prim.Native.Nat.{ℕ, ◌+◌, ◌-◌, ◌*◌, ◌/◌, ◌%◌, ◌^◌, ◌≤◌, ◌<◌}
use native.Mathlib.Omega.{arith}
use lib.ListN.{length, get_or, take, drop, get_or-append, length-drop}
use lib.Seq.{ext_get_or, paste, length-paste, length_paste_head, get_or-take, get_or-drop, length-take-le, get_or-append-add}
use Rattle.std.specs.Prelude.{⊤, Result, Ok, Err}
use Rattle.bits.specs.Bits.{bit, bits_at}
use Rattle.bits.specs.declared.BitRefusal.{BitRefusal}
use Rattle.bits.specs.declared.BitRefusal.TheVariants.{OutOfBytes}
use Rattle.bits.specs.declared.ByteCount.{ByteCount}
use Rattle.bits.specs.declared.Cursor.{Cursor}
use Rattle.bits.specs.declared.Part.{Part}
use Rattle.bits.specs.declared.Read.{Read}
use Rattle.bits.specs.Calls.{bytes, place, moved_by, slice_room_of, read_slice_in, read_slice_of, part_of, advance_in, write_slice_of, sliced_in, sliced_of}
use Rattle.bits.proofs.Sums.{sum-ext}
use Rattle.bits.proofs.Rooms.{Whole, whole, slice_fits, Short, short}
use Rattle.bits.proofs.Laws.{byte-read}

-- ## Reading

-- the n bytes of a buffer from a cursor on
pub record Uncut (s : List ℕ) (c : Cursor) (n : ℕ) (l : List ℕ) : Type 0 where
  pub long : length l ≡ n
  pub each : (k : ℕ) → k < n → get_or l k 0 ≡ get_or s (place c / 8 + k) 0
  -- which are the 8-bit reads there
  pub reads : (k : ℕ) → k < n → get_or l k 0 < 2 ^ 8 → bits_at s (place c + 8 * k) 8 ≡ get_or l k 0

taken : (s : List ℕ) (c : Cursor) (n : ℕ) → Whole (length s) (place c) n → Uncut s c n (take n (drop (place c / 8) s))
taken s c n w =
    let a = place c / 8 in
    let each : (k : ℕ) → k < n → get_or (take n (drop a s)) k 0 ≡ get_or s (a + k) 0 = λ k l. get_or-take n (drop a s) k 0 l ∙ get_or-drop a s k 0 in
    record {
      long = length-take-le n (drop a s) (omega (arith, length-drop a s, w.inside));
      each = each;
      reads = λ k l h.
          let e : place c + 8 * k ≡ (a + k) * 8 = omega (arith, w.aligned) in
          ap (λ (p : ℕ). bits_at s p 8) e ∙ byte-read s (a + k) (subst (λ (x : ℕ). x < 2 ^ 8) (each k l) h) ∙ sym (each k l);
    }

-- of any buffer: what `Part::bytes` hands out of a part that `read_slice` gave is all of it
pub slice-uncut : (s : List ℕ) (c : Cursor) (n : ℕ) (a : Read Part) → read_slice_of (length s) c n ≡ Ok a → Uncut s c n (part_of s a.value)
slice-uncut s c n a h = go (slice_room_of (length s) (place c) n) refl h
  where
    go : (r : Result ⊤ BitRefusal) → slice_room_of (length s) (place c) n ≡ r → read_slice_in r c n ≡ Ok a → Uncut s c n (part_of s a.value)
    go (Ok u) q e =
        let p : record { start = bytes (place c / 8); len = bytes n } ≡ a.value = cc in
        subst (λ (x : Part). Uncut s c n (part_of s x)) p (taken s c n (whole _ _ _ q))
    go (Err x) q e = cc

-- ## Writing

-- src, written from byte a on
module _ (s src : List ℕ) (a : ℕ) (inside : a + length src ≤ length s) where
  pub length-pasted : length (paste s a src (length src)) ≡ length s
  length-pasted = length-paste s a src (length src) inside (omega arith)

  head : length (take a s ++ take (length src) src) ≡ a + length src
  head = length_paste_head s a src (length src) (omega arith) (omega arith)

  front : length (take a s) ≡ a
  front = length-take-le a s (omega arith)

  -- the bytes of the source stand there ..
  pub pasted-in : (i : ℕ) → i < length src → get_or (paste s a src (length src)) (a + i) 0 ≡ get_or src i 0
  pasted-in i h =
      get_or-append (take a s ++ take (length src) src) _ 0 (a + i) (omega (arith, head))
      ∙ ap (λ (k : ℕ). get_or (take a s ++ take (length src) src) (k + i) 0) (sym front)
      ∙ get_or-append-add (take a s) (take (length src) src) i 0
      ∙ get_or-take (length src) src i 0 h

  -- .. and every other byte is kept
  pub pasted-out : (i : ℕ) → (i < a) ⊎ (a + length src ≤ i) → get_or (paste s a src (length src)) i 0 ≡ get_or s i 0
  pasted-out i d = ⊎_elim
      (λ (h : i < a).
      get_or-append (take a s ++ take (length src) src) _ 0 i (omega (arith, head))
      ∙ get_or-append (take a s) _ 0 i (omega (arith, front))
      ∙ get_or-take a s i 0 h)
      (λ (h : a + length src ≤ i).
      let j : ℕ = i - (a + length src) in
      let e : i ≡ a + length src + j = omega arith in
      ap (λ (k : ℕ). get_or (paste s a src (length src)) k 0) (e ∙ ap (λ (k : ℕ). k + j) (sym head))
      ∙ get_or-append-add (take a s ++ take (length src) src) (drop (a + length src) s) j 0
      ∙ get_or-drop (a + length src) s j 0 ∙ ap (λ (k : ℕ). get_or s k 0) (sym e))
      d

  -- a written slice reads as its source, bit by bit
  pub slice-bits : (k n : ℕ) → k + n ≤ length src * 8 → bits_at (paste s a src (length src)) (a * 8 + k) n ≡ bits_at src k n
  slice-bits k n h = sum-ext _ _ n (λ j l.
      let q : (a * 8 + k + j) / 8 ≡ a + (k + j) / 8 = omega arith in
      let r : (a * 8 + k + j) % 8 ≡ (k + j) % 8 = omega arith in
      ap₂ (λ (x y : ℕ). bit (get_or (paste s a src (length src)) x 0) y) q r
      ∙ ap (λ (x : ℕ). bit x ((k + j) % 8)) (pasted-in ((k + j) / 8) (omega arith)))

  -- a run that shares no byte with it is as it was
  pub slice-apart : (p n : ℕ) → (p + n ≤ a * 8) ⊎ ((a + length src) * 8 ≤ p) → bits_at (paste s a src (length src)) p n ≡ bits_at s p n
  slice-apart p n d = sum-ext _ _ n (λ j l.
      ap (λ (x : ℕ). bit x ((p + j) % 8))
      (pasted-out ((p + j) / 8) (⊎_elim (λ w. inl (omega arith)) (λ w. inr (omega arith)) d)))

  -- the part that was written is the source
  pub part-back : take (length src) (drop a (paste s a src (length src))) ≡ src
  part-back =
      let l : List ℕ = paste s a src (length src) in
      let e : length (take (length src) (drop a l)) ≡ length src = length-take-le (length src) (drop a l) (omega (arith, length-drop a l, length-pasted)) in
      ext_get_or 0 _ _ e (λ i h.
      let g : i < length src = omega arith in
      get_or-take (length src) (drop a l) i 0 g ∙ get_or-drop a l i 0 ∙ pasted-in i g)

-- what `write_slice` accepts and writes, `read_slice` finds, and the part is the source
module _ (s src : List ℕ) (c : Cursor) (f : Whole (length s) (place c) (length src)) where
  accepted : sliced_of s c src ≡ paste s (place c / 8) src (length src)
  accepted = ap (λ (r : Result ⊤ BitRefusal). sliced_in r s c src) (slice_fits _ _ _ f)

  pub slice-found : read_slice_of (length (sliced_of s c src)) c (length src) ≡ Ok (record { value = record { start = bytes (place c / 8); len = bytes (length src) }; next = moved_by c (length src * 8) })
  slice-found =
      ap (λ (m : ℕ). read_slice_of m c (length src)) (ap length accepted ∙ length-pasted s src (place c / 8) f.inside)
      ∙ ap (λ (r : Result ⊤ BitRefusal). read_slice_in r c (length src)) (slice_fits _ _ _ f)

  pub slice_back : part_of (sliced_of s c src) (record { start = bytes (place c / 8); len = bytes (length src) }) ≡ src
  slice_back = ap (λ (l : List ℕ). take (length src) (drop (place c / 8) l)) accepted ∙ part-back s src (place c / 8) f.inside

-- ## Refusal 2

read-refused : (r : Result ⊤ BitRefusal) (c : Cursor) (n : ℕ) (e : BitRefusal) → read_slice_in r c n ≡ Err e → r ≡ Err e
read-refused (Ok u) c n e h = cc
read-refused (Err x) c n e h = cc

write-refused : (r : Result ⊤ BitRefusal) (c : Cursor) (n : ℕ) (e : BitRefusal) → advance_in r c n ≡ Err e → r ≡ Err e
write-refused (Ok u) c n e h = cc
write-refused (Err x) c n e h = cc

-- what `read_slice` says of n bytes from a cursor on ..
pub read_short : (len : ℕ) (c : Cursor) (n : ℕ) (asked available : ByteCount) → read_slice_of len c n ≡ Err (OutOfBytes asked available) → Short len (place c) n asked available
read_short len c n asked available h = short len (place c) n asked available (read-refused (slice_room_of len (place c) n) c n _ h)

-- .. `write_slice` says as well
pub write-short : (len : ℕ) (c : Cursor) (n : ℕ) (asked available : ByteCount) → write_slice_of len c n ≡ Err (OutOfBytes asked available) → Short len (place c) n asked available
write-short len c n asked available h = short len (place c) n asked available (write-refused (slice_room_of len (place c) n) c (n * 8) _ h)
