-- The answers that go by a VALUE or a COUNT. Assumes nothing.
use mathlib.Core.Path.{◌≡◌, sym, ◌∙◌}
use mathlib.Core.List.{List, ◌++◌}
use Prim.Native.Nat.{ℕ, ◌-◌}
use borrow.Author.Tests.{eq-eqb, ne_eqb}
use lib.ListN.{length, take}
use Rattle.std.specs.Prelude.{Option, Some, None, Result}
use Rattle.text.specs.Digits.{spaced}
use Rattle.text.specs.Refusals.{malformed_text}
use Rattle.columns.specs.Runs.{is_bytes, bytes_of}
use Rattle.columns.proofs.Stored.{Stored}
use Rattle.bits.specs.Calls.{place, write_slice_of, sliced_of, remaining_of}
use Rattle.bits.specs.declared.BitPos.{BitPos}
use Rattle.bits.specs.declared.Cursor.{Cursor}
use Rattle.bits.specs.declared.BitRefusal.{BitRefusal}
use Rattle.bitcalls.specs.Text.{ok_text, written_text, remaining_text, bytes_max, write_slice_text}

module _ (c : Cursor) (s : List ℕ) (n : ℕ) where
  pub remaining-count : (n ≡ 0 → ⊥) → malformed_text ≡ remaining_text c s n
  remaining-count h = rw (ne_eqb n 0 h)

  pub remaining : {left : BitPos} → n ≡ 0 → left ≡ remaining_of (length s) c → ok_text (place c) ++ spaced left.0 ≡ remaining_text c s n
  remaining h e = rw (eq-eqb n 0 h, e)

  -- the bytes of the VALUE, as they were stored
  module _ (value : List ℕ) {r : Option ℕ} {new : List ℕ} (h : Stored (is_bytes bytes_max value) (bytes_of value) r new) where
    pub slice-bad : r ≡ None → malformed_text ≡ write_slice_text c s n value
    slice-bad e = rw (h.none e)

    module _ {k : ℕ} (e : r ≡ Some k) where
      pub slice-other : (k ≡ n → ⊥) → malformed_text ≡ write_slice_text c s n value
      slice-other o =
          let is = h.some e in
          let count = h.count e in
          let unlike : length (bytes_of value) ≡ n → ⊥ = λ z. o (count ∙ z) in
          rw (is, ne_eqb (length (bytes_of value)) n unlike)

      pub slice : k ≡ n → {m : Result Cursor BitRefusal} {s' : List ℕ} → m ≡ write_slice_of (length s) c (length (take (k - 0) new)) → s' ≡ sliced_of s c (take (k - 0) new)
          → written_text m s' ≡ write_slice_text c s n value
      slice o f j =
          let is = h.some e in
          let count = h.count e in
          rw (is, eq-eqb (length (bytes_of value)) n (sym count ∙ o), f, j, h.first e)
