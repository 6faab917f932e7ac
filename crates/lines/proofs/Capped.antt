-- The holder of lines is exact: what is printed for an input is what its lines alone say, where a line that is too long for the buffer counts as an
-- empty one. Assumes nothing.
use mathlib.Core.Path.{◌≡◌, refl, ap, ◌∙◌}
use mathlib.Core.Bool.{Bool, true, false}
use mathlib.Core.List.{List, [], ◌∷◌, ◌++◌}
use Prim.Native.Nat.{ℕ, suc, ◌≤◌, ◌<◌}
use native.Mathlib.Numerals.{add-one}
use native.Mathlib.Omega.{arith}
use borrow.Author.Tests.{lt-ltb, le-ltb, leb-true, leb-false}
use lib.Dec.{leb}
use lib.ListN.{length, take, length-set, length-append}
use lib.Seq.{take-suc-set}
use Rattle.bits.specs.Bits.{pick}
use Rattle.lines.specs.Machine.{text_from, plain, closed, text_of}
use Rattle.lines.specs.Calls.{Call, Sound, put, taken, waits_after}
use Rattle.lines.specs.Held.{held_at, nothing_held, held_by, kept_by, line_in, Store, store, held, capped}
use Rattle.lines.proofs.Alike.{alike}
use Rattle.lines.proofs.Stream.{printed}

-- what a buffer of so many bytes holds of a line
record Holds (size : ℕ) (s : Store) (l : List ℕ) : Type 0 where
  pub room : length s.buffer ≡ size
  pub short : length l ≤ size → (s.held ≡ held_at (length l) false) × (take (length l) s.buffer ≡ l)
  pub long : size < length l → s.held ≡ held_at size true

module _ (size : ℕ) (s : Store) (l : List ℕ) (h : Holds size s l) where
  -- a line that does not fit any more
  outgrown : (b : ℕ) (t : Bool) → leb (length l) size ≡ t → size ≤ length l → held_by s.held s.buffer ≡ held_at size true
  outgrown b true e g =
      let n : length l ≡ size = omega (arith, leb-true (length l) size e) in
      let is : s.held ≡ held_at size false = (h.short (leb-true (length l) size e)).0 ∙ ap (λ (i : ℕ). held_at i false) n in
      rw (is, le-ltb size (length s.buffer) (omega (arith, h.room)))
  outgrown b false e g = rw (h.long (leb-false (length l) size e), le-ltb size (length s.buffer) (omega (arith, h.room)))

  fed : (b : ℕ) → Holds size (store (held_by s.held s.buffer) (kept_by s.held s.buffer b)) (l ++ b ∷ [])
  fed b = let one = length-append l (b ∷ []) in record {
    room = length-set s.buffer s.held.count b ∙ h.room;
    short = λ g.
        let is = h.short (omega arith) in
        let n : length l < length s.buffer = omega (arith, h.room) in (
          rw (is.0, lt-ltb (length l) (length s.buffer) n, one) refl,
          rw (is.0, one, add-one) (take-suc-set s.buffer (length l) b n ∙ ap (λ (x : List ℕ). x ++ b ∷ []) is.1),
        );
    long = λ g. outgrown b (leb (length l) size) refl (omega arith);
  }

  fresh : Holds size (store nothing_held s.buffer) []
  fresh = record { room = h.room; short = λ g. (refl, refl); long = λ g. absurd (omega arith) }

  line : (t : Bool) → leb (length l) size ≡ t → line_in s.held s.buffer ≡ pick t l []
  line true e =
      let g = leb-true (length l) size e in
      let is = h.short g in
      rw (is.0, le-ltb (length s.buffer) (length l) (omega (arith, h.room))) is.1
  line false e = rw (h.long (leb-false (length l) size e))

pub exact : (answered : List ℕ → List ℕ) (buffer input : List ℕ)
    → text_from (held answered) (store nothing_held buffer) input ≡ text_from (plain (capped (length buffer) answered)) [] input
exact answered buffer input =
    let size = length buffer in
    alike (held answered) (capped size answered) (suc (length input)) (Holds size) (λ s l b n r. fed size s l r b) (fresh size)
    (λ s l r g. ap answered (line size s l r (leb (length l) size) refl)) (store nothing_held buffer) [] input
    (record { room = refl; short = λ g. (refl, refl); long = λ g. absurd (omega arith) }) (omega arith)

-- so, over any calls that take all of an input, with the newline that its last line may lack, the text that is put is that of the input's lines
pub printed-lines : (answered : List ℕ → List ℕ) (buffer : List ℕ) (cs : List Call) (input : List ℕ) → Sound cs
    → taken (held answered) (store nothing_held buffer) false cs ≡ closed input → waits_after (held answered) (store nothing_held buffer) false cs ≡ false
    → put (held answered) (store nothing_held buffer) false cs ≡ text_of (capped (length buffer) answered) input
printed-lines answered buffer cs input s e w = printed (held answered) (store nothing_held buffer) cs (closed input) s e w ∙ exact answered buffer (closed input)
