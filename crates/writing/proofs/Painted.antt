-- What stands in a buffer once fields were put one after another: each has its bits, and what stood before it stays. Assumes nothing.
use Rattle.std.specs.Prelude.{Result, Ok, Err}
use mathlib.Core.Path.{◌≡◌, refl, sym, ap, ◌∙◌, subst}
use mathlib.Core.List.{List, [], ◌∷◌, ◌++◌}
use Prim.Native.Nat.{ℕ, zero, suc, ◌+◌, ◌-◌, ◌*◌, ◌/◌, ◌%◌, ◌≤◌, ◌<◌}
use native.Mathlib.Omega.{arith}
use lib.ListN.{length, get_or, replicate, length-append, length-replicate}
use Rattle.weighing.specs.declared.EncodeRefusal.{EncodeRefusal}
use Rattle.bits.specs.Bits.{bit_at, bits_at, written}
use Rattle.bits.proofs.Written.{bit-written, put-before, read_back}
use Rattle.bits.proofs.Laws.{run-local, length-written}
use Rattle.descriptor.specs.declared.PgnBytes.{PgnBytes}
use Rattle.walking.proofs.Visits.{All}
use Rattle.reading.proofs.Local.{Agree}
use Rattle.weighing.specs.declared.Lead.{Lead}
use Rattle.weighing.specs.declared.Lead.TheVariants.{Bare, Counted, Encoded, Empty}
use Rattle.weighing.specs.declared.Weighed.{Weighed}
use Rattle.weighing.specs.declared.Weighed.TheVariants.{Number, Gap, Text}
use Rattle.writing.specs.Ink.{text_in_lem, bytes_by, poured, inked, Whole, Puttable}
use Rattle.writing.specs.Encode.{Mark, painted}
use Rattle.writing.specs.Strokes.{size_of}
use Rattle.writing.specs.Ones.{past, end_from}
use Rattle.writing.proofs.Pours.{length-poured, text-long}
use Rattle.writing.proofs.Holding.{Inks}

-- ## A number, and bytes one after another

-- a bit before a number stays ..
written-before : (s : List ℕ) (at n x i : ℕ) → i < at → i < length s * 8 → bit_at (written s at n x) i ≡ bit_at s i
written-before s at n x i l h = bit-written s at n x i h ∙ put-before s at n x i l

-- .. and so does one before bytes,
poured-before : (s : List ℕ) (at : ℕ) (xs : List ℕ) (i : ℕ) → i < at → i < length s * 8 → bit_at (poured s at xs) i ≡ bit_at s i
unfolding poured
poured-before s at [] i l h = refl
poured-before s at (x ∷ xs) i l h =
    let e = length-written s at 8 x in
    poured-before (written s at 8 x) (at + 8) xs i (omega arith) (omega arith) ∙ written-before s at 8 x i l h

-- which are read back
poured-reads : (s : List ℕ) (at : ℕ) (xs : List ℕ) → at + 8 * length xs ≤ length s * 8 → (j : ℕ) → j < length xs
    → bits_at (poured s at xs) (at + 8 * j) 8 ≡ get_or xs j 0 % 256
unfolding poured
poured-reads s at [] h j l = absurd (omega arith)
poured-reads s at (x ∷ xs) h zero l =
    let b = written s at 8 x in
    let e = length-written s at 8 x in
    let z : at + 8 * 0 ≡ at = omega arith in
    ap (λ (a : ℕ). bits_at (poured b (at + 8) xs) a 8) z
    ∙ run-local (poured b (at + 8) xs) b at 8 (λ k m. poured-before b (at + 8) xs (at + k) (omega arith) (omega arith))
    ∙ read_back s at 8 x (omega arith)
poured-reads s at (x ∷ xs) h (suc j) l =
    let b = written s at 8 x in
    let e = length-written s at 8 x in
    let z : at + 8 * suc j ≡ at + 8 + 8 * j = omega arith in
    ap (λ (a : ℕ). bits_at (poured b (at + 8) xs) a 8) z ∙ poured-reads b (at + 8) xs (omega arith) j (omega arith)

-- ## A field

lies-inside : (size at : ℕ) (w : Result Weighed EncodeRefusal) (lent : ℕ) → Puttable size at w lent → at ≤ size * 8 → at + (size_of w).0 ≤ size * 8
lies-inside size at (Ok (Number n r)) lent h l = h.1.1.1
lies-inside size at (Ok (Gap n)) lent h l = h.1
lies-inside size at (Ok (Text n lead b)) lent h l = h.1.0
lies-inside size at (Err e) lent h l = omega arith

-- the bytes of a text, with what stands around it, are no more than the field's bits
whole-fits : (lead : Lead) (n : ℕ) (text : List ℕ) (len : ℕ) → length text ≡ len → Whole n lead len → 8 * length (bytes_by lead n text) ≤ n
whole-fits Bare n text len l w = let a = length-append text (replicate (n / 8 - length text) 0xff) in let b = length-replicate {A = ℕ} (n / 8 - length text) 0xff in omega (arith, w.same, w.fits)
whole-fits Counted n text len l w = let a = length-append text (0 ∷ []) in omega (arith, w.same, w.fits)
whole-fits (Encoded x) n text len l w = omega (arith, w.same, w.fits)
whole-fits Empty n text len l w = omega (arith, w.same, w.fits)

module _ (lent : List ℕ) where
  pub length-inked : (s : List ℕ) (at : ℕ) (w : Result Weighed EncodeRefusal) → length (inked s at w lent) ≡ length s
  length-inked s at (Ok (Number n r)) = length-written s at n.0 r
  length-inked s at (Ok (Gap n)) = refl
  length-inked s at (Ok (Text n lead b)) = length-poured s at _
  length-inked s at (Err e) = refl

  -- a bit before the field stays
  pub inked-before : (s : List ℕ) (at : ℕ) (w : Result Weighed EncodeRefusal) (i : ℕ) → i < at → i < length s * 8 → bit_at (inked s at w lent) i ≡ bit_at s i
  inked-before s at (Ok (Number n r)) i l h = written-before s at n.0 r i l h
  inked-before s at (Ok (Gap n)) i l h = refl
  inked-before s at (Ok (Text n lead b)) i l h = poured-before s at _ i l h
  inked-before s at (Err e) i l h = refl

  pub bytes_fit : (n : ℕ) (lead : Lead) (b : PgnBytes) → b.start.0 + b.len.0 ≤ length lent → Whole n lead b.len.0 → 8 * length (bytes_by lead n (text_in_lem lent b)) ≤ n
  bytes_fit n lead b l w = whole-fits lead n (text_in_lem lent b) b.len.0 (text-long lent b.start.0 b.len.0 l) w

  module _ (size at : ℕ) where
    -- the field has its bits,
    inked-inks : (s : List ℕ) (w : Result Weighed EncodeRefusal) → length s ≡ size → Puttable size at w (length lent) → Inks (bits_at (inked s at w lent)) at w lent
    inked-inks s (Ok (Number n r)) e h = read_back s at n.0 r (omega (arith, h.1.1.1))
    inked-inks s (Ok (Gap n)) e h = tt
    inked-inks s (Ok (Text n lead b)) e h =
        let f = bytes_fit n.0 lead b h.1.1.0 h.1.1.1 in
        poured-reads s at (bytes_by lead n.0 (text_in_lem lent b)) (omega (arith, h.1.0))
    inked-inks s (Err e) q h = tt

    -- and so has any other buffer that says the same there
    pub inks-local : (b b' : ℕ → ℕ → ℕ) (w : Result Weighed EncodeRefusal) → Puttable size at w (length lent) → Agree b b' at (at + (size_of w).0) → Inks b at w lent → Inks b' at w lent
    inks-local b b' (Ok (Number n r)) h a k = sym (a at n.0 (omega arith) (omega arith)) ∙ k
    inks-local b b' (Ok (Gap n)) h a k = tt
    inks-local b b' (Ok (Text n lead x)) h a k =
        let f = bytes_fit n.0 lead x h.1.1.0 h.1.1.1 in
        λ j l. sym (a (at + 8 * j) 8 (omega arith) (omega arith)) ∙ k j l
    inks-local b b' (Err e) h a k = tt

-- ## Fields one after another

-- each starts where the one before it ends, from bit a to bit b, and lies in the buffer
abbrev pub Chained : ℕ → ℕ → ℕ → List Mark → ℕ → Type 0
Chained size lent a [] b = a ≡ b
Chained size lent a (m ∷ ms) b = (m.start ≡ a) × (Puttable size m.start m.content lent × Chained size lent (past m) ms b)

module _ (size : ℕ) (lent : List ℕ) where
  abbrev C : ℕ → List Mark → ℕ → Type 0
  C a ms b = Chained size (length lent) a ms b

  pub chained_append : (a c b : ℕ) (us ws : List Mark) → C a us c → C c ws b → C a (us ++ ws) b
  chained_append a c b [] ws h k = subst (λ (x : ℕ). C x ws b) (sym h) k
  chained_append a c b (u ∷ us) ws h k = (h.0, (h.1.0, chained_append (past u) c b us ws h.1.1 k))

  pub chained-le : (a : ℕ) (ms : List Mark) (b : ℕ) → C a ms b → a ≤ b
  chained-le a [] b h = omega arith
  chained-le a (m ∷ ms) b h = let l = chained-le (past m) ms b h.1.1 in omega (arith, h.0)

  pub chained-end : (a : ℕ) (ms : List Mark) (b : ℕ) → C a ms b → end_from a ms ≡ b
  unfolding end_from
  chained-end a [] b h = h
  chained-end a (m ∷ ms) b h = chained-end (past m) ms b h.1.1

  -- they end in the buffer
  pub chained-inside : (a : ℕ) (ms : List Mark) (b : ℕ) → C a ms b → a ≤ size * 8 → b ≤ size * 8
  chained-inside a [] b h l = omega arith
  chained-inside a (m ∷ ms) b h l = chained-inside (past m) ms b h.1.1 (lies-inside size m.start m.content (length lent) h.1.0 (omega (arith, h.0)))

  pub length-painted : (s : List ℕ) (ms : List Mark) → length (painted s ms lent) ≡ length s
  unfolding painted
  length-painted s [] = refl
  length-painted s (m ∷ ms) = length-painted (inked s m.start m.content lent) ms ∙ length-inked lent s m.start m.content

  -- a bit before them stays
  painted-before : (s : List ℕ) (a : ℕ) (ms : List Mark) (b : ℕ) → C a ms b → (i : ℕ) → i < a → i < length s * 8 → bit_at (painted s ms lent) i ≡ bit_at s i
  unfolding painted
  painted-before s a [] b h i l u = refl
  painted-before s a (m ∷ ms) b h i l u =
      let e = length-inked lent s m.start m.content in
      painted-before (inked s m.start m.content lent) (past m) ms b h.1.1 i (omega (arith, h.0)) (omega arith)
      ∙ inked-before lent s m.start m.content i (omega (arith, h.0)) u

  -- each has its bits
  pub painted-inks : (s : List ℕ) (a : ℕ) (ms : List Mark) (b : ℕ) → length s ≡ size → a ≤ size * 8 → C a ms b
      → All (λ (m : Mark). Inks (bits_at (painted s ms lent)) m.start m.content lent) ms
  unfolding painted
  painted-inks s a [] b e l h = tt
  painted-inks s a (m ∷ ms) b e l h =
      let w = m.content in
      let s' = inked s m.start w lent in
      let f : length s' ≡ length s = length-inked lent s m.start w in
      let u : past m ≤ size * 8 = lies-inside size m.start w (length lent) h.1.0 (omega (arith, h.0)) in (
        inks-local lent size m.start (bits_at s') (bits_at (painted s' ms lent)) w h.1.0
            (λ p n o q. sym (run-local (painted s' ms lent) s' p n (λ k g. painted-before s' (past m) ms b h.1.1 (p + k) (omega arith) (omega arith))))
            (inked-inks lent size m.start s w e h.1.0),
        painted-inks s' (past m) ms b (f ∙ e) u h.1.1,
      )
