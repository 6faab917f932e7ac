-- What no field puts stays ones: "all bits after are ones", "Skipped fields stay ones", and of a refused encode "all 0xFF except the fields wholly written before; the
-- faulty field leaves no bit". One law for an encode that ended and for one that was refused. Assumes nothing.
use Rattle.std.specs.Prelude.{Result, Ok, Err}
use mathlib.Core.Path.{◌≡◌, refl, sym, ap, ◌∙◌, subst}
use mathlib.Core.Logic.{◌⊎◌, inl, inr, ⊎_elim}
use mathlib.Core.Bool.{Bool, true, false, ◌&&◌, ◌||◌, false≢true}
use mathlib.Core.List.{List, [], ◌∷◌, ◌++◌}
use Prim.Native.Nat.{ℕ, zero, suc, ◌+◌, ◌*◌, ◌/◌, ◌%◌, ◌≤◌, ◌<◌}
use native.Mathlib.Nat.{mod-lt}
use native.Mathlib.Omega.{arith}
use lib.Dec.{lit<, leb, ltb}
use lib.ListN.{length, get_or, replicate, length-replicate}
use borrow.Author.Tests.{ltb-false, leb-false, le-ltb, lt-leb}
use Rattle.weighing.specs.declared.EncodeRefusal.{EncodeRefusal}
use Rattle.bits.specs.Bits.{bit, bit_at, bits_at, pick, written}
use Rattle.bits.specs.Calls.{bytes}
use Rattle.bits.specs.declared.BitPos.{BitPos}
use Rattle.bits.proofs.Written.{bit-written, put-after}
use Rattle.bits.proofs.Laws.{length-written}
use Rattle.tables.specs.Table.{Table}
use Rattle.tables.specs.Check.{Checked, check_of, payload_max}
use Rattle.walking.specs.Runs.{ran}
use Rattle.walking.proofs.Visits.{All}
use Rattle.offers.specs.Values.{Values}
use Rattle.weighing.specs.declared.EncodeRefusal.TheVariants.{WrongLength}
use Rattle.weighing.specs.declared.Weighed.{Weighed}
use Rattle.weighing.specs.declared.Weighed.TheVariants.{Number, Gap, Text}
use Rattle.writing.specs.declared.Pen.{Pen}
use Rattle.writing.specs.Ink.{text_in_lem, bytes_by, poured, inked, Puttable}
use Rattle.writing.specs.Encode.{Mark, writes_of, by_check, begun_of, encoded_in, encoded_of, painted, image_of, buffer_in, buffer_after}
use Rattle.writing.specs.Strokes.{size_of}
use Rattle.writing.specs.Ones.{wrote_of, past, end_at, inks, puts, any_puts, touches}
use Rattle.writing.proofs.Holding.{Inks}
use Rattle.writing.proofs.Painted.{length-inked, inked-before, bytes_fit, Chained, chained-le, chained-end, painted-inks}
use Rattle.writing.proofs.Imaged.{writes-chained, wrote-chained}

-- ## A bit of 0xFF

ones-byte : (k : ℕ) → k < 8 → bit 0xff k ≡ 1
ones-byte zero l = refl
ones-byte (suc zero) l = refl
ones-byte (suc (suc zero)) l = refl
ones-byte (suc (suc (suc zero))) l = refl
ones-byte (suc (suc (suc (suc zero)))) l = refl
ones-byte (suc (suc (suc (suc (suc zero))))) l = refl
ones-byte (suc (suc (suc (suc (suc (suc zero)))))) l = refl
ones-byte (suc (suc (suc (suc (suc (suc (suc zero))))))) l = refl
ones-byte (suc (suc (suc (suc (suc (suc (suc (suc k)))))))) l = absurd (omega arith)

-- bytes of ones
abbrev full : ℕ → List ℕ
full n = replicate n 0xff

ones-at : (n i : ℕ) → i < n → get_or (full n) i 0 ≡ 0xff
ones-at zero i l = absurd (omega arith)
ones-at (suc n) zero l = refl
ones-at (suc n) (suc i) l = ones-at n i (omega arith)

ones_in : (size i : ℕ) → i < size * 8 → bit_at (full size) i ≡ 1
ones_in size i l = ap (λ (x : ℕ). bit x (i % 8)) (ones-at size (i / 8) (omega arith)) ∙ ones-byte (i % 8) (mod-lt i (lit< {m = 0} {n = 8} tt))

-- ## Bits past a field stay

poured-after : (s : List ℕ) (at : ℕ) (xs : List ℕ) (i : ℕ) → at + 8 * length xs ≤ i → i < length s * 8 → bit_at (poured s at xs) i ≡ bit_at s i
unfolding poured
poured-after s at [] i l h = refl
poured-after s at (x ∷ xs) i l h =
    let e = length-written s at 8 x in
    poured-after (written s at 8 x) (at + 8) xs i (omega arith) (omega arith) ∙ bit-written s at 8 x i h ∙ put-after s at 8 x i (omega arith)

inked-after : (lent : List ℕ) (size : ℕ) (s : List ℕ) (at : ℕ) (w : Result Weighed EncodeRefusal) → Puttable size at w (length lent) → (i : ℕ) → at + (size_of w).0 ≤ i → i < length s * 8
    → bit_at (inked s at w lent) i ≡ bit_at s i
inked-after lent size s at (Ok (Number n r)) p i l h = bit-written s at n.0 r i h ∙ put-after s at n.0 r i l
inked-after lent size s at (Ok (Gap n)) p i l h = refl
inked-after lent size s at (Ok (Text n lead b)) p i l h =
    let f = bytes_fit lent n.0 lead b p.1.1.0 p.1.1.1 in
    poured-after s at (bytes_by lead n.0 (text_in_lem lent b)) i (omega (arith, f, l)) h
inked-after lent size s at (Err e) p i l h = refl

-- ## Bits that no field puts stay

outside : (a b i : ℕ) → leb a i && ltb i b ≡ false → (i < a) ⊎ (b ≤ i)
outside a b i h = go (leb a i) refl h
  where
    go : (x : Bool) → leb a i ≡ x → x && ltb i b ≡ false → (i < a) ⊎ (b ≤ i)
    go true e k = inr (ltb-false i b k)
    go false e k = inl (leb-false a i e)

neither : (x y : Bool) → x || y ≡ false → (x ≡ false) × (y ≡ false)
neither true y h = absurd (false≢true (sym h))
neither false y h = (refl, h)

and-false : (x y : Bool) → y ≡ false → x && y ≡ false
and-false true y h = h
and-false false y h = refl

or-false : (x y : Bool) → x ≡ false → y ≡ false → x || y ≡ false
or-false true y h k = absurd (false≢true (sym h))
or-false false y h k = k

-- a field puts no bit before it, and none past it
before : (m : Mark) (i : ℕ) → i < m.start → puts m i ≡ false
before m i l = and-false (inks m.content) _ (ap (λ (x : Bool). x && ltb i (past m)) (lt-leb m.start i l))

after : (m : Mark) (i : ℕ) → past m ≤ i → puts m i ≡ false
after m i l = and-false (inks m.content) _ (and-false (leb m.start i) _ (le-ltb i (past m) l))

module _ (size : ℕ) (lent : List ℕ) where
  abbrev C : ℕ → List Mark → ℕ → Type 0
  C a ms b = Chained size (length lent) a ms b

  inked-unput : (s : List ℕ) (at : ℕ) (w : Result Weighed EncodeRefusal) → Puttable size at w (length lent) → (i : ℕ) → i < length s * 8 → inks w && (leb at i && ltb i (at + (size_of w).0)) ≡ false
      → bit_at (inked s at w lent) i ≡ bit_at s i
  inked-unput s at (Ok (Gap n)) p i h f = refl
  inked-unput s at (Err e) p i h f = refl
  inked-unput s at (Ok (Number n r)) p i h f = ⊎_elim (λ (l : i < at). inked-before lent s at (Ok (Number n r)) i l h) (λ (l : at + n.0 ≤ i). inked-after lent size s at (Ok (Number n r)) p i l h) (outside at _ i f)
  inked-unput s at (Ok (Text n lead b)) p i h f = ⊎_elim (λ (l : i < at). inked-before lent s at (Ok (Text n lead b)) i l h) (λ (l : at + n.0 ≤ i). inked-after lent size s at (Ok (Text n lead b)) p i l h) (outside at _ i f)

  painted-unput : (s : List ℕ) (a : ℕ) (ms : List Mark) (b : ℕ) → C a ms b → (i : ℕ) → i < length s * 8 → any_puts ms i ≡ false → bit_at (painted s ms lent) i ≡ bit_at s i
  unfolding painted any_puts
  painted-unput s a [] b c i h f = refl
  painted-unput s a (m ∷ ms) b c i h f =
      let e = length-inked lent s m.start m.content in
      let g = neither (puts m i) (any_puts ms i) f in
      painted-unput (inked s m.start m.content lent) (past m) ms b c.1.1 i (omega (arith, e, h)) g.1 ∙ inked-unput s m.start m.content c.1.0 i h g.0

  unput-ones : (ms : List Mark) (b : ℕ) → C 0 ms b → (i : ℕ) → i < size * 8 → any_puts ms i ≡ false → bit_at (image_of size ms lent) i ≡ 1
  unput-ones ms b c i h f =
      let e = length-replicate {A = ℕ} size 0xff in
      painted-unput (replicate size 0xff) 0 ms b c i (omega (arith, e, h)) f ∙ ones_in size i h

  -- fields put none before them, none past them ..
  unput-before : (a : ℕ) (ms : List Mark) (b : ℕ) → C a ms b → (i : ℕ) → i < a → any_puts ms i ≡ false
  unfolding any_puts
  unput-before a [] b c i l = refl
  unput-before a (m ∷ ms) b c i l = or-false _ _ (before m i (omega (arith, c.0, l))) (unput-before (past m) ms b c.1.1 i (omega (arith, c.0, l)))

  unput-after : (a : ℕ) (ms : List Mark) (b : ℕ) → C a ms b → (i : ℕ) → b ≤ i → any_puts ms i ≡ false
  unfolding any_puts
  unput-after a [] b c i l = refl
  unput-after a (m ∷ ms) b c i l = let k = chained-le size lent (past m) ms b c.1.1 in or-false _ _ (after m i (omega (arith, k, l))) (unput-after (past m) ms b c.1.1 i l)

  -- .. and none of a skipped one's
  unput-gap : (a : ℕ) (us : List Mark) (m : Mark) (ws : List Mark) (b : ℕ) → C a (us ++ m ∷ ws) b → (n : BitPos) → m.content ≡ Ok (Gap n) → (i : ℕ) → m.start ≤ i → i < past m
      → any_puts (us ++ m ∷ ws) i ≡ false
  unfolding any_puts
  unput-gap a [] m ws b c n e i l h = or-false _ _ (ap (λ (w : Result Weighed EncodeRefusal). inks w && (leb m.start i && ltb i (past m))) e) (unput-before (past m) ws b c.1.1 i h)
  unput-gap a (u ∷ us) m ws b c n e i l h = or-false _ _ (after u i (omega (arith, reach (past u) us m ws b c.1.1, l))) (unput-gap (past u) us m ws b c.1.1 n e i l h)
    where
      reach : (a : ℕ) (us : List Mark) (m : Mark) (ws : List Mark) (b : ℕ) → C a (us ++ m ∷ ws) b → a ≤ m.start
      reach a [] m ws b c = let e = c.0 in omega (arith, e)
      reach a (u ∷ us) m ws b c = let e = c.0 in let k = reach (past u) us m ws b c.1.1 in omega (arith, e, k)

-- ## The buffer after a call

-- what an encode that ended wrote ends at its cursor, of which the bytes used are told
pub ends_at : (t : Table) (vs : Values) (lent : List ℕ) (size : ℕ) (ms : List Mark) (s : Pen) → writes_of t vs.offered (length lent) size ≡ ran ms s → end_at ms ≡ s.at.0
ends_at t vs lent size ms s e = chained-end size lent 0 ms s.at.0 (writes-chained t vs.offered lent size ms s e)

-- an encode that is answered by neither 7 nor 8
module _ (t : Table) (vs : Values) (lent buffer : List ℕ) (touched : touches (encoded_of t vs (length lent) (length buffer)) ≡ true) where
  abbrev size : ℕ
  size = length buffer

  -- the fields wholly written
  abbrev wrote : List Mark
  wrote = wrote_of t vs (length lent) size

  begins : begun_of t size ≡ Ok tt
  begins = go (ltb payload_max size) (check_of t) touched
    where
      go : (b : Bool) (c : Checked) → touches (encoded_in (pick b (Err (WrongLength (bytes size))) (by_check c)) t vs (length lent) size) ≡ true
          → pick b (Err (WrongLength (bytes size))) (by_check c) ≡ Ok tt
      go true c h = absurd (false≢true h)
      go false (Ok tt) h = refl
      go false (Err b) h = absurd (false≢true h)

  image : image_of size wrote lent ≡ buffer_after t vs lent buffer
  image = sym (ap (λ (b : Result (Unit {0}) EncodeRefusal). buffer_in b t vs lent buffer) begins)

  chain : Chained size (length lent) 0 wrote (end_at wrote)
  chain = wrote-chained t vs.offered lent size

  -- each bit that no field written puts is 1
  pub ones-unput : (i : ℕ) → i < length buffer * 8 → any_puts wrote i ≡ false → bit_at (buffer_after t vs lent buffer) i ≡ 1
  ones-unput i h f = subst (λ (l : List ℕ). bit_at l i ≡ 1) image (unput-ones size lent wrote (end_at wrote) chain i h f)

  -- "all bits after are ones"; of a refused one those from where the faulty field would begin
  pub ones-after : (i : ℕ) → end_at wrote ≤ i → i < length buffer * 8 → bit_at (buffer_after t vs lent buffer) i ≡ 1
  ones-after i l h = ones-unput i h (unput-after size lent 0 wrote (end_at wrote) chain i l)

  -- "Skipped fields stay ones"
  pub ones-skipped : (us : List Mark) (m : Mark) (ws : List Mark) → wrote ≡ us ++ m ∷ ws → (n : BitPos) → m.content ≡ Ok (Gap n)
      → (i : ℕ) → m.start ≤ i → i < past m → i < length buffer * 8 → bit_at (buffer_after t vs lent buffer) i ≡ 1
  ones-skipped us m ws e n g i l k h =
      let c : Chained size (length lent) 0 (us ++ m ∷ ws) (end_at wrote) = subst (λ (ms : List Mark). Chained size (length lent) 0 ms (end_at wrote)) e chain in
      ones-unput i h (ap (λ (ms : List Mark). any_puts ms i) e ∙ unput-gap size lent 0 us m ws (end_at wrote) c n g i l k)

  -- and each field that was written stands there whole
  pub wrote-stands : All (λ (m : Mark). Inks (bits_at (buffer_after t vs lent buffer)) m.start m.content lent) wrote
  wrote-stands =
      subst (λ (l : List ℕ). All (λ (m : Mark). Inks (bits_at l) m.start m.content lent) wrote) image
      (painted-inks size lent (replicate size 0xff) 0 wrote (end_at wrote) (length-replicate size 0xff) (omega arith) chain)
