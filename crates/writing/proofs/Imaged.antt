-- The image of an encode, its first bytes used and the table's filling, holds each field that was written. Assumes nothing.
use Rattle.std.specs.Prelude.{Result, Ok, Err}
use mathlib.Core.Path.{◌≡◌, refl, sym, ap, ◌∙◌, subst}
use mathlib.Core.List.{List, [], ◌∷◌, ◌++◌}
use Prim.Native.Nat.{ℕ, ◌+◌, ◌*◌, ◌/◌, ◌%◌, ◌≤◌, ◌<◌}
use native.Mathlib.Omega.{arith}
use lib.ListN.{length, take, replicate, length-append, length-take, length-replicate, get_or-append}
use lib.Seq.{get_or-take}
use borrow.Author.Tests.{le-ltb}
use Rattle.bits.specs.Bits.{bit, bit_at, bits_at}
use Rattle.bits.proofs.Laws.{run-local}
use Rattle.tables.specs.Table.{Table}
use Rattle.tables.specs.Check.{check_of, payload_max}
use Rattle.walking.specs.Runs.{Run, ran, stopped}
use Rattle.walking.specs.Walk.{hit, walk_from, Element}
use Rattle.walking.proofs.Visits.{All}
use Rattle.walking.proofs.Lawful.{Lawful, lawful-fields, lawful-ran, lawful-stopped}
use Rattle.fields.specs.Payload.{Payload, payload_of}
use Rattle.reading.specs.Filling.{working_of}
use Rattle.reading.proofs.Local.{Agree}
use Rattle.reading.proofs.Received.{working-fills}
use Rattle.reading.proofs.Working.{working-le}
use Rattle.weighing.specs.declared.EncodeRefusal.{EncodeRefusal}
use Rattle.weighing.specs.declared.Weighed.{Weighed}
use Rattle.offers.specs.declared.Offer.{Offer}
use Rattle.writing.specs.declared.Pen.{Pen}
use Rattle.writing.specs.Ink.{Puttable}
use Rattle.writing.specs.Encode.{Mark, mark_at, pen_after_lem, content_of_lem, settled, one_of, count_of, too_many, beginning, writes_of, bytes_used_lem, marks_of, image_of}
use Rattle.writing.specs.Ones.{past, end_at}
use Rattle.writing.proofs.Contents.{content-puts, pen-past}
use Rattle.writing.proofs.Holding.{Inks, Holds}
use Rattle.writing.proofs.Painted.{inks-local, Chained, chained_append, chained-le, chained-end, chained-inside, length-painted, painted-inks}

-- ## The fields that an encode writes follow one another, and lie in the buffer

module _ (t : Table) (offered : ℕ → Offer) (lent : List ℕ) (size : ℕ) where
  abbrev C : Pen → List Mark → Pen → Type 0
  C s ms z = Chained size (length lent) s.at.0 ms z.at.0

  settled-one : (i : ℕ) (e : Element) (s : Pen) (w : Result Weighed EncodeRefusal) (m : Mark) (z : Pen) → Puttable size s.at.0 w (length lent) → settled t i e s w ≡ hit m z → C s (m ∷ []) z
  settled-one i e s (Ok w) m z l h = let p : mark_at i e s.at.0 (Ok w) ≡ m = cc in let q : pen_after_lem t i e s (Ok w) ≡ z = cc in rw (← p, ← q) (refl, (l, sym (pen-past t i e s w)))
  settled-one i e s (Err f) m z l h = absurd cc

  abbrev Follow : Run Mark Pen EncodeRefusal → Type 0
  Follow w = Lawful C (λ (s : Pen) (f : EncodeRefusal). Unit {0}) beginning w

  chained : Follow (writes_of t offered (length lent) size)
  unfolding walk_from
  chained = lawful-fields t (one_of t offered (length lent) size) (count_of t) too_many t.count C (λ s f. Unit {0}) (λ s. refl)
      (λ s m z us ws a b. chained_append size lent s.at.0 m.at.0 z.at.0 us ws a b)
      (λ i e last s m z l h.
      let w = content_of_lem (offered s.used) (t.field i) i (length lent) size s.at.0 in
      settled-one i e s w m z (content-puts size s.at.0 (length lent) (offered s.used) (t.field i) i) h)
      (λ i e last s f l h. tt) (λ k s. tt) beginning

  -- what an encode that was not refused wrote
  pub writes-chained : (ms : List Mark) (s : Pen) → writes_of t offered (length lent) size ≡ ran ms s → Chained size (length lent) 0 ms s.at.0
  writes-chained ms s e = lawful-ran (rw e at chained)

  -- .. and, ended or refused, up to the end of the last field
  pub wrote-chained : let ms = marks_of (writes_of t offered (length lent) size) in Chained size (length lent) 0 ms (end_at ms)
  wrote-chained = go (writes_of t offered (length lent) size) chained
    where
      to_end : (ms : List Mark) (b : ℕ) → Chained size (length lent) 0 ms b → Chained size (length lent) 0 ms (end_at ms)
      to_end ms b c = subst (λ (x : ℕ). Chained size (length lent) 0 ms x) (sym (chained-end size lent 0 ms b c)) c

      go : (w : Run Mark Pen EncodeRefusal) → Follow w → Chained size (length lent) 0 (marks_of w) (end_at (marks_of w))
      go (ran ms s) l = to_end ms s.at.0 (lawful-ran l)
      go (stopped ms f) l = let a = lawful-stopped l in to_end ms a.0.at.0 a.1

-- ## What is received of them

-- the first n bytes of a buffer have its bits, whatever follows them
bit-first : (l e : List ℕ) (n i : ℕ) → n ≤ length l → i < n * 8 → bit_at (take n l ++ e) i ≡ bit_at l i
bit-first l e n i h g =
    let k = length-take n l in
    ap (λ (x : ℕ). bit x (i % 8)) (get_or-append (take n l) e 0 (i / 8) (omega arith) ∙ get_or-take n l (i / 8) 0 (omega arith))

-- fields that a payload has the bits of
holds-each : (p : Payload) (lent : List ℕ) (size : ℕ) (b : ℕ → ℕ → ℕ) (a : ℕ) (ms : List Mark) (z : ℕ) → Chained size (length lent) a ms z
    → All (λ (m : Mark). Inks b m.start m.content lent) ms → Agree b p.bits 0 z → z ≤ p.size * 8 → All (Holds p lent) ms
holds-each p lent size b a [] z c h g l = tt
holds-each p lent size b a (m ∷ ms) z c h g l =
    let u = chained-le size lent (past m) ms z c.1.1 in (
      record {
        inked = inks-local lent size m.start b p.bits m.content c.1.0 (λ at n o q. g at n (omega arith) (omega arith)) h.0;
        inside = omega arith;
      },
      holds-each p lent size b (past m) ms z c.1.1 h.1 g l,
    )

-- the payload that decode sees of an image
abbrev pub seen_of : Table → List ℕ → ℕ → List Mark → Pen → Payload
seen_of t lent size ms s = payload_of (working_of t (take (bytes_used_lem s) (image_of size ms lent)))

pub record Imaged (t : Table) (lent : List ℕ) (size : ℕ) (ms : List Mark) (s : Pen) : Type 0 where
  pub chain : Chained size (length lent) 0 ms s.at.0
  pub holds : All (Holds (seen_of t lent size ms s) lent) ms
  pub ends : s.at.0 ≤ (seen_of t lent size ms s).size * 8
  pub used : bytes_used_lem s ≤ size
  pub long : length (take (bytes_used_lem s) (image_of size ms lent)) ≡ bytes_used_lem s
  pub short : check_of t ≡ Ok tt → (seen_of t lent size ms s).size ≤ payload_max

-- a payload of 223 bytes at most is so once it is filled
pub working-short : (t : Table) → check_of t ≡ Ok tt → (received : List ℕ) → length received ≤ payload_max → length (working_of t received) ≤ payload_max
working-short t ok received l = working-le t received run (rw (le-ltb payload_max (length received) l, ok))
  where
    run : List ℕ
    run = replicate payload_max 0

pub holds-all : (t : Table) (offered : ℕ → Offer) (lent : List ℕ) (size : ℕ) → size ≤ payload_max → (ms : List Mark) (s : Pen)
    → writes_of t offered (length lent) size ≡ ran ms s → Imaged t lent size ms s
holds-all t offered lent size small ms s e =
    let c = writes-chained t offered lent size ms s e in
    let u = chained-inside size lent 0 ms s.at.0 c (omega arith) in
    let image = image_of size ms lent in
    let n : length image ≡ size = length-painted size lent (replicate size 0xff) ms ∙ length-replicate size 0xff in
    let first = take (bytes_used_lem s) image in
    let k : length first ≡ bytes_used_lem s = (let k = length-take (bytes_used_lem s) image in omega arith) in
    let f = working-fills t in
    let rest = f.added (length first) in
    let w : working_of t first ≡ first ++ rest = f.fills first in
    let long : length (working_of t first) ≡ length first + length rest = ap length w ∙ length-append first rest in
    let z : s.at.0 ≤ length (working_of t first) * 8 = omega arith in
    record {
      chain = c;
      holds = holds-each (seen_of t lent size ms s) lent size (bits_at image) 0 ms s.at.0 c
          (painted-inks size lent (replicate size 0xff) 0 ms s.at.0 (length-replicate size 0xff) (omega arith) c)
          (λ at m o q. sym (ap (λ (l : List ℕ). bits_at l at m) w ∙ run-local (first ++ rest) image at m (λ j g. bit-first image rest (bytes_used_lem s) (at + j) (omega arith) (omega arith))))
          z;
      ends = z;
      used = omega arith;
      long = k;
      short = λ ok. working-short t ok first (omega arith);
    }
