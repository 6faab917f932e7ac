-- What one turn comes to, by what was weighed and tested. Assumes nothing.
use Rattle.std.specs.Prelude.{Result, Ok, Err}
use mathlib.Core.Path.{◌≡◌, refl, ap, ap₂, ◌∙◌}
use mathlib.Core.Bool.{Bool, true, false}
use mathlib.Core.List.{List}
use Prim.Native.Nat.{ℕ, ◌≤◌, ◌<◌}
use lib.Dec.{leb}
use lib.ListN.{length}
use borrow.Author.Tests.{le-leb, lt-leb}
use Rattle.walking.specs.Walk.{Element}
use Rattle.tables.specs.Table.{Table}
use Rattle.walking.specs.declared.Spot.{Spot}
use Rattle.walking.specs.declared.Spot.TheVariants as spot
use Rattle.walking.specs.declared.Look.{Look}
use Rattle.walking.specs.declared.Look.TheVariants.{End, Pass, Enter, Meet}
use Rattle.walking.specs.Turns.{Turn, moved, broke, either, seen}
use Rattle.walking.specs.Looks.{look_of, enter_with, turn_at}
use Rattle.walking.proofs.Looked.{looked}
use Rattle.offers.specs.declared.Offer.{Offer}
use Rattle.weighing.specs.declared.EncodeRefusal.{EncodeRefusal}
use Rattle.weighing.specs.declared.Weighed.{Weighed}
use Rattle.writing.specs.declared.Pen.{Pen}
use Rattle.writing.specs.declared.Draft.{Draft}
use Rattle.writing.specs.declared.Stroke.TheVariants.{Moved}
use Rattle.writing.specs.Ink.{inked}
use Rattle.writing.specs.Encode.{Mark, mark_at, content_of_lem, pen_after_lem, settled, one_of, count_of, too_many}
use Rattle.writing.specs.Strokes.{stroked_to, stroke_by, spot_by, span_of, shown, left_by, turn_of, left_of, put_by, weighing_to, weighing_at, weighing_of}

module _ (t : Table) (o : Offer) (here : Spot) where
  -- at a field
  pub settled-shown : (i : ℕ) (e : Element) (s : Pen) (to : Spot) (w : Result Weighed EncodeRefusal)
      → stroked_to (stroke_by w (span_of (mark_at i e s.at.0 w))) (spot_by w to here) (pen_after_lem t i e s w) ≡ shown t o here (seen to s (settled t i e s w))
  unfolding seen
  settled-shown i e s to (Ok w) = refl
  settled-shown i e s to (Err f) = refl

  pub settled-left : (lent buffer : List ℕ) (i : ℕ) (e : Element) (s : Pen) (to : Spot) (w : Result Weighed EncodeRefusal) → inked buffer s.at.0 w lent ≡ left_by lent buffer (seen to s (settled t i e s w))
  unfolding seen
  settled-left lent buffer i e s to (Ok w) = refl
  settled-left lent buffer i e s to (Err f) = refl

  -- where a set starts: it is entered, or has too many elements
  module _ (lent size : ℕ) where
    abbrev entered : ℕ → ℕ → Pen → Turn Mark Pen EncodeRefusal
    entered k n s = enter_with t (one_of t (λ (j : ℕ). o) lent size) (count_of t) too_many k n s

    pub enters : (k n : ℕ) (s : Pen) → n ≤ (t.set k).maximum → stroked_to (Ok Moved) (spot.Within k n 0 0) s ≡ shown t o here (entered k n s)
    unfolding either
    enters k n s l = rw (le-leb _ _ l)

    pub exceeds : (k n : ℕ) (s : Pen) → (t.set k).maximum < n → stroked_to (Err (too_many k n (t.set k).maximum)) here s ≡ shown t o here (entered k n s)
    unfolding either
    exceeds k n s l = rw (lt-leb _ _ l)

    -- which leaves the buffer as it was
    pub enters-left : (text buffer : List ℕ) (k n : ℕ) (s : Pen) → buffer ≡ left_by text buffer (entered k n s)
    unfolding either
    enters-left text buffer k n s = go (leb n (t.set k).maximum)
      where
        go : (b : Bool) → buffer ≡ left_by text buffer (either b (moved (spot.Within k n 0 0) s) (broke (too_many k n (t.set k).maximum) s))
        go true = refl
        go false = refl

-- what is to be done at the spot where a walk stands, once code has it
module _ (t : Table) (o : Offer) (d : Draft) (l : Look) (q : l ≡ look_of t d.spot) where
  abbrev turned : ℕ → ℕ → Turn Mark Pen EncodeRefusal
  turned lent size = turn_at t (one_of t (λ (j : ℕ). o) lent size) (count_of t) too_many l d.pen

  same : (lent size : ℕ) → turned lent size ≡ turn_of t o lent size d
  same lent size = looked t (one_of t (λ (j : ℕ). o) lent size) (count_of t) too_many d.spot d.pen l q

  pub look-weighed : (lent size : ℕ) → weighing_at t o lent size d.spot d.pen l ≡ weighing_of t o lent size d
  look-weighed lent size = ap₂ weighing_to (ap (shown t o d.spot) (same lent size)) (ap (put_by t o lent size d.pen) q)

-- what was weighed, put where the pen stands, is what a turn leaves
pub left-inked : (t : Table) (o : Offer) (d : Draft) (lent buffer : List ℕ) → inked buffer d.pen.at.0 (weighing_of t o (length lent) (length buffer) d).content lent ≡ left_of t o lent buffer d
left-inked t o d lent buffer = by (look_of t d.spot) ∙ ap (left_by lent buffer) (same t o d (look_of t d.spot) refl (length lent) (length buffer))
  where
    by : (l : Look) → inked buffer d.pen.at.0 (put_by t o (length lent) (length buffer) d.pen l) lent
        ≡ left_by lent buffer (turn_at t (one_of t (λ (j : ℕ). o) (length lent) (length buffer)) (count_of t) too_many l d.pen)
    by End = refl
    by (Pass q) = refl
    by (Enter k) = enters-left t o d.spot (length lent) (length buffer) lent buffer k (count_of t k d.pen) d.pen
    by (Meet i e last q) = settled-left t o d.spot lent buffer i e d.pen q (content_of_lem o (t.field i) i (length lent) (length buffer) d.pen.at.0)
