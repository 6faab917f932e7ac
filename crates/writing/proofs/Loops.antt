-- Turn by turn, a walk comes to what encoding is, and the buffer to its image. Assumes nothing.
use Rattle.std.specs.Prelude.{Result, Ok, Err}
use mathlib.Core.Path.{◌≡◌, refl, sym, ap, ◌∙◌, subst}
use mathlib.Core.Bool.{Bool, true, false}
use mathlib.Core.List.{List, [], ◌∷◌, ◌++◌, append-nil}
use Prim.Native.Nat.{ℕ, ◌≤◌, ◌<◌}
use lib.Dec.{ltb}
use lib.ListN.{length, replicate, length-replicate}
use borrow.Author.Tests.{ltb-true, ltb-false}
use Rattle.bits.specs.declared.ByteCount.{ByteCount}
use Rattle.bits.specs.Calls.{bytes}
use Rattle.tables.specs.Table.{Table}
use Rattle.tables.specs.Check.{check_of}
use Rattle.walking.specs.Runs.{Run, ran}
use Rattle.walking.specs.Walk.{One, hit, Element}
use Rattle.walking.specs.Turns.{Turn, moved, met, ended, broke, turn}
use Rattle.walking.proofs.Looked.{turn-like}
use Rattle.walking.proofs.Machine.{Bounded, weight, Falls, moved-falls, met-falls, falls, Stands, stands-begin, stands-moved, stands-met, stands-ended, stands-broke, Meets, meets, met-law, ended-law}
use Rattle.reading.proofs.Looped.{small}
use Rattle.offers.specs.Values.{Values}
use Rattle.offers.specs.declared.Offer.{Offer}
use Rattle.offers.specs.declared.Offer.TheVariants.{Nothing, NoKind, Value}
use Rattle.weighing.specs.declared.EncodeRefusal.{EncodeRefusal}
use Rattle.weighing.specs.declared.EncodeRefusal.TheVariants.{ValueCount}
use Rattle.weighing.specs.declared.Weighed.{Weighed}
use Rattle.weighing.specs.declared.Weighed.TheVariants as weighed
use Rattle.writing.specs.declared.Pen.{Pen}
use Rattle.writing.specs.declared.Draft.{Draft}
use Rattle.writing.specs.declared.Stroke.{Stroke}
use Rattle.writing.specs.declared.Stroke.TheVariants.{Wrote, Skipped, Moved, Ended}
use Rattle.writing.specs.declared.Stroked.{Stroked}
use Rattle.reading.specs.declared.Span.{Span}
use Rattle.writing.specs.Ink.{inked}
use Rattle.writing.specs.Encode.{Mark, settled, content_of_lem, one_of, count_of, too_many, beginning, writes_of, bytes_used_lem, end_of, marks_of, painted, image_of}
use Rattle.writing.specs.Strokes.{stroke_by, span_of, shown, left_by, turn_of, stroked_of, left_of, start_of}
use Rattle.writing.proofs.Holding.{Kept}
use Rattle.writing.proofs.Painted.{length-painted}

-- values that stand at the places below their count, and at no other
pub record Listed (vs : Values) : Type 0 where
  pub past : (j : ℕ) → vs.count ≤ j → vs.offered j ≡ Nothing
  pub here : (j : ℕ) → j < vs.count → vs.offered j ≡ Nothing → ⊥

-- ## The image

pub length-image : (size : ℕ) (ms : List Mark) (lent : List ℕ) → length (image_of size ms lent) ≡ size
length-image size ms lent = length-painted size lent (replicate size 0xff) ms ∙ length-replicate size 0xff

-- one field more
painted-more : (b : List ℕ) (ms : List Mark) (m : Mark) (lent : List ℕ) → painted b (ms ++ m ∷ []) lent ≡ inked (painted b ms lent) m.start m.content lent
unfolding painted
painted-more b [] m lent = refl
painted-more b (x ∷ ms) m lent = painted-more (inked b x.start x.content lent) ms m lent

-- ## A field met is not refused

-- whether the walk goes on
abbrev pub goes_on_lem : Result Stroke EncodeRefusal → Bool
goes_on_lem (Ok (Wrote v)) = true
goes_on_lem (Ok (Skipped v)) = true
goes_on_lem (Ok Moved) = true
goes_on_lem (Ok Ended) = false
goes_on_lem (Err f) = false

kept_on : (w : Result Weighed EncodeRefusal) (v : Span) → Kept w → goes_on_lem (stroke_by w v) ≡ true
kept_on (Ok (weighed.Number n r)) v k = refl
kept_on (Ok (weighed.Gap n)) v k = refl
kept_on (Ok (weighed.Text n lead b)) v k = refl
kept_on (Err e) v k = absurd k

hit-mark : (v w : Mark) (z y : Pen) → ◌≡◌ {A = One Mark Pen EncodeRefusal} (hit w y) (hit v z) → w ≡ v
hit-mark v w z y h = cc

settled-kept : (t : Table) (i : ℕ) (e : Element) (s : Pen) (v : Mark) (z : Pen) (w : Result Weighed EncodeRefusal) → settled t i e s w ≡ hit v z → Kept v.content
settled-kept t i e s v z (Ok w) h = subst (λ (m : Mark). Kept m.content) (hit-mark v _ z _ h) tt
settled-kept t i e s v z (Err f) h = absurd cc

same-refusal : (e f : EncodeRefusal) → ◌≡◌ {A = Result Stroke EncodeRefusal} (Err e) (Err f) → e ≡ f
same-refusal e f h = cc

-- ## What a loop over turns knows

module _ (t : Table) (vs : Values) (lent : List ℕ) (size : ℕ) where
  abbrev one : ℕ → Element → Bool → Pen → One Mark Pen EncodeRefusal
  one = one_of t vs.offered (length lent) size

  abbrev count : ℕ → Pen → ℕ
  count = count_of t

  abbrev run : Run Mark Pen EncodeRefusal
  run = writes_of t vs.offered (length lent) size

  abbrev pub whole : Result ByteCount EncodeRefusal
  whole = end_of t vs.count run

  abbrev pub all : List ℕ
  all = image_of size (marks_of run) lent

  -- the fields met so far, that encoding is these and then the rest, and that the buffer has these
  pub record Going (d : Draft) (buffer : List ℕ) : Type 0 where
    pub done : List Mark
    pub stands : Stands t one count too_many beginning done d.spot d.pen
    pub bounded : Bounded t one count too_many d.spot
    pub image : buffer ≡ image_of size done lent

  abbrev pub heft : Draft → ℕ
  heft d = weight t one count too_many d.spot

  pub going : Going start_of (replicate size 0xff)
  unfolding painted
  going = record { done = []; stands = stands-begin t one count too_many beginning; bounded = tt; image = refl }

  pub long : (d : Draft) (buffer : List ℕ) → Going d buffer → length buffer ≡ size
  long d buffer g = ap length g.image ∙ length-image size g.done lent

  abbrev Whole : Pen → Mark → Pen → Type 0
  Whole s v z = Kept v.content

  whole-one : (i : ℕ) (e : Element) (last : Bool) (s : Pen) (v : Mark) (z : Pen) → one i e last s ≡ hit v z → Whole s v z
  whole-one i e last s v z h = settled-kept t i e s v z (content_of_lem (vs.offered s.used) (t.field i) i (length lent) size s.at.0) h

  -- what one turn leaves
  pub record Turned (d : Draft) (x : Stroked) (after : List ℕ) : Type 0 where
    pub on : goes_on_lem x.stroke ≡ true → Going x.draft after × (heft x.draft < heft d)
    pub ends : x.stroke ≡ Ok Ended → (whole ≡ Ok (bytes (bytes_used_lem x.draft.pen))) × (after ≡ all)
    pub stops : (f : EncodeRefusal) → x.stroke ≡ Err f → (whole ≡ Err f) × (after ≡ all)

  turned_on : (d : Draft) (x : Stroked) (after : List ℕ) → goes_on_lem x.stroke ≡ true → Going x.draft after × (heft x.draft < heft d) → Turned d x after
  turned_on d x after o h = record {
    on = λ _. h;
    ends = λ e. let z : ◌≡◌ {A = Bool} true false = sym o ∙ ap goes_on_lem e in absurd cc;
    stops = λ f e. let z : ◌≡◌ {A = Bool} true false = sym o ∙ ap goes_on_lem e in absurd cc;
  }

  -- a walk that is over leaves the fields that it met
  over : (d : Draft) (buffer : List ℕ) (g : Going d buffer) (r : Run Mark Pen EncodeRefusal) → run ≡ r → marks_of r ≡ g.done ++ [] → buffer ≡ all
  over d buffer g r e m = g.image ∙ ap (λ (ms : List Mark). image_of size ms lent) (sym (append-nil g.done) ∙ sym m ∙ sym (ap marks_of e))

  -- at the end: "left-over values last"
  module _ (listed : Listed vs) (s : Pen) (ms : List Mark) (e : run ≡ ran ms s) where
    used-up : vs.offered s.used ≡ Nothing → whole ≡ Ok (bytes (bytes_used_lem s))
    used-up q = ap (end_of t vs.count) e ∙ go (ltb s.used vs.count) refl
      where
        go : (b : Bool) → ltb s.used vs.count ≡ b → end_of t vs.count (ran ms s) ≡ Ok (bytes (bytes_used_lem s))
        go true k = absurd (listed.here s.used (ltb-true _ _ k) q)
        go false k = rw k

    left_over : (o : Offer) → vs.offered s.used ≡ o → (o ≡ Nothing → ⊥) → whole ≡ Err (ValueCount t.count)
    left_over o q n = ap (end_of t vs.count) e ∙ go (ltb s.used vs.count) refl
      where
        go : (b : Bool) → ltb s.used vs.count ≡ b → end_of t vs.count (ran ms s) ≡ Err (ValueCount t.count)
        go true k = rw k
        go false k = absurd (n (sym q ∙ listed.past s.used (ltb-false _ _ k)))

  -- what is said at the end
  end-turned : Listed vs → (d : Draft) (buffer : List ℕ) (g : Going d buffer) (z : Pen) → d.pen ≡ z → run ≡ ran (g.done ++ []) z → (o : Offer) → vs.offered d.pen.used ≡ o
      → Turned d (shown t o d.spot (ended z)) buffer
  end-turned listed d buffer g z same e Nothing q =
      let h = used-up listed z (g.done ++ []) e (ap (λ (s : Pen). vs.offered s.used) (sym same) ∙ q) in
      record {
        on = λ k. absurd cc;
        ends = λ _. (h, over d buffer g _ e refl);
        stops = λ f k. absurd cc;
      }
  end-turned listed d buffer g z same e NoKind q =
      let h = left_over listed z (g.done ++ []) e NoKind (ap (λ (s : Pen). vs.offered s.used) (sym same) ∙ q) (λ k. absurd cc) in
      record {
        on = λ k. absurd cc;
        ends = λ k. absurd cc;
        stops = λ f k. (h ∙ ap Err (same-refusal _ f k), over d buffer g _ e refl);
      }
  end-turned listed d buffer g z same e (Value v) q =
      let h = left_over listed z (g.done ++ []) e (Value v) (ap (λ (s : Pen). vs.offered s.used) (sym same) ∙ q) (λ k. absurd cc) in
      record {
        on = λ k. absurd cc;
        ends = λ k. absurd cc;
        stops = λ f k. (h ∙ ap Err (same-refusal _ f k), over d buffer g _ e refl);
      }

  turned_by : Listed vs → (d : Draft) (buffer : List ℕ) (g : Going d buffer) (x : Turn Mark Pen EncodeRefusal) → turn t one count too_many d.spot d.pen ≡ x
      → Falls t one count too_many (heft d) x → Meets t one count too_many Whole whole-one d.pen x → Turned d (shown t (vs.offered d.pen.used) d.spot x) (left_by lent buffer x)
  turned_by listed d buffer g (moved q z) e f m =
      let h = moved-falls t one count too_many f in
      turned_on d (shown t (vs.offered d.pen.used) d.spot (moved q z)) buffer refl (
        record {
          done = g.done;
          stands = stands-moved t one count too_many beginning g.done d.spot q d.pen z g.stands e;
          bounded = h.0;
          image = g.image;
        },
        h.1,
      )
  turned_by listed d buffer g (met v q z) e f m =
      let h = met-falls t one count too_many f in
      turned_on d (shown t (vs.offered d.pen.used) d.spot (met v q z)) (inked buffer v.start v.content lent)
      (kept_on v.content (span_of v) (met-law t one count too_many Whole whole-one d.pen m)) (
        record {
          done = g.done ++ v ∷ [];
          stands = stands-met t one count too_many beginning g.done d.spot q v d.pen z g.stands e;
          bounded = h.0;
          image = ap (λ (b : List ℕ). inked b v.start v.content lent) g.image ∙ sym (painted-more (replicate size 0xff) g.done v lent);
        },
        h.1,
      )
  turned_by listed d buffer g (ended z) e f m =
      end-turned listed d buffer g z (ended-law t one count too_many Whole whole-one d.pen m) (stands-ended t one count too_many beginning g.done d.spot d.pen z g.stands e) (vs.offered d.pen.used) refl
  turned_by listed d buffer g (broke k z) e f m =
      let r = stands-broke t one count too_many beginning g.done d.spot d.pen z k g.stands e in
      record {
        on = λ o. absurd cc;
        ends = λ o. absurd cc;
        stops = λ x o. (ap (end_of t vs.count) r ∙ ap Err (same-refusal k x o), over d buffer g _ r refl);
      }

  -- one turn with the next value
  pub turned : check_of t ≡ Ok tt → Listed vs → (d : Draft) (buffer : List ℕ) (g : Going d buffer)
      → Turned d (stroked_of t (vs.offered d.pen.used) (length lent) (length buffer) d) (left_of t (vs.offered d.pen.used) lent buffer d)
  turned ok listed d buffer g =
      let o = vs.offered d.pen.used in
      let like : turn t one count too_many d.spot d.pen ≡ turn_of t o (length lent) size d
      = turn-like t one (one_of t (λ (j : ℕ). o) (length lent) size) count too_many d.spot d.pen (λ i e last. refl) in
      let same : turn_of t o (length lent) size d ≡ turn_of t o (length lent) (length buffer) d = ap (λ (n : ℕ). turn_of t o (length lent) n d) (sym (long d buffer g)) in
      subst (λ (x : Turn Mark Pen EncodeRefusal). Turned d (shown t o d.spot x) (left_by lent buffer x)) (like ∙ same)
      (turned_by listed d buffer g (turn t one count too_many d.spot d.pen) refl
      (falls t one count too_many (small t ok) d.spot d.pen g.bounded)
      (meets t one count too_many Whole whole-one d.spot d.pen))
