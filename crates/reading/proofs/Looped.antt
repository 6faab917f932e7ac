-- Turn by turn, a walk comes to what decoding is. Assumes nothing.
use mathlib.Core.Path.{◌≡◌, refl, sym, ap, ap₂, ◌∙◌, subst}
use mathlib.Core.Bool.{Bool, true, false}
use mathlib.Core.List.{List, [], ◌∷◌, ◌++◌, append-nil, append_assoc}
use Rattle.std.specs.Prelude.{Option, Some, None, Result, Ok, Err}
use Prim.Native.Nat.{ℕ, zero, suc, ◌+◌, ◌*◌, ◌≤◌, ◌<◌}
use native.Mathlib.Omega.{arith}
use lib.ListN.{length, length-append}
use lib.Dec.{ltb}
use Rattle.bits.specs.Bits.{pick}
use Rattle.tables.specs.Table.{Table}
use Rattle.tables.specs.Check.{check_of}
use Rattle.tables.proofs.Accepted.{sizes, placed}
use Rattle.walking.specs.declared.Place.TheVariants.{Starts}
use Rattle.walking.specs.Runs.{Run}
use Rattle.walking.specs.Walk.{One, hit, check, place_of, Element}
use Rattle.walking.specs.Turns.{Turn, moved, met, ended, broke}
use Rattle.walking.proofs.Machine.{starts-one, Bounded, weight, Falls, moved-falls, met-falls, falls, Stands, stands-begin, stands-moved, stands-met, stands-ended, stands-broke, Meets, meets, met-law, moved-law, ended-law, broke-law}
use Rattle.fields.specs.declared.DecodeRefusal.{DecodeRefusal}
use Rattle.fields.specs.declared.DecodeRefusal.TheVariants.{NoRoom}
use Rattle.fields.specs.declared.Shape.{Shape}
use Rattle.fields.specs.declared.Shape.TheVariants.{Number, Gap, Fixed, Whole, Lau, Lz}
use Rattle.fields.specs.declared.FieldRead.{FieldRead}
use Rattle.fields.specs.declared.FieldRead.TheVariants as read
use Rattle.reading.specs.declared.Span.{Span}
use Rattle.reading.specs.declared.Reading.{Reading}
use Rattle.reading.specs.declared.Progress.{Progress}
use Rattle.reading.specs.declared.Walk.{Walk}
use Rattle.reading.specs.declared.Answer.{Answer}
use Rattle.reading.specs.declared.Answer.TheVariants.{Met, Skipped, Moved, Ended}
use Rattle.reading.specs.declared.Next.{Next}
use Rattle.reading.specs.declared.Decoded.{Decoded}
use Rattle.fields.specs.Payload.{Payload, payload_of}
use Rattle.fields.specs.Shapes.{shape_of}
use Rattle.fields.specs.Content.{field_read_of}
use Rattle.reading.specs.Filling.{working_of, prepared_of}
use Rattle.reading.specs.Groups.{noted_by_lem, too_many}
use Rattle.reading.specs.Decode.{span_at, progress_at, settled, one_of, count_of, beginning, walk_of, reading_of, with_reading, readings, spans_of, ended_at, refused_with, end_of, read_into, readings_of}
use Rattle.reading.specs.Steps.{met_by, met_of, shown, turn_of, next_of, start_of, goes_on_lem, came_by, came_to_lem, handed, handed_in}
use Rattle.reading.proofs.Told.{told, gone}
use Rattle.reading.proofs.Working.{readied}

-- an accepted table's sets are small
pub small : (t : Table) → check_of t ≡ Ok tt → (i k : ℕ) → place_of t i ≡ Starts k → ((t.set k).size ≤ 64) × ((t.set k).maximum ≤ 255)
small t ok i k e =
    let p = placed t ok k (starts-one t i k e) in
    let s = sizes t ok in
    (omega (arith, p.inside, s.fields), p.most)

-- ## What a turn came to

-- the walk goes on where it came to no answer ..
pub came-on : (a : Result Answer DecodeRefusal) (s : Progress) → came_by a s ≡ None → goes_on_lem a ≡ true
came-on (Ok (Met r)) s h = refl
came-on (Ok (Skipped v)) s h = refl
came-on (Ok Moved) s h = refl
came-on (Ok Ended) s h = cc
came-on (Err f) s h = cc

-- .. said of the turn, once code has what it came to ..
pub goes-on : (n : Next) {m : Option Decoded} → m ≡ came_to_lem n → m ≡ None → goes_on_lem n.answer ≡ true
goes-on n h k = came-on n.answer n.walk.progress (sym h ∙ k)

-- .. and nowhere else
pub came-last : (a : Result Answer DecodeRefusal) (s : Progress) (d : Decoded) → came_by a s ≡ Some d → goes_on_lem a ≡ false
came-last (Ok (Met r)) s d h = cc
came-last (Ok (Skipped v)) s d h = cc
came-last (Ok Moved) s d h = cc
came-last (Ok Ended) s d h = refl
came-last (Err f) s d h = refl

-- ## The readings' count

with_append : (sh : Shape) (r : Reading) (rs qs : List Reading) → with_reading sh r (rs ++ qs) ≡ with_reading sh r rs ++ qs
with_append (Number b) r rs qs = refl
with_append Gap r rs qs = refl
with_append Fixed r rs qs = refl
with_append Whole r rs qs = refl
with_append Lau r rs qs = refl
with_append Lz r rs qs = refl

pub readings-append : (t : Table) (p : Payload) (us vs : List Span) → readings t p (us ++ vs) ≡ readings t p us ++ readings t p vs
unfolding readings
readings-append t p [] vs = refl
readings-append t p (u ∷ us) vs =
    ap (with_reading (shape_of (t.field u.field)) (reading_of t p u)) (readings-append t p us vs) ∙ with_append (shape_of (t.field u.field)) (reading_of t p u) (readings t p us) (readings t p vs)

module _ (t : Table) (p : Payload) (room : ℕ) where
  -- one field more makes as many readings more as it has
  abbrev Makes : Progress → Span → Progress → Type 0
  Makes s v z = z.made ≡ s.made + length (readings t p (v ∷ []))

  one_kept : (v : Span) → ((q : Reading) (qs : List Reading) → with_reading (shape_of (t.field v.field)) q qs ≡ q ∷ qs) → length (readings t p (v ∷ [])) ≡ 1
  unfolding readings
  one_kept v h = ap length (h (reading_of t p v) [])

  none_kept : (v : Span) → ((q : Reading) (qs : List Reading) → with_reading (shape_of (t.field v.field)) q qs ≡ qs) → length (readings t p (v ∷ [])) ≡ 0
  unfolding readings
  none_kept v h = ap length (h (reading_of t p v) [])

  checked-hit : (b : Bool) (f : DecodeRefusal) (v w : Span) (z y : Progress) → check b f (hit w y) ≡ hit v z → (w ≡ v) × (y ≡ z)
  unfolding check
  checked-hit true f v w z y h = (cc, cc)
  checked-hit false f v w z y h = cc

  hit-hit : (v w : Span) (z y : Progress) → ◌≡◌ {A = One Span Progress DecodeRefusal} (hit w y) (hit v z) → (w ≡ v) × (y ≡ z)
  hit-hit v w z y h = (cc, cc)

  makes-by : (i : ℕ) (e : Element) (last : Bool) (s : Progress) (v : Span) (z : Progress) (r : Result FieldRead DecodeRefusal)
      → field_read_of p (t.field i) i last s.at.0 ≡ r → settled t room i e s r ≡ hit v z → Makes s v z
  makes-by i e last s v z (Ok (read.Got n raw x)) q h =
      let w : Span = span_at i e s.at.0 n.0 in
      let y : Progress = progress_at (s.at.0 + n.0) (s.made + 1) (noted_by_lem t e i raw s.counters) in
      let c = checked-hit (ltb s.made room) (NoRoom i) v w z y h in
      let one : length (readings t p (v ∷ [])) ≡ 1 = subst (λ (u : Span). length (readings t p (u ∷ [])) ≡ 1) c.0 (one_kept w (told (t.field i) p s.at.0 n i last raw x q).kept) in
      sym (ap (λ (u : Progress). u.made) c.1) ∙ ap (λ (m : ℕ). s.made + m) (sym one)
  makes-by i e last s v z (Ok (read.Skipped n)) q h =
      let w : Span = span_at i e s.at.0 n.0 in
      let y : Progress = progress_at (s.at.0 + n.0) s.made s.counters in
      let c = hit-hit v w z y h in
      let none : length (readings t p (v ∷ [])) ≡ 0 = subst (λ (u : Span). length (readings t p (u ∷ [])) ≡ 0) c.0 (none_kept w (gone (t.field i) p s.at.0 n i last q).kept) in
      let more : s.made ≡ s.made + 0 = omega arith in
      sym (ap (λ (u : Progress). u.made) c.1) ∙ more ∙ ap (λ (m : ℕ). s.made + m) (sym none)
  makes-by i e last s v z (Err f) q h = cc

  pub makes : (i : ℕ) (e : Element) (last : Bool) (s : Progress) (v : Span) (z : Progress) → one_of t p room i e last s ≡ hit v z → Makes s v z
  makes i e last s v z h = makes-by i e last s v z (field_read_of p (t.field i) i last s.at.0) refl h

  -- ## What a loop over turns knows

  abbrev one : ℕ → Element → Bool → Progress → One Span Progress DecodeRefusal
  one = one_of t p room

  abbrev count : ℕ → Progress → ℕ
  count = count_of t p

  -- the fields met so far, and that decoding is these and then the rest
  pub record Going (w : Walk) : Type 0 where
    pub done : List Span
    pub stands : Stands t one count too_many beginning done w.spot w.progress
    pub made : w.progress.made ≡ length (readings t p done)
    pub bounded : Bounded t one count too_many w.spot

  abbrev pub heft : Walk → ℕ
  heft w = weight t one count too_many w.spot

  pub going : Going start_of
  unfolding readings
  going = record { done = []; stands = stands-begin t one count too_many beginning; made = refl; bounded = tt }

  abbrev pub whole : Decoded
  whole = end_of t p (walk_of t p room)

  abbrev pub all : List Reading
  all = readings t p (spans_of (walk_of t p room))

  -- a walk that goes on after a turn: it has come nearer to its end, and one field more is met at most, whose reading is handed out
  pub record Onward (w : Walk) (g : Going w) (n : Next) : Type 0 where
    pub still : Going n.walk
    pub less : heft n.walk < heft w
    pub hands : readings t p still.done ≡ readings t p g.done ++ handed n.answer

  -- what one turn leaves
  pub record Turned (w : Walk) (g : Going w) (n : Next) : Type 0 where
    pub on : goes_on_lem n.answer ≡ true → Onward w g n
    pub last : goes_on_lem n.answer ≡ false → all ≡ readings t p g.done
    pub ends : n.answer ≡ Ok Ended → whole ≡ ended_at n.walk.progress.at n.walk.progress.made
    pub stops : (f : DecodeRefusal) → n.answer ≡ Err f → whole ≡ refused_with f n.walk.progress.made

  pub met-on : (sh : Shape) (r : Reading) (v : Span) → goes_on_lem (Ok (met_by sh r v)) ≡ true
  met-on (Number b) r v = refl
  met-on Gap r v = refl
  met-on Fixed r v = refl
  met-on Whole r v = refl
  met-on Lau r v = refl
  met-on Lz r v = refl

  -- a field met hands out the reading that it has
  met-hands : (sh : Shape) (r : Reading) (v : Span) → with_reading sh r [] ≡ handed (Ok (met_by sh r v))
  met-hands (Number b) r v = refl
  met-hands Gap r v = refl
  met-hands Fixed r v = refl
  met-hands Whole r v = refl
  met-hands Lau r v = refl
  met-hands Lz r v = refl

  pub one-hands : (v : Span) → readings t p (v ∷ []) ≡ handed (Ok (met_of t p v))
  unfolding readings
  one-hands v = met-hands (shape_of (t.field v.field)) (reading_of t p v) v

  -- a walk that goes on is neither ended nor refused
  turned_on : (w : Walk) (g : Going w) (n : Next) → goes_on_lem n.answer ≡ true → Onward w g n → Turned w g n
  turned_on w g n o h = record {
    on = λ _. h;
    last = λ e. let z : ◌≡◌ {A = Bool} true false = sym o ∙ e in cc;
    ends = λ e. let z : ◌≡◌ {A = Bool} true false = sym o ∙ ap goes_on_lem e in cc;
    stops = λ f e. let z : ◌≡◌ {A = Bool} true false = sym o ∙ ap goes_on_lem e in cc;
  }

  count-done : (w : Walk) (g : Going w) → length (readings t p (g.done ++ [])) ≡ w.progress.made
  count-done w g = ap (λ (vs : List Span). length (readings t p vs)) (append-nil g.done) ∙ sym g.made

  count-more : (w : Walk) (g : Going w) (v : Span) (z : Progress) → Makes w.progress v z → z.made ≡ length (readings t p (g.done ++ v ∷ []))
  count-more w g v z m =
      m ∙ ap (λ (n : ℕ). n + length (readings t p (v ∷ []))) g.made
      ∙ sym (ap length (readings-append t p g.done (v ∷ [])) ∙ length-append (readings t p g.done) (readings t p (v ∷ [])))

  done_all : (w : Walk) (g : Going w) → readings t p (g.done ++ []) ≡ readings t p g.done
  done_all w g = ap (readings t p) (append-nil g.done)

  turned_by : (w : Walk) (g : Going w) (x : Turn Span Progress DecodeRefusal) → turn_of t p room w.spot w.progress ≡ x
      → Falls t one count too_many (heft w) x → Meets t one count too_many Makes makes w.progress x → Turned w g (shown t p w.spot x)
  turned_by w g (moved q z) e f m =
      let h = moved-falls t one count too_many f in
      let same = moved-law t one count too_many Makes makes w.progress m in
      turned_on w g (shown t p w.spot (moved q z)) refl
      (record {
        still = record {
          done = g.done;
          stands = stands-moved t one count too_many beginning g.done w.spot q w.progress z g.stands e;
          made = sym (ap (λ (s : Progress). s.made) same) ∙ g.made;
          bounded = h.0;
        };
        less = h.1;
        hands = sym (append-nil (readings t p g.done));
      })
  turned_by w g (met v q z) e f m =
      let h = met-falls t one count too_many f in
      turned_on w g (shown t p w.spot (met v q z)) (met-on (shape_of (t.field v.field)) (reading_of t p v) v)
      (record {
        still = record {
          done = g.done ++ v ∷ [];
          stands = stands-met t one count too_many beginning g.done w.spot q v w.progress z g.stands e;
          made = count-more w g v z (met-law t one count too_many Makes makes w.progress m);
          bounded = h.0;
        };
        less = h.1;
        hands = readings-append t p g.done (v ∷ []) ∙ ap (λ (rs : List Reading). readings t p g.done ++ rs) (one-hands v);
      })
  turned_by w g (ended z) e f m =
      let same = ended-law t one count too_many Makes makes w.progress m in
      let run = stands-ended t one count too_many beginning g.done w.spot w.progress z g.stands e in
      record {
        on = λ o. cc;
        last = λ _. ap (λ (r : Run Span Progress DecodeRefusal). readings t p (spans_of r)) run ∙ done_all w g;
        ends = λ _. ap (end_of t p) run ∙ ap (ended_at z.at) (count-done w g ∙ ap (λ (s : Progress). s.made) same);
        stops = λ x o. cc;
      }
  turned_by w g (broke b z) e f m =
      let same = broke-law t one count too_many Makes makes w.progress m in
      let run = stands-broke t one count too_many beginning g.done w.spot w.progress z b g.stands e in
      record {
        on = λ o. cc;
        last = λ _. ap (λ (r : Run Span Progress DecodeRefusal). readings t p (spans_of r)) run ∙ done_all w g;
        ends = λ o. cc;
        stops = λ x o. let is : b ≡ x = cc in ap (end_of t p) run ∙ ap₂ refused_with is (count-done w g ∙ ap (λ (s : Progress). s.made) same);
      }

  module _ (ok : check_of t ≡ Ok tt) where
    pub turned : (w : Walk) (g : Going w) → Turned w g (next_of t p room w)
    turned w g =
        turned_by w g (turn_of t p room w.spot w.progress) refl
        (falls t one count too_many (small t ok) w.spot w.progress g.bounded)
        (meets t one count too_many Makes makes w.spot w.progress)

    -- .. once code has it
    pub leaves : {w : Walk} {n : Next} (g : Going w) → n ≡ next_of t p room w → Turned w g n
    leaves {w = w} g e = subst (λ (n : Next). Turned w g n) (sym e) (turned w g)

    -- where a turn came to an answer, that is what decoding comes to
    pub comes-to : (w : Walk) (g : Going w) (n : Next) → Turned w g n → (d : Decoded) → came_to_lem n ≡ Some d → whole ≡ d
    comes-to w g n u d h = go n.answer refl h
      where
        go : (a : Result Answer DecodeRefusal) → n.answer ≡ a → came_by a n.walk.progress ≡ Some d → whole ≡ d
        go (Ok (Met r)) e k = cc
        go (Ok (Skipped v)) e k = cc
        go (Ok Moved) e k = cc
        go (Ok Ended) e k = let y : ended_at n.walk.progress.at n.walk.progress.made ≡ d = cc in u.ends e ∙ y
        go (Err f) e k = let y : refused_with f n.walk.progress.made ≡ d = cc in u.stops f e ∙ y

    -- what was handed out and what the turns still hand out are all the readings
    handed-rest : (n : ℕ) (w : Walk) (g : Going w) → heft w < n → readings t p g.done ++ handed_in t p room n w ≡ all
    unfolding handed_in
    handed-rest zero w g l = absurd (omega arith)
    handed-rest (suc n) w g l = go (goes_on_lem x.answer) refl (λ o. handed-rest n x.walk ((turned w g).on o).still (omega (arith, ((turned w g).on o).less, l)))
      where
        x : Next
        x = next_of t p room w

        go : (b : Bool) → goes_on_lem x.answer ≡ b
            → ((o : goes_on_lem x.answer ≡ true) → readings t p ((turned w g).on o).still.done ++ handed_in t p room n x.walk ≡ all)
            → readings t p g.done ++ pick b (handed x.answer ++ handed_in t p room n x.walk) [] ≡ all
        go true q later =
            sym (append_assoc (readings t p g.done) (handed x.answer) (handed_in t p room n x.walk))
            ∙ ap (λ (rs : List Reading). rs ++ handed_in t p room n x.walk) (sym ((turned w g).on q).hands) ∙ later q
        go false q later = append-nil (readings t p g.done) ∙ sym ((turned w g).last q)

    -- a caller that goes by turns alone is handed all the readings: by an accepted table of c fields, c * 20,000 turns are enough
    pub handed-all : (n : ℕ) → t.count * 20000 < n → handed_in t p room n start_of ≡ all
    unfolding weight readings handed_in going
    handed-all n l = handed-rest n start_of going (omega arith)

-- .. and these are the readings of the received payload: `prepare` said so, and what is walked through is the working payload
pub handed_out : (t : Table) (received : List ℕ) (padded room n : ℕ) → prepared_of t (length received) padded ≡ Ok tt → t.count * 20000 < n
    → handed_in t (payload_of (working_of t received)) room n start_of ≡ readings_of t received padded room
handed_out t received padded room n ready l =
    handed-all t (payload_of (working_of t received)) room (readied t (length received) padded ready).table n l ∙ ap (λ (r : Result (Unit {0}) DecodeRefusal). read_into r t (payload_of (working_of t received)) room) (sym ready)
