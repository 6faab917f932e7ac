-- Reading walks as writing did: it meets the same fields and elements, at the same spans, with the same counters, and ends where the pen does.
-- Assumes nothing.
use Rattle.std.specs.Prelude.{Result, Ok, Err, None, Some}
use mathlib.Core.Path.{◌≡◌, refl, sym, ap, ap₂, ◌∙◌, subst}
use mathlib.Core.Bool.{Bool}
use mathlib.Core.List.{List, [], ◌∷◌, ◌++◌, map}
use Prim.Native.Nat.{ℕ, ◌+◌, ◌*◌, ◌^◌, ◌≤◌, ◌<◌}
use native.Mathlib.Omega.{arith}
use lib.ListN.{length}
use borrow.Author.Tests.{lt-ltb}
use Rattle.descriptor.specs.declared.PgnValue.{PgnValue}
use Rattle.numbers.specs.Conversions.{raw_of_lem}
use Rattle.numbers.specs.Held.{Held}
use Rattle.tables.specs.Table.{Table}
use Rattle.tables.specs.Check.{check_of, payload_max}
use Rattle.tables.proofs.Accepted.{placed}
use Rattle.walking.specs.Runs.{ran, times}
use Rattle.walking.specs.Walk.{One, hit, check, element_at, walk_from, Element}
use Rattle.walking.proofs.Visits.{All, all_append, all_left}
use Rattle.walking.proofs.Lawful.{Looks, plain, member, lawful-fields, lawful-ran}
use Rattle.walking.proofs.Paired.{Follows, runs-paired}
use Rattle.fields.specs.declared.DecodeRefusal.{DecodeRefusal}
use Rattle.fields.specs.declared.Shape.{Shape}
use Rattle.fields.specs.Payload.{Payload}
use Rattle.fields.specs.Shapes.{shape_of}
use Rattle.fields.specs.Taken.{taken_of}
use Rattle.fields.specs.Content.{read_over, read_as}
use Rattle.reading.specs.declared.Span.{Span}
use Rattle.reading.specs.declared.Progress.{Progress}
use Rattle.reading.specs.Groups.{noted_by_lem}
use Rattle.reading.specs.Groups as groups
use Rattle.reading.specs.Decode.{progress_at, walk_of, reading_of}
use Rattle.reading.specs.Decode as decode
use Rattle.reading.specs.Demand3.{unskipped, unskipped_in}
use Rattle.weighing.specs.declared.EncodeRefusal.{EncodeRefusal}
use Rattle.weighing.specs.declared.Weighed.{Weighed}
use Rattle.weighing.specs.declared.Weighed.TheVariants.{Number, Gap, Text}
use Rattle.offers.specs.declared.Offer.{Offer}
use Rattle.writing.specs.declared.Pen.{Pen}
use Rattle.writing.specs.Encode.{Mark, mark_at, content_of_lem, pen_after_lem, one_of, count_of, too_many, beginning, writes_of}
use Rattle.writing.specs.Strokes.{size_of, span_of}
use Rattle.writing.specs.ReadBack.{spans_in, Back, AllBytes, Offers}
use Rattle.writing.proofs.Holding.{Holds, Kept}
use Rattle.writing.proofs.Fitted.{raw-fits}
use Rattle.writing.proofs.Meant.{byted, Meant, a-number, a-gap, a-fixed, a-whole, a-lz, a-lau, an-absent, refused, content-meant}
use Rattle.writing.proofs.FieldBack.{taken_back, raw-back, back}
use Rattle.writing.proofs.GroupBack.{Wrote, wrote, mark-ahead, count-back}

-- where the fields were met, as a map
spans-map : (ms : List Mark) → spans_in ms ≡ map span_of ms
unfolding spans_in
spans-map [] = refl
spans-map (m ∷ ms) = ap (λ (vs : List Span). span_of m ∷ vs) (spans-map ms)

-- a field met is one of the table's
looks-in : (t : Table) → check_of t ≡ Ok tt → (i : ℕ) (e : Element) (last : Bool) → Looks t t.count i e last → i < t.count
looks-in t ok i e last (plain l) = l
looks-in t ok i e last (member k x j l m) = let p = placed t ok k l in omega (arith, p.inside)

noted-none : (t : Table) (e : Element) (i : ℕ) (cs : List ℕ) → noted_by_lem t e i None cs ≡ cs
noted-none t None i cs = refl
noted-none t (Some x) i cs = refl

-- ## One field, read where it was written

-- the raw of a number that was written
abbrev RawBack : Payload → ℕ → Result Weighed EncodeRefusal → Type 0
RawBack p at (Ok (Number n r)) = p.bits at n.0 ≡ r
RawBack p at (Ok (Gap n)) = Unit {0}
RawBack p at (Ok (Text n lead b)) = Unit {0}
RawBack p at (Err e) = Unit {0}

module _ (lent : ℕ) (t : Table) (p : Payload) (room i : ℕ) (e : Element) (s : Pen) (made : ℕ) where
  -- the reader stands where the pen stood, and then where it stands
  abbrev stood : Progress
  stood = progress_at s.at.0 made s.counters

  abbrev read : Shape → Result Weighed EncodeRefusal → One Span Progress DecodeRefusal
  read sh x = decode.settled t room i e stood (Ok (read_as sh (t.field i) p s.at.0 (size_of x).0))

  abbrev stands : Shape → Result Weighed EncodeRefusal → Progress
  stands sh x = progress_at (pen_after_lem t i e s x).at.0 (made + unskipped sh) (pen_after_lem t i e s x).counters

  settled_back : {sh : Shape} {x : Result Weighed EncodeRefusal} → Meant Held (t.field i) lent s.at.0 sh x → Kept x → RawBack p s.at.0 x → made + unskipped sh ≤ room
      → read sh x ≡ hit (span_of (mark_at i e s.at.0 x)) (stands sh x)
  unfolding check
  settled_back (a-number v g q u m) h r l = rw (lt-ltb made room (omega arith), r)
  settled_back (a-gap u m) h r l = let z : made + 0 ≡ made = omega arith in rw z
  settled_back (a-fixed a u m) h r l = rw (lt-ltb made room (omega arith), noted-none t e i s.counters)
  settled_back (a-whole a q m) h r l = rw (lt-ltb made room (omega arith), noted-none t e i s.counters)
  settled_back (a-lz u a m) h r l = rw (lt-ltb made room (omega arith), noted-none t e i s.counters)
  settled_back (a-lau g q u a m) h r l = rw (lt-ltb made room (omega arith), noted-none t e i s.counters)
  settled_back (an-absent q m) h r l = rw (lt-ltb made room (omega arith), noted-none t e i s.counters)
  settled_back refused h r l = absurd h

-- ## The walk

-- a mark that the walk makes of a field
pub record Penned (t : Table) (offered : ℕ → Offer) (lent size : ℕ) (m : Mark) : Type 0 where
  pub known : m.field < t.count
  pub kept : Kept m.content
  pub turn : ℕ
  pub weighed : content_of_lem (offered turn) (t.field m.field) m.field lent size m.start ≡ m.content

module _ (t : Table) (ok : check_of t ≡ Ok tt) (offered : ℕ → Offer) (lent size : ℕ) where
  penned-one : (i : ℕ) (e : Element) (last : Bool) (s : Pen) (m : Mark) (z : Pen) → Looks t t.count i e last → (w : Wrote t offered lent size i e s m z)
      → Penned t offered lent size (mark_at i e s.at.0 w.content)
  penned-one i e last s m z l w = record { known = looks-in t ok i e last l; kept = w.kept; turn = s.used; weighed = w.weighed }

  -- each is so
  pub all-penned : (ms : List Mark) (s : Pen) → writes_of t offered lent size ≡ ran ms s → All (Penned t offered lent size) ms
  unfolding walk_from
  all-penned ms s e =
      lawful-ran (rw e at
      (lawful-fields t (one_of t offered lent size) (count_of t) too_many t.count (λ (x : Pen) (us : List Mark) (y : Pen). All (Penned t offered lent size) us) (λ (x : Pen) (f : EncodeRefusal). Unit {0})
      (λ x. tt) (λ x m y us ws a b. all_append (Penned t offered lent size) us ws a b)
      (λ i f last x m y l h. let w = wrote t offered lent size i f last x m y h in (subst (Penned t offered lent size) (sym w.mark) (penned-one i f last x m y l w), tt))
      (λ i f last x g l h. tt) (λ k x. tt) beginning))

module _ (t : Table) (ok : check_of t ≡ Ok tt) (offered : ℕ → Offer) (known : (j : ℕ) → Offers Held (offered j)) (lent : List ℕ) (texts : AllBytes lent) (size : ℕ)
    (p : Payload) (small : p.size ≤ payload_max) where
  raws-fit : (i : ℕ) → i < t.count → (v : PgnValue) (r : ℕ) → Held v → raw_of_lem (t.field i) v ≡ Ok r → (t.field i).width ≤ 64 → r < 2 ^ (t.field i).width
  raws-fit i l v r g q w = raw-fits t ok i l v r g q w

  abbrev P : Mark → Type 0
  P = Penned t offered (length lent) size

  takes : (m : Mark) (last : Bool) → P m → Holds p lent m → taken_of p (t.field m.field) m.field last m.start ≡ Ok (size_of m.content).0
  takes m last a h = taken_back Held byted t raws-fit p small lent texts size m.field a.known m.element m.start (offered a.turn) (known a.turn) m.content (sym a.weighed) h last a.kept

  raws : (m : Mark) → P m → Holds p lent m → RawBack p m.start m.content
  raws m a h = go m.content a.weighed h
    where
      go : (x : Result Weighed EncodeRefusal) → content_of_lem (offered a.turn) (t.field m.field) m.field (length lent) size m.start ≡ x
          → Holds p lent (mark_at m.field m.element m.start x) → RawBack p m.start x
      go (Ok (Number n r)) q k = raw-back Held byted t raws-fit p small lent texts size m.field a.known m.element m.start (offered a.turn) (known a.turn) n r (sym q) k
      go (Ok (Gap n)) q k = tt
      go (Ok (Text n lead b)) q k = tt
      go (Err e) q k = tt

  pub reading-back : (m : Mark) → P m → Holds p lent m → Back p lent (reading_of t p (span_of m)) m.content
  reading-back m a h = back Held byted t raws-fit p small lent texts size m.field a.known m.element m.start (offered a.turn) (known a.turn) m.content (sym a.weighed) h a.kept

  module _ (room all : ℕ) (roomy : all ≤ room) where
    -- a reader at the pen's place, with its counters; what it has made and what is still to come are `all`, and all of that lies in the payload
    record Beside (s : Pen) (s' : Progress) (ms : List Mark) : Type 0 where
      pub same : s' ≡ progress_at s.at.0 s'.made s.counters
      pub made : s'.made + unskipped_in t (spans_in ms) ≡ all
      pub inside : s.at.0 ≤ p.size * 8
      pub holds : All (Holds p lent) ms

    unskipped-more : (i : ℕ) (e : Element) (at : ℕ) (x : Result Weighed EncodeRefusal) (m : Mark) (ms : List Mark) → m ≡ mark_at i e at x
        → unskipped_in t (spans_in (m ∷ ms)) ≡ unskipped (shape_of (t.field i)) + unskipped_in t (spans_in ms)
    unfolding spans_in unskipped_in
    unskipped-more i e at x m ms h = ap (λ (y : Mark). unskipped (shape_of (t.field y.field)) + unskipped_in t (spans_in ms)) h

    -- a field met is met beside it
    meets : (i : ℕ) (e : Element) (last : Bool) (s : Pen) (s' : Progress) (m : Mark) (z : Pen) (rest : List Mark) → Looks t t.count i e last
        → one_of t offered (length lent) size i e last s ≡ hit m z → Beside s s' (m ∷ rest)
        → (z' : Progress) × (decode.one_of t p room i e last s' ≡ hit (span_of m) z') × Beside z z' rest
    meets i e last s s' m z rest l h q =
        let f = t.field i in
        let sh = shape_of f in
        let at = s.at.0 in
        let w = wrote t offered (length lent) size i e last s m z h in
        let x = w.content in
        let k : Mark = mark_at i e at x in
        let a = penned-one t ok offered (length lent) size i e last s m z l w in
        let g : Holds p lent k = subst (Holds p lent) w.mark q.holds.0 in
        let n = unskipped-more i e at x m rest w.mark in
        let r : s'.made + unskipped sh ≤ room = (let y = q.made in omega arith) in
        let y = subst (Meant Held f (length lent) at sh) w.weighed (content-meant Held f (length lent) at i size (offered s.used) (known s.used)) in
        let z' = progress_at z.at.0 (s'.made + unskipped sh) z.counters in (
          z',
          ap (decode.one_of t p room i e last) q.same
              ∙ ap (λ (o : Result ℕ DecodeRefusal). decode.settled t room i e (progress_at at s'.made s.counters) (read_over o sh f p at)) (takes k last a g)
              ∙ settled_back (length lent) t p room i e s s'.made y w.kept (raws k a g) r
              ∙ ap₂ (λ (y : Mark) (u : Pen). hit (span_of y) (progress_at u.at.0 (s'.made + unskipped sh) u.counters)) (sym w.mark) (sym w.pen),
          record {
            same = refl;
            made = (let y = q.made in omega arith);
            inside = (let y = q.holds.0.inside in omega (arith, mark-ahead t offered (length lent) size w));
            holds = q.holds.1;
          },
        )

    counts : (k : ℕ) (s : Pen) (s' : Progress) (ms : List Mark) (z : Pen) (rest : List Mark) → k < t.sets
        → times (count_of t k s) 0 (element_at t (one_of t offered (length lent) size) (count_of t) too_many k) s ≡ ran ms z → Beside s s' (ms ++ rest)
        → decode.count_of t p k s' ≡ count_of t k s
    counts k s s' ms z rest l h q =
        ap (decode.count_of t p k) q.same
        ∙ count-back t offered (length lent) size ok p lent small k l s ms z h (all_left (Holds p lent) ms rest q.holds) q.inside

    walks-beside : (ms : List Mark) (s : Pen) → writes_of t offered (length lent) size ≡ ran ms s → All (Holds p lent) ms → unskipped_in t (spans_in ms) ≡ all
        → Follows span_of Beside (walk_of t p room) ms s []
    walks-beside ms s e h n =
        runs-paired span_of Beside t (one_of t offered (length lent) size) (count_of t) too_many (decode.one_of t p room) (decode.count_of t p) groups.too_many meets counts
        beginning s decode.beginning ms e (record { same = refl; made = omega arith; inside = omega arith; holds = h })

  -- reading meets the same fields, elements and spans, and ends where the pen does
  pub walks-back : (room : ℕ) (ms : List Mark) (s : Pen) → writes_of t offered (length lent) size ≡ ran ms s → All (Holds p lent) ms → unskipped_in t (spans_in ms) ≤ room
      → walk_of t p room ≡ ran (spans_in ms) (progress_at s.at.0 (unskipped_in t (spans_in ms)) s.counters)
  unfolding spans_in unskipped_in
  walks-back room ms s e h l =
      let n = unskipped_in t (spans_in ms) in
      let a = walks-beside room n l ms s e h refl in
      let b : a.end.made ≡ n = (let c = a.still.made in omega arith) in
      a.runs ∙ ap₂ (λ (vs : List Span) (y : Progress). ran vs y) (sym (spans-map ms)) (a.still.same ∙ ap (λ (k : ℕ). progress_at s.at.0 k s.counters) b)
