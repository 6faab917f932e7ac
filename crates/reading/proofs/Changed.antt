-- The bits of one number changed, which is no counter: the payload is walked alike, and every other reading stays the same.
-- Assumes nothing.
use mathlib.Core.Path.{◌≡◌, refl, sym, ap, ap₂, ◌∙◌, subst}
use mathlib.Core.Bool.{Bool}
use mathlib.Core.List.{List, [], ◌∷◌, ◌++◌}
use Prim.Native.Nat.{ℕ, zero, suc, ◌+◌, ◌%◌, ◌^◌, ◌≤◌, ◌<◌, min}
use native.Mathlib.Omega.{arith}
use borrow.Author.Tests.{ne_eqb}
use Rattle.std.specs.Prelude.{Option, Some, None, Result, Ok}
use Rattle.descriptor.specs.declared.FieldDescriptor.{FieldDescriptor}
use Rattle.tables.specs.Table.{Table}
use Rattle.tables.specs.Check.{check_of, set_max}
use Rattle.walking.specs.Runs.{ran}
use Rattle.walking.specs.Walk.{One, hit, Element}
use Rattle.walking.proofs.Visits.{All, all_left, all_right, all_append, all_map, all-zip, ending-before}
use Rattle.walking.proofs.Alike.{runs-alike}
use Rattle.fields.specs.declared.DecodeRefusal.{DecodeRefusal}
use Rattle.fields.specs.declared.Shape.{Shape}
use Rattle.fields.specs.declared.Shape.TheVariants.{Number, Gap, Fixed, Whole, Lau, Lz}
use Rattle.fields.specs.Payload.{Payload}
use Rattle.fields.specs.Shapes.{shape_of}
use Rattle.fields.specs.Taken.{taken_of}
use Rattle.fields.specs.Content.{raw_in, read_as, read_over}
use Rattle.reading.specs.declared.Span.{Span}
use Rattle.reading.specs.declared.Reading.{Reading}
use Rattle.reading.specs.declared.Progress.{Progress}
use Rattle.reading.specs.Groups.{noted_to, noted_by_lem, too_many}
use Rattle.reading.specs.Decode.{span_at, settled, one_of, count_of, beginning, walk_of, reading_of, with_reading, readings}
use Rattle.reading.specs.Demand3.{past, Chain, Kept}
use Rattle.reading.proofs.Looped.{readings-append}
use Rattle.reading.proofs.Spans.{chain-before, chain-after}
use Rattle.reading.proofs.Local.{Agree, look_of, taken-local, number-taken, reading-local}
use Rattle.reading.proofs.Passed.{says, Right, walk-passed}
use Rattle.reading.proofs.Lasts.{Early, ran-early, early-plainly}

-- ## Counters

-- no set counts by field i
abbrev pub Uncounted : Table → ℕ → Type 0
Uncounted t i = (k : ℕ) → k < t.sets → (t.set k).counter ≡ i → ⊥

-- such a field leaves the counters
uncounted-to : (t : Table) (i r : ℕ) (cs : List ℕ) → Uncounted t i → (k : ℕ) → k ≤ t.sets → noted_to t i r cs k ≡ cs
unfolding noted_to
uncounted-to t i r cs h zero l = refl
uncounted-to t i r cs h (suc k) l = rw (ne_eqb (t.set k).counter i (h k (omega arith))) (uncounted-to t i r cs h k (omega arith))

uncounted : (t : Table) (e : Element) (i : ℕ) (r : Option ℕ) (cs : List ℕ) → Uncounted t i → noted_by_lem t e i r cs ≡ cs
uncounted t None i (Some r) cs h = uncounted-to t i r cs h (min t.sets set_max) (omega arith)
uncounted t None i None cs h = refl
uncounted t (Some e) i r cs h = refl

-- ## Two payloads of one length

module _ (t : Table) (room m : ℕ) (b b' : ℕ → ℕ → ℕ) where
  abbrev p : Payload
  p = record { size = m; bits = b }

  abbrev p' : Payload
  p' = record { size = m; bits = b' }

  -- what a visit asks of the second: nothing, of a number that counts no set; else the bits that it looked at
  pub data Asks (v : Span) : Type 0 where
    free : (strict : Bool) → shape_of (t.field v.field) ≡ Number strict → Uncounted t v.field → Asks v
    same : Agree b b' v.start.0 (past v + look_of (shape_of (t.field v.field))) → Asks v

  -- it takes the same bits ..
  taken-asked : (i : ℕ) (e : Element) (last : Bool) (at n : ℕ) → Asks (span_at i e at n) → taken_of p (t.field i) i last at ≡ Ok n → taken_of p' (t.field i) i last at ≡ Ok n
  taken-asked i e last at n (free strict q h) o = number-taken m b b' i last (t.field i).width at n (shape_of (t.field i)) strict q o
  taken-asked i e last at n (same a) o = taken-local m b b' i last (t.field i).width at n (shape_of (t.field i)) o a

  raw-local : (sh : Shape) (at n : ℕ) → b at n ≡ b' at n → raw_in sh p at n ≡ raw_in sh p' at n
  raw-local (Number strict) at n h = ap Some h
  raw-local Gap at n h = refl
  raw-local Fixed at n h = refl
  raw-local Whole at n h = refl
  raw-local Lau at n h = refl
  raw-local Lz at n h = refl

  -- .. and leaves the same counters
  noted-asked : (i : ℕ) (e : Element) (at n : ℕ) (cs : List ℕ) → Asks (span_at i e at n)
      → noted_by_lem t e i (raw_in (shape_of (t.field i)) p at n) cs ≡ noted_by_lem t e i (raw_in (shape_of (t.field i)) p' at n) cs
  noted-asked i e at n cs (free strict q h) = uncounted t e i _ cs h ∙ sym (uncounted t e i _ cs h)
  noted-asked i e at n cs (same a) = ap (λ (r : Option ℕ). noted_by_lem t e i r cs) (raw-local (shape_of (t.field i)) at n (a at n (omega arith) (omega arith)))

  -- the walk goes on alike where the counters do
  settled-alike : (f : FieldDescriptor) (i : ℕ) (e : Element) (s : Progress) (n : ℕ) (sh : Shape)
      → noted_by_lem t e i (raw_in sh p s.at.0 n) s.counters ≡ noted_by_lem t e i (raw_in sh p' s.at.0 n) s.counters
      → settled t room i e s (Ok (read_as sh f p s.at.0 n)) ≡ settled t room i e s (Ok (read_as sh f p' s.at.0 n))
  settled-alike f i e s n (Number strict) h = rw h
  settled-alike f i e s n Gap h = refl
  settled-alike f i e s n Fixed h = refl
  settled-alike f i e s n Whole h = refl
  settled-alike f i e s n Lau h = refl
  settled-alike f i e s n Lz h = refl

  -- so the second meets the same field
  one_alike : (i : ℕ) (e : Element) (last : Bool) (s : Progress) (v : Span) (z : Progress) → one_of t p room i e last s ≡ hit v z → Asks v → one_of t p' room i e last s ≡ hit v z
  one_alike i e last s v z h a =
      let q = says t p room i e last s v z h in
      let f = t.field i in
      let n = v.bits.0 in
      let asks : Asks (span_at i e s.at.0 n) = subst Asks q.span a in
      let go : Payload → Result ℕ DecodeRefusal → One Span Progress DecodeRefusal = λ (y : Payload) (o : Result ℕ DecodeRefusal). settled t room i e s (read_over o (shape_of f) f y s.at.0) in
      ap (go p') (taken-asked i e last s.at.0 n asks q.took)
      ∙ sym (settled-alike f i e s n (shape_of f) (noted-asked i e s.at.0 n s.counters asks))
      ∙ sym (ap (go p) q.took) ∙ h

  walk-alike : (vs : List Span) (s : Progress) → walk_of t p room ≡ ran vs s → All Asks vs → walk_of t p' room ≡ ran vs s
  walk-alike vs s e h = runs-alike Asks t (one_of t p room) (one_of t p' room) (count_of t p) too_many one_alike beginning s vs e h

  -- ## The readings

  -- a visit whose span is the same in both
  abbrev Still : Span → Type 0
  Still v = Agree b b' v.start.0 (past v)

  readings-still : (vs : List Span) → All (Right t p room) vs → All Still vs → readings t p' vs ≡ readings t p vs
  unfolding readings
  readings-still [] r h = refl
  readings-still (v ∷ vs) r h =
      ap₂ (with_reading (shape_of (t.field v.field))) (reading-local m b b' t v r.0.ruled h.0) (readings-still vs r.1 h.1)

  -- a number has a reading
  number-first : (y : Payload) (v : Span) (vs : List Span) (strict : Bool) → shape_of (t.field v.field) ≡ Number strict → readings t y (v ∷ vs) ≡ reading_of t y v ∷ readings t y vs
  unfolding readings
  number-first y v vs strict q = ap (λ (sh : Shape). with_reading sh (reading_of t y v) (readings t y vs)) q

  -- ## One number changed

  module _ (ok : check_of t ≡ Ok tt) (us : List Span) (v : Span) (ws : List Span) (s : Progress) (run : walk_of t p room ≡ ran (us ++ v ∷ ws) s)
      (strict : Bool) (number : shape_of (t.field v.field) ≡ Number strict) (other : Uncounted t v.field)
      (below : (lo hi : ℕ) → hi ≤ v.start.0 → Agree b b' lo hi) (above : (lo hi : ℕ) → past v ≤ lo → Agree b b' lo hi) where
    -- the spans before it end where it starts or earlier, those after it start where it ends or later
    spans : (0 ≤ v.start.0) × All (λ (u : Span). past u ≤ v.start.0) us × Chain (past v) ws s.at.0
    spans = chain-before 0 us v ws s.at.0 (walk-passed t p room (us ++ v ∷ ws) s run).chain

    later : All (λ (w : Span). past v ≤ w.start.0) ws
    later = chain-after (past v) (past v) ws s.at.0 (omega arith) spans.2

    right : All (Right t p room) (us ++ v ∷ ws)
    right = (walk-passed t p room (us ++ v ∷ ws) s run).right

    -- what stands before the number looked at nothing of it: a StringLz, which looks past its span, is met last
    plainly : All (λ (u : Span). look_of (shape_of (t.field u.field)) ≡ 0) us
    plainly = all-zip (Right t p room) (Early t ok p room) _ us (early-plainly t ok p room)
        (all_left (Right t p room) us (v ∷ ws) right) (ending-before (Early t ok p room) us v ws (ran-early t ok p room (us ++ v ∷ ws) s run))

    -- the payload still decodes, with the very same spans
    still-decodes : walk_of t p' room ≡ ran (us ++ v ∷ ws) s
    still-decodes = walk-alike (us ++ v ∷ ws) s run (all_append Asks us (v ∷ ws)
        (all-zip _ _ Asks us (λ u l q. same (below u.start.0 _ (omega arith))) spans.1 plainly)
        (free strict number other, all_map _ Asks ws (λ w l. same (above w.start.0 _ l)) later))

    still_before : readings t p' us ≡ readings t p us
    still_before = readings-still us (all_left (Right t p room) us (v ∷ ws) right) (all_map _ Still us (λ u l. below u.start.0 (past u) l) spans.1)

    still_after : readings t p' ws ≡ readings t p ws
    still_after = readings-still ws (all_right (Right t p room) us (v ∷ ws) right).1 (all_map _ Still ws (λ w l. above w.start.0 (past w) l) later)

    -- the readings, of either payload
    around : (y : Payload) → readings t y (us ++ v ∷ ws) ≡ readings t y us ++ reading_of t y v ∷ readings t y ws
    around y = readings-append t y us (v ∷ ws) ∙ ap (λ (rs : List Reading). readings t y us ++ rs) (number-first y v ws strict number)

    -- every other reading stays the same
    others : readings t p' (us ++ v ∷ ws) ≡ readings t p us ++ reading_of t p' v ∷ readings t p ws
    others = around p' ∙ ap₂ (λ (qs rs : List Reading). qs ++ reading_of t p' v ∷ rs) still_before still_after

    -- where the span says x, so does its reading
    pub kept : (x : ℕ) → b' v.start.0 v.bits.0 ≡ x % 2 ^ v.bits.0 → Kept t p p' room us v ws s x
    kept x h = record {
      decodes = still-decodes;
      were = around p;
      are = others;
      new = ap (λ (sh : Shape). raw_in sh p' v.start.0 v.bits.0) number ∙ ap Some h;
    }
