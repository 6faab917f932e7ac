-- A reading that a turn hands out has room. Assumes nothing.
use mathlib.Core.Path.{◌≡◌, refl, sym, ap, ◌∙◌}
use mathlib.Core.Bool.{Bool, true, false}
use mathlib.Core.List.{List, [], ◌++◌}
use Prim.Native.Nat.{ℕ, ◌+◌, ◌≤◌, ◌<◌}
use Rattle.std.specs.Prelude.{Ok, Result, Err}
use lib.ListN.{length, length-append}
use native.Mathlib.Omega.{arith}
use lib.Dec.{ltb}
use borrow.Author.Tests.{ltb-true}
use Rattle.tables.specs.Table.{Table}
use Rattle.walking.specs.Runs.{Run, ran, stopped}
use Rattle.walking.specs.Walk.{One, hit, check, walk_from, Element}
use Rattle.walking.proofs.Lawful.{Lawful, lawful-ran, lawful-stopped, lawful-fields}
use Rattle.walking.specs.Turns.{Turn, moved, met, ended, broke}
use Rattle.walking.proofs.Machine.{Meets, meets, met-law}
use Rattle.fields.specs.declared.DecodeRefusal.{DecodeRefusal}
use Rattle.fields.specs.declared.DecodeRefusal.TheVariants.{NoRoom}
use Rattle.fields.specs.declared.FieldRead.{FieldRead}
use Rattle.fields.specs.declared.FieldRead.TheVariants as read
use Rattle.fields.specs.Payload.{Payload}
use Rattle.fields.specs.Content.{field_read_of}
use Rattle.reading.specs.declared.Span.{Span}
use Rattle.reading.specs.declared.Reading.{Reading}
use Rattle.reading.specs.declared.Progress.{Progress}
use Rattle.reading.specs.declared.Walk.{Walk}
use Rattle.reading.specs.declared.Answer.{Answer}
use Rattle.reading.specs.declared.Answer.TheVariants.{Met, Skipped}
use Rattle.reading.specs.Groups.{noted_by_lem, too_many}
use Rattle.reading.specs.Decode.{span_at, progress_at, settled, one_of, count_of, beginning, walk_of, reading_of, readings, spans_of}
use Rattle.reading.proofs.Looped.{readings-append, makes}
use Rattle.reading.specs.Steps.{met_of, shown, turn_of, next_of}
use Rattle.reading.proofs.Told.{gone}

module _ (t : Table) (p : Payload) (room : ℕ) where
  abbrev Seated : Progress → Span → Progress → Type 0
  Seated s v z = (r : Reading) → met_of t p v ≡ Met r → s.made < room

  checked : (b : Bool) (f : DecodeRefusal) (v w : Span) (z y : Progress) → check b f (hit w y) ≡ hit v z → b ≡ true
  unfolding check
  checked true f v w z y h = refl
  checked false f v w z y h = cc

  hit_same : (v w : Span) (z y : Progress) → ◌≡◌ {A = One Span Progress DecodeRefusal} (hit w y) (hit v z) → w ≡ v
  hit_same v w z y h = cc

  seated-by : (i : ℕ) (e : Element) (last : Bool) (s : Progress) (v : Span) (z : Progress) (q : Result FieldRead DecodeRefusal)
      → field_read_of p (t.field i) i last s.at.0 ≡ q → settled t room i e s q ≡ hit v z → Seated s v z
  seated-by i e last s v z (Ok (read.Got n raw x)) g h r m =
      ltb-true _ _ (checked (ltb s.made room) (NoRoom i) v (span_at i e s.at.0 n.0) z (progress_at (s.at.0 + n.0) (s.made + 1) (noted_by_lem t e i raw s.counters)) h)
  seated-by i e last s v z (Ok (read.Skipped n)) g h r m =
      let w : Span = span_at i e s.at.0 n.0 in
      let o : w ≡ v = hit_same v w z (progress_at (s.at.0 + n.0) s.made s.counters) h in
      let k : ◌≡◌ {A = Answer} (Skipped w) (Met r) = sym ((gone (t.field i) p s.at.0 n i last g).met (reading_of t p w) w) ∙ ap (met_of t p) o ∙ m in
      let y : ◌≡◌ {A = ℕ} 0 1 = cc in
      absurd (omega arith)
  seated-by i e last s v z (Err f) g h r m = cc

  seated : (i : ℕ) (e : Element) (last : Bool) (s : Progress) (v : Span) (z : Progress) → one_of t p room i e last s ≡ hit v z → Seated s v z
  seated i e last s v z h = seated-by i e last s v z (field_read_of p (t.field i) i last s.at.0) refl h

  abbrev one : ℕ → Element → Bool → Progress → One Span Progress DecodeRefusal
  one = one_of t p room

  by_turn : (w : Walk) (r : Reading) (x : Turn Span Progress DecodeRefusal) → Meets t one (count_of t p) too_many Seated seated w.progress x → (shown t p w.spot x).answer ≡ Ok (Met r)
      → w.progress.made < room
  by_turn w r (moved q z) m h = cc
  by_turn w r (met v q z) m h = met-law t one (count_of t p) too_many Seated seated w.progress m r cc
  by_turn w r (ended z) m h = cc
  by_turn w r (broke f z) m h = cc

  pub met-room : (w : Walk) (r : Reading) → (next_of t p room w).answer ≡ Ok (Met r) → w.progress.made < room
  met-room w r h = by_turn w r (turn_of t p room w.spot w.progress) (meets t one (count_of t p) too_many Seated seated w.spot w.progress) h

  -- ## No more readings than there is room for

  hit-state : (v w : Span) (z y : Progress) → ◌≡◌ {A = One Span Progress DecodeRefusal} (hit w y) (hit v z) → y ≡ z
  hit-state v w z y h = cc

  checked-state : (b : Bool) (f : DecodeRefusal) (v w : Span) (z y : Progress) → check b f (hit w y) ≡ hit v z → y ≡ z
  unfolding check
  checked-state true f v w z y h = hit-state v w z y h
  checked-state false f v w z y h = cc

  within_by : (i : ℕ) (e : Element) (s : Progress) (v : Span) (z : Progress) (q : Result FieldRead DecodeRefusal) → settled t room i e s q ≡ hit v z → s.made ≤ room → z.made ≤ room
  within_by i e s v z (Ok (read.Got n raw x)) h l =
      let w : Span = span_at i e s.at.0 n.0 in
      let y : Progress = progress_at (s.at.0 + n.0) (s.made + 1) (noted_by_lem t e i raw s.counters) in
      let m : s.made < room = ltb-true _ _ (checked (ltb s.made room) (NoRoom i) v w z y h) in
      let k : s.made + 1 ≡ z.made = ap (λ (x : Progress). x.made) (checked-state (ltb s.made room) (NoRoom i) v w z y h) in
      omega (arith, m, k)
  within_by i e s v z (Ok (read.Skipped n)) h l =
      let k : s.made ≡ z.made = ap (λ (x : Progress). x.made) (hit-state v (span_at i e s.at.0 n.0) z (progress_at (s.at.0 + n.0) s.made s.counters) h) in
      omega (arith, k, l)
  within_by i e s v z (Err f) h l = cc

  abbrev Within : Progress → List Span → Progress → Type 0
  Within s vs z = (z.made ≡ s.made + length (readings t p vs)) × (s.made ≤ room → z.made ≤ room)

  within_none : (s : Progress) → Within s [] s
  unfolding readings
  within_none s = (omega arith, λ l. l)

  within_both : (s m z : Progress) (us ws : List Span) → Within s us m → Within m ws z → Within s (us ++ ws) z
  within_both s m z us ws a b =
      let e : length (readings t p (us ++ ws)) ≡ length (readings t p us) + length (readings t p ws) = ap length (readings-append t p us ws) ∙ length-append (readings t p us) (readings t p ws) in
      (omega (arith, e, a.0, b.0), λ l. b.1 (a.1 l))

  abbrev Stops : Progress → DecodeRefusal → Type 0
  Stops s f = ℕ

  lawful : Lawful Within Stops beginning (walk_of t p room)
  unfolding walk_from
  lawful = lawful-fields t one (count_of t p) too_many t.count Within Stops within_none within_both
      (λ i e last s v z l h. (makes t p room i e last s v z h, within_by i e s v z (field_read_of p (t.field i) i last s.at.0) h))
      (λ i e last s f l h. 0) (λ k s. 0) beginning

  few-by : (w : Run Span Progress DecodeRefusal) → Lawful Within Stops beginning w → length (readings t p (spans_of w)) ≤ room
  few-by (ran vs z) h = let a = lawful-ran h in let e = a.0 in let l = a.1 (omega arith) in omega (arith, e, l)
  few-by (stopped vs f) h = let a = lawful-stopped h in let e = a.1.0 in let l = a.1.1 (omega arith) in omega (arith, e, l)

  pub few : length (readings t p (spans_of (walk_of t p room))) ≤ room
  few = few-by (walk_of t p room) lawful
