-- What a walk says of the fields that it met: their spans, their bits and their count. Assumes nothing.
use mathlib.Core.Path.{◌≡◌, refl, sym, ap, ◌∙◌, subst}
use mathlib.Core.Bool.{Bool, true, false}
use mathlib.Core.List.{List, [], ◌∷◌, ◌++◌}
use Prim.Native.Nat.{ℕ, ◌+◌, ◌*◌, ◌≤◌}
use native.Mathlib.Omega.{arith}
use lib.ListN.{length, length-append}
use lib.Dec.{ltb}
use borrow.Author.Tests.{ltb-false}
use Rattle.std.specs.Prelude.{Result, Ok, Err}
use Rattle.bits.specs.declared.BitPos.{BitPos}
use Rattle.tables.specs.Table.{Table}
use Rattle.walking.specs.Runs.{ran, stopped}
use Rattle.walking.specs.Walk.{One, hit, miss, check, walk_from, Element}
use Rattle.walking.proofs.Visits.{All, all_append}
use Rattle.walking.proofs.Lawful.{Looks, plain, member, Lawful, lawful-fields, lawful-ran, lawful-stopped}
use Rattle.fields.specs.declared.DecodeRefusal.{DecodeRefusal}
use Rattle.fields.specs.declared.DecodeRefusal.TheVariants.{NoRoom}
use Rattle.fields.specs.declared.FieldRead.{FieldRead}
use Rattle.fields.specs.declared.FieldRead.TheVariants as read
use Rattle.fields.specs.Payload.{Payload}
use Rattle.fields.specs.Taken.{taken_of}
use Rattle.fields.specs.Content.{field_read_of}
use Rattle.reading.specs.declared.Span.{Span}
use Rattle.reading.specs.declared.Progress.{Progress}
use Rattle.reading.specs.Groups.{noted_by_lem, too_many}
use Rattle.reading.specs.Decode.{span_at, progress_at, settled, one_of, count_of, beginning, walk_of, readings}
use Rattle.reading.specs.Demand3.{past, Chain, last_by, Ruled}
use Rattle.reading.proofs.Told.{told, gone, lies_in}
use Rattle.reading.proofs.Looped.{readings-append, makes}
use Rattle.reading.proofs.Spans.{chain-append}
use Rattle.reading.proofs.Least.{no_room}

-- where the walk looks, it tells the last field of the table, outside a set
pub looks-last : (t : Table) (n i : ℕ) (e : Element) (last : Bool) → Looks t n i e last → last ≡ last_by t i e
looks-last t n i e last (plain l) = refl
looks-last t n i e last (member k x j l m) = refl

module _ (t : Table) (p : Payload) (room : ℕ) where
  -- one field met
  pub record Says (i : ℕ) (e : Element) (last : Bool) (s : Progress) (v : Span) (z : Progress) : Type 0 where
    pub span : v ≡ span_at i e s.at.0 v.bits.0
    pub took : taken_of p (t.field i) i last s.at.0 ≡ Ok v.bits.0
    pub ahead : z.at.0 ≡ past v

  -- it takes n bits, and the walk goes on after them
  says_at : (i : ℕ) (e : Element) (last : Bool) (s : Progress) (v : Span) (z : Progress) (n : BitPos) (y : Progress)
      → taken_of p (t.field i) i last s.at.0 ≡ Ok n.0 → y.at.0 ≡ s.at.0 + n.0
      → ◌≡◌ {A = One Span Progress DecodeRefusal} (hit (span_at i e s.at.0 n.0) y) (hit v z) → Says i e last s v z
  says_at i e last s v z n y o a h =
      let q : span_at i e s.at.0 n.0 ≡ v = cc in
      let r : y ≡ z = cc in
      record { span = rw (← q); took = rw (← q) o; ahead = rw (← q, ← r) a }

  -- a reading that was met had room
  checked : (b : Bool) (f : DecodeRefusal) (o : One Span Progress DecodeRefusal) (v : Span) (z : Progress) → check b f o ≡ hit v z → o ≡ hit v z
  unfolding check
  checked true f o v z h = h
  checked false f o v z h = cc

  says-by : (i : ℕ) (e : Element) (last : Bool) (s : Progress) (v : Span) (z : Progress) (r : Result FieldRead DecodeRefusal)
      → field_read_of p (t.field i) i last s.at.0 ≡ r → settled t room i e s r ≡ hit v z → Says i e last s v z
  says-by i e last s v z (Ok (read.Got n raw x)) q h =
      let y : Progress = progress_at (s.at.0 + n.0) (s.made + 1) (noted_by_lem t e i raw s.counters) in
      says_at i e last s v z n y (told (t.field i) p s.at.0 n i last raw x q).took refl (checked (ltb s.made room) (NoRoom i) _ v z h)
  says-by i e last s v z (Ok (read.Skipped n)) q h =
      let y : Progress = progress_at (s.at.0 + n.0) s.made s.counters in
      says_at i e last s v z n y (gone (t.field i) p s.at.0 n i last q).took refl h
  says-by i e last s v z (Err f) q h = cc

  pub says : (i : ℕ) (e : Element) (last : Bool) (s : Progress) (v : Span) (z : Progress) → one_of t p room i e last s ≡ hit v z → Says i e last s v z
  says i e last s v z h = says-by i e last s v z (field_read_of p (t.field i) i last s.at.0) refl h

  -- a span that the rules give, of a field that the walk looks at
  pub record Right (v : Span) : Type 0 where
    pub ruled : Ruled t p v
    pub looks : Looks t t.count v.field v.element (last_by t v.field v.element)

  -- the fields met from a state to another
  pub record Passed (s : Progress) (vs : List Span) (z : Progress) : Type 0 where
    pub chain : Chain s.at.0 vs z.at.0
    pub right : All Right vs
    pub made : z.made ≡ s.made + length (readings t p vs)
    pub inside : s.at.0 ≤ p.size * 8 → z.at.0 ≤ p.size * 8

  passed_none : (s : Progress) → Passed s [] s
  unfolding readings
  passed_none s = record { chain = refl; right = tt; made = omega arith; inside = λ l. l }

  passed-both : (s m z : Progress) (us ws : List Span) → Passed s us m → Passed m ws z → Passed s (us ++ ws) z
  passed-both s m z us ws a b =
      let e : length (readings t p (us ++ ws)) ≡ length (readings t p us) + length (readings t p ws) = ap length (readings-append t p us ws) ∙ length-append (readings t p us) (readings t p ws) in
      record {
        chain = chain-append s.at.0 m.at.0 z.at.0 us ws a.chain b.chain;
        right = all_append Right us ws a.right b.right;
        made = omega (arith, a.made, b.made);
        inside = λ l. b.inside (a.inside l);
      }

  right-one : (i : ℕ) (e : Element) (last : Bool) (s : Progress) (v : Span) (z : Progress) → Looks t t.count i e last → Says i e last s v z → Right v
  right-one i e last s v z l q =
      let o : last ≡ last_by t i e = looks-last t t.count i e last l in
      subst Right (sym q.span) (record { ruled = rw (← o) q.took; looks = rw (← o) l })

  pub passed-one : (i : ℕ) (e : Element) (last : Bool) (s : Progress) (v : Span) (z : Progress) → Looks t t.count i e last → one_of t p room i e last s ≡ hit v z → Passed s (v ∷ []) z
  passed-one i e last s v z l h =
      let q = says i e last s v z h in
      let a : v.start.0 ≡ s.at.0 = ap (λ (u : Span). u.start.0) q.span in
      let f = lies_in (t.field i) p s.at.0 v.bits i last q.took in
      record {
        chain = (a, sym q.ahead);
        right = (right-one i e last s v z l q, tt);
        made = makes t p room i e last s v z h;
        inside = λ _. omega (arith, q.ahead, a, f.0);
      }

  -- at a reading that finds no room, as many are made as there is room for
  abbrev pub Full : Progress → DecodeRefusal → Type 0
  Full s f = (i : ℕ) → f ≡ NoRoom i → room ≤ s.made

  full-check : (s : Progress) (b : Bool) (j : ℕ) (v : Span) (z : Progress) (f : DecodeRefusal) → ltb s.made room ≡ b → check b (NoRoom j) (hit v z) ≡ miss f → Full s f
  unfolding check
  full-check s true j v z f q h i e = cc
  full-check s false j v z f q h i e = ltb-false s.made room q

  full_by : (i : ℕ) (e : Element) (last : Bool) (s : Progress) (f : DecodeRefusal) (r : Result FieldRead DecodeRefusal)
      → field_read_of p (t.field i) i last s.at.0 ≡ r → settled t room i e s r ≡ miss f → Full s f
  full_by i e last s f (Ok (read.Got n raw x)) q h j g = full-check s _ i _ _ f refl h j g
  full_by i e last s f (Ok (read.Skipped n)) q h j g = cc
  full_by i e last s f (Err b) q h j g =
      let y : b ≡ NoRoom j = cc in
      absurd (no_room p (t.field i) i last s.at.0 j (q ∙ ap Err y))

  full-over : (k : ℕ) (s : Progress) → Full s (too_many k (count_of t p k s) (t.set k).maximum)
  full-over k s i e = cc

  lawful : Lawful Passed Full beginning (walk_of t p room)
  unfolding walk_from
  lawful = lawful-fields t (one_of t p room) (count_of t p) too_many t.count Passed Full passed_none passed-both passed-one
      (λ i e last s f l h. full_by i e last s f _ refl h) full-over beginning

  -- a walk that ran to its end
  pub walk-passed : (vs : List Span) (s : Progress) → walk_of t p room ≡ ran vs s → Passed beginning vs s
  walk-passed vs s e = lawful-ran (rw e at lawful)

  -- a walk that stopped
  pub walk-stopped : (vs : List Span) (f : DecodeRefusal) → walk_of t p room ≡ stopped vs f → (s : Progress) × Passed beginning vs s
  walk-stopped vs f e = let h = lawful-stopped (rw e at lawful) in (h.0, h.1)

  -- a walk that found no room
  pub walk-full : (vs : List Span) (i : ℕ) → walk_of t p room ≡ stopped vs (NoRoom i) → (s : Progress) × Passed beginning vs s × (room ≤ s.made)
  walk-full vs i e = let h = lawful-stopped (rw e at lawful) in (h.0, h.1, h.2 i refl)
