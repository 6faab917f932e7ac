-- What one turn comes to, by what was read and tested. Assumes nothing.
use mathlib.Core.Path.{◌≡◌, refl, sym, ap, ◌∙◌}
use mathlib.Core.Bool.{Bool, true, false}
use Prim.Native.Nat.{ℕ, ◌+◌, ◌≤◌, ◌<◌}
use Rattle.std.specs.Prelude.{Ok, Err, Result, Option}
use lib.Dec.{leb, ltb}
use lib.ListN.{get_or}
use borrow.Author.Tests.{lt-ltb, le-ltb}
use Rattle.bits.specs.Bits.{pick}
use Rattle.bits.specs.declared.BitPos.{BitPos}
use Rattle.descriptor.specs.declared.PgnValue.{PgnValue}
use Rattle.tables.specs.Table.{Table}
use Rattle.walking.specs.declared.Spot.{Spot}
use Rattle.walking.specs.declared.Spot.TheVariants as spot
use Rattle.walking.specs.declared.Look.{Look}
use Rattle.walking.specs.declared.Look.TheVariants.{Enter}
use Rattle.walking.specs.Walk.{hit, check, Element}
use Rattle.walking.specs.Turns.{moved, broke, either, seen}
use Rattle.walking.specs.Looks.{look_of}
use Rattle.walking.proofs.Looked.{looked}
use Rattle.fields.specs.declared.DecodeRefusal.{DecodeRefusal}
use Rattle.fields.specs.declared.DecodeRefusal.TheVariants.{NoRoom}
use Rattle.fields.specs.declared.FieldRead.{FieldRead}
use Rattle.fields.specs.declared.FieldRead.TheVariants as read
use Rattle.reading.specs.declared.Answer.{Answer}
use Rattle.reading.specs.declared.Answer.TheVariants.{Met, Skipped, Moved}
use Rattle.reading.specs.declared.Next.{Next}
use Rattle.reading.specs.declared.Span.{Span}
use Rattle.reading.specs.declared.Progress.{Progress}
use Rattle.reading.specs.declared.Walk.{Walk}
use Rattle.fields.specs.Payload.{Payload, bits_left}
use Rattle.fields.specs.Content.{field_read_of}
use Rattle.reading.specs.Groups.{noted_by_lem, too_many, group_count_of}
use Rattle.reading.specs.Decode.{span_at, progress_at, settled, one_of, count_of, reading_of}
use Rattle.reading.specs.Steps.{next_to, met_of, shown, next_of, shown_at}
use Rattle.reading.proofs.Told.{told, gone}

module _ (t : Table) (p : Payload) (room : ℕ) (here to : Spot) (i : ℕ) (e : Element) (last : Bool) (s : Progress) where
  -- a field was read so
  abbrev sees : Result FieldRead DecodeRefusal → Next
  sees r = shown t p here (seen to s (settled t room i e s r))

  abbrev result : Result FieldRead DecodeRefusal
  result = field_read_of p (t.field i) i last s.at.0

  abbrev target : Next
  target = shown t p here (seen to s (one_of t p room i e last s))

  checked-in : (b : Bool) (v : Span) (z : Progress) → b ≡ true → next_to (Ok (met_of t p v)) to z ≡ shown t p here (seen to s (check b (NoRoom i) (hit v z)))
  unfolding seen check
  checked-in true v z h = refl
  checked-in false v z h = cc

  checked-out : (b : Bool) (v : Span) (z : Progress) → b ≡ false → next_to (Err (NoRoom i)) here s ≡ shown t p here (seen to s (check b (NoRoom i) (hit v z)))
  unfolding seen check
  checked-out true v z h = cc
  checked-out false v z h = refl

  module _ (n : BitPos) (r : Option ℕ) (x : PgnValue) (h : result ≡ Ok (read.Got n r x)) where
    abbrev span : Span
    span = span_at i e s.at.0 n.0

    abbrev after : Progress
    after = progress_at (s.at.0 + n.0) (s.made + 1) (noted_by_lem t e i r s.counters)

    pub see-met : s.made < room → next_to (Ok (Met (reading_of t p span))) to after ≡ target
    see-met l =
        ap (λ (a : Answer). next_to (Ok a) to after) (sym ((told (t.field i) p s.at.0 n i last r x h).met (reading_of t p span) span))
        ∙ checked-in (ltb s.made room) span after (lt-ltb _ _ l) ∙ ap sees (sym h)

    pub see-full : room ≤ s.made → next_to (Err (NoRoom i)) here s ≡ target
    see-full l = checked-out (ltb s.made room) span after (le-ltb _ _ l) ∙ ap sees (sym h)

  gone-in : (n : BitPos) → next_to (Ok (met_of t p (span_at i e s.at.0 n.0))) to (progress_at (s.at.0 + n.0) s.made s.counters) ≡ sees (Ok (read.Skipped n))
  unfolding seen
  gone-in n = refl

  pub see-gone : (n : BitPos) → result ≡ Ok (read.Skipped n)
      → next_to (Ok (Skipped (span_at i e s.at.0 n.0))) to (progress_at (s.at.0 + n.0) s.made s.counters) ≡ target
  see-gone n h =
      let v : Span = span_at i e s.at.0 n.0 in
      ap (λ (a : Answer). next_to (Ok a) to (progress_at (s.at.0 + n.0) s.made s.counters)) (sym ((gone (t.field i) p s.at.0 n i last h).met (reading_of t p v) v))
      ∙ gone-in n ∙ ap sees (sym h)

  refused-in : (f : DecodeRefusal) → next_to (Err f) here s ≡ sees (Err f)
  unfolding seen
  refused-in f = refl

  pub see-refused : (f : DecodeRefusal) → result ≡ Err f → next_to (Err f) here s ≡ target
  see-refused f h = refused-in f ∙ ap sees (sym h)

-- ## Which field comes next

-- into a set
module _ (t : Table) (p : Payload) (here : Spot) (s : Progress) (k : ℕ) where
  abbrev pub enter_says : Result ℕ DecodeRefusal → Next
  enter_says (Ok n) = next_to (Ok Moved) (spot.Within k n 0 0) s
  enter_says (Err f) = next_to (Err f) here s

  enter-in : (n most : ℕ) (b : Bool) → enter_says (pick b (Ok n) (Err (too_many k n most)))
      ≡ shown t p here (either b (moved (spot.Within k n 0 0) s) (broke (too_many k n most) s))
  unfolding either
  enter-in n most true = refl
  enter-in n most false = refl

  pub enter-says : enter_says (group_count_of t k (get_or s.counters k 0) (bits_left p s.at.0)) ≡ shown_at t p 0 here s (Enter k)
  enter-says = enter-in (count_of t p k s) (t.set k).maximum (leb (count_of t p k s) (t.set k).maximum)

-- what is to be done at the spot where a walk stands, once code has it
pub look-shown : (t : Table) (p : Payload) (room : ℕ) (w : Walk) (l : Look) → l ≡ look_of t w.spot → shown_at t p room w.spot w.progress l ≡ next_of t p room w
look-shown t p room w l q = ap (shown t p w.spot) (looked t (one_of t p room) (count_of t p) too_many w.spot w.progress l q)
