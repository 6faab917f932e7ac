-- "No refusal is given otherwise", of a whole encode: its number is 2, 3, 5, 7, 8, 10, 11, 12 or 13. So 1 and 6, which a bit call has, are given by none.
-- Assumes nothing.
use Rattle.std.specs.Prelude.{Err, Ok, Result}
use mathlib.Core.Path.{◌≡◌, refl, ap, ◌∙◌, subst}
use mathlib.Core.Bool.{Bool, true, false}
use mathlib.Core.List.{List}
use Prim.Native.Nat.{ℕ, ◌≤◌, ◌<◌}
use lib.Dec.{ltb}
use borrow.Author.Tests.{ltb-false}
use Rattle.bits.specs.Bits.{pick}
use Rattle.bits.specs.Calls.{bytes}
use Rattle.tables.specs.Table.{Table}
use Rattle.tables.specs.Check.{Checked, check_of, payload_max}
use Rattle.walking.specs.Runs.{Run, ran, stopped}
use Rattle.walking.specs.Walk.{miss, walk_from, Element}
use Rattle.walking.proofs.Lawful.{Lawful, lawful-stopped, lawful-fields}
use Rattle.fields.specs.Shapes.{shape_of, is_gap_lem}
use Rattle.reading.proofs.Lasts.{in_table}
use Rattle.weighing.specs.declared.EncodeRefusal.{EncodeRefusal}
use Rattle.weighing.specs.declared.EncodeRefusal.TheVariants.{WrongLength, TableRefused, ValueCount}
use Rattle.weighing.specs.declared.Weighed.{Weighed}
use Rattle.weighing.specs.Refusals.{number_of, given_by_encode}
use Rattle.weighing.specs.Weigh.{gap_of}
use Rattle.weighing.proofs.Given.{Given, weighed-given, gap-given}
use Rattle.offers.specs.Values.{Values}
use Rattle.offers.specs.declared.Offer.{Offer}
use Rattle.offers.specs.declared.Offer.TheVariants.{Nothing, NoKind, Value}
use Rattle.writing.specs.declared.Pen.{Pen}
use Rattle.writing.specs.Encode.{Mark, offered_of, content_of_lem, settled, one_of, count_of, too_many, beginning, writes_of, by_check, bytes_used_lem, end_of, encoded_in, encoded_of}

-- a refusal that an encode gives
abbrev Gives : EncodeRefusal → Type 0
Gives f = given_by_encode (number_of f) ≡ true

settled-gives : (t : Table) (i : ℕ) (e : Element) (s : Pen) (w : Result Weighed EncodeRefusal) (f : EncodeRefusal) → Given w → settled t i e s w ≡ miss f → Gives f
settled-gives t i e s (Ok w) f g h = absurd cc
settled-gives t i e s (Err x) f g h = let k : x ≡ f = cc in subst Gives k g

-- ## The walk

module _ (t : Table) (ok : check_of t ≡ Ok tt) (size : ℕ) (small : size ≤ payload_max) (offered : ℕ → Offer) (lent : ℕ) where
  offered-given : (o : Offer) (i : ℕ) → i < t.count → (at : ℕ) → Given (offered_of o (t.field i) i lent size at)
  offered-given Nothing i l at = refl
  offered-given NoKind i l at = refl
  offered-given (Value v) i l at = weighed-given t ok i l size small at v lent

  content-given : (o : Offer) (i : ℕ) → i < t.count → (at : ℕ) → Given (content_of_lem o (t.field i) i lent size at)
  content-given o i l at = go (is_gap_lem (shape_of (t.field i))) refl
    where
      go : (b : Bool) → is_gap_lem (shape_of (t.field i)) ≡ b → Given (pick b (gap_of (t.field i) i size at) (offered_of o (t.field i) i lent size at))
      go true g = gap-given t ok i l size small at g
      go false g = offered-given o i l at

  abbrev Any : Pen → List Mark → Pen → Type 0
  Any s ms z = Unit {0}

  abbrev Stops : Pen → EncodeRefusal → Type 0
  Stops s f = Gives f

  lawful : Lawful Any Stops beginning (writes_of t offered lent size)
  unfolding walk_from
  lawful = lawful-fields t (one_of t offered lent size) (count_of t) too_many t.count Any Stops (λ s. tt) (λ s m z us ws a b. tt)
      (λ i e last s v z l h. tt)
      (λ i e last s f l h. settled-gives t i e s (content_of_lem (offered s.used) (t.field i) i lent size s.at.0) f (content-given (offered s.used) i (in_table t ok i e last l) s.at.0) h)
      (λ k s. refl) beginning

  walk-gives : (ms : List Mark) (f : EncodeRefusal) → writes_of t offered lent size ≡ stopped ms f → Gives f
  walk-gives ms f e = (lawful-stopped (rw e at lawful)).2

-- ## All of it

module _ (t : Table) (vs : Values) (lent size : ℕ) (f : EncodeRefusal) where
  by_count : (b : Bool) (s : Pen) → pick b (Err (ValueCount t.count)) (Ok (bytes (bytes_used_lem s))) ≡ Err f → Gives f
  by_count true s e = let k : ValueCount t.count ≡ f = cc in subst Gives k refl
  by_count false s e = absurd cc

  by-run : check_of t ≡ Ok tt → size ≤ payload_max → (w : Run Mark Pen EncodeRefusal) → writes_of t vs.offered lent size ≡ w
      → end_of t vs.count w ≡ Err f → Gives f
  by-run ok small (ran ms s) q e = by_count (ltb s.used vs.count) s e
  by-run ok small (stopped ms x) q e = let k : x ≡ f = cc in walk-gives t ok size small vs.offered lent ms f (q ∙ ap (stopped ms) k)

  by-begun : (b : Bool) → ltb payload_max size ≡ b → (c : Checked) → check_of t ≡ c
      → encoded_in (pick b (Err (WrongLength (bytes size))) (by_check c)) t vs lent size ≡ Err f → Gives f
  by-begun true l c q e = let k : WrongLength (bytes size) ≡ f = cc in subst Gives k refl
  by-begun false l (Ok tt) q e = by-run q (ltb-false payload_max size l) (writes_of t vs.offered lent size) refl e
  by-begun false l (Err b) q e = let k : TableRefused b.rule b.index ≡ f = cc in subst Gives k refl

  -- any table, values, lent text and buffer: the refusal of an encode has one of its numbers
  pub encode-gives : encoded_of t vs lent size ≡ Err f → given_by_encode (number_of f) ≡ true
  encode-gives h = by-begun (ltb payload_max size) refl (check_of t) refl h
