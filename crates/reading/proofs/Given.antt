-- "No refusal is given otherwise", of a whole decode: its number is 2, 3, 4, 5, 7, 8 or 9. So 1 and 6, which a bit call has, are given by none. And those that touch no
-- buffer, 7 and 8, are given before the walk, the others by it. Assumes nothing.
use mathlib.Core.Path.{◌≡◌, refl, sym, ap, ◌∙◌, subst}
use mathlib.Core.Bool.{Bool, true, false, ◌||◌, false≢true}
use mathlib.Core.List.{List}
use mathlib.Core.Logic.{◌⊎◌, ⊎_elim}
use Prim.Native.Nat.{ℕ, ◌≤◌}
use lib.Dec.{eqb, ltb}
use lib.ListN.{length}
use borrow.Author.Tests.{eqb-true}
use Rattle.std.specs.Prelude.{Err, Ok}
use Rattle.bits.specs.Bits.{pick}
use Rattle.bits.specs.Calls.{bytes}
use Rattle.tables.specs.Table.{Table}
use Rattle.tables.specs.Check.{Checked, check_of, payload_max}
use Rattle.walking.specs.Runs.{stopped}
use Rattle.fields.specs.declared.DecodeRefusal.{DecodeRefusal}
use Rattle.fields.specs.declared.DecodeRefusal.TheVariants.{WrongLength, TableRefused}
use Rattle.fields.specs.Payload.{Payload}
use Rattle.fields.specs.Refusals.{number_of, touches_nothing_lem, given_in_walk, given_by_decode}
use Rattle.fields.proofs.Given.{Given, field-given}
use Rattle.reading.specs.declared.Span.{Span}
use Rattle.reading.specs.Filling.{by_check, prepared_of}
use Rattle.reading.specs.Decode.{walk_of, decoded_of_lem, refused_with}
use Rattle.reading.proofs.Lasts.{in_table}
use Rattle.reading.proofs.Stopped.{walk-refusal, decode-refusal}

-- a refusal that the walk gives
abbrev Gives : DecodeRefusal → Type 0
Gives f = given_in_walk (number_of f) ≡ true

-- one that is given before it
abbrev pub Spares : DecodeRefusal → Type 0
Spares f = touches_nothing_lem (number_of f) ≡ true

-- no number is of both
apart : (n : ℕ) → given_in_walk n ≡ true → touches_nothing_lem n ≡ true → ⊥
apart n g h = go (eqb n 7) (eqb n 8) refl refl h
  where
    go : (a b : Bool) → eqb n 7 ≡ a → eqb n 8 ≡ b → a || b ≡ true → ⊥
    go true b e f z = false≢true (ap given_in_walk (sym (eqb-true n 7 e)) ∙ g)
    go false true e f z = false≢true (ap given_in_walk (sym (eqb-true n 8 f)) ∙ g)
    go false false e f z = false≢true z

-- ## The walk

module _ (t : Table) (ok : check_of t ≡ Ok tt) (p : Payload) (small : p.size ≤ payload_max) (room : ℕ) where
  walk-gives : (vs : List Span) (f : DecodeRefusal) → walk_of t p room ≡ stopped vs f → Gives f
  walk-gives = walk-refusal t p room Gives
      (λ i e last at f l w h. subst Given h (field-given t ok i (in_table t ok i e last l) p small last at)) (λ i. refl) (λ k n m. refl)

-- ## All of it

pub prepared-spares : (t : Table) (received padded : ℕ) (f : DecodeRefusal) → prepared_of t received padded ≡ Err f → Spares f
prepared-spares t received padded f h = go (ltb payload_max received) (eqb padded payload_max) (check_of t) h
  where
    go : (a b : Bool) (c : Checked)
        → pick a (Err (WrongLength (bytes received))) (pick b (by_check c) (Err (WrongLength (bytes padded)))) ≡ Err f → Spares f
    go true b c e = let k : WrongLength (bytes received) ≡ f = cc in subst Spares k refl
    go false false c e = let k : WrongLength (bytes padded) ≡ f = cc in subst Spares k refl
    go false true (Ok tt) e = cc
    go false true (Err b) e = let k : TableRefused b.rule b.index ≡ f = cc in subst Spares k refl

or-true : (b : Bool) → b || true ≡ true
or-true true = refl
or-true false = refl

module _ (t : Table) (received padded : List ℕ) (room : ℕ) (f : DecodeRefusal) (n : ℕ) where
  module _ (h : decoded_of_lem t received (length padded) room ≡ refused_with f n) where
    -- the walk gave it, or it was given before
    gave : Gives f ⊎ (prepared_of t (length received) (length padded) ≡ Err f)
    gave = decode-refusal t received padded room f n Gives (λ ok small vs e. walk-gives t ok _ small room vs f e) h

    spared : prepared_of t (length received) (length padded) ≡ Err f → Spares f
    spared q = prepared-spares t (length received) (length padded) f q

    -- any table, payload, padding run and room: the refusal of a decode has one of its numbers
    pub decode-gives : given_by_decode (number_of f) ≡ true
    decode-gives =
        ⊎_elim (λ g. ap (λ (b : Bool). b || touches_nothing_lem (number_of f)) g)
        (λ q. ap (λ (b : Bool). given_in_walk (number_of f) || b) (spared q) ∙ or-true (given_in_walk (number_of f))) gave

    -- one that touches no buffer was given before the walk ..
    pub before-walk : touches_nothing_lem (number_of f) ≡ true → prepared_of t (length received) (length padded) ≡ Err f
    before-walk z = ⊎_elim (λ g. absurd (apart (number_of f) g z)) (λ q. q) gave

    -- .. and any other by it
    pub in-walk : touches_nothing_lem (number_of f) ≡ false → given_in_walk (number_of f) ≡ true
    in-walk z = ⊎_elim (λ g. g) (λ q. absurd (false≢true (sym z ∙ spared q))) gave
