-- The sets before the one that starts at the field start elsewhere.
use Rattle.std.proofs.Common.{◌≡◌, Bool, true, false, None, sym, ap, ◌∙◌, rules, tests}
use Rattle.std.proofs.lemmas.Iterator.{first_from_Range}
use lib.Dec.{eqb}
use Rattle.bits.specs.Bits.{pick}
use Rattle.tables.specs.Table.{table_of}
use Rattle.tables.specs.Rules.{in_sets_lem}
use Rattle.walking.specs.Walk.{place_of}
use Rattle.walking.specs.declared.Place.TheVariants.{Inside, Plain}
use Rattle.walking.proofs.Starts.{placed, place-found}
use Rattle.walking.proofs.places.place_at.Goals as goal
use Rattle.walking.proofs.places.place_at.Goals.{After-find-starting}

found : (c : After-find-starting) → place_of (table_of c.args.words.now) c.args.i ≡ placed (table_of c.args.words.now) c.args.i c.find-starting.result
found c =
    let t = table_of c.args.words.now in
    place-found t c.args.i c.set_count.result c.find-starting.result
    (first_from_Range _ _ _ _ (λ k. eqb (t.set k).start c.args.i ≡ true) (λ k. eqb (t.set k).start c.args.i ≡ false) c.find-starting.ensures.ran (λ x q k. search (rules, tests)) (λ x q k. search (rules, tests)))
    c.set_count.ensures

pub returns-in-Some : goal.returns-in-Some
returns-in-Some c = let h = found (goal.at.returns-in-Some c).After-find-starting in sym (h ∙ ap (placed (table_of c.args.words.now) c.args.i) c.in-Some.is)

-- where no set starts at the field
unfound : (c : After-find-starting) (b : Bool) → c.find-starting.result ≡ None → in_sets_lem (table_of c.args.words.now) c.args.i (table_of c.args.words.now).sets ≡ b → pick b Inside Plain ≡ place_of (table_of c.args.words.now) c.args.i
unfound c b e h = sym (found c ∙ ap (placed (table_of c.args.words.now) c.args.i) e ∙ ap (λ (x : Bool). pick x Inside Plain) h)

pub returns-then-is_repetitive_field : goal.returns-then-is_repetitive_field
returns-then-is_repetitive_field c =
    unfound (goal.at.returns-then-is_repetitive_field c).After-find-starting true c.in_default.is (sym c.is_repetitive_field.ensures ∙ c.if-is_repetitive_field.true)

pub returns-else-is_repetitive_field : goal.returns-else-is_repetitive_field
returns-else-is_repetitive_field c =
    unfound (goal.at.returns-else-is_repetitive_field c).After-find-starting false c.in_default.is (sym c.is_repetitive_field.ensures ∙ c.if-is_repetitive_field.false)
