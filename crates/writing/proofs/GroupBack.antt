-- Reading finds as many elements of a set as were written. Assumes nothing.
use Rattle.std.specs.Prelude.{Result, Ok, Err, Some}
use mathlib.Core.Path.{◌≡◌, refl, sym, ap, ◌∙◌, subst}
use mathlib.Core.Bool.{Bool, true, false, and-eq-true_iff}
use mathlib.Core.List.{List}
use Prim.Native.Nat.{ℕ, zero, suc, ◌+◌, ◌*◌, ◌%◌, ◌≤◌, ◌<◌}
use native.Mathlib.Nat.{zero-add, suc-mul, min-eq_left, le-div_iff_mul-le}
use native.Mathlib.Omega.{arith}
use lib.Dec.{eqb}
use lib.ListN.{get_or}
use borrow.Author.Tests.{eqb-true, ne_eqb}
use Rattle.bits.specs.Bits.{pick}
use Rattle.descriptor.specs.declared.FieldDescriptor.{FieldDescriptor}
use Rattle.descriptor.specs.declared.FieldKind.{FieldKind}
use Rattle.descriptor.specs.declared.FieldKind.TheVariants as kind
use Rattle.descriptor.specs.declared.PgnValue.{PgnValue}
use Rattle.tables.specs.Table.{Table}
use Rattle.tables.specs.Rules.{class_of_lem, within, width_fits_lem, declared_bits_lem, group_bits_lem}
use Rattle.tables.specs.Check.{check_of, payload_max}
use Rattle.tables.proofs.Accepted.{placed, widths}
use Rattle.walking.specs.Runs.{Run, ran, times}
use Rattle.walking.specs.Walk.{hit, lift, element_at, Element}
use Rattle.walking.proofs.Runs.{times-last}
use Rattle.walking.proofs.Visits.{All, all_left, all_right}
use Rattle.walking.proofs.Paired.{split, lift-ran}
use Rattle.fields.specs.declared.Shape.{Shape}
use Rattle.fields.specs.declared.Shape.TheVariants as shape
use Rattle.fields.specs.Shapes.{shape_by, shape_of}
use Rattle.fields.specs.Payload.{Payload, bits_left}
use Rattle.reading.specs.Groups.{fitting, element_count_lem}
use Rattle.weighing.specs.declared.EncodeRefusal.{EncodeRefusal}
use Rattle.weighing.specs.declared.Weighed.{Weighed}
use Rattle.offers.specs.declared.Offer.{Offer}
use Rattle.offers.specs.declared.Offer.TheVariants.{Nothing, NoKind, Value}
use Rattle.writing.specs.declared.Pen.{Pen}
use Rattle.writing.specs.Encode.{Mark, mark_at, content_of_lem, pen_after_lem, settled, one_of, count_of, too_many}
use Rattle.writing.specs.Strokes.{size_of}
use Rattle.writing.specs.ReadBack.{Offers}
use Rattle.writing.proofs.Contents.{pen-past}
use Rattle.writing.proofs.Holding.{Holds, Kept}
use Rattle.writing.proofs.Meant.{Meant, a-number, a-gap, a-fixed, a-whole, a-lz, a-lau, an-absent, refused, content-meant}

-- ## The width of a field is no more than the bits that it takes

-- what rule c says of the width, by the shape
abbrev Declares : Shape → ℕ → Type 0
Declares (shape.Number strict) w = Unit {0}
Declares shape.Gap w = Unit {0}
Declares shape.Fixed w = w % 8 ≡ 0
Declares shape.Whole w = Unit {0}
Declares shape.Lau w = w ≡ 0
Declares shape.Lz w = w ≡ 0

declares : (k : FieldKind) (w : ℕ) → width_fits_lem (class_of_lem k) w ≡ true → Declares (shape_by k w) w
declares kind.BitLookup w h = tt
declares kind.Number w h = tt
declares kind.Lookup w h = tt
declares kind.IndirectLookup w h = tt
declares kind.Pgn w h = tt
declares kind.IsoName w h = tt
declares kind.Float w h = tt
declares kind.Reserved w h = tt
declares kind.Spare w h = tt
declares kind.StringFix w h = eqb-true (w % 8) 0 ((and-eq-true_iff (eqb (w % 8) 0) (within 8 1784 w)).0 h).0
declares kind.StringLz w h = eqb-true w 0 h
declares kind.StringLau w h = eqb-true w 0 h
declares kind.Binary w h = go (eqb (w % 8) 0)
  where
    go : (b : Bool) → Declares (pick b shape.Whole (shape.Number false)) w
    go true = tt
    go false = tt
declares kind.Date w h = tt
declares kind.Mmsi w h = tt
declares kind.Duration w h = tt
declares kind.Time w h = tt
declares kind.Decimal w h = tt
declares kind.Unimplemented w h = tt

-- nothing is asked of the values
abbrev Any : PgnValue → Type 0
Any v = Unit {0}

any : (o : Offer) → Offers Any o
any Nothing = tt
any NoKind = tt
any (Value v) = tt

meant-wide : {f : FieldDescriptor} {lent at : ℕ} {sh : Shape} {x : Result Weighed EncodeRefusal} → Declares sh f.width → Meant Any f lent at sh x → Kept x → f.width ≤ (size_of x).0
meant-wide d (a-number v g q l m) k = omega arith
meant-wide d (a-gap l m) k = omega arith
meant-wide d (a-fixed a l m) k = omega (arith, d)
meant-wide d (a-whole a q m) k = omega arith
meant-wide d (a-lz l a m) k = omega (arith, d)
meant-wide d (a-lau g q l a m) k = omega (arith, d)
meant-wide d (an-absent q m) k = omega (arith, d)
meant-wide d refused k = absurd k

-- ## One field met

-- field i, of element e, written as m by a pen that stood at s and then stands at z
pub record Wrote (t : Table) (offered : ℕ → Offer) (lent size i : ℕ) (e : Element) (s : Pen) (m : Mark) (z : Pen) : Type 0 where
  pub content : Result Weighed EncodeRefusal
  pub weighed : content_of_lem (offered s.used) (t.field i) i lent size s.at.0 ≡ content
  pub kept : Kept content
  pub mark : m ≡ mark_at i e s.at.0 content
  pub pen : z ≡ pen_after_lem t i e s content

module _ (t : Table) (offered : ℕ → Offer) (lent size : ℕ) where
  pub wrote : (i : ℕ) (e : Element) (last : Bool) (s : Pen) (m : Mark) (z : Pen) → one_of t offered lent size i e last s ≡ hit m z → Wrote t offered lent size i e s m z
  wrote i e last s m z h = go (content_of_lem (offered s.used) (t.field i) i lent size s.at.0) refl h
    where
      go : (x : Result Weighed EncodeRefusal) → content_of_lem (offered s.used) (t.field i) i lent size s.at.0 ≡ x → settled t i e s x ≡ hit m z → Wrote t offered lent size i e s m z
      go (Ok x) q k = record { content = Ok x; weighed = q; kept = tt; mark = cc; pen = cc }
      go (Err f) q k = absurd cc

  -- the pen then stands after the field's bits
  pen-ahead : (i : ℕ) (e : Element) (s : Pen) (x : Result Weighed EncodeRefusal) → Kept x → (pen_after_lem t i e s x).at.0 ≡ s.at.0 + (size_of x).0
  pen-ahead i e s (Ok x) h = pen-past t i e s x
  pen-ahead i e s (Err f) h = absurd h

  pub ahead : {i : ℕ} {e : Element} {s : Pen} {m : Mark} {z : Pen} → (h : Wrote t offered lent size i e s m z) → z.at.0 ≡ s.at.0 + (size_of h.content).0
  ahead {i = i} {e = e} {s = s} h = ap (λ (y : Pen). y.at.0) h.pen ∙ pen-ahead i e s h.content h.kept

  pub mark-ahead : {i : ℕ} {e : Element} {s : Pen} {m : Mark} {z : Pen} → Wrote t offered lent size i e s m z → z.at.0 ≡ m.start + (size_of m.content).0
  mark-ahead h = ahead h ∙ sym (ap (λ (y : Mark). y.start + (size_of y.content).0) h.mark)

  module _ (ok : check_of t ≡ Ok tt) where
    -- it takes its width or more
    wide : (i : ℕ) (e : Element) (s : Pen) (m : Mark) (z : Pen) → i < t.count → Wrote t offered lent size i e s m z → s.at.0 + (t.field i).width ≤ z.at.0
    wide i e s m z l h =
        let f = t.field i in
        let m = subst (Meant Any f lent s.at.0 (shape_of f)) h.weighed (content-meant Any f lent s.at.0 i size (offered s.used) (any (offered s.used))) in
        let q = meant-wide (declares f.kind f.width (widths t ok i l)) m h.kept in
        omega (arith, q, ahead h)

    -- ## The elements of a set

    module _ (p : Payload) (text : List ℕ) where
      -- from s to z: from a to b bits or more are declared, and where all that is written lies in the payload so does the pen
      record Grows (a b : ℕ) (s : Pen) (ms : List Mark) (z : Pen) : Type 0 where
        pub least : s.at.0 + b ≤ z.at.0 + a
        pub inside : All (Holds p text) ms → s.at.0 ≤ p.size * 8 → z.at.0 ≤ p.size * 8

      -- G n: what the first n of them declare
      times-grow : (f : ℕ → Pen → Run Mark Pen EncodeRefusal) (G : ℕ → ℕ) (n : ℕ)
          → ((j : ℕ) → j < n → (s : Pen) (ms : List Mark) (z : Pen) → f j s ≡ ran ms z → Grows (G j) (G (suc j)) s ms z)
          → (s : Pen) (ms : List Mark) (z : Pen) → times n 0 f s ≡ ran ms z → Grows (G 0) (G n) s ms z
      unfolding times
      times-grow f G zero h s ms z e =
          let q : s.at.0 ≡ z.at.0 = cc in
          record { least = omega arith; inside = λ _ l. omega arith }
      times-grow f G (suc n) h s ms z e =
          let c = split (times n 0 f s) (f (0 + n)) ms z (sym (times-last n 0 f s) ∙ e) in
          let a = times-grow f G n (λ j l. h j (omega arith)) s c.before c.mid c.first in
          let b = h n (omega arith) c.mid c.later z (ap (λ (j : ℕ). f j c.mid) (sym (zero-add n)) ∙ c.second) in
          record {
            least = omega (arith, a.least, b.least);
            inside = λ g l. let y = rw c.all at g in b.inside (all_right _ c.before c.later y) (a.inside (all_left _ c.before c.later y) l);
          }

      one_grows : (i : ℕ) (e : Element) (last : Bool) (a : ℕ) → i < t.count → (s : Pen) (ms : List Mark) (z : Pen) → lift (one_of t offered lent size i e last s) ≡ ran ms z
          → Grows a (a + (t.field i).width) s ms z
      one_grows i e last a l s ms z h =
          let o = lift-ran (one_of t offered lent size i e last s) ms z h in
          let w = wrote i e last s o.0 z o.1 in
          let q = wide i e s o.0 z l w in
          record {
            least = omega arith;
            inside = λ g _. let y = (rw o.2 at g).0 in omega (arith, mark-ahead w, y.inside);
          }

      -- an element of set k has the set's declared bits or more
      element-grows : (k : ℕ) → k < t.sets → (e : ℕ) (s : Pen) (ms : List Mark) (z : Pen) → element_at t (one_of t offered lent size) (count_of t) too_many k e s ≡ ran ms z
          → Grows 0 (group_bits_lem t k) s ms z
      unfolding element_at declared_bits_lem
      element-grows k l e s ms z h =
          let q = placed t ok k l in
          times-grow (λ j y. lift (one_of t offered lent size ((t.set k).start + j) (Some e) false y)) (declared_bits_lem t (t.set k).start) (t.set k).size
          (λ j m x us y. one_grows ((t.set k).start + j) (Some e) false (declared_bits_lem t (t.set k).start j) (omega (arith, q.inside, m)) x us y) s ms z h

      set-grows : (k : ℕ) → k < t.sets → (n : ℕ) (s : Pen) (ms : List Mark) (z : Pen) → times n 0 (element_at t (one_of t offered lent size) (count_of t) too_many k) s ≡ ran ms z
          → Grows (0 * group_bits_lem t k) (n * group_bits_lem t k) s ms z
      set-grows k l n s ms z h =
          times-grow (element_at t (one_of t offered lent size) (count_of t) too_many k) (λ (j : ℕ). j * group_bits_lem t k) n
          (λ e m x us y g.
          let a = element-grows k l e x us y g in
          record { least = omega (arith, a.least, suc-mul e (group_bits_lem t k)); inside = a.inside }) s ms z h

      -- so that reading finds as many: those that lie in the payload fit into what is left of it
      pub count-back : p.size ≤ payload_max → (k : ℕ) → k < t.sets → (s : Pen) (ms : List Mark) (z : Pen)
          → times (count_of t k s) 0 (element_at t (one_of t offered lent size) (count_of t) too_many k) s ≡ ran ms z → All (Holds p text) ms → s.at.0 ≤ p.size * 8
          → element_count_lem t k (get_or s.counters k 0) (bits_left p s.at.0) ≡ count_of t k s
      count-back small k l s ms z h g u =
          let a = set-grows k l (count_of t k s) s ms z h in
          let b = a.inside g u in
          let d : 1 ≤ group_bits_lem t k = (placed t ok k l).wide in
          let y : count_of t k s * group_bits_lem t k ≤ bits_left p s.at.0 = (let q = a.least in omega arith) in
          let x : count_of t k s ≤ fitting t k (bits_left p s.at.0) =
          rw (ne_eqb (group_bits_lem t k) 0 (λ o. omega arith)) ((le-div_iff_mul-le {k = group_bits_lem t k} {x = count_of t k s} {y = bits_left p s.at.0} d).1 y) in
          min-eq_left x
