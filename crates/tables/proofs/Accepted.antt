-- What an accepted table keeps: every rule at every index it speaks of, and from that what reading, writing and the later
-- theorems use. Nothing above opens the check's text. Assumes nothing.
use mathlib.Core.Path.{◌≡◌, refl, sym, ap, ◌∙◌, subst}
use mathlib.Core.Logic.{◌⊎◌, inl, inr, ⊎_elim}
use mathlib.Core.Bool.{Bool, true, false, not, ◌&&◌, ◌||◌, false≢true}
use Prim.Native.Nat.{ℕ, zero, suc, ◌+◌, ◌%◌, ◌≤◌, ◌<◌}
use native.Mathlib.Omega.{arith}
use lib.Dec.{leb, ltb, eqb}
use borrow.Author.Tests.{leb-true, ltb-true, eqb-true, not-true}
use Rattle.std.specs.Prelude.{Option, Some, None, Ok}
use Rattle.bits.specs.Bits.{pick}
use Rattle.bits.proofs.Written.{below}
use Rattle.tables.specs.declared.KindClass.{KindClass}
use Rattle.tables.specs.declared.KindClass.TheVariants.{Numeric, Counted, Lasting, Clock, Bits, Real, Gap, Fixed, Lz, Lau, Raw, Unknown}
use Rattle.tables.specs.declared.TableRule.{TableRule}
use Rattle.tables.specs.declared.TableRule.TheVariants.{A, B, C, D, E, F, G, H}
use Rattle.tables.specs.Table.{Table}
use Rattle.tables.specs.Rules.{class_of_lem, known, last_only, width_fits_lem, whole_bytes_lem, within, in_sets_lem, declared_bits_lem, end_before_lem, counts, scaled}
use Rattle.tables.specs.Check.{Checked, keeps, reach, found_from, settle, check_of, payload_max, field_max, set_max}

-- ---- every rule, at every index

unsettled : (rule : TableRule) (x : Option ℕ) (later : Checked) → settle rule x later ≡ Ok tt → (x ≡ None) × (later ≡ Ok tt)
unsettled rule (Some i) later h = let z : ◌≡◌ {A = ℕ} 0 1 = cc in absurd (omega arith)
unsettled rule None later h = (refl, h)

picked : (b : Bool) (x : Option ℕ) (i : ℕ) → pick b x (Some i) ≡ None → (b ≡ true) × (x ≡ None)
picked true x i h = (refl, h)
picked false x i h = let z : ◌≡◌ {A = ℕ} 0 1 = cc in absurd (omega arith)

-- a search that finds nothing
kept_from : (rule : TableRule) (t : Table) (i n : ℕ) → found_from rule t i n ≡ None → (j : ℕ) → i ≤ j → j < i + n → keeps rule t j ≡ true
unfolding found_from
kept_from rule t i zero h j l u = absurd (omega arith)
kept_from rule t i (suc n) h j l u =
    let p = picked (keeps rule t i) (found_from rule t (suc i) n) i h in
    ⊎_elim
    (λ (k : i < j). kept_from rule t (suc i) n p.1 j (omega arith) (omega arith))
    (λ (k : j ≤ i). let e : i ≡ j = omega arith in sym (ap (keeps rule t) e) ∙ p.0)
    (below i j)

module _ (t : Table) (ok : check_of t ≡ Ok tt) where
  none : (rule : TableRule) → found_from rule t 0 (reach rule t) ≡ None
  none rule =
      let a = unsettled A _ _ ok in
      let b = unsettled B _ _ a.1 in
      let c = unsettled C _ _ b.1 in
      let d = unsettled D _ _ c.1 in
      let e = unsettled E _ _ d.1 in
      let f = unsettled F _ _ e.1 in
      let g = unsettled G _ _ f.1 in
      let h = unsettled H _ _ g.1 in
      each a.0 b.0 c.0 d.0 e.0 f.0 g.0 h.0 rule
    where
      each : found_from A t 0 (reach A t) ≡ None → found_from B t 0 (reach B t) ≡ None → found_from C t 0 (reach C t) ≡ None → found_from D t 0 (reach D t) ≡ None
          → found_from E t 0 (reach E t) ≡ None → found_from F t 0 (reach F t) ≡ None → found_from G t 0 (reach G t) ≡ None → found_from H t 0 (reach H t) ≡ None
          → (rule : TableRule) → found_from rule t 0 (reach rule t) ≡ None
      each a b c d e f g h A = a
      each a b c d e f g h B = b
      each a b c d e f g h C = c
      each a b c d e f g h D = d
      each a b c d e f g h E = e
      each a b c d e f g h F = f
      each a b c d e f g h G = g
      each a b c d e f g h H = h

  -- an accepted table keeps every rule at every field or set that the rule speaks of
  pub kept : (rule : TableRule) (i : ℕ) → i < reach rule t → keeps rule t i ≡ true
  kept rule i l = kept_from rule t 0 (reach rule t) (none rule) i (omega arith) (omega arith)

-- ---- and what follows

both : (x y : Bool) → x && y ≡ true → (x ≡ true) × (y ≡ true)
both true y h = (refl, h)
both false y h = absurd (false≢true h)

either : (x y : Bool) → x || y ≡ true → (x ≡ true) ⊎ (y ≡ true)
either true y h = inl refl
either false y h = inr h

pub between : (lo hi n : ℕ) → within lo hi n ≡ true → (lo ≤ n) × (n ≤ hi)
between lo hi n h = let b = both (leb lo n) (leb n hi) h in (leb-true lo n b.0, leb-true n hi b.1)

-- rule a
pub record Sizes (t : Table) : Type 0 where
  pub some : 1 ≤ t.count
  pub fields : t.count ≤ field_max
  pub sets : t.sets ≤ set_max
  pub length : t.length ≤ payload_max
  pub minimum : t.minimum ≤ payload_max
  -- "minimum not above length", where a length is given: 0 is none
  pub ordered : 1 ≤ t.length → t.minimum ≤ t.length

pub sizes : (t : Table) → check_of t ≡ Ok tt → Sizes t
sizes t ok =
    let a = both (within 1 field_max t.count) _ (kept t ok A 0 (omega arith)) in
    let n = between 1 field_max t.count a.0 in
    let s = both (leb t.sets set_max) _ a.1 in
    let l = both (leb t.length payload_max) _ s.1 in
    let m = both (leb t.minimum payload_max) _ l.1 in
    record {
      some = n.0;
      fields = n.1;
      sets = leb-true _ _ s.0;
      length = leb-true _ _ l.0;
      minimum = leb-true _ _ m.0;
      ordered = λ given. ⊎_elim
          (λ (none : eqb t.length 0 ≡ true). let z = eqb-true t.length 0 none in absurd (omega (arith, z, given)))
          (λ (under : leb t.minimum t.length ≡ true). leb-true _ _ under)
          (either (eqb t.length 0) (leb t.minimum t.length) m.1);
    }

-- rule b
pub kinds : (t : Table) → check_of t ≡ Ok tt → (i : ℕ) → i < t.count → known (class_of_lem (t.field i).kind) ≡ true
kinds t ok i l = kept t ok B i l

-- rule c: a width is what its kind allows, and at most 1,784
pub widths : (t : Table) → check_of t ≡ Ok tt → (i : ℕ) → i < t.count → width_fits_lem (class_of_lem (t.field i).kind) (t.field i).width ≡ true
widths t ok i l = kept t ok C i l

bytes_le : (w : ℕ) → whole_bytes_lem w ≡ true → w ≤ 1784
bytes_le w h = (between 8 1784 w (both (eqb (w % 8) 0) (within 8 1784 w) h).1).1

most : (c : KindClass) (w : ℕ) → width_fits_lem c w ≡ true → w ≤ 1784
most Numeric w h = let b = between 1 64 w h in omega arith
most Counted w h = let b = between 1 64 w h in omega arith
most Lasting w h = let b = between 1 64 w h in omega arith
most Clock w h = let b = between 1 64 w h in omega arith
most Bits w h = let b = between 1 64 w h in omega arith
most Gap w h = let b = between 1 64 w h in omega arith
most Unknown w h = let b = between 1 64 w h in omega arith
most Real w h = let e : w ≡ 32 = eqb-true w 32 h in omega arith
most Lz w h = let e : w ≡ 0 = eqb-true w 0 h in omega arith
most Lau w h = let e : w ≡ 0 = eqb-true w 0 h in omega arith
most Fixed w h = bytes_le w h
most Raw w h = ⊎_elim
    (λ (b : whole_bytes_lem w ≡ true). bytes_le w b)
    (λ (b : (not (eqb (w % 8) 0) && leb w 63) ≡ true). let l : w ≤ 63 = leb-true w 63 (both (not (eqb (w % 8) 0)) (leb w 63) b).1 in omega arith)
    (either (whole_bytes_lem w) (not (eqb (w % 8) 0) && leb w 63) h)

pub width-le : (t : Table) → check_of t ≡ Ok tt → (i : ℕ) → i < t.count → (t.field i).width ≤ 1784
width-le t ok i l = most (class_of_lem (t.field i).kind) (t.field i).width (widths t ok i l)

-- rule f: a StringLz is the last field, and in no set
pub last : (t : Table) → check_of t ≡ Ok tt → (i : ℕ) → i < t.count → class_of_lem (t.field i).kind ≡ Lz → (i + 1 ≡ t.count) × (in_sets_lem t i t.sets ≡ false)
last t ok i l e =
    let h : (eqb (i + 1) t.count && not (in_sets_lem t i t.sets)) ≡ true = sym (ap (λ (c : KindClass). not (last_only c) || (eqb (i + 1) t.count && not (in_sets_lem t i t.sets))) e) ∙ kept t ok F i l in
    let b = both (eqb (i + 1) t.count) (not (in_sets_lem t i t.sets)) h in
    (eqb-true _ _ b.0, not-true _ b.1)

-- rule g: a set starts where the one before it has ended, lies in the table, has a field with a width and a maximum
pub record Placed (t : Table) (k : ℕ) : Type 0 where
  pub ascends : end_before_lem t k ≤ (t.set k).start
  pub inside : (t.set k).start + (t.set k).size ≤ t.count
  pub wide : 1 ≤ declared_bits_lem t (t.set k).start (t.set k).size
  pub some : 1 ≤ (t.set k).size
  pub least : 1 ≤ (t.set k).maximum
  pub most : (t.set k).maximum ≤ 255

pub placed : (t : Table) → check_of t ≡ Ok tt → (k : ℕ) → k < t.sets → Placed t k
placed t ok k l =
    let a = both (leb (end_before_lem t k) (t.set k).start) _ (kept t ok G k l) in
    let b = both (leb ((t.set k).start + (t.set k).size) t.count) _ a.1 in
    let d = both (leb 1 (declared_bits_lem t (t.set k).start (t.set k).size)) _ b.1 in
    let e = both (leb 1 (t.set k).size) _ d.1 in
    let m = between 1 255 (t.set k).maximum e.1 in
    record {
      ascends = leb-true _ _ a.0;
      inside = leb-true _ _ b.0;
      wide = leb-true _ _ d.0;
      some = leb-true _ _ e.0;
      least = m.0;
      most = m.1;
    }

-- of two sets the later starts at or after the earlier one's end
pub apart : (t : Table) → check_of t ≡ Ok tt → (j k : ℕ) → j < k → k < t.sets → (t.set j).start + (t.set j).size ≤ (t.set k).start
apart t ok j zero l u = absurd (omega arith)
apart t ok j (suc k) l u =
    let p = placed t ok (suc k) u in
    ⊎_elim
    (λ (h : j < k). let q = apart t ok j k h (omega arith) in omega (arith, p.ascends))
    (λ (h : k ≤ j). let e : j ≡ k = omega arith in subst (λ (i : ℕ). (t.set i).start + (t.set i).size ≤ (t.set (suc k)).start) (sym e) p.ascends)
    (below j k)

-- rule h: a set's counter precedes it, is in no set, is Number or Lookup, unsigned, unscaled, of 1 to 32 bits
pub record Counts (t : Table) (k : ℕ) : Type 0 where
  pub precedes : (t.set k).counter < (t.set k).start
  pub outside : in_sets_lem t (t.set k).counter t.sets ≡ false
  pub kind : counts (t.field (t.set k).counter).kind ≡ true
  pub unsigned : (t.field (t.set k).counter).signed ≡ false
  pub unscaled : scaled (t.field (t.set k).counter).resolution ≡ false
  pub least : 1 ≤ (t.field (t.set k).counter).width
  pub most : (t.field (t.set k).counter).width ≤ 32

pub counter : (t : Table) → check_of t ≡ Ok tt → (k : ℕ) → k < t.sets → Counts t k
counter t ok k l =
    let f = t.field (t.set k).counter in
    let a = both (ltb (t.set k).counter (t.set k).start) _ (kept t ok H k l) in
    let b = both (not (in_sets_lem t (t.set k).counter t.sets)) _ a.1 in
    let c = both (counts f.kind) _ b.1 in
    let d = both (not f.signed) _ c.1 in
    let e = both (not (scaled f.resolution)) _ d.1 in
    let w = between 1 32 f.width e.1 in
    record {
      precedes = ltb-true _ _ a.0;
      outside = not-true _ b.0;
      kind = c.0;
      unsigned = not-true _ d.0;
      unscaled = not-true _ e.0;
      least = w.0;
      most = w.1;
    }
