-- What rules c, f and g of the table check say of the fields met: a StringLz is met last, and no field but the last takes no bits.
-- Assumes nothing.
use mathlib.Core.Path.{◌≡◌, refl, sym, ap, ◌∙◌, subst}
use mathlib.Core.Logic.{◌⊎◌, inl, inr, ⊎_elim}
use mathlib.Core.Bool.{Bool, true, false, not, ◌&&◌, ◌||◌, and-eq-true_iff, or-false, true≢false}
use mathlib.Core.List.{List}
use Prim.Native.Nat.{ℕ, ◌+◌, ◌-◌, ◌*◌, ◌/◌, ◌%◌, ◌≤◌, ◌<◌}
use native.Mathlib.Omega.{arith}
use lib.Dec.{eqb, leb, ltb}
use borrow.Author.Tests.{leb-true, eq-eqb, le-leb, lt-ltb}
use Rattle.std.specs.Prelude.{Ok, Some}
use Rattle.bits.specs.Bits.{pick}
use Rattle.descriptor.specs.declared.FieldKind.{FieldKind}
use Rattle.descriptor.specs.declared.FieldKind.TheVariants as kind
use Rattle.tables.specs.Table.{Table}
use Rattle.tables.specs.Rules.{class_of_lem, within, whole_bytes_lem, width_fits_lem, in_set}
use Rattle.tables.specs.Check.{check_of}
use Rattle.tables.proofs.Accepted as accepted
use Rattle.tables.proofs.Accepted.{placed, widths}
use Rattle.tables.proofs.Searches.{in_one}
use Rattle.walking.specs.Runs.{ran, stopped}
use Rattle.walking.specs.Walk.{hit, Element}
use Rattle.walking.proofs.Visits.{All, Ending}
use Rattle.walking.proofs.Lawful.{Looks, plain, member, Ends, ends-walk, ran_ends, stopped-ends}
use Rattle.fields.specs.declared.DecodeRefusal.{DecodeRefusal}
use Rattle.fields.specs.declared.Shape.{Shape}
use Rattle.fields.specs.declared.Shape.TheVariants.{Number, Gap, Fixed, Whole, Lau, Lz}
use Rattle.fields.specs.Payload.{Payload}
use Rattle.fields.specs.Shapes.{binary_of, shape_by, shape_of}
use Rattle.reading.specs.declared.Span.{Span}
use Rattle.reading.specs.declared.Progress.{Progress}
use Rattle.reading.specs.Groups.{too_many}
use Rattle.reading.specs.Decode.{one_of, count_of, beginning, walk_of}
use Rattle.reading.specs.Demand3.{last_by}
use Rattle.reading.proofs.Least.{least_of, least-took}
use Rattle.reading.proofs.Local.{look_of}
use Rattle.reading.proofs.Passed.{looks-last, says, Right}

-- ## The kinds

-- the bits that a field of a width takes at the least, if it is not the last one
abbrev fewest : Shape → ℕ → ℕ
fewest (Number strict) w = 1
fewest Gap w = 1
fewest Fixed w = 8 * (w / 8)
fewest Whole w = 8 * (w / 8)
fewest Lau w = 8
fewest Lz w = 8

-- only StringLz looks past its span, and a width that rule c allows is some bits
record Drawn (k : FieldKind) (sh : Shape) (w : ℕ) : Type 0 where
  pub plainly : (look_of sh ≡ 0) ⊎ (k ≡ kind.StringLz)
  pub wide : width_fits_lem (class_of_lem k) w ≡ true → 1 ≤ fewest sh w

number : (k : FieldKind) (strict : Bool) (w : ℕ) → Drawn k (Number strict) w
number k strict w = record { plainly = inl refl; wide = λ _. omega arith }

gap : (k : FieldKind) (w : ℕ) → Drawn k Gap w
gap k w = record { plainly = inl refl; wide = λ _. omega arith }

bytes-wide : (w : ℕ) → within 8 1784 w ≡ true → 1 ≤ 8 * (w / 8)
bytes-wide w h = let l = leb-true 8 w ((and-eq-true_iff (leb 8 w) (leb w 1784)).0 h).0 in omega arith

fixed-wide : (w : ℕ) → whole_bytes_lem w ≡ true → 1 ≤ 8 * (w / 8)
fixed-wide w h = bytes-wide w ((and-eq-true_iff (eqb (w % 8) 0) (within 8 1784 w)).0 h).1

-- a Binary of whole bytes, and one that is a number
binary : (w : ℕ) → Drawn kind.Binary (binary_of w) w
binary w = go (eqb (w % 8) 0) refl
  where
    go : (c : Bool) → eqb (w % 8) 0 ≡ c → Drawn kind.Binary (pick c Whole (Number false)) w
    go true q = record { plainly = inl refl; wide = λ h. bytes-wide w (sym (or-false (within 8 1784 w)) ∙ sym (ap (λ (x : Bool). (x && within 8 1784 w) || (not x && leb w 63)) q) ∙ h) }
    go false q = number kind.Binary false w

drawn : (k : FieldKind) (w : ℕ) → Drawn k (shape_by k w) w
drawn kind.BitLookup w = number _ true w
drawn kind.Number w = number _ true w
drawn kind.Lookup w = number _ true w
drawn kind.IndirectLookup w = number _ true w
drawn kind.Pgn w = number _ true w
drawn kind.IsoName w = number _ true w
drawn kind.Float w = number _ false w
drawn kind.Reserved w = gap _ w
drawn kind.Spare w = gap _ w
drawn kind.StringFix w = record { plainly = inl refl; wide = fixed-wide w }
drawn kind.StringLz w = record { plainly = inr refl; wide = λ _. omega arith }
drawn kind.StringLau w = record { plainly = inl refl; wide = λ _. omega arith }
drawn kind.Binary w = binary w
drawn kind.Date w = number _ false w
drawn kind.Mmsi w = number _ false w
drawn kind.Duration w = number _ false w
drawn kind.Time w = number _ false w
drawn kind.Decimal w = number _ false w
drawn kind.Unimplemented w = number _ false w

-- a shape that is not read short takes as many
fewest-least : (sh : Shape) (p : Payload) (w at : ℕ) → fewest sh w ≤ least_of sh p false w at
fewest-least (Number strict) p w at = omega arith
fewest-least Gap p w at = omega arith
fewest-least Fixed p w at = omega arith
fewest-least Whole p w at = omega arith
fewest-least Lau p w at = omega arith
fewest-least Lz p w at = omega arith

module _ (t : Table) (ok : check_of t ≡ Ok tt) where
  -- a field met is one of the table's
  pub in_table : (i : ℕ) (e : Element) (last : Bool) → Looks t t.count i e last → i < t.count
  in_table i e last (plain l) = l
  in_table i e last (member k x j l m) = let p = placed t ok k l in omega (arith, p.inside)

  -- a StringLz is the last field, outside a set
  lz-last : (i : ℕ) (e : Element) (last : Bool) → Looks t t.count i e last → (t.field i).kind ≡ kind.StringLz → last_by t i e ≡ true
  lz-last i e last (plain l) h = eq-eqb (i + 1) t.count (accepted.last t ok i l (ap class_of_lem h)).0
  lz-last i e last (member k x j l m) h =
      let start = (t.set k).start in
      let a : leb start (start + j) ≡ true = le-leb start (start + j) (omega arith) in
      let d : start + j - start < (t.set k).size = omega arith in
      let c : ltb (start + j - start) (t.set k).size ≡ true = lt-ltb _ _ d in
      let b : in_set t (start + j) k ≡ true = rw (a, c) in
      let o = accepted.last t ok (start + j) (in_table (start + j) (Some x) false (member k x j l m)) (ap class_of_lem h) in
      absurd (true≢false (sym (in_one t (start + j) k t.sets l b) ∙ o.1))

  module _ (p : Payload) (room : ℕ) where
    -- a field met that is not the table's last, outside a set
    abbrev pub Early : Span → Type 0
    Early v = last_by t v.field v.element ≡ false

    early : (i : ℕ) (e : Element) (s : Progress) (v : Span) (z : Progress) → Looks t t.count i e false → one_of t p room i e false s ≡ hit v z → Early v
    early i e s v z l h = subst Early (sym (says t p room i e false s v z h).span) (sym (looks-last t t.count i e false l))

    ends : Ends Early (walk_of t p room)
    ends = ends-walk t (one_of t p room) (count_of t p) too_many Early early beginning

    -- each field met is early that another follows ..
    pub ran-early : (vs : List Span) (s : Progress) → walk_of t p room ≡ ran vs s → Ending Early vs
    ran-early vs s e = ran_ends (rw e at ends)

    -- .. and each, where the walk stopped
    pub stopped-early : (vs : List Span) (f : DecodeRefusal) → walk_of t p room ≡ stopped vs f → All Early vs
    stopped-early vs f e = stopped-ends (rw e at ends)

    -- an early field looks at its own span alone
    pub early-plainly : (v : Span) → Right t p room v → Early v → look_of (shape_of (t.field v.field)) ≡ 0
    early-plainly v r h = ⊎_elim
        (λ (q : look_of (shape_of (t.field v.field)) ≡ 0). q)
        (λ (q : (t.field v.field).kind ≡ kind.StringLz). absurd (true≢false (sym (lz-last v.field v.element _ r.looks q) ∙ h)))
        (drawn (t.field v.field).kind (t.field v.field).width).plainly

    -- and takes a bit or more
    pub early-some : (v : Span) → Right t p room v → Early v → 1 ≤ v.bits.0
    early-some v r h =
        let f = t.field v.field in
        let o = rw h at r.ruled in
        let a = least-took p v.start.0 v.field (shape_of f) false f.width v.bits.0 o in
        let b = fewest-least (shape_of f) p f.width v.start.0 in
        let c = (drawn f.kind f.width).wide (widths t ok v.field (in_table _ _ _ r.looks)) in
        omega (arith, a, b, c)
