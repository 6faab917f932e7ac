-- The invariant: n values are stored, and the parts from `from` on have the others.
use mathlib.Core.Path.{◌≡◌, sym, ap, ap₂, ◌∙◌}
use mathlib.Core.List.{List, [], ◌∷◌}
use Prim.Native.Nat.{ℕ, ◌+◌, ◌-◌, ◌≤◌, ◌<◌}
use native.Mathlib.Omega.{arith}
use lib.ListN.{length, take, drop, set, length-drop, length-map}
use Rattle.std.specs.Prelude.{Option, unwrap_or}
use Rattle.columns.specs.Parts.{part_end_lem, parts_of}
use Rattle.columns.specs.Numbers.{hex_in}
use Rattle.columns.specs.Runs.{values_of}
use Rattle.columns.proofs.Lists.{front, front_length, front-more, front-all}
use Rattle.columns.proofs.Cuts.{part-last, part-more, part-first}
use Rattle.columns.proofs.Filling.{value-next}
use Rattle.columns.proofs.runs.store_numbers.Goals as goal

-- the value at hand, and room for it
pub record Here (vs old words rest : List ℕ) (n v : ℕ) : Type 0 where
  pub among : n < length vs
  pub room : n < length old
  pub size : length words ≡ length old
  pub others : drop (n + 1) vs ≡ rest
  pub stored : set words n v ≡ front (n + 1) vs old

here : (ps rest : List (List ℕ)) (w old words : List ℕ) (n v : ℕ) → length ps ≤ length old → drop n (values_of ps) ≡ values_of (w ∷ rest) → words ≡ front n (values_of ps) old
    → v ≡ unwrap_or (hex_in w) 0 → Here (values_of ps) old words (values_of rest) n v
here ps rest w old words n v r d f h =
    let vs = values_of ps in
    let x = value-next vs n (unwrap_or (hex_in w) 0) (values_of rest) d in
    let room : n < length old = omega (arith, x.0, length-map ps (λ (y : List ℕ). unwrap_or (hex_in y) 0), r) in
    record {
      among = x.0;
      room = room;
      size = ap length f ∙ front_length n vs old (omega (arith, x.0)) (omega (arith, room));
      others = x.1.1;
      stored = ap₂ (λ (ws : List ℕ) (y : ℕ). set ws n y) f (h ∙ sym x.1.0) ∙ front-more n vs old x.0 room;
    }

module _ (mark : ℕ) (s old words : List ℕ) (from end n : ℕ) {w : List ℕ} {x : Option ℕ} {v : ℕ} (fits : length (parts_of mark s) ≤ length old)
    (inv : (from ≤ length s) × ((drop n (values_of (parts_of mark s)) ≡ values_of (parts_of mark (drop from s))) × (words ≡ front n (values_of (parts_of mark s)) old)))
    (h : x ≡ hex_in w) (u : v ≡ unwrap_or x 0) (k : w ≡ take (end - from) (drop from s)) where
  -- the value of the part from `from` up to `end`
  part-here : (rest : List (List ℕ)) → parts_of mark (drop from s) ≡ take (end - from) (drop from s) ∷ rest → Here (values_of (parts_of mark s)) old words (values_of rest) n v
  part-here rest f =
      here (parts_of mark s) rest _ old words n v fits (inv.1.0 ∙ ap values_of f) inv.1.1
      (u ∙ ap (λ (y : Option ℕ). unwrap_or y 0) h ∙ ap (λ (y : List ℕ). unwrap_or (hex_in y) 0) k)

  -- room for it, whichever part it is
  part-room : end ≡ part_end_lem mark from s → end ≤ length s → (n < length old) × (length words ≡ length old)
  part-room e l = let f = part-first mark s from end inv.0 e l in let g = part-here f.0 f.1 in (g.room, g.size)

pub offset_bounds-words-n : goal.offset_bounds-words-n
offset_bounds-words-n c = omega (arith, part-room _ _ _ _ _ _ _ c.requires c.loop-mark.invariant c.hex.ensures c.unwrap_or.ensures c.part.ensures c.part_end-end.ensures.value c.part_end-end.ensures.upper_bound, c.well_formed)

pub bounds-words-n : goal.bounds-words-n
bounds-words-n c = omega (arith, part-room _ _ _ _ _ _ _ c.requires c.loop-mark.invariant c.hex.ensures c.unwrap_or.ensures c.part.ensures c.part_end-end.ensures.value c.part_end-end.ensures.upper_bound)

pub overflow_add-n : goal.overflow_add-n
overflow_add-n c = omega (arith, part-room _ _ _ _ _ _ _ c.requires c.loop-mark.invariant c.hex.ensures c.unwrap_or.ensures c.part.ensures c.part_end-end.ensures.value c.part_end-end.ensures.upper_bound, c.well_formed)

pub returns-then-end-s : goal.returns-then-end-s
returns-then-end-s c =
    let vs = values_of (parts_of c.args.mark c.args.s.now) in
    let f = part-last c.args.mark c.args.s.now c.loop-mark.from c.part_end-end.result c.loop-mark.invariant.0 c.part_end-end.ensures.value c.if-end-s.true in
    let g = part-here _ _ _ _ _ _ _ c.requires c.loop-mark.invariant c.hex.ensures c.unwrap_or.ensures c.part.ensures [] f in
    g.stored ∙ front-all (c.loop-mark.n + 1) vs c.args.words.now (omega (arith, g.among, ap length g.others, length-drop (c.loop-mark.n + 1) vs))

pub loop-mark-preserved : goal.loop-mark-preserved
loop-mark-preserved c =
    let far : c.part_end-end.result < length c.args.s.now = omega (arith, c.if-end-s.false, c.part_end-end.ensures.upper_bound) in
    let f = part-more c.args.mark c.args.s.now c.loop-mark.from c.part_end-end.result c.loop-mark.invariant.0 c.part_end-end.ensures.value far in
    let g = part-here _ _ _ _ _ _ _ c.requires c.loop-mark.invariant c.hex.ensures c.unwrap_or.ensures c.part.ensures _ f in
    (omega arith, (g.others, g.stored))
