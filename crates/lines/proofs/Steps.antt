-- The loop of a program: `begin`, and then, until the call is over, `next` and, where a line waits, its answer and `answered`. Its steps come to `pass_of`:
-- `begins`, then `turn-put` or `turn-over` for each turn, and `ended`. A turn leaves less to do, by `left`. Assumes nothing.
use mathlib.Core.Path.{◌≡◌, refl, sym, ap, ◌∙◌, subst}
use mathlib.Core.Bool.{Bool, true, false, not}
use mathlib.Core.List.{List}
use Prim.Native.Nat.{ℕ, suc, ◌+◌, ◌-◌, ◌*◌, ◌≤◌, ◌<◌}
use native.Mathlib.Omega.{arith}
use borrow.Author.Tests.{not-true, not-false, le-ltb, ltb-true, ltb-false, le-leb, lt-leb}
use lib.Dec.{ltb}
use lib.ListN.{length, drop, length-drop}
use Rattle.bits.specs.Bits.{pick}
use Rattle.text.specs.Sheet.{Sheet, sheet, page_of, Puts}
use Rattle.text.proofs.Sheets.{same}
use Rattle.lines.specs.Machine.{Machine, Passed, passed, up_to_newline, fits, answered_or, pass_from, pass_of}
use Rattle.lines.specs.Held.{nothing_held, line_in, held_after, buffer_after, Store, store, held}
use Rattle.lines.specs.Steps.{passed_at, begun, took_of, line_after, answered_by}
use Rattle.lines.specs.declared.Held.{Held}
use Rattle.lines.specs.declared.Step.{Step as State}
use Rattle.lines.proofs.UpTo.{up_le, rest-taken, rest-ends}
use Rattle.lines.proofs.Chunk.{held-feds}

-- what a call comes to that has taken n bytes of its chunk
abbrev pub ahead : {K : Type 0} → Machine K → K → Bool → List ℕ → ℕ → Sheet → Passed K
ahead m k true input n s = answered_or m k n s (pass_from m (m.fresh k) (drop n input) n)
ahead m k false input n s = pass_from m k (drop n input) n s

-- what the loop comes to from here
abbrev pub comes_to : (List ℕ → List ℕ) → List ℕ → State → List ℕ → List ℕ → Passed Store
comes_to a input p line out =
    pick p.over (passed (store p.held line) p.waits p.taken out p.to)
    (ahead (held a) (store p.held line) p.waits input p.taken (sheet out p.to))

-- the call, by what the loop begins with
abbrev pub call_of : (List ℕ → List ℕ) → List ℕ → State → List ℕ → List ℕ → Passed Store
call_of a input p line out = pass_of (held a) (store p.held line) p.waits input (sheet out p.to)

-- the loop has begun with p₀, a buffer `first` and a page `old`: what it comes to is what the call comes to
pub record Way (a : List ℕ → List ℕ) (input : List ℕ) (p₀ : State) (first old : List ℕ) (p : State) (line out : List ℕ) : Type 0 where
  pub within : p.taken ≤ length input
  pub comes : comes_to a input p line out ≡ call_of a input p₀ first old

-- how much there is left to do
abbrev pub left : List ℕ → State → ℕ
left input p = pick p.over 0 (suc (2 * (length input - p.taken) + pick p.waits 1 0))

-- ## The first turn and the last

begins-by : (a : List ℕ → List ℕ) (input : List ℕ) (k : Store) (w : Bool) (s : Sheet) → ahead (held a) k w input 0 s ≡ pass_of (held a) k w input s
begins-by a input k true s = refl
begins-by a input k false s = refl

module _ {p₀ : State} {h : Held} {w : Bool} {at : ℕ} (e : p₀ ≡ begun h w at) where
  pub begins : (a : List ℕ → List ℕ) (input line out : List ℕ) → Way a input p₀ line out p₀ line out
  begins a input line out = rw e (record { within = omega arith; comes = begins-by a input (store h line) w (sheet out at) })

  pub ended : {a : List ℕ → List ℕ} {input first old : List ℕ} {p : State} {line out : List ℕ} → Way a input p₀ first old p line out → not p.over ≡ false
      → passed (store p.held line) p.waits p.taken out p.to ≡ pass_of (held a) (store h first) w input (sheet old at)
  ended {a} {input} {first} {old} {p} g o = rw (not-false p.over o) at g.comes ∙ ap (λ (x : State). call_of a input x first old) e

-- ## What is left

-- after `next` either a line waits, and bytes were taken unless it waited before, or the call is over
pub record Took (input : List ℕ) (p q : State) : Type 0 where
  pub over-is : q.waits ≡ false → q.over ≡ true
  pub goes_on : q.waits ≡ true → q.over ≡ false
  pub less : q.waits ≡ true → suc (2 * (length input - q.taken)) < left input p

no : {A : Type 0} → true ≡ false → A
no e = let z : ◌≡◌ {A = ℕ} 0 1 = cc in absurd (omega arith)

module _ (input : List ℕ) where
  less_by : (h k : Held) (n u to : ℕ) (t : Bool) → ltb (n + u) (length input) ≡ t
      → Took input (passed_at h false n to false) (pick t (passed_at k true (n + u + 1) to false) (passed_at k false (n + u) to true))
  less_by h k n u to true e = let l = ltb-true (n + u) (length input) e in record { over-is = no; goes_on = λ x. refl; less = λ x. omega arith }
  less_by h k n u to false e = record { over-is = λ x. refl; goes_on = λ x. sym x; less = λ x. no (sym x) }

  took-less : (h : Held) (w : Bool) (n to : ℕ) (o : Bool) (line : List ℕ) → let q = passed_at h w n to o in o ≡ false → n ≤ length input → Took input q (took_of q line input)
  took-less h w n to true line e l = no e
  took-less h true n to false line e l = record { over-is = no; goes_on = λ x. refl; less = λ x. omega arith }
  took-less h false n to false line e l =
      let u = length (up_to_newline (drop n input)) in
      rw (le-ltb (length input) n l) (less_by h _ n u to (ltb (n + u) (length input)) refl)

  answered_less : (p : State) (to room : ℕ) → left input (answered_by p to room) ≤ suc (2 * (length input - p.taken))
  answered_less p to room = by (ltb room to)
    where
      by : (t : Bool) → left input (pick t (passed_at p.held true p.taken p.to true) (passed_at nothing_held false p.taken to false))
          ≤ suc (2 * (length input - p.taken))
      by true = omega arith
      by false = omega arith

-- ## A turn

module _ {a : List ℕ → List ℕ} {input : List ℕ} {p₀ : State} {first old : List ℕ} where
  -- the rest of the chunk is taken: by whether a line ends in it
  took_by : (h : Held) (n to : ℕ) (line out : List ℕ) (t : Bool) → let up = up_to_newline (drop n input) in ltb (n + length up) (length input) ≡ t
      → Way a input p₀ first old (passed_at h false n to false) line out
      → Way a input p₀ first old (pick t (passed_at (held_after h line up) true (n + length up + 1) to false) (passed_at (held_after h line up) false (n + length up) to true)) (buffer_after h line up) out
  took_by h n to line out true e g =
      let up = up_to_newline (drop n input) in
      let l = ltb-true (n + length up) (length input) e in
      record {
        within = omega arith;
        comes =
            ap (λ (k : Store). ahead (held a) k true input (n + length up + 1) (sheet out to)) (sym (held-feds a h line up))
            ∙ sym (rest-ends (held a) (store h line) input n (sheet out to) l)
            ∙ g.comes;
      }
  took_by h n to line out false e g =
      let up = up_to_newline (drop n input) in
      let l = ltb-false (n + length up) (length input) e in
      record {
        within = omega (arith, up_le (drop n input), length-drop n input, g.within);
        comes =
            ap (λ (k : Store). passed k false (n + length up) out to) (sym (held-feds a h line up))
            ∙ sym (rest-taken (held a) (store h line) input n (sheet out to) g.within l)
            ∙ g.comes;
      }

  took : (h : Held) (w : Bool) (n to : ℕ) (o : Bool) (line out : List ℕ) → let q = passed_at h w n to o in
      o ≡ false → Way a input p₀ first old q line out → Way a input p₀ first old (took_of q line input) (line_after q line input) out
  took h w n to true line out e g = no e
  took h true n to false line out e g = g
  took h false n to false line out e g = let up = up_to_newline (drop n input) in
      rw (le-ltb (length input) n g.within) (took_by h n to line out (ltb (n + length up) (length input)) refl g)

  -- an answer is put: by whether it has found room
  put-by : (p : State) (line out : List ℕ) (to : ℕ) (t : Bool) → ltb (length out) to ≡ t → p.taken ≤ length input
      → pick (fits (sheet out to)) (ahead (held a) (store nothing_held line) false input p.taken (sheet out to)) (passed (store p.held line) true p.taken out p.to) ≡ call_of a input p₀ first old
      → Way a input p₀ first old (pick t (passed_at p.held true p.taken p.to true) (passed_at nothing_held false p.taken to false)) line out
  put-by p line out to true e l g = record { within = l; comes = rw (lt-leb to (length out) (ltb-true (length out) to e)) at g }
  put-by p line out to false e l g = record { within = l; comes = rw (le-leb to (length out) (ltb-false (length out) to e)) at g }

  pub after-put : (p : State) (line out new : List ℕ) (to : ℕ) → p.over ≡ false → p.waits ≡ true → Puts out p.to (a (line_in p.held line)) new to → Way a input p₀ first old p line out
      → Way a input p₀ first old (answered_by p to (length new)) line new
  after-put p line out new to o w is g =
      put-by p line new to (ltb (length new) to) refl g.within
      (subst (λ (s : Sheet). pick (fits s) (ahead (held a) (store nothing_held line) false input p.taken s) (passed (store p.held line) true p.taken (page_of s) p.to) ≡ call_of a input p₀ first old)
      (sym is.is) (rw (o, w) at g.comes))

  -- `next` answered q
  module _ {p q : State} {line next out : List ℕ} (g : Way a input p₀ first old p line out) (on : not p.over ≡ true) (e : (q ≡ took_of p line input) × (next ≡ line_after p line input)) where
    o : p.over ≡ false
    o = not-true p.over on

    pub after_next : Way a input p₀ first old q next out
    after_next = rw (e.0, e.1) (took p.held p.waits p.taken p.to p.over line out o g)

    pub took-facts : Took input p q
    took-facts = rw e.0 (took-less input p.held p.waits p.taken p.to p.over line o g.within)

    -- no line waits: the call is over
    pub turn-over : q.waits ≡ false → Way a input p₀ first old q next out × (left input q < left input p)
    turn-over w = (after_next, rw (o, took-facts.over-is w) (omega arith))

    -- a line waited, its answer was put, and `answered` answered r
    pub turn-put : {text new : List ℕ} {r : State} {to : ℕ} → q.waits ≡ true → text ≡ line_in q.held next → Puts out q.to (a text) new to → r ≡ answered_by q to (length new)
        → Way a input p₀ first old r next new × (left input r < left input p)
    turn-put {text} {new} {r} {to} w l is by = (
      rw by (after-put q next out new to (took-facts.goes_on w) w (same (ap a l) is) after_next),
      rw by (omega (arith, answered_less input q to (length new), took-facts.less w)),
    )
