use mathlib.Core.Path.{◌≡◌, refl, sym, ap, ap₂, ◌∙◌}
use mathlib.Core.Bool.{Bool, true, false}
use Prim.Native.Nat.{ℕ}
use native.Mathlib.Omega.{arith}
use lib.ListN.{length}
use Rattle.std.specs.Prelude.{Option, Some, None}
use Rattle.columns.specs.Parts.{parts_of}
use Rattle.columns.specs.Runs.{run_if, filled, all_numbers}
use Rattle.columns.proofs.Filling.{words-other, words-full, words-good}
use Rattle.columns.proofs.runs.words.Goals as goal

-- no count: the test failed
uncounted : (t : Bool) (n : ℕ) → None ≡ run_if t n → t ≡ false
uncounted true n e = cc
uncounted false n e = refl

-- a count: it held, and there are so many
counted : (t : Bool) (n k : ℕ) → Some k ≡ run_if t n → (t ≡ true) × (k ≡ n)
counted true n k e = (refl, cc)
counted false n k e = cc

pub returns-in_err-count : goal.returns-in_err-count
returns-in_err-count c =
    ap (λ (r : Option ℕ). filled r c.args.words.now) c.from_residual.ensures ∙ words-other c.args.mark c.args.s.now c.args.words.now (uncounted _ _ c.in_err-count.ensures)

pub returns-then-words-count : goal.returns-then-words-count
returns-then-words-count c =
    words-full c.args.mark c.args.s.now c.args.words.now (omega (arith, c.if-words-count.true, (counted _ _ _ c.in_ok-count.ensures).1))

pub returns : goal.returns
returns c =
    let k = counted (all_numbers (parts_of c.args.mark c.args.s.now)) (length (parts_of c.args.mark c.args.s.now)) _ c.in_ok-count.ensures in
    ap₂ (λ (n : ℕ). filled (Some n)) k.1 c.store_numbers.ensures
    ∙ sym (words-good c.args.mark c.args.s.now c.args.words.now k.0 (omega (arith, c.if-words-count.false, k.1)))
