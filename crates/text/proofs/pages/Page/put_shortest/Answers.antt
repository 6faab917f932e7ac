-- The invariant: what is left to spell, and what stands at the end of the digits.
use mathlib.Core.Path.{◌≡◌, ap, sym, ◌∙◌}
use mathlib.Core.List.{◌++◌}
use mathlib.Core.Logic.{◌⊎◌, inl, inr}
use borrow.Author.Tests.{ltb-true}
use Prim.Native.Nat.{ℕ, ◌-◌, ◌/◌}
use native.Mathlib.Omega.{arith}
use lib.ListN.{drop, set, length-set, length-drop}
use lib.Seq.{take_all}
use Rattle.text.specs.Digits.{higher}
use Rattle.text.proofs.Putting.{same}
use Rattle.text.proofs.Spelling.{higher-step, higher-done}
use borrow.Author.Rules.{rules}
use Rattle.text.proofs.pages.Page.put_shortest.Goals as goal
use Rattle.text.proofs.pages.Page.put_shortest.Goals.{then-loop-i-test+else-rest-gt0, else-loop-i-test}

pub loop-i-preserved : goal.loop-i-preserved
loop-i-preserved c = (
  omega arith,
  (
    simp length-set c.loop-i.invariant.1.0,
    ap (λ (x : ℕ). higher c.args.base (c.loop-i.i - 1) (c.loop-i.rest / c.args.base) ++ drop (c.loop-i.i - 1) (set c.loop-i.digits (c.loop-i.i - 1) x)) c.digit_of-in-loop-i.ensures
        ∙ sym (higher-step c.args.base c.loop-i.i c.loop-i.rest c.loop-i.digits (search rules) (omega arith) (omega (arith, ltb-true)))
        ∙ c.loop-i.invariant.1.1,
  ),
)

pub returns : goal.returns
returns c =
    let out : (c.loop-i.i ≡ 0) ⊎ (c.loop-i.rest ≡ 0) = elim c.loop-i-test.branch [ then-loop-i-test+else-rest-gt0 w ↦ inr (omega arith) | else-loop-i-test w ↦ inl (omega arith) ] in
    same (take_all (20 - c.loop-i.i) (drop c.loop-i.i c.loop-i.digits) (simp length-drop (omega arith)) ∙ sym (higher-done _ _ _ _ out) ∙ c.loop-i.invariant.1.1) c.put_text.ensures
