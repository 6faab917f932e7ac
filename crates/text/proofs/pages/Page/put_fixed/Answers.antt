-- The invariant: what is left to spell, and what stands at the end of the digits.
use mathlib.Core.Path.{◌≡◌, ap, sym, subst, ◌∙◌}
use mathlib.Core.List.{List, ◌++◌}
use Prim.Native.Nat.{ℕ, ◌-◌, ◌/◌, min}
use native.Mathlib.Omega.{arith}
use lib.ListN.{drop, set, length-set, length-drop}
use lib.Seq.{take_all}
use Rattle.text.specs.Digits.{fixed}
use Rattle.text.proofs.Putting.{same}
use Rattle.text.proofs.Spelling.{fixed-step, fixed-none}
use borrow.Author.Rules.{rules}
use Rattle.text.proofs.pages.Page.put_fixed.Goals as goal

pub loop-i-preserved : goal.loop-i-preserved
loop-i-preserved c =
    let stop = 20 - c.min-stop.result in (
      c.loop-i.invariant.0,
      (
        omega arith,
        (
          omega arith,
          (
            simp length-set c.loop-i.invariant.1.1.1.0,
            ap (λ (x : ℕ). fixed c.args.base (c.loop-i.i - 1 - stop) (c.loop-i.rest / c.args.base) ++ drop (c.loop-i.i - 1) (set c.loop-i.digits (c.loop-i.i - 1) x)) c.digit_of.ensures
                ∙ sym (fixed-step c.args.base c.loop-i.i stop c.loop-i.rest c.loop-i.digits (search rules) (omega arith))
                ∙ c.loop-i.invariant.1.1.1.1,
          ),
        ),
      ),
    )

pub returns : goal.returns
returns c =
    let stop = 20 - c.min-stop.result in
    let last : c.loop-i.i ≡ stop = omega arith in
    let none : stop - stop ≡ 0 = omega arith in
    let spelled = subst (λ (x : ℕ). fixed c.args.base (x - stop) c.loop-i.rest ++ drop x c.loop-i.digits ≡ fixed c.args.base (min c.args.width 20) c.args.n) last c.loop-i.invariant.1.1.1.1 in
    same (take_all (20 - stop) (drop stop c.loop-i.digits) (simp length-drop (omega arith))
    ∙ sym (ap (λ (x : ℕ). fixed c.args.base x c.loop-i.rest ++ drop stop c.loop-i.digits) none ∙ ap (λ (x : List ℕ). x ++ drop stop c.loop-i.digits) (fixed-none c.args.base c.loop-i.rest))
    ∙ spelled) c.put_text.ensures
