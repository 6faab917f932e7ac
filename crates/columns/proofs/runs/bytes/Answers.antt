use mathlib.Core.Path.{◌≡◌, sym, ap, ◌∙◌}
use mathlib.Core.Bool.{Bool}
use mathlib.Core.List.{List, []}
use Prim.Native.Nat.{ℕ}
use native.Mathlib.Omega.{arith}
use borrow.Author.Tests.{eq-eqb, ne_eqb}
use lib.ListN.{length, get_or}
use Rattle.std.specs.Prelude.{Some, None}
use Rattle.columns.specs.Runs.{filled, filled_if, dash, bytes_in_lem}
use Rattle.columns.proofs.Filling.{bytes-none, bytes_one, bytes-more}
use Rattle.columns.proofs.runs.bytes.Goals as goal

module _ (s old : List ℕ) (one : length s ≡ 1) where
  dashed : get_or s 0 0 ≡ dash → filled (Some 0) old ≡ bytes_in_lem s old
  dashed e = sym (bytes_one s old one ∙ ap (λ (t : Bool). filled_if t [] old) (eq-eqb (get_or s 0 0) dash e))

  other : (get_or s 0 0 ≡ dash → ⊥) → filled None old ≡ bytes_in_lem s old
  other n = sym (bytes_one s old one ∙ ap (λ (t : Bool). filled_if t [] old) (ne_eqb (get_or s 0 0) dash n))

pub returns-in-empty : goal.returns-in-empty
returns-in-empty c = bytes-none c.args.s.now c.args.buffer.now (omega arith)

pub returns-in-45 : goal.returns-in-45
returns-in-45 c = dashed c.args.s.now c.args.buffer.now (omega arith) (omega arith)

pub returns-in-len1 : goal.returns-in-len1
returns-in-len1 c = other c.args.s.now c.args.buffer.now (omega arith) (λ z. omega arith)

pub returns-in_default : goal.returns-in_default
returns-in_default c = c.pairs.ensures ∙ bytes-more c.args.s.now c.args.buffer.now (omega arith)
