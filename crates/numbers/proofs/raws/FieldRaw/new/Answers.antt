-- A mask of as many ones.
use mathlib.Core.Path.{◌≡◌, ap, ◌∙◌}
use Prim.Native.Nat.{ℕ, ◌^◌, ◌-◌, min}
use native.Mathlib.Omega.{arith}
use lib.Bits.{bit_and, and_mask}
use Rattle.numbers.proofs.raws.FieldRaw.new.Goals as goal

pub returns-clause-raw : goal.returns-clause-raw
returns-clause-raw c =
    let most : min c.min-bits.result 64 ≡ min c.args.width 64 = omega arith in
    ap (bit_and c.args.raw) (c.ones.ensures ∙ ap (λ (n : ℕ). 2 ^ n - 1) most) ∙ and_mask c.args.raw (min c.args.width 64)
