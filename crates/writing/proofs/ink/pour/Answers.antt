-- Byte by byte.
use mathlib.Core.Path.{ap₂, ◌∙◌}
use mathlib.Core.List.{List}
use Prim.Native.Nat.{ℕ}
use native.Mathlib.Omega.{arith}
use lib.ListN.{get_or}
use Rattle.bits.specs.Bits.{written}
use Rattle.writing.proofs.Pours.{pour-more, poured-none}
use Rattle.writing.proofs.ink.pour.Goals as goal

pub loop-x-init : goal.loop-x-init
loop-x-init c = (omega arith, poured-none c.args.buffer.now c.args.at c.args.text.now)

pub loop-x-preserved : goal.loop-x-preserved
loop-x-preserved c =
    let text = c.args.text.now in
    let i = c.loop-x.x-index in (
      omega arith,
      c.put_byte.ensures
          ∙ ap₂ (λ (s : List ℕ) (n : ℕ). written s n 8 (get_or text i 0)) c.loop-x.invariant.1 c.loop-x.invariant.0
          ∙ pour-more c.args.buffer.now c.args.at text i c.loop-x-test.true,
    )
