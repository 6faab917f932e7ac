-- Byte by byte.
use mathlib.Core.Path.{ap, ◌∙◌}
use mathlib.Core.List.{List}
use Prim.Native.Nat.{ℕ, ◌+◌, ◌*◌}
use Rattle.bits.specs.Bits.{written}
use Rattle.writing.proofs.Pours.{fill_more, filled_none}
use Rattle.writing.proofs.ink.fill.Goals as goal

pub loop-j-init : goal.loop-j-init
loop-j-init c = filled_none c.args.buffer.now c.args.at

pub loop-j-preserved : goal.loop-j-preserved
loop-j-preserved c =
    c.put_byte.ensures ∙ ap (λ (s : List ℕ). written s (c.args.at + 8 * c.loop-j.j) 8 0xff) c.loop-j.invariant
    ∙ fill_more c.args.buffer.now c.args.at c.loop-j.j
