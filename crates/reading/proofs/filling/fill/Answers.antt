-- The invariant: the first i bytes of the filled payload are stored.
use mathlib.Core.Path.{◌≡◌, ◌∙◌}
use native.Mathlib.Omega.{arith}
use lib.ListN.{length, length-set}
use Rattle.fields.proofs.Filled.{full, length-full, get_or-full, front-more}
use Rattle.reading.proofs.filling.fill.Goals as goal

pub loop-i-preserved : goal.loop-i-preserved
loop-i-preserved c =
    let w = full c.args.received.now c.args.n in
    let e : length w ≡ c.args.n = length-full c.args.received.now c.args.n (omega arith) in (
      omega arith,
      (
        length-set c.loop-i.padded _ _ ∙ c.loop-i.invariant.1.0,
        rw (c.loop-i.invariant.1.1, c.filled_at.ensures, ← get_or-full c.args.received.now c.args.n c.loop-i.i)
            (front-more w c.args.padded.now c.loop-i.i 0xff (omega arith) (omega arith)),
      ),
    )
