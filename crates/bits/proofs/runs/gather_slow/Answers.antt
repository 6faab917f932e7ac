-- The invariant: r is the first k bits, and k is at most n.
use mathlib.Core.Path.{refl, sym, ap, ◌∙◌}
use Prim.Native.Nat.{ℕ, ◌+◌, ◌%◌, ◌-◌, ◌≤◌}
use native.Mathlib.Omega.{arith}
use Rattle.halves.proofs.Masks.{asked}
use Rattle.bits.proofs.Turns.{one_shl, turn}
use Rattle.bits.specs.Bits.{sum_bits}
use Rattle.bits.proofs.runs.gather_slow.Goals as goal

pub loop-k-init : goal.loop-k-init
unfolding sum_bits
loop-k-init c = (omega arith, refl)

pub loop-k-preserved : goal.loop-k-preserved
loop-k-preserved c =
    let in_one : (c.args.at + c.loop-k.k) % 8 + c.min-t.result ≤ 8 = omega arith in
    let in_all : c.loop-k.k + c.min-t.result ≤ 64 = omega arith in
    let m = c.ones-m.ensures ∙ asked c.min-t.result (omega arith) ∙ sym (ap (λ (x : ℕ). x - 1) (one_shl c.min-t.result (omega arith))) in
    (omega arith, rw (c.left-r.ensures, c.right.ensures, m, c.loop-k.invariant.1, c.from-b.ensures) (turn c.args.s.now c.args.at c.loop-k.k c.min-t.result in_one in_all))
