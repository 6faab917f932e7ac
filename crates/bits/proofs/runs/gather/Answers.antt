-- The run lies in one word, or goes byte by byte.
use mathlib.Core.Path.{◌≡◌, sym, ap, ◌∙◌}
use Prim.Native.Nat.{ℕ, ◌+◌, ◌*◌, ◌-◌}
use native.Mathlib.Omega.{arith}
use Rattle.halves.proofs.Masks.{asked}
use Rattle.bits.specs.Bits.{bits_at}
use Rattle.bits.proofs.Words.{mask, taken}
use Rattle.bits.proofs.runs.gather.Goals as goal

pub returns-then-o-n-le64 : goal.returns-then-o-n-le64
returns-then-o-n-le64 c =
    let o : ℕ = c.args.at - c.min-q.result * 8 in
    let e : c.min-q.result * 8 + o ≡ c.args.at = omega arith in
    let m = c.ones.ensures ∙ asked c.args.n (omega arith) ∙ sym (mask c.args.n (omega arith)) in
    rw (m, c.right.ensures, c.word-w.ensures) (taken c.args.s.now c.min-q.result o c.args.n c.if-o-n-le64.true ∙ ap (λ (p : ℕ). bits_at c.args.s.now p c.args.n) e)
