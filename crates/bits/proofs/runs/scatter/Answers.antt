-- The run lies in one word, which is put back with it, or goes byte by byte.
use mathlib.Core.Path.{◌≡◌, sym, ap, ◌∙◌, subst}
use Prim.Native.Nat.{ℕ, ◌+◌, ◌*◌, ◌-◌, ◌^◌, ◌≤◌, ◌<◌}
use native.Mathlib.Omega.{arith}
use Rattle.halves.proofs.Masks.{asked}
use Rattle.bits.specs.Bits.{written}
use Rattle.bits.specs.Patch.{patch}
use Rattle.bits.proofs.Turns.{bits-lt}
use Rattle.bits.proofs.Patches.{mask-code}
use Rattle.bits.proofs.WordPuts.{in-word}
use Rattle.bits.proofs.runs.scatter.Goals as goal

pub returns-then-o-n-le64 : goal.returns-then-o-n-le64
returns-then-o-n-le64 c =
    let o : ℕ = c.args.at - c.min-q.result * 8 in
    let inside : o + c.args.n ≤ 64 = c.if-o-n-le64.true in
    let e : c.min-q.result * 8 + o ≡ c.args.at = omega arith in
    let fits : c.word-w.result < 2 ^ 64 = subst (λ (x : ℕ). x < 2 ^ 64) (sym c.word-w.ensures) (bits-lt c.args.s.now (c.min-q.result * 8) 64) in
    c.put_word.ensures
    ∙ ap (written c.args.s.now (c.min-q.result * 8) 64)
    (rw (c.left-then-o-n-le64.ensures, c.left.ensures) (mask-code c.word-w.result o c.args.n c.args.v _ (c.ones-m.ensures ∙ asked c.args.n (omega arith)) inside fits))
    ∙ ap (λ (x : ℕ). written c.args.s.now (c.min-q.result * 8) 64 (patch x o c.args.n c.args.v)) c.word-w.ensures
    ∙ in-word c.args.s.now (c.min-q.result * 8) o c.args.n c.args.v inside
    ∙ ap (λ (x : ℕ). written c.args.s.now x c.args.n c.args.v) e
