-- By the test.
use mathlib.Core.Path.{sym, subst}
use Prim.Native.Nat.{ℕ, ◌^◌, ◌≤◌}
use native.Mathlib.Omega.{arith}
use Rattle.numbers.proofs.Limits.{limit-le}
use Rattle.numbers.proofs.sizes.Width.exactly.Goals as goal

pub complement-requires : goal.complement-requires
complement-requires c =
    let e : c.limit.result ≤ 2 ^ c.args.self.bits = subst (λ (x : ℕ). x ≤ 2 ^ c.args.self.bits) (sym c.limit.ensures) (limit-le c.args.self.bits c.args.self.signed c.args.negative) in
    omega arith
