-- By the top bit.
use mathlib.Core.Path.{◌≡◌, sym, ap, ◌∙◌, subst}
use Prim.Native.Nat.{ℕ, suc, ◌+◌, ◌-◌, ◌*◌, ◌%◌, ◌^◌, ◌≤◌, ◌<◌}
use native.Mathlib.Omega.{arith}
use lib.IntN.{negsuc}
use mir.Syntax.{w64}
use mir.ValLaws.{to_z-of_z}
use Rattle.numbers.proofs.Widths.{double, half, half_le, set}
use Rattle.numbers.proofs.raws.FieldRaw.signed.Goals as goal

-- what is known where the raw is not below the half
record Upper (n raw h : ℕ) : Type 0 where
  half : h ≡ 2 ^ (n - 1)
  double : 2 ^ n ≡ 2 ^ (n - 1) + 2 ^ (n - 1)
  from : 2 ^ (n - 1) ≤ raw
  to : raw < 2 ^ n
  most : 2 ^ (n - 1) ≤ 2 ^ 63

-- that holds of the code's half, as its shift of 1 loses no bit
upper : {n raw h : ℕ} → (n ≤ 64) × (raw < 2 ^ n) → (n ≡ 0 → ⊥) → h ≡ 1 * 2 ^ (n - 1) % 2 ^ 64 → h ≤ raw → Upper n raw h
upper {n} {raw} fit some is from =
    let e = is ∙ half n some fit.0 in
    record { half = e; double = double n some; from = subst (λ (x : ℕ). x ≤ raw) e from; to = fit.1; most = half_le n fit.0 }

pub overflow_sub-half-2 : goal.overflow_sub-half-2
overflow_sub-half-2 c =
    let u = upper (c.args.self.within, c.args.self.fits) c.if-self-eq0.false c.left-half.ensures c.if-self-half.false in
    omega arith

pub returns : goal.returns
returns c =
    let u = upper (c.args.self.within, c.args.self.fits) c.if-self-eq0.false c.left-half.ensures c.if-self-half.false in
    let d : 2 ^ c.args.self.bits - suc c.args.self.raw ≡ c.left-half.result - 1 - (c.args.self.raw - c.left-half.result) = omega arith in
    to_z-of_z w64 c.below_zero.result (record { sfits = c.below_zero.type_inv })
    ∙ c.below_zero.ensures ∙ ap negsuc (sym d) ∙ sym (set c.args.self.bits c.args.self.raw u.from u.to)
