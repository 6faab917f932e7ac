use mathlib.Core.Path.{◌≡◌, ◌∙◌}
use Prim.Native.Nat.{ℕ, ◌+◌, ◌-◌, ◌*◌, ◌%◌, ◌^◌, ◌≤◌, ◌<◌, min}
use native.Mathlib.Nat.{lt_of_lt_of_le}
use native.Mathlib.Omega.{arith}
use lib.Dec.{lit≤}
use lib.Pow.{pow_mono}
use lib.Bits.{bit_and, bit_or}
use Rattle.halves.proofs.Masks.{asked}
use Rattle.bits.specs.Patch.{patch}
use Rattle.bits.proofs.Patches.{patch-lt, mask-code}
use Rattle.bits.proofs.runs.patched.Goals as goal

-- the patched byte, from what the calls answer
code : (b o t x : ℕ) {w m l r : ℕ} → o + t ≤ 8 → b < 2 ^ 8 → w ≡ b → m ≡ 2 ^ min t 64 - 1 → l ≡ m * 2 ^ o % 2 ^ 64 → r ≡ bit_and x m * 2 ^ o % 2 ^ 64
    → bit_or (bit_and w (2 ^ 64 - 1 - l)) r ≡ patch b o t x
code b o t x {w} {m} {l} {r} room byte w-is m-is l-is r-is =
    rw (r-is, l-is, w-is) (mask-code b o t x m (m-is ∙ asked t (omega arith)) (omega arith) (lt_of_lt_of_le byte (pow_mono {i = 8} {j = 64} (lit≤ tt))))

pub overflow_cast-result : goal.overflow_cast-result
overflow_cast-result c =
    rw (code _ _ _ _ c.requires c.ranges.b.fits c.from-w.ensures c.ones-m.ensures c.left.ensures c.left-2.ensures)
    (record { fits = patch-lt _ _ _ _ c.requires c.ranges.b.fits })

pub returns : goal.returns
returns c = code _ _ _ _ c.requires c.ranges.b.fits c.from-w.ensures c.ones-m.ensures c.left.ensures c.left-2.ensures
