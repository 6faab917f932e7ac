-- "Two answers allowed for an input are equal": of the contract of each public call as the source states it, `Post`.
-- Assumes nothing.
use Rattle.one_answer.proofs.Fixes.{Fixes, fixed}
use Rattle.rounding.proofs.integers.magnitude.Reads as magnitude
use Rattle.rounding.proofs.integers.nearest_u64_to_f32.Reads as nearest-u64-to-f32
use Rattle.rounding.proofs.integers.nearest_u64_to_f64.Reads as nearest-u64-to-f64
use Rattle.rounding.proofs.integers.nearest_i64_to_f32.Reads as nearest-i64-to-f32
use Rattle.rounding.proofs.integers.nearest_i64_to_f64.Reads as nearest-i64-to-f64
use Rattle.rounding.proofs.formats.narrow.Reads as narrow
use Rattle.rounding.proofs.patterns.f32_of_bits.Reads as f32-of-bits
use Rattle.rounding.proofs.patterns.f64_of_bits.Reads as f64-of-bits
use Rattle.rounding.proofs.patterns.bits_of_f32.Reads as bits-of-f32
use Rattle.rounding.proofs.patterns.bits_of_f64.Reads as bits-of-f64
use Rattle.rounding.proofs.truncation.half_away.Reads as half-away
use Rattle.rounding.proofs.truncation.truncated_bits.Reads as truncated-bits

one-magnitude : Fixes magnitude.Post (λ κs x s. x)
one-magnitude = fixed (λ κs a x s p. p)

one-nearest-u64-to-f32 : Fixes nearest-u64-to-f32.Post (λ κs x s. x)
one-nearest-u64-to-f32 = fixed (λ κs a x s p. p)

one-nearest-u64-to-f64 : Fixes nearest-u64-to-f64.Post (λ κs x s. x)
one-nearest-u64-to-f64 = fixed (λ κs a x s p. p)

one-nearest-i64-to-f32 : Fixes nearest-i64-to-f32.Post (λ κs x s. x)
one-nearest-i64-to-f32 = fixed (λ κs a x s p. p)

one-nearest-i64-to-f64 : Fixes nearest-i64-to-f64.Post (λ κs x s. x)
one-nearest-i64-to-f64 = fixed (λ κs a x s p. p)

one-narrow : Fixes narrow.Post (λ κs x s. x)
one-narrow = fixed (λ κs a x s p. p)

one-f32-of-bits : Fixes f32-of-bits.Post (λ κs x s. x)
one-f32-of-bits = fixed (λ κs a x s p. p)

one-f64-of-bits : Fixes f64-of-bits.Post (λ κs x s. x)
one-f64-of-bits = fixed (λ κs a x s p. p)

one-bits-of-f32 : Fixes bits-of-f32.Post (λ κs x s. x)
one-bits-of-f32 = fixed (λ κs a x s p. p)

one-bits-of-f64 : Fixes bits-of-f64.Post (λ κs x s. x)
one-bits-of-f64 = fixed (λ κs a x s p. p)

one-half-away : Fixes half-away.Post (λ κs x s. x)
one-half-away = fixed (λ κs a x s p. p)

one-truncated-bits : Fixes truncated-bits.Post (λ κs x s. x)
one-truncated-bits = fixed (λ κs a x s p. p)
