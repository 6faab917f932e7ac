-- "It is proved that two answers allowed for an input are equal", and so are two writers after a call, buffer and cursor: of the
-- contract of each public call as the source states it, `Post`. Assumes nothing.
use Rattle.std.proofs.Common.{◌≡◌, ◌∙◌, ℕ, List, ap}
use Rattle.one_answer.proofs.Fixes.{Fixes, fixed}
use Rattle.std.specs.Prelude.{Result}
use Rattle.bits.specs.declared.BitRefusal.{BitRefusal}
use Rattle.bits.specs.declared.Cursor.{Cursor}
use Rattle.bits.specs.Calls.{written_of, sliced_of}
use Rattle.writers.specs.Writer.{wrote, after_moved_lem}
use Rattle.writers.specs.declared.BitWriter.{BitWriter}
use Rattle.writers.proofs.BitWriter.new.Reads as new
use Rattle.writers.proofs.BitWriter.bit_cursor.Reads as bit-cursor
use Rattle.writers.proofs.BitWriter.write_u64.Reads as write-u64
use Rattle.writers.proofs.BitWriter.write_u32.Reads as write-u32
use Rattle.writers.proofs.BitWriter.write_u16.Reads as write-u16
use Rattle.writers.proofs.BitWriter.write_u8.Reads as write-u8
use Rattle.writers.proofs.BitWriter.advance.Reads as advance
use Rattle.writers.proofs.BitWriter.write_slice.Reads as write-slice
use Rattle.writers.proofs.first_bits.Reads as first-bits

-- The calls that move a writer: once the answer r is known, so is the writer, which has the bytes s.
writers : {r r' : Result Cursor BitRefusal} (w : BitWriter) (s : List ℕ) → r ≡ r' → wrote w s (after_moved_lem r w.cursor) ≡ wrote w s (after_moved_lem r' w.cursor)
writers w s e = ap (λ (r : Result Cursor BitRefusal). wrote w s (after_moved_lem r w.cursor)) e

one-write-u64 : Fixes write-u64.Post (λ κs x s. x)
one-write-u64 = fixed (λ κs a x s p. p.0)

same-write-u64 : Fixes write-u64.Post (λ κs x s. s.0.now)
same-write-u64 = fixed (λ κs a x s p. p.1 ∙ writers a.0.now (written_of a.0.now.dest.now a.0.now.cursor a.1.1.0 64 a.1.0) p.0)

one-write-u32 : Fixes write-u32.Post (λ κs x s. x)
one-write-u32 = fixed (λ κs a x s p. p.0)

same-write-u32 : Fixes write-u32.Post (λ κs x s. s.0.now)
same-write-u32 = fixed (λ κs a x s p. p.1 ∙ writers a.0.now (written_of a.0.now.dest.now a.0.now.cursor a.1.1.0 32 a.1.0) p.0)

one-write-u16 : Fixes write-u16.Post (λ κs x s. x)
one-write-u16 = fixed (λ κs a x s p. p.0)

same-write-u16 : Fixes write-u16.Post (λ κs x s. s.0.now)
same-write-u16 = fixed (λ κs a x s p. p.1 ∙ writers a.0.now (written_of a.0.now.dest.now a.0.now.cursor a.1.1.0 16 a.1.0) p.0)

one-write-u8 : Fixes write-u8.Post (λ κs x s. x)
one-write-u8 = fixed (λ κs a x s p. p.0)

same-write-u8 : Fixes write-u8.Post (λ κs x s. s.0.now)
same-write-u8 = fixed (λ κs a x s p. p.1 ∙ writers a.0.now (written_of a.0.now.dest.now a.0.now.cursor a.1.1.0 8 a.1.0) p.0)

one-advance : Fixes advance.Post (λ κs x s. x)
one-advance = fixed (λ κs a x s p. p.0)

one-advanced : Fixes advance.Post (λ κs x s. s.0.now)
one-advanced = fixed (λ κs a x s p. p.1 ∙ writers a.0.now a.0.now.dest.now p.0)

one-write-slice : Fixes write-slice.Post (λ κs x s. x)
one-write-slice = fixed (λ κs a x s p. p.0)

one-sliced : Fixes write-slice.Post (λ κs x s. s.0.now)
one-sliced = fixed (λ κs a x s p. p.1 ∙ writers a.0.now (sliced_of a.0.now.dest.now a.0.now.cursor a.1.0.now) p.0)

-- The rest.

one-new : Fixes new.Post (λ κs x s. x)
one-new = fixed (λ κs a x s p i. record { dest = p.0 i; cursor = p.1 i })

one-bit-cursor : Fixes bit-cursor.Post (λ κs x s. x)
one-bit-cursor = fixed (λ κs a x s p. p.0)

one_kept : Fixes bit-cursor.Post (λ κs x s. s.0.now)
one_kept = fixed (λ κs a x s p. p.1)

one-first-bits : Fixes first-bits.Post (λ κs x s. x)
one-first-bits = fixed (λ κs a x s p. p.0)

one-buffer : Fixes first-bits.Post (λ κs x s. s.0.now)
one-buffer = fixed (λ κs a x s p. p.1)
