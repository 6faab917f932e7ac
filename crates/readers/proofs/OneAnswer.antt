-- "It is proved that two answers allowed for an input are equal", and so are two readers after a call: of the contract of
-- each public call as the source states it, `Post`. Assumes nothing.
use Rattle.std.proofs.Common.{◌≡◌, ◌∙◌, ap}
use Rattle.one_answer.proofs.Fixes.{Fixes, fixed}
use Rattle.bits.specs.declared.Cursor.{Cursor}
use Rattle.readers.specs.declared.BitReader.{BitReader}
use Rattle.readers.specs.Clauses.{Reads}
use Rattle.readers.specs.Reader.{at_cursor, after_read_lem, after_moved_lem}
use Rattle.readers.proofs.BitReader.new.Reads as new
use Rattle.readers.proofs.BitReader.seek.Reads as seek
use Rattle.readers.proofs.BitReader.bit_cursor.Reads as bit-cursor
use Rattle.readers.proofs.BitReader.bits_remaining.Reads as bits-remaining
use Rattle.readers.proofs.BitReader.read_u64.Reads as read_u64
use Rattle.readers.proofs.BitReader.read_u32.Reads as read_u32
use Rattle.readers.proofs.BitReader.read_u16.Reads as read-u16
use Rattle.readers.proofs.BitReader.read_u8.Reads as read-u8
use Rattle.readers.proofs.BitReader.advance.Reads as advance
use Rattle.readers.proofs.BitReader.read_slice.Reads as read-slice
use Rattle.readers.proofs.first_u64.Reads as first-u64

-- The calls that move a reader: the answer, and the reader after it, which the answer tells.

one_reader : {A : Type 0} (after : A → Cursor → Cursor) {a : A} {left : BitReader} (r : BitReader) (x : A)
    → Reads after a left r x → left ≡ at_cursor r (after x r.cursor)
one_reader after r x p = p.1 ∙ ap (λ y. at_cursor r (after y r.cursor)) p.0

one-read-u64 : Fixes read_u64.Post (λ κs x s. x)
one-read-u64 = fixed (λ κs a x s p. p.0)

same-read-u64 : Fixes read_u64.Post (λ κs x s. s.0.now)
same-read-u64 = fixed (λ κs a x s p. one_reader after_read_lem a.0.now _ p)

one-read-u32 : Fixes read_u32.Post (λ κs x s. x)
one-read-u32 = fixed (λ κs a x s p. p.0)

same-read-u32 : Fixes read_u32.Post (λ κs x s. s.0.now)
same-read-u32 = fixed (λ κs a x s p. one_reader after_read_lem a.0.now _ p)

one-read-u16 : Fixes read-u16.Post (λ κs x s. x)
one-read-u16 = fixed (λ κs a x s p. p.0)

same-read-u16 : Fixes read-u16.Post (λ κs x s. s.0.now)
same-read-u16 = fixed (λ κs a x s p. one_reader after_read_lem a.0.now _ p)

one-read-u8 : Fixes read-u8.Post (λ κs x s. x)
one-read-u8 = fixed (λ κs a x s p. p.0)

same-read-u8 : Fixes read-u8.Post (λ κs x s. s.0.now)
same-read-u8 = fixed (λ κs a x s p. one_reader after_read_lem a.0.now _ p)

one-advance : Fixes advance.Post (λ κs x s. x)
one-advance = fixed (λ κs a x s p. p.0)

same-advance : Fixes advance.Post (λ κs x s. s.0.now)
same-advance = fixed (λ κs a x s p. one_reader after_moved_lem a.0.now _ p)

one-read-slice : Fixes read-slice.Post (λ κs x s. x)
one-read-slice = fixed (λ κs a x s p. p.0)

same-read-slice : Fixes read-slice.Post (λ κs x s. s.0.now)
same-read-slice = fixed (λ κs a x s p. one_reader after_read_lem a.0.now _ p)

-- The rest.

one-new : Fixes new.Post (λ κs x s. x)
one-new = fixed (λ κs a x s p i. record { src = p.0 i; cursor = p.1 i })

one-seek : Fixes seek.Post (λ κs x s. s.0.now)
one-seek = fixed (λ κs a x s p. p)

one-bit-cursor : Fixes bit-cursor.Post (λ κs x s. x)
one-bit-cursor = fixed (λ κs a x s p. p)

one-bits-remaining : Fixes bits-remaining.Post (λ κs x s. x)
one-bits-remaining = fixed (λ κs a x s p. p)

one-first-u64 : Fixes first-u64.Post (λ κs x s. x)
one-first-u64 = fixed (λ κs a x s p. p)
