-- "It is proved that two answers allowed for an input are equal", and so are two contents of a lent buffer: of the
-- contract of each public call as the source states it, `Post`. Assumes nothing.
use Rattle.one_answer.proofs.Fixes.{Fixes, fixed}
use Rattle.bits.proofs.limits.room_for.Reads as room_for
use Rattle.bits.proofs.Cursor.new.Reads as new
use Rattle.bits.proofs.Cursor.seek.Reads as seek
use Rattle.bits.proofs.Cursor.bit_cursor.Reads as bit-cursor
use Rattle.bits.proofs.Cursor.bits_remaining.Reads as bits-remaining
use Rattle.bits.proofs.Cursor.read_u64.Reads as read_u64
use Rattle.bits.proofs.Cursor.read_u32.Reads as read_u32
use Rattle.bits.proofs.Cursor.read_u16.Reads as read-u16
use Rattle.bits.proofs.Cursor.read_u8.Reads as read-u8
use Rattle.bits.proofs.Cursor.advance.Reads as advance
use Rattle.bits.proofs.Cursor.read_slice.Reads as read-slice
use Rattle.bits.proofs.BitRefusal.number.Reads as number
use Rattle.bits.proofs.BitRefusal.carried_count.Reads as carried-count
use Rattle.bits.proofs.BitRefusal.carried.Reads as carried
use Rattle.bits.proofs.BitRefusal.unit.Reads as unit
use Rattle.bits.proofs.Cursor.write_u64.Reads as write-u64
use Rattle.bits.proofs.Cursor.write_u32.Reads as write-u32
use Rattle.bits.proofs.Cursor.write_u16.Reads as write-u16
use Rattle.bits.proofs.Cursor.write_u8.Reads as write-u8
use Rattle.bits.proofs.Cursor.write_advance.Reads as write-advance
use Rattle.bits.proofs.Cursor.write_slice.Reads as write-slice
use Rattle.bits.proofs.Part.bytes.Reads as bytes

-- Calls that lend no buffer to be written: the answer.

one-new : Fixes new.Post (λ κs x s. x)
one-new = fixed (λ κs a x s p. p)

one-seek : Fixes seek.Post (λ κs x s. x)
one-seek = fixed (λ κs a x s p. p)

one-bit-cursor : Fixes bit-cursor.Post (λ κs x s. x)
one-bit-cursor = fixed (λ κs a x s p. p)

one-bits-remaining : Fixes bits-remaining.Post (λ κs x s. x)
one-bits-remaining = fixed (λ κs a x s p. p)

one-read-u64 : Fixes read_u64.Post (λ κs x s. x)
one-read-u64 = fixed (λ κs a x s p. p)

one-read-u32 : Fixes read_u32.Post (λ κs x s. x)
one-read-u32 = fixed (λ κs a x s p. p)

one-read-u16 : Fixes read-u16.Post (λ κs x s. x)
one-read-u16 = fixed (λ κs a x s p. p)

one-read-u8 : Fixes read-u8.Post (λ κs x s. x)
one-read-u8 = fixed (λ κs a x s p. p)

one-advance : Fixes advance.Post (λ κs x s. x)
one-advance = fixed (λ κs a x s p. p)

one-read-slice : Fixes read-slice.Post (λ κs x s. x)
one-read-slice = fixed (λ κs a x s p. p)

one_number : Fixes number.Post (λ κs x s. x)
one_number = fixed (λ κs a x s p. p)

one-carried-count : Fixes carried-count.Post (λ κs x s. x)
one-carried-count = fixed (λ κs a x s p. p)

one-carried : Fixes carried.Post (λ κs x s. x)
one-carried = fixed (λ κs a x s p. p)

one_unit : Fixes unit.Post (λ κs x s. x)
one_unit = fixed (λ κs a x s p. p)

-- Calls that write: the answer, and the buffer at exit.

one-write-u64 : Fixes write-u64.Post (λ κs x s. x)
one-write-u64 = fixed (λ κs a x s p. p.0)

same-write-u64 : Fixes write-u64.Post (λ κs x s. s.1.0.now)
same-write-u64 = fixed (λ κs a x s p. p.1)

one-write-u32 : Fixes write-u32.Post (λ κs x s. x)
one-write-u32 = fixed (λ κs a x s p. p.0)

same-write-u32 : Fixes write-u32.Post (λ κs x s. s.1.0.now)
same-write-u32 = fixed (λ κs a x s p. p.1)

one-write-u16 : Fixes write-u16.Post (λ κs x s. x)
one-write-u16 = fixed (λ κs a x s p. p.0)

same-write-u16 : Fixes write-u16.Post (λ κs x s. s.1.0.now)
same-write-u16 = fixed (λ κs a x s p. p.1)

one-write-u8 : Fixes write-u8.Post (λ κs x s. x)
one-write-u8 = fixed (λ κs a x s p. p.0)

same-write-u8 : Fixes write-u8.Post (λ κs x s. s.1.0.now)
same-write-u8 = fixed (λ κs a x s p. p.1)

one-write-advance : Fixes write-advance.Post (λ κs x s. x)
one-write-advance = fixed (λ κs a x s p. p.0)

same-write-advance : Fixes write-advance.Post (λ κs x s. s.1.0.now)
same-write-advance = fixed (λ κs a x s p. p.1)

one-write-slice : Fixes write-slice.Post (λ κs x s. x)
one-write-slice = fixed (λ κs a x s p. p.0)

same-write-slice : Fixes write-slice.Post (λ κs x s. s.1.0.now)
same-write-slice = fixed (λ κs a x s p. p.1)

-- `Part::bytes` answers a slice: its bytes are fixed.

one-bytes : Fixes bytes.Post (λ κs x s. x.now)
one-bytes = fixed (λ κs a x s p. p)

one-room-for : Fixes room_for.Post (λ κs x s. x)
one-room-for = fixed (λ κs a x s p. p)
