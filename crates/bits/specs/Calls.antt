-- The whole answer of each bit call, refusals and lent buffer included: document 01, "Bit calls".
use Rattle.std.specs.Prelude.{ℕ, ◌+◌, ◌-◌, ◌*◌, ◌/◌, ◌%◌, min, List, Bool, true, false, not, length, take, drop, ltb, eqb, ⊤, Result, Ok, Err}
use Rattle.std.proofs.Math.Seq.{paste}
use Rattle.bits.specs.Bits.{bits_at, written}
use Rattle.bits.specs.declared.BitPos.{BitPos}
use Rattle.bits.specs.declared.ByteCount.{ByteCount}
use Rattle.bits.specs.declared.Cursor.{Cursor}
use Rattle.bits.specs.declared.Part.{Part}
use Rattle.bits.specs.declared.BitRefusal.{BitRefusal}
use Rattle.bits.specs.declared.BitRefusal.TheVariants.{BufferTooLong, TooLongForType, NonAlignedBit, OutOfBits, OutOfBytes}
use Rattle.bits.specs.declared.Read.{Read}

-- a number as bits, as bytes, as a cursor
abbrev pub bits : ℕ → BitPos
bits n = record { 0 = n }

abbrev pub bytes : ℕ → ByteCount
bytes n = record { 0 = n }

abbrev pub cursor_at : ℕ → Cursor
cursor_at at = record { at = bits at }

-- where a cursor stands
abbrev pub place : Cursor → ℕ
place c = c.at.0

-- "bit call on a buffer over 65,536 bytes"
abbrev pub buffer_max : ℕ
buffer_max = 65536

-- the width that a 64-bit read takes at the most
abbrev pub width_max : ℕ
width_max = 64

-- "Sums saturate": at the largest number of a machine word
abbrev pub saturated : ℕ → ℕ
saturated n = min n 0xffff_ffff_ffff_ffff

-- "past the end, 0 bits are available": the bits from a cursor to the end of a buffer of len bytes
abbrev pub remaining_of : ℕ → Cursor → BitPos
remaining_of len c = bits (saturated (len * 8) - place c)

-- the refusal e where the test holds, else what follows in the order
abbrev pub refuse : Bool → BitRefusal → Result ⊤ BitRefusal → Result ⊤ BitRefusal
refuse true e later = Err e
refuse false e later = later

-- a call of n bits, at most max, at bit `at` of a buffer of len bytes. Order: 6, 1, 2, and "refusal 2 counts bits in number calls"
abbrev pub room_of : ℕ → ℕ → ℕ → ℕ → Result ⊤ BitRefusal
room_of len at n max =
    refuse (ltb buffer_max len) (BufferTooLong (bytes len))
    (refuse (eqb n 0) (TooLongForType width_max n)
    (refuse (ltb max n) (TooLongForType max n)
    (refuse (ltb (len * 8) (at + n)) (OutOfBits (bits n) (bits (len * 8 - at)))
    (Ok tt))))

-- what refusal 2 carries in a slice call, where "it counts bytes": document 02, §2, "the length asked and the whole bytes left from the cursor, 0 past the end"
abbrev pub out_of_bytes : ℕ → ℕ → ℕ → BitRefusal
out_of_bytes len at n = OutOfBytes (bytes n) (bytes ((len * 8 - at) / 8))

-- a call of n bytes at bit `at` of a buffer of len bytes. Order: 6, 3, 2
abbrev pub slice_room_of : ℕ → ℕ → ℕ → Result ⊤ BitRefusal
slice_room_of len at n =
    refuse (ltb buffer_max len) (BufferTooLong (bytes len))
    (refuse (not (eqb (at % 8) 0)) (NonAlignedBit (bits at))
    (refuse (ltb len (at / 8 + n)) (out_of_bytes len at n)
    (Ok tt)))

-- the cursor n bits on: "the moved cursor comes back"
abbrev pub moved_by : Cursor → ℕ → Cursor
moved_by c n = cursor_at (place c + n)

-- Numbers.

abbrev pub read_in : Result ⊤ BitRefusal → List ℕ → Cursor → ℕ → Result (Read ℕ) BitRefusal
read_in (Ok u) s c n = Ok (record { value = bits_at s (place c) n; next = moved_by c n })
read_in (Err e) s c n = Err e

-- a read of n bits, at most max
abbrev pub read_of : List ℕ → Cursor → ℕ → ℕ → Result (Read ℕ) BitRefusal
read_of s c n max = read_in (room_of (length s) (place c) n max) s c n

abbrev pub read_u64_of : List ℕ → Cursor → ℕ → Result (Read ℕ) BitRefusal
read_u64_of s c n = read_of s c n width_max

-- "`read_u8`, `read_u16`, `read_u32` [..] refuse above 8, 16, 32 with that maximum": the same answer, the number at its own type
abbrev pub read_u32_of : List ℕ → Cursor → ℕ → Result (Read ℕ) BitRefusal
read_u32_of s c n = read_of s c n 32

abbrev pub read_u16_of : List ℕ → Cursor → ℕ → Result (Read ℕ) BitRefusal
read_u16_of s c n = read_of s c n 16

abbrev pub read_u8_of : List ℕ → Cursor → ℕ → Result (Read ℕ) BitRefusal
read_u8_of s c n = read_of s c n 8

abbrev pub advance_in : Result ⊤ BitRefusal → Cursor → ℕ → Result Cursor BitRefusal
advance_in (Ok u) c n = Ok (moved_by c n)
advance_in (Err e) c n = Err e

-- past n bits, at most max: the answer of `advance`, with 64, and of a write
abbrev pub advance_of : ℕ → Cursor → ℕ → ℕ → Result Cursor BitRefusal
advance_of len c n max = advance_in (room_of len (place c) n max) c n

abbrev pub written_in : Result ⊤ BitRefusal → List ℕ → Cursor → ℕ → ℕ → List ℕ
written_in (Ok u) s c n v = written s (place c) n v
written_in (Err e) s c n v = s

-- the buffer after a write of n bits of v: "A refused bit call changes neither cursor nor buffer"
abbrev pub written_of : List ℕ → Cursor → ℕ → ℕ → ℕ → List ℕ
written_of s c n max v = written_in (room_of (length s) (place c) n max) s c n v

-- Slices.

abbrev pub read_slice_in : Result ⊤ BitRefusal → Cursor → ℕ → Result (Read Part) BitRefusal
read_slice_in (Ok u) c n = Ok (record { value = record { start = bytes (place c / 8); len = bytes n }; next = moved_by c (n * 8) })
read_slice_in (Err e) c n = Err e

-- where n bytes from a cursor on stand in a buffer of len bytes
abbrev pub read_slice_of : ℕ → Cursor → ℕ → Result (Read Part) BitRefusal
read_slice_of len c n = read_slice_in (slice_room_of len (place c) n) c n

-- the bytes of a part, as far as the buffer has them
abbrev pub part_of : List ℕ → Part → List ℕ
part_of s p = take p.len.0 (drop p.start.0 s)

-- the answer of `write_slice`, for n bytes
abbrev pub write_slice_of : ℕ → Cursor → ℕ → Result Cursor BitRefusal
write_slice_of len c n = advance_in (slice_room_of len (place c) n) c (n * 8)

abbrev pub sliced_in : Result ⊤ BitRefusal → List ℕ → Cursor → List ℕ → List ℕ
sliced_in (Ok u) s c src = paste s (place c / 8) src (length src)
sliced_in (Err e) s c src = s

-- the buffer after src is written: its bytes from cursor/8 on are src's, every other is kept
abbrev pub sliced_of : List ℕ → Cursor → List ℕ → List ℕ
sliced_of s c src = sliced_in (slice_room_of (length s) (place c) (length src)) s c src
