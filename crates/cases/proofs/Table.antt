-- The cases of document 01 that are marked *, all of them, in its order and words, and then what the printing program prints for its worked line and for each
-- refusal: each is computed from the definitions that the contracts cite. Assumes nothing.
use mathlib.Core.Path.{◌≡◌, refl, ◌∙◌}
use mathlib.Core.List.{List, [], ◌∷◌, ◌++◌, flat_map}
use Prim.Native.Nat.{ℕ, ◌+◌, ◌*◌}
use native.Mathlib.Omega.{arith}
use Rattle.bits.specs.Bits.{sum_bits, put_bit, from_bits_lem}
use Rattle.bits.specs.declared.BitRefusal.TheVariants.{TooLongForType, OutOfBits, OutOfBytes, NonAlignedBit}
use Rattle.std.specs.Prelude.{Ok, Err}
use lib.IntN.{pos, negsuc}
use lib.Ieee.{fin, binary32, binary64, of_int, round, units, odd, size, span, climb, of_bits, of_fields, div, add, sub, sum, le, lt, eq}
use mathlib.Core.Bool.{Bool, true, false}
use Rattle.std.specs.Prelude.{Ok, Err, Some, None, Result, Option}
use Rattle.rounding.specs.Truncation.{half_away_of}
use Rattle.numbers.specs.declared.NumberRefusal.{NumberRefusal}
use Rattle.numbers.specs.declared.NumberRefusal.TheVariants.{OutOfRange}
use Rattle.numbers.specs.Signs.{sign_extend_of}
use Rattle.numbers.specs.Quantizing.{quantize_of}
use Rattle.numbers.specs.Special.{elements_of}
use Rattle.bits.specs.Calls.{bits, bytes, cursor_at, read_u64_of, read_slice_of, advance_of, written_of}
use Rattle.descriptor.specs.declared.FieldKind.{FieldKind}
use Rattle.descriptor.specs.declared.FieldKind.TheVariants.{StringLau, StringLz}
use Rattle.descriptor.specs.declared.FieldDescriptor.{FieldDescriptor}
use Rattle.descriptor.specs.declared.Resolution.TheVariants.{Unscaled}
use Rattle.descriptor.specs.declared.Availability.TheVariants.{Available, NotAvailable}
use Rattle.descriptor.specs.declared.PgnValue.TheVariants.{U16}
use Rattle.tables.specs.Table.{Table, table_of}
use Rattle.tables.specs.Rules.{in_sets_lem, declared_bits_lem}
use Rattle.tables.specs.Check.{found_from}
use Rattle.tables.specs.declared.TableRule.TheVariants as rule
use Rattle.walking.specs.Runs.{guard, after, and_then, times}
use Rattle.walking.specs.Walk.{check, lift, place_from, element_at, group_at, field_by_lem, field_at, walk_from}
use Rattle.fields.specs.declared.DecodeRefusal.{DecodeRefusal}
use Rattle.fields.specs.declared.DecodeRefusal.TheVariants.{BitReaderError, InvalidDataLength, RepetitionsExceedCapacity, WrongLength, TableRefused, NoRoom}
use Rattle.fields.specs.declared.FieldRead.{FieldRead}
use Rattle.fields.specs.declared.FieldRead.TheVariants.{Got}
use Rattle.fields.specs.Payload.{payload_of}
use Rattle.fields.specs.Content.{text_at_lem, field_read_of, availability_of}
use Rattle.reading.specs.Groups.{group_count_of, noted_to}
use Rattle.reading.specs.Decode.{readings}
use Rattle.hexadecimal.specs.Digits.{all_digits_lem, spelled_from, pairs_of}
use Rattle.text.specs.Digits.{higher, fixed}
use Rattle.text.specs.Refusals.{carried_texts}
use Rattle.lines.specs.Machine.{up_to_newline, text_from, is_open}
use Rattle.lines.proofs.Whole.{line-printed, open-printed}
use Rattle.frame_lines.specs.Lines.{reading_line, frame_line, end_line, refusal_line, unknown_line}
use Rattle.printing.specs.Text.{answered, printed}

-- Bit calls.

-- "F0 1F, cursor 4, 9 bits: 511"
nine-bits : read_u64_of (0xF0 ∷ 0x1F ∷ []) (cursor_at 4) 9 ≡ Ok (record { value = 511; next = cursor_at 13 })
unfolding sum_bits
nine-bits = refl

-- "Empty slice at 16 of 2 bytes: accepted; ..
empty-at-the-end : read_slice_of 2 (cursor_at 16) 0 ≡ Ok (record { value = record { start = bytes 2; len = bytes 0 }; next = cursor_at 16 })
empty-at-the-end = refl

-- .. at 24:", since document 02, §2, "asked 0, available 0"
empty-past-the-end : read_slice_of 2 (cursor_at 24) 0 ≡ Err (OutOfBytes (bytes 0) (bytes 0))
empty-past-the-end = refl

-- "Write 3 bits of 13 at 6 in 00 00: 40 01": the buffer, and the answer
three-of-thirteen : written_of (0x00 ∷ 0x00 ∷ []) (cursor_at 6) 3 64 13 ≡ 0x40 ∷ 0x01 ∷ []
unfolding sum_bits put_bit from_bits_lem
three-of-thirteen = refl

three-are-accepted : advance_of 2 (cursor_at 6) 3 64 ≡ Ok (cursor_at 9)
three-are-accepted = refl

-- Numbers.

-- "12 bits 0x800: −2,048"
twelve-bits : sign_extend_of 0x800 12 ≡ negsuc 2047
twelve-bits = refl

-- "16,777,217 to f32: 16,777,216", which is 1 · 2^24; ..
to-f32-down : of_int binary32 (pos 16777217) ≡ fin false 1 (pos 24)
unfolding of_int round units odd size span climb
to-f32-down = refl

-- .. "16,777,219: 16,777,220", which is 4,194,305 · 2^2
to-f32-up : of_int binary32 (pos 16777219) ≡ fin false 4194305 (pos 2)
unfolding of_int round units odd size span climb
to-f32-up = refl

-- the value with these bits, quantized at resolution 1
by_one : ℕ → ℕ → Bool → Result ℕ NumberRefusal
by_one value n signed = quantize_of (of_bits binary64 value) (fin false 1 (pos 0)) n signed

-- "Resolution 1, unsigned 8: 255.4 gives 255, 255.5 refused, −0.4 gives 0, −0.5 refused"
unsigned-8 :
    (by_one 0x406feccccccccccd 8 false ≡ Ok 255)
    × (by_one 0x406ff00000000000 8 false ≡ Err OutOfRange)
    × (by_one 0xbfd999999999999a 8 false ≡ Ok 0)
    × (by_one 0xbfe0000000000000 8 false ≡ Err OutOfRange)
unfolding by_one of_bits of_fields odd div round units size span climb half_away_of add sub sum le lt eq
unsigned-8 = (refl, refl, refl, refl)

-- "Signed 8: −128.4 gives −128, −128.5 refused": the raw 128 means −128
signed-8 : (by_one 0xc0600ccccccccccd 8 true ≡ Ok 128) × (sign_extend_of 128 8 ≡ negsuc 127) × (by_one 0xc060100000000000 8 true ≡ Err OutOfRange)
unfolding by_one of_bits of_fields odd div round units size span climb half_away_of add sub sum le lt eq
signed-8 = (refl, refl, refl)

-- "Unsigned 64: −2,048 gives 0, −2,049 refused"
unsigned-64 : (by_one 0xc0a0000000000000 64 false ≡ Ok 0) × (by_one 0xc0a0020000000000 64 false ≡ Err OutOfRange)
unfolding by_one of_bits of_fields odd div round units size span climb half_away_of add sub sum le lt eq
unsigned-64 = (refl, refl)

-- "Counter 255 in 8 bits: 0"
counter : elements_of 8 255 ≡ 0
counter = refl

-- Reading.

-- a counter of 8 bits, and a set of one Number of 32 bits, of which there are at most so many
abbrev counted : ℕ → Table
counted maximum = table_of (0x1_0002 ∷ 0x800 ∷ 0x2000 ∷ (0x1_0001 + maximum * 0x1_0000_0000_0000) ∷ [])

-- "3 declared, 64 bits left, 32 each: 2; maximum 1: refused with 2"
two-fit : (group_count_of (counted 5) 0 3 64 ≡ Ok 2) × (group_count_of (counted 1) 0 3 64 ≡ Err (RepetitionsExceedCapacity 0 2 1))
unfolding declared_bits_lem
two-fit = (refl, refl)

-- a text of this kind at the start of a payload, which is the last field
abbrev text : FieldKind → FieldDescriptor
text kind = record { kind = kind; width = 0; signed = false; resolution = Unscaled }

abbrev read : FieldKind → List ℕ → Result FieldRead DecodeRefusal
read kind payload = field_read_of (payload_of payload) (text kind) 0 true 0

-- n bits, of which so many bytes from byte `place` on are text
abbrev text_of : ℕ → ℕ → ℕ → Option ℕ → Result FieldRead DecodeRefusal
text_of n place len enc = Ok (Got (bits n) None (text_at_lem place len enc))

-- "LAU 0 or 1: 8 bits; 2: 16 bits, not available"
lau :
    (read StringLau (0 ∷ []) ≡ text_of 8 0 0 None)
    × (read StringLau (1 ∷ []) ≡ text_of 8 0 0 None)
    × (read StringLau (2 ∷ 1 ∷ []) ≡ text_of 16 0 0 (Some 1))
    × (availability_of (payload_of (2 ∷ 1 ∷ [])) (text StringLau) None (text_at_lem 0 0 (Some 1)) ≡ NotAvailable)
unfolding sum_bits
lau = (refl, refl, refl, refl)

-- "LZ 02 41 42 00: 32 bits; 02 41 42 07: 24"
lz :
    (read StringLz (0x02 ∷ 0x41 ∷ 0x42 ∷ 0x00 ∷ []) ≡ text_of 32 1 2 None)
    × (read StringLz (0x02 ∷ 0x41 ∷ 0x42 ∷ 0x07 ∷ []) ≡ text_of 24 1 2 None)
unfolding sum_bits
lz = (refl, refl)

-- The printing program.

-- "`01F8022AFC5C3DC098FFFF`"
abbrev line : List ℕ
line = 48 ∷ 49 ∷ 70 ∷ 56 ∷ 48 ∷ 50 ∷ 50 ∷ 65 ∷ 70 ∷ 67 ∷ 53 ∷ 67 ∷ 51 ∷ 68 ∷ 67 ∷ 48 ∷ 57 ∷ 56 ∷ 70 ∷ 70 ∷ 70 ∷ 70 ∷ []

-- "prints exactly": the six lines
abbrev lines : List ℕ
lines = 80 ∷ 32 ∷ 48 ∷ 49 ∷ 70 ∷ 56 ∷ 48 ∷ 50 ∷ 32 ∷ 56 ∷ 10 ∷ 82 ∷ 32 ∷ 48 ∷ 32 ∷ 45 ∷ 32 ∷ 48 ∷ 32 ∷ 56 ∷ 32 ∷ 65 ∷ 32 ∷ 50 ∷ 65 ∷ 10 ∷ 82 ∷ 32 ∷ 49 ∷ 32 ∷ 45 ∷ 32 ∷ 56 ∷ 32 ∷ 50 ∷ 32 ∷ 65 ∷ 32 ∷ 48 ∷ 10 ∷ 82 ∷ 32 ∷ 51 ∷ 32 ∷ 45 ∷ 32 ∷ 49 ∷ 54 ∷ 32 ∷ 49 ∷ 54 ∷ 32 ∷ 65 ∷ 32 ∷ 51 ∷ 68 ∷ 53 ∷ 67 ∷ 10 ∷ 82 ∷ 32 ∷ 52 ∷ 32 ∷ 45 ∷ 32 ∷ 51 ∷ 50 ∷ 32 ∷ 49 ∷ 54 ∷ 32 ∷ 65 ∷ 32 ∷ 57 ∷ 56 ∷ 67 ∷ 48 ∷ 10 ∷ 69 ∷ 32 ∷ 54 ∷ 52 ∷ 10 ∷ []

worked : answered line ≡ lines
unfolding reading_line frame_line end_line flat_map higher fixed all_digits_lem spelled_from pairs_of readings noted_to sum_bits guard after and_then times check lift place_from element_at group_at field_by_lem field_at walk_from in_sets_lem declared_bits_lem found_from of_bits of_fields odd le lt eq
worked = refl

-- the line by itself, with its newline and without
worked-line : (printed (line ++ 10 ∷ []) ≡ lines) × (printed line ≡ lines)
unfolding up_to_newline
worked-line = (line-printed answered line refl ∙ worked, open-printed answered line refl (omega arith) ∙ worked)

-- F 14, of a small letter and of an empty line
small-letter : printed (48 ∷ 49 ∷ 102 ∷ 56 ∷ 48 ∷ 50 ∷ 10 ∷ 10 ∷ [])
    ≡ 70 ∷ 32 ∷ 49 ∷ 52 ∷ 10 ∷ 70 ∷ 32 ∷ 49 ∷ 52 ∷ 10 ∷ []
unfolding text_from is_open reading_line frame_line end_line refusal_line unknown_line flat_map carried_texts higher fixed all_digits_lem spelled_from pairs_of readings noted_to sum_bits guard after and_then times check lift place_from element_at group_at field_by_lem field_at walk_from in_sets_lem declared_bits_lem found_from of_bits of_fields odd le lt eq
small-letter = refl

-- F 15 01F803
unknown-pgn : printed (48 ∷ 49 ∷ 70 ∷ 56 ∷ 48 ∷ 51 ∷ 10 ∷ [])
    ≡ 70 ∷ 32 ∷ 49 ∷ 53 ∷ 32 ∷ 48 ∷ 49 ∷ 70 ∷ 56 ∷ 48 ∷ 51 ∷ 10 ∷ []
unfolding text_from is_open reading_line frame_line end_line refusal_line unknown_line flat_map carried_texts higher fixed all_digits_lem spelled_from pairs_of readings noted_to sum_bits guard after and_then times check lift place_from element_at group_at field_by_lem field_at walk_from in_sets_lem declared_bits_lem found_from of_bits of_fields odd le lt eq
unknown-pgn = refl

-- a number cut short: F 4 1
cut_short : printed (48 ∷ 49 ∷ 70 ∷ 56 ∷ 48 ∷ 50 ∷ 50 ∷ 65 ∷ 10 ∷ [])
    ≡ 80 ∷ 32 ∷ 48 ∷ 49 ∷ 70 ∷ 56 ∷ 48 ∷ 50 ∷ 32 ∷ 49 ∷ 10 ∷ 82 ∷ 32 ∷ 48 ∷ 32 ∷ 45 ∷ 32 ∷ 48 ∷ 32 ∷ 56 ∷ 32 ∷ 65 ∷ 32 ∷ 50 ∷ 65 ∷ 10 ∷ 70 ∷ 32 ∷ 52 ∷ 32 ∷ 49 ∷ 10 ∷ []
unfolding text_from is_open reading_line frame_line end_line refusal_line unknown_line flat_map carried_texts higher fixed all_digits_lem spelled_from pairs_of readings noted_to sum_bits guard after and_then times check lift place_from element_at group_at field_by_lem field_at walk_from in_sets_lem declared_bits_lem found_from of_bits of_fields odd le lt eq
cut_short = refl

-- a Reserved field cut short: F 2 5 16 0
reserved-short : printed (48 ∷ 49 ∷ 70 ∷ 56 ∷ 48 ∷ 50 ∷ 50 ∷ 65 ∷ 70 ∷ 67 ∷ 53 ∷ 67 ∷ 51 ∷ 68 ∷ 67 ∷ 48 ∷ 57 ∷ 56 ∷ 10 ∷ [])
    ≡ 80 ∷ 32 ∷ 48 ∷ 49 ∷ 70 ∷ 56 ∷ 48 ∷ 50 ∷ 32 ∷ 54 ∷ 10 ∷ 82 ∷ 32 ∷ 48 ∷ 32 ∷ 45 ∷ 32 ∷ 48 ∷ 32 ∷ 56 ∷ 32 ∷ 65 ∷ 32 ∷ 50 ∷ 65 ∷ 10 ∷ 82 ∷ 32 ∷ 49 ∷ 32 ∷ 45 ∷ 32 ∷ 56 ∷ 32 ∷ 50 ∷ 32 ∷ 65 ∷ 32 ∷ 48 ∷ 10 ∷ 82 ∷ 32 ∷ 51 ∷ 32 ∷ 45 ∷ 32 ∷ 49 ∷ 54 ∷ 32 ∷ 49 ∷ 54 ∷ 32 ∷ 65 ∷ 32 ∷ 51 ∷ 68 ∷ 53 ∷ 67 ∷ 10 ∷ 82 ∷ 32 ∷ 52 ∷ 32 ∷ 45 ∷ 32 ∷ 51 ∷ 50 ∷ 32 ∷ 49 ∷ 54 ∷ 32 ∷ 65 ∷ 32 ∷ 57 ∷ 56 ∷ 67 ∷ 48 ∷ 10 ∷ 70 ∷ 32 ∷ 50 ∷ 32 ∷ 53 ∷ 32 ∷ 49 ∷ 54 ∷ 32 ∷ 48 ∷ 10 ∷ []
unfolding text_from is_open reading_line frame_line end_line refusal_line unknown_line flat_map carried_texts higher fixed all_digits_lem spelled_from pairs_of readings noted_to sum_bits guard after and_then times check lift place_from element_at group_at field_by_lem field_at walk_from in_sets_lem declared_bits_lem found_from of_bits of_fields odd le lt eq
reserved-short = refl

-- one line for each refusal of a decode, and 1, which none gives; 6 is of a bit call alone
refusal-lines :
    (refusal_line (BitReaderError 3 (TooLongForType 64 65)) ≡ 70 ∷ 32 ∷ 49 ∷ 32 ∷ 51 ∷ 32 ∷ 54 ∷ 52 ∷ 32 ∷ 54 ∷ 53 ∷ 10 ∷ [])
    × (refusal_line (BitReaderError 5 (OutOfBits (bits 16) (bits 0))) ≡ 70 ∷ 32 ∷ 50 ∷ 32 ∷ 53 ∷ 32 ∷ 49 ∷ 54 ∷ 32 ∷ 48 ∷ 10 ∷ [])
    × (refusal_line (BitReaderError 1 (OutOfBytes (bytes 9) (bytes 8))) ≡ 70 ∷ 32 ∷ 50 ∷ 32 ∷ 49 ∷ 32 ∷ 57 ∷ 32 ∷ 56 ∷ 10 ∷ [])
    × (refusal_line (BitReaderError 1 (NonAlignedBit (bits 12))) ≡ 70 ∷ 32 ∷ 51 ∷ 32 ∷ 49 ∷ 32 ∷ 49 ∷ 50 ∷ 10 ∷ [])
    × (refusal_line (InvalidDataLength 3) ≡ 70 ∷ 32 ∷ 52 ∷ 32 ∷ 51 ∷ 10 ∷ [])
    × (refusal_line (RepetitionsExceedCapacity 0 46 45) ≡ 70 ∷ 32 ∷ 53 ∷ 32 ∷ 48 ∷ 32 ∷ 52 ∷ 54 ∷ 32 ∷ 52 ∷ 53 ∷ 10 ∷ [])
    × (refusal_line (WrongLength (bytes 224)) ≡ 70 ∷ 32 ∷ 55 ∷ 32 ∷ 50 ∷ 50 ∷ 52 ∷ 10 ∷ [])
    × (refusal_line (TableRefused rule.C 0) ≡ 70 ∷ 32 ∷ 56 ∷ 32 ∷ 99 ∷ 32 ∷ 48 ∷ 10 ∷ [])
    × (refusal_line (NoRoom 17) ≡ 70 ∷ 32 ∷ 57 ∷ 32 ∷ 49 ∷ 55 ∷ 10 ∷ [])
unfolding refusal_line carried_texts higher
refusal-lines = (refl, refl, refl, refl, refl, refl, refl, refl, refl)

-- "N is not available", with an element; "a raw that is none prints place:length in decimal"
reading-lines :
    (reading_line (record { field = 17; element = Some 1; start = bits 376; bits = bits 16; raw = Some 0xFFFF; value = U16 0xFFFF; availability = NotAvailable })
    ≡ 82 ∷ 32 ∷ 49 ∷ 55 ∷ 32 ∷ 49 ∷ 32 ∷ 51 ∷ 55 ∷ 54 ∷ 32 ∷ 49 ∷ 54 ∷ 32 ∷ 78 ∷ 32 ∷ 70 ∷ 70 ∷ 70 ∷ 70 ∷ 10 ∷ [])
    × (reading_line (record { field = 2; element = None; start = bits 8; bits = bits 32; raw = None; value = text_at_lem 2 12 None; availability = Available })
    ≡ 82 ∷ 32 ∷ 50 ∷ 32 ∷ 45 ∷ 32 ∷ 56 ∷ 32 ∷ 51 ∷ 50 ∷ 32 ∷ 65 ∷ 32 ∷ 50 ∷ 58 ∷ 49 ∷ 50 ∷ 10 ∷ [])
unfolding reading_line higher
reading-lines = (refl, refl)
