-- The bits that a field takes at a place, or why it cannot be read: document 01, "Reading a payload". i is the field's number, which a
-- refusal names; `early` says that it is the last field of the table, outside a set.
use Rattle.bits.specs.declared.BitRefusal.{BitRefusal}
use Rattle.std.specs.Prelude.{ℕ, ◌+◌, ◌-◌, ◌*◌, ◌/◌, min, Bool, true, false, ◌&&◌, ltb, eqb, Result, Ok, Err, ⊤}
use Rattle.bits.specs.Bits.{pick}
use Rattle.bits.specs.Calls.{room_of, slice_room_of, width_max}
use Rattle.tables.specs.Check.{payload_max}
use Rattle.descriptor.specs.declared.FieldDescriptor.{FieldDescriptor}
use Rattle.fields.specs.declared.DecodeRefusal.{DecodeRefusal}
use Rattle.fields.specs.declared.DecodeRefusal.TheVariants.{BitReaderError, InvalidDataLength}
use Rattle.fields.specs.declared.Shape.{Shape}
use Rattle.fields.specs.declared.Shape.TheVariants.{Number, Gap, Fixed, Whole, Lau, Lz}
use Rattle.fields.specs.Payload.{Payload, bits_left}
use Rattle.fields.specs.Shapes.{shape_of}

-- what a bit call says against it: "1 to 3 also name the field"
abbrev pub if_room_lem : Result ⊤ BitRefusal → ℕ → Result ℕ DecodeRefusal → Result ℕ DecodeRefusal
if_room_lem (Ok u) i later = later
if_room_lem (Err e) i later = Err (BitReaderError i e)

-- the refusal of a number that cannot be read: "Number kinds .. cut short give 4; other kinds give 1, 2 or 3"
abbrev pub short_of : Bool → ℕ → Result ⊤ BitRefusal → Result ℕ DecodeRefusal → Result ℕ DecodeRefusal
short_of strict i (Ok u) later = later
short_of true i (Err e) later = Err (InvalidDataLength i)
short_of false i (Err e) later = Err (BitReaderError i e)

-- n bits
abbrev pub room_at : Payload → ℕ → ℕ → Result ⊤ BitRefusal
room_at p at n = room_of p.size at n width_max

-- n whole bytes
abbrev pub bytes_room_lem : Payload → ℕ → ℕ → Result ⊤ BitRefusal
bytes_room_lem p at n = slice_room_of p.size at n

-- a text of n bytes: "An empty LZ or LAU text needs no alignment"
abbrev pub text_room_lem : Payload → ℕ → ℕ → Result ⊤ BitRefusal
text_room_lem p at n = pick (eqb n 0) (Ok tt) (bytes_room_lem p at n)

-- a StringFix over so many bytes may stop early
abbrev pub fixed_max : ℕ
fixed_max = 32

-- "StringFix over 32 bytes as the last field of the table, outside a set, takes the smaller of its size and the whole bytes left"
abbrev pub fixed_bytes_lem : Payload → Bool → ℕ → ℕ → ℕ
fixed_bytes_lem p early at w = pick (early && ltb fixed_max (w / 8)) (min (w / 8) (bits_left p at / 8)) (w / 8)

-- "string length byte over 223" is 4
abbrev pub if_length : ℕ → ℕ → Result ℕ DecodeRefusal → Result ℕ DecodeRefusal
if_length i len later = pick (ltb payload_max len) (Err (InvalidDataLength i)) later

-- "StringLau: length 0 or 1 is empty and takes 8 bits; otherwise an encoding byte and length − 2 of text"
abbrev pub lau_taken : Payload → ℕ → ℕ → ℕ → Result ℕ DecodeRefusal
lau_taken p i at len =
    if_length i len
    (pick (ltb len 2) (Ok 8)
    (if_room_lem (room_at p (at + 8) 8) i
    (if_room_lem (text_room_lem p (at + 16) (len - 2)) i (Ok (16 + 8 * (len - 2))))))

-- "and one more byte if 8 bits remain and it is zero": `next` is that byte, n the bits up to it
abbrev pub closed_by : Result ⊤ BitRefusal → ℕ → ℕ → ℕ
closed_by (Ok u) next n = pick (eqb next 0) (n + 8) n
closed_by (Err e) next n = n

abbrev pub closed_at_lem : Payload → ℕ → ℕ → ℕ
closed_at_lem p at n = closed_by (room_at p (at + n) 8) (p.bits (at + n) 8) n

-- "StringLz: length byte, text, [that byte]"
abbrev pub lz_taken : Payload → ℕ → ℕ → ℕ → Result ℕ DecodeRefusal
lz_taken p i at len = if_length i len (if_room_lem (text_room_lem p (at + 8) len) i (Ok (closed_at_lem p at (8 + 8 * len))))

-- a field of width w: "Reserved and Spare are skipped", "a StringFix always [needs alignment]"
abbrev pub taken_by : Shape → Payload → ℕ → Bool → ℕ → ℕ → Result ℕ DecodeRefusal
taken_by (Number strict) p i early w at = short_of strict i (room_at p at w) (Ok w)
taken_by Gap p i early w at = if_room_lem (room_at p at w) i (Ok w)
taken_by Fixed p i early w at = if_room_lem (bytes_room_lem p at (fixed_bytes_lem p early at w)) i (Ok (8 * fixed_bytes_lem p early at w))
taken_by Whole p i early w at = if_room_lem (bytes_room_lem p at (w / 8)) i (Ok (8 * (w / 8)))
taken_by Lau p i early w at = if_room_lem (room_at p at 8) i (lau_taken p i at (p.bits at 8))
taken_by Lz p i early w at = if_room_lem (room_at p at 8) i (lz_taken p i at (p.bits at 8))

-- a field at a place
abbrev pub taken_of : Payload → FieldDescriptor → ℕ → Bool → ℕ → Result ℕ DecodeRefusal
taken_of p f i early at = taken_by (shape_of f) p i early f.width at
