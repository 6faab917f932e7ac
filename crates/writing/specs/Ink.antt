-- What is put of a field that was weighed: document 01, "Writing a payload".
use Rattle.std.specs.Prelude.{◌≡◌, ℕ, ◌+◌, ◌-◌, ◌*◌, ◌/◌, ◌≤◌, ◌<◌, List, [], ◌∷◌, ◌++◌, length, take, drop, replicate, Result, Ok, Err}
use Rattle.weighing.specs.declared.EncodeRefusal.{EncodeRefusal}
use Rattle.bits.specs.Bits.{written}
use Rattle.descriptor.specs.declared.PgnBytes.{PgnBytes}
use Rattle.weighing.specs.declared.Lead.{Lead}
use Rattle.weighing.specs.declared.Lead.TheVariants.{Bare, Counted, Encoded, Empty}
use Rattle.weighing.specs.declared.Weighed.{Weighed}
use Rattle.weighing.specs.declared.Weighed.TheVariants.{Number, Gap, Text}
use Rattle.tables.specs.Check.{payload_max}

-- the bytes at a place of the lent text
abbrev pub text_in_lem : List ℕ → PgnBytes → List ℕ
text_in_lem lent b = take b.len.0 (drop b.start.0 lent)

-- the bytes of a field of n bits. "StringFix is filled with 0xFF"; a Binary has no byte left. "LZ writes length, text, zero"; LAU "writes length,
-- encoding, text": its length counts the two bytes before the text, as reading takes them off; "absent writes 1"
abbrev pub bytes_by : Lead → ℕ → List ℕ → List ℕ
bytes_by Bare n text = text ++ replicate (n / 8 - length text) 0xff
bytes_by Counted n text = length text ∷ (text ++ 0 ∷ [])
bytes_by (Encoded x) n text = (length text + 2) ∷ x ∷ text
bytes_by Empty n text = 1 ∷ []

-- how many bytes a text of n has with what stands around it
abbrev pub around : Lead → ℕ → ℕ
around Bare n = n
around Counted n = n + 2
around (Encoded x) n = n + 2
around Empty n = 1

-- bytes one after another, 8 bits each, from a bit on
unfoldable pub poured : List ℕ → ℕ → List ℕ → List ℕ
poured buffer at [] = buffer
poured buffer at (x ∷ xs) = poured (written buffer at 8 x) (at + 8) xs

-- a field that starts at a bit. "Skipped fields stay ones": nothing is put
abbrev pub inked : List ℕ → ℕ → Result Weighed EncodeRefusal → List ℕ → List ℕ
inked buffer at (Ok (Number n raw)) lent = written buffer at n.0 raw
inked buffer at (Ok (Gap n)) lent = buffer
inked buffer at (Ok (Text n lead b)) lent = poured buffer at (bytes_by lead n.0 (text_in_lem lent b))
inked buffer at (Err e) lent = buffer

-- n bits are whole bytes, and a text of `len` bytes with what stands around it fits them
pub record Whole (n : ℕ) (lead : Lead) (len : ℕ) : Type 0 where
  pub bytes : ℕ
  pub same : n ≡ 8 * bytes
  pub fits : around lead len ≤ bytes

-- what has room: so many bytes of buffer, a cursor, so many bytes of lent text. What `weigh_field` and `weigh_gap` let through is so:
-- proofs/Puts.antt
abbrev pub Puttable : ℕ → ℕ → Result Weighed EncodeRefusal → ℕ → Type 0
Puttable size at (Ok (Number n raw)) lent = (size ≤ payload_max) × ((0 < n.0) × ((n.0 ≤ 64) × (at + n.0 ≤ size * 8)))
Puttable size at (Ok (Gap n)) lent = (size ≤ 65536) × (at + n.0 ≤ size * 8)
Puttable size at (Ok (Text n lead b)) lent = (size ≤ payload_max) × ((at + n.0 ≤ size * 8) × ((b.start.0 + b.len.0 ≤ lent) × Whole n.0 lead b.len.0))
Puttable size at (Err e) lent = size ≡ size
