-- The values of a line as an encode takes them: a record of 24 bytes for each, as `offers` reads them, and the lent text.
use Rattle.std.specs.Prelude.{ℕ, zero, suc, ◌+◌, ◌/◌, ◌%◌, List, [], ◌∷◌, ◌++◌, Bool, true, false, ◌&&◌, leb, length}
use Rattle.bits.specs.Bits.{pick}
use Rattle.compose.specs.Values.{Value, number, text, none, value_of}

-- the n lowest bytes of a word, the lowest first
unfoldable pub low_bytes : ℕ → ℕ → List ℕ
low_bytes zero w = []
low_bytes (suc n) w = w % 256 ∷ low_bytes n (w / 256)

-- the kind's code and what is known of an encoding byte; a number's bits, or the place of a text in the lent text; a text's length
abbrev pub record_by : ℕ → ℕ → ℕ → List ℕ
record_by head word len = low_bytes 8 head ++ low_bytes 8 word ++ low_bytes 8 len

-- a value's record, where so many bytes of text come before it
abbrev pub record_of_lem : ℕ → Value → List ℕ
record_of_lem used (number kind word) = record_by kind word 0
record_of_lem used (text head bytes) = record_by head used (length bytes)
record_of_lem used none = record_by 0 0 0

-- the text that a value has
abbrev pub text_of : Value → List ℕ
text_of (number kind word) = []
text_of (text head bytes) = bytes
text_of none = []

-- whether it is one
abbrev pub is_value : Value → Bool
is_value (number kind word) = true
is_value (text head bytes) = true
is_value none = false

-- the records and the texts of some values, each one after another; or that they cannot be listed
pub data Lists : Type 0 where
  lists : List ℕ → List ℕ → Lists
  unlisted : Lists

-- one value more, where so many bytes of records and so many of text have room
abbrev pub more : ℕ → ℕ → Lists → Value → Lists
more room space (lists records texts) v =
    pick (is_value v && leb (length records + 24) room && leb (length texts + length (text_of v)) space)
    (lists (records ++ record_of_lem (length texts) v) (texts ++ text_of v))
    unlisted
more room space unlisted v = unlisted

-- the values that fields are, after those that are listed already
unfoldable pub lists_from : ℕ → ℕ → Lists → List (List ℕ) → Lists
lists_from room space l [] = l
lists_from room space l (s ∷ ss) = lists_from room space (more room space l (value_of s)) ss

-- the records of 2,000 values
abbrev pub records_max : ℕ
records_max = 48000

-- no line of 8,192 bytes has more text, as each byte of it takes two digits: proofs/Room.antt
abbrev pub texts_max : ℕ
texts_max = 4096

-- the values that fields are
abbrev pub lists_of : List (List ℕ) → Lists
lists_of fields = lists_from records_max texts_max (lists [] []) fields
