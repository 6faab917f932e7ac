-- What the code answers by the definitions.
use Rattle.std.specs.Prelude.{◌≡◌, ℕ, ◌+◌, List, [], ◌++◌, leb, ltb, length, take, drop, Option, Some, None}
use Rattle.bits.specs.Bits.{pick}
use Rattle.columns.specs.Parts.{space, parts_of}
use Rattle.columns.specs.Runs.{over}
use Rattle.compose.specs.declared.entries.Entry.{Entry}
use Rattle.compose.specs.declared.entries.Listed.{Listed}
use Rattle.compose.specs.Values.{Value, number, text, none, value_of}
use Rattle.compose.specs.Records.{text_of, Lists, lists, unlisted, more, lists_from}

-- ## A value

-- what is known of a value
abbrev pub entry : ℕ → ℕ → ℕ → Entry
entry head word len = record { head = head; word = word; len = len }

-- .. where so many bytes of text come before it
abbrev pub entry_of : ℕ → Value → Option Entry
entry_of used (number kind word) = Some (entry kind word 0)
entry_of used (text head bytes) = Some (entry head used (length bytes))
entry_of used none = None

-- a value's entry, and the lent text with its text
pub data Told : Type 0 where
  told : Option Entry → List ℕ → Told

-- a text goes after those before it, if there is room
abbrev pub told_by : ℕ → List ℕ → Value → Told
told_by used old v =
    pick (leb (used + length (text_of v)) (length old)) (told (entry_of used v) (take used old ++ over (text_of v) (drop used old))) (told (entry_of used none) old)

-- ## The values of a line

-- nothing was listed
abbrev pub no_listed : Option Listed
no_listed = None

-- what was listed, as it stands in the buffers
abbrev pub taken : Option Listed → List ℕ → List ℕ → Lists
taken None values texts = unlisted
taken (Some r) values texts = lists (take r.bytes values) (take r.text texts)

-- the fields after one that ends at a place
abbrev pub fields_after : ℕ → List ℕ → List (List ℕ)
fields_after end line = pick (ltb end (length line)) (parts_of space (drop (end + 1) line)) []

-- `list_value`: one value more
abbrev pub Adds : Option Listed → List ℕ → List ℕ → Listed → List ℕ → List ℕ → List ℕ → Type 0
Adds r values' texts' listed values texts s = taken r values' texts' ≡ more (length values) (length texts) (taken (Some listed) values texts) (value_of s)

-- `list_values`: those of the fields after a place
abbrev pub Collects : Option Listed → List ℕ → List ℕ → List ℕ → ℕ → List ℕ → List ℕ → Type 0
Collects r values' texts' line from values texts = taken r values' texts' ≡ lists_from (length values) (length texts) (lists [] []) (fields_after from line)
