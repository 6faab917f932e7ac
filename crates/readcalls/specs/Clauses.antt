-- The contracts of the turns.
use Rattle.std.specs.Prelude.{◌≡◌, ℕ, length}
use mathlib.Core.List.{List, flat_map}
use Rattle.text.specs.declared.pages.Page.{Page}
use Rattle.text.specs.Sheet.{PutsOn}
use Rattle.tables.specs.Table.{table_of}
use Rattle.fields.specs.Payload.{payload_of}
use Rattle.reading.specs.declared.Decoded.{Decoded}
use Rattle.reading.specs.Decode.{walk_of, readings, spans_of, readings_of}
use Rattle.reading.specs.Clauses.{Decodes, walked_by}
use Rattle.readcalls.specs.Lines.{reading_line}

-- `put_walk`: the lines of all readings of a walk are put, and what it came to is answered
abbrev pub Walks : Decoded → Page → List ℕ → List ℕ → ℕ → Page → Type 0
Walks r page' words s room page =
    let t = table_of words in
    let p = payload_of s in
    PutsOn page (flat_map reading_line (readings t p (spans_of (walk_of t p room)))) page' × (r ≡ walked_by words s room)

-- `put_turns`: the same of what was received; and the answer and the padding run are those of `for_each_field`
abbrev pub Turns : Decoded → List ℕ → Page → List ℕ → List ℕ → List ℕ → ℕ → Page → Type 0
Turns r run' page' words received run room page =
    PutsOn page (flat_map reading_line (readings_of (table_of words) received (length run) room)) page' × Decodes r run' words received run room
