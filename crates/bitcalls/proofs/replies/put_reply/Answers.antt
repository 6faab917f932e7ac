-- By what BUFFER is, with a CURSOR and a COUNT.
use borrow.Author.Rules.{rules}
use mathlib.Core.Path.{◌≡◌, sym, ◌∙◌}
use mathlib.Core.List.{List}
use Prim.Native.Nat.{ℕ}
use lib.ListN.{replicate}
use Rattle.std.specs.Prelude.{Option}
use Rattle.text.proofs.Putting.{same}
use Rattle.columns.specs.Runs.{filled, bytes_in_lem, is_bytes, bytes_of}
use Rattle.columns.proofs.Stored.{Stored, stored_bytes}
use Rattle.bitcalls.specs.Text.{bytes_max}
use Rattle.bitcalls.proofs.Fields.{no_bytes, by_form}
use Rattle.bitcalls.proofs.replies.put_reply.Goals as goal

-- what is stored of a field in a buffer of zeros
bytes : {field field' : List ℕ} {r : Option ℕ} {new : List ℕ} → field ≡ field' → filled r new ≡ bytes_in_lem field (replicate bytes_max 0) → Stored (is_bytes bytes_max field') (bytes_of field') r new
bytes e f = stored_bytes _ bytes_max (search rules) e f

pub returns-in_default-bytes : goal.returns-in_default-bytes
returns-in_default-bytes c = same (no_bytes c.args.line.now ((bytes c.word.ensures c.bytes.ensures).none c.in_default-bytes.is)) c.put_malformed-in_default-bytes.ensures

pub slice_bounds-buffer-end : goal.slice_bounds-buffer-end
slice_bounds-buffer-end c = (bytes c.word.ensures c.bytes.ensures).within c.in-Some-bytes.is

pub returns : goal.returns
returns c =
    let stored = bytes c.word.ensures c.bytes.ensures in
    same
    (by_form c.args.line.now (sym c.number.ensures ∙ c.in-Some.is) (sym c.number-2.ensures ∙ c.in-Some-number.is) (stored.some c.in-Some-bytes.is)
    c.cursor_of-c.ensures c.place.ensures (stored.first c.in-Some-bytes.is))
    c.put_form.ensures
