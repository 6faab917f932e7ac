-- By what the VALUE is.
use borrow.Author.Rules.{rules}
use mathlib.Core.Path.{refl}
use Rattle.text.proofs.Putting.{same}
use Rattle.columns.proofs.Stored.{stored_bytes}
use Rattle.bitcalls.specs.Text.{bytes_max}
use Rattle.bitcalls.proofs.Values.{slice-bad, slice-other, slice}
use Rattle.bitcalls.proofs.writes.put_write_slice.Goals as goal

pub returns-in_default : goal.returns-in_default
returns-in_default c = same (slice-bad c.args.c c.args.s.now c.args.count c.args.text.now (stored_bytes _ bytes_max (search rules) refl c.bytes.ensures) c.in_default.is) c.put_malformed.ensures

pub returns-then-n-count : goal.returns-then-n-count
returns-then-n-count c =
    same
    (slice-other c.args.c c.args.s.now c.args.count c.args.text.now (stored_bytes _ bytes_max (search rules) refl c.bytes.ensures) c.in-Some.is c.if-n-count.true)
    c.put_malformed-then-n-count.ensures

pub slice_bounds-write_slice-end : goal.slice_bounds-write_slice-end
slice_bounds-write_slice-end c = (stored_bytes _ bytes_max (search rules) refl c.bytes.ensures).within c.in-Some.is

pub returns : goal.returns
returns c =
    same
    (slice c.args.c c.args.s.now c.args.count c.args.text.now (stored_bytes _ bytes_max (search rules) refl c.bytes.ensures) c.in-Some.is c.if-n-count.false
    c.write_slice-m.ensures.0 c.write_slice-m.ensures.1)
    c.put_written.ensures
