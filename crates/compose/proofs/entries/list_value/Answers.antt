-- By whether the field is a value, and its record and its text have room.
use native.Mathlib.Omega.{arith}
use borrow.Author.Rules.{rules}
use Rattle.compose.specs.Values.{value_of}
use Rattle.compose.proofs.Listing.{full, one_more}
use Rattle.compose.proofs.entries.list_value.Goals as goal

pub returns-then-values-to-clause-adds : goal.returns-then-values-to-clause-adds
returns-then-values-to-clause-adds c =
    full c.args.listed c.args.values.now c.args.lent.now (value_of c.args.s.now) c.requires.0 c.requires.1 c.entry_of.ensures c.in_ok-e.was (search rules) c.put_entry-to.ensures c.if-values-to.true

pub returns-clause-adds : goal.returns-clause-adds
returns-clause-adds c =
    one_more c.args.listed c.args.values.now c.args.lent.now (value_of c.args.s.now) c.requires.0 c.requires.1 c.entry_of.ensures c.in_ok-e.was (search rules) c.put_entry-to.ensures (omega (arith, c.if-values-to.false))
