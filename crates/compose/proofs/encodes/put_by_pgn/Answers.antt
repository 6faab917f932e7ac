-- By whether the field is a PGN, which then has 24 bits.
use mathlib.Core.Path.{sym, ◌∙◌}
use native.Mathlib.Omega.{arith}
use Rattle.text.proofs.Putting.{same}
use Rattle.compose.proofs.Ordering.{no_number, not-six, pgn-small, by-pgn}
use Rattle.compose.proofs.encodes.put_by_pgn.Goals as goal

pub returns-in_default : goal.returns-in_default
returns-in_default c = same (no_number c.args.s.now c.args.values.now c.args.lent.now (sym c.hex.ensures ∙ c.in_default.is)) c.put_malformed.ensures

pub returns-then-s-ne-PGN_DIGITS : goal.returns-then-s-ne-PGN_DIGITS
returns-then-s-ne-PGN_DIGITS c = same (not-six c.args.s.now c.args.values.now c.args.lent.now c.if-s-ne-PGN_DIGITS.true) c.put_malformed-then-s-ne-PGN_DIGITS.ensures

pub overflow_cast-pgn : goal.overflow_cast-pgn
overflow_cast-pgn c = omega (arith, pgn-small c.args.s.now c.args.values.now c.args.lent.now (sym c.hex.ensures ∙ c.in-Some.is) c.if-s-ne-PGN_DIGITS.false)

pub returns : goal.returns
returns c = same (by-pgn c.args.s.now c.args.values.now c.args.lent.now (sym c.hex.ensures ∙ c.in-Some.is) c.if-s-ne-PGN_DIGITS.false) c.put_known.ensures
