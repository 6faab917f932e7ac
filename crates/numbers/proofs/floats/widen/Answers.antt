-- The same number, or the one NaN.
use mathlib.Core.Path.{sym, ◌∙◌}
use mathlib.Core.Bool.{not}
use lib.Ieee.{binary32, binary64, fits, is_nan, ne}
use lib.Ieee.Compare.{differs_from_itself}
use lib.Ieee.Fits.{fits_widens, and_i}
use denote.Floats.{passes}
use Rattle.rounding.proofs.Fields.{is_number}
use Rattle.rounding.proofs.Nans.{nan64}
use Rattle.numbers.proofs.floats.widen.Goals as goal

pub returns-then-x : goal.returns-then-x
returns-then-x c = nan64 ∙ sym (differs_from_itself c.args.x (passes (ne c.args.x c.args.x) c.if-x.true))

pub float_to_float-result : goal.float_to_float-result
float_to_float-result c = and_i (fits binary64 c.args.x) (not (is_nan c.args.x)) (fits_widens c.args.x (passes (fits binary32 c.args.x) c.well_formed.0.1)) (is_number c.args.x c.if-x.false)
