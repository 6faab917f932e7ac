use mathlib.Core.Path.{◌≡◌, sym, ap, ◌∙◌}
use mathlib.Core.Bool.{true, false}
use Prim.Native.Nat.{◌/◌, ◌%◌}
use native.Mathlib.Omega.{arith}
use lib.ListN.{length}
use Rattle.hexadecimal.specs.Digits.{all_digits_lem}
use Rattle.hexadecimal.proofs.Inverse.{length_pairs}
use Rattle.columns.specs.Runs.{run, filled}
use Rattle.columns.proofs.Filling.{pairs-odd, pairs-full, pairs-other, pairs-good}
use Rattle.columns.proofs.runs.pairs.Goals as goal

pub returns-then-s-ne0 : goal.returns-then-s-ne0
returns-then-s-ne0 c = pairs-odd c.args.s.now c.args.buffer.now c.if-s-ne0.true

pub returns-then-buffer-n : goal.returns-then-buffer-n
returns-then-buffer-n c = pairs-full c.args.s.now c.args.buffer.now c.if-buffer-n.true

pub returns-then-not-all_digits : goal.returns-then-not-all_digits
returns-then-not-all_digits c =
    let e : all_digits_lem c.args.s.now ≡ false = sym c.all_digits.ensures ∙ c.if-not-all_digits.true in
    pairs-other c.args.s.now c.args.buffer.now e

pub store_pairs-requires : goal.store_pairs-requires
store_pairs-requires c = (sym c.all_digits.ensures ∙ c.if-not-all_digits.false, omega (arith, length_pairs c.args.s.now, c.if-buffer-n.false))

pub returns : goal.returns
returns c =
    let even : length c.args.s.now % 2 ≡ 0 = omega (arith, c.if-s-ne0.false) in
    let e : all_digits_lem c.args.s.now ≡ true = sym c.all_digits.ensures ∙ c.if-not-all_digits.false in
    ap (filled (run (length c.args.s.now / 2))) c.store_pairs.ensures ∙ sym (pairs-good c.args.s.now c.args.buffer.now even c.if-buffer-n.false e)
