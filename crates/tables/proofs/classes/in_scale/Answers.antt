-- The two ends.
use mathlib.Core.Path.{◌≡◌, refl, sym, ap, ◌∙◌}
use mathlib.Core.Bool.{Bool, false, ◌&&◌}
use lib.IntN.{pos, negsuc}
use lib.Ieee.{Float, fin, binary32, le, of_bits}
use Rattle.tables.proofs.classes.in_scale.Goals as goal

low : of_bits binary32 0x1f80_0000 ≡ fin false 1 (negsuc 63)
unfolding of_bits
low = refl

top : of_bits binary32 0x4980_0000 ≡ fin false 1 (pos 20)
unfolding of_bits
top = refl

pub returns-then-r : goal.returns-then-r
returns-then-r c = ap (le c.args.r) top ∙ ap (λ (b : Bool). b && le c.args.r (fin false 1 (pos 20))) (sym (sym (ap (λ (x : Float). le x c.args.r) low) ∙ c.if-r.true))

pub returns-else-r : goal.returns-else-r
returns-else-r c = c.if-r.false ∙ ap (λ (b : Bool). b && le c.args.r (fin false 1 (pos 20))) (sym (sym (ap (λ (x : Float). le x c.args.r) low) ∙ c.if-r.false))
