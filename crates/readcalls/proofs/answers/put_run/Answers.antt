-- The part that is put is the touched one.
use mathlib.Core.Path.{◌≡◌, ap, ◌∙◌}
use Prim.Native.Nat.{ℕ, ◌-◌}
use mathlib.Core.List.{List}
use native.Mathlib.Omega.{arith}
use lib.ListN.{length, take, drop}
use Rattle.text.specs.Digits.{bytes_text}
use Rattle.text.proofs.Putting.{then, same}
use Rattle.readcalls.specs.Lines.{touched as touchedOf, run_line}
use Rattle.readcalls.proofs.Touching.{take-touched}
use Rattle.readcalls.proofs.answers.put_run.Goals as goal

touched-part : (run : List ℕ) {n : ℕ} {s : List ℕ} → n ≡ length (touchedOf run) → s ≡ take (n - 0) (drop 0 run) → s ≡ touchedOf run
touched-part run {n} e f = let all : n - 0 ≡ length (touchedOf run) = omega (arith, e) in f ∙ ap (λ (k : ℕ). take k run) all ∙ take-touched run

pub returns : goal.returns
unfolding run_line
returns c = then c.put_text.ensures (then (same (ap bytes_text (touched-part c.args.run.now c.touched.ensures c.part.ensures)) c.put_bytes.ensures) c.put.ensures)
