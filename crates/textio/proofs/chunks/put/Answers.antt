-- What a write takes comes after what is written; one that a signal interrupts leaves it as it is.
use Rattle.std.proofs.Common.{◌≡◌, ◌+◌, ◌-◌, ◌++◌, rules, length, take, drop, sym, ap, ◌∙◌, subst}
use Rattle.std.proofs.Math.Seq.{take-add}
use Rattle.std.proofs.lemmas.List.{take_rest}
use Rattle.std.specs.Io.KnownBytes.{Appends}
use Rattle.std.proofs.KnownBytes.{Appends-trans}
use Rattle.textio.proofs.chunks.put.Goals as goal
use Rattle.textio.proofs.chunks.put.Goals.{in-Ok, in-Err}

pub loop-preserved : goal.loop-preserved
loop-preserved g c =
    let text = c.args.text.now in
    let done = c.loop.done in
    elim c.match-write.branch [
      | in-Ok w ↦
          let n = w.in-Ok.n in
          let piece : take done text ++ take n (take (length text - done) (drop done text)) ≡ take (done + n) text =
          ap (λ xs. take done text ++ take n xs) (take_rest text done) ∙ sym (take-add done n text) in
          rw w.done-is (search rules, subst (Appends _ _) piece (Appends-trans _ _ _ _ _ c.loop.invariant.1 w.in-Ok.ensures.bytes))
      | in-Err w ↦ search rules
    ]
