-- What is printed is the text of the lines alone, by `exact`.
use Rattle.std.proofs.Common.{ap, ◌∙◌, subst, rules, List, ℕ, ◌<◌, ◌^◌, length}
use Rattle.lines.specs.Machine.{closed, text_from}
use Rattle.frames.specs.declared.Line.{Line}
use Rattle.printing.specs.Answers.{kept, samopute}
use Rattle.printing.specs.Text.{printed}
use Rattle.printing.proofs.Paper.{exact}
use Rattle.textio.specs.Run.{Prints}
use Rattle.textio.proofs.Turns.{known_of}
use Rattle.samopute.proofs.run.Goals as goal

pub returns : goal.returns
returns g c =
    let Q : List ℕ → Type 0 =
    λ bytes. length (closed bytes) < 2 ^ 64 → Prints c.run.result (g.W.Write.contents c.args.writer.now) (g.W.Write.contents c.run.new.writer) (printed bytes) in
    let buffer = c.new-program.result.buffer in
    known_of _ _ Q
    (λ bytes p small. subst (Prints _ _ _) (ap (λ (l : Line). text_from samopute (kept l buffer) (closed bytes)) c.new-program.ensures.line ∙ exact buffer (closed bytes) (search rules) small) p)
    c.run.ensures
