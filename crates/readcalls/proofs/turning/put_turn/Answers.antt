-- Case by case.
use mathlib.Core.Path.{◌≡◌, sym, ap, ◌∙◌}
use mathlib.Core.List.{append-nil, flat_map}
use Rattle.std.specs.Prelude.{Result, Ok}
use Rattle.text.proofs.Putting.{same}
use Rattle.fields.specs.declared.DecodeRefusal.{DecodeRefusal}
use Rattle.reading.specs.declared.Answer.{Answer}
use Rattle.reading.specs.Steps.{handed}
use Rattle.readcalls.specs.Lines.{reading_line}
use Rattle.readcalls.proofs.turning.put_turn.Goals as goal

was : {a : Result Answer DecodeRefusal} {x y : Answer} → a ≡ Ok x → x ≡ y → a ≡ Ok y
was e h = e ∙ ap Ok h

pub returns-in-Ok-Met : goal.returns-in-Ok-Met
unfolding flat_map
returns-in-Ok-Met c =
    let met = was c.in-Ok-Met.is (rw c.in-Ok-Met.is at c.in-Ok-Met.field-0-is) in
    same (sym (append-nil _) ∙ sym (ap (λ (x : Result Answer DecodeRefusal). flat_map reading_line (handed x)) met)) c.put_reading.ensures
