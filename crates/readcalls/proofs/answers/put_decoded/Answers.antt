-- Case by case.
use mathlib.Core.Path.{sym, ap}
use Rattle.std.specs.Prelude.{Result}
use Rattle.bits.specs.declared.BitPos.{BitPos}
use Rattle.fields.specs.declared.DecodeRefusal.{DecodeRefusal}
use Rattle.text.proofs.Putting.{then, same}
use Rattle.readcalls.specs.Lines.{last_line_by}
use Rattle.readcalls.proofs.answers.put_decoded.Goals as goal

pub returns-in-Ok : goal.returns-in-Ok
unfolding last_line_by
returns-in-Ok c = same (sym (ap (λ (o : Result BitPos DecodeRefusal). last_line_by o c.args.d.count) c.in-Ok.is)) (then c.put.ensures (then (then c.put_number.ensures c.put_number-in-Ok.ensures) c.put-in-Ok.ensures))

pub returns-in-Err : goal.returns-in-Err
unfolding last_line_by
returns-in-Err c = same (sym (ap (λ (o : Result BitPos DecodeRefusal). last_line_by o c.args.d.count) c.in-Err.is)) c.put_refusal.ensures
