-- What is walked is the working payload.
use mathlib.Core.Path.{sym, ap, ◌∙◌}
use mathlib.Core.List.{flat_map}
use Rattle.std.specs.Prelude.{Result}
use Rattle.text.proofs.Putting.{nothing, same}
use Rattle.tables.specs.Table.{table_of}
use Rattle.fields.specs.declared.DecodeRefusal.{DecodeRefusal}
use Rattle.fields.specs.Payload.{payload_of}
use Rattle.reading.specs.Filling.{working_of}
use Rattle.reading.specs.Decode.{decoded_in, read_into}
use Rattle.readcalls.specs.Lines.{reading_line}
use Rattle.readcalls.proofs.turning.put_turns.Goals as goal

pub returns-in-Err : goal.returns-in-Err
unfolding flat_map
returns-in-Err c =
    let t = table_of c.args.words.now in
    let p = payload_of (working_of t c.args.received.now) in
    let refused = sym c.in-Err.is ∙ c.prepare.ensures.0 in (
      same (ap (λ (r : Result (Unit {0}) DecodeRefusal). flat_map reading_line (read_into r t p c.args.room)) refused) (nothing c.args.page.now),
      (ap (λ (r : Result (Unit {0}) DecodeRefusal). decoded_in r t p c.args.room) refused, c.prepare.ensures.1),
    )
