-- What is made of each reading is its struct.
use Rattle.std.proofs.Common.{ap, ◌∙◌, List}
use Rattle.lent_readings.specs.Run.{entries_of}
use Rattle.structs.specs.declared.Record.{Record}
use Rattle.structs.proofs.Listed.{structs-map}
use Rattle.structs.proofs.decode_run.Goals as goal

pub returns : goal.returns
returns c = (c.decode_as.ensures.0, (c.decode_as.ensures.1.0, c.decode_as.ensures.1.1 ∙ ap (λ (rs : List Record). entries_of rs c.args.out.now) (structs-map _)))
