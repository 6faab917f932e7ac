-- Of each reading the run holds the reading itself.
use Rattle.std.proofs.Common.{ap, ◌∙◌, List}
use Rattle.reading.specs.declared.Reading.{Reading}
use Rattle.lent_readings.specs.Run.{entries_of}
use Rattle.lent_readings.proofs.Turns.{map-same}
use Rattle.lent_readings.proofs.decode.Goals as goal

pub returns : goal.returns
returns c = (c.decode_as.ensures.0, (c.decode_as.ensures.1.0, c.decode_as.ensures.1.1 ∙ ap (λ (rs : List Reading). entries_of rs c.args.out.now) (map-same _)))
