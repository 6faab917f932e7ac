-- By the code.
use mathlib.Core.Path.{ap, ◌∙◌}
use lib.ListN.{get_or}
use Rattle.offers.specs.Records.{offer_of_lem}
use Rattle.offers.proofs.Placed.{number}
use Rattle.offers.proofs.rows.record_at.Goals as goal

pub returns : goal.returns
returns c =
    c.offer_of.ensures ∙ ap (offer_of_lem (get_or c.args.s.now c.args.q 0)) c.word_at.ensures
    ∙ number c.args.s.now c.args.q c.if-code-eq11.false
