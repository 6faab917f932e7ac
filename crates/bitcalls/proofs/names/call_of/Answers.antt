-- The text holds the names in their order.
use mathlib.Core.Path.{ap, ◌∙◌}
use Rattle.columns.specs.Parts.{parts_of}
use Rattle.bitcalls.specs.Names.{call_of}
use Rattle.bitcalls.proofs.Arms.{named}
use Rattle.bitcalls.proofs.names.call_of.Goals as goal

pub returns : goal.returns
unfolding parts_of
returns c = named _ c.call_at.ensures c.place_in.ensures ∙ ap call_of c.word.ensures
