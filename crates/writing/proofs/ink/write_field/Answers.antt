-- What was weighed has room.
use Rattle.std.specs.Prelude.{Result}
use mathlib.Core.Path.{sym, subst, ◌∙◌}
use lib.ListN.{length}
use Rattle.weighing.specs.declared.EncodeRefusal.{EncodeRefusal}
use Rattle.weighing.specs.declared.Weighed.{Weighed}
use Rattle.writing.specs.Ink.{Puttable}
use Rattle.writing.proofs.Puts.{weighed-puts}
use Rattle.writing.proofs.ink.write_field.Goals as goal

pub put_weighed-requires : goal.put_weighed-requires
put_weighed-requires c _ =
    let size = length c.args.buffer.now in
    let lent = length c.args.lent.now in
    subst (λ (x : Result Weighed EncodeRefusal). Puttable size c.args.at.0 x lent) (sym (sym c.in_ok-weighed.was ∙ c.weigh_field.ensures)) (weighed-puts size c.args.at.0 lent c.args.f c.args.i c.args.value)
