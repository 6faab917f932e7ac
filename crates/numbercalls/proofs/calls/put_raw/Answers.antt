-- By what the VALUEKIND and the VALUE are.
use mathlib.Core.Path.{sym, ◌∙◌}
use Rattle.columns.specs.Parts.{parts_of}
use Rattle.text.proofs.Putting.{same}
use Rattle.numbercalls.proofs.Texts.{no_kind, no_value, first_kind, back}
use Rattle.numbercalls.proofs.calls.put_raw.Goals.{in_default-via-in-Some+in_default, in_default-via-in_default}
use Rattle.numbercalls.proofs.calls.put_raw.Goals as goal

pub returns-in_default : goal.returns-in_default
unfolding parts_of
returns-in_default c =
    same
    (elim c.in_default.branch [
      | in_default-via-in-Some+in_default w ↦ no_value c.args.f c.args.digits.now c.args.kind.now (sym c.hex.ensures ∙ w.in_default.is-1)
      | in_default-via-in_default w ↦ no_kind c.args.f c.args.digits.now c.args.kind.now (sym c.place_of.ensures ∙ w.in_default.is-0)
    ])
    c.put_malformed.ensures

pub returns-then-code-eq0 : goal.returns-then-code-eq0
unfolding parts_of
returns-then-code-eq0 c =
    same (first_kind c.args.f c.args.digits.now c.args.kind.now (sym c.place_of.ensures ∙ c.in-Some-Some.is-0) c.if-code-eq0.true) c.put_malformed-then-code-eq0.ensures

pub returns : goal.returns
unfolding parts_of
returns c =
    same
    (back c.args.f c.args.digits.now c.args.kind.now (sym c.place_of.ensures ∙ c.in-Some-Some.is-0) c.if-code-eq0.false (sym c.hex.ensures ∙ c.in-Some-Some.is-1)
    c.samopute_raw_of-status.ensures)
    c.put_raw_answer.ensures
