-- What was hit so far, and one field more.
use mathlib.Core.Path.{◌≡◌, refl, sym, ap, ◌∙◌, subst}
use mathlib.Core.List.{List}
use Prim.Native.Nat.{ℕ, ◌+◌}
use native.Mathlib.Omega.{arith}
use Rattle.std.specs.Prelude.{None, Option, Some}
use Rattle.tables.specs.Table.{table_of}
use Rattle.fields.specs.Payload.{payload_of}
use Rattle.records.specs.declared.Quick.{Quick}
use Rattle.records.specs.declared.Stretch.{Stretch}
use Rattle.records.specs.Stretches.{QuickSays, Runs}
use Rattle.records.proofs.Quickly.{roomy-on}
use Rattle.records.proofs.Noting.{absent, Passing, passing-none, passing-more, runs-stop}
use Rattle.records.proofs.runs.run.Goals as goal

pub loop-i-init : goal.loop-i-init
loop-i-init c = (c.requires.1.1, passing-none (table_of c.args.words.now) (payload_of c.args.s.now) c.args.room c.args.e c.args.from c.args.end c.args.bit c.args.count c.args.out.now c.requires.0)

pub loop-i-preserved-in-Some-Took : goal.loop-i-preserved-in-Some-Took
loop-i-preserved-in-Some-Took c =
    let y = (subst (λ (y : Option Quick). QuickSays (table_of c.args.words.now) (payload_of c.args.s.now) c.args.room c.loop-i.i c.args.e c.loop-i.at c.loop-i.made c.loop-i.out y c.quick.new.out) (c.in-Some-Took.is ∙ ap Some c.in-Some-Took.field-0-is) c.quick.ensures) in (
      roomy-on c.args.room c.loop-i.out _ _ c.quick.new.out c.loop-i.invariant.0 y.0.puts,
      passing-more (table_of c.args.words.now) (payload_of c.args.s.now) c.args.room c.args.e c.args.from c.args.end c.args.bit c.args.count c.args.out.now c.loop-i.i c.loop-i.at c.loop-i.made c.loop-i.last c.loop-i.out c.loop-i.invariant.1 c.loop-i-test.true c.requires.1.0 _ 1 _ _ (λ cs. refl) c.quick.new.out y.0,
    )

pub loop-i-preserved : goal.loop-i-preserved
loop-i-preserved c =
    let t = table_of c.args.words.now in
    let p = payload_of c.args.s.now in
    let y = (subst (λ (y : Option Quick). QuickSays (table_of c.args.words.now) (payload_of c.args.s.now) c.args.room c.loop-i.i c.args.e c.loop-i.at c.loop-i.made c.loop-i.out y c.quick.new.out) (c.in-Some-Skipped.is ∙ ap Some c.in-Some-Skipped.field-0-is) c.quick.ensures) in
    let e : c.loop-i.made + 0 ≡ c.loop-i.made = omega arith in (
      roomy-on c.args.room c.loop-i.out _ _ c.quick.new.out c.loop-i.invariant.0 y.puts,
      subst (λ (m : ℕ). Passing t p c.args.room c.args.e c.args.from c.args.end c.args.bit c.args.count c.args.out.now (c.loop-i.i + 1) (c.loop-i.at + c.in-Some-Skipped.bits) m None c.quick.new.out) e
          (passing-more t p c.args.room c.args.e c.args.from c.args.end c.args.bit c.args.count c.args.out.now c.loop-i.i c.loop-i.at c.loop-i.made c.loop-i.last c.loop-i.out c.loop-i.invariant.1 c.loop-i-test.true c.requires.1.0 c.in-Some-Skipped.bits 0 (λ cs. cs) None (λ cs. sym (absent t c.args.e c.loop-i.i cs)) c.quick.new.out y),
    )

pub returns-in-None : goal.returns-in-None
returns-in-None c =
    let stop : Runs (table_of c.args.words.now) (payload_of c.args.s.now) c.args.room c.args.e c.args.from c.args.end c.args.bit c.args.count c.args.out.now c.stretch.result c.quick.new.out =
    let t = table_of c.args.words.now in let p = payload_of c.args.s.now in let h = (subst (λ (y : Option Quick). QuickSays (table_of c.args.words.now) (payload_of c.args.s.now) c.args.room c.loop-i.i c.args.e c.loop-i.at c.loop-i.made c.loop-i.out y c.quick.new.out) c.in-None.is c.quick.ensures) in subst (λ (x : Stretch). Runs t p c.args.room c.args.e c.args.from c.args.end c.args.bit c.args.count c.args.out.now x c.quick.new.out) (sym c.stretch.ensures) (runs-stop t p c.args.room c.args.e c.args.from c.args.end c.args.bit c.args.count c.args.out.now c.loop-i.i c.loop-i.at c.loop-i.made c.loop-i.last c.quick.new.out (subst (λ (x : List ℕ). Passing t p c.args.room c.args.e c.args.from c.args.end c.args.bit c.args.count c.args.out.now c.loop-i.i c.loop-i.at c.loop-i.made c.loop-i.last x) (sym h) c.loop-i.invariant.1) c.loop-i-test.true) in
    stop
