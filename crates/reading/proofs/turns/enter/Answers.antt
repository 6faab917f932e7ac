-- By the count.
use mathlib.Core.Path.{◌≡◌, sym, ap, ap₂, ◌∙◌}
use Prim.Native.Nat.{ℕ}
use Rattle.tables.specs.Table.{Table, table_of}
use Rattle.fields.specs.declared.DecodeRefusal.{DecodeRefusal}
use Rattle.fields.specs.Payload.{Payload, payload_of, bits_left}
use lib.ListN.{get_or}
use Rattle.std.specs.Prelude.{Result}
use Rattle.bits.specs.declared.BitPos.{BitPos}
use Rattle.walking.specs.declared.Spot.{Spot}
use Rattle.walking.specs.declared.Look.TheVariants.{Enter}
use Rattle.reading.specs.declared.Progress.{Progress}
use Rattle.reading.specs.Groups.{group_count_of}
use Rattle.reading.specs.Steps.{shown_at}
use Rattle.reading.proofs.Turned.{enter_says, enter-says}
use Rattle.reading.proofs.turns.enter.Goals as goal

-- what the count says is what is to be done
entered : (t : Table) (p : Payload) (here : Spot) (s : Progress) (k : ℕ) {raw left : ℕ} {n v : Result ℕ DecodeRefusal}
    → raw ≡ get_or s.counters k 0 → left ≡ bits_left p s.at.0 → n ≡ group_count_of t k raw left → n ≡ v → enter_says t p here s k v ≡ shown_at t p 0 here s (Enter k)
entered t p here s k e f h q = ap (enter_says t p here s k) (sym q ∙ h ∙ ap₂ (group_count_of t k) e f) ∙ enter-says t p here s k

pub returns-in-Ok : goal.returns-in-Ok
returns-in-Ok c = c.next.ensures ∙ entered (table_of c.args.words.now) (payload_of c.args.s.now) c.args.walk.spot c.args.walk.progress c.args.k c.counter_at-raw.ensures (ap (λ (l : BitPos). l.0) c.bits_remaining-left.ensures) c.repeating_group_count.ensures c.in-Ok.is

pub returns-in-Err : goal.returns-in-Err
returns-in-Err c = entered (table_of c.args.words.now) (payload_of c.args.s.now) c.args.walk.spot c.args.walk.progress c.args.k c.counter_at-raw.ensures (ap (λ (l : BitPos). l.0) c.bits_remaining-left.ensures) c.repeating_group_count.ensures c.in-Err.is
