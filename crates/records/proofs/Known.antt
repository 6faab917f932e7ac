-- A table that is built in: accepted, and filling nothing. Assumes nothing.
use mathlib.Core.Path.{◌≡◌, sym, ap, ◌∙◌}
use mathlib.Core.Bool.{Bool, ◌&&◌}
use mathlib.Core.List.{List, ◌++◌}
use Prim.Native.Nat.{ℕ, ◌-◌, ◌≤◌, ◌<◌}
use lib.Dec.{leb, ltb, eqb}
use lib.ListN.{length, replicate}
use borrow.Author.Tests.{lt-ltb, le-ltb, eq-eqb, ne_eqb}
use Rattle.std.specs.Prelude.{Result, Ok, Err}
use Rattle.bits.specs.Bits.{pick}
use Rattle.bits.specs.Calls.{bytes}
use Rattle.tables.specs.Table.{Table}
use Rattle.tables.specs.Check.{check_of, payload_max}
use Rattle.fields.specs.declared.DecodeRefusal.{DecodeRefusal}
use Rattle.fields.specs.declared.DecodeRefusal.TheVariants.{WrongLength}
use Rattle.reading.specs.Filling.{working_of, by_check, prepared_of}

module _ (t : Table) (received padded : ℕ) where
  abbrev later : Result (Unit {0}) DecodeRefusal
  later = pick (eqb padded payload_max) (by_check (check_of t)) (Err (WrongLength (bytes padded)))

  abbrev over : Result (Unit {0}) DecodeRefusal
  over = Err (WrongLength (bytes received))

  pub too_long : payload_max < received → Err (WrongLength (bytes received)) ≡ prepared_of t received padded
  too_long l = sym (ap (λ (b : Bool). pick b over later) (lt-ltb _ _ l))

  fits : received ≤ payload_max → later ≡ prepared_of t received padded
  fits l = sym (ap (λ (b : Bool). pick b over later) (le-ltb _ _ l))

  pub wrong-run : received ≤ payload_max → (padded ≡ payload_max → ⊥) → Err (WrongLength (bytes padded)) ≡ prepared_of t received padded
  wrong-run l n = sym (ap (λ (b : Bool). pick b (by_check (check_of t)) (Err (WrongLength (bytes padded)))) (ne_eqb _ _ n)) ∙ fits l

  pub ready : received ≤ payload_max → padded ≡ payload_max → check_of t ≡ Ok tt → Ok tt ≡ prepared_of t received padded
  ready l e ok =
      sym (ap by_check ok) ∙ sym (ap (λ (b : Bool). pick b (by_check (check_of t)) (Err (WrongLength (bytes padded)))) (eq-eqb _ _ e)) ∙ fits l

pub working-kept : (t : Table) (received : List ℕ) → t.minimum ≡ 0 → received ≡ working_of t received
working-kept t received h =
    sym (ap (λ (b : Bool). pick b (received ++ replicate (t.length - length received) 0xff) received)
    (ap (λ (m : ℕ). leb 1 m && (leb m (length received) && ltb (length received) t.length)) h))
