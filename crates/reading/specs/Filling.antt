-- The working payload: document 01, "Reading a payload".
use Rattle.std.specs.Prelude.{ℕ, ◌-◌, List, ◌++◌, Bool, ◌&&◌, length, take, drop, replicate, leb, ltb, eqb, Result, Ok, Err}
use Rattle.bits.specs.Bits.{pick}
use Rattle.bits.specs.Calls.{bytes}
use Rattle.tables.specs.Table.{Table}
use Rattle.tables.specs.Check.{Checked, check_of, payload_max}
use Rattle.fields.specs.declared.DecodeRefusal.{DecodeRefusal}
use Rattle.fields.specs.declared.DecodeRefusal.TheVariants.{WrongLength, TableRefused}

-- "With minimum ≤ received < length": both are given
abbrev pub fills : Table → ℕ → Bool
fills t received = leb 1 t.minimum && (leb t.minimum received && ltb received t.length)

-- "the working payload is filled to the length with 0xFF"
abbrev pub working_of : Table → List ℕ → List ℕ
working_of t received = pick (fills t (length received)) (received ++ replicate (t.length - length received) 0xff) received

-- "where filling applies its first bytes are the working payload and the rest is kept; else all is kept"
abbrev pub padded_of : Table → List ℕ → List ℕ → List ℕ
padded_of t received padded = pick (fills t (length received)) (working_of t received ++ drop t.length padded) padded

-- "It is the received slice or the padded one": where filling applies, the first bytes of the padding run
abbrev pub picked_of : Table → List ℕ → List ℕ → List ℕ
picked_of t received padded = pick (fills t (length received)) (take t.length padded) received

-- refusal 8
abbrev pub by_check : Checked → Result (Unit {0}) DecodeRefusal
by_check (Ok tt) = Ok tt
by_check (Err b) = Err (TableRefused b.rule b.index)

-- "payload [..] over 223 bytes, or padding run not of 223", "length (payload's first)"; "7, 8, then the walk"
abbrev pub prepared_of : Table → ℕ → ℕ → Result (Unit {0}) DecodeRefusal
prepared_of t received padded =
    pick (ltb payload_max received) (Err (WrongLength (bytes received)))
    (pick (eqb padded payload_max) (by_check (check_of t)) (Err (WrongLength (bytes padded))))

-- "Refusals 7 and 8 touch no buffer"
abbrev pub kept_unless : Result (Unit {0}) DecodeRefusal → List ℕ → List ℕ → List ℕ
kept_unless (Ok tt) filled padded = filled
kept_unless (Err e) filled padded = padded

-- the padding run after the call
abbrev pub run_after : Table → List ℕ → List ℕ → List ℕ
run_after t received padded = kept_unless (prepared_of t (length received) (length padded)) (padded_of t received padded) padded
