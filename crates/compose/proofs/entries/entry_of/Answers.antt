-- By the letter.
use mathlib.Core.Path.{◌≡◌, refl, ap, ◌∙◌}
use borrow.Author.Rules.{rules}
use mathlib.Core.List.{List}
use Prim.Native.Nat.{ℕ, ◌-◌, ◌≤◌}
use lib.ListN.{length, take, drop}
use Rattle.std.specs.Prelude.{Option, is_some, unwrap_or}
use Rattle.compose.specs.declared.entries.Entry.{Entry}
use Rattle.compose.specs.Values.{Value, none, numbered}
use Rattle.compose.specs.Clauses.{entry_of, told, told_by}
use Rattle.compose.proofs.Letters.{number-plain, plain, coded-told, empty, letter, no-letter}
use Rattle.compose.proofs.entries.entry_of.Goals as goal

-- a number of a kind
number-told : (used : ℕ) (old : List ℕ) → used ≤ length old → (kind : ℕ) (n : Option ℕ) {m : Option ℕ} {w : Value} {e : Option Entry}
    → e ≡ entry_of 0 (numbered kind n) → n ≡ m → numbered kind m ≡ w → told e old ≡ told_by used old w
number-told used old h kind n e f g = plain used old h (numbered kind n) (number-plain (is_some n) kind (unwrap_or n 0)) e (ap (numbered kind) f ∙ g)

pub returns-then-s-eq0 : goal.returns-then-s-eq0
returns-then-s-eq0 c = plain c.args.used c.args.lent.now c.requires none tt refl (empty c.args.s.now c.if-s-eq0.true)

pub returns-in-117 : goal.returns-in-117
returns-in-117 c = number-told c.args.used c.args.lent.now c.requires 1 c.decimal.result c.of_kind.ensures c.decimal.ensures (letter c.args.s.now c.if-s-eq0.false 117 c.in-117.is)

pub returns-in-105 : goal.returns-in-105
returns-in-105 c = number-told c.args.used c.args.lent.now c.requires 5 c.signed.result c.of_kind-in-105.ensures c.signed.ensures (letter c.args.s.now c.if-s-eq0.false 105 c.in-105.is)

pub returns-in-102 : goal.returns-in-102
returns-in-102 c = number-told c.args.used c.args.lent.now c.requires 9 c.double.result c.of_kind-in-102.ensures c.double.ensures (letter c.args.s.now c.if-s-eq0.false 102 c.in-102.is)

pub returns-in-116 : goal.returns-in-116
returns-in-116 c = c.text.ensures ∙ ap (told_by c.args.used c.args.lent.now) (letter c.args.s.now c.if-s-eq0.false 116 c.in-116.is)

pub returns-in-101 : goal.returns-in-101
returns-in-101 c = c.encoded.ensures ∙ ap (told_by c.args.used c.args.lent.now) (letter c.args.s.now c.if-s-eq0.false 101 c.in-101.is)

pub returns-in-118 : goal.returns-in-118
returns-in-118 c = coded-told c.args.used c.args.lent.now c.requires (take (length c.args.s.now - 1) (drop 1 c.args.s.now)) c.coded.ensures (letter c.args.s.now c.if-s-eq0.false 118 c.in-118.is)

pub returns-in_default : goal.returns-in_default
returns-in_default c = plain c.args.used c.args.lent.now c.requires none tt refl (no-letter c.args.s.now c.if-s-eq0.false (search rules))
