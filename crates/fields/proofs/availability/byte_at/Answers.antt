-- A byte is an 8-bit read, and past the end it is 0.
use mathlib.Core.Path.{◌≡◌, sym, ◌∙◌}
use Prim.Native.Nat.{◌*◌}
use native.Mathlib.Omega.{arith}
use lib.ListN.{get_or}
use Rattle.std.proofs.lemmas.Grind.{common_steps}
use Rattle.bits.proofs.Words.{byte}
use Rattle.fields.proofs.availability.byte_at.Goals as goal

pub returns : goal.returns
returns c =
    let e : c.unwrap_or.result ≡ get_or c.args.s.now c.args.place 0 = grind (arith, common_steps) in
    e ∙ sym (byte c.args.s.now c.args.place (8 * c.args.place) (omega arith) (omega (arith, c.type_inv.s c.args.place)))
