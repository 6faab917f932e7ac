-- An answer has an end or a refusal, and no other one. Assumes nothing.
use mathlib.Core.Path.{◌≡◌, ap}
use Prim.Native.Nat.{ℕ}
use Rattle.std.specs.Prelude.{Result, Ok, Err}
use Rattle.bits.specs.declared.BitPos.{BitPos}
use Rattle.fields.specs.declared.DecodeRefusal.{DecodeRefusal}
use Rattle.reading.specs.declared.Decoded.{Decoded}
use Rattle.reading.specs.Decode.{ended_at, refused_with}

pub not-both : {A : Type 0} {end : BitPos} {f : DecodeRefusal} {m n : ℕ} → ended_at end m ≡ refused_with f n → A
not-both {end = end} {f = f} h = let e : ◌≡◌ {A = Result BitPos DecodeRefusal} (Ok end) (Err f) = ap (λ (d : Decoded). d.end) h in cc

pub same-refusal : {e f : DecodeRefusal} {m n : ℕ} → refused_with e m ≡ refused_with f n → e ≡ f
same-refusal {e = e} {f = f} h = let k : ◌≡◌ {A = Result BitPos DecodeRefusal} (Err e) (Err f) = ap (λ (d : Decoded). d.end) h in cc
