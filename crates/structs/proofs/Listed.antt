-- The structs of a list of readings are what is made of each. Assumes nothing.
use Rattle.std.specs.Prelude.{◌≡◌, List, [], ◌∷◌, map}
use Rattle.std.proofs.Common.{refl, ap}
use Rattle.reading.specs.declared.Reading.{Reading}
use Rattle.structs.specs.declared.Record.{Record}
use Rattle.structs.specs.Structs.{struct_of, structs}

pub structs-map : (rs : List Reading) → map struct_of rs ≡ structs rs
unfolding structs
structs-map [] = refl
structs-map (r ∷ rs) = ap (λ (l : List Record). struct_of r ∷ l) (structs-map rs)
