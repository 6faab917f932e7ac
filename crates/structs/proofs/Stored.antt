-- What a run of structs holds, as a caller that goes by the turns of `lent_readings` stores it. Assumes nothing.
use Rattle.std.specs.Prelude.{List, [], ◌∷◌, ◌++◌, length}
use Rattle.std.proofs.Common.{sym, ap, ◌∙◌}
use Rattle.std.proofs.lemmas.List.{length-map, map-append}
use Rattle.lent_readings.proofs.Stepwise.{Kind}
use Rattle.structs.specs.declared.Record.{Record}
use Rattle.structs.specs.Structs.{struct_of, structs}
use Rattle.structs.proofs.Listed.{structs-map}

-- a struct of each reading
abbrev pub stored : Kind Record
stored = record {
  one = struct_of;
  all = structs;
  none = sym (structs-map []);
  more = λ rs r. sym (structs-map (rs ++ r ∷ [])) ∙ map-append struct_of rs (r ∷ []) ∙ ap (λ (l : List Record). l ++ struct_of r ∷ []) (structs-map rs);
  long = λ rs. ap length (sym (structs-map rs)) ∙ length-map rs struct_of;
}
