use Rattle.std.proofs.Common.{◌≡◌, drop}
use Rattle.std.specs.Prelude.{map}
use Rattle.std.specs.List.{list_all}
use Rattle.cir_meaning.specs.Arrays.{same_dims}
use Rattle.cir_rules.proofs.shapes.are_same.Given as goal

abbrev pub invariant-loop-dims : goal.invariant-loop-dims
invariant-loop-dims l =
    list_all (same_dims l.first) (map (λ d. d.items) (drop l.dims-index l.shapes))
    ≡ list_all (same_dims l.first) (map (λ d. d.items) l.shapes)
