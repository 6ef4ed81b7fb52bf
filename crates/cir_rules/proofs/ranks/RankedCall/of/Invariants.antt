use Rattle.std.proofs.Common.{◌≡◌, ◌++◌, drop}
use Rattle.std.specs.Prelude.{map, length}
use Rattle.cir_rules.specs.Shown.{made_of}
use Rattle.cir_rules.proofs.ranks.RankedCall.of.Given as goal

abbrev pub invariant-loop-dims : goal.invariant-loop-dims
invariant-loop-dims l =
    l.ranks.items ++ map length (map (λ d. d.items) (drop l.dims-index l.dims-items))
    ≡ map length (made_of l.fn.made).shapes
