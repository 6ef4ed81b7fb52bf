use Rattle.std.proofs.Common.{◌≡◌, drop, map}
use Rattle.std.specs.List.{list_all}
use Rattle.wit_procs.specs.Rules.{is_small}
use Rattle.wit_procs.proofs.keeping.are_given_small.Given as goal

abbrev pub invariant-loop-dims : goal.invariant-loop-dims
invariant-loop-dims l =
    list_all is_small (map (λ d. d.items) (drop l.dims-index l.shapes))
    ≡ list_all is_small (map (λ d. d.items) l.shapes)
