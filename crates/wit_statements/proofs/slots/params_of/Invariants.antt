use Rattle.std.proofs.Common.{◌≡◌, ◌+◌, drop, map, sum_by}
use Rattle.wit_lower.specs.Homes.{slots_of}
use Rattle.wit_statements.proofs.slots.params_of.Given as goal

abbrev pub invariant-loop-dims : goal.invariant-loop-dims
invariant-loop-dims l =
    l.params + sum_by slots_of (map (λ d. d.items) (drop l.dims-index l.dims-items))
    ≡ sum_by slots_of (map (λ d. d.items) l.dims-items)
