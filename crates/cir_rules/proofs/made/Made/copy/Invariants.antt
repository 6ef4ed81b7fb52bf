use Rattle.std.proofs.Common.{◌≡◌, ◌++◌, drop}
use Rattle.std.specs.Prelude.{map}
use Rattle.cir_rules.specs.Shown.{made_of}
use Rattle.cir_rules.proofs.made.Made.copy.Given as goal

abbrev pub invariant-loop-dims : goal.invariant-loop-dims
invariant-loop-dims l =
    map (λ d. d.items) l.shapes.items ++ map (λ d. d.items) (drop l.dims-index l.dims-items)
    ≡ (made_of l.fn.self).shapes
