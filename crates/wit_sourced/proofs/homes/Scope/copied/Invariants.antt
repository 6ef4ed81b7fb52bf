use Rattle.std.proofs.Common.{◌≡◌, drop}
use Rattle.wit_sourced.specs.Shown.{homes_above, homes_of}
use Rattle.wit_sourced.proofs.homes.Scope.copied.Given as goal

abbrev pub invariant-loop-placed : goal.invariant-loop-placed
invariant-loop-placed l =
    (homes_above (homes_of l.copy.homes.items) (drop l.placed-index l.placed-items)
    ≡ homes_of l.self.homes.items) × (l.copy.top ≡ l.self.top)
