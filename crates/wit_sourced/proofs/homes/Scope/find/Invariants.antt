use Rattle.std.proofs.Common.{◌≡◌, ◌≤◌, length, take}
use Rattle.wit_lower.specs.Homes as L
use Rattle.wit_sourced.specs.Shown.{homes_of, sought_name}
use Rattle.wit_sourced.proofs.homes.Scope.find.Given as goal

abbrev pub invariant-loop-left : goal.invariant-loop-left
invariant-loop-left l = record {
  within : l.left ≤ length l.self.homes.items;
  found : L.find (sought_name l.sought) (homes_of (take l.left l.self.homes.items))
      ≡ L.find (sought_name l.sought) (homes_of l.self.homes.items);
}

abbrev pub decreases-loop-left : goal.decreases-loop-left
decreases-loop-left l = l.left
