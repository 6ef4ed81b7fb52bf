use Rattle.std.proofs.Common.{◌≡◌, ◌≤◌, length, take, None}
use Rattle.wit_sourced.specs.Named.{sought_name}
use Rattle.cir_make.specs.Arrays.{last_named}
use Rattle.cir_make.proofs.offered.Offered.find.Given as goal

abbrev pub invariant-loop-left : goal.invariant-loop-left
invariant-loop-left l = record {
  within : l.left ≤ length l.self.arrays.now;
  found : last_named (sought_name l.name) (take l.left l.self.arrays.now) None
      ≡ last_named (sought_name l.name) l.self.arrays.now None;
}

abbrev pub decreases-loop-left : goal.decreases-loop-left
decreases-loop-left l = l.left
