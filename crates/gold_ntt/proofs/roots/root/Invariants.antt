use Rattle.std.proofs.Common.{◌≡◌, ◌-◌}
use Rattle.gold_field.specs.declared.gold.TheConstants.{P}
use Rattle.gold_field.specs.Powers.{squared}
use Rattle.gold_ntt.specs.Transform.{root_of}
use Rattle.gold_ntt.proofs.roots.root.Given as goal

abbrev pub invariant-loop-i : goal.invariant-loop-i
invariant-loop-i l = squared P (32 - l.i) l.root ≡ root_of l.e
