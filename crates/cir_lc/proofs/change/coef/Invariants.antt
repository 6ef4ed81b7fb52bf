use Rattle.std.proofs.Common.{◌≡◌, ◌%◌, take}
use Rattle.gold_field.specs.declared.gold.TheConstants.{P}
use Rattle.cir_lc.specs.Coefficient.{one_at}
use Rattle.cir_lc.specs.Merge.{total}
use Rattle.cir_lc.proofs.change.coef.Given as goal

abbrev pub invariant-loop-t : goal.invariant-loop-t
invariant-loop-t l = l.sum ≡ total (one_at l.signal) (take l.t-index l.t-items) % P
