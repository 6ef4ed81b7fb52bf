use Rattle.std.proofs.Common.{◌≡◌, take, sum_by}
use Rattle.iden_files.specs.File.{term_count}
use Rattle.iden_files.proofs.write.term_total.Given as goal

abbrev pub invariant-loop-k : goal.invariant-loop-k
invariant-loop-k l = l.total ≡ sum_by term_count (take l.k-index l.constraints)
