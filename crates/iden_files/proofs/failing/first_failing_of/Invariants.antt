use Rattle.std.proofs.Common.{◌≡◌, drop}
use Rattle.iden_files.specs.Failing.{first_failing_from}
use Rattle.iden_files.proofs.failing.first_failing_of.Given as goal

abbrev pub invariant-loop-i : goal.invariant-loop-i
invariant-loop-i l =
    first_failing_from l.i l.w (drop l.i l.constraints) ≡ first_failing_from 0 l.w l.constraints
