use Rattle.std.proofs.Common.{◌≡◌, drop, ◌++◌, false}
use Rattle.std.specs.Prelude.{replicate}
use Rattle.cir_frame.proofs.signal.clear.Given as goal

abbrev pub invariant-loop-k : goal.invariant-loop-k
invariant-loop-k l = l.marks ≡ replicate l.k false ++ drop l.k l.initial.marks
