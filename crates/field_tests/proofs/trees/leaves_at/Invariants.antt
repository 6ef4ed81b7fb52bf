use Rattle.std.proofs.Common.{◌≡◌, vec_len}
use Rattle.field_tests.proofs.trees.leaves_at.Given as goal

abbrev pub invariant-loop-place : goal.invariant-loop-place
invariant-loop-place g l = vec_len l.leaves ≡ l.place-index
