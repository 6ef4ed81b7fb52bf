use Rattle.std.proofs.Common.{◌≡◌, replicate, None}
use Rattle.cir_homes.proofs.filling.nothing_yet.Given as goal

abbrev pub invariant-loop-place : goal.invariant-loop-place
invariant-loop-place l = l.found.items ≡ replicate l._place None
