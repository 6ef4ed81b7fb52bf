use Rattle.std.proofs.Common.{◌≡◌, slice_index}
use Rattle.cir_simplify.proofs.Renaming.{mixed}
use Rattle.cir_simplify.proofs.wires.rename.Given as goal

abbrev pub invariant-loop-k : goal.invariant-loop-k
invariant-loop-k l = l.terms.items ≡ mixed (slice_index l.places) l.k l.fn.f
