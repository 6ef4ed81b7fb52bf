use Rattle.std.proofs.Common.{◌≡◌}
use Rattle.cir_frame.specs.Shown.{sizes_of}
use Rattle.cir_inst.proofs.Numbering.{mixed}
use Rattle.cir_inst.proofs.table.renumbered_form.Given as goal

abbrev pub invariant-loop-k : goal.invariant-loop-k
invariant-loop-k l = l.terms.items ≡ mixed (sizes_of l.sizes) l.k l.fn.f
