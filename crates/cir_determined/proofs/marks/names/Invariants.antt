use Rattle.std.proofs.Common.{◌≡◌, false, take}
use Rattle.cir_determined.specs.Rules.{is_named}
use Rattle.cir_determined.proofs.marks.names.Given as goal

abbrev pub invariant-loop-t : goal.invariant-loop-t
invariant-loop-t l = is_named l.wire (take l.t-index l.terms) ≡ false
