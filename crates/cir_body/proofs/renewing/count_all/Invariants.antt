use Rattle.std.proofs.Common.{◌≡◌, ◌+◌, drop, map}
use Rattle.cir_steps.specs.Making.{count_of}
use Rattle.cir_make.specs.Steps.{elements_of}
use Rattle.cir_body.proofs.renewing.count_all.Given as goal

abbrev pub invariant-loop-e : goal.invariant-loop-e
invariant-loop-e l =
    l.count + count_of (map elements_of (drop l.e-index l.wanted))
    ≡ count_of (map elements_of l.wanted)
