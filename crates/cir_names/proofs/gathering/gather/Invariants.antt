use Rattle.std.proofs.Common.{map}
use Rattle.cir_resolve.specs.Definitions.{bare_definition}
use Rattle.cir_names.proofs.SoFar.{IsGathered}
use Rattle.cir_names.proofs.gathering.gather.Given as goal

abbrev pub invariant-loop-source : goal.invariant-loop-source
invariant-loop-source l =
    IsGathered l.fn.sources.items l.gathered.files
    (map bare_definition l.gathered.definitions.items) l.source-iterator.rest.items
