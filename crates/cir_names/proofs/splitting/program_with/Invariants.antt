use Rattle.std.proofs.Common.{map}
use Rattle.cir_resolve.specs.Definitions.{bare_definition}
use Rattle.cir_names.proofs.Split.{IsSplit}
use Rattle.cir_names.proofs.splitting.program_with.Given as goal

abbrev pub invariant-loop-definition : goal.invariant-loop-definition
invariant-loop-definition l =
    IsSplit (map bare_definition l.fn.definitions.items) l.kinds
    (map bare_definition l.definition-iterator.rest.items)
