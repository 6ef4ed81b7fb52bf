use Rattle.std.proofs.Common.{◌≡◌, drop, map}
use Rattle.std.specs.Prelude.{filter, not}
use Rattle.cir_emit.specs.Reads.{targets_kept}
use Rattle.wit_statements.specs.Asked.{element_of}
use Rattle.wit_sources.specs.Given.{Seen, Reads}
use Rattle.wit_sources.specs.Collected.{homes_in, seen}
use Rattle.wit_sources.specs.Runs.{in_run}
use Rattle.wit_sources.proofs.kept.add_targets.Given as goal

-- what is left is still to be read
abbrev pub invariant-loop-target : goal.invariant-loop-target
invariant-loop-target g l =
    (l.found.sources.named.now.shapes ≡ l.fn.found.sources.named.now.shapes)
    × ((u : Seen) → Reads (homes_in l.fn.found) (g.I.Inputs.offer l.inputs) (seen l.found) u
    (targets_kept (filter (λ t. not (in_run l.written t))
    (map element_of (drop l.target-index l.targets))))
    → Reads (homes_in l.fn.found) (g.I.Inputs.offer l.inputs) (seen l.fn.found) u
    (targets_kept (filter (λ t. not (in_run l.written t)) (map element_of l.targets))))
