use Rattle.std.proofs.Common.{◌≡◌, drop, map}
use Rattle.std.specs.Prelude.{flat_map}
use Rattle.cir_ast.specs.Tree.{bare_argument}
use Rattle.wit_lower.specs.Tasks.{logged}
use Rattle.cir_emit.specs.Reads.{expr_reads}
use Rattle.wit_sources.specs.Given.{Seen, Reads}
use Rattle.wit_sources.specs.Collected.{ground_with, homes_in, seen, shapes_in}
use Rattle.wit_sources.proofs.tasks.collect_logged.Given as goal

-- what is left is still to be read
abbrev pub invariant-loop-argument : goal.invariant-loop-argument
invariant-loop-argument g l =
    (l.found.sources.named.now.shapes ≡ l.fn.found.sources.named.now.shapes)
    × ((u : Seen) → Reads (homes_in l.fn.found) (g.I.Inputs.offer l.inputs) (seen l.found) u
    (flat_map (expr_reads (ground_with l.setting (shapes_in l.fn.found) u.list)
    (homes_in l.fn.found)) (logged (map bare_argument (drop l.argument-index l.arguments))))
    → Reads (homes_in l.fn.found) (g.I.Inputs.offer l.inputs) (seen l.fn.found) u
    (flat_map (expr_reads (ground_with l.setting (shapes_in l.fn.found) u.list)
    (homes_in l.fn.found)) (logged (map bare_argument l.arguments))))
