use Rattle.std.proofs.Common.{◌≡◌, [], drop}
use Rattle.cir_ast.specs.Tree.{as_accessors, bare_exprs}
use Rattle.cir_emit.specs.Reads.{Written, exprs_reads, place_reads}
use Rattle.wit_sources.specs.Fronts.{front_of}
use Rattle.wit_sources.specs.Given.{Seen, Reads}
use Rattle.wit_sources.specs.Collected.{ground_with, homes_in, seen, shapes_in}
use Rattle.wit_sources.proofs.values.+collecting.Given as goal

-- what is left is still to be read
abbrev pub invariant-collect_all-loop-e : goal.invariant-collect_all-loop-e
invariant-collect_all-loop-e g l =
    (l.found.sources.named.now.shapes ≡ l.fn.found.sources.named.now.shapes)
    × ((u : Seen) → Reads (homes_in l.fn.found) (g.I.Inputs.offer l.inputs) (seen l.found) u
    (exprs_reads (ground_with l.setting (shapes_in l.fn.found) u.list) (homes_in l.fn.found)
    (bare_exprs (drop l.e-index l.es)))
    → Reads (homes_in l.fn.found) (g.I.Inputs.offer l.inputs) (seen l.fn.found) u
    (exprs_reads (ground_with l.setting (shapes_in l.fn.found) u.list) (homes_in l.fn.found)
    (bare_exprs l.es)))

abbrev pub invariant-collect_place-loop-accessor : goal.invariant-collect_place-loop-accessor
invariant-collect_place-loop-accessor g l =
    (l.found.sources.named.now.shapes ≡ l.fn.found.sources.named.now.shapes)
    × ((u : Seen) → Reads (homes_in l.fn.found) (g.I.Inputs.offer l.inputs) (seen l.found) u
    (place_reads (ground_with l.setting (shapes_in l.fn.found) u.list) (homes_in l.fn.found)
    (front_of l.front) l.indices.items (as_accessors (drop l.accessor-index l.accessors)))
    → Reads (homes_in l.fn.found) (g.I.Inputs.offer l.inputs) (seen l.fn.found) u
    (place_reads (ground_with l.setting (shapes_in l.fn.found) u.list) (homes_in l.fn.found)
    (Written l.fn.meant) [] (as_accessors l.accessors)))
