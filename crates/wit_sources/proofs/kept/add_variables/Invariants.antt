use Rattle.std.proofs.Common.{◌≡◌, [], drop}
use Rattle.std.specs.Prelude.{flat_map}
use Rattle.wit_lower.specs.Homes as L
use Rattle.cir_emit.specs.Reads as E
use Rattle.wit_sources.specs.Given.{Seen, Reads}
use Rattle.wit_sources.specs.Collected.{homes_in, seen}
use Rattle.wit_sources.proofs.kept.add_variables.Given as goal

-- what is left is still to be read
abbrev pub invariant-loop-n : goal.invariant-loop-n
invariant-loop-n g l =
    (l.found.sources.named.now.shapes ≡ l.fn.found.sources.named.now.shapes)
    × ((u : Seen) → Reads (homes_in l.fn.found) (g.I.Inputs.offer l.inputs) (seen l.found) u
    (flat_map (λ n. E.part_of (L.Variable n) (L.find (L.Variable n) (homes_in l.fn.found)) [])
    (drop l.n-index l.numbers))
    → Reads (homes_in l.fn.found) (g.I.Inputs.offer l.inputs) (seen l.fn.found) u
    (flat_map (λ n. E.part_of (L.Variable n) (L.find (L.Variable n) (homes_in l.fn.found)) [])
    l.numbers))
