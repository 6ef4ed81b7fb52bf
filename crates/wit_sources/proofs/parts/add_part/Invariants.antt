use Rattle.std.proofs.Common.{◌≡◌, drop}
use Rattle.wit_sourced.specs.Shown.{sought_name}
use Rattle.cir_emit.specs.Reads.{elements_of}
use Rattle.wit_sources.specs.Given.{Seen, Reads}
use Rattle.wit_sources.specs.Collected.{homes_in, seen}
use Rattle.wit_sources.proofs.parts.add_part.Given as goal

-- what is left is still to be read
abbrev pub invariant-loop-place : goal.invariant-loop-place
invariant-loop-place g l =
    (l.found.sources.named.now.shapes ≡ l.fn.found.sources.named.now.shapes)
    × ((u : Seen) → Reads (homes_in l.fn.found) (g.I.Inputs.offer l.inputs) (seen l.found) u
    (elements_of (sought_name l.name) (drop l.place-index l.place-items))
    → Reads (homes_in l.fn.found) (g.I.Inputs.offer l.inputs) (seen l.fn.found) u
    (elements_of (sought_name l.name) l.place-items))
