use Rattle.std.proofs.Common.{◌≡◌, drop, map}
use Rattle.cir_texts.specs.Shown.{wanted_of}
use Rattle.wit_sources.specs.Given.{Seen, Reads}
use Rattle.wit_sources.specs.Collected.{homes_in, seen, shapes_in}
use Rattle.wit_sources.proofs.Reading.{texts_read}
use Rattle.wit_sources.proofs.tasks.collect_texts.Given as goal

-- what is left is still to be read
abbrev pub invariant-loop-each : goal.invariant-loop-each
invariant-loop-each g l =
    (l.found.sources.named.now.shapes ≡ l.fn.found.sources.named.now.shapes)
    × ((u : Seen) → Reads (homes_in l.fn.found) (g.I.Inputs.offer l.inputs) (seen l.found) u
    (texts_read l.setting (shapes_in l.fn.found) (g.I.Inputs.offer l.inputs) u.list
    (map wanted_of (drop l.each-index l.wanted)))
    → Reads (homes_in l.fn.found) (g.I.Inputs.offer l.inputs) (seen l.fn.found) u
    (texts_read l.setting (shapes_in l.fn.found) (g.I.Inputs.offer l.inputs) u.list
    (map wanted_of l.wanted)))
