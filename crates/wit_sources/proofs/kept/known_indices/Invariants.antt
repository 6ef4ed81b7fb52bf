use Rattle.std.proofs.Common.{◌≡◌, ◌++◌, drop, map}
use Rattle.cir_ast.specs.Tree.{as_accessors}
use Rattle.cir_meaning.specs.Texts.{indices_of}
use Rattle.wit_sources.specs.Collected.{ground_with, seen, shapes_in}
use Rattle.wit_sources.proofs.kept.known_indices.Given as goal

abbrev pub invariant-loop-accessor : goal.invariant-loop-accessor
invariant-loop-accessor l =
    l.indices.items ++ map (ground_with l.setting (shapes_in l.found) (seen l.found).list).known
    (indices_of (as_accessors (drop l.accessor-index l.accessors)))
    ≡ map (ground_with l.setting (shapes_in l.found) (seen l.found).list).known
    (indices_of (as_accessors l.accessors))
