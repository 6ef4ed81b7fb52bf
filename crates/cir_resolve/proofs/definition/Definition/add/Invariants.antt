use Rattle.std.proofs.Common.{◌≡◌, ◌++◌}
use Rattle.std.specs.Prelude.{map}
use Rattle.cir_ast.specs.Tree.{bare_item}
use Rattle.cir_resolve.specs.Definitions.{bare_definition, definitions_of}
use Rattle.cir_resolve.proofs.definition.Definition.add.Given as goal

abbrev pub invariant-loop-item : goal.invariant-loop-item
invariant-loop-item l =
    map bare_definition l.definitions.items
    ++ definitions_of l.file (map bare_item l.item-iterator.rest.items)
    ≡ map bare_definition l.fn.definitions.items ++ definitions_of l.file (map bare_item l.fn.items)
