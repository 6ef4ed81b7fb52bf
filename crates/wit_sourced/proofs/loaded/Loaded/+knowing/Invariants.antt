use Rattle.std.proofs.Common.{◌≡◌, [], drop}
use Rattle.cir_ast.specs.Tree.{as_accessors}
use Rattle.wit_lower.specs.Known.{place_known}
use Rattle.wit_sourced.specs.Loaded.{changed_in, loaded_sources}
use Rattle.wit_sourced.proofs.loaded.Loaded.+knowing.Given as goal

abbrev pub invariant-place_known-loop-accessor : goal.invariant-place_known-loop-accessor
invariant-place_known-loop-accessor l =
    place_known (loaded_sources l.self) (changed_in l.self) l.meant l.indices.items
    (as_accessors (drop l.accessor-index l.accessors))
    ≡ place_known (loaded_sources l.self) (changed_in l.self) l.meant []
    (as_accessors l.accessors)
