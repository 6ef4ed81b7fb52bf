-- A declaration or a creation of components has its own fault.
use Rattle.std.proofs.Common.{◌≡◌, [], refl}
use Rattle.cir_ast.specs.declared.marked.Components.{Components}
use Rattle.cir_ast.specs.declared.marked.Components.TheVariants as components
use Rattle.cir_ast.specs.declared.marked.Simple.TheVariants as simple
use Rattle.cir_ast.specs.declared.program.Spot.{Spot}
use Rattle.cir_ast.specs.declared.program.Meant.{Meant}
use Rattle.cir_ast.specs.Tree.{bare_simple}
use Rattle.cir_meaning.specs.Unknown.{simple_fault, simple_writes, simple_declares, control}

pub components_fault : (spot : Spot) (cs : Components Meant)
    → simple_fault spot (bare_simple (simple.Components cs)) ≡ control spot
components_fault spot (components.Declared cs) = refl
components_fault spot (components.Created name meant e) = refl

-- and neither names variables
pub components_write : (cs : Components Meant)
    → simple_writes (bare_simple (simple.Components cs)) ≡ []
components_write (components.Declared cs) = refl
components_write (components.Created name meant e) = refl

pub components_declare : (cs : Components Meant)
    → simple_declares (bare_simple (simple.Components cs)) ≡ []
components_declare (components.Declared cs) = refl
components_declare (components.Created name meant e) = refl

pub ruleset no_variables = (components_write, components_declare)
