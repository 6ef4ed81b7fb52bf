use Rattle.std.proofs.Common.{◌≡◌, List, drop, map, false}
use Rattle.cir_ast.specs.Tree.{bare_component}
use Rattle.cir_meaning.specs.Simple.{each, component_declaration}
use Rattle.cir_meaning.specs.Source.{Equation}
use Rattle.cir_frame.specs.Shown.{state_of}
use Rattle.cir_evaluate.specs.Within.{Means, context_at, where_at}
use Rattle.cir_assign.specs.Leads.{Lists}
use Rattle.cir_create.proofs.declaring.components.Given as goal

abbrev pub invariant-loop-c : goal.invariant-loop-c
invariant-loop-c g l =
    (m : Means (goal.C-post g l.here.context.now.call.now) l.here.context.now)
    (qs : List Equation) → l.here.shaded ≡ false → (es : List Equation)
    × (each (component_declaration (context_at l.here m) (where_at l.here))
    (map bare_component l.cs) (state_of l.initial.frame l.initial.world qs)
    ≡ each (component_declaration (context_at l.here m) (where_at l.here))
    (map bare_component (drop l.c-index l.cs)) (state_of l.frame l.world es))
    × Lists qs l.initial.world es l.world
