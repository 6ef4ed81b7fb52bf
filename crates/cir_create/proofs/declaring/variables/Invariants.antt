use Rattle.std.proofs.Common.{◌≡◌, List, drop, map}
use Rattle.cir_ast.specs.Tree.{bare_variable}
use Rattle.cir_meaning.specs.Simple.{each, variable_declaration}
use Rattle.cir_meaning.specs.Source.{Equation}
use Rattle.cir_frame.specs.Shown.{state_of}
use Rattle.cir_evaluate.specs.Within.{at_spot}
use Rattle.cir_assign.specs.Leads.{Lists}
use Rattle.cir_create.specs.Makes.{BodyMeans, context_in}
use Rattle.cir_create.proofs.declaring.variables.Given as goal

abbrev pub invariant-loop-v : goal.invariant-loop-v
invariant-loop-v g l =
    (m : BodyMeans (goal.C-post g l.body.context.now.call.now) (goal.M-post g l.body.make.now)
    l.body) (qs : List Equation) → (es : List Equation)
    × (each (variable_declaration (context_in l.body m) (at_spot l.body.context.now l.spot))
    (map bare_variable l.vs) (state_of l.initial.frame l.initial.world qs)
    ≡ each (variable_declaration (context_in l.body m) (at_spot l.body.context.now l.spot))
    (map bare_variable (drop l.v-index l.vs)) (state_of l.frame l.world es))
    × Lists qs l.initial.world es l.world
