use Rattle.std.proofs.Common.{◌≡◌, List, drop, map}
use Rattle.cir_ast.specs.Tree.{bare_signal}
use Rattle.cir_meaning.specs.Simple.{each, signal_declaration}
use Rattle.cir_meaning.specs.Source.{Equation}
use Rattle.cir_frame.specs.Shown.{state_of}
use Rattle.cir_evaluate.specs.Within.{Means, context_of}
use Rattle.cir_assign.specs.Leads.{Lists}
use Rattle.cir_create.proofs.declaring.signals.Given as goal

abbrev pub invariant-loop-d : goal.invariant-loop-d
invariant-loop-d g l =
    (m : Means (goal.C-post g l.fn.context.call.now) l.fn.context) (qs : List Equation)
    → (es : List Equation)
    × (each (signal_declaration (context_of l.fn.context m.call m.make) l.fn.spot l.direction)
    (map bare_signal l.declared) (state_of l.initial.frame l.initial.world qs)
    ≡ each (signal_declaration (context_of l.fn.context m.call m.make) l.fn.spot l.direction)
    (map bare_signal (drop l.d-index l.declared)) (state_of l.frame l.world es))
    × Lists qs l.initial.world es l.world
