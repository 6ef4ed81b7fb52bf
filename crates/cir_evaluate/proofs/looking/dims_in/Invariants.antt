use Rattle.std.proofs.Common.{◌≡◌, ◌++◌, List, drop}
use Rattle.std.specs.Prelude.{Ok}
use Rattle.cir_ast.specs.Tree.{bare_exprs}
use Rattle.cir_meaning.specs.Tried.{next}
use Rattle.cir_meaning.specs.Source.{Equation}
use Rattle.cir_meaning.specs.Evaluate as E
use Rattle.cir_frame.specs.Shown.{state_of}
use Rattle.cir_evaluate.specs.Within.{Means, context_at, kept_of, where_at}
use Rattle.cir_evaluate.proofs.looking.dims_in.Given as goal

abbrev pub invariant-loop-e : goal.invariant-loop-e
invariant-loop-e g l = record {
  value : (m : Means (goal.C-post g l.here.context.now.call.now) l.here.context.now)
      (qs : List Equation)
      → E.dims_in (context_at l.here m) (where_at l.here) l.here.shaded (bare_exprs l.es)
      (state_of l.frame l.initial.world qs)
      ≡ next (E.dims_in (context_at l.here m) (where_at l.here) l.here.shaded
      (bare_exprs (drop l.e-index l.es)) (state_of l.frame l.world qs))
      (λ (ns, s). Ok (l.dims.items ++ ns, s));
  keeps : Means (goal.C-post g l.here.context.now.call.now) l.here.context.now
      → kept_of l.world ≡ kept_of l.initial.world;
}
