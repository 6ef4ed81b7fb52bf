use Rattle.std.proofs.Common.{◌≡◌, ◌++◌, List, [], drop}
use Rattle.std.specs.Prelude.{map, Ok}
use Rattle.cir_ast.specs.Tree.{bare_exprs, as_accessors}
use Rattle.cir_meaning.specs.Tried.{next}
use Rattle.cir_meaning.specs.Source.{Equation}
use Rattle.cir_meaning.specs.Arrays.{Want}
use Rattle.cir_meaning.specs.Reading.{Named}
use Rattle.cir_meaning.specs.Evaluate.{all_in, read_in}
use Rattle.cir_arrays.specs.Shown.{datum_of}
use Rattle.cir_frame.specs.Shown.{state_of}
use Rattle.cir_frame.specs.Read.{root_of}
use Rattle.cir_evaluate.specs.Within.{Means, context_at, kept_of, where_at}
use Rattle.cir_evaluate.proofs.evaluate.+evaluating.Given as goal

-- what is evaluated, and what is left behind it, are the whole
abbrev pub invariant-data-loop-e : goal.invariant-data-loop-e
invariant-data-loop-e g l = record {
  value : (m : Means (goal.C-post g l.here.context.now.call.now) l.here.context.now)
      (qs : List Equation)
      → all_in (context_at l.here m) (where_at l.here) l.here.shaded (bare_exprs l.es)
      (state_of l.frame l.initial.world qs)
      ≡ next (all_in (context_at l.here m) (where_at l.here) l.here.shaded
      (bare_exprs (drop l.e-index l.es)) (state_of l.frame l.world qs))
      (λ (ds, s). Ok (map datum_of l.all.items ++ ds, s));
  keeps : Means (goal.C-post g l.here.context.now.call.now) l.here.context.now
      → kept_of l.world ≡ kept_of l.initial.world;
}

abbrev pub invariant-locate-loop-accessor : goal.invariant-locate-loop-accessor
invariant-locate-loop-accessor g l = record {
  value : (m : Means (goal.C-post g l.here.context.now.call.now) l.here.context.now)
      (qs : List Equation) (want : Want)
      → read_in (context_at l.here m) (where_at l.here) l.here.shaded want (Named l.place.meant) []
      (as_accessors l.accessor-items) (state_of l.frame l.initial.world qs)
      ≡ read_in (context_at l.here m) (where_at l.here) l.here.shaded want (root_of l.root)
      l.indices.items (as_accessors (drop l.accessor-index l.accessor-items))
      (state_of l.frame l.world qs);
  keeps : Means (goal.C-post g l.here.context.now.call.now) l.here.context.now
      → kept_of l.world ≡ kept_of l.initial.world;
}
