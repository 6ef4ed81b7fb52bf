use Rattle.std.proofs.Common.{◌≡◌, List}
use Rattle.cir_frame.specs.declared.frame.Frame.{Frame}
use Rattle.cir_frame.specs.Shown.{state_of}
use Rattle.cir_meaning.specs.Arrays.{Whole}
use Rattle.cir_meaning.specs.Evaluate.{value_in}
use Rattle.cir_meaning.specs.Frame.{uncounted}
use Rattle.cir_meaning.specs.Run.{known_value}
use Rattle.cir_meaning.specs.Source.{Equation}
use Rattle.cir_evaluate.specs.Within.{Means, context_at, kept_of, where_at}
use Rattle.wit_sourced.specs.Loaded.{AreTold}
use Rattle.cir_make.proofs.calls.call_values.Given as goal

abbrev pub invariant-loop-call : goal.invariant-loop-call
invariant-loop-call g l = record {
  told : (m : Means (goal.C-post g l.here.context.now.call.now) l.here.context.now)
      (qs : List Equation) → AreTold (λ e. known_value (value_in (context_at l.here m)
      (where_at l.here) l.here.shaded Whole e (uncounted (state_of l.frame l.initial.world qs))))
      l.values.items;
  same : (m : Means (goal.C-post g l.here.context.now.call.now) l.here.context.now)
      (f : Frame) (qs : List Equation) → state_of f l.world qs ≡ state_of f l.initial.world qs;
  keeps : Means (goal.C-post g l.here.context.now.call.now) l.here.context.now
      → kept_of l.world ≡ kept_of l.initial.world;
}
