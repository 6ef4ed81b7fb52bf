use Rattle.std.proofs.Common.{◌≡◌, ◌+◌, List}
use Rattle.cir_meaning.specs.Limits.{standing}
use Rattle.cir_meaning.specs.Source.{Equation}
use Rattle.cir_frame.specs.Shown.{state_of}
use Rattle.cir_evaluate.specs.Within.{Means, at_spot, context_of, kept_of}
use Rattle.cir_execute.proofs.Logging.{cells_from, logged_from}
use Rattle.cir_execute.proofs.statement.log.Given as goal

-- what is logged, and what is left, are all
abbrev pub invariant-loop-argument : goal.invariant-loop-argument
invariant-loop-argument g l = record {
  values : (m : Means (goal.C-post g l.fn.context.call.now) l.fn.context) (qs : List Equation)
      → logged_from (context_of l.fn.context m.call m.make) (at_spot l.fn.context l.fn.spot)
      l.arguments 0 (state_of l.frame l.initial.world qs)
      ≡ logged_from (context_of l.fn.context m.call m.make) (at_spot l.fn.context l.fn.spot)
      l.arguments l.argument-index (state_of l.frame l.world qs);
  keeps : Means (goal.C-post g l.fn.context.call.now) l.fn.context
      → kept_of l.world ≡ kept_of l.initial.world;
  cells : standing (l.cells + cells_from l.arguments l.argument-index)
      ≡ standing (cells_from l.arguments 0);
}
