use Rattle.std.proofs.Common.{◌≡◌, ◌+◌, List, drop}
use Rattle.std.specs.Prelude.{sum_by}
use Rattle.cir_frame.specs.declared.world.World.{World}
use Rattle.cir_frame.specs.Shown.{frame_of, state_of}
use Rattle.cir_meaning.specs.Source.{Equation}
use Rattle.cir_meaning.specs.Limits.{Counts, standing}
use Rattle.cir_meaning.specs.Places.{elements}
use Rattle.cir_meaning.specs.Frame.{variable_at}
use Rattle.cir_meaning.specs.Steps.{start_reads}
use Rattle.cir_cost.specs.declared.cost.Cost.{Cost}
use Rattle.cir_cost.specs.Adds.{Adds, IsCost, read_alone}
use Rattle.cir_execute.proofs.undecided.read_before.Given as goal

-- with what is left to read, all is read
abbrev pub invariant-loop-n : goal.invariant-loop-n
invariant-loop-n l = record {
  reads : (w : World) (qs : List Equation) (new : Cost)
      → Adds l.cost new (read_alone (start_reads (drop l.n-index l.variables)
      (state_of l.frame w qs)))
      → IsCost new (read_alone (start_reads l.variables (state_of l.frame w qs)));
  cells : (c : Counts) → standing (l.cells
      + sum_by (λ n. elements (variable_at (frame_of l.frame c) n).dims)
      (drop l.n-index l.variables))
      ≡ standing (sum_by (λ n. elements (variable_at (frame_of l.frame c) n).dims) l.variables);
  most : l.cells ≡ standing l.cells;
}
