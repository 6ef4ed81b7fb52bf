use Rattle.std.proofs.Common.{ℕ, take}
use Rattle.flow_core.specs.Counts.{IsIn}
use Rattle.wit_flow.proofs.drafting.Draft.names_written.Given as goal

abbrev pub invariant-loop-cell : goal.invariant-loop-cell
invariant-loop-cell l = (c : ℕ) → IsIn c (take l.cell-index l.cells) → IsIn c l.self.open_writes → ⊥
