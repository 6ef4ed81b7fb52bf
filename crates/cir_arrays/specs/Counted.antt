-- What the code's counts stand for.
use Rattle.std.specs.Prelude.{ℕ, Option, Some, None, Ok}
use Rattle.cir_ast.specs.declared.refusal.Which.{Which}
use Rattle.cir_ast.specs.declared.refusal.Kind.TheVariants.{Limit}
use Rattle.cir_arrays.specs.declared.counts.Counts.{Counts as CodeCounts}
use Rattle.cir_meaning.specs.Tried.{Where, Tried, refused}
use Rattle.cir_meaning.specs.Limits.{Counts}

abbrev pub counts_of : CodeCounts → Counts
counts_of c = record {
  signals = c.signals;
  constraints = c.constraints;
  terms = c.terms;
  elements = c.elements;
  cells = c.cells;
  steps = c.steps;
  nodes = c.nodes;
  reads = c.reads;
  statements = c.statements;
}

-- counts that pass a limit are refused by its name, with the count that passes it
abbrev pub passing : Option (Which × ℕ) → Where → Counts → Tried Counts
passing None w c = Ok c
passing (Some (which, count)) w c = refused w (Limit which count)
