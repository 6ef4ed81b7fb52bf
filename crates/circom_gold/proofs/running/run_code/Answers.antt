use Rattle.std.proofs.Common.{◌≡◌, ℕ, List, subst, sym}
use Rattle.cir_ast.specs.Program.{Program}
use Rattle.wit_circuit.specs.Whole.{IsCircuitOf}
use Rattle.wit_circuit.specs.declared.code.CircuitCode.{CircuitCode}
use Rattle.wit_run.specs.Task.{IsTask}
use Rattle.circom_gold.proofs.running.run_code.Goals as goal

-- the same task, of code that was cut
abbrev cut_task : (p : Program) (cut code : CircuitCode) (start inputs : List ℕ) → cut ≡ code
    → IsTask p code start inputs → IsTask p cut start inputs
cut_task p cut code start inputs same task = record {
  resolved = task.resolved;
  places = task.places;
  meaning = task.meaning;
  compiles = task.compiles;
  made = subst (IsCircuitOf p) (sym same) task.made;
  begins = task.begins;
  each = task.each;
}

pub returns : goal.returns
returns g c = λ p inputs task.
    rw c.from.ensures at
    (c.run_many.ensures p inputs
    (cut_task p _ c.args.code c.args.start.now inputs c.in_ok-cut.ensures task))
