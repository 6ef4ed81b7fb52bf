-- When the steps of a template's body do what the body does.
use Rattle.std.specs.Prelude.{ℕ, ◌≤◌, List, [], ◌∷◌, All, Some, None, Ok, Err, true, ◌≡◌, ◌≢◌, ⊤}
use Rattle.cir_meaning.specs.Arrays.{Datum, is_all_known}
use Rattle.cir_meaning.specs.Values.{IsValue}
use Rattle.cir_meaning.specs.Source.{IsDifference}
use Rattle.cir_meaning.specs.Frame.{World}
use Rattle.cir_meaning.specs.RunValues.{missing}
use Rattle.cir_meaning.specs.Run.{RunTried, Rejected, Stopped, Wires, Table}
use Rattle.cir_meaning.specs.RunSimple.{Outcome}
use Rattle.cir_steps.specs.RunSteps.{Cells, in_cell, Progress}
use Rattle.cir_steps.specs.Making.{Cast}
use Rattle.cir_steps.specs.Written.{times, targets_of}

-- where a run has the number of a signal's element, its cell has it
abbrev pub Wired : Cells → Wires → Wires → Type 0
Wired cells wires own = (n k v : ℕ) → wires n k ≡ Some v → in_cell cells (own n k) ≡ Some v

abbrev pub TablesWired : Cells → List Table → List Table → Type 0
TablesWired cells [] [] = ⊤
TablesWired cells [] (u ∷ us) = ⊥
TablesWired cells (t ∷ ts) [] = ⊥
TablesWired cells (t ∷ ts) (u ∷ us) =
    (t.signals ≡ u.signals) × Wired cells t.wires u.wires × TablesWired cells ts us

-- arguments are known values, and equations have their parts
pub record Begins (arguments : List Datum) (world : World) : Type 0 where
  pub known : All (λ d. is_all_known d ≡ true) arguments
  pub values : All (λ (d : Datum). All IsValue d.items) arguments
  pub equations : All IsDifference world.equations

-- cell 0 has 1, the cells of its inputs have the numbers that are given, and the cells that its
-- steps write, each once, have none yet
pub record Starts (o : Cast) (given : Wires) (q : Progress) : Type 0 where
  pub one : q.cells 0 ≡ Some 1
  pub wired : Wired q.cells given o.own
  pub once : (c : ℕ) → times c (targets_of o.steps) ≤ 1
  pub free : (c : ℕ) → 1 ≤ times c (targets_of o.steps) → q.cells c ≡ None

-- where the body ends, its numbers stand in the cells of its signals and of those in it, behind the
-- same log lines; where it stops, other than for a number that is missing, so do the steps
abbrev pub IsRunBy : Cast → RunTried Outcome → RunTried Progress → Type 0
IsRunBy o (Ok out) steps =
    (end : Progress) × (steps ≡ Ok end) × Wired end.cells out.own o.own
    × TablesWired end.cells out.inside o.inside × (end.log ≡ out.log)
IsRunBy o (Err (Rejected e)) steps = ⊤
IsRunBy o (Err (Stopped stop w log)) steps =
    stop ≢ missing → steps ≡ Err (Stopped stop w log)
