-- What the code's costs stand for.
use Rattle.std.specs.Prelude.{◌≡◌, ℕ, ◌+◌, List, [], ◌++◌, map, None, Result, Ok, Err}
use Rattle.cir_ast.specs.Program.{Program}
use Rattle.cir_arrays.specs.declared.stop.Fault.{Fault}
use Rattle.cir_arrays.specs.Stopped.{IsRefusal}
use Rattle.cir_meaning.specs.Tried.{Where}
use Rattle.cir_meaning.specs.Frame.{State}
use Rattle.cir_meaning.specs.Functions.{function_fault, function_elements}
use Rattle.cir_meaning.specs.Steps.{unless_faulty}
use Rattle.cir_meaning.specs.Limits.{standing}
use Rattle.cir_meaning.specs.Costs as C
use Rattle.cir_rules.specs.Shown.{made_of}
use Rattle.cir_cost.specs.declared.reads.Cell.{Cell}
use Rattle.cir_cost.specs.declared.reads.Cell.TheVariants as cell
use Rattle.cir_cost.specs.declared.cost.Cost.{Cost}

abbrev pub cell_of : Cell → C.Cell
cell_of (cell.Element variable element) = C.Element variable element
cell_of (cell.Wire number) = C.Wire number

-- the nodes stand still at 2^64 - 1, the end of their type
pub record IsCost (cost : Cost) (c : C.Cost) : Type 0 where
  pub nodes : standing cost.nodes ≡ standing c.nodes
  pub reads : map cell_of cost.reads.items ≡ c.reads
  pub calls : map made_of cost.calls.items ≡ c.calls

-- a cost comes behind what is there
pub record Adds (old new : Cost) (c : C.Cost) : Type 0 where
  pub nodes : standing new.nodes ≡ standing (old.nodes + c.nodes)
  pub reads : map cell_of new.reads.items ≡ map cell_of old.reads.items ++ c.reads
  pub calls : map made_of new.calls.items ≡ map made_of old.calls.items ++ c.calls

-- what is read or called alone
abbrev pub read_alone : List C.Cell → C.Cost
read_alone cells = record { nodes = 0; reads = cells; calls = [] }

abbrev pub called_alone : List C.Made → C.Cost
called_alone calls = record { nodes = 0; reads = []; calls = calls }

-- the number of elements that is too many, or the rule that is broken
abbrev pub IsJudged : Where → Program → List C.Made → Result ℕ Fault → Type 0
IsJudged w p made (Ok n) =
    (function_fault p made ≡ None) × (n ≡ standing (function_elements p made))
IsJudged w p made (Err f) =
    (s : State) → IsRefusal f (unless_faulty w (function_fault p made) (Ok s))
