-- A run-time statement with the elements of variables that it is to write: what it means, and its
-- code. Sources are loaded, the statement is executed, and what it gives is written.
use Rattle.std.specs.Prelude.{◌≡◌, ℕ, zero, suc, ◌+◌, List, [], ◌∷◌, ◌++◌, map, slice_index, Option}
use Rattle.std.specs.Prelude.{Some, None, Ok, Err}
use Rattle.wit_code.specs.declared.code.Op.TheVariants as op
use Rattle.wit_code.specs.declared.code.Proc.{Proc}
use Rattle.wit_code.specs.declared.code.Stop.{Stop}
use Rattle.wit_code.specs.Table.{Outcome, Wrote, Stopped, stop_number}
use Rattle.cir_ast.specs.declared.program.Spot.{Spot}
use Rattle.cir_ast.specs.declared.program.Meant.{Meant}
use Rattle.cir_ast.specs.Program.{Program}
use Rattle.cir_ast.specs.Tree.{Expr, LogArgument, Words, LogValue, Statement}
use Rattle.cir_meaning.specs.Tried.{next}
use Rattle.cir_meaning.specs.Bodies.{most_open}
use Rattle.cir_meaning.specs.Costs.{Made}
use Rattle.cir_meaning.specs.RunValues.{Ran, Environment, Store, gives, number, number_in, stored}
use Rattle.cir_meaning.specs.RunStatements.{step_statement, run_call}
use Rattle.cir_meaning.specs.RunSimple.{sides}
use Rattle.cir_meaning.specs.RunBodies.{store_in}
use Rattle.wit_lower.specs.Homes.{Variable, Home, Homes, Scope, Ground, find}
use Rattle.wit_lower.specs.Pieces.{Code, followed, most_named}
use Rattle.wit_lower.specs.Values.{expr_code, size_of}
use Rattle.wit_lower.specs.Statements.{statement_code}
use Rattle.wit_lower.specs.Procedures.{params_at}
use Rattle.wit_lower.specs.Sources.{Sources, scope_of, cells_read, sources_code, environment_of}
use Rattle.wit_lower.specs.Sources.{store_of}
use Rattle.wit_lower.specs.Known.{changes, number_known}

-- an element of a variable
pub record Element : Type 0 where
  pub variable : ℕ
  pub element : ℕ

-- a write of signals gives its value; two sides that are to be equal give nothing; a `log` gives
-- its numbers; and a statement that is executed gives elements of variables as they are behind it
pub data Task : Type 0 where
  Gives : Expr Meant → Task
  Equal : (left right : Expr Meant) → Task
  Logs : List (Expr Meant) → Task
  Executes : Statement Spot Meant → List Element → Task

-- strings of a line have no number
abbrev pub logged : List (LogArgument Meant) → List (Expr Meant)
logged [] = []
logged (Words text ∷ rest) = logged rest
logged (LogValue e ∷ rest) = e ∷ logged rest

abbrev pub numbers_wanted : Environment → Store → List (Expr Meant) → ℕ → Ran (List ℕ)
numbers_wanted env store [] units = gives [] units
numbers_wanted env store (e ∷ es) units =
    number (number_in env store e units) (λ n u1. next (numbers_wanted env store es u1)
    (λ (ns, u2). gives (n ∷ ns) u2))

abbrev pub element_in : Store → Element → ℕ
element_in store t = slice_index (stored store t.variable).items t.element

-- what it writes, or its stop
abbrev pub done_by : Environment → Store → Task → ℕ → Ran (List ℕ)
done_by env store (Gives e) units =
    next (number_in env store e units) (λ (d, u1). gives d.items u1)
done_by env store (Equal a b) units = next (sides env store a b units) (λ (u, u1). gives [] u1)
done_by env store (Logs es) units = numbers_wanted env store es units
done_by env store (Executes a targets) units =
    next (step_statement env a store units)
    (λ (flow, u1). gives (map (element_in (store_in flow store)) targets) u1)

-- the code
abbrev pub writes : (from count : ℕ) → Code
writes from zero = []
writes from (suc n) = op.Write from ∷ writes (from + 1) n

abbrev pub logs_code : Ground → Scope → (place : ℕ) → List (Expr Meant) → Code
logs_code g s place [] = []
logs_code g s place (e ∷ es) =
    followed place (expr_code g s.homes s.top place e ++ op.Write s.top ∷ [])
    (λ p. logs_code g s p es)

abbrev pub target_code : Option Home → Element → Code
target_code None t = []
target_code (Some h) t = op.Write (h.base + t.element) ∷ []

abbrev pub targets_code : Homes → List Element → Code
targets_code homes [] = []
targets_code homes (t ∷ ts) =
    target_code (find (Variable t.variable) homes) t ++ targets_code homes ts

abbrev pub task_code : Ground → Scope → (place : ℕ) → Task → Code
task_code g s place (Gives e) =
    expr_code g s.homes s.top place e ++ writes s.top (size_of g s.homes e)
task_code g s place (Equal a b) =
    followed place (expr_code g s.homes s.top place a) (λ p.
    expr_code g s.homes (s.top + 1) p b ++ op.Check s.top (s.top + 1) ∷ [])
task_code g s place (Logs es) = logs_code g s place es
task_code g s place (Executes a targets) =
    statement_code g s place a ++ targets_code s.homes targets

-- what is known of the numbers of the step
abbrev pub changed_by : Task → List ℕ
changed_by (Executes a targets) = changes a
changed_by _ = []

abbrev pub step_ground : List Made → Sources → Task → Ground
step_ground keys sources task = record {
  keys = keys;
  known = number_known sources (changed_by task);
  called = sources.called;
  components = sources.components;
}

abbrev pub step_body : Ground → Sources → Task → Code
step_body g sources task =
    let s : Scope = scope_of sources in
    followed 0 (sources_code (cells_read sources.list) s.homes sources.list)
    (λ p. task_code g s p task)

abbrev pub step_code : Ground → Sources → Task → Proc
step_code g sources task = record {
  params = 0;
  slots = most_named (params_at g.keys) (step_body g sources task);
  body = step_body g sources task;
}

-- a stop of the meaning is the machine's; a number that is missing is no stop
pub record IsStop (stop : ℕ) (outcome : Outcome) : Type 0 where
  pub as_stop : Stop
  pub is : outcome ≡ Stopped as_stop
  pub number : stop_number as_stop ≡ Some stop

abbrev pub IsOutcome : Ran (List ℕ) → Outcome → Type 0
IsOutcome (Ok (ns, units)) outcome = outcome ≡ Wrote ns
IsOutcome (Err stop) outcome = IsStop stop outcome

-- what the task means, at the numbers of the cells
abbrev pub meant_by : Program → Sources → (variables : ℕ) → Task → (cells : ℕ → ℕ) → (fuel : ℕ)
    → Ran (List ℕ)
meant_by program sources variables task cells fuel =
    done_by (environment_of sources cells (run_call program most_open))
    (store_of sources cells variables) task fuel
