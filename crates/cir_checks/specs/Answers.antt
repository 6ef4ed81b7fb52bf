-- What the code's tables stand for, and what its calls answer.
use Rattle.std.specs.Prelude.{◌≡◌, ◌+◌, List, ◌++◌, map, length, Option, Some, None, is_some}
use Rattle.std.specs.Prelude.{Result, Ok, Err, ⊤}
use Rattle.std.specs.Ordering.{nat_cmp}
use Rattle.std.specs.Cmp.Lexicographic.{slice_cmp}
use Rattle.std.specs.BTreeMap.{get_by}
use Rattle.cir_ast.specs.declared.operators.Direction.{Direction}
use Rattle.cir_ast.specs.declared.operators.Direction.TheVariants as direction
use Rattle.cir_ast.specs.declared.program.Spot.{Spot}
use Rattle.cir_ast.specs.declared.program.Meant.{Meant}
use Rattle.cir_ast.specs.Tree.{Signal, Signals, Statement, Ended, Statements, empty, then_more}
use Rattle.cir_resolve.specs.Definitions.{Definition}
use Rattle.cir_checks.specs.declared.name_set.NameSet.{NameSet}
use Rattle.cir_checks.specs.declared.stop.Stop.{Stop}
use Rattle.cir_checks.specs.declared.stop.Stop.TheVariants.{At, OutOfMemory}
use Rattle.cir_checks.specs.declared.table.Head.{Head as CodeHead}
use Rattle.cir_checks.specs.declared.table.Table.{Table as CodeTable}
use Rattle.cir_checks.specs.declared.table.Callee.{Callee as CodeCallee}
use Rattle.cir_checks.specs.declared.table.Callee.TheVariants as callee
use Rattle.cir_checks.specs.Faults.{Names, and_names}
use Rattle.cir_checks.specs.Heads.{Head, Table, Callee, TemplateOf, FunctionOf, OnlyDeclared}
use Rattle.cir_checks.specs.Heads.{Unknown, head_of, templates_among, functions_among}

-- what is in a set of names
unfoldable pub contained : NameSet → Names
contained set name = is_some (get_by (λ k. slice_cmp nat_cmp name k.now) set.names)

abbrev pub head_in : CodeHead → Head
head_in h =
    record {
      parameters = h.parameters;
      is_input = contained h.inputs;
      inputs = h.input_count;
      outputs = h.outputs;
    }

-- a head with more signals, and with those that more statements declare
abbrev pub with_signals : Head → Direction → List (Signal Meant) → Head
with_signals h direction.Input signals =
    record h {
      is_input = and_names h.is_input (map (λ s. s.name) signals);
      inputs = h.inputs + length signals;
    }
with_signals h direction.Output signals = record h { outputs = h.outputs + length signals }
with_signals h direction.Inner signals = h

abbrev pub with_statement : Head → Statement Spot Meant → Head
with_statement h (Ended spot (Signals d signals)) = with_signals h d signals
with_statement h _ = h

abbrev pub with_statements : Head → Statements Spot Meant → Head
with_statements h empty = h
with_statements h (then_more s ss) = with_statements (with_statement h s) ss

unfoldable pub table_in : CodeTable → Table
table_in t = record { templates = map head_in t.templates; functions = t.functions }

-- a table with more definitions
abbrev pub table_with : CodeTable → List Definition → Table
table_with t ds =
    record {
      templates = map head_in t.templates ++ map head_of (templates_among ds);
      functions = t.functions ++ map (λ f. length f.parameters) (functions_among ds);
    }

abbrev pub callee_in : CodeCallee → Callee
callee_in (callee.Template h) = TemplateOf (head_in h.now)
callee_in (callee.Function n) = FunctionOf n
callee_in callee.OnlyDeclared = OnlyDeclared
callee_in callee.Unknown = Unknown

-- a check finds the fault, or ends well where there is none; want of memory is free
abbrev pub Finds : {F : Type 0} → Result (Unit {0}) (Stop F) → Option F → Type 0
Finds (Ok u) found = found ≡ None
Finds (Err (At fault)) found = found ≡ Some fault
Finds (Err OutOfMemory) found = ⊤

-- and a check that takes no memory
abbrev pub Tells : {F : Type 0} → Result (Unit {0}) (Stop F) → Option F → Type 0
Tells (Ok u) found = found ≡ None
Tells (Err (At fault)) found = found ≡ Some fault
Tells (Err OutOfMemory) found = ⊥
