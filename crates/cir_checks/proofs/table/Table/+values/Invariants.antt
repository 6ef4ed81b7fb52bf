use Rattle.std.proofs.Common.{◌≡◌, drop}
use Rattle.cir_ast.specs.Tree.{bare_exprs, as_accessors, as_named}
use Rattle.cir_checks.specs.Faults.{no_names}
use Rattle.cir_checks.specs.Uses.{inputs_in, values_fault, accessors_fault, named_fault}
use Rattle.cir_checks.specs.Answers.{table_in, callee_in, contained}
use Rattle.cir_checks.proofs.table.Table.+values.Given as goal

-- the first fault of what is left is the first of all
abbrev pub invariant-values-loop-value : goal.invariant-values-loop-value
invariant-values-loop-value l =
    values_fault (table_in l.self) l.room (bare_exprs (drop l.value-index l.values))
    ≡ values_fault (table_in l.self) l.room (bare_exprs l.values)

abbrev pub invariant-indices-loop-accessor : goal.invariant-indices-loop-accessor
invariant-indices-loop-accessor l =
    accessors_fault (table_in l.self) l.room (as_accessors (drop l.accessor-index l.accessors))
    ≡ accessors_fault (table_in l.self) l.room (as_accessors l.accessors)

abbrev pub invariant-named-loop-input : goal.invariant-named-loop-input
invariant-named-loop-input l =
    named_fault (table_in l.self) (inputs_in (callee_in l.callee)) (contained l.earlier) l.room
    (as_named (drop l.input-index l.inputs))
    ≡ named_fault (table_in l.self) (inputs_in (callee_in l.callee)) no_names l.room
    (as_named l.inputs)
