use Rattle.std.proofs.Common.{◌≡◌, drop}
use Rattle.std.specs.Prelude.{map, is_none}
use Rattle.std.specs.List.{list_any}
use Rattle.cir_ast.specs.Tree.{bare_variable}
use Rattle.cir_meaning.specs.Texts.{list_of, literal_number}
use Rattle.cir_texts.proofs.bodies.has_run_dimension.Given as goal

abbrev pub invariant-loop-variable : goal.invariant-loop-variable
invariant-loop-variable l =
    list_any (λ v. list_any (λ e. is_none (literal_number e)) (list_of v.dimensions))
    (map (λ v. bare_variable v.now) (drop l.variable-index l.variables))
    ≡ list_any (λ v. list_any (λ e. is_none (literal_number e)) (list_of v.dimensions))
    (map (λ v. bare_variable v.now) l.variables)
