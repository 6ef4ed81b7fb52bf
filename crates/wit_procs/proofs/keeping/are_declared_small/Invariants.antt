use Rattle.std.proofs.Common.{◌≡◌, drop, map}
use Rattle.std.specs.List.{list_all}
use Rattle.cir_ast.specs.Tree.{bare_variable}
use Rattle.wit_procs.specs.Rules.{is_small, written_dims}
use Rattle.wit_procs.proofs.keeping.are_declared_small.Given as goal

abbrev pub invariant-loop-variable : goal.invariant-loop-variable
invariant-loop-variable l =
    list_all (λ v. is_small (written_dims v))
    (map (λ v. bare_variable v.now) (drop l.variable-index l.variables))
    ≡ list_all (λ v. is_small (written_dims v))
    (map (λ v. bare_variable v.now) l.variables)
