use Rattle.std.proofs.Common.{◌≡◌, drop}
use Rattle.std.specs.Prelude.{map}
use Rattle.cir_ast.specs.Tree.{bare_variable}
use Rattle.cir_meaning.specs.Reached.{declaration_of}
use Rattle.cir_texts.proofs.bodies.declaration_of.Given as goal

abbrev pub invariant-loop-variable : goal.invariant-loop-variable
invariant-loop-variable l =
    declaration_of l.n (map (λ v. bare_variable v.now) (drop l.variable-index l.variables))
    ≡ declaration_of l.n (map (λ v. bare_variable v.now) l.variables)
