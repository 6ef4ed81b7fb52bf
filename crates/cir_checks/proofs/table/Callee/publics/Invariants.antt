use Rattle.std.proofs.Common.{◌≡◌, drop}
use Rattle.cir_ast.specs.declared.refusal.Kind.TheVariants.{UnknownName}
use Rattle.cir_checks.specs.Faults.{first_in, unless}
use Rattle.cir_checks.specs.Answers.{contained}
use Rattle.cir_checks.proofs.table.Callee.publics.Given as goal

-- the first fault of what is left is the first of all
abbrev pub invariant-loop-name : goal.invariant-loop-name
invariant-loop-name l =
    first_in (λ name. unless (contained l.head.now.inputs name) UnknownName)
    (drop l.name-index l.names)
    ≡ first_in (λ name. unless (contained l.head.now.inputs name) UnknownName) l.names
