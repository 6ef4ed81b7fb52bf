use Rattle.std.proofs.Common.{◌≡◌, ◌++◌, drop}
use Rattle.std.specs.Prelude.{map, flat_map}
use Rattle.cir_ast.specs.Tree.{bare, bare_argument}
use Rattle.wit_lower.specs.Tasks.{logged}
use Rattle.wit_emit.specs.Asked.{asked}
use Rattle.wit_statements.proofs.asked.add_logged.Given as goal

abbrev pub invariant-loop-argument : goal.invariant-loop-argument
invariant-loop-argument l =
    map (λ c. bare c.now) l.calls.items
    ++ flat_map asked (logged (map bare_argument (drop l.argument-index l.arguments)))
    ≡ map (λ c. bare c.now) l.fn.calls.items
    ++ flat_map asked (logged (map bare_argument l.arguments))
