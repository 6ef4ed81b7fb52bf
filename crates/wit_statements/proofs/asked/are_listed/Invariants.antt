use Rattle.std.proofs.Common.{◌≡◌, drop}
use Rattle.std.specs.Prelude.{map}
use Rattle.std.specs.List.{list_all}
use Rattle.cir_ast.specs.Tree.{bare}
use Rattle.wit_sourced.specs.Loaded.{has_call}
use Rattle.wit_statements.proofs.asked.are_listed.Given as goal

abbrev pub invariant-loop-call : goal.invariant-loop-call
invariant-loop-call l =
    list_all (has_call l.calls) (map (λ c. bare c.now) (drop l.call-index l.call-items))
    ≡ list_all (has_call l.calls) (map (λ c. bare c.now) l.call-items)
