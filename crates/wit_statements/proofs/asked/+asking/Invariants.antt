use Rattle.std.proofs.Common.{◌≡◌, ◌++◌, drop}
use Rattle.std.specs.Prelude.{map}
use Rattle.cir_ast.specs.Tree.{bare, bare_exprs, as_accessors}
use Rattle.wit_emit.specs.Asked.{all_asked, place_asked}
use Rattle.wit_statements.proofs.asked.+asking.Given as goal

abbrev pub invariant-add_all-loop-e : goal.invariant-add_all-loop-e
invariant-add_all-loop-e l =
    map (λ c. bare c.now) l.calls.items ++ all_asked (bare_exprs (drop l.e-index l.es))
    ≡ map (λ c. bare c.now) l.fn.calls.items ++ all_asked (bare_exprs l.es)

abbrev pub invariant-add_place-loop-accessor : goal.invariant-add_place-loop-accessor
invariant-add_place-loop-accessor l =
    map (λ c. bare c.now) l.calls.items
    ++ place_asked (as_accessors (drop l.accessor-index l.accessors))
    ≡ map (λ c. bare c.now) l.fn.calls.items ++ place_asked (as_accessors l.accessors)
