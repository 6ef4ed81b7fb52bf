use Rattle.std.proofs.Common.{◌≡◌, ◌++◌, drop}
use Rattle.std.specs.Prelude.{map}
use Rattle.cir_ast.specs.Tree.{bare_exprs, as_accessors}
use Rattle.cir_meaning.specs.Texts.{all_calls, place_calls}
use Rattle.cir_texts.specs.Shown.{called_of}
use Rattle.cir_texts.proofs.texts.+calling.Given as goal

abbrev pub invariant-add_all_calls-loop-e : goal.invariant-add_all_calls-loop-e
invariant-add_all_calls-loop-e l =
    map called_of l.calls.items ++ all_calls (bare_exprs (drop l.e-index l.es))
    ≡ map called_of l.fn.calls.items ++ all_calls (bare_exprs l.es)

abbrev pub invariant-add_place_calls-loop-accessor : goal.invariant-add_place_calls-loop-accessor
invariant-add_place_calls-loop-accessor l =
    map called_of l.calls.items
    ++ place_calls (as_accessors (drop l.accessor-index l.accessors))
    ≡ map called_of l.fn.calls.items ++ place_calls (as_accessors l.accessors)
