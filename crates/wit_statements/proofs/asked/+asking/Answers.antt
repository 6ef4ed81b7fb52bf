use Rattle.std.proofs.Common.{◌∙◌, ◌∷◌, ◌++◌, [], ap, sym, append_assoc}
use Rattle.std.specs.Prelude.{map}
use Rattle.std.proofs.lemmas.List.{map-append}
use Rattle.std.proofs.lemmas.Result.{IfOk-equal}
use Rattle.cir_ast.specs.Tree.{bare, bare_exprs, as_accessors}
use Rattle.wit_emit.specs.Asked.{asked, all_asked, place_asked}
use Rattle.wit_statements.proofs.AskedTrees.{asked_place, asked_call, asked_array}
use Rattle.wit_statements.proofs.asked.+asking.Goals as goal

pub add-returns-in-Place : goal.add-returns-in-Place
add-returns-in-Place t c =
    IfOk-equal _ _ _ _ c.add_place.ensures
    (ap (λ more. map (λ c. bare c.now) c.args.calls.now.items ++ more)
    (ap (λ list. place_asked (as_accessors list)) c.as_slice.ensures
    ∙ sym (ap (λ e. asked (bare e)) c.in-Place.is ∙ asked_place c.in-Place.place)))

pub add-returns-in_ok-push-in-Call : goal.add-returns-in_ok-push-in-Call
add-returns-in_ok-push-in-Call t c =
    let old = map (λ c. bare c.now) c.args.calls.now.items in
    let e = bare c.args.e.now in
    let x = c.in-Call in
    IfOk-equal _ _ _ _ c.add_all.ensures
    (ap (λ found. map (λ c. bare c.now) found
    ++ all_asked (bare_exprs c.as_slice-in-Call.result.now)) c.in_ok-push-in-Call.ensures.items
    ∙ ap (λ found. found ++ all_asked (bare_exprs c.as_slice-in-Call.result.now))
    (map-append (λ c. bare c.now) c.args.calls.now.items _)
    ∙ ap (λ list. (old ++ e ∷ []) ++ all_asked (bare_exprs list)) c.as_slice-in-Call.ensures
    ∙ append_assoc old (e ∷ []) (all_asked (bare_exprs x.arguments))
    ∙ ap (λ y. old ++ bare y ∷ all_asked (bare_exprs x.arguments)) x.is
    ∙ ap (λ more. old ++ more) (sym (ap (λ y. asked (bare y)) x.is
    ∙ asked_call x.field-0 x.field-1 x.field-2 x.arguments)))

pub add-returns-in-Array : goal.add-returns-in-Array
add-returns-in-Array t c =
    IfOk-equal _ _ _ _ c.add_all-in-Array.ensures
    (ap (λ more. map (λ c. bare c.now) c.args.calls.now.items ++ more)
    (ap (λ list. all_asked (bare_exprs list)) c.as_slice-in-Array.ensures
    ∙ sym (ap (λ e. asked (bare e)) c.in-Array.is ∙ asked_array c.in-Array.elements)))
