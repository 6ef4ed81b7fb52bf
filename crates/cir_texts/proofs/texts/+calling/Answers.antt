use Rattle.std.proofs.Common.{◌∙◌, ◌++◌, ap, sym, append_assoc}
use Rattle.std.specs.Prelude.{map}
use Rattle.std.proofs.lemmas.Result.{IfOk-equal}
use Rattle.cir_ast.specs.Tree.{bare, bare_exprs, as_accessors}
use Rattle.cir_meaning.specs.Texts.{calls_of, all_calls, place_calls, call_of}
use Rattle.cir_texts.specs.Shown.{called_of}
use Rattle.cir_texts.proofs.Lists.{calls_place, calls_call, calls_array}
use Rattle.cir_texts.proofs.texts.+calling.Goals as goal

pub add_calls-returns-in-Place : goal.add_calls-returns-in-Place
add_calls-returns-in-Place t c =
    IfOk-equal _ _ _ _ c.add_place_calls.ensures
    (ap (λ more. map called_of c.args.calls.now.items ++ more)
    (ap (λ list. place_calls (as_accessors list)) c.as_slice.ensures
    ∙ sym (ap (λ e. calls_of (bare e)) c.in-Place.is ∙ calls_place c.in-Place.place)))

pub add_calls-returns-in_ok-add_all_calls-in-Call :
    goal.add_calls-returns-in_ok-add_all_calls-in-Call
add_calls-returns-in_ok-add_all_calls-in-Call t c =
    let old = map called_of c.args.calls.now.items in
    let es = bare_exprs c.in-Call.arguments in
    IfOk-equal _ _ _ _ c.add_call.ensures
    (ap (λ found. found ++ call_of c.in-Call.meant (bare_exprs c.as_slice-in-Call-2.result.now))
    c.in_ok-add_all_calls-in-Call.ensures
    ∙ ap (λ list. (old ++ all_calls (bare_exprs c.as_slice-in-Call.result.now))
    ++ call_of c.in-Call.meant (bare_exprs list)) c.as_slice-in-Call-2.ensures
    ∙ ap (λ list. (old ++ all_calls (bare_exprs list)) ++ call_of c.in-Call.meant es)
    c.as_slice-in-Call.ensures
    ∙ append_assoc old (all_calls es) (call_of c.in-Call.meant es)
    ∙ ap (λ more. old ++ more) (sym (ap (λ e. calls_of (bare e)) c.in-Call.is
    ∙ calls_call c.in-Call.field-0 c.in-Call.field-1 c.in-Call.meant c.in-Call.arguments)))

pub add_calls-returns-in-Array : goal.add_calls-returns-in-Array
add_calls-returns-in-Array t c =
    IfOk-equal _ _ _ _ c.add_all_calls-in-Array.ensures
    (ap (λ more. map called_of c.args.calls.now.items ++ more)
    (ap (λ list. all_calls (bare_exprs list)) c.as_slice-in-Array.ensures
    ∙ sym (ap (λ e. calls_of (bare e)) c.in-Array.is ∙ calls_array c.in-Array.elements)))
