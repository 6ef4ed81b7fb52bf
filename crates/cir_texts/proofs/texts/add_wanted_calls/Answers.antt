use Rattle.std.proofs.Common.{◌∙◌, ◌++◌, ap, sym, append_assoc, append-nil}
use Rattle.std.specs.Prelude.{map}
use Rattle.std.proofs.lemmas.Result.{IfOk-equal}
use Rattle.cir_ast.specs.Tree.{bare, bare_place, as_accessors}
use Rattle.cir_meaning.specs.Texts.{calls_of, place_calls}
use Rattle.cir_texts.specs.Shown.{wanted_of, called_of}
use Rattle.cir_texts.proofs.Lists.{calls_place}
use Rattle.cir_texts.proofs.texts.add_wanted_calls.Goals as goal

pub returns-in_ok-add_place_calls-in-Compound : goal.returns-in_ok-add_place_calls-in-Compound
returns-in_ok-add_place_calls-in-Compound c =
    let old = map called_of c.args.calls.now.items in
    let w = c.in-Compound in
    let later = calls_of (bare w.e.now) in
    IfOk-equal _ _ _ _ c.add_calls.ensures
    (ap (λ found. found ++ later) (c.in_ok-add_place_calls-in-Compound.ensures
    ∙ ap (λ list. old ++ place_calls (as_accessors list)) c.as_slice.ensures
    ∙ ap (λ more. old ++ more) (sym (calls_place w.place.now)))
    ∙ append_assoc old (calls_of (bare_place w.place.now)) later
    ∙ ap (λ x. old ++ calls_of (wanted_of x).expr) (sym w.is))

pub returns-in-Step : goal.returns-in-Step
returns-in-Step c =
    let old = map called_of c.args.calls.now.items in
    let w = c.in-Step in
    IfOk-equal _ _ _ _ c.add_place_calls-in-Step.ensures
    (ap (λ list. old ++ place_calls (as_accessors list)) c.as_slice-in-Step.ensures
    ∙ ap (λ more. old ++ more) (sym (calls_place w.place.now) ∙ sym (append-nil _))
    ∙ ap (λ x. old ++ calls_of (wanted_of x).expr) (sym w.is))
