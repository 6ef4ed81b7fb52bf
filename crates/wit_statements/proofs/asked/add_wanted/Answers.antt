use Rattle.std.proofs.Common.{◌∙◌, ◌++◌, ap, sym, append_assoc, append-nil}
use Rattle.std.specs.Prelude.{map}
use Rattle.std.proofs.lemmas.Result.{IfOk-equal}
use Rattle.cir_ast.specs.Tree.{bare, bare_place, as_accessors}
use Rattle.cir_texts.specs.Shown.{wanted_of}
use Rattle.wit_emit.specs.Asked.{asked, place_asked}
use Rattle.wit_statements.proofs.AskedTrees.{asked_place}
use Rattle.wit_statements.proofs.asked.add_wanted.Goals as goal

pub returns-in_ok-add_place-in-Compound : goal.returns-in_ok-add_place-in-Compound
returns-in_ok-add_place-in-Compound c =
    let old = map (λ c. bare c.now) c.args.calls.now.items in
    let w = c.in-Compound in
    let later = asked (bare w.e.now) in
    IfOk-equal _ _ _ _ c.add.ensures
    (ap (λ found. found ++ later) (c.in_ok-add_place-in-Compound.ensures
    ∙ ap (λ list. old ++ place_asked (as_accessors list)) c.as_slice.ensures
    ∙ ap (λ more. old ++ more) (sym (asked_place w.place.now)))
    ∙ append_assoc old (asked (bare_place w.place.now)) later
    ∙ ap (λ x. old ++ asked (wanted_of x).expr) (sym w.is))

pub returns-in-Step : goal.returns-in-Step
returns-in-Step c =
    let old = map (λ c. bare c.now) c.args.calls.now.items in
    let w = c.in-Step in
    IfOk-equal _ _ _ _ c.add_place-in-Step.ensures
    (ap (λ list. old ++ place_asked (as_accessors list)) c.as_slice-in-Step.ensures
    ∙ ap (λ more. old ++ more) (sym (asked_place w.place.now) ∙ sym (append-nil _))
    ∙ ap (λ x. old ++ asked (wanted_of x).expr) (sym w.is))
