use Rattle.std.proofs.Common.{◌≡◌, ◌∙◌, ◌∷◌, [], ap, sym, refl}
use Rattle.std.specs.Prelude.{map, flat_map, ◌==◌, is_none, Some, slice_get}
use Rattle.std.specs.List.{list_any}
use Rattle.cir_ast.specs.Program.{bare_program}
use Rattle.cir_ast.specs.Tree.{bare_variable}
use Rattle.cir_meaning.specs.Reached.{is_misplaced}
use Rattle.cir_meaning.specs.Texts.{list_of, literal_number, calls_of}
use Rattle.cir_rules.specs.Queue as Q
use Rattle.cir_texts.specs.Shown.{wanted_of, called_of}
use Rattle.cir_rules.specs.Judged.{function_calls, dimension_runs, misplaces}
use Rattle.cir_rules.proofs.Reaching.{walked, walked_all, by_get}
use Rattle.cir_rules.proofs.verdict.visit_function.Goals as goal

pub loop-call-preserved : goal.loop-call-preserved
loop-call-preserved c =
    walked ◌==◌ (λ cs. map (λ c. c.function) (map called_of cs)) c.as_slice-call-items.result.now
    c.loop-call.call-index c.call-item.result (c.call-item.result.function ∷ [])
    c.loop-call.known.items _ _ c.loop-call-test.true c.call-item.is refl
    c.in_ok-add_function.ensures c.loop-call.invariant

pub returns-clause-dimension : goal.returns-clause-dimension
returns-clause-dimension c =
    let p = bare_program c.args.program.now in
    let here : slice_get c.args.known.now.items c.args.at ≡ Some c.in-Some.function =
    let list = c.deref.ensures.value in
    let got = by_get c.deref.result.now c.args.at c.get.result c.get.ensures.lookup in
    let copied = c.in-Some.ensures in
    cc in
    c.has_run_dimension.ensures
    ∙ ap (λ vs. list_any (λ v. list_any (λ e. is_none (literal_number e)) (list_of v.dimensions))
    (map (λ v. bare_variable v.now) vs)) c.as_slice.ensures.value
    ∙ ap (list_any (λ v. list_any (λ e. is_none (literal_number e)) (list_of v.dimensions)))
    c.in_ok-texts.ensures.variables
    ∙ ap (Q.told (dimension_runs p)) (sym here)

pub returns-clause-misplaced : goal.returns-clause-misplaced
returns-clause-misplaced c =
    let p = bare_program c.args.program.now in
    let here : slice_get c.args.known.now.items c.args.at ≡ Some c.in-Some.function =
    let list = c.deref.ensures.value in
    let got = by_get c.deref.result.now c.args.at c.get.result c.get.ensures.lookup in
    let copied = c.in-Some.ensures in
    cc in
    c.has_misplaced.ensures
    ∙ ap (λ ws. list_any (λ x. is_misplaced x.want x.expr) (map wanted_of ws))
    c.as_slice-2.ensures.value
    ∙ ap (list_any (λ x. is_misplaced x.want x.expr)) c.in_ok-texts.ensures.wanted
    ∙ ap (Q.told (misplaces p)) (sym here)

pub returns-clause-more : goal.returns-clause-more
returns-clause-more c =
    let p = bare_program c.args.program.now in
    let known = c.args.known.now.items in
    let here : slice_get known c.args.at ≡ Some c.in-Some.function =
    let list = c.deref.ensures.value in
    let got = by_get c.deref.result.now c.args.at c.get.result c.get.ensures.lookup in
    let copied = c.in-Some.ensures in
    cc in
    walked_all ◌==◌ (λ cs. map (λ c. c.function) (map called_of cs))
    c.as_slice-call-items.result.now c.loop-call.call-index c.loop-call.known.items _
    c.loop-call-test.false refl c.loop-call.invariant
    ∙ ap (λ cs. Q.with_new ◌==◌ known (map (λ c. c.function) cs))
    (ap (map called_of) c.as_slice-call-items.ensures.value ∙ c.in_ok-calls.ensures
    ∙ ap (flat_map (λ x. calls_of x.expr)) c.in_ok-texts.ensures.wanted)
    ∙ ap (λ o. Q.with_new ◌==◌ known (Q.calls_of (function_calls p) o)) (sym here)
