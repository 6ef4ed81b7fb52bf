use Rattle.std.proofs.Common.{◌∙◌, ap, sym, append-nil}
use Rattle.std.specs.Prelude.{map}
use Rattle.cir_ast.specs.Program.{bare_program}
use Rattle.cir_ast.specs.Tree.{bare_variable}
use Rattle.cir_meaning.specs.Functions as F
use Rattle.cir_rules.specs.Queue as Q
use Rattle.cir_texts.specs.Shown.{called_of}
use Rattle.cir_rules.specs.Shown.{made_of}
use Rattle.cir_rules.specs.Shaped.{shaped}
use Rattle.cir_rules.proofs.Reaching.{found_at, not_found}
use Rattle.cir_rules.proofs.Called.{calls_are}
use Rattle.cir_rules.proofs.verdict.add_called.Goals as goal

pub returns-in_default : goal.returns-in_default
returns-in_default c =
    let known = map made_of c.args.known.now.calls.items in
    sym (ap (λ o. Q.with_new F.same_made known
    (Q.calls_of (F.shaped_calls (bare_program c.args.program.now)) o))
    (not_found made_of c.args.known.now.calls.items c.deref.result.now c.args.at
    c.deref.ensures.value c.in_default.ensures.lookup.3)
    ∙ append-nil known)

pub returns : goal.returns
returns c =
    let p = bare_program c.args.program.now in
    let call = c.in_ok-call.call in
    let t = c.in_ok-texts.texts in
    let known = map made_of c.args.known.now.calls.items in
    let here = found_at made_of c.args.known.now.calls.items c.deref.result.now c.args.at
    c.in-Some.call.now c.deref.ensures.value c.in-Some.ensures.lookup.3.0
    c.in-Some.ensures.lookup.1 in
    c.in_ok-add_calls.ensures
    ∙ ap (λ l. Q.with_new F.same_made known (shaped (F.variable_dims (map (λ d. d.items) l)
    (map (λ v. bare_variable v.now) t.variables.items)) (map called_of c.as_slice-2.result.now)))
    c.as_slice.ensures.value
    ∙ ap (λ calls. Q.with_new F.same_made known (shaped (F.variable_dims (made_of call).shapes
    (map (λ v. bare_variable v.now) t.variables.items)) calls))
    (ap (map called_of) c.as_slice-2.ensures.value ∙ c.in_ok-calls.ensures)
    ∙ ap (Q.with_new F.same_made known) (calls_are p (made_of call) t c.in_ok-texts.ensures
    ∙ ap (F.shaped_calls p) c.in_ok-call.ensures
    ∙ ap (Q.calls_of (F.shaped_calls p)) (sym here))
