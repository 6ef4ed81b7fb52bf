use Rattle.std.proofs.Common.{◌≡◌, ◌∙◌, ◌+◌, ap, sym, append-nil}
use Rattle.std.specs.Prelude.{map, flat_map, not, sum_by}
use Rattle.cir_ast.specs.Program.{Program, bare_program}
use Rattle.cir_ast.specs.Tree.{bare_variable, bare_assign}
use Rattle.cir_meaning.specs.Costs.{Made}
use Rattle.cir_meaning.specs.Functions as F
use Rattle.cir_meaning.specs.Limits.{standing, size_of}
use Rattle.cir_meaning.specs.Reached.{body_of}
use Rattle.cir_meaning.specs.Texts.{calls_of, calls_in, all_wanted, all_variables}
use Rattle.cir_meaning.specs.Writing.{plain}
use Rattle.cir_rules.specs.Queue as Q
use Rattle.cir_texts.specs.Shown.{wanted_of, called_of, Shows}
use Rattle.cir_rules.specs.Shown.{made_of}
use Rattle.cir_rules.specs.Shaped.{shaped, fits_all, written_size}
use Rattle.cir_rules.specs.Judged.{misfits, too_many, too_large}
use Rattle.cir_texts.specs.declared.texts.Texts.{Texts}
use Rattle.cir_rules.proofs.Reaching.{found_at, not_found}
use Rattle.cir_rules.proofs.Called.{calls_are}
use Rattle.cir_rules.proofs.Judging.{too_many_stands}
use Rattle.cir_rules.proofs.verdict.visit_made.Goals as goal

fits_is : (p : Program) (m : Made) (t : Texts) → Shows t (body_of p m.function)
    → fits_all (F.variable_dims m.shapes (map (λ v. bare_variable v.now) t.variables.items))
    (map wanted_of t.wanted.items) (map (λ a. plain (bare_assign a.now)) t.assigns.items)
    (map (λ v. bare_variable v.now) t.variables.items)
    ≡ F.body_fits (F.call_dims p m) (body_of p m.function)
fits_is p m t s =
    ap (λ vs. fits_all (F.variable_dims m.shapes vs) (map wanted_of t.wanted.items)
    (map (λ a. plain (bare_assign a.now)) t.assigns.items) vs) s.variables
    ∙ ap (λ ws. fits_all (F.call_dims p m) ws
    (map (λ a. plain (bare_assign a.now)) t.assigns.items) (all_variables (body_of p m.function)))
    s.wanted
    ∙ ap (λ assigns. fits_all (F.call_dims p m) (all_wanted (body_of p m.function)) assigns
    (all_variables (body_of p m.function))) s.assigns

pub returns-in_default-clause-more : goal.returns-in_default-clause-more
returns-in_default-clause-more c =
    let known = map made_of c.args.known.now.calls.items in
    sym (ap (λ o. Q.with_new F.same_made known
    (Q.calls_of (F.shaped_calls (bare_program c.args.program.now)) o))
    (not_found made_of c.args.known.now.calls.items c.deref.result.now c.args.at
    c.deref.ensures.value c.in_default.ensures.lookup.3)
    ∙ append-nil known)

pub returns-clause-misfit : goal.returns-clause-misfit
returns-clause-misfit c =
    let p = bare_program c.args.program.now in
    let call = c.in_ok-call.call in
    let t = c.in_ok-texts.texts in
    let here = found_at made_of c.args.known.now.calls.items c.deref.result.now c.args.at
    c.in-Some.call.now c.deref.ensures.value c.in-Some.ensures.lookup.3.0
    c.in-Some.ensures.lookup.1 in
    ap not (c.in_ok-fits.ensures
    ∙ ap (λ l. fits_all (F.variable_dims (map (λ d. d.items) l)
    (map (λ v. bare_variable v.now) t.variables.items)) (map wanted_of t.wanted.items)
    (map (λ a. plain (bare_assign a.now)) t.assigns.items)
    (map (λ v. bare_variable v.now) t.variables.items)) c.as_slice.ensures.value
    ∙ fits_is p (made_of call) t c.in_ok-texts.ensures)
    ∙ ap (misfits p) c.in_ok-call.ensures ∙ ap (Q.told (misfits p)) (sym here)

pub returns-clause-elements : goal.returns-clause-elements
returns-clause-elements c =
    let p = bare_program c.args.program.now in
    let call = c.in_ok-call.call in
    let t = c.in_ok-texts.texts in
    let here = found_at made_of c.args.known.now.calls.items c.deref.result.now c.args.at
    c.in-Some.call.now c.deref.ensures.value c.in-Some.ensures.lookup.3.0
    c.in-Some.ensures.lookup.1 in
    c.if_too_many.ensures
    ∙ ap too_many (c.in_ok-count.ensures
    ∙ ap (λ l. standing (sum_by size_of (map (λ d. d.items) l)
    + sum_by written_size (map (λ v. bare_variable v.now) t.variables.items)))
    c.as_slice.ensures.value
    ∙ ap (λ vs. standing (sum_by size_of (made_of call).shapes + sum_by written_size vs))
    c.in_ok-texts.ensures.variables)
    ∙ too_many_stands (F.elements_of p (made_of call))
    ∙ ap (λ m. standing (too_many (F.elements_of p m))) c.in_ok-call.ensures
    ∙ ap (λ o. standing (too_large p o)) (sym here)

pub returns-clause-more : goal.returns-clause-more
returns-clause-more c =
    let p = bare_program c.args.program.now in
    let call = c.in_ok-call.call in
    let t = c.in_ok-texts.texts in
    let known = map made_of c.args.known.now.calls.items in
    let here = found_at made_of c.args.known.now.calls.items c.deref.result.now c.args.at
    c.in-Some.call.now c.deref.ensures.value c.in-Some.ensures.lookup.3.0
    c.in-Some.ensures.lookup.1 in
    c.in_ok-add_calls.ensures
    ∙ ap (λ l. Q.with_new F.same_made known (shaped (F.variable_dims (map (λ d. d.items) l)
    (map (λ v. bare_variable v.now) t.variables.items)) (map called_of c.as_slice-2.result.now)))
    c.as_slice.ensures.value
    ∙ ap (λ calls. Q.with_new F.same_made known (shaped (F.variable_dims (made_of call).shapes
    (map (λ v. bare_variable v.now) t.variables.items)) calls))
    (ap (map called_of) c.as_slice-2.ensures.value ∙ c.in_ok-calls.ensures)
    ∙ ap (Q.with_new F.same_made known) (calls_are p (made_of call) t c.in_ok-texts.ensures
    ∙ ap (F.shaped_calls p) c.in_ok-call.ensures
    ∙ ap (Q.calls_of (F.shaped_calls p)) (sym here))
