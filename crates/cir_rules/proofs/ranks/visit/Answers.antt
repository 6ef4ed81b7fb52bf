use Rattle.std.proofs.Common.{◌≡◌, ◌∙◌, ap, sym, append-nil}
use Rattle.std.specs.Prelude.{map, not, ◌==◌, flat_map}
use Rattle.std.specs.List.{list_any}
use Rattle.cir_ast.specs.Program.{Program, bare_program}
use Rattle.cir_ast.specs.Tree.{bare}
use Rattle.cir_meaning.specs.Reached as R
use Rattle.cir_meaning.specs.Texts.{calls_of, calls_in, all_returned}
use Rattle.cir_rules.specs.Queue as Q
use Rattle.cir_texts.specs.Shown.{wanted_of, called_of, Shows}
use Rattle.cir_rules.specs.Ranked.{ranked_of, ranks_in, followed}
use Rattle.cir_texts.specs.declared.texts.Texts.{Texts}
use Rattle.cir_rules.proofs.Reaching.{found_at, not_found}
use Rattle.cir_rules.proofs.ranks.visit.Goals as goal

returns_is : (p : Program) (c : R.RankedCall) (t : Texts) → Shows t (R.body_of p c.function)
    → list_any (λ e. not (R.rank_of (ranks_in c.ranks t) e == 0))
    (map (λ e. bare e.now) t.returned.items) ≡ R.returns_array p c
returns_is p c t s =
    ap (λ es. list_any (λ e. not (R.rank_of (ranks_in c.ranks t) e == 0)) es) s.returned
    ∙ ap (λ vs. list_any (λ e. not (R.rank_of (R.variable_rank c.ranks vs) e == 0))
    (all_returned (R.body_of p c.function))) s.variables

calls_are : (p : Program) (c : R.RankedCall) (t : Texts) → Shows t (R.body_of p c.function)
    → followed (ranks_in c.ranks t)
    (flat_map (λ x. calls_of x.expr) (map wanted_of t.wanted.items)) ≡ R.ranked_calls p c
calls_are p c t s =
    ap (λ ws. followed (ranks_in c.ranks t) (flat_map (λ x. calls_of x.expr) ws)) s.wanted
    ∙ ap (λ vs. followed (R.variable_rank c.ranks vs) (calls_in (R.body_of p c.function)))
    s.variables

pub returns-in_default-clause-more : goal.returns-in_default-clause-more
returns-in_default-clause-more c =
    let known = map ranked_of c.args.known.now.items in
    sym (ap (λ o. Q.with_new R.same_call known
    (Q.calls_of (R.ranked_calls (bare_program c.args.program.now)) o))
    (not_found ranked_of c.args.known.now.items c.deref.result.now c.args.at c.deref.ensures.value
    c.in_default.ensures.lookup.3)
    ∙ append-nil known)

pub returns-clause-told : goal.returns-clause-told
returns-clause-told c =
    let p = bare_program c.args.program.now in
    let call = c.in_ok-call.call in
    let texts = c.in_ok-texts.texts in
    let here = found_at ranked_of c.args.known.now.items c.deref.result.now c.args.at
    c.in-Some.call.now c.deref.ensures.value c.in-Some.ensures.lookup.3.0
    c.in-Some.ensures.lookup.1 in
    c.returns_array.ensures
    ∙ ap (λ ranks. list_any (λ e. not (R.rank_of (ranks_in ranks texts) e == 0))
    (map (λ e. bare e.now) texts.returned.items)) c.as_slice-ranks.ensures.value
    ∙ returns_is p (ranked_of call) texts c.in_ok-texts.ensures
    ∙ ap (R.returns_array p) c.in_ok-call.ensures
    ∙ ap (Q.told (R.returns_array p)) (sym here)

pub returns-clause-more : goal.returns-clause-more
returns-clause-more c =
    let p = bare_program c.args.program.now in
    let call = c.in_ok-call.call in
    let texts = c.in_ok-texts.texts in
    let known = map ranked_of c.args.known.now.items in
    let here = found_at ranked_of c.args.known.now.items c.deref.result.now c.args.at
    c.in-Some.call.now c.deref.ensures.value c.in-Some.ensures.lookup.3.0
    c.in-Some.ensures.lookup.1 in
    c.in_ok-add_ranked.ensures
    ∙ ap (λ ranks. Q.with_new R.same_call known (followed (ranks_in ranks texts)
    (map called_of c.as_slice.result.now))) c.as_slice-ranks.ensures.value
    ∙ ap (λ calls. Q.with_new R.same_call known (followed (ranks_in call.ranks.items texts) calls))
    (ap (map called_of) c.as_slice.ensures.value ∙ c.in_ok-calls.ensures)
    ∙ ap (Q.with_new R.same_call known) (calls_are p (ranked_of call) texts c.in_ok-texts.ensures
    ∙ ap (R.ranked_calls p) c.in_ok-call.ensures
    ∙ ap (Q.calls_of (R.ranked_calls p)) (sym here))
