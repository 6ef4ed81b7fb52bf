use Rattle.std.proofs.Common.{◌∙◌, ◌<◌, suc, length, take, add-one, ap, sym, arith}
use Rattle.std.specs.Prelude.{map, ◌==◌, if◌then◌else◌, slice_get}
use Rattle.std.proofs.lemmas.List.{length-map, take_all}
use Rattle.cir_ast.specs.Program.{bare_program}
use Rattle.cir_meaning.specs.Functions.{same_made, shaped_calls, elements_of, first_too_large}
use Rattle.cir_meaning.specs.Limits.{standing}
use Rattle.cir_meaning.specs.Reached.{new_ones}
use Rattle.cir_rules.specs.Queue.{calls_of}
use Rattle.cir_rules.specs.Shown.{made_of}
use Rattle.cir_rules.specs.Judged.{misfits}
use Rattle.cir_rules.proofs.Judging.{elements_more}
use Rattle.cir_rules.proofs.Reaching.{visits_more, visits_all, all_reached-is}
use Rattle.cir_rules.proofs.verdict.made_reached.Goals as goal

pub visits-preserved : goal.visits-preserved
visits-preserved c =
    let p = bare_program c.args.program.now in
    let at = c.visits.at in
    let known = map made_of c.visits.known.calls.items in
    let new = map made_of c.visit_made.new.known.calls.items in
    let one = c.in_ok-one.one in
    let so_far = first_too_large (map (elements_of p) (take at known)) in
    let lt : at < length known =
    let size = length-map c.visits.known.calls.items made_of in
    omega (arith, size, c.len.ensures) in
    record {
      misfit = rw c.and-shaped.ensures.misfit (visits_more same_made (shaped_calls p) (misfits p)
          (map made_of c.args.made.now) known _ at _ _ c.visits.invariant.misfit lt
          c.in_ok-one.ensures.more c.in_ok-one.ensures.misfit);
      elements = c.and-shaped.ensures.elements
          ∙ ap (λ n. if n == 0 then one.elements else n) c.visits.invariant.elements
          ∙ ap (λ n. if standing so_far == 0 then n else standing so_far)
          c.in_ok-one.ensures.elements
          ∙ sym (elements_more p known
          (new_ones same_made known (calls_of (shaped_calls p) (slice_get known at))) at lt)
          ∙ sym (ap (λ n. standing (first_too_large (map (elements_of p) (take n new))))
          (add-one at)
          ∙ ap (λ k. standing (first_too_large (map (elements_of p) (take (suc at) k))))
          c.in_ok-one.ensures.more);
    }

pub returns-clause-misfit : goal.returns-clause-misfit
returns-clause-misfit c =
    let p = bare_program c.args.program.now in
    visits_all same_made (shaped_calls p) (misfits p) (map made_of c.args.made.now)
    (map made_of c.visits.known.calls.items) c.visits.at _ c.visits.invariant.misfit
    (let size = length-map c.visits.known.calls.items made_of in omega (arith, size, c.len.ensures))
    (omega (arith, c.visits.auto.at-fits))

pub returns-clause-elements : goal.returns-clause-elements
returns-clause-elements c =
    let p = bare_program c.args.program.now in
    let known = map made_of c.visits.known.calls.items in
    c.visits.invariant.elements
    ∙ ap (λ k. standing (first_too_large (map (elements_of p) k)))
    (take_all c.visits.at known
    (let size = length-map c.visits.known.calls.items made_of in omega (arith, size, c.len.ensures))
    ∙ sym (all_reached-is same_made (shaped_calls p) (map made_of c.args.made.now) known c.visits.at
    c.visits.invariant.misfit.known_is
    (let size = length-map c.visits.known.calls.items made_of in omega (arith, size, c.len.ensures))
    (omega (arith, c.visits.auto.at-fits))))
