use Rattle.std.proofs.Common.{◌≡◌, ◌∙◌, ℕ, ◌+◌, ◌++◌, ◌∷◌, [], List, Ok, None, ap, map, refl, subst}
use Rattle.std.proofs.Common.{sym}
use Rattle.cir_meaning.specs.Frame.{State, uncounted}
use Rattle.cir_meaning.specs.Places.{numbers_from}
use Rattle.cir_meaning.specs.Scan.{undecided}
use Rattle.cir_meaning.specs.Steps.{undecided_cost}
use Rattle.cir_meaning.specs.Unknown.{declares, outer_assigned}
use Rattle.cir_arrays.specs.Shown.{datum_of}
use Rattle.cir_frame.specs.Shown.{state_of}
use Rattle.cir_evaluate.specs.Within.{Kept, context_at, where_at}
use Rattle.cir_assign.proofs.Stepping.{leads_refused, lists_kept}
use Rattle.cir_execute.specs.Rests.{rest_by, rest_fault}
use Rattle.cir_steps.specs.Emission.{known_in}
use Rattle.cir_steps.specs.Making.{count_of, wanted_of}
use Rattle.cir_steps.specs.Step as S
use Rattle.cir_make.specs.Steps.{elements_of}
use Rattle.cir_make.specs.Shows.{IsKept}
use Rattle.cir_body.specs.Renewed.{AreLost, AreRenewed}
use Rattle.cir_body.specs.Undone.{left_step, put_back}
use Rattle.cir_body.proofs.Leaving.{stands_left, step_left}
use Rattle.cir_body.proofs.Renewals.{kept_left}
use Rattle.cir_body.proofs.Scanning.{undecided_moves}
use Rattle.cir_body.proofs.undecided.leave.Goals as goal

pub returns-in_err-undecided-clause-leads : goal.returns-in_err-undecided-clause-leads
returns-in_err-undecided-clause-leads g c = λ m qs.
    leads_refused qs c.args.whole.now.world c.undecided.new.frame
    c.undecided.new.world c.from_residual-in_err-undecided.result _ _
    c.from_residual-in_err-undecided.ensures.1
    (c.in_err-undecided.ensures.state m qs)

pub returns-clause-leads : goal.returns-clause-leads
returns-clause-leads g c = λ m qs.
    let k = context_at c.args.here.now m in
    let spot = c.args.here.now.spot in
    let fault = rest_fault c.args.rest.now in
    let a = rest_by spot c.args.rest.now in
    let f = c.args.inside.now.frame in
    let h = c.undecided.new.frame in
    let w0 = c.args.whole.now.world in
    let w2 = c.undecided.new.world in
    let w3 = c.make_step.new.world in
    let done : undecided k spot fault a (state_of f w0 qs) ≡ Ok (state_of h w2 qs) =
    c.in_ok-undecided.ensures.state m qs in
    let same : state_of h w2 qs ≡ state_of h w3 qs =
    sym (c.in_ok-make_step.ensures.same m h qs) in (
      qs,
      done ∙ ap (λ (z : State). Ok z) same,
      lists_kept qs w0 w3 (ap (λ (y : Kept). y.constraints) (c.in_ok-make_step.ensures.keeps m)
          ∙ c.in_ok-undecided.ensures.constraints m),
    )

pub returns-clause-kept : goal.returns-clause-kept
returns-clause-kept g c = λ m qs first x steps shaded known kept es.
    let k = context_at c.args.here.now m in
    let w = where_at c.args.here.now in
    let spot = c.args.here.now.spot in
    let fault = rest_fault c.args.rest.now in
    let a = rest_by spot c.args.rest.now in
    let f = c.args.inside.now.frame in
    let h = c.undecided.new.frame in
    let w0 = c.args.whole.now.world in
    let w2 = c.undecided.new.world in
    let s = state_of h c.make_step.new.world es in
    let cells = c.make_step.new.cells in
    let made = c.make_step.new.made in
    let touched = c.in_ok-touched.ensures spot in
    let assigned : c.as_slice-assigned.result.now ≡ outer_assigned a =
    c.as_slice-assigned.ensures.value ∙ touched.assigned in
    let declared : c.as_slice-declared.result.now ≡ declares a =
    c.as_slice-declared.ensures.value ∙ touched.declared in
    let elements = c.in_ok-wanted.wanted.items in
    let wanted : map elements_of elements ≡ wanted_of (outer_assigned a) (known_in x) =
    c.in_ok-wanted.ensures w0 qs
    ∙ ap (λ (ns : List ℕ). wanted_of ns (state_of f w0 qs)) assigned
    ∙ ap (wanted_of (outer_assigned a)) (sym known) in
    let moved = undecided_moves k spot fault a (state_of f w0 qs) (state_of h w2 qs)
    (c.in_ok-undecided.ensures.state m qs) in
    let ds = map datum_of f.variables.items in
    let stands = stands_left f h w0 w2 qs x s a c.in_ok-befores.befores.items known moved refl refl
    refl
    (λ l. c.in_ok-befores.ensures l
    ∙ ap (λ (ns : List ℕ). put_back (ns ++ c.as_slice-declared.result.now) ds l) assigned
    ∙ ap (λ (ns : List ℕ). put_back (outer_assigned a ++ ns) ds l) declared) in
    let made_so = c.in_ok-make_step.ensures.made m es f first x steps s
    (undecided_cost k w a (known_in x) s) None shaded refl
    (ap uncounted (c.in_ok-make_step.ensures.same m h es))
    (rw (sym c.as_slice-3.ensures.value) at stands) kept in
    let count : c.in_ok-count.count ≡ count_of (map elements_of elements) =
    c.in_ok-count.ensures ∙ ap (λ l. count_of (map elements_of l)) c.as_slice.ensures.value in
    let one = step_left k w a s x (map elements_of c.as_slice-2.result.now)
    c.in_ok-targets.targets c.args.whole.now.made.next
    (ap (map elements_of) c.as_slice-2.ensures.value ∙ wanted)
    (c.in_ok-targets.ensures ∙ ap (numbers_from c.args.whole.now.made.next)
    (count ∙ ap count_of wanted)) kept.next in
    let stepped : IsKept first f cells made x (steps ++ left_step k w a s x ∷ []) =
    subst (λ (z : S.Step). IsKept first f cells made x (steps ++ z ∷ [])) one made_so in
    let mid = c.renew.new.variables.items in
    let put = ap (map elements_of) c.as_slice-4.ensures.value ∙ wanted in
    kept_left first f h cells mid c.lose.new.variables made c.in_ok-whole.field-0 x
    (steps ++ left_step k w a s x ∷ []) a s moved.0 moved.2
    (subst (λ (l : List S.Elements). AreRenewed l made.next cells.variables.items mid) put
    c.in_ok-whole.ensures.cells)
    (subst (λ (ns : List ℕ). AreLost ns mid c.lose.new.variables.items) declared c.lose.ensures)
    (c.in_ok-whole.ensures.next ∙ ap (λ (l : List S.Elements). made.next + count_of l) put)
    stepped
