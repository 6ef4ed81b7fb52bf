use Rattle.std.proofs.Common.{◌≡◌, ◌∙◌, ◌++◌, ◌∷◌, [], ap, sym, subst, refl, arith, ℕ, List, true}
use Rattle.std.proofs.Common.{Ok, false}
use Rattle.cir_ast.specs.Tree.{Left, as_accessors, bare}
use Rattle.cir_meaning.specs.Arrays.{same_dims, Whole}
use Rattle.cir_meaning.specs.Frame.{State, uncounted, entry_at, is_fed}
use Rattle.cir_meaning.specs.Source.{Equation}
use Rattle.cir_meaning.specs.Writing.{write_elements, SignalAssignment, Target, part_signals}
use Rattle.cir_meaning.specs.Writing.{signals_of}
use Rattle.cir_meaning.specs.Steps.{signal_cost}
use Rattle.cir_arrays.specs.Stopped.{IsRefusal}
use Rattle.cir_arrays.specs.Shown.{datum_of}
use Rattle.cir_frame.specs.Shown.{state_of}
use Rattle.cir_frame.specs.Targets.{run_of}
use Rattle.cir_cost.specs.Adds.{IsCost}
use Rattle.cir_evaluate.specs.Within.{Kept, context_at, where_at}
use Rattle.cir_assign.specs.Finds.{IsFound}
use Rattle.cir_assign.specs.Leads.{Lists}
use Rattle.cir_arrays.proofs.Exits.{exits}
use Rattle.cir_assign.proofs.Assembled.{nothing_wired, places_none, signal_cost_same}
use Rattle.cir_assign.proofs.Assembled.{signal_differs, signal_goes, target_refused, value_refused}
use Rattle.cir_assign.proofs.Assembled.{wired_some}
use Rattle.cir_assign.proofs.Chained.{uncounted_kept}
use Rattle.cir_assign.proofs.Stepping.{leads_as, leads_behind, leads_next, leads_refused}
use Rattle.cir_assign.proofs.Stepping.{leads_step, lists_kept}
use Rattle.cir_meaning.specs.Evaluate.{value_in}
use Rattle.std.specs.Prelude.{slice_get}
use Rattle.cir_arrays.specs.Counted.{counts_of}
use Rattle.cir_steps.specs.Emission.{known_in, with_state}
use Rattle.cir_steps.specs.Making.{wiring}
use Rattle.cir_steps.specs.Step.{Step}
use Rattle.cir_make.specs.Shows.{IsKept}
use Rattle.cir_write.specs.Waiting.{wired_at}
use Rattle.cir_write.proofs.Freeing.{kept_written, was_made}
use Rattle.cir_make.proofs.Leading.{always_ok, kept_state, none_more}
use Rattle.cir_write.proofs.Waits.{elements_leave}
use Rattle.cir_write.proofs.Wired.{assignment_is, elements_are, run_none, step_with, wired_by}
use Rattle.cir_write.proofs.Wired.{wired_is}
use Rattle.cir_write.proofs.wiring.wire.Goals as goal

pub returns-in_err-value-clause-leads : goal.returns-in_err-value-clause-leads
returns-in_err-value-clause-leads g c = λ m name qs shaded.
    leads_refused qs c.args.whole.now.world c.args.inside.now.frame c.datum.new.world
    c.from_residual.result _ _
    c.from_residual.ensures.1
    (value_refused (context_at c.args.here.now m) (where_at c.args.here.now)
    (Left name c.args.w.now.meant (as_accessors c.args.w.now.accessors.now) c.args.w.now.arrow
    (bare c.args.w.now.value.now)) c.args.w.now.meant
    (as_accessors c.args.w.now.accessors.now) c.args.w.now.arrow (bare c.args.w.now.value.now)
    (state_of c.args.inside.now.frame c.args.whole.now.world qs) _
    (rw shaded at (c.in_err-value.ensures.value m qs)))

pub returns-in_err-target-clause-leads : goal.returns-in_err-target-clause-leads
returns-in_err-target-clause-leads g c = λ m name qs shaded.
    leads_refused qs c.args.whole.now.world c.args.inside.now.frame c.target_in.new.world
    c.from_residual-in_err-target.result _ _ c.from_residual-in_err-target.ensures.1
    (target_refused (context_at c.args.here.now m) (where_at c.args.here.now)
    (Left name c.args.w.now.meant (as_accessors c.args.w.now.accessors.now) c.args.w.now.arrow
    (bare c.args.w.now.value.now))
    c.args.w.now.meant (as_accessors c.args.w.now.accessors.now) c.args.w.now.arrow
    (bare c.args.w.now.value.now) (state_of c.args.inside.now.frame c.args.whole.now.world qs) _
    (datum_of c.in_ok-value.value) (state_of c.args.inside.now.frame c.datum.new.world qs)
    (rw shaded at (c.in_ok-value.ensures.value m qs))
    (c.in_err-target.ensures.value m qs shaded))

pub returns-then-not-same_dims-clause-leads : goal.returns-then-not-same_dims-clause-leads
returns-then-not-same_dims-clause-leads g c = λ m name qs shaded.
    let found = c.in_ok-target.ensures.value m qs shaded in
    let differs : same_dims found.0.reach.left (datum_of c.in_ok-value.value).dims ≡ _ =
    sym (rw (c.as_slice.ensures.value, found.2.target.reach.left, c.dims.ensures)
    at c.same_dims.ensures) ∙ c.if-not-same_dims.true in
    subst (λ z. IsRefusal c.refused.result z)
    (sym (signal_differs (context_at c.args.here.now m) (where_at c.args.here.now)
    (Left name c.args.w.now.meant (as_accessors c.args.w.now.accessors.now) c.args.w.now.arrow
    (bare c.args.w.now.value.now))
    c.args.w.now.meant (as_accessors c.args.w.now.accessors.now) c.args.w.now.arrow
    (bare c.args.w.now.value.now) (state_of c.args.inside.now.frame c.args.whole.now.world qs)
    (datum_of c.in_ok-value.value) (state_of c.args.inside.now.frame c.datum.new.world qs)
    (state_of c.args.inside.now.frame c.target_in.new.world qs) found.0
    (rw shaded at (c.in_ok-value.ensures.value m qs)) found.1 differs)) c.refused.ensures

pub returns-then-count-eq0-clause-leads : goal.returns-then-count-eq0-clause-leads
returns-then-count-eq0-clause-leads g c = λ m name qs shaded.
    let k = context_at c.args.here.now m in
    let w = where_at c.args.here.now in
    let accessors = as_accessors c.args.w.now.accessors.now in
    let e = bare c.args.w.now.value.now in
    let written = Left name c.args.w.now.meant accessors c.args.w.now.arrow e in
    let w0 = c.args.whole.now.world in
    let w2 = c.target_in.new.world in
    let f = c.args.inside.now.frame in
    let s = state_of f w0 qs in
    let found = c.in_ok-target.ensures.value m qs shaded in
    let same : same_dims found.0.reach.left (datum_of c.in_ok-value.value).dims ≡ true =
    sym (rw (c.as_slice.ensures.value, found.2.target.reach.left, c.dims.ensures)
    at c.same_dims.ensures) ∙ c.if-not-same_dims.false in
    let goes = signal_goes k w written c.args.w.now.meant accessors c.args.w.now.arrow e s
    (datum_of c.in_ok-value.value) (state_of f c.datum.new.world qs) (state_of f w2 qs) found.0
    (rw shaded at (c.in_ok-value.ensures.value m qs)) found.1 same in
    let none : (run_of c.in_ok-target.target.reach.part).1 ≡ 0 =
    sym (ap (λ (r : ℕ × ℕ). r.1) c.run-count.ensures) ∙ c.if-count-eq0.true in (
      qs,
      goes ∙ nothing_wired k w c.args.w.now.arrow (signal_cost k w written accessors e s) found.0
          (datum_of c.in_ok-value.value) (state_of f w2 qs)
          (places_none (state_of f w2 qs).frame c.in_ok-target.target found.0 found.2 none),
      lists_kept qs w0 w2 (ap (λ (x : Kept). x.constraints) (c.in_ok-target.ensures.keeps m)
          ∙ ap (λ (x : Kept). x.constraints) (c.in_ok-value.ensures.keeps m)),
    )

pub returns-in_err-write_signal-clause-leads : goal.returns-in_err-write_signal-clause-leads
returns-in_err-write_signal-clause-leads g c = λ m name qs shaded.
    let k = context_at c.args.here.now m in
    let w = where_at c.args.here.now in
    let accessors = as_accessors c.args.w.now.accessors.now in
    let e = bare c.args.w.now.value.now in
    let written = Left name c.args.w.now.meant accessors c.args.w.now.arrow e in
    let w0 = c.args.whole.now.world in
    let w2 = c.target_in.new.world in
    let f = c.args.inside.now.frame in
    let s = state_of f w0 qs in
    let found = c.in_ok-target.ensures.value m qs shaded in
    let same : same_dims found.0.reach.left (datum_of c.in_ok-value.value).dims ≡ true =
    sym (rw (c.as_slice.ensures.value, found.2.target.reach.left, c.dims.ensures)
    at c.same_dims.ensures) ∙ c.if-not-same_dims.false in
    let goes = signal_goes k w written c.args.w.now.meant accessors c.args.w.now.arrow e s
    (datum_of c.in_ok-value.value) (state_of f c.datum.new.world qs) (state_of f w2 qs) found.0
    (rw shaded at (c.in_ok-value.ensures.value m qs)) found.1 same in
    let w3 = c.wiring_cost.new.world in
    let alike : state_of f w3 qs ≡ state_of f w2 qs =
    c.in_ok-cost.ensures.same m f qs ∙ c.in_ok-plain_step.ensures.same m f qs in
    let there : IsFound (state_of f w3 qs).frame c.in_ok-target.target found.0 =
    subst (λ (z : State). IsFound z.frame c.in_ok-target.target found.0) (sym alike) found.2 in
    let refuses = c.in_err-write_signal.ensures k found.0 qs refl there in
    leads_refused qs w0 c.write_signal.new.frame c.write_signal.new.world
    c.from_residual-in_err-write_signal.result _ _ c.from_residual-in_err-write_signal.ensures.1
    (subst (λ z. IsRefusal c.in_err-write_signal.field-0.0 z) (sym goes)
    (exits _ (write_elements k w c.args.w.now.arrow found.0 found.0.reach.places
    (datum_of c.in_ok-value.value).items (state_of f w2 qs)) _
    (subst (λ (z : State). IsRefusal c.in_err-write_signal.field-0.0
    (write_elements k w c.args.w.now.arrow found.0 found.0.reach.places
    (datum_of c.in_ok-value.value).items z)) alike refuses)))

pub returns-clause-leads : goal.returns-clause-leads
returns-clause-leads g c = λ m name qs shaded.
    let k = context_at c.args.here.now m in
    let w = where_at c.args.here.now in
    let accessors = as_accessors c.args.w.now.accessors.now in
    let e = bare c.args.w.now.value.now in
    let written = Left name c.args.w.now.meant accessors c.args.w.now.arrow e in
    let w0 = c.args.whole.now.world in
    let w2 = c.target_in.new.world in
    let f = c.args.inside.now.frame in
    let s = state_of f w0 qs in
    let found = c.in_ok-target.ensures.value m qs shaded in
    let same : same_dims found.0.reach.left (datum_of c.in_ok-value.value).dims ≡ true =
    sym (rw (c.as_slice.ensures.value, found.2.target.reach.left, c.dims.ensures)
    at c.same_dims.ensures) ∙ c.if-not-same_dims.false in
    let goes = signal_goes k w written c.args.w.now.meant accessors c.args.w.now.arrow e s
    (datum_of c.in_ok-value.value) (state_of f c.datum.new.world qs) (state_of f w2 qs) found.0
    (rw shaded at (c.in_ok-value.ensures.value m qs)) found.1 same in
    let w3 = c.wiring_cost.new.world in
    let w4 = c.write_signal.new.world in
    let h = c.write_signal.new.frame in
    let alike : state_of f w3 qs ≡ state_of f w2 qs =
    c.in_ok-cost.ensures.same m f qs ∙ c.in_ok-plain_step.ensures.same m f qs in
    let there : IsFound (state_of f w3 qs).frame c.in_ok-target.target found.0 =
    subst (λ (z : State). IsFound z.frame c.in_ok-target.target found.0) (sym alike) found.2 in
    let went = c.in_ok-write_signal.ensures k found.0 qs refl there in
    let cost = signal_cost k w written accessors e s in
    let paid : IsCost c.in_ok-cost.cost cost =
    subst (λ d. IsCost c.in_ok-cost.cost d)
    (signal_cost_same k w name c.args.w.now.meant c.args.w.now.arrow accessors e
    (state_of f c.plain_step.new.world qs) s
    (ap uncounted (c.in_ok-plain_step.ensures.same m f qs)
    ∙ (uncounted_kept f c.datum.new.world w2 qs (c.in_ok-target.ensures.keeps m)
    ∙ uncounted_kept f w0 c.datum.new.world qs (c.in_ok-value.ensures.keeps m))))
    (c.in_ok-cost.ensures.cost m name qs shaded) in
    let some : (run_of c.in_ok-target.target.reach.part).1 ≡ 0 → ⊥ =
    λ z. omega (arith, c.if-count-eq0.false, ap (λ (r : ℕ × ℕ). r.1) c.run-count.ensures, z) in
    leads_behind qs w0 w3 h c.stepped.new.world c.stepped.result _ _ goes
    (ap (λ (x : Kept). x.constraints) (c.in_ok-cost.ensures.keeps m)
    ∙ (ap (λ (x : Kept). x.constraints) (c.in_ok-plain_step.ensures.keeps m)
    ∙ (ap (λ (x : Kept). x.constraints) (c.in_ok-target.ensures.keeps m)
    ∙ ap (λ (x : Kept). x.constraints) (c.in_ok-value.ensures.keeps m))))
    (leads_next qs w3 w4 h h c.stepped.new.world c.stepped.result _ _
    (subst (λ (z : State). (es : List Equation)
    × (write_elements k w c.args.w.now.arrow found.0 found.0.reach.places
    (datum_of c.in_ok-value.value).items z ≡ Ok (state_of h w4 es)) × Lists qs w3 es w4) alike went)
    (λ es. leads_as es w4 h c.stepped.new.world c.stepped.result _ _
    (wired_some k w cost (state_of f w2 qs).frame c.in_ok-target.target found.0 (state_of h w4 es)
    found.2 some)
    (leads_step es w4 h c.stepped.new.world c.stepped.result _
    (c.stepped.ensures.step m.call m.make cost h es paid)
    (ap (λ (x : Kept). x.constraints) c.stepped.ensures.keeps))))

pub returns-then-count-eq0-clause-kept : goal.returns-then-count-eq0-clause-kept
returns-then-count-eq0-clause-kept g c = λ m name qs first x steps a shaded known assigned kept es.
    let k = context_at c.args.here.now m in
    let w = where_at c.args.here.now in
    let z = c.args.w.now in
    let accessors = as_accessors z.accessors.now in
    let e = bare z.value.now in
    let written = Left name z.meant accessors z.arrow e in
    let f = c.args.inside.now.frame in
    let w2 = c.target_in.new.world in
    let found = c.in_ok-target.ensures.value m qs shaded in
    let same : same_dims found.0.reach.left (datum_of c.in_ok-value.value).dims ≡ true =
    sym (rw (c.as_slice.ensures.value, found.2.target.reach.left, c.dims.ensures)
    at c.same_dims.ensures) ∙ c.if-not-same_dims.false in
    let none : (run_of c.in_ok-target.target.reach.part).1 ≡ 0 =
    sym (ap (λ (r : ℕ × ℕ). r.1) c.run-count.ensures) ∙ c.if-count-eq0.true in
    let places : found.0.reach.places ≡ [] =
    places_none (state_of f w2 qs).frame c.in_ok-target.target found.0 found.2 none in
    let is : a ≡ record {
      value = datum_of c.in_ok-value.value;
      target = found.0;
      state = state_of
          f w2 qs;
    } =
    assignment_is k w z.meant accessors e (known_in x) (state_of f c.datum.new.world qs)
    (state_of f w2 qs) (datum_of c.in_ok-value.value) found.0 a
    (ap (value_in k w false Whole e) known ∙ rw shaded at (c.in_ok-value.ensures.value m qs))
    found.1 same assigned in
    let at_places : a.target.reach.places ≡ [] =
    ap (λ (b : SignalAssignment). b.target.reach.places) is ∙ places in
    let s = state_of f w2 es in
    subst (λ (l : List Step). IsKept first f c.args.inside.now.cells c.args.whole.now.made
    (with_state s x) (steps ++ l))
    (sym (ap (λ (ps : List ℕ). wired_at k w written accessors e a s ps x) at_places))
    (none_more (λ l. IsKept first f c.args.inside.now.cells c.args.whole.now.made (with_state s x)
    l) steps (kept_state first f c.args.inside.now.cells c.args.whole.now.made x s steps kept))

pub returns-clause-kept : goal.returns-clause-kept
returns-clause-kept g c = λ m name qs first x steps a shaded known assigned kept.
    always_ok c.stepped.result _ (λ es.
    let k = context_at c.args.here.now m in
    let w = where_at c.args.here.now in
    let z = c.args.w.now in
    let accessors = as_accessors z.accessors.now in
    let e = bare z.value.now in
    let written = Left name z.meant accessors z.arrow e in
    let f = c.args.inside.now.frame in
    let h = c.write_signal.new.frame in
    let w0 = c.args.whole.now.world in
    let w1 = c.datum.new.world in
    let w2 = c.target_in.new.world in
    let w3 = c.wiring_cost.new.world in
    let w4 = c.write_signal.new.world in
    let t = c.in_ok-target.target in
    let found = c.in_ok-target.ensures.value m qs shaded in
    let same : same_dims found.0.reach.left (datum_of c.in_ok-value.value).dims ≡ true =
    sym (rw (c.as_slice.ensures.value, found.2.target.reach.left, c.dims.ensures)
    at c.same_dims.ensures) ∙ c.if-not-same_dims.false in
    let is : a ≡ record {
      value = datum_of c.in_ok-value.value;
      target = found.0;
      state = state_of f w2 qs;
    } =
    assignment_is k w z.meant accessors e (known_in x) (state_of f w1 qs) (state_of f w2 qs)
    (datum_of c.in_ok-value.value) found.0 a
    (ap (value_in k w false Whole e) known ∙ rw shaded at (c.in_ok-value.ensures.value m qs))
    found.1 same assigned in
    let alike : state_of f w3 qs ≡ state_of f w2 qs =
    c.in_ok-cost.ensures.same m f qs ∙ c.in_ok-plain_step.ensures.same m f qs in
    let there : IsFound (state_of f w3 qs).frame t found.0 =
    subst (λ (z : State). IsFound z.frame t found.0) (sym alike) found.2 in
    let went = c.in_ok-write_signal.ensures k found.0 qs refl there in
    let counted : uncounted (known_in x) ≡ uncounted (state_of f w2 qs) =
    ap uncounted known ∙ sym (uncounted_kept f w1 w2 qs (c.in_ok-target.ensures.keeps m)
    ∙ uncounted_kept f w0 w1 qs (c.in_ok-value.ensures.keeps m)) in
    let some : (run_of t.reach.part).1 ≡ 0 → ⊥ =
    λ n. omega (arith, c.if-count-eq0.false, ap (λ (r : ℕ × ℕ). r.1) c.run-count.ensures, n) in
    let made = c.in_ok-plain_step.ensures.made m qs first x steps
    (signal_cost k w written accessors e (known_in x)) shaded counted kept in
    let targets = c.in_ok-targets.ensures x (run_of t.reach.part).0 (run_of t.reach.part).1
    record { own = kept.own; parts = kept.parts } refl in
    let one : wiring k w written accessors e a x ≡ _ =
    wired_is k w written accessors e x (datum_of c.in_ok-value.value) found.0 t
    (state_of f w2 qs) a is found.2.target.same
    (elements_are k w z.arrow f (counts_of w3.added) t found.0
    (datum_of c.in_ok-value.value).items (state_of f w3 qs) (state_of h w4 went.0) refl there
    went.1) in
    let u = state_of h c.stepped.new.world es in
    let cells = c.plain_step.new.cells in
    let new = c.plain_step.new.made in
    let first_step : IsKept first f cells new x
    (steps ++ wiring k w written accessors e a x ∷ []) =
    subst (λ (s : Step). IsKept first f cells new x (steps ++ s ∷ [])) (sym one)
    (subst (λ ts. IsKept first f cells new x (steps ++ step_with k w written accessors e x ts ∷ []))
    targets made) in
    let leaves = elements_leave k w z.arrow found.0 there.target.entry found.0.reach.places
    (datum_of c.in_ok-value.value).items (state_of f w3 qs) (state_of h w4 went.0)
    (ap (λ (y : Target). entry_at (signals_of y.part (state_of f w3 qs).frame) y.number)
    there.target.same ∙ there.target.there) went.1 in
    let behind : IsKept first h cells new (with_state u x)
    (steps ++ wiring k w written accessors e a x ∷ []) =
    kept_state first h cells new x u _
    (kept_written first f h cells new x _ (state_of f w3 qs) (state_of h w4 went.0) refl refl refl
    refl leaves first_step) in
    let fed = c.was_fed-was_fed.ensures in
    let free = c.in_ok-free.ensures first new (with_state u x)
    (steps ++ wiring k w written accessors e a x ∷ []) refl
    (was_made first f cells new x (with_state u x) _ t.part c.was_fed-was_fed.result refl fed
    first_step) behind in
    wired_by k w written accessors e x a u steps t.part c.was_fed-was_fed.result
    (ap (λ (b : SignalAssignment). b.target.part) is
    ∙ ap (λ (y : Target). y.part) found.2.target.same)
    (λ j at. fed j at ∙ ap (λ (s : State). is_fed (part_signals (slice_get s.frame.parts j)))
    (sym known))
    (λ none. some (run_none (state_of f w2 qs).frame t found.0 found.2
    (sym (ap (λ (b : SignalAssignment). b.target.reach.places) is) ∙ none)))
    (λ l. IsKept first h c.free.new.cells new (with_state u x) l) free)
