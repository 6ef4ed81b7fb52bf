use Rattle.std.proofs.Common.{◌≡◌, ◌∙◌, ap, sym, subst, refl, arith, ℕ, List, true}
use Rattle.std.proofs.Common.{Ok}
use Rattle.cir_ast.specs.Tree.{Left, as_accessors, bare}
use Rattle.cir_meaning.specs.Arrays.{same_dims}
use Rattle.cir_meaning.specs.Frame.{State}
use Rattle.cir_meaning.specs.Source.{Equation}
use Rattle.cir_meaning.specs.Writing.{write_elements}
use Rattle.cir_meaning.specs.Steps.{signal_cost}
use Rattle.cir_arrays.specs.Stopped.{IsRefusal}
use Rattle.cir_arrays.specs.Shown.{datum_of}
use Rattle.cir_frame.specs.Shown.{state_of}
use Rattle.cir_frame.specs.Targets.{run_of}
use Rattle.cir_cost.specs.Adds.{IsCost}
use Rattle.cir_evaluate.specs.Within.{Kept, context_at, where_at}
use Rattle.cir_assign.specs.Finds.{IsFound}
use Rattle.cir_assign.specs.Leads.{Lists}
use Rattle.cir_arrays.proofs.Exits.{exits}
use Rattle.cir_assign.proofs.Assembled.{nothing_wired, places_none, signal_cost_same}
use Rattle.cir_assign.proofs.Assembled.{signal_differs, signal_goes, wired_some}
use Rattle.cir_assign.proofs.Stepping.{leads_as, leads_behind, leads_next, leads_refused}
use Rattle.cir_assign.proofs.Stepping.{leads_step, lists_kept}
use Rattle.cir_assign.proofs.wiring.set_elements.Goals as goal

pub returns-then-not-same_dims : goal.returns-then-not-same_dims
returns-then-not-same_dims g c = λ m name qs s s1 x shaded p q found uncounts.
    let differs : same_dims x.reach.left (datum_of c.args.value.now).dims ≡ _ =
    sym (rw (c.as_slice.ensures.value, found.target.reach.left, c.dims.ensures)
    at c.same_dims.ensures) ∙ c.if-not-same_dims.true in
    subst (λ z. IsRefusal c.refused.result z)
    (sym (signal_differs (context_at c.args.here.now m) (where_at c.args.here.now)
    (Left name c.args.w.now.meant (as_accessors c.args.w.now.accessors.now) c.args.w.now.arrow
    (bare c.args.w.now.value.now))
    c.args.w.now.meant (as_accessors c.args.w.now.accessors.now) c.args.w.now.arrow
    (bare c.args.w.now.value.now) s (datum_of c.args.value.now) s1
    (state_of c.args.frame.now c.args.world.now qs) x p q differs)) c.refused.ensures

pub returns-then-count-eq0 : goal.returns-then-count-eq0
returns-then-count-eq0 g c = λ m name qs s s1 x shaded p q found uncounts.
    let k = context_at c.args.here.now m in
    let w = where_at c.args.here.now in
    let accessors = as_accessors c.args.w.now.accessors.now in
    let e = bare c.args.w.now.value.now in
    let written = Left name c.args.w.now.meant accessors c.args.w.now.arrow e in
    let w2 = c.args.world.now in
    let f = c.args.frame.now in
    let same : same_dims x.reach.left (datum_of c.args.value.now).dims ≡ true =
    sym (rw (c.as_slice.ensures.value, found.target.reach.left, c.dims.ensures)
    at c.same_dims.ensures) ∙ c.if-not-same_dims.false in
    let goes = signal_goes k w written c.args.w.now.meant accessors c.args.w.now.arrow e s
    (datum_of c.args.value.now) s1 (state_of f w2 qs) x p q same in
    let none : (run_of c.args.target.now.reach.part).1 ≡ 0 =
    sym (ap (λ (r : ℕ × ℕ). r.1) c.run-count.ensures) ∙ c.if-count-eq0.true in (
      qs,
      goes ∙ nothing_wired k w c.args.w.now.arrow (signal_cost k w written accessors e s) x
          (datum_of c.args.value.now) (state_of f w2 qs)
          (places_none (state_of f w2 qs).frame c.args.target.now x found none),
      lists_kept qs w2 w2 refl,
    )

pub returns-in_err-write_signal : goal.returns-in_err-write_signal
returns-in_err-write_signal g c = λ m name qs s s1 x shaded p q found uncounts.
    let k = context_at c.args.here.now m in
    let w = where_at c.args.here.now in
    let accessors = as_accessors c.args.w.now.accessors.now in
    let e = bare c.args.w.now.value.now in
    let written = Left name c.args.w.now.meant accessors c.args.w.now.arrow e in
    let w2 = c.args.world.now in
    let f = c.args.frame.now in
    let same : same_dims x.reach.left (datum_of c.args.value.now).dims ≡ true =
    sym (rw (c.as_slice.ensures.value, found.target.reach.left, c.dims.ensures)
    at c.same_dims.ensures) ∙ c.if-not-same_dims.false in
    let goes = signal_goes k w written c.args.w.now.meant accessors c.args.w.now.arrow e s
    (datum_of c.args.value.now) s1 (state_of f w2 qs) x p q same in
    let w3 = c.wiring_cost.new.world in
    let alike : state_of f w3 qs ≡ state_of f w2 qs = c.in_ok-cost.ensures.same m f qs in
    let there : IsFound (state_of f w3 qs).frame c.args.target.now x =
    subst (λ (z : State). IsFound z.frame c.args.target.now x) (sym alike) found in
    let refuses = rw c.replace-value.ensures.value
    at (c.in_err-write_signal.ensures k x qs refl there) in
    leads_refused qs w2 c.write_signal.new.frame c.write_signal.new.world
    c.from_residual-in_err-write_signal.result _ _ c.from_residual-in_err-write_signal.ensures.1
    (subst (λ z. IsRefusal c.in_err-write_signal.field-0.0 z) (sym goes)
    (exits _ (write_elements k w c.args.w.now.arrow x x.reach.places
    (datum_of c.args.value.now).items (state_of f w2 qs)) _
    (subst (λ (z : State). IsRefusal c.in_err-write_signal.field-0.0
    (write_elements k w c.args.w.now.arrow x x.reach.places
    (datum_of c.args.value.now).items z)) alike refuses)))

pub returns : goal.returns
returns g c = λ m name qs s s1 x shaded p q found uncounts.
    let k = context_at c.args.here.now m in
    let w = where_at c.args.here.now in
    let accessors = as_accessors c.args.w.now.accessors.now in
    let e = bare c.args.w.now.value.now in
    let written = Left name c.args.w.now.meant accessors c.args.w.now.arrow e in
    let w2 = c.args.world.now in
    let f = c.args.frame.now in
    let same : same_dims x.reach.left (datum_of c.args.value.now).dims ≡ true =
    sym (rw (c.as_slice.ensures.value, found.target.reach.left, c.dims.ensures)
    at c.same_dims.ensures) ∙ c.if-not-same_dims.false in
    let goes = signal_goes k w written c.args.w.now.meant accessors c.args.w.now.arrow e s
    (datum_of c.args.value.now) s1 (state_of f w2 qs) x p q same in
    let w3 = c.wiring_cost.new.world in
    let w4 = c.write_signal.new.world in
    let h = c.write_signal.new.frame in
    let alike : state_of f w3 qs ≡ state_of f w2 qs = c.in_ok-cost.ensures.same m f qs in
    let there : IsFound (state_of f w3 qs).frame c.args.target.now x =
    subst (λ (z : State). IsFound z.frame c.args.target.now x) (sym alike) found in
    let went = rw c.replace-value.ensures.value
    at (c.in_ok-write_signal.ensures k x qs refl there) in
    let cost = signal_cost k w written accessors e s in
    let paid : IsCost c.in_ok-cost.cost cost =
    subst (λ d. IsCost c.in_ok-cost.cost d)
    (signal_cost_same k w name c.args.w.now.meant c.args.w.now.arrow accessors e
    (state_of f w2 qs) s uncounts)
    (c.in_ok-cost.ensures.cost m name qs shaded) in
    let some : (run_of c.args.target.now.reach.part).1 ≡ 0 → ⊥ =
    λ z. omega (
      arith,
      c.if-count-eq0.false,
      ap (λ (r : ℕ × ℕ). r.1) c.run-count.ensures,
      z,
    ) in
    leads_behind qs w2 w3 h c.stepped.new.world c.stepped.result _ _ goes
    (ap (λ (x : Kept). x.constraints) (c.in_ok-cost.ensures.keeps m))
    (leads_next qs w3 w4 h h c.stepped.new.world c.stepped.result _ _
    (subst (λ (z : State). (es : List Equation)
    × (write_elements k w c.args.w.now.arrow x x.reach.places
    (datum_of c.args.value.now).items z ≡ Ok (state_of h w4 es)) × Lists qs w3 es w4) alike went)
    (λ es. leads_as es w4 h c.stepped.new.world c.stepped.result _ _
    (wired_some k w cost (state_of f w2 qs).frame c.args.target.now x (state_of h w4 es)
    found some)
    (leads_step es w4 h c.stepped.new.world c.stepped.result _
    (c.stepped.ensures.step m.call m.make cost h es paid)
    (ap (λ (x : Kept). x.constraints) c.stepped.ensures.keeps))))
