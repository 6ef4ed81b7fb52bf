use Rattle.std.proofs.Common.{◌≡◌, ◌∙◌, ap, sym, subst, refl, arith, ℕ, List, []}
use Rattle.std.proofs.Common.{◌∷◌, Ok}
use Rattle.cir_values.specs.Meant.{meant}
use Rattle.cir_meaning.specs.Source.{Equation}
use Rattle.cir_meaning.specs.Writing.{write_elements}
use Rattle.cir_arrays.specs.Counted.{counts_of}
use Rattle.cir_arrays.specs.Shown.{contents_of}
use Rattle.cir_frame.specs.Shown.{state_of}
use Rattle.cir_frame.specs.Targets.{run_of, target_by}
use Rattle.cir_evaluate.specs.Within.{where_at}
use Rattle.cir_assign.specs.Leads.{Leads, Lists}
use Rattle.cir_assign.proofs.Stepping.{leads_as, lists_kept}
use Rattle.cir_assign.proofs.Wires.{run_places, wires_one}
use Rattle.cir_assign.proofs.wiring.write_signal.Goals as goal

pub returns-in-Items : goal.returns-in-Items
returns-in-Items g c = λ k x qs size found.
    let s = state_of c.args.frame.now c.args.world.now qs in
    subst (λ vs. Leads qs c.args.world.now c.wire_all.new.frame c.wire_all.new.world
    c.wire_all.result (write_elements k (where_at c.args.here.now) c.args.arrow x x.reach.places
    vs s)) (ap contents_of (sym c.in-Items.is) ∙ c.into_contents.ensures)
    (leads_as qs c.args.world.now c.wire_all.new.frame c.wire_all.new.world c.wire_all.result _ _
    (run_places k (where_at c.args.here.now) c.args.arrow c.args.target.now x
    _ s c.args.frame.now
    (counts_of c.args.world.now.added) refl found _ _ c.run-first.result c.run-first.ensures refl
    refl)
    (c.wire_all.ensures k x.reach qs size))

pub returns-then-count-gt0 : goal.returns-then-count-gt0
returns-then-count-gt0 g c = λ k x qs size found.
    let s = state_of c.args.frame.now c.args.world.now qs in
    subst (λ vs. Leads qs c.args.world.now c.wire.new.frame c.wire.new.world
    c.wire.result (write_elements k (where_at c.args.here.now) c.args.arrow x x.reach.places
    vs s)) (ap contents_of (sym c.in-Number.is) ∙ c.into_contents.ensures)
    (leads_as qs c.args.world.now c.wire.new.frame c.wire.new.world c.wire.result _ _
    (run_places k (where_at c.args.here.now) c.args.arrow c.args.target.now x
    (meant c.in-Number.v ∷ []) s c.args.frame.now (counts_of c.args.world.now.added) refl
    found _ _
    c.run-first.result c.run-first.ensures refl refl
    ∙ wires_one k (where_at c.args.here.now) c.args.arrow (target_by c.args.target.now x.reach)
    _ _ (meant c.in-Number.v) s c.if-count-gt0.true)
    (c.wire.ensures k x.reach qs size))

pub returns-else-count-gt0 : goal.returns-else-count-gt0
returns-else-count-gt0 g c = λ k x qs size found.
    let s = state_of c.args.frame.now c.args.world.now qs in
    let none : (run_of c.args.target.now.reach.part).1 ≡ 0 =
    sym (ap (λ (r : ℕ × ℕ). r.1) c.run-first.ensures)
    ∙ omega (arith, c.if-count-gt0.false) in
    subst (λ vs. (es : List Equation) × (write_elements k (where_at c.args.here.now) c.args.arrow
    x x.reach.places vs s ≡ Ok (state_of c.args.frame.now c.args.world.now es))
    × Lists qs c.args.world.now es c.args.world.now)
    (ap contents_of (sym c.in-Number.is) ∙ c.into_contents.ensures) (
      qs,
      run_places k (where_at c.args.here.now) c.args.arrow c.args.target.now x
          (meant c.in-Number.v ∷ []) s c.args.frame.now (counts_of c.args.world.now.added) refl
          found
          _ 0 c.run-first.result c.run-first.ensures refl
          (ap (λ (r : ℕ × ℕ). r.1) c.run-first.ensures ∙ none),
      lists_kept qs c.args.world.now c.args.world.now refl,
    )
