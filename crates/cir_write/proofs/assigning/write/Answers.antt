use Rattle.std.proofs.Common.{◌≡◌, ◌∙◌, ap, sym, true, false, Ok, List, ℕ, ◌+◌, ◌++◌, ◌∷◌, []}
use Rattle.std.proofs.Common.{length, arith, refl, subst}
use Rattle.cir_ast.specs.declared.program.Meant.TheVariants.{Variable}
use Rattle.cir_ast.specs.Tree.{as_accessors}
use Rattle.cir_meaning.specs.Frame as M
use Rattle.cir_meaning.specs.Limits.{standing}
use Rattle.cir_meaning.specs.Places.{elements, numbers_from}
use Rattle.cir_meaning.specs.Steps.{new_cells, stepped, variable_cost}
use Rattle.cir_meaning.specs.Writing as W
use Rattle.cir_arrays.specs.Counted.{counts_of}
use Rattle.cir_frame.specs.Shown.{state_of}
use Rattle.cir_evaluate.specs.Within.{Kept, context_at, where_at}
use Rattle.cir_assign.specs.Given.{given_by, written_by}
use Rattle.cir_assign.specs.Assigns.{IsAssignment, PaysFor}
use Rattle.cir_assign.proofs.Chained.{uncounted_kept}
use Rattle.cir_assign.proofs.Paying.{set_known, set_unknown, write_goes}
use Rattle.cir_assign.proofs.Stepping.{leads_behind, leads_exit, leads_step, lists_kept}
use Rattle.cir_meaning.specs.Frame.{uncounted}
use Rattle.cir_steps.specs.Emission.{known_in, with_state}
use Rattle.cir_steps.specs.Making.{new_places}
use Rattle.cir_steps.specs.Step.{Step}
use Rattle.cir_write.specs.Assigned.{HasCells, assigned_step}
use Rattle.cir_make.specs.Shows.{IsKept}
use Rattle.cir_write.proofs.Assigned.{known_after, step_is, unknown_after}
use Rattle.cir_write.proofs.Keeping.{kept_cells, kept_known}
use Rattle.cir_make.proofs.Leading.{always_ok, none_more}
use Rattle.cir_write.proofs.assigning.write.Goals as goal

pub returns-in_err-a-clause-leads : goal.returns-in_err-a-clause-leads
returns-in_err-a-clause-leads g c = λ m name qs shaded place.
    leads_exit qs c.args.whole.now.world c.args.inside.now.frame c.variable_assignment.new.world
    c.from_residual.result _ _ _ c.from_residual.ensures.1
    (rw shaded at (c.in_err-a.ensures.value m qs))

pub returns-then-not-is_unknown-clause-leads : goal.returns-then-not-is_unknown-clause-leads
returns-then-not-is_unknown-clause-leads g c = λ m name qs shaded place.
    let k = context_at c.args.here.now m in
    let w = where_at c.args.here.now in
    let n = c.args.w.now.variable in
    let accessors = as_accessors c.args.w.now.accessors.now in
    let given = c.args.w.now.given in
    let written = written_by name (Variable n) c.args.w.now.accessors.now given in
    let w0 = c.args.whole.now.world in
    let w1 = c.variable_assignment.new.world in
    let f = c.args.inside.now.frame in
    let s = state_of f w0 qs in
    let s1 = state_of f w1 qs in
    let assigned = rw shaded at (c.in_ok-a.ensures.value m qs) in
    let x = assigned.0 in
    let count : c.elements.result ≡ standing (elements (M.variable_at s1.frame n).dims) =
    c.elements.ensures ∙ ap (λ (l : List ℕ). standing (elements l))
    (c.variable_dims.ensures (counts_of w1.added)) in
    let kept = ap (λ (y : Kept). y.constraints) (c.in_ok-a.ensures.keeps m) in
    let known : W.is_unknown n x ≡ false =
    sym (c.is_unknown.ensures n s1 x assigned.2 count) ∙ c.if-not-is_unknown.true in (
      qs,
      set_known k w written n accessors (given_by given) s x assigned.1 known
          ∙ ap (λ (z : M.State). Ok z) (write_goes n x f c.write_assigned.new.frame w1 qs x.value
          assigned.2.state refl (c.in_ok-write_assigned.ensures s1 x assigned.2 refl)),
      lists_kept qs w0 w1 kept,
    )

pub returns-clause-leads : goal.returns-clause-leads
returns-clause-leads g c = λ m name qs shaded place.
    let k = context_at c.args.here.now m in
    let w = where_at c.args.here.now in
    let n = c.args.w.now.variable in
    let accessors = as_accessors c.args.w.now.accessors.now in
    let given = c.args.w.now.given in
    let written = written_by name (Variable n) c.args.w.now.accessors.now given in
    let w0 = c.args.whole.now.world in
    let w1 = c.variable_assignment.new.world in
    let f = c.args.inside.now.frame in
    let s = state_of f w0 qs in
    let s1 = state_of f w1 qs in
    let assigned = rw shaded at (c.in_ok-a.ensures.value m qs) in
    let x = assigned.0 in
    let count : c.elements.result ≡ standing (elements (M.variable_at s1.frame n).dims) =
    c.elements.ensures ∙ ap (λ (l : List ℕ). standing (elements l))
    (c.variable_dims.ensures (counts_of w1.added)) in
    let kept = ap (λ (y : Kept). y.constraints) (c.in_ok-a.ensures.keeps m) in
    let unknown : W.is_unknown n x ≡ true =
    sym (c.is_unknown.ensures n s1 x assigned.2 count) ∙ c.if-not-is_unknown.false in
    let h = c.write_assigned-2.new.frame in
    let w2 = c.variable_step.new.world in
    let cost = variable_cost k w written n accessors (given_by given) x s in
    let pays : PaysFor k w cost (new_cells n x) c.in_ok-step.step.cost c.in_ok-step.step.cells =
    c.in_ok-step.ensures.pays m name qs s x shaded place
    (subst (λ (z : M.State). IsAssignment n z c.in_ok-a.a x)
    (sym (c.in_ok-plain_step.ensures.same m f qs)) assigned.2)
    (ap uncounted (c.in_ok-plain_step.ensures.same m f qs)
    ∙ uncounted_kept f w0 w1 qs (c.in_ok-a.ensures.keeps m)) in
    let wrote : W.write_variable n x ≡ state_of h w2 qs =
    write_goes n x f h w1 qs x.value assigned.2.state refl
    (c.in_ok-write_assigned-2.ensures s1 x assigned.2 refl)
    ∙ sym (c.in_ok-plain_step.ensures.same m h qs) ∙ sym (c.in_ok-step.ensures.same m h qs) in
    let paid = stepped k w pays.0 c.in_ok-step.step.cells (state_of h w2 qs) in
    leads_behind qs w0 w2 h c.stepped.new.world c.stepped.result _ paid
    (set_unknown k w written n accessors (given_by given) s (state_of h w2 qs) x pays.0
    c.in_ok-step.step.cells assigned.1 unknown pays.2 wrote)
    (ap (λ (y : Kept). y.constraints) (c.in_ok-step.ensures.keeps m)
    ∙ ap (λ (y : Kept). y.constraints) (c.in_ok-plain_step.ensures.keeps m) ∙ kept)
    (leads_step qs w2 h c.stepped.new.world c.stepped.result paid
    (c.stepped.ensures.step m.call m.make pays.0 h qs pays.1)
    (ap (λ (y : Kept). y.constraints) c.stepped.ensures.keeps))

pub returns-then-not-is_unknown-clause-kept : goal.returns-then-not-is_unknown-clause-kept
returns-then-not-is_unknown-clause-kept g c = λ m name qs first x steps a shaded place at_x given
    kept es.
    let k = context_at c.args.here.now m in
    let w = where_at c.args.here.now in
    let n = c.args.w.now.variable in
    let accessors = as_accessors c.args.w.now.accessors.now in
    let e = given_by c.args.w.now.given in
    let written = written_by name (Variable n) c.args.w.now.accessors.now c.args.w.now.given in
    let w1 = c.variable_assignment.new.world in
    let f = c.args.inside.now.frame in
    let h = c.write_assigned.new.frame in
    let s1 = state_of f w1 qs in
    let assigned = rw shaded at (c.in_ok-a.ensures.value m qs) in
    let y = assigned.0 in
    let count : c.elements.result ≡ standing (elements (M.variable_at s1.frame n).dims) =
    c.elements.ensures ∙ ap (λ (l : List ℕ). standing (elements l))
    (c.variable_dims.ensures (counts_of w1.added)) in
    let known : W.is_unknown n y ≡ false =
    sym (c.is_unknown.ensures n s1 y assigned.2 count) ∙ c.if-not-is_unknown.true in
    let both : Ok a ≡ Ok y =
    sym given ∙ ap (λ (z : M.State). W.variable_assignment k w n accessors e z) at_x ∙ assigned.1 in
    let same : y ≡ a = cc in
    let wrote = c.in_ok-write_assigned.ensures s1 y assigned.2 refl in
    let u = state_of h w1 es in
    let here : IsKept first h c.args.inside.now.cells c.args.whole.now.made (with_state u x) steps =
    kept_known first f h c.args.inside.now.cells c.args.whole.now.made x steps n y u
    (ap (λ (z : M.State). z.frame.variables) assigned.2.state)
    (ap (λ (z : M.Frame). z.variables) wrote)
    (ap (λ (z : M.Frame). z.parts) wrote) known kept in
    known_after k w written n accessors e a u x steps
    (ap (λ (z : W.VariableAssignment). W.is_unknown n z) (sym same) ∙ known)
    (λ z l. IsKept first h c.args.inside.now.cells c.args.whole.now.made z l)
    (none_more (λ l. IsKept first h c.args.inside.now.cells c.args.whole.now.made (with_state u x)
    l) steps here)

pub returns-clause-kept : goal.returns-clause-kept
returns-clause-kept g c = λ m name qs first x steps a shaded place at_x given kept.
    always_ok c.stepped.result _ (λ es.
    let k = context_at c.args.here.now m in
    let w = where_at c.args.here.now in
    let n = c.args.w.now.variable in
    let accessors = as_accessors c.args.w.now.accessors.now in
    let e = given_by c.args.w.now.given in
    let written = written_by name (Variable n) c.args.w.now.accessors.now c.args.w.now.given in
    let w0 = c.args.whole.now.world in
    let w1 = c.variable_assignment.new.world in
    let f = c.args.inside.now.frame in
    let h = c.write_assigned-2.new.frame in
    let s1 = state_of f w1 qs in
    let assigned = rw shaded at (c.in_ok-a.ensures.value m qs) in
    let y = assigned.0 in
    let count : c.elements.result ≡ standing (elements (M.variable_at s1.frame n).dims) =
    c.elements.ensures ∙ ap (λ (l : List ℕ). standing (elements l))
    (c.variable_dims.ensures (counts_of w1.added)) in
    let unknown : W.is_unknown n y ≡ true =
    sym (c.is_unknown.ensures n s1 y assigned.2 count) ∙ c.if-not-is_unknown.false in
    let both : Ok a ≡ Ok y =
    sym given ∙ ap (λ (z : M.State). W.variable_assignment k w n accessors e z) at_x ∙ assigned.1 in
    let same : y ≡ a = cc in
    let wrote = c.in_ok-write_assigned-2.ensures s1 y assigned.2 refl in
    let u = state_of h c.stepped.new.world es in
    let counted : uncounted (known_in x) ≡ uncounted s1 =
    ap uncounted at_x ∙ sym (uncounted_kept f w0 w1 qs (c.in_ok-a.ensures.keeps m)) in
    let cost = variable_cost k w written n accessors e y (known_in x) in
    let made = c.in_ok-plain_step.ensures.made m qs first x steps cost shaded counted kept in
    let places = c.in_ok-places.ensures s1 y refl assigned.2 in
    let cells = c.plain_step.new.cells in
    let new = c.plain_step.new.made in
    let given_places = c.as_slice.result.now in
    let count_places : c.len.result ≡ length c.in_ok-places.places.items =
    omega (arith, c.len.ensures, c.in_ok-places.places.ok.0) in
    let many : c.len.result ≡ length given_places =
    count_places ∙ ap (λ (l : List ℕ). length l) (sym c.as_slice.ensures.value) in
    let put_places = c.as_slice-2.ensures.value ∙ places in
    let one = step_is k w written n accessors e y x given_places c.in_ok-targets.targets
    c.args.whole.now.made.next (c.as_slice.ensures.value ∙ places)
    (c.in_ok-targets.ensures ∙ ap (λ (i : ℕ). numbers_from c.args.whole.now.made.next i) many)
    kept.next in
    let stepped : IsKept first f cells new x
    (steps ++ assigned_step k w written n accessors e y x ∷ []) =
    subst (λ (s : Step). IsKept first f cells new x (steps ++ s ∷ [])) one made in
    let put : HasCells n (new_places n y) new.next cells.variables.items
    c.put_cells.new.variables.items =
    subst (λ (ps : List ℕ). HasCells n ps new.next cells.variables.items
    c.put_cells.new.variables.items) put_places c.in_ok-whole.ensures.cells in
    let here = kept_cells first f h cells c.put_cells.new.variables new
    c.in_ok-whole.field-0 x (steps ++ assigned_step k w written n accessors e y x ∷ []) n y u
    (ap (λ (z : M.State). z.frame.variables) assigned.2.state)
    (ap (λ (z : M.State). z.frame.variables) at_x)
    (ap (λ (z : M.Frame). z.variables) wrote)
    (ap (λ (z : M.Frame). z.parts) wrote) refl put
    (c.in_ok-whole.ensures.next ∙ ap (λ (ps : List ℕ). new.next + length ps) put_places)
    stepped in
    unknown_after k w written n accessors e y a u x steps same unknown
    (λ z l. IsKept first h (record cells { variables = c.put_cells.new.variables })
    (record new { next = c.in_ok-whole.field-0 }) z l) here)
