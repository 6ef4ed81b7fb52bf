use Rattle.std.proofs.Common.{◌≡◌, ◌∙◌, ap, refl, sym, true, false, Ok, List, ℕ}
use Rattle.cir_ast.specs.declared.program.Meant.TheVariants.{Variable}
use Rattle.cir_ast.specs.Tree.{as_accessors}
use Rattle.cir_meaning.specs.Frame as M
use Rattle.cir_meaning.specs.Limits.{standing}
use Rattle.cir_meaning.specs.Places.{elements}
use Rattle.cir_meaning.specs.Steps.{new_cells, stepped, variable_cost}
use Rattle.cir_meaning.specs.Writing as W
use Rattle.cir_arrays.specs.Counted.{counts_of}
use Rattle.cir_frame.specs.Shown.{state_of}
use Rattle.cir_evaluate.specs.Within.{Kept, context_at, where_at}
use Rattle.cir_assign.specs.Given.{given_by, written_by}
use Rattle.cir_assign.specs.Assigns.{PaysFor}
use Rattle.cir_assign.proofs.Chained.{uncounted_kept}
use Rattle.cir_assign.proofs.Paying.{set_known, set_unknown, write_goes}
use Rattle.cir_assign.proofs.Stepping.{leads_behind, leads_exit, leads_step, lists_kept}
use Rattle.cir_assign.proofs.assigning.set_variable.Goals as goal

pub returns-in_err-a : goal.returns-in_err-a
returns-in_err-a g c = λ m name qs shaded place.
    leads_exit qs c.args.world.now c.args.frame.now c.variable_assignment.new.world
    c.from_residual.result _ _ _ c.from_residual.ensures.1
    (rw shaded at (c.in_err-a.ensures.value m qs))

pub returns-then-not-is_unknown : goal.returns-then-not-is_unknown
returns-then-not-is_unknown g c = λ m name qs shaded place.
    let k = context_at c.args.here.now m in
    let w = where_at c.args.here.now in
    let n = c.args.w.now.variable in
    let accessors = as_accessors c.args.w.now.accessors.now in
    let given = c.args.w.now.given in
    let written = written_by name (Variable n) c.args.w.now.accessors.now given in
    let w0 = c.args.world.now in
    let w1 = c.variable_assignment.new.world in
    let f = c.args.frame.now in
    let s = state_of f w0 qs in
    let s1 = state_of f w1 qs in
    let assigned = rw shaded at (c.in_ok-a.ensures.value m qs) in
    let x = assigned.0 in
    let count : c.elements.result ≡ standing (elements (M.variable_at s1.frame n).dims) =
    c.elements.ensures ∙ ap (λ (l : List ℕ). standing (elements l))
    (c.variable_dims.ensures (counts_of w1.added)) in
    let kept = ap (λ (y : Kept). y.constraints) (c.in_ok-a.ensures.keeps m) in
    let known : W.is_unknown n x ≡ false =
    sym (c.is_unknown.ensures n s1 x assigned.2 count) ∙ c.if-not-is_unknown.true in (
      qs,
      set_known k w written n accessors (given_by given) s x assigned.1 known
          ∙ ap (λ (z : M.State). Ok z) (write_goes n x f c.write_assigned.new.frame w1 qs x.value
          assigned.2.state refl (c.in_ok-write_assigned.ensures s1 x assigned.2 refl)),
      lists_kept qs w0 w1 kept,
    )

pub returns : goal.returns
returns g c = λ m name qs shaded place.
    let k = context_at c.args.here.now m in
    let w = where_at c.args.here.now in
    let n = c.args.w.now.variable in
    let accessors = as_accessors c.args.w.now.accessors.now in
    let given = c.args.w.now.given in
    let written = written_by name (Variable n) c.args.w.now.accessors.now given in
    let w0 = c.args.world.now in
    let w1 = c.variable_assignment.new.world in
    let f = c.args.frame.now in
    let s = state_of f w0 qs in
    let s1 = state_of f w1 qs in
    let assigned = rw shaded at (c.in_ok-a.ensures.value m qs) in
    let x = assigned.0 in
    let count : c.elements.result ≡ standing (elements (M.variable_at s1.frame n).dims) =
    c.elements.ensures ∙ ap (λ (l : List ℕ). standing (elements l))
    (c.variable_dims.ensures (counts_of w1.added)) in
    let kept = ap (λ (y : Kept). y.constraints) (c.in_ok-a.ensures.keeps m) in
    let unknown : W.is_unknown n x ≡ true =
    sym (c.is_unknown.ensures n s1 x assigned.2 count) ∙ c.if-not-is_unknown.false in
    let h = c.write_assigned-2.new.frame in
    let w2 = c.variable_step.new.world in
    let cost = variable_cost k w written n accessors (given_by given) x s in
    let pays : PaysFor k w cost (new_cells n x) c.in_ok-step.step.cost c.in_ok-step.step.cells =
    c.in_ok-step.ensures.pays m name qs s x shaded place assigned.2
    (uncounted_kept f w0 w1 qs (c.in_ok-a.ensures.keeps m)) in
    let wrote : W.write_variable n x ≡ state_of h w2 qs =
    write_goes n x f h w1 qs x.value assigned.2.state refl
    (c.in_ok-write_assigned-2.ensures s1 x assigned.2 refl)
    ∙ sym (c.in_ok-step.ensures.same m h qs) in
    let paid = stepped k w pays.0 c.in_ok-step.step.cells (state_of h w2 qs) in
    leads_behind qs w0 w2 h c.stepped.new.world c.stepped.result _ paid
    (set_unknown k w written n accessors (given_by given) s (state_of h w2 qs) x pays.0
    c.in_ok-step.step.cells assigned.1 unknown pays.2 wrote)
    (ap (λ (y : Kept). y.constraints) (c.in_ok-step.ensures.keeps m) ∙ kept)
    (leads_step qs w2 h c.stepped.new.world c.stepped.result paid
    (c.stepped.ensures.step m.call m.make pays.0 h qs pays.1)
    (ap (λ (y : Kept). y.constraints) c.stepped.ensures.keeps))
