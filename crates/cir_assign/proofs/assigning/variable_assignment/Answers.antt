use Rattle.std.proofs.Common.{◌≡◌, ◌∙◌, refl, sym, subst, true, false}
use Rattle.cir_ast.specs.Tree.{as_accessors}
use Rattle.cir_meaning.specs.Arrays.{same_dims}
use Rattle.cir_arrays.specs.Counted.{counts_of}
use Rattle.cir_arrays.specs.Stopped.{IsRefusal}
use Rattle.cir_frame.specs.Shown.{state_of}
use Rattle.cir_evaluate.specs.Within.{context_at, where_at}
use Rattle.cir_assign.specs.Given.{given_by}
use Rattle.cir_assign.proofs.Added.{reach_written}
use Rattle.cir_assign.proofs.Assigned.{assigns_exit}
use Rattle.cir_assign.proofs.Assignments.{fits_by, indices_next, reach_next, value_first}
use Rattle.cir_assign.proofs.assigning.variable_assignment.Goals as goal

pub returns-in_err-value-clause-value : goal.returns-in_err-value-clause-value
returns-in_err-value-clause-value g c = λ m qs.
    assigns_exit c.args.w.now.variable _ c.from_residual.result _ _ _ _ refl
    c.from_residual.ensures.1 (c.in_err-value.ensures.value m qs)

pub returns-in_err-indices-clause-value : goal.returns-in_err-indices-clause-value
returns-in_err-indices-clause-value g c = λ m qs.
    assigns_exit c.args.w.now.variable _ c.from_residual-in_err-indices.result _ _ _ _
    (value_first (context_at c.args.here.now m) (where_at c.args.here.now) c.args.here.now.shaded
    c.args.w.now.variable (as_accessors c.args.w.now.accessors.now) (given_by c.args.w.now.given)
    (state_of c.args.frame.now c.args.world.now qs)
    (state_of c.args.frame.now c.new_value.new.world qs) (c.in_ok-value.ensures.value m qs).0
    (c.in_ok-value.ensures.value m qs).1)
    c.from_residual-in_err-indices.ensures.1 (c.in_err-indices.ensures.value m qs)

pub returns-in_err-reach-clause-value : goal.returns-in_err-reach-clause-value
returns-in_err-reach-clause-value g c = λ m qs.
    let refuses = rw (
      c.site-site.ensures,
      c.as_slice.ensures.value,
      c.variable_dims-dims.ensures (counts_of c.indices_in.new.world.added),
    )
    at c.in_err-reach.ensures.reach in
    assigns_exit c.args.w.now.variable _ c.from_residual-in_err-reach.result _ _ _ _
    (indices_next (context_at c.args.here.now m) (where_at c.args.here.now)
    c.args.here.now.shaded c.args.w.now.variable (as_accessors c.args.w.now.accessors.now) _
    (given_by c.args.w.now.given) (state_of c.args.frame.now c.args.world.now qs)
    (state_of c.args.frame.now c.new_value.new.world qs)
    (state_of c.args.frame.now c.indices_in.new.world qs) (c.in_ok-value.ensures.value m qs).0
    c.in_ok-indices.indices.items (c.in_ok-value.ensures.value m qs).1
    (c.in_ok-indices.ensures.value m qs))
    c.from_residual-in_err-reach.ensures.1 refuses

pub returns-then-same_dims-clause-value : goal.returns-then-same_dims-clause-value
returns-then-same_dims-clause-value g c = λ m qs.
    let reached = rw (
      c.site-site.ensures,
      c.as_slice.ensures.value,
      c.variable_dims-dims.ensures (counts_of c.indices_in.new.world.added),
    )
    at c.in_ok-reach.ensures.reach in
    let given = c.in_ok-value.ensures.value m qs in
    let dims = c.dims.ensures _ _ given.2 in
    let same : same_dims reached.0.left given.0.dims ≡ true =
    sym (rw (c.as_slice-2.ensures.value, reached.2.left, dims) at c.same_dims.ensures)
    ∙ c.if-same_dims.true in (
      record {
        value = given.0;
        reach = reached.0;
        state = state_of c.args.frame.now c.indices_in.new.world qs;
      },
      reach_next (context_at c.args.here.now m) (where_at c.args.here.now)
          c.args.here.now.shaded c.args.w.now.variable (as_accessors c.args.w.now.accessors.now) _
          (given_by c.args.w.now.given) (state_of c.args.frame.now c.args.world.now qs)
          (state_of c.args.frame.now c.new_value.new.world qs)
          (state_of c.args.frame.now c.indices_in.new.world qs) (c.in_ok-value.ensures.value m qs).0
          c.in_ok-indices.indices.items reached.0 (c.in_ok-value.ensures.value m qs).1
          (c.in_ok-indices.ensures.value m qs) reached.1
          ∙ fits_by (where_at c.args.here.now) (c.in_ok-value.ensures.value m qs).0
          (state_of c.args.frame.now c.indices_in.new.world qs) reached.0 true same,
      record {
        value = given.2;
        written = reach_written (where_at c.args.here.now) c.args.here.now.shaded _ given.0
            c.in_ok-value.value c.in_ok-indices.indices.items reached.0 given.2 reached.1;
        state = refl;
        indices = c.in_ok-indices.indices.items;
        reach = reached.2;
      },
    )

pub returns-else-same_dims-clause-value : goal.returns-else-same_dims-clause-value
returns-else-same_dims-clause-value g c = λ m qs.
    let reached = rw (
      c.site-site.ensures,
      c.as_slice.ensures.value,
      c.variable_dims-dims.ensures (counts_of c.indices_in.new.world.added),
    )
    at c.in_ok-reach.ensures.reach in
    let dims = c.dims.ensures _ _ (c.in_ok-value.ensures.value m qs).2 in
    let differs : same_dims reached.0.left (c.in_ok-value.ensures.value m qs).0.dims ≡ false =
    sym (rw (c.as_slice-2.ensures.value, reached.2.left, dims) at c.same_dims.ensures)
    ∙ c.if-same_dims.false in
    subst (λ z. IsRefusal c.refused.result z)
    (sym (reach_next (context_at c.args.here.now m) (where_at c.args.here.now)
    c.args.here.now.shaded c.args.w.now.variable (as_accessors c.args.w.now.accessors.now) _
    (given_by c.args.w.now.given) (state_of c.args.frame.now c.args.world.now qs)
    (state_of c.args.frame.now c.new_value.new.world qs)
    (state_of c.args.frame.now c.indices_in.new.world qs) (c.in_ok-value.ensures.value m qs).0
    c.in_ok-indices.indices.items reached.0 (c.in_ok-value.ensures.value m qs).1
    (c.in_ok-indices.ensures.value m qs) reached.1
    ∙ fits_by (where_at c.args.here.now) (c.in_ok-value.ensures.value m qs).0
    (state_of c.args.frame.now c.indices_in.new.world qs) reached.0 false differs))
    c.refused.ensures
