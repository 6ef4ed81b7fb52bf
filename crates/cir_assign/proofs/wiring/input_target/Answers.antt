use Rattle.std.proofs.Common.{◌∙◌, subst, sym}
use Rattle.cir_ast.specs.Tree.{as_accessors}
use Rattle.cir_arrays.specs.Counted.{counts_of}
use Rattle.cir_arrays.specs.Stopped.{IsRefusal}
use Rattle.cir_frame.specs.Shown.{state_of, world_of}
use Rattle.cir_evaluate.specs.Within.{context_at, where_at}
use Rattle.cir_assign.proofs.Targeted.{behind, behind_finds, behind_refused, entry_counted}
use Rattle.cir_assign.proofs.Targeted.{finds_as, finds_refused, member_goes, not_member}
use Rattle.cir_assign.proofs.wiring.input_target.Goals as goal

pub returns-in_default-clause-value : goal.returns-in_default-clause-value
returns-in_default-clause-value g c = λ m qs shaded.
    subst (λ z. IsRefusal c.refused.result z)
    (sym (not_member (context_at c.args.here.now m) (where_at c.args.here.now) c.args.n
    c.args.indices.now c.args.rest.now (state_of c.args.frame.now c.args.world.now qs)
    c.in_default.ensures)) c.refused.ensures

pub returns-in_err-part-clause-value : goal.returns-in_err-part-clause-value
returns-in_err-part-clause-value g c = λ m qs shaded.
    let k = context_at c.args.here.now m in
    let w = where_at c.args.here.now in
    let s = state_of c.args.frame.now c.args.world.now qs in
    let refuses = rw (c.reading-r.ensures, c.site-site.ensures, c.as_slice.ensures)
    at (c.in_err-part.ensures (counts_of c.args.world.now.added) (world_of c.args.world.now qs)
    (behind k w (as_accessors c.in-Some.inner.now) s)) in
    finds_refused _ c.from_residual.result _ _ c.from_residual.ensures.1
    (subst (λ z. IsRefusal c.in_err-part.field-0.0 z)
    (sym (member_goes k w c.args.n c.args.indices.now c.in-Some.name.now c.in-Some.inner.now
    c.args.rest.now s c.in-Some.ensures)) refuses)

pub returns-in_err-inner-clause-value : goal.returns-in_err-inner-clause-value
returns-in_err-inner-clause-value g c = λ m qs shaded.
    let k = context_at c.args.here.now m in
    let w = where_at c.args.here.now in
    let s = state_of c.args.frame.now c.args.world.now qs in
    let found = rw (c.reading-r.ensures, c.site-site.ensures, c.as_slice.ensures)
    at (c.in_ok-part.ensures (counts_of c.args.world.now.added) (world_of c.args.world.now qs)
    (behind k w (as_accessors c.in-Some.inner.now) s)) in
    finds_refused _ c.from_residual-in_err-inner.result _ _ c.from_residual-in_err-inner.ensures.1
    (subst (λ z. IsRefusal c.in_err-inner.field-0.0 z)
    (sym (member_goes k w c.args.n c.args.indices.now c.in-Some.name.now c.in-Some.inner.now
    c.args.rest.now s c.in-Some.ensures ∙ found.2))
    (behind_refused k w (as_accessors c.in-Some.inner.now) s c.in_ok-part.part c.in_ok-part.i
    found.0 _ (rw shaded at (c.in_err-inner.ensures.value m qs))))

pub returns-clause-value : goal.returns-clause-value
returns-clause-value g c = λ m qs shaded.
    let k = context_at c.args.here.now m in
    let w = where_at c.args.here.now in
    let s = state_of c.args.frame.now c.args.world.now qs in
    let after = state_of c.args.frame.now c.indices_in.new.world qs in
    let found = rw (c.reading-r.ensures, c.site-site.ensures, c.as_slice.ensures)
    at (c.in_ok-part.ensures (counts_of c.args.world.now.added) (world_of c.args.world.now qs)
    (behind k w (as_accessors c.in-Some.inner.now) s)) in
    let target = rw (c.reading-r-2.ensures, c.as_slice-2.ensures.value, c.site-site.ensures)
    at (c.target_of.ensures (counts_of c.indices_in.new.world.added)) in
    finds_as after c.target_of.result _ _
    (member_goes k w c.args.n c.args.indices.now c.in-Some.name.now c.in-Some.inner.now
    c.args.rest.now s c.in-Some.ensures ∙ found.2)
    (behind_finds k w (as_accessors c.in-Some.inner.now) _ s after c.in_ok-part.part
    c.in_ok-part.i found.0 c.in_ok-inner.inner.items c.target_of.result
    (rw shaded at (c.in_ok-inner.ensures.value m qs))
    (entry_counted c.args.frame.now (counts_of c.args.world.now.added)
    (counts_of c.indices_in.new.world.added) c.in_ok-part.part c.in_ok-part.i found.0 found.1)
    target)
