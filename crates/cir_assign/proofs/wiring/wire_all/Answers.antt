use Rattle.std.proofs.Common.{ℕ, ◌<◌, ◌≤◌, ◌⊎◌, inl, inr, length, refl, arith}
use Rattle.std.proofs.Common.{◌∙◌}
use Rattle.std.proofs.lemmas.List.{length-set}
use Rattle.cir_arrays.proofs.Writes.{min_either}
use Rattle.cir_frame.specs.Shown.{state_of}
use Rattle.cir_frame.specs.Targets.{target_by}
use Rattle.cir_evaluate.specs.Within.{where_at}
use Rattle.cir_assign.proofs.Stepping.{leads_refused, lists_kept, lists_next}
use Rattle.cir_assign.proofs.Wires.{wires_begin, wires_end, wires_step, wires_stop}
use Rattle.cir_assign.proofs.wiring.wire_all.Goals as goal

pub loop-at-init : goal.loop-at-init
loop-at-init g c = record {
  whole = λ k r qs size. (
    qs,
    wires_begin k (where_at c.args.here.now) c.args.arrow (target_by c.args.target.now r)
        c.args.first c.args.count c.args.items.items (state_of c.args.frame.now c.args.world.now
        qs),
    lists_kept qs c.args.world.now c.args.world.now refl,
  );
  many = refl;
}

pub loop-at-preserved : goal.loop-at-preserved
loop-at-preserved g c =
    let at : ℕ = c.loop-at.at in
    let h : at < c.args.count = omega (arith, c.min-at-end.ensures) in
    let l : at < length c.loop-at.items.items =
    omega (arith, c.min-at-end.ensures, c.len.ensures, c.loop-at.invariant.many) in
    record {
      whole = λ k r qs size.
          let left = c.loop-at.invariant.whole k r qs size in
          let went = c.in_ok-wire.ensures k r left.0 size in (
            went.0,
            wires_step k (where_at c.args.here.now) c.args.arrow (target_by c.args.target.now r)
                c.args.first at c.args.count c.in_ok-place.place c.loop-at.items.items
                c.index_mut.result.now _ (state_of c.loop-at.frame c.loop-at.world left.0) _
                c.wire.new.v (state_of c.wire.new.frame c.wire.new.world went.0) h l refl
                c.in_ok-place.ensures c.index_mut.ensures.value
                left.1
                went.1,
            lists_next qs left.0 went.0 c.args.world.now c.loop-at.world c.wire.new.world left.2
                went.2,
          );
      many = length-set c.loop-at.items.items at c.wire.new.v ∙ c.loop-at.invariant.many;
    }

pub returns-in_err-wire : goal.returns-in_err-wire
returns-in_err-wire g c =
    let at : ℕ = c.loop-at.at in
    let h : at < c.args.count = omega (arith, c.min-at-end.ensures) in
    let l : at < length c.loop-at.items.items =
    omega (arith, c.min-at-end.ensures, c.len.ensures, c.loop-at.invariant.many) in
    λ k r qs size.
    let left = c.loop-at.invariant.whole k r qs size in
    leads_refused qs c.args.world.now c.wire.new.frame c.wire.new.world
    c.from_residual-in_err-wire.result _ _ c.from_residual-in_err-wire.ensures.1
    (wires_stop k (where_at c.args.here.now) c.args.arrow (target_by c.args.target.now r)
    c.args.first at c.args.count c.in_ok-place.place c.loop-at.items.items c.index_mut.result.now _
    (state_of c.loop-at.frame c.loop-at.world left.0) _ h l c.in_ok-place.ensures
    c.index_mut.ensures.value left.1
    (c.in_err-wire.ensures k r left.0 size))

pub returns : goal.returns
returns g c =
    let over : (length c.loop-at.items.items ≤ c.loop-at.at) ⊎ (c.args.count ≤ c.loop-at.at) =
    min_either _ _ _ (omega (arith, c.min-at-end.ensures, c.len.ensures, c.loop-at.invariant.many))
    in
    λ k r qs size.
    let left = c.loop-at.invariant.whole k r qs size in (
      left.0,
      left.1 ∙ wires_end k (where_at c.args.here.now) c.args.arrow (target_by c.args.target.now r)
          c.args.first c.loop-at.at c.args.count c.loop-at.items.items
          (state_of c.loop-at.frame c.loop-at.world left.0)
          (elim over [ inl h ↦ inr h | inr h ↦ inl h ]),
      left.2,
    )
