use Rattle.std.proofs.Common.{◌≡◌, ◌+◌, ◌-◌, ◌<◌, ◌%◌, ◌/◌, ◌∷◌, length, take, drop, get_or, subst}
use Rattle.std.proofs.Common.{sym, ◌∙◌, arith, length-set}
use Rattle.std.proofs.lemmas.List.{drop_more, drop-set}
use Rattle.cir_values.specs.Places.{elements}
use Rattle.cir_values.proofs.Rows.{CountsTo, counts_more, room_less}
use Rattle.cir_values.proofs.names.indices.Goals as goal

pub nonzero_rem-rest : goal.nonzero_rem-rest
nonzero_rem-rest c =
    let step : c.loop-at.at ≡ c.loop-at.at - 1 + 1 = omega arith in
    (room_less (c.loop-at.at - 1) c.loop-at.rest c.args.dims.now
    (omega (arith, c.loop-at.invariant.within))
    (subst (λ n. c.loop-at.rest < elements (take n c.args.dims.now)) step
    c.loop-at.invariant.room)).0

pub nonzero_div-rest : goal.nonzero_div-rest
nonzero_div-rest c =
    let step : c.loop-at.at ≡ c.loop-at.at - 1 + 1 = omega arith in
    (room_less (c.loop-at.at - 1) c.loop-at.rest c.args.dims.now
    (omega (arith, c.loop-at.invariant.within))
    (subst (λ n. c.loop-at.rest < elements (take n c.args.dims.now)) step
    c.loop-at.invariant.room)).0

pub loop-at-preserved : goal.loop-at-preserved
loop-at-preserved c =
    let dims = c.args.dims.now in
    let n = c.loop-at.at - 1 in
    let rest = c.loop-at.rest in
    let step : c.loop-at.at ≡ n + 1 = omega arith in
    let lt : n < length dims = omega (arith, c.loop-at.invariant.within) in
    let li : n < length c.loop-at.index.items = omega (arith, c.loop-at.invariant.as_long) in
    let room =
    room_less n rest dims lt
    (subst (λ k. rest < elements (take k dims)) step c.loop-at.invariant.room) in
    let d = get_or dims n 0 in
    let before =
    subst (λ k. CountsTo (drop k dims) (drop k c.loop-at.index.items) rest c.args.place) step
    c.loop-at.invariant.counts in
    let more =
    counts_more d rest c.args.place (drop (n + 1) dims) (drop (n + 1) c.loop-at.index.items)
    room.0 before in
    record {
      within = omega (arith, lt);
      as_long = length-set c.loop-at.index.items n (rest % d) ∙ c.loop-at.invariant.as_long;
      room = room.1;
      counts = subst (λ l. CountsTo (drop n dims) l (rest / d) c.args.place)
          (sym (drop-set c.loop-at.index.items n (rest % d) li))
          (subst (λ l. CountsTo l (rest % d ∷ drop (n + 1) c.loop-at.index.items)
          (rest / d) c.args.place) (sym (drop_more dims n 0 lt)) more);
    }
