use Rattle.std.proofs.Common.{◌+◌, ◌*◌, ◌≤◌, ◌∷◌, get_or, drop, subst, sym, ap, ◌∙◌, arith}
use Rattle.cir_values.proofs.Rows.{fits_row, one_more, opened, room_more}
use Rattle.cir_values.specs.Places.{elements, counted_on, place_of}
use Rattle.cir_values.proofs.shape.place.Goals as goal

pub overflow_mul-place : goal.overflow_mul-place
overflow_mul-place c =
    omega (
      arith,
      c.requires.few,
      fits_row c.loop-at.place c.loop-at.at c.args.dims.now c.args.index.now c.loop-at-test.true
          c.requires.inside c.loop-at.invariant.inside c.loop-at.invariant.room,
    )

pub overflow_add-place : goal.overflow_add-place
overflow_add-place c =
    let o = opened c.loop-at.at c.args.dims.now c.args.index.now c.loop-at-test.true
    c.requires.inside c.loop-at.invariant.inside in
    omega (
      arith,
      c.requires.few,
      o.2.0,
      fits_row c.loop-at.place c.loop-at.at c.args.dims.now c.args.index.now c.loop-at-test.true
          c.requires.inside c.loop-at.invariant.inside c.loop-at.invariant.room,
    )

pub loop-at-preserved : goal.loop-at-preserved
loop-at-preserved c =
    let dims = c.args.dims.now in
    let index = c.args.index.now in
    let at = c.loop-at.at in
    let place = c.loop-at.place in
    let o = opened at dims index c.loop-at-test.true c.requires.inside c.loop-at.invariant.inside in
    let d = get_or dims at 0 in
    let i = get_or index at 0 in
    record {
      joined =
          sym (one_more place d i (drop (at + 1) dims) (drop (at + 1) index) o.2.0)
          ∙ sym (ap (λ ds. counted_on (place * elements ds) (place_of ds (i ∷ drop (at + 1) index)))
          o.0)
          ∙ sym (ap
          (λ is. counted_on (place * elements (drop at dims)) (place_of (drop at dims) is)) o.1)
          ∙ c.loop-at.invariant.joined;
      room = room_more place d i (drop (at + 1) dims) (elements dims) o.2.0
          (subst (λ ds. (place + 1) * elements ds ≤ elements dims) o.0 c.loop-at.invariant.room);
      inside = o.2.1;
    }
