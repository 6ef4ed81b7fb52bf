use Rattle.std.proofs.Common.{◌∙◌, ◌+◌, Ok, length, refl, arith}
use Rattle.cir_ast.specs.Tree.{bare, bare_slot}
use Rattle.cir_arrays.proofs.Writes.{min_either}
use Rattle.cir_evaluate.specs.Within.{at_spot}
use Rattle.cir_steps.specs.Emit.{emit_slot}
use Rattle.cir_make.specs.Means.{emitting_in}
use Rattle.cir_make.proofs.Going.{emits_as, emits_exit, quiet_is, rests_emit, rests_more}
use Rattle.cir_make.proofs.Going.{rests_then}
use Rattle.cir_body.proofs.Slots.{slots_end, slots_from, slots_more}
use Rattle.cir_body.proofs.simple.all_slots.Goals as goal

pub loop-at-init : goal.loop-at-init
loop-at-init g c = λ m d shows. (d, refl, shows)

pub returns-in_err-slot : goal.returns-in_err-slot
returns-in_err-slot g c = λ m d shows.
    let b = c.args.body.now in
    let q = emitting_in b m in
    let w = at_spot b.context.now c.args.spot in
    let left = slots_from q w c.args.arrow c.args.slots.now c.args.es.now in
    let j = c.slot.new.inside in
    let v = c.slot.new.whole in
    let r = c.from_residual.result in
    rests_emit m.first c.loop-at.inside j c.loop-at.whole v r _ (left c.loop-at.at)
    (c.loop-at.invariant m d shows)
    (λ y here. emits_as m.first j v r _ _
    (slots_more q w c.args.arrow c.args.slots.now c.args.es.now c.loop-at.at
    c.index-slots-at.result c.index-es-at.result y (omega arith) (omega arith)
    c.index-slots-at.is c.index-es-at.is)
    (emits_exit m.first j v r _ y
    (emit_slot q w c.args.arrow (bare_slot c.index-slots-at.result) (bare c.index-es-at.result))
    (left (c.loop-at.at + 1)) c.from_residual.ensures.1 (c.in_err-slot.ensures m y here)))

pub loop-at-preserved : goal.loop-at-preserved
loop-at-preserved g c = λ m d shows.
    let b = c.args.body.now in
    let q = emitting_in b m in
    let w = at_spot b.context.now c.args.spot in
    let left = slots_from q w c.args.arrow c.args.slots.now c.args.es.now in
    let j = c.slot.new.inside in
    let v = c.slot.new.whole in
    rests_more m.first c.loop-at.inside j c.loop-at.whole v _ (left c.loop-at.at)
    (left (c.loop-at.at + 1)) (c.loop-at.invariant m d shows)
    (λ y here.
    let z = rests_then m.first j v y
    (emit_slot q w c.args.arrow (bare_slot c.index-slots-at.result) (bare c.index-es-at.result))
    (left (c.loop-at.at + 1)) (c.in_ok-slot.ensures m y here) in (
      z.0,
      slots_more q w c.args.arrow c.args.slots.now c.args.es.now c.loop-at.at
          c.index-slots-at.result c.index-es-at.result y (omega arith) (omega arith)
          c.index-slots-at.is c.index-es-at.is ∙ z.1,
      z.2,
    ))

pub returns : goal.returns
returns g c = λ m d shows.
    let b = c.args.body.now in
    let q = emitting_in b m in
    let w = at_spot b.context.now c.args.spot in
    let left = slots_from q w c.args.arrow c.args.slots.now c.args.es.now in
    let i = c.loop-at.inside in
    let v = c.loop-at.whole in
    rests_emit m.first i i v v (Ok (tt {0})) _ (left c.loop-at.at)
    (c.loop-at.invariant m d shows) (λ y here. (
      y,
      slots_end q w c.args.arrow c.args.slots.now c.args.es.now c.loop-at.at y
          (min_either (length c.args.slots.now) (length c.args.es.now) c.loop-at.at
          (omega (arith, c.min-at-end.ensures))) ∙ quiet_is y,
      here,
    ))
