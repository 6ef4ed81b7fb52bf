use Rattle.std.proofs.Common.{◌∙◌, ◌+◌, length, ap, refl, arith}
use Rattle.cir_meaning.specs.Tried.{next}
use Rattle.cir_frame.specs.Shown.{state_of}
use Rattle.cir_arrays.proofs.Exits.{exits}
use Rattle.cir_arrays.proofs.Writes.{min_either}
use Rattle.cir_evaluate.specs.Within.{context_at, where_at}
use Rattle.cir_assign.proofs.Stepping.{leads_refused, lists_next}
use Rattle.cir_execute.proofs.Going.{refusal}
use Rattle.cir_execute.proofs.Tuples.{slots_end, slots_from, slots_more}
use Rattle.cir_execute.proofs.simple.all_slots.Goals as goal

pub loop-at-init : goal.loop-at-init
loop-at-init g c = λ m qs shaded. (qs, refl, record { listed = λ s. s })

pub returns-in_err-slot : goal.returns-in_err-slot
returns-in_err-slot g c =
    let h = c.args.here.now in
    λ m qs shaded.
    let left = c.loop-at.invariant m qs shaded in
    leads_refused qs c.args.world.now c.slot.new.frame c.slot.new.world _ _ _
    c.from_residual.ensures.1
    (refusal _ _ _
    (left.1 ∙ slots_more (context_at h m) (where_at h) c.args.arrow c.args.slots.now c.args.es.now
    c.loop-at.at c.index-slots-at.result c.index-es-at.result
    (state_of c.loop-at.frame c.loop-at.world left.0) (omega arith) (omega arith)
    c.index-slots-at.is c.index-es-at.is)
    (exits _ _ _ (c.in_err-slot.ensures m left.0 shaded)))

pub loop-at-preserved : goal.loop-at-preserved
loop-at-preserved g c =
    let h = c.args.here.now in
    λ m qs shaded.
    let left = c.loop-at.invariant m qs shaded in
    let went = c.in_ok-slot.ensures m left.0 shaded in (
      went.0,
      left.1 ∙ slots_more (context_at h m) (where_at h) c.args.arrow c.args.slots.now c.args.es.now
          c.loop-at.at c.index-slots-at.result c.index-es-at.result
          (state_of c.loop-at.frame c.loop-at.world left.0) (omega arith) (omega arith)
          c.index-slots-at.is c.index-es-at.is
          ∙ ap (λ z. next z (slots_from (context_at h m) (where_at h) c.args.arrow c.args.slots.now
          c.args.es.now (c.loop-at.at + 1))) went.1,
      lists_next qs left.0 went.0 c.args.world.now c.loop-at.world c.slot.new.world left.2 went.2,
    )

pub returns : goal.returns
returns g c =
    let h = c.args.here.now in
    λ m qs shaded.
    let left = c.loop-at.invariant m qs shaded in (
      left.0,
      left.1 ∙ slots_end (context_at h m) (where_at h) c.args.arrow c.args.slots.now c.args.es.now
          c.loop-at.at (state_of c.loop-at.frame c.loop-at.world left.0)
          (min_either (length c.args.slots.now) (length c.args.es.now) c.loop-at.at
          (omega (arith, c.min-at-end.ensures))),
      left.2,
    )
