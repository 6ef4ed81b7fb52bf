use Rattle.std.proofs.Common.{◌∙◌, ap, Ok}
use Rattle.cir_meaning.specs.Tried.{next}
use Rattle.cir_meaning.specs.Frame.{State, at, counted}
use Rattle.cir_meaning.specs.Statement.{Returned}
use Rattle.cir_arrays.specs.Shown.{datum_of}
use Rattle.cir_evaluate.specs.Within.{context_of}
use Rattle.cir_assign.proofs.Stepping.{lists_kept}
use Rattle.cir_execute.proofs.Going.{flows_at, flows_exit}
use Rattle.cir_execute.proofs.Scanning.{kept_constraints}
use Rattle.cir_execute.proofs.statement.returned.Goals as goal

pub returns-in_err-d : goal.returns-in_err-d
returns-in_err-d g c = λ m qs.
    let d = rw c.here.ensures at c.in_err-d.ensures.value in
    flows_exit qs c.args.world.now c.datum.new.world c.args.frame.now c.from_residual.result _ _ _
    c.from_residual.ensures.1 (d m qs)

pub returns-in_err-counted : goal.returns-in_err-counted
returns-in_err-counted g c = λ m qs.
    let k = context_of c.args.context.now m.call m.make in
    let f = c.args.frame.now in
    let w0 = c.args.world.now in
    let w2 = c.counted.new.world in
    let r = c.from_residual-in_err-counted.result in
    let d = rw c.here.ensures at c.in_ok-d.ensures.value in
    flows_at qs w0 w2 f r _ _
    (ap (λ z. next z (λ (d, s1). next (counted (at k c.args.spot) s1)
    (λ s2. Ok (Returned d s2.world)))) (d m qs))
    (flows_exit qs w0 w2 f r _ _ _ c.from_residual-in_err-counted.ensures.1
    (c.in_err-counted.ensures.value f qs))

pub returns : goal.returns
returns g c = λ m qs.
    let k = context_of c.args.context.now m.call m.make in
    let f = c.args.frame.now in
    let w0 = c.args.world.now in
    let w2 = c.counted.new.world in
    let d = rw c.here.ensures at c.in_ok-d.ensures.value in
    let keeps = rw c.here.ensures at c.in_ok-d.ensures.keeps in (
      qs,
      ap (λ z. next z (λ (d, s1). next (counted (at k c.args.spot) s1)
          (λ s2. Ok (Returned d s2.world)))) (d m qs)
          ∙ ap (λ z. next z (λ (s2 : State). Ok (Returned (datum_of c.in_ok-d.d)
          s2.world))) (c.in_ok-counted.ensures.value f qs),
      lists_kept qs w0 w2 (kept_constraints w2 w0 (c.in_ok-counted.ensures.keeps ∙ keeps m)),
    )
