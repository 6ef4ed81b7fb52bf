use Rattle.std.proofs.Common.{ℕ, ◌+◌, List, ap, arith, drop, map, refl, subst, sym}
use Rattle.cir_steps.specs.Making.{count_of}
use Rattle.cir_steps.specs.Step as S
use Rattle.cir_make.specs.Steps.{elements_of}
use Rattle.cir_body.specs.Renewed.{AreRenewed}
use Rattle.cir_body.proofs.Renewals.{elements_at, elements_end}
use Rattle.cir_body.proofs.renewing.renew.Goals as goal

pub loop-e-init : goal.loop-e-init
loop-e-init c = record { cells = λ new h. h; next = refl }

pub loop-e-preserved : goal.loop-e-preserved
loop-e-preserved c =
    let es = c.args.wanted.now in
    let i = c.loop-e.e-index in
    let at = elements_at es i c.loop-e-test.true in
    let next = c.in_ok-next.ensures.next in record {
      cells = λ new h. c.loop-e.invariant.cells new
          (subst (λ (l : List S.Elements). AreRenewed l c.loop-e.next c.loop-e.variables.items new)
          (sym at) (
            c.renew_one.new.variables.items,
            c.in_ok-next.ensures.cells,
            subst (λ (n : ℕ). AreRenewed (map elements_of (drop (i + 1) es)) n
                c.renew_one.new.variables.items new) next h,
          ));
      next =
          let counted = ap count_of at in
          omega (arith, counted, next, c.loop-e.invariant.next);
    }

pub returns-clause-cells : goal.returns-clause-cells
returns-clause-cells c =
    let vs = c.loop-e.variables.items in
    c.loop-e.invariant.cells vs
    (subst (λ (l : List S.Elements). AreRenewed l c.loop-e.next vs vs)
    (sym (elements_end c.args.wanted.now c.loop-e.e-index c.loop-e-test.false)) refl)

pub returns-clause-next : goal.returns-clause-next
returns-clause-next c =
    let end = ap count_of (elements_end c.args.wanted.now c.loop-e.e-index c.loop-e-test.false) in
    omega (arith, end, c.loop-e.invariant.next)
