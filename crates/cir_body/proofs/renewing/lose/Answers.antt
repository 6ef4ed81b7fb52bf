use Rattle.std.proofs.Common.{ℕ, ◌+◌, List, drop, get_or, refl, subst, sym}
use Rattle.std.proofs.lemmas.List.{drop_all, drop_more}
use Rattle.cir_body.specs.Renewed.{AreLost}
use Rattle.cir_body.proofs.Renewals.{lost_more}
use Rattle.cir_body.proofs.renewing.lose.Goals as goal

pub loop-n-init : goal.loop-n-init
loop-n-init c = λ new h. h

pub loop-n-preserved : goal.loop-n-preserved
loop-n-preserved c = λ new h.
    let ns = c.args.declared.now in
    let i = c.loop-n.n-index in
    let old = c.loop-n.variables.items in
    c.loop-n.invariant new
    (subst (λ (l : List ℕ). AreLost l old new) (sym (drop_more ns i 0 c.loop-n-test.true))
    (lost_more (get_or ns i 0) (drop (i + 1) ns) old c.lose_one.new.variables.items new
    c.lose_one.ensures.others c.lose_one.ensures.itself h))

pub returns : goal.returns
returns c =
    let vs = c.loop-n.variables.items in
    c.loop-n.invariant vs
    (subst (λ (l : List ℕ). AreLost l vs vs)
    (sym (drop_all c.loop-n.n-index c.args.declared.now c.loop-n-test.false))
    (λ n v there found. (refl, there)))
