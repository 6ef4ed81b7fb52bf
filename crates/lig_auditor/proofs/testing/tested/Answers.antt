use Rattle.std.proofs.lemmas.Bool.{both_ways}
use Rattle.lig_auditor.proofs.Concluding.{not_near, not_sum, not_linear, not_zero, not_product}
use Rattle.lig_auditor.proofs.Concluding.{accepted}
use Rattle.lig_auditor.proofs.testing.tested.Goals as goal

pub returns-then-not-branch : goal.returns-then-not-branch
returns-then-not-branch g c =
    not_near c.args.file.now c.args.publics.now c.args.opening.now c.requires.params
    c.requires.opening.params
    (λ p. both_ways c.in_ok-proximity.field-0 c.if-not-branch.true (c.in_ok-proximity.ensures.1 p))

pub returns-then-not-linear_sum : goal.returns-then-not-linear_sum
returns-then-not-linear_sum g c =
    not_sum c.args.file.now c.args.publics.now c.args.opening.now c.requires.params
    c.requires.opening.params
    (c.in_ok-proximity.ensures.0 c.if-not-branch.false)
    (λ p. both_ways c.linear_sum.result c.if-not-linear_sum.true (c.linear_sum.ensures.1 p))

pub returns-then-not-branch-2 : goal.returns-then-not-branch-2
returns-then-not-branch-2 g c =
    not_linear c.args.file.now c.args.publics.now c.args.opening.now c.requires.params
    c.requires.opening.params
    (c.in_ok-proximity.ensures.0 c.if-not-branch.false)
    (c.linear_sum.ensures.0 c.if-not-linear_sum.false)
    (λ system are p. both_ways c.in_ok-linear_column.field-0 c.if-not-branch-2.true
    ((c.in_ok-linear_column.ensures system are).1 p))

pub returns-then-not-quad_zero : goal.returns-then-not-quad_zero
returns-then-not-quad_zero g c =
    not_zero c.args.file.now c.args.publics.now c.args.opening.now c.requires.params
    c.requires.opening.params
    (c.in_ok-proximity.ensures.0 c.if-not-branch.false)
    (c.linear_sum.ensures.0 c.if-not-linear_sum.false)
    (λ system are. (c.in_ok-linear_column.ensures system are).0 c.if-not-branch-2.false)
    (λ p. both_ways c.quad_zero.result c.if-not-quad_zero.true (c.quad_zero.ensures.1 p))

pub returns-then-not-branch-3 : goal.returns-then-not-branch-3
returns-then-not-branch-3 g c =
    not_product c.args.file.now c.args.publics.now c.args.opening.now c.requires.params
    c.requires.opening.params
    (c.in_ok-proximity.ensures.0 c.if-not-branch.false)
    (c.linear_sum.ensures.0 c.if-not-linear_sum.false)
    (λ system are. (c.in_ok-linear_column.ensures system are).0 c.if-not-branch-2.false)
    (c.quad_zero.ensures.0 c.if-not-quad_zero.false)
    (λ p. both_ways c.in_ok-quad_column.field-0 c.if-not-branch-3.true
    (c.in_ok-quad_column.ensures.1 p))

pub returns : goal.returns
returns g c =
    accepted c.args.file.now c.args.publics.now c.args.opening.now c.requires.params
    c.requires.opening.params
    (c.in_ok-proximity.ensures.0 c.if-not-branch.false)
    (c.linear_sum.ensures.0 c.if-not-linear_sum.false)
    (λ system are. (c.in_ok-linear_column.ensures system are).0 c.if-not-branch-2.false)
    (c.quad_zero.ensures.0 c.if-not-quad_zero.false)
    (c.in_ok-quad_column.ensures.0 c.if-not-branch-3.false)
