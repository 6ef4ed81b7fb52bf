use Rattle.std.proofs.Common.{◌∙◌, refl, subst}
use Rattle.cir_ast.specs.Tree.{bare, bare_assign, bare_statement}
use Rattle.cir_frame.specs.Shown.{state_of}
use Rattle.cir_meaning.specs.Arrays.{Scalar}
use Rattle.cir_meaning.specs.Unknown.{assign_fault, fault_of}
use Rattle.cir_evaluate.specs.Within.{context_at, where_at}
use Rattle.cir_execute.specs.Again.{AddsOnce}
use Rattle.cir_execute.specs.Rests.{assign_inside, inside}
use Rattle.cir_execute.proofs.Standing.{loop_stands, none_first, none_then, once_alone, stands_one}
use Rattle.cir_execute.proofs.Standing.{unchanged_by, unchanged_next}
use Rattle.cir_execute.proofs.inside.inside_cost.Goals as goal

pub returns-in_ok-add_statement-in-Whole-clause-cost :
    goal.returns-in_ok-add_statement-in-Whole-clause-cost
returns-in_ok-add_statement-in-Whole-clause-cost g c =
    λ m spot qs dark free. rw c.in-Whole.is
    (once_alone c.new-cost.result c.add_statement.new.cost _ c.new-cost.ensures
    (c.in_ok-add_statement-in-Whole.ensures.cost m qs dark (rw c.in-Whole.is at free)))

pub returns-in_ok-add_assign-in-Loop-clause-cost :
    goal.returns-in_ok-add_assign-in-Loop-clause-cost
returns-in_ok-add_assign-in-Loop-clause-cost g c =
    let h = c.args.dark.now in
    let f = c.args.frame.now in
    let l = c.in-Loop.rest in
    let spot_in = l.step.now.spot in
    let step = bare_assign l.step.now.assign in
    let body = bare_statement l.body.now in
    let test = c.in_ok-add-in-Loop.ensures in
    let stood = c.in_ok-add_statement-in-Loop.ensures in
    let last = c.in_ok-add_assign-in-Loop.ensures in
    λ m spot qs dark free.
    let k = context_at h m in
    let w = where_at h in
    let s = state_of f c.args.world.now qs in
    let faults = rw c.in-Loop.is at free in
    let first = test.same m f qs in
    let second = (stood.same m).states f qs ∙ first in
    let one = c.node.new.self in
    let two = c.node-in-Loop.new.self in
    let three = c.node-in-Loop-2.new.self in
    rw c.in-Loop.is
    (once_alone c.new-cost.result c.add_assign.new.cost _ c.new-cost.ensures
    (loop_stands k w s c.new-cost.result one two three c.add.new.self
    c.add_statement-in-Loop.new.cost c.add_assign.new.cost spot spot_in (bare l.condition.now) step
    body c.node.ensures
    c.node-in-Loop.ensures c.node-in-Loop-2.ensures
    (stands_one k w s three c.add.new.self Scalar (bare l.condition.now) h.shaded s dark refl
    (test.cost m qs))
    (subst (λ z. AddsOnce c.add.new.self c.add_statement-in-Loop.new.cost (inside k w body z)) first
    (stood.cost m qs dark (none_then (assign_fault spot_in step) (fault_of body) faults)))
    (subst (λ z. AddsOnce c.add_statement-in-Loop.new.cost c.add_assign.new.cost
    (assign_inside k w step z)) second
    (last.cost m spot_in qs dark (none_first (assign_fault spot_in step) (fault_of body) faults)))))

pub returns-in_ok-add_assign-in-Loop-clause-same :
    goal.returns-in_ok-add_assign-in-Loop-clause-same
returns-in_ok-add_assign-in-Loop-clause-same g c =
    let test = c.in_ok-add-in-Loop.ensures in
    λ m. unchanged_next _ _ _ (unchanged_next _ _ _
    (unchanged_by c.args.world.now c.add.new.world (test.same m) (test.keeps m))
    (c.in_ok-add_statement-in-Loop.ensures.same m)) (c.in_ok-add_assign-in-Loop.ensures.same m)
