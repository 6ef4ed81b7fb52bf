use Rattle.std.proofs.Common.{◌∙◌, ap, refl}
use Rattle.cir_ast.specs.Tree.{as_accessors, bare}
use Rattle.cir_lift.proofs.Copied.{accessors_more, accessors_all, named_start, named_more}
use Rattle.cir_lift.proofs.Copied.{named_all, mapped_more}
use Rattle.cir_lift.proofs.Trees.{call_copied, array_copied, place_copied, anonymous_copied}
use Rattle.cir_lift.proofs.Trees.{listed_copied, boxed_copied}
use Rattle.cir_lift.proofs.copies.+copying.Goals as goal

pub expr-returns-in_ok-arguments-in-Call : goal.expr-returns-in_ok-arguments-in-Call
expr-returns-in_ok-arguments-in-Call t c =
    call_copied _ _ _ _ _ _ _ _ c.in-Call.is c.in_ok-name-in-Call.ensures
    c.in_ok-arguments-in-Call.ensures c.as_slice.ensures

pub expr-returns-in_ok-elements-in-Array : goal.expr-returns-in_ok-elements-in-Array
expr-returns-in_ok-elements-in-Array t c =
    array_copied _ _ _ _ c.in-Array.is c.in_ok-elements-in-Array.ensures
    c.as_slice-in-Array.ensures

pub expr-returns-in_ok-copy-in-Anonymous : goal.expr-returns-in_ok-copy-in-Anonymous
expr-returns-in_ok-copy-in-Anonymous t c =
    boxed_copied _ _ _ _ _ c.in-Anonymous.is c.deref.ensures c.in_ok-a-in-Anonymous.ensures
    c.in_ok-copy-in-Anonymous.ensures

pub exprs-loop-e-preserved : goal.exprs-loop-e-preserved
exprs-loop-e-preserved t c =
    mapped_more bare bare _ _ _ _ _ _ _ c.loop-e-test.true c.e-item.is c.in_ok-e.ensures
    c.in_ok-push.ensures.items c.loop-e.invariant

pub accessors-loop-a-preserved : goal.accessors-loop-a-preserved
accessors-loop-a-preserved t c =
    accessors_more _ _ _ _ _ _ _ c.loop-a-test.true c.a-item.is c.in_ok-copy.ensures
    c.in_ok-push.ensures.items c.loop-a.invariant

pub accessors-returns : goal.accessors-returns
accessors-returns t c =
    accessors_all _ _ _ _ _ c.loop-a-test.false c.of.ensures c.loop-a.invariant

pub place-returns : goal.place-returns
place-returns t c =
    place_copied c.args.p.now _ c.in_ok-name.ensures refl
    (c.in_ok-accessors.ensures ∙ ap as_accessors c.as_slice.ensures)

pub inputs-returns-in_ok-es-in-Listed : goal.inputs-returns-in_ok-es-in-Listed
inputs-returns-in_ok-es-in-Listed t c =
    listed_copied _ _ _ _ c.in-Listed.is c.in_ok-es-in-Listed.ensures c.as_slice.ensures

pub inputs-loop-i-init : goal.inputs-loop-i-init
inputs-loop-i-init t c =
    named_start _ _ _ _ c.in-Named.is c.as_slice-i-items.ensures
    c.in_ok-copies-in-Named.ensures.items

pub inputs-loop-i-preserved : goal.inputs-loop-i-preserved
inputs-loop-i-preserved t c =
    named_more _ _ _ _ _ _ _ c.loop-i-test.true c.i-item.is c.in_ok-name-in-Named.ensures refl
    c.in_ok-value-in-Named.ensures c.in_ok-push-in-Named.ensures.items c.loop-i.invariant

pub inputs-returns-after-loop-i : goal.inputs-returns-after-loop-i
inputs-returns-after-loop-i t c =
    named_all _ _ _ _ _ c.loop-i-test.false c.of.ensures c.loop-i.invariant

pub anonymous-returns : goal.anonymous-returns
anonymous-returns t c =
    anonymous_copied c.args.a.now _ _ _ _ c.in_ok-name.ensures c.in_ok-arguments.ensures
    c.as_slice.ensures c.in_ok-inputs.ensures
