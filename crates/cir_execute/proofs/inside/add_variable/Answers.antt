use Rattle.std.proofs.Common.{sym, subst}
use Rattle.std.proofs.lemmas.Result.{on_ok_weaker}
use Rattle.cir_ast.specs.Tree.{bare, bare_value}
use Rattle.cir_frame.specs.Shown.{state_of}
use Rattle.cir_meaning.specs.Arrays.{Whole}
use Rattle.cir_meaning.specs.Steps.{value_nodes}
use Rattle.cir_meaning.specs.Texts.{value_wanted}
use Rattle.cir_evaluate.specs.Within.{context_at, where_at}
use Rattle.cir_execute.proofs.Standing.{Stands, numbers_end, numbers_more, stands_none, stands_one}
use Rattle.cir_execute.proofs.Standing.{unchanged, unchanged_all, unchanged_by, unchanged_next}
use Rattle.cir_execute.proofs.Standing.{variable_stands}
use Rattle.cir_execute.proofs.inside.add_variable.Goals as goal

pub loop-dimension-init : goal.loop-dimension-init
loop-dimension-init g c =
    record { cost = λ m qs new dark h. h; same = λ m. unchanged c.args.world.now }

pub loop-dimension-preserved : goal.loop-dimension-preserved
loop-dimension-preserved g c =
    let h = c.args.dark.now in
    let f = c.args.frame.now in
    let loop = c.loop-dimension in
    let all = c.as_slice-dimension-items.result.now in
    let added = c.in_ok-add.ensures in record {
      cost = λ m qs new dark rest. loop.invariant.cost m qs new dark
          (numbers_more (context_at h m) (where_at h) (state_of f c.args.world.now qs) loop.cost
          c.add.new.self new all loop.dimension-index c.dimension-item.result h.shaded
          (state_of f loop.world qs) c.loop-dimension-test.true c.dimension-item.is dark
          ((loop.invariant.same m).states f qs) (added.cost m qs) rest);
      same = λ m. unchanged_next _ _ _ (loop.invariant.same m)
          (unchanged_by loop.world c.add.new.world (added.same m) (added.keeps m));
    }

pub returns-in-None-clause-cost : goal.returns-in-None-clause-cost
returns-in-None-clause-cost g c =
    let h = c.args.dark.now in
    let v = c.args.variable.now in
    let loop = c.loop-dimension in
    let all = c.as_slice-dimension-items.result.now in
    λ m qs dark.
    let k = context_at h m in
    let w = where_at h in
    let s = state_of c.args.frame.now c.args.world.now qs in
    variable_stands k w s c.args.cost.now loop.cost loop.cost v all
    c.as_slice-dimension-items.ensures
    (loop.invariant.cost m qs loop.cost dark
    (numbers_end k w s loop.cost all loop.dimension-index c.loop-dimension-test.false))
    (subst (λ o. Stands k w s loop.cost loop.cost (value_nodes k w (bare_value o) s)
    (value_wanted (bare_value o))) (sym c.in-None.is) (stands_none k w s loop.cost))

pub returns-in-Some-clause-cost : goal.returns-in-Some-clause-cost
returns-in-Some-clause-cost g c =
    let h = c.args.dark.now in
    let f = c.args.frame.now in
    let v = c.args.variable.now in
    let loop = c.loop-dimension in
    let all = c.as_slice-dimension-items.result.now in
    let tail = c.add-in-Some in
    let last = tail.new.self in
    λ m qs dark.
    let k = context_at h m in
    let w = where_at h in
    let s = state_of f c.args.world.now qs in
    on_ok_weaker tail.result (λ z. variable_stands k w s c.args.cost.now loop.cost last v all
    c.as_slice-dimension-items.ensures
    (loop.invariant.cost m qs loop.cost dark
    (numbers_end k w s loop.cost all loop.dimension-index c.loop-dimension-test.false))
    (subst (λ o. Stands k w s loop.cost last (value_nodes k w (bare_value o) s)
    (value_wanted (bare_value o))) (sym c.in-Some.is)
    (stands_one k w s loop.cost last Whole (bare c.in-Some.value) h.shaded
    (state_of f loop.world qs) dark ((loop.invariant.same m).states f qs) z)))
    (tail.ensures.cost m qs)

pub returns-in-Some-clause-same : goal.returns-in-Some-clause-same
returns-in-Some-clause-same g c =
    let tail = c.add-in-Some in
    λ m. on_ok_weaker tail.result (unchanged_next _ _ _ (c.loop-dimension.invariant.same m))
    (unchanged_all tail.result c.loop-dimension.world tail.new.world (tail.ensures.same m)
    (tail.ensures.keeps m))
