use Rattle.std.proofs.Common.{◌≡◌, List, [], ◌++◌, drop, arith, inl, inr, ap, ◌∙◌}
use Rattle.std.proofs.lemmas.List.{take_rest}
use Rattle.gold_field.specs.declared.form.Term.{Term}
use Rattle.cir_lc.specs.Merge.{IsMerged}
use Rattle.cir_lc.proofs.Steps.{none_merged, joined}
use Rattle.cir_lc.proofs.Walk.{walk_left, walk_right, walk_both, walk_end}
use Rattle.cir_lc.proofs.sums.merged.Goals as goal
use Rattle.cir_lc.proofs.sums.merged.Goals.{then-loop-i-test+else-j-b, else-loop-i-test}

pub loop-i-init : goal.loop-i-init
loop-i-init c = record {
  left = omega arith;
  right = omega arith;
  merged = rw c.in_ok-sum.ensures.items (none_merged _ _ _ c.requires.left c.requires.right);
}

pub loop-i-preserved-then-x-y : goal.loop-i-preserved-then-x-y
loop-i-preserved-then-x-y c = record {
  left = omega arith;
  right = omega arith;
  merged = walk_left _ _ _ _ _ _ _ _ _ c.loop-i-test.true c.if-j-b.true c.index-a-i.is
      c.index-b-j.is c.if-x-y.true c.in_ok-push.ensures.items c.loop-i.invariant.merged;
}

pub loop-i-preserved-then-y-x : goal.loop-i-preserved-then-y-x
loop-i-preserved-then-y-x c = record {
  left = omega arith;
  right = omega arith;
  merged = walk_right _ _ _ _ _ _ _ _ _ _ c.loop-i-test.true c.if-j-b.true c.index-a-i.is
      c.index-b-j.is c.if-y-x.true c.mul.ensures c.in_ok-push_term.ensures
      c.loop-i.invariant.merged;
}

pub loop-i-preserved : goal.loop-i-preserved
loop-i-preserved c = record {
  left = omega arith;
  right = omega arith;
  merged = walk_both _ _ _ _ _ _ _ _ _ _ _ c.loop-i-test.true c.if-j-b.true c.index-a-i.is
      c.index-b-j.is (omega arith) c.mul-else-y-x.ensures c.add.ensures c.in_ok-push_term-2.ensures
      c.loop-i.invariant.merged;
}

pub push_multiples-requires : goal.push_multiples-requires
push_multiples-requires c =
    let mid : c.extend_from_slice.new.self.items ≡ c.loop-i.sum.items
    ++ drop c.loop-i.i c.args.a.now =
    c.in_ok-extend_from_slice.ensures.items
    ∙ ap (λ (r : List Term). c.loop-i.sum.items ++ r) (take_rest c.args.a.now c.loop-i.i) in
    let m : IsMerged c.args.k c.args.a.now c.args.b.now c.extend_from_slice.new.self.items []
    (drop c.loop-i.j c.args.b.now) =
    walk_end _ _ _ _ _ _ _
    (elim c.loop-i-test.branch [
      | then-loop-i-test+else-j-b w ↦
          inr w.if-j-b.false
      | else-loop-i-test w ↦ inl w.loop-i-test.false
    ])
    mid c.loop-i.invariant.merged in
    rw (take_rest c.args.b.now c.loop-i.j) m.rises_right

pub returns : goal.returns
returns c =
    let mid : c.extend_from_slice.new.self.items ≡ c.loop-i.sum.items
    ++ drop c.loop-i.i c.args.a.now =
    c.in_ok-extend_from_slice.ensures.items
    ∙ ap (λ (r : List Term). c.loop-i.sum.items ++ r) (take_rest c.args.a.now c.loop-i.i) in
    let m : IsMerged c.args.k c.args.a.now c.args.b.now c.extend_from_slice.new.self.items []
    (drop c.loop-i.j c.args.b.now) =
    walk_end _ _ _ _ _ _ _
    (elim c.loop-i-test.branch [
      | then-loop-i-test+else-j-b w ↦
          inr w.if-j-b.false
      | else-loop-i-test w ↦ inl w.loop-i-test.false
    ])
    mid c.loop-i.invariant.merged in
    joined _ _ _ _ _ _ m (rw (take_rest c.args.b.now c.loop-i.j) at c.in_ok-push_multiples.ensures)
