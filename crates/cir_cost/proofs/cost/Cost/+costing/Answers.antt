use Rattle.std.proofs.Common.{◌∙◌, [], Ok, Err, OnOk, ap, sym, subst}
use Rattle.std.proofs.lemmas.Result.{on_ok_weaker}
use Rattle.cir_ast.specs.Tree.{as_accessors, bare}
use Rattle.cir_arrays.specs.Counted.{counts_of}
use Rattle.cir_frame.specs.Read.{origin_from, root_of}
use Rattle.cir_arrays.specs.Stopped.{refused_of}
use Rattle.cir_frame.specs.Shown.{state_of}
use Rattle.cir_arrays.proofs.Exits.{told}
use Rattle.cir_meaning.specs.Reading.{Found, Named}
use Rattle.cir_meaning.specs.Costs as M
use Rattle.cir_evaluate.specs.Within.{context_at, where_at}
use Rattle.cir_cost.specs.Adds.{Adds, read_alone}
use Rattle.cir_cost.proofs.Adding.{adds_both, adds_none}
use Rattle.cir_cost.proofs.Cells.{reads_refused}
use Rattle.cir_cost.proofs.Trees.{all_end, all_step, binary_cost, call_cost, call_settled}
use Rattle.cir_cost.proofs.Trees.{choice_cost, cost_array, index_step, member_step, place_end}
use Rattle.cir_cost.proofs.Trees.{place_is}
use Rattle.cir_cost.proofs.cost.Cost.+costing.Goals as goal

pub add-returns-in-Place-clause-cost : goal.add-returns-in-Place-clause-cost
add-returns-in-Place-clause-cost g t c =
    λ m qs. rw c.in-Place.is (on_ok_weaker c.add_place.result
    (adds_both c.args.self.now c.node.new.self c.add_place.new.self (M.node 1) _ c.node.ensures)
    (c.add_place.ensures.cost m qs))

pub add-returns-in-Parentheses-clause-cost : goal.add-returns-in-Parentheses-clause-cost
add-returns-in-Parentheses-clause-cost g t c =
    λ m qs. rw c.in-Parentheses.is (on_ok_weaker c.add.result
    (adds_both c.args.self.now c.node.new.self c.add.new.self (M.node 1) _ c.node.ensures)
    (rw c.deref.ensures at (c.add.ensures.cost m qs)))

pub add-returns-in-Unary-clause-cost : goal.add-returns-in-Unary-clause-cost
add-returns-in-Unary-clause-cost g t c =
    λ m qs. rw c.in-Unary.is (on_ok_weaker c.add-in-Unary.result
    (adds_both c.args.self.now c.node.new.self c.add-in-Unary.new.self (M.node 1) _
    c.node.ensures) (rw c.deref-in-Unary.ensures at (c.add-in-Unary.ensures.cost m qs)))

pub add-returns-in-Array-clause-cost : goal.add-returns-in-Array-clause-cost
add-returns-in-Array-clause-cost g t c =
    λ m qs.
    let k = context_at c.args.here.now m in
    let s = state_of c.args.frame.now c.args.world.now qs in
    let w = where_at c.args.here.now in
    rw (c.in-Array.is, cost_array k w c.args.here.now.shaded c.in-Array.elements s)
    (on_ok_weaker c.add_all-in-Array.result
    (adds_both c.args.self.now c.node.new.self c.add_all-in-Array.new.self (M.node 1) _
    c.node.ensures) (rw c.as_slice-in-Array.ensures at (c.add_all-in-Array.ensures.cost m qs)))

pub add-returns-in_ok-look-in-Binary-clause-same : goal.add-returns-in_ok-look-in-Binary-clause-same
add-returns-in_ok-look-in-Binary-clause-same g t c =
    λ m f qs. on_ok_weaker c.add_operand.result (λ h. h
    ∙ c.in_ok-look-in-Binary.ensures.same m f qs ∙ c.in_ok-add-in-Binary.ensures.same m f qs)
    (c.add_operand.ensures.same m f qs)

pub add-returns-in_ok-look-in-Binary-clause-cost : goal.add-returns-in_ok-look-in-Binary-clause-cost
add-returns-in_ok-look-in-Binary-clause-cost g t c =
    λ m qs.
    let k = context_at c.args.here.now m in
    let w = where_at c.args.here.now in
    let f = c.args.frame.now in
    let first = c.in_ok-add-in-Binary.ensures in
    let second = c.in_ok-look-in-Binary.ensures in
    rw c.in-Binary.is (on_ok_weaker c.add_operand.result
    (binary_cost k w c.args.here.now.shaded c.in-Binary.op (bare c.in-Binary.a.value)
    (bare c.in-Binary.b.value) (state_of f c.args.world.now qs)
    (state_of f c.add-in-Binary.new.world qs) (state_of f c.right_look_in.new.world qs)
    c.in_ok-look-in-Binary.look c.args.self.now c.node.new.self c.add-in-Binary.new.self
    c.add_operand.new.self (first.same m f qs) (second.same m f qs ∙ first.same m f qs)
    (rw c.deref-in-Binary-2.ensures at (second.look m qs)) c.node.ensures
    (rw c.deref-in-Binary.ensures at (first.cost m qs)))
    (rw c.deref-in-Binary-3.ensures at (c.add_operand.ensures.cost m qs)))

pub add-returns-in_ok-add_operand-in-Choice-clause-same
    : goal.add-returns-in_ok-add_operand-in-Choice-clause-same
add-returns-in_ok-add_operand-in-Choice-clause-same g t c =
    λ m f qs. on_ok_weaker c.add_operand-in-Choice-2.result (λ h. h
    ∙ c.in_ok-add_operand-in-Choice.ensures.same m f qs
    ∙ c.in_ok-first-in-Choice.ensures.same m f qs ∙ c.in_ok-add-in-Choice.ensures.same m f qs)
    (c.add_operand-in-Choice-2.ensures.same m f qs)

pub add-returns-in_ok-add_operand-in-Choice-clause-cost
    : goal.add-returns-in_ok-add_operand-in-Choice-clause-cost
add-returns-in_ok-add_operand-in-Choice-clause-cost g t c =
    λ m qs.
    let k = context_at c.args.here.now m in
    let w = where_at c.args.here.now in
    let f = c.args.frame.now in
    let e = c.in-Choice in
    let first = c.in_ok-add-in-Choice.ensures in
    let looks = c.in_ok-first-in-Choice.ensures in
    let chosen = c.in_ok-add_operand-in-Choice.ensures in
    let same = looks.same m f qs ∙ first.same m f qs in
    rw c.in-Choice.is (on_ok_weaker c.add_operand-in-Choice-2.result
    (choice_cost k w c.args.here.now.shaded (bare e.c.value) (bare e.a.value) (bare e.b.value)
    (state_of f c.args.world.now qs) (state_of f c.add-in-Choice.new.world qs)
    (state_of f c.side_looks_in.new.world qs) (state_of f c.add_operand-in-Choice.new.world qs)
    c.in_ok-first-in-Choice.first c.in_ok-first-in-Choice.second c.args.self.now c.node.new.self
    c.add-in-Choice.new.self c.add_operand-in-Choice.new.self c.add_operand-in-Choice-2.new.self
    (first.same m f qs) same (chosen.same m f qs ∙ same)
    (rw c.deref-in-Choice-2.ensures at (looks.first m qs))
    (rw c.deref-in-Choice-2.ensures at (looks.second m qs)) c.node.ensures
    (rw c.deref-in-Choice.ensures at (first.cost m qs))
    (rw c.deref-in-Choice-3.ensures at (chosen.cost m qs)))
    (rw c.deref-in-Choice-4.ensures at (c.add_operand-in-Choice-2.ensures.cost m qs)))

pub add-returns-then-branch-clause-cost : goal.add-returns-then-branch-clause-cost
add-returns-then-branch-clause-cost g t c =
    λ m qs.
    let e = c.in-Call in
    subst (Adds c.args.self.now c.node.new.self)
    (sym (call_settled (context_at c.args.here.now m) (where_at c.args.here.now)
    c.args.here.now.shaded c.args.e.now e.field-0 e.field-1 e.meant e.arguments
    (state_of c.args.frame.now c.args.world.now qs) c.in_ok-is_settled-in-Call.field-0 e.is
    (c.in_ok-is_settled-in-Call.ensures.settled m qs) c.if-branch.true)) c.node.ensures

pub add-returns-in_ok-add_all-in-Call-clause-same
    : goal.add-returns-in_ok-add_all-in-Call-clause-same
add-returns-in_ok-add_all-in-Call-clause-same g t c =
    λ m f qs. on_ok_weaker c.add_call.result (λ h. h
    ∙ c.in_ok-add_all-in-Call.ensures.same m f qs
    ∙ c.in_ok-is_settled-in-Call.ensures.same m f qs) (c.add_call.ensures.same m f qs)

pub add-returns-in_ok-add_all-in-Call-clause-cost
    : goal.add-returns-in_ok-add_all-in-Call-clause-cost
add-returns-in_ok-add_all-in-Call-clause-cost g t c =
    λ m qs.
    let e = c.in-Call in
    let f = c.args.frame.now in
    let settled = c.in_ok-is_settled-in-Call.ensures in
    let all = c.in_ok-add_all-in-Call.ensures in
    on_ok_weaker c.add_call.result
    (call_cost (context_at c.args.here.now m) (where_at c.args.here.now) c.args.here.now.shaded
    c.args.e.now e.field-0 e.field-1 e.meant e.arguments c.as_slice.result.now
    c.as_slice-in-Call.result.now (state_of f c.args.world.now qs)
    (state_of f c.is_settled.new.world qs) (state_of f c.add_all.new.world qs)
    c.in_ok-is_settled-in-Call.field-0 c.args.self.now c.node.new.self c.add_all.new.self
    c.add_call.new.self e.is (settled.settled m qs) c.if-branch.false c.as_slice.ensures
    c.as_slice-in-Call.ensures (settled.same m f qs) (all.same m f qs ∙ settled.same m f qs)
    c.node.ensures (all.cost m qs)) (c.add_call.ensures.cost m qs)

pub add_operand-returns-in-Plain-clause-cost : goal.add_operand-returns-in-Plain-clause-cost
add_operand-returns-in-Plain-clause-cost g t c =
    λ m qs. rw c.in-Plain.is (c.add.ensures.cost m qs)

pub add_operand-returns-in-Dark-clause-cost : goal.add_operand-returns-in-Dark-clause-cost
add_operand-returns-in-Dark-clause-cost g t c =
    let h = rw c.dark.ensures at c.add-in-Dark.ensures.cost in
    λ m qs. rw c.in-Dark.is (h m qs)

pub add_all-returns-in_err-add-clause-keeps : goal.add_all-returns-in_err-add-clause-keeps
add_all-returns-in_err-add-clause-keeps g t c =
    λ m. c.in_err-add.ensures.keeps m ∙ c.loop-e.invariant.keeps m

pub add_all-loop-e-preserved : goal.add_all-loop-e-preserved
add_all-loop-e-preserved g t c = record {
  cost = λ m qs new h. c.loop-e.invariant.cost m qs new
      (all_step (context_at c.args.here.now m) (where_at c.args.here.now) c.args.here.now.shaded
      c.args.es.now c.loop-e.e-index c.e-item.result c.loop-e.self c.add.new.self new
      (state_of c.args.frame.now c.args.world.now qs)
      (state_of c.args.frame.now c.loop-e.world qs) c.loop-e-test.true c.e-item.is
      (c.loop-e.invariant.same m c.args.frame.now qs) (c.in_ok-add.ensures.cost m qs) h);
  same = λ m f qs. c.in_ok-add.ensures.same m f qs ∙ c.loop-e.invariant.same m f qs;
  keeps = λ m. c.in_ok-add.ensures.keeps m ∙ c.loop-e.invariant.keeps m;
}

pub add_all-returns-clause-cost : goal.add_all-returns-clause-cost
add_all-returns-clause-cost g t c =
    λ m qs. c.loop-e.invariant.cost m qs c.loop-e.self
    (all_end (context_at c.args.here.now m) (where_at c.args.here.now) c.args.here.now.shaded
    c.args.es.now c.loop-e.e-index (state_of c.args.frame.now c.args.world.now qs) c.loop-e.self
    c.loop-e-test.false)

pub add_place-returns-in_err-add-in-Index-clause-keeps
    : goal.add_place-returns-in_err-add-in-Index-clause-keeps
add_place-returns-in_err-add-in-Index-clause-keeps g t c =
    λ m. c.in_err-add-in-Index.ensures.keeps m ∙ c.loop-accessor.invariant.keeps m

pub add_place-loop-accessor-preserved : goal.add_place-loop-accessor-preserved
add_place-loop-accessor-preserved g t c =
    let loop = c.loop-accessor in
    let list = c.as_slice-accessor-items.result.now in
    let f = c.args.frame.now in
    elim c.match-accessor.branch [
      | goal.add_place-in-Index+in_ok-add-in-Index+in_ok-index-in-Index+in_ok-push-in-Index w ↦
          rw (w.self-is, w.world-is, w.root-is, w.indices-is) record {
            cost = λ m qs new h. loop.invariant.cost m qs new
                (index_step (context_at c.args.here.now m) (where_at c.args.here.now)
                c.args.here.now.shaded c.args.place.now.meant (root_of loop.root)
                loop.indices.items w.push.new.self.items list loop.accessor-index
                c.accessor-item.result w.in-Index.e w.in_ok-index-in-Index.index
                (state_of f c.args.world.now qs) (state_of f loop.world qs)
                (state_of f w.add.new.world qs) loop.self w.add.new.self new
                c.loop-accessor-test.true c.accessor-item.is w.in-Index.is
                (loop.invariant.same m f qs)
                (w.in_ok-add-in-Index.ensures.same m f qs ∙ loop.invariant.same m f qs)
                (w.in_ok-index-in-Index.ensures.value m qs)
                w.in_ok-push-in-Index.ensures.items (w.in_ok-add-in-Index.ensures.cost m qs) h);
            same = λ m frame qs. w.in_ok-index-in-Index.ensures.same m frame qs
                ∙ w.in_ok-add-in-Index.ensures.same m frame qs
                ∙ loop.invariant.same m frame qs;
            keeps = λ m. w.in_ok-index-in-Index.ensures.keeps m
                ∙ w.in_ok-add-in-Index.ensures.keeps m ∙ loop.invariant.keeps m;
          }
      | goal.add_place-in-Member+in_ok-source_or_lost-in-Member w ↦
          rw (w.self-is, w.world-is, w.root-is, w.indices-is) record {
            cost = λ m qs new h. loop.invariant.cost m qs new
                (member_step (context_at c.args.here.now m) (where_at c.args.here.now)
                c.args.here.now.shaded c.args.place.now.meant (root_of loop.root)
                (Found (origin_from w.in_ok-source_or_lost-in-Member.field-0)) loop.indices.items
                w.new-indices-in-Member.result.items list loop.accessor-index
                c.accessor-item.result w.in-Member.name (state_of f c.args.world.now qs)
                loop.self new c.loop-accessor-test.true c.accessor-item.is w.in-Member.is
                w.new-indices-in-Member.ensures.items
                (w.in_ok-source_or_lost-in-Member.ensures _
                (rw (
                  w.reading-r.ensures,
                  c.site-site.ensures,
                  w.as_slice.ensures.value,
                  w.as_slice-in-Member.ensures,
                ) at (w.inner_source-found.ensures (counts_of c.args.world.now.added)))) h);
            same = λ m frame qs. loop.invariant.same m frame qs;
            keeps = λ m. loop.invariant.keeps m;
          }
    ]

pub add_place-returns-in-Ok-clause-same : goal.add_place-returns-in-Ok-clause-same
add_place-returns-in-Ok-clause-same g t c =
    λ m f qs. on_ok_weaker c.read.result (λ h. c.loop-accessor.invariant.same m f qs)
    c.read.ensures

pub add_place-returns-in-Ok-clause-cost : goal.add_place-returns-in-Ok-clause-cost
add_place-returns-in-Ok-clause-cost g t c =
    λ m qs.
    let k = context_at c.args.here.now m in
    let w = where_at c.args.here.now in
    let dark = c.args.here.now.shaded in
    let p = c.args.place.now in
    let s = state_of c.args.frame.now c.args.world.now qs in
    let list = c.as_slice-accessor-items in
    let loop = c.loop-accessor in
    let whole = place_is k w dark p (Named p.meant) s
    ∙ ap (λ l. M.place_cost k w dark p.meant (Named p.meant) [] (as_accessors l) s)
    (sym list.ensures) in
    subst (λ x. OnOk c.read.result (Adds c.args.self.now c.read.new.self x)) (sym whole)
    (on_ok_weaker c.read.result (λ h. loop.invariant.cost m qs c.read.new.self
    (place_end k w dark p.meant (root_of loop.root) loop.indices.items list.result.now
    loop.accessor-index s (Ok (origin_from c.in-Ok.source)) loop.self c.read.new.self
    c.loop-accessor-test.false
    (rw c.site-site.ensures at (c.in-Ok.ensures (counts_of c.args.world.now.added))) h))
    (rw c.as_slice-in-Ok.ensures.value at c.read.ensures))

pub add_place-returns-in-Err-Refused-clause-cost : goal.add_place-returns-in-Err-Refused-clause-cost
add_place-returns-in-Err-Refused-clause-cost g t c =
    λ m qs.
    let k = context_at c.args.here.now m in
    let w = where_at c.args.here.now in
    let dark = c.args.here.now.shaded in
    let p = c.args.place.now in
    let s = state_of c.args.frame.now c.args.world.now qs in
    let list = c.as_slice-accessor-items in
    let loop = c.loop-accessor in
    let whole = place_is k w dark p (Named p.meant) s
    ∙ ap (λ l. M.place_cost k w dark p.meant (Named p.meant) [] (as_accessors l) s)
    (sym list.ensures) in
    let e = refused_of c.in-Err-Refused.field-0-0 in
    subst (Adds c.args.self.now loop.self) (sym whole)
    (loop.invariant.cost m qs loop.self
    (place_end k w dark p.meant (root_of loop.root) loop.indices.items list.result.now
    loop.accessor-index s (Err e) loop.self loop.self c.loop-accessor-test.false
    (told c.in-Err-Refused.field-0-0 _ (rw (c.in-Err-Refused.field-0-is, c.site-site.ensures)
    at (c.in-Err-Refused.ensures (counts_of c.args.world.now.added))))
    (subst (λ cells. Adds loop.self loop.self (read_alone cells))
    (sym (reads_refused w p.meant loop.indices.items e)) (adds_none loop.self))))
