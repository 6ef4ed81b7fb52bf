use Rattle.std.proofs.Common.{◌≡◌, ℕ, ◌+◌, ◌-◌, ◌<◌, List, [], ◌∷◌, ◌++◌, length, take, get_or, sym}
use Rattle.std.proofs.Common.{◌∙◌, subst, arith}
use Rattle.flow_core.specs.Drawn.{row, Links}
use Rattle.flow_core.proofs.Totals.{is_in_at}
use Rattle.flow_core.proofs.Marks.{row_default}
use Rattle.flow_core.proofs.Linked.{links_skip, links_kept, links_new}
use Rattle.flow_core.proofs.linking.link.Goals as goal
use Rattle.flow_core.proofs.linking.link.Goals.{then-not-ends_in+in_ok-push+in_ok-push_at}
use Rattle.flow_core.proofs.linking.link.Goals.{else-not-ends_in}

pub bounds-marks-cell : goal.bounds-marks-cell
bounds-marks-cell c = c.requires.near (get_or c.args.cells.now c.loop-cell.cell-index 0)
    (is_in_at c.args.cells.now c.loop-cell.cell-index c.loop-cell-test.true)

pub loop-cell-preserved-then-writer-eq0 : goal.loop-cell-preserved-then-writer-eq0
loop-cell-preserved-then-writer-eq0 c =
    links_skip c.args.marks.now c.args.strand c.args.cells.now c.args.succs.now c.loop-cell.succs
    c.loop-cell.preds c.loop-cell.cell-index c.loop-cell-test.true c.loop-cell.invariant
    c.if-writer-eq0.true

pub returns-then-pred-strand-clause-none : goal.returns-then-pred-strand-clause-none
returns-then-pred-strand-clause-none c = let x : ℕ =
    get_or c.args.cells.now c.loop-cell.cell-index 0 in let some = c.if-writer-eq0.false in
    let late = c.if-pred-strand.true in (
      x,
      get_or c.args.marks.now x 0 - 1,
      is_in_at c.args.cells.now c.loop-cell.cell-index c.loop-cell-test.true,
      (omega arith),
      late,
    )

pub loop-cell-preserved : goal.loop-cell-preserved
loop-cell-preserved c = let cells = c.args.cells.now in let i = c.loop-cell.cell-index in
    let p : ℕ = get_or c.args.marks.now (get_or cells i 0) 0 - 1 in
    let some = c.if-writer-eq0.false in let early = c.if-pred-strand.false in
    let writer : get_or c.args.marks.now (get_or cells i 0) 0 ≡ p + 1 = omega arith in
    let at : c.as_slice.result.now ≡ row c.loop-cell.succs p = c.as_slice.ensures
    ∙ row_default c.loop-cell.succs p c.index-succs-pred.result
    (let w = c.loop-cell.auto.succs in let n = c.requires.narrow in omega arith) in
    let E : List ℕ → Type 0 = λ l. (0 < length l) × (get_or l (length l - 1) 0 ≡ c.args.strand) in
    elim c.if-not-ends_in.branch [
      | then-not-ends_in+in_ok-push+in_ok-push_at w ↦ (
          let new : (0 < length (row c.loop-cell.succs p))
          × (get_or (row c.loop-cell.succs p) (length (row c.loop-cell.succs p) - 1) 0
          ≡ c.args.strand) → ⊥ = λ e. let t = c.ends_in.ensures.1 (subst E (sym at) e) in
          let f = w.if-not-ends_in.true in cc in
          let added = links_new c.args.marks.now c.args.strand cells c.args.succs.now
          c.loop-cell.succs c.loop-cell.preds i c.loop-cell-test.true c.loop-cell.invariant p
          writer early c.requires.narrow new in
          let S : List (List ℕ) → Type 0 = λ ss. Links c.args.marks.now c.args.strand
          (take (i + 1) cells) c.args.succs.now ss (c.loop-cell.preds ++ p ∷ []) in
          let R : List ℕ → Type 0 = λ ps. Links c.args.marks.now c.args.strand
          (take (i + 1) cells) c.args.succs.now c.if-not-ends_in.succs ps in
          subst R (sym (w.preds-is ∙ w.in_ok-push.ensures.ok))
          (subst S (sym (w.succs-is ∙ w.in_ok-push_at.ensures)) added))
      | else-not-ends_in w ↦ (
          let ends = subst E at (c.ends_in.ensures.0 w.if-not-ends_in.false) in
          let kept = links_kept c.args.marks.now c.args.strand cells c.args.succs.now
          c.loop-cell.succs c.loop-cell.preds i c.loop-cell-test.true c.loop-cell.invariant p
          writer ends.0 ends.1 in
          let S : List (List ℕ) → Type 0 = λ ss. Links c.args.marks.now c.args.strand
          (take (i + 1) cells) c.args.succs.now ss c.loop-cell.preds in
          let R : List ℕ → Type 0 = λ ps. Links c.args.marks.now c.args.strand
          (take (i + 1) cells) c.args.succs.now c.if-not-ends_in.succs ps in
          subst R (sym w.preds-is) (subst S (sym w.succs-is) kept))
    ]
