use Rattle.std.proofs.Common.{◌≡◌, ap, sym, ◌∙◌, arith, List, ◌++◌, ◌∷◌, [], ℕ}
use Rattle.cir_determined.specs.Marks.{Marks, marks_of}
use Rattle.cir_determined.proofs.Marking.{coefs_next_known, coefs_next_more}
use Rattle.cir_determined.proofs.marks.unknown_coefs.Goals as goal
use Rattle.cir_determined.proofs.marks.unknown_coefs.Goals.{then-not-is_known+in_ok-push}
use Rattle.cir_determined.proofs.marks.unknown_coefs.Goals.{else-not-is_known}

pub loop-t-preserved : goal.loop-t-preserved
loop-t-preserved c =
    let m : Marks = marks_of c.args.marks.now in
    elim c.if-not-is_known.branch [
      | then-not-is_known+in_ok-push w ↦
          let more = coefs_next_more m c.args.terms.now c.loop-t.t-index c.t-item.result
          (omega arith) c.t-item.is (sym w.if-not-is_known.ensures) in
          let pushed : c.if-not-is_known.coefs.items
          ≡ c.loop-t.coefs.items ++ c.t-item.result.coef ∷ [] =
          cc (w.in_ok-push.ensures.items, w.coefs-is) in
          pushed ∙ ap (λ (xs : List ℕ). xs ++ c.t-item.result.coef ∷ []) c.loop-t.invariant
          ∙ sym more
      | else-not-is_known w ↦
          let same = coefs_next_known m c.args.terms.now c.loop-t.t-index c.t-item.result
          (omega arith) c.t-item.is (sym w.if-not-is_known.ensures) in
          let kept : c.if-not-is_known.coefs.items ≡ c.loop-t.coefs.items = cc (w.coefs-is) in
          kept ∙ c.loop-t.invariant ∙ sym same
    ]
