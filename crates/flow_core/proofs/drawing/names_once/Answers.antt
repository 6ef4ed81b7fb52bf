use Rattle.std.proofs.Common.{◌≡◌, ℕ, ◌+◌, List, length, subst, ◌∙◌}
use Rattle.flow_core.specs.Drawn.{row, CanMark}
use Rattle.flow_core.proofs.Marks.{names_no, row_read}
use Rattle.flow_core.proofs.drawing.names_once.Goals as goal

pub returns-then-not-mark : goal.returns-then-not-mark
returns-then-not-mark c = let at : c.as_slice.result.now
    ≡ row c.args.lists.now c.loop-strand.strand = c.as_slice.ensures
    ∙ row_read c.args.lists.now c.loop-strand.strand c.index-lists-strand.result
    c.loop-strand-test.true c.index-lists-strand.is in
    let P : List ℕ → Type 0 = λ cs. CanMark c.loop-strand.marks cs (c.loop-strand.strand + 1)
    → ⊥ in (
      (λ e. cc),
      λ names. absurd (names_no c.loop-strand.marks c.args.lists.now c.loop-strand.strand
          (length c.args.marks.now) c.loop-strand.auto.marks c.loop-strand.invariant.marks
          (subst P at c.if-not-mark.ensures) names),
    )
