use Rattle.std.proofs.Common.{◌≡◌, ℕ, ◌+◌, List, subst, ◌∙◌}
use Rattle.flow_core.specs.Drawn.{row, CanMark, IsMarked}
use Rattle.flow_core.proofs.Marks.{claims_more, claims_no, row_read, claims_kept}
use Rattle.flow_core.proofs.drawing.claim.Goals as goal

pub returns-then-not-mark : goal.returns-then-not-mark
returns-then-not-mark c = let at : c.as_slice.result.now
    ≡ row c.args.writes.now c.loop-strand.strand = c.as_slice.ensures
    ∙ row_read c.args.writes.now c.loop-strand.strand c.index-writes-strand.result
    c.loop-strand-test.true c.index-writes-strand.is in
    let P : List ℕ → Type 0 = λ cs. CanMark c.loop-strand.marks cs 1 → ⊥ in
    claims_kept c.args.marks.now c.loop-strand.marks c.args.writes.now c.loop-strand.auto.marks
    (claims_no c.loop-strand.marks c.mark.new.marks c.args.writes.now c.loop-strand.strand
    c.loop-strand.invariant (subst P at c.if-not-mark.ensures))

pub loop-strand-preserved : goal.loop-strand-preserved
loop-strand-preserved c = let at : c.as_slice.result.now
    ≡ row c.args.writes.now c.loop-strand.strand = c.as_slice.ensures
    ∙ row_read c.args.writes.now c.loop-strand.strand c.index-writes-strand.result
    c.loop-strand-test.true c.index-writes-strand.is in
    let P : List ℕ → Type 0 = λ cs. IsMarked c.loop-strand.marks c.mark.new.marks cs
    (c.loop-strand.strand + 1) 1 in
    claims_more c.loop-strand.marks c.mark.new.marks c.args.writes.now c.loop-strand.strand
    c.loop-strand.invariant c.mark.auto.marks (subst P at c.if-not-mark.ensures)
