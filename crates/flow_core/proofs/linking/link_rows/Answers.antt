use Rattle.std.proofs.Common.{◌≡◌, ℕ, ◌+◌, [], List, length, Option, IfSome, subst, sym, ◌∙◌}
use Rattle.flow_core.specs.Counts.{IsIn}
use Rattle.flow_core.specs.Drawn.{row, Links, AreLinked}
use Rattle.flow_core.proofs.Marks.{row_read}
use Rattle.flow_core.proofs.Linked.{linked_none, linked_more}
use Rattle.flow_core.proofs.linking.link_rows.Goals as goal

pub loop-strand-init : goal.loop-strand-init
loop-strand-init c = let P : List (List ℕ)
    → Type 0 = λ ss. AreLinked c.args.marks.now c.args.reads.now [] ss 0 in
    let Q : List (List ℕ) → Type 0 =
    λ ps. AreLinked c.args.marks.now c.args.reads.now ps c.args.succs.now 0 in
    subst Q (sym c.in_ok-preds.ensures.items)
    (subst P (sym c.requires.empty)
    (linked_none c.args.marks.now c.args.reads.now (length c.args.reads.now)))

pub link-requires-clause-near : goal.link-requires-clause-near
link-requires-clause-near c = let n : ℕ = c.loop-strand.strand in
    let at : c.as_slice.result.now ≡ row c.args.reads.now n = c.as_slice.ensures
    ∙ row_read c.args.reads.now n c.index-reads-strand.result c.loop-strand-test.true
    c.index-reads-strand.is in
    λ x here. let P : List ℕ → Type 0 = λ cs. IsIn x cs in c.requires.near n x (subst P at here)

pub loop-strand-preserved : goal.loop-strand-preserved
loop-strand-preserved c = let n : ℕ = c.loop-strand.strand in
    let at : c.as_slice.result.now ≡ row c.args.reads.now n = c.as_slice.ensures
    ∙ row_read c.args.reads.now n c.index-reads-strand.result c.loop-strand-test.true
    c.index-reads-strand.is in
    let F : Option (List ℕ) → Type 0 =
    λ o. IfSome o (λ ps. Links c.args.marks.now n c.as_slice.result.now c.loop-strand.succs
    c.link.new.succs ps) in
    let L : List ℕ → Type 0 = λ cs. Links c.args.marks.now n cs c.loop-strand.succs
    c.link.new.succs c.in-Some.found in
    let links = subst L at (subst F c.in-Some.is c.in_ok-found.ensures.some) in
    let Q : List (List ℕ) → Type 0 =
    λ ps. AreLinked c.args.marks.now c.args.reads.now ps c.link.new.succs (n + 1) in
    subst Q (sym c.in_ok-push.ensures.items)
    (linked_more c.args.marks.now c.args.reads.now c.loop-strand.preds.items
    c.loop-strand.succs c.link.new.succs n c.in-Some.found c.loop-strand.invariant links)
