use Rattle.std.proofs.Common.{ℕ, ◌<◌, List, All, sym, subst, arith}
use Rattle.lig_merkle.specs.Shared.{AreOpened}
use Rattle.proof_tests.proofs.forged.forged.Goals as goal

pub put_alone-requires : goal.put_alone-requires
put_alone-requires g c = λ k d low.
    let Below : List ℕ → Type 0 = λ xs. All (λ i. i < 1024) xs in
    let drawn = subst Below (sym c.deref-in-One-2.ensures.value) c.drawn_for-drawn.ensures.below in
    omega (arith, drawn k d low, c.tree_over-tree.ensures.leaves)

pub put_shared-requires : goal.put_shared-requires
put_shared-requires g c =
    let Opened : List ℕ → Type 0 = λ xs. AreOpened 10 xs in
    let Deep : ℕ → Type 0 = λ depth. AreOpened depth c.deref-in-Two-3.result.now in
    subst Deep (sym c.tree_over-tree.ensures.depth)
    (subst Opened (sym c.deref-in-Two-3.ensures.value) c.each_once-opened.ensures)
