use Rattle.std.proofs.Common.{◌+◌, List, ℕ, sym, subst}
use Rattle.lig_proof.proofs.Draws.{Drawing, drawn_more}
use Rattle.lig_proof.proofs.drawing.draw.Goals as goal

pub loop-preserved : goal.loop-preserved
loop-preserved c =
    let start = c.args.words.now in
    let before = c.args.out.now.items in
    let Out : List ℕ → Type 0 =
    λ out. Drawing start before c.args.count (c.loop.counter + 1) c.next_number.new.words out in
    subst Out (sym c.in_ok-push.ensures.items)
    (drawn_more start before c.args.count c.loop.counter c.loop.words c.next_number.new.words
    c.loop.out.items c.next_number.result c.loop-test.true c.next_number.ensures.value
    c.next_number.ensures.after c.loop.invariant)
