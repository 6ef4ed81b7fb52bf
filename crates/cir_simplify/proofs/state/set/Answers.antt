use Rattle.cir_simplify.proofs.Noting.{set_indexed}
use Rattle.cir_simplify.proofs.state.set.Goals as goal

pub returns-clause-indexed : goal.returns-clause-indexed
returns-clause-indexed c =
    set_indexed c.args.rules c.args.s.now.rows.items c.args.i c.args.q _ _ _ _ _ _ c.requires.place
    c.requires.good (rw c.at.ensures at c.in_ok-note.ensures) c.in_ok-queue.ensures
    (rw c.at-2.ensures at c.in_ok-s.ensures) c.requires.indexed
