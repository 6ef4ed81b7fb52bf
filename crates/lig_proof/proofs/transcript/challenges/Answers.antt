use Rattle.std.proofs.Common.{length, ap, ◌∙◌}
use Rattle.lig_proof.proofs.Draws.{length_twice}
use Rattle.lig_proof.proofs.transcript.challenges.Goals as goal

pub returns-clause-alpha : goal.returns-clause-alpha
returns-clause-alpha c =
    ap length c.of.ensures
    ∙ length_twice c.args.params.now.rows c.from_seed-words.result c.draw-3.new.words
    c.in_ok-alpha.alpha.items c.draw.new.out.items c.draw-4.new.out.items
    c.in_ok-alpha.ensures.items c.in_ok-draw.ensures.drawn c.in_ok-draw-4.ensures.drawn

pub returns-clause-r : goal.returns-clause-r
returns-clause-r c =
    ap length c.of-2.ensures
    ∙ length_twice c.args.equations c.draw.new.words c.draw-4.new.words c.in_ok-r.r.items
    c.draw-2.new.out.items c.draw-5.new.out.items c.in_ok-r.ensures.items
    c.in_ok-draw-2.ensures.drawn c.in_ok-draw-5.ensures.drawn

pub returns-clause-rho : goal.returns-clause-rho
returns-clause-rho c =
    ap length c.of-3.ensures
    ∙ length_twice c.args.params.now.constraint_rows c.draw-2.new.words c.draw-5.new.words
    c.in_ok-rho.rho.items c.draw-3.new.out.items c.draw-6.new.out.items c.in_ok-rho.ensures.items
    c.in_ok-draw-3.ensures.drawn c.in_ok-draw-6.ensures.drawn
