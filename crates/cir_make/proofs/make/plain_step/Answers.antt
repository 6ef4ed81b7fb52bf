use Rattle.std.proofs.Common.{None, refl}
use Rattle.cir_steps.specs.Emission.{known_in}
use Rattle.cir_make.proofs.Leading.{stands_here}
use Rattle.cir_make.proofs.make.plain_step.Goals as goal

pub returns-clause-made : goal.returns-clause-made
returns-clause-made g c = λ m qs first x steps cost shaded same kept.
    c.make_step.ensures.made m qs c.args.frame.now first x steps (known_in x) cost None shaded refl
    same (stands_here c.args.frame.now c.args.world.now qs x same) kept
