use Rattle.std.proofs.Common.{◌*◌, ◌+◌}
use Rattle.cir_inst.proofs.bodies.+making.Given as goal

abbrev pub decreases-make_component : goal.decreases-make_component
decreases-make_component l = 3 * l.opening.room

abbrev pub decreases-run_template : goal.decreases-run_template
decreases-run_template l = 3 * l.opening.room + 2

abbrev pub decreases-run_template-make : goal.decreases-run_template-make
decreases-run_template-make l = 3 * l.opening.room + 1
