use Rattle.std.proofs.Common.{◌*◌, ◌+◌}
use Rattle.cir_body.proofs.bodies.+casting.Given as goal

abbrev pub decreases-cast_component : goal.decreases-cast_component
decreases-cast_component l = 3 * l.opening.room

abbrev pub decreases-cast_template : goal.decreases-cast_template
decreases-cast_template l = 3 * l.opening.room + 2

abbrev pub decreases-cast_template-make : goal.decreases-cast_template-make
decreases-cast_template-make l = 3 * l.opening.room + 1
