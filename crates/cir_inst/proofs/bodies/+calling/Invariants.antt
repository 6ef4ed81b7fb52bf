use Rattle.std.proofs.Common.{◌*◌, ◌+◌}
use Rattle.cir_inst.proofs.bodies.+calling.Given as goal

abbrev pub decreases-call_function : goal.decreases-call_function
decreases-call_function l = 3 * l.opening.room

abbrev pub decreases-run_function : goal.decreases-run_function
decreases-run_function l = 3 * l.opening.room + 2

abbrev pub decreases-run_function-call : goal.decreases-run_function-call
decreases-run_function-call l = 3 * l.opening.room + 1
