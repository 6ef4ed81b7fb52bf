use Rattle.std.proofs.Common.{◌+◌, ◌*◌}
use Rattle.language_tests.proofs.expressions.+shapes.Given as goal

abbrev pub decreases-shape : goal.decreases-shape
decreases-shape g l = 4 * l.depth

abbrev pub decreases-part : goal.decreases-part
decreases-part g l = 4 * l.depth + 1

abbrev pub decreases-shapes : goal.decreases-shapes
decreases-shapes g l = 4 * l.depth + 1

abbrev pub decreases-accessors : goal.decreases-accessors
decreases-accessors g l = 4 * l.depth + 2

abbrev pub decreases-inputs : goal.decreases-inputs
decreases-inputs g l = 4 * l.depth + 3

abbrev pub decreases-named : goal.decreases-named
decreases-named g l = 4 * l.depth + 2
