use Rattle.std.proofs.Common.{refl, lit≤}
use Rattle.field_tests.proofs.transforms.one_has_the_value_1_everywhere.Goals as goal

pub ntt-requires : goal.ntt-requires
ntt-requires g c = record { log = 2; small = lit≤ tt; power = refl }
