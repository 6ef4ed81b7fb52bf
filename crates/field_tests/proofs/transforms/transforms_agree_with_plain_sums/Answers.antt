use Rattle.std.proofs.Common.{refl, lit≤}
use Rattle.field_tests.proofs.transforms.transforms_agree_with_plain_sums.Goals as goal

pub agree-requires : goal.agree-requires
agree-requires g c = record { log = 3; small = lit≤ tt; power = refl }

pub agree-requires-2 : goal.agree-requires-2
agree-requires-2 g c = record { log = 4; small = lit≤ tt; power = refl }
