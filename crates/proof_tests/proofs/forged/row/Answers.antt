use Rattle.std.proofs.Common.{refl, lit≤}
use Rattle.proof_tests.proofs.forged.row.Goals as goal

pub interpolate-requires : goal.interpolate-requires
interpolate-requires g c = record { log = 7; small = lit≤ tt; power = refl }
