use Rattle.std.proofs.Common.{◌≡◌, []}
use Rattle.std.specs.Prelude.{All, vec_len}
use Rattle.flow_engine.specs.Lent.{IsHand}
use Rattle.flow_engine.proofs.lend.empty_hands.Given as goal

abbrev pub invariant-loop : goal.invariant-loop
invariant-loop l = record {
  hands : All (λ h. IsHand [] h.items) l.hands.items;
  each : vec_len l.hands ≡ l.counter;
}
