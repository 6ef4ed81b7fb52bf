use Rattle.cir_simplify.proofs.Over.{over}
use Rattle.cir_simplify.proofs.laws.wire_values.Goals as goal

pub returns : goal.returns
returns c =
    λ r list end a b w h. over r list end
    (λ k d l. record { normal = a k d l; rises = b k d l; within = w k d l }) h
