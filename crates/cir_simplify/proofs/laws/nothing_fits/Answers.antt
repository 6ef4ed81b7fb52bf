use Rattle.cir_simplify.proofs.Ends.{ends}
use Rattle.cir_simplify.proofs.laws.nothing_fits.Goals as goal

pub returns : goal.returns
returns c =
    λ r list end a b w h. ends r list end
    (λ k d l. record { normal = a k d l; rises = b k d l; within = w k d l }) h
