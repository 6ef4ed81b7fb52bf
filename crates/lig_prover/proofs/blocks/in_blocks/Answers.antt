use Rattle.std.proofs.Common.{ℕ, List, [], get_or, Ok, ap, ◌∙◌}
use Rattle.std.specs.List.{flat_map}
use Rattle.rayon.proofs.ListFacts.{IfOk-then}
use Rattle.lig_proof.proofs.Collected.{at_first, placed_length}
use Rattle.lig_prover.proofs.Placing.{blocks_joined}
use Rattle.lig_prover.proofs.blocks.in_blocks.Goals as goal

pub returns : goal.returns
returns g c =
    let n = c.args.blocks in
    let parts = c.in_ok-parts.parts.items in
    let Post = λ (b : ℕ) (xs : List ℕ). g.F.Fn.post c.args.f (b, tt) (Ok xs) in
    IfOk-then c.joined.result _ _ c.joined.ensures (λ v flat. λ size f is.
    flat ∙ ap (flat_map (λ part. part)) c.deref.ensures.value
    ∙ blocks_joined f size n parts (placed_length Post 0 n parts c.in_ok-parts.ensures)
    (λ b low. is b (get_or parts b []) low
    (at_first Post n parts [] c.in_ok-parts.ensures b low)))
