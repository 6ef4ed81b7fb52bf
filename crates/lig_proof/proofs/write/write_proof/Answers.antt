use Rattle.std.proofs.Common.{◌≡◌, List, ℕ, ◌++◌, ap, ◌∙◌, append_assoc}
use Rattle.lig_merkle.specs.Merkle.{column_bytes}
use Rattle.lig_proof.specs.ProofBytes.{proof_bytes, head_bytes, openings_bytes}
use Rattle.lig_proof.proofs.write.write_proof.Goals as goal

-- four pieces, one behind the other
pieces : (a b c d h r v o : List ℕ) → a ≡ h → b ≡ a ++ r → c ≡ b ++ v → d ≡ c ++ o
    → d ≡ h ++ (r ++ (v ++ o))
pieces a b c d h r v o ea eb ec ed = rw (ed, ec, eb, ea) (simp append_assoc)

pub returns : goal.returns
unfolding proof_bytes
returns c =
    let proof = c.args.proof.now in
    let values = c.in_ok-put_values.ensures
    ∙ ap (λ x. c.put_hash.new.out.items ++ column_bytes x) c.as_slice.ensures in
    let openings = c.in_ok-put_openings.ensures
    ∙ ap (λ x. c.put_values.new.out.items ++ openings_bytes x c.as_slice-3.result.now)
    c.as_slice-2.ensures
    ∙ ap (λ x. c.put_values.new.out.items ++ openings_bytes proof.columns x)
    c.as_slice-3.ensures in
    let head = c.in_ok-put_head.ensures ∙ ap (λ x. x ++ head_bytes 1) c.new-out.ensures.items in
    pieces c.put_head.new.out.items c.put_hash.new.out.items c.put_values.new.out.items
    c.put_openings.new.out.items (head_bytes 1) proof.root (column_bytes proof.polys)
    (openings_bytes proof.columns proof.paths) head c.in_ok-put_hash.ensures values openings
