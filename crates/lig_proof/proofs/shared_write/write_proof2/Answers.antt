use Rattle.std.proofs.Common.{◌≡◌, List, ℕ, ◌++◌, ap, ◌∙◌, append_assoc}
use Rattle.std.specs.List.{flat_map}
use Rattle.lig_merkle.specs.Merkle.{column_bytes}
use Rattle.lig_proof.specs.ProofBytes.{head_bytes, hashes_bytes}
use Rattle.lig_proof.specs.SharedProof.{proof2_bytes}
use Rattle.lig_proof.proofs.shared_write.write_proof2.Goals as goal

-- five pieces, one behind the other
pieces : (a b c d e h r v o s : List ℕ) → a ≡ h → b ≡ a ++ r → c ≡ b ++ v → d ≡ c ++ o → e ≡ d ++ s
    → e ≡ h ++ (r ++ (v ++ (o ++ s)))
pieces a b c d e h r v o s ea eb ec ed ee = rw (ee, ed, ec, eb, ea) (simp append_assoc)

pub returns : goal.returns
unfolding proof2_bytes
returns c =
    let proof = c.args.proof.now in
    let head = c.in_ok-put_head.ensures ∙ ap (λ x. x ++ head_bytes 2) c.new-out.ensures.items in
    let values = c.in_ok-put_values.ensures
    ∙ ap (λ x. c.put_hash.new.out.items ++ column_bytes x) c.as_slice.ensures in
    let columns = c.in_ok-put_columns.ensures
    ∙ ap (λ x. c.put_values.new.out.items ++ flat_map column_bytes x) c.as_slice-2.ensures in
    let nodes = c.in_ok-put_hashes.ensures
    ∙ ap (λ x. c.put_columns.new.out.items ++ hashes_bytes x) c.as_slice-3.ensures in
    pieces c.put_head.new.out.items c.put_hash.new.out.items c.put_values.new.out.items
    c.put_columns.new.out.items c.put_hashes.new.out.items
    (head_bytes 2) proof.root (column_bytes proof.polys) (flat_map column_bytes proof.columns)
    (hashes_bytes proof.nodes)
    head c.in_ok-put_hash.ensures values columns nodes
