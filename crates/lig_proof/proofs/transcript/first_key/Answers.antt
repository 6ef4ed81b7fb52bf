use Rattle.std.proofs.Common.{◌≡◌, List, ℕ, [], ◌++◌, codes, ap, ◌∙◌, refl, append_assoc}
use Rattle.sha2.specs.Sha256.{sha256}
use Rattle.lig_merkle.specs.Merkle.{column_bytes}
use Rattle.lig_proof.proofs.transcript.first_key.Goals as goal

regroup : (a b c d e : List ℕ) → (((a ++ b) ++ c) ++ d) ++ e ≡ a ++ (b ++ (c ++ (d ++ e)))
regroup a b c d e = simp append_assoc

-- the message, piece by piece
pub returns : goal.returns
returns c =
    let name = codes "circom_gold 1" in
    let file = c.args.relation.now.digest in
    let count = c.to_le_bytes.result in
    let publics = column_bytes c.args.publics.now in
    let root = c.as_slice.result.now in
    let named = c.update.ensures [] c.new-hasher.ensures in
    let filed = c.update-2.ensures name named in
    let counted = c.update-3.ensures (name ++ file) filed in
    let publicised = c.absorb.ensures ((name ++ file) ++ count) counted in
    let rooted = c.update-4.ensures (((name ++ file) ++ count) ++ publics) publicised in
    c.finalize.ensures ((((name ++ file) ++ count) ++ publics) ++ root) rooted
    ∙ ap sha256 (regroup name file count publics root)
    ∙ rw (c.args.relation.now.digested, c.to_le_bytes.ensures, c.as_slice.ensures) refl
