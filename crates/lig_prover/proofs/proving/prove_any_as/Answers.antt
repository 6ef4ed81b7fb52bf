use Rattle.std.proofs.Common.{◌≡◌, ◌*◌, length, map, ap, ◌∙◌}
use Rattle.std.specs.List.{range_with_len}
use Rattle.std.proofs.lemmas.List.FromFn.{length-map-range_with_len}
use Rattle.rayon.proofs.ListFacts.{IfOk-then}
use Rattle.std.proofs.lemmas.Result.{IfOk-at_ok}
use Rattle.lig_layout.specs.Laws.{publics_of}
use Rattle.lig_merkle.specs.Merkle.{leaf_hash, root_at}
use Rattle.lig_proof.specs.Columns.{commitment}
use Rattle.lig_proof.specs.Proving.{AreMade, IsEncoded, bytes_in, proof_spelling}
use Rattle.lig_proof.specs.Transcript.{first_key, challenges_of, queries}
use Rattle.lig_prover.specs.Matrix.{AreCodewords, column_in, encoded_by}
use Rattle.lig_prover.proofs.Made.{made_for, leaves_same, spelled_same}
use Rattle.lig_prover.proofs.proving.prove_any_as.Goals as goal

pub proof_in-requires-clause-leaves : goal.proof_in-requires-clause-leaves
proof_in-requires-clause-leaves g c =
    let p = c.of-params.result in
    let codewords = c.deref.result.now in
    ap length c.in_ok-tree.ensures.leaves ∙ length-map-range_with_len
    (λ i. leaf_hash (column_in codewords i)) 0 (8 * p.l)

pub proof_in-requires-clause-below : goal.proof_in-requires-clause-below
proof_in-requires-clause-below g c = rw c.deref-5.ensures.value c.in_ok-drawn.ensures.below

pub returns : goal.returns
returns g c =
    let p = c.of-params.result in
    let h = c.of-params.ensures.params in
    let f = c.args.file.now in
    let v = c.args.vectors.now in
    let seed = c.args.seed in
    let version = c.args.version in
    let r1cs_bytes = c.args.r1cs_bytes.now in
    let polys = c.in_ok-polynomials.polynomials.items in
    let codewords = c.in_ok-polynomials.codewords.items in
    let encoded = IfOk-at_ok (λ m. IsEncoded p v seed (encoded_by p m.0.items)
    × AreCodewords p m.0.items m.1.items) c.in_ok-polynomials.was c.join-encoded.ensures.second in
    let are = encoded.1 in
    let e = encoded_by p polys in
    let challenges = c.in_ok-challenges.challenges in
    let all = c.in_ok-polys.polys.items in
    let drawn = c.in_ok-drawn.drawn.items in
    let tree = c.in_ok-tree.tree.hashes in
    let hashes = c.in_ok-tree.ensures.leaves
    ∙ ap (λ cs. map (λ i. leaf_hash (column_in cs i)) (range_with_len 0 (8 * p.l)))
    c.deref.ensures.value
    ∙ leaves_same p polys codewords h are in
    let root : c.root.result ≡ commitment p e =
    c.root.ensures ∙ (λ i. root_at (c.in_ok-tree.ensures.depth i) (hashes i)) in
    let publics = c.publics_of-publics.ensures ∙ ap (publics_of f) c.as_slice.ensures in
    let equations = c.equation_count-equations.ensures in
    let sent = c.in_ok-polys.ensures in
    let columns = c.in_ok-drawn.ensures.columns
    ∙ ap (queries p challenges.first) (c.deref-3.ensures.value ∙ sent.2) in
    IfOk-then c.proof_in.result _ (λ bytes. AreMade version r1cs_bytes f v seed bytes.items)
    c.proof_in.ensures
    (λ bytes made. made_for p version r1cs_bytes f v seed bytes.items polys challenges sent.0
    c.of-params.ensures.value
    (record {
      rows = encoded.0;
      challenges_drawn = c.in_ok-challenges.ensures.value ∙ (λ i. challenges_of p (equations i)
          (first_key (c.join-encoded.ensures.first i) (publics i) (root i)));
      systems = sent.1;
      spelled = made ∙ (λ i. proof_spelling version p (column_in (c.deref-4.ensures.value i)) tree
          all (c.deref-5.ensures.value i))
          ∙ spelled_same version p polys codewords tree all drawn h are hashes
          c.in_ok-drawn.ensures.below
          ∙ (λ i. bytes_in version p e (sent.2 i) (columns i));
    }))
