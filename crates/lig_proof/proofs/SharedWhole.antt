-- Whole proofs of version 2: what is read is spelled so, and what is spelled so is read.
use Rattle.std.proofs.Common.{◌≡◌, ℕ, ◌-◌, ◌+◌, ◌*◌, ◌<◌, ◌==◌, List, []}
use Rattle.std.proofs.Common.{◌++◌, length, Result, Ok, Err, IfOk, refl, sym, ap}
use Rattle.std.proofs.Common.{◌∙◌, subst}
use Rattle.std.specs.List.{AllByRecursion, flat_map}
use Rattle.std.specs.Int.{w64, to_le_bytes}
use Rattle.std.proofs.lemmas.List.{append-nil}
use Rattle.std.proofs.lemmas.List.{nil_from_length}
use Rattle.std.proofs.lemmas.Bool.{eqb-true}
use Rattle.binary_format.specs.Reading.{Gives, ◌>>=◌, repeated, required}
use Rattle.binary_format.proofs.ReadBack.{ReadsBack, repeated_again}
use Rattle.gold_field.specs.declared.gold.TheConstants.{P}
use Rattle.lig_layout.specs.declared.params.Params.{Params}
use Rattle.lig_merkle.specs.Merkle.{column_bytes}
use Rattle.lig_merkle.specs.Shared.{shared_count}
use Rattle.lig_proof.specs.declared.shared_proof.Proof2.{Proof2}
use Rattle.lig_proof.specs.declared.fault.ProofFault.{ProofFault}
use Rattle.lig_proof.specs.ProofBytes.{head_bytes, hashes_bytes, IsHash, AreValues}
use Rattle.lig_proof.specs.SharedProof.{IsProof2, opened_for, proof2_bytes}
use Rattle.lig_proof.specs.Reading.{refused, head_of, next_value, next_hash}
use Rattle.lig_proof.specs.SharedReading.{proof2_of}
use Rattle.lig_proof.proofs.Takes.{IsBytes, TakesExactly, bind_ok}
use Rattle.lig_proof.proofs.Takes.{or_else, required_ok, repeated_takes, hash_takes, value_takes}
use Rattle.lig_proof.proofs.Whole.{each_of, head_takes, head_again, hash_again, values_again}

-- a column
column_takes : (end m : ℕ) → TakesExactly (repeated (next_value end) m) column_bytes (AreValues m)
column_takes end m = record {
  takes = λ bytes x rest h e.
      let taken =
      repeated_takes (next_value end) (to_le_bytes w64) (λ value. value < P)
      (value_takes end) m bytes x rest h e in
      record { whole = taken.0; fits = record { count = taken.1; each = taken.2 }; left = taken.3 };
}

-- what is read is a proof, and the bytes are its spelling
pub proof2_takes : (p : Params) (r1cs_bytes publics bytes : List ℕ) (proof : Proof2) → IsBytes bytes
    → proof2_of p r1cs_bytes publics bytes ≡ Ok proof
    → IsProof2 p (opened_for p r1cs_bytes publics proof.root proof.polys) proof
    × (bytes ≡ proof2_bytes proof)
unfolding proof2_of proof2_bytes
proof2_takes p r1cs_bytes publics bytes proof h e =
    let end = length bytes in
    let field = repeated (next_value end) (p.rows + 6) in
    let opened =
    λ (root : List ℕ). λ (polys : List ℕ). opened_for p r1cs_bytes publics root polys in
    let made : List ℕ → List ℕ → List (List ℕ) → List (List ℕ)
    → Proof2 =
    λ root polys columns nodes. record {
      root = root;
      polys = polys;
      columns = columns;
      nodes = nodes;
    } in
    let last : List ℕ → List ℕ → List (List ℕ) → (List (List ℕ) × List ℕ)
    → Result Proof2 ℕ =
    λ root polys columns nodes. required (length nodes.1 == 0) (end - length nodes.1) >>=
    λ _. Ok (made root polys columns nodes.0) in
    let from_columns : List ℕ → List ℕ → (List (List ℕ) × List ℕ)
    → Result Proof2 ℕ =
    λ root polys columns. repeated (next_hash end) (shared_count p.depth (opened root polys))
    columns.1 >>= last root polys columns.0 in
    let from_polys : List ℕ → (List ℕ × List ℕ)
    → Result Proof2 ℕ =
    λ root polys. repeated field (length (opened root polys.0)) polys.1 >>= from_columns root
    polys.0 in
    let from_root : (List ℕ × List ℕ) → Result Proof2 ℕ =
    λ root. repeated (next_value end) (18 * p.l) root.1 >>= from_polys root.0 in
    let head = bind_ok (head_of 2 bytes) (λ head. next_hash end head.1 >>= from_root) proof e in
    let root = bind_ok (next_hash end head.0.1) from_root proof head.2 in
    let polys =
    bind_ok (repeated (next_value end) (18 * p.l) root.0.1) (from_polys root.0.0) proof root.2 in
    let due = opened root.0.0 polys.0.0 in
    let columns =
    bind_ok (repeated field (length due) polys.0.1) (from_columns root.0.0 polys.0.0) proof
    polys.2 in
    let nodes =
    bind_ok (repeated (next_hash end) (shared_count p.depth due) columns.0.1)
    (last root.0.0 polys.0.0 columns.0.0) proof columns.2 in
    let whole =
    bind_ok (required (length nodes.0.1 == 0) (end - length nodes.0.1))
    (λ _. Ok (made root.0.0 polys.0.0 columns.0.0 nodes.0.0)) proof nodes.2 in
    let headed = head_takes 2 bytes head.0 h head.1 in
    let rooted = (hash_takes end).takes head.0.1 root.0.0 root.0.1 headed.1 root.1 in
    let valued =
    repeated_takes (next_value end) (to_le_bytes w64) (λ value. value < P) (value_takes end)
    (18 * p.l) root.0.1 polys.0.0 polys.0.1 rooted.left polys.1 in
    let listed =
    repeated_takes field column_bytes (AreValues (p.rows + 6)) (column_takes end (p.rows + 6))
    (length due) polys.0.1 columns.0.0 columns.0.1 valued.3 columns.1 in
    let hashed =
    repeated_takes (next_hash end) (λ hash. hash) IsHash (hash_takes end)
    (shared_count p.depth due) columns.0.1 nodes.0.0 nodes.0.1 listed.3 nodes.1 in
    let nothing : nodes.0.1 ≡ [] =
    nil_from_length nodes.0.1
    (eqb-true (length nodes.0.1) 0
    (required_ok (length nodes.0.1 == 0) (end - length nodes.0.1) whole.0 whole.1)) in
    let is : made root.0.0 polys.0.0 columns.0.0 nodes.0.0 ≡ proof =
    ap (or_else (made root.0.0 polys.0.0 columns.0.0 nodes.0.0)) whole.2 in
    let Good : Proof2 → Type 0 = λ q. IsProof2 p (opened q.root q.polys) q
    × (bytes ≡ head_bytes 2
    ++ (q.root
    ++ (column_bytes q.polys ++ (flat_map column_bytes q.columns ++ hashes_bytes q.nodes)))) in
    let tail : columns.0.1 ≡ hashes_bytes nodes.0.0 = hashed.0
    ∙ ap (λ r. hashes_bytes nodes.0.0 ++ r) nothing ∙ append-nil (hashes_bytes nodes.0.0) in
    let body : polys.0.1 ≡ flat_map column_bytes columns.0.0 ++ hashes_bytes nodes.0.0 =
    listed.0 ∙ ap (λ r. flat_map column_bytes columns.0.0 ++ r) tail in
    subst Good is (
      record {
        root = rooted.fits;
        polys = record { count = valued.1; each = valued.2 };
        columns_count = listed.1;
        columns = listed.2;
        nodes_count = hashed.1;
        nodes = hashed.2;
      },
      headed.0 ∙ ap (λ r. head_bytes 2 ++ r)
          (rooted.whole
          ∙ ap (λ r. root.0.0 ++ r) (valued.0 ∙ ap (λ r. column_bytes polys.0.0 ++ r) body)),
    )

-- ---- and back

column_again : (end m : ℕ) → ReadsBack (repeated (next_value end) m) column_bytes (AreValues m)
column_again end m = record { again = λ values rest fits. values_again end m values rest fits }

columns_again : (end m n : ℕ) (columns : List (List ℕ)) (rest : List ℕ) → length columns ≡ n
    → AllByRecursion (AreValues m) columns
    → repeated (repeated (next_value end) m) n (flat_map column_bytes columns ++ rest)
    ≡ Ok (columns, rest)
columns_again end m n columns rest count fits =
    ap (λ k. repeated (repeated (next_value end) m) k (flat_map column_bytes columns ++ rest))
    (sym count)
    ∙ repeated_again (repeated (next_value end) m) column_bytes (AreValues m)
    (column_again end m) columns rest (each_of (AreValues m) columns fits)

nodes_again : (end n : ℕ) (nodes : List (List ℕ)) → length nodes ≡ n → AllByRecursion IsHash nodes
    → repeated (next_hash end) n (hashes_bytes nodes) ≡ Ok (nodes, [])
nodes_again end n nodes count fits =
    ap (λ k. repeated (next_hash end) k (hashes_bytes nodes)) (sym count)
    ∙ ap (λ bytes. repeated (next_hash end) (length nodes) bytes)
    (sym (append-nil (hashes_bytes nodes)))
    ∙ repeated_again (next_hash end) (λ hash. hash) IsHash (hash_again end) nodes []
    (each_of IsHash nodes fits)

-- what is spelled so is read
pub proof2_again : (p : Params) (r1cs_bytes publics : List ℕ) (proof : Proof2)
    → IsProof2 p (opened_for p r1cs_bytes publics proof.root proof.polys) proof
    → proof2_of p r1cs_bytes publics (proof2_bytes proof) ≡ Ok proof
unfolding proof2_of proof2_bytes
proof2_again p r1cs_bytes publics proof fits =
    let due = opened_for p r1cs_bytes publics proof.root proof.polys in
    let tail = hashes_bytes proof.nodes in
    let columns = flat_map column_bytes proof.columns ++ tail in
    let values = column_bytes proof.polys ++ columns in
    let end = length (head_bytes 2 ++ (proof.root ++ values)) in
    let head = head_again 2 (proof.root ++ values) refl in
    let root = (hash_again end).again proof.root values fits.root in
    let polys = values_again end (18 * p.l) proof.polys columns fits.polys in
    let opened =
    columns_again end (p.rows + 6) (length due) proof.columns tail fits.columns_count
    fits.columns in
    let nodes =
    nodes_again end (shared_count p.depth due) proof.nodes fits.nodes_count fits.nodes in
    rw (head, root, polys, opened, nodes) refl

pub found2_of : (r : Result Proof2 ProofFault) (p : Params) (r1cs_bytes publics bytes : List ℕ)
    → IsBytes bytes → Gives refused (λ x. x) r (proof2_of p r1cs_bytes publics bytes)
    → IfOk r (λ proof. IsProof2 p (opened_for p r1cs_bytes publics proof.root proof.polys) proof
    × (bytes ≡ proof2_bytes proof))
found2_of (Ok proof) p r1cs_bytes publics bytes h e =
    proof2_takes p r1cs_bytes publics bytes proof h e
found2_of (Err fault) p r1cs_bytes publics bytes h e = tt

pub only2_of : (r : Result Proof2 ProofFault) (p : Params) (r1cs_bytes publics bytes : List ℕ)
    (proof : Proof2) → Gives refused (λ x. x) r (proof2_of p r1cs_bytes publics bytes)
    → IsProof2 p (opened_for p r1cs_bytes publics proof.root proof.polys) proof
    → bytes ≡ proof2_bytes proof → Gives refused (λ x. x) r (Ok proof)
only2_of r p r1cs_bytes publics bytes proof e fits is =
    let read : proof2_of p r1cs_bytes publics bytes ≡ Ok proof =
    ap (proof2_of p r1cs_bytes publics) is ∙ proof2_again p r1cs_bytes publics proof fits
    in rw (← read) e
