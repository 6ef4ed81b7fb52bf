-- Whole proofs: what is read is spelled so, and what is spelled so is read.
use Rattle.std.proofs.Common.{◌≡◌, ℕ, zero, suc, ◌-◌, ◌+◌, ◌*◌, ◌≤◌, ◌<◌, true, ltb, leb, ◌==◌}
use Rattle.std.proofs.Common.{nat_le, List, [], ◌∷◌, ◌++◌, length, take, drop, codes, Result, Ok}
use Rattle.std.proofs.Common.{Err, IfOk, refl, sym, ap, ◌∙◌, subst, append_assoc, arith}
use Rattle.std.specs.List.{AllByRecursion}
use Rattle.std.specs.Int.{w32, w64, from_le_bytes, to_le_bytes}
use Rattle.std.proofs.lemmas.List.{append-nil, length-take-le, take-append-drop, drop-drop}
use Rattle.std.proofs.lemmas.List.{length-drop, nil_from_length}
use Rattle.std.proofs.lemmas.Bool.{leb-true, le-leb, eqb-true, lt-ltb}
use Rattle.std.proofs.lemmas.Nat.{le_bytes_4}
use Rattle.binary_format.specs.Reading.{Gives, ◌>>=◌, repeated, number_of, or_short, required}
use Rattle.binary_format.proofs.ReadBack.{Each, ReadsBack, front_again, u64_again, tested_again}
use Rattle.binary_format.proofs.ReadBack.{repeated_again}
use Rattle.gold_field.specs.declared.gold.TheConstants.{P}
use Rattle.lig_layout.specs.declared.params.Params.{Params}
use Rattle.lig_merkle.specs.Merkle.{column_bytes}
use Rattle.lig_proof.specs.declared.proof.Proof.{Proof}
use Rattle.lig_proof.specs.ProofBytes.{opened_count}
use Rattle.lig_proof.specs.ProofBytes.{head_bytes, hashes_bytes, openings_bytes, proof_bytes}
use Rattle.lig_proof.specs.ProofBytes.{IsHash, AreValues, IsPath, IsProof}
use Rattle.lig_proof.specs.declared.fault.ProofFault.{ProofFault}
use Rattle.lig_proof.specs.Reading.{head_of, next_value, next_hash, next_openings, proof_of}
use Rattle.lig_proof.specs.Reading.{refused}
use Rattle.lig_proof.proofs.Takes.{IsBytes, bytes_after, front_bytes, bind_ok, or_else, required_ok}
use Rattle.lig_proof.proofs.Takes.{repeated_takes, hash_takes, value_takes, openings_take}

abbrev name_number : ℕ
name_number = from_le_bytes w32 (codes "ligg")

-- what is read as a head is one
pub head_takes : (version : ℕ) (bytes : List ℕ) (x : Unit {0} × List ℕ) → IsBytes bytes
    → head_of version bytes ≡ Ok x → (bytes ≡ head_bytes version ++ x.1) × IsBytes x.1
unfolding head_of
head_takes number bytes x h e =
    let after = drop 8 bytes in
    let name_test = from_le_bytes w32 (take 4 bytes) == name_number in
    let version_test = from_le_bytes w32 (take 4 (drop 4 bytes)) == number in
    let end : Unit {0} → Result (Unit {0} × List ℕ) ℕ = λ _. Ok (tt, after) in
    let from_version : Unit {0} → Result (Unit {0} × List ℕ) ℕ =
    λ _. required version_test 4 >>= end in
    let from_name : Unit {0} → Result (Unit {0} × List ℕ) ℕ =
    λ _. required name_test 0 >>= from_version in
    let long = bind_ok (required (nat_le 8 (length bytes)) (length bytes)) from_name x e in
    let name = bind_ok (required name_test 0) from_version x long.2 in
    let version = bind_ok (required version_test 4) end x name.2 in
    let room : 8 ≤ length bytes =
    leb-true 8 (length bytes)
    (required_ok (nat_le 8 (length bytes)) (length bytes) long.0 long.1) in
    let is_name : from_le_bytes w32 (take 4 bytes) ≡ name_number =
    eqb-true (from_le_bytes w32 (take 4 bytes)) name_number
    (required_ok name_test 0 name.0 name.1) in
    let is_version : from_le_bytes w32 (take 4 (drop 4 bytes)) ≡ number =
    eqb-true (from_le_bytes w32 (take 4 (drop 4 bytes))) number
    (required_ok version_test 4 version.0 version.1) in
    let name_text : codes "ligg" ≡ take 4 bytes =
    le_bytes_4 (take 4 bytes) name_number (length-take-le 4 bytes (omega arith))
    (front_bytes 4 bytes h) (sym is_name) in
    let version_text : to_le_bytes w32 number ≡ take 4 (drop 4 bytes) =
    le_bytes_4 (take 4 (drop 4 bytes)) number
    (length-take-le 4 (drop 4 bytes) (omega (arith, length-drop 4 bytes)))
    (front_bytes 4 (drop 4 bytes) (bytes_after 4 bytes h)) (sym is_version) in
    let rest : after ≡ x.1 = ap (λ q. q.1) (ap (or_else (tt, after)) version.2) in
    let split : bytes ≡ take 4 bytes ++ (take 4 (drop 4 bytes) ++ after) =
    sym (take-append-drop 4 bytes)
    ∙ ap (λ y. take 4 bytes ++ y) (sym (take-append-drop 4 (drop 4 bytes)))
    ∙ ap (λ y. take 4 bytes ++ (take 4 (drop 4 bytes) ++ y)) (drop-drop 4 4 bytes) in
    let Left : List ℕ → Type 0 = λ r. IsBytes r in (
      split ∙ ap (λ y. y ++ (take 4 (drop 4 bytes) ++ after)) (sym name_text)
          ∙ ap (λ y. codes "ligg" ++ (y ++ after)) (sym version_text)
          ∙ ap (λ y. codes "ligg" ++ (to_le_bytes w32 number ++ y)) rest,
      subst Left rest (bytes_after 8 bytes h),
    )

-- what is read is a proof, and the bytes are its spelling
pub proof_takes : (p : Params) (bytes : List ℕ) (proof : Proof) → IsBytes bytes
    → proof_of p bytes ≡ Ok proof → IsProof p proof × (bytes ≡ proof_bytes proof)
unfolding proof_of proof_bytes
proof_takes p bytes proof h e =
    let end = length bytes in
    let made : List ℕ → List ℕ → (List (List ℕ) × List (List (List ℕ)))
    → Proof =
    λ root polys opened. record {
      root = root;
      polys = polys;
      columns = opened.0;
      paths = opened.1;
    } in
    let last : List ℕ → List ℕ → ((List (List ℕ) × List (List (List ℕ))) × List ℕ)
    → Result Proof ℕ = λ root polys o. required (length o.1 == 0) (end - length o.1) >>=
    λ _. Ok (made root polys o.0) in
    let from_polys : List ℕ → (List ℕ × List ℕ) → Result Proof ℕ =
    λ root polys. next_openings p end opened_count polys.1 >>= last root polys.0 in
    let from_root : (List ℕ × List ℕ) → Result Proof ℕ =
    λ root. repeated (next_value end) (18 * p.l) root.1 >>= from_polys root.0 in
    let head = bind_ok (head_of 1 bytes) (λ head. next_hash end head.1 >>= from_root) proof e in
    let root = bind_ok (next_hash end head.0.1) from_root proof head.2 in
    let polys =
    bind_ok (repeated (next_value end) (18 * p.l) root.0.1) (from_polys root.0.0) proof root.2 in
    let opened =
    bind_ok (next_openings p end opened_count polys.0.1) (last root.0.0 polys.0.0) proof
    polys.2 in
    let whole =
    bind_ok (required (length opened.0.1 == 0) (end - length opened.0.1))
    (λ _. Ok (made root.0.0 polys.0.0 opened.0.0)) proof opened.2 in
    let headed = head_takes 1 bytes head.0 h head.1 in
    let rooted = (hash_takes end).takes head.0.1 root.0.0 root.0.1 headed.1 root.1 in
    let valued =
    repeated_takes (next_value end) (to_le_bytes w64) (λ value. value < P) (value_takes end)
    (18 * p.l) root.0.1 polys.0.0 polys.0.1 rooted.left polys.1 in
    let openings =
    openings_take p end opened_count polys.0.1 opened.0.0.0 opened.0.0.1 opened.0.1 valued.3
    opened.1 in
    let nothing : opened.0.1 ≡ [] =
    nil_from_length opened.0.1
    (eqb-true (length opened.0.1) 0
    (required_ok (length opened.0.1 == 0) (end - length opened.0.1) whole.0 whole.1)) in
    let is : made root.0.0 polys.0.0 opened.0.0 ≡ proof =
    ap (or_else (made root.0.0 polys.0.0 opened.0.0)) whole.2 in
    let Good : Proof → Type 0 = λ q. IsProof p q
    × (bytes ≡ head_bytes 1
    ++ (q.root ++ (column_bytes q.polys ++ openings_bytes q.columns q.paths))) in
    let tail : polys.0.1 ≡ openings_bytes opened.0.0.0 opened.0.0.1 = openings.whole
    ∙ ap (λ r. openings_bytes opened.0.0.0 opened.0.0.1 ++ r) nothing
    ∙ append-nil (openings_bytes opened.0.0.0 opened.0.0.1) in
    subst Good is (
      record {
        root = rooted.fits;
        polys = record { count = valued.1; each = valued.2 };
        opened = openings.column_count;
        columns = openings.columns_fit;
        paths_opened = openings.path_count;
        paths = openings.paths_fit;
      },
      headed.0 ∙ ap (λ r. head_bytes 1 ++ r)
          (rooted.whole
          ∙ ap (λ r. root.0.0 ++ r) (valued.0 ∙ ap (λ r. column_bytes polys.0.0 ++ r) tail)),
    )

-- ---- and back

pub each_of : {A : Type 0} (F : A → Type 0) (xs : List A) → AllByRecursion F xs → Each F xs
each_of F [] h = tt
each_of F (x ∷ xs) h = (h.0, each_of F xs h.1)

pub head_again : (version : ℕ) (rest : List ℕ)
    → (from_le_bytes w32 (to_le_bytes w32 version) == version) ≡ true
    → head_of version (head_bytes version ++ rest) ≡ Ok (tt, rest)
unfolding head_of
head_again version rest named =
    let bytes = head_bytes version ++ rest in
    let room : leb 8 (length bytes) ≡ true = le-leb 8 (length bytes) (omega arith) in
    rw (room, named) refl

value_again : (end : ℕ) → ReadsBack (next_value end) (to_le_bytes w64) (λ value. value < P)
unfolding next_value
value_again end = record {
  again = λ v rest fits.
      tested_again (λ n. ltb n P) (end - length (to_le_bytes w64 v ++ rest))
      (or_short (number_of w64 (to_le_bytes w64 v ++ rest)) end) v rest
      ((u64_again end).again v rest (omega arith)) (lt-ltb v P fits);
}

pub hash_again : (end : ℕ) → ReadsBack (next_hash end) (λ hash. hash) IsHash
unfolding next_hash
hash_again end =
    record {
      again = λ hash rest fits. ap (λ r. or_short r end) (front_again hash rest 32 fits.count);
    }

pub values_again : (end n : ℕ) (values rest : List ℕ) → AreValues n values
    → repeated (next_value end) n (column_bytes values ++ rest) ≡ Ok (values, rest)
values_again end n values rest fit =
    ap (λ k. repeated (next_value end) k (column_bytes values ++ rest)) (sym fit.count)
    ∙ repeated_again (next_value end) (to_le_bytes w64) (λ value. value < P)
    (value_again end) values rest (each_of (λ value. value < P) values fit.each)

path_again : (end n : ℕ) (path : List (List ℕ)) (rest : List ℕ) → IsPath n path
    → repeated (next_hash end) n (hashes_bytes path ++ rest) ≡ Ok (path, rest)
path_again end n path rest fit =
    ap (λ k. repeated (next_hash end) k (hashes_bytes path ++ rest)) (sym fit.count)
    ∙ repeated_again (next_hash end) (λ hash. hash) IsHash (hash_again end) path rest
    (each_of IsHash path fit.each)

three : (a b c d : List ℕ) → (a ++ (b ++ c)) ++ d ≡ a ++ (b ++ (c ++ d))
three a b c d = simp append_assoc

openings_again : (p : Params) (end n : ℕ) (columns : List (List ℕ)) (paths : List (List (List ℕ)))
    (rest : List ℕ) → length columns ≡ n → length paths ≡ n
    → AllByRecursion (AreValues (p.rows + 6)) columns → AllByRecursion (IsPath p.depth) paths
    → next_openings p end n (openings_bytes columns paths ++ rest) ≡ Ok ((columns, paths), rest)
unfolding next_openings
openings_again p end zero [] [] rest ec ep hc hp = refl
openings_again p end zero [] (path ∷ paths) rest ec ep hc hp = absurd (omega arith)
openings_again p end zero (column ∷ columns) paths rest ec ep hc hp = absurd (omega arith)
openings_again p end (suc n) [] paths rest ec ep hc hp = absurd (omega arith)
openings_again p end (suc n) (column ∷ columns) [] rest ec ep hc hp = absurd (omega arith)
openings_again p end (suc n) (column ∷ columns) (path ∷ paths) rest ec ep hc hp =
    let others_bytes = openings_bytes columns paths ++ rest in
    let first = values_again end (p.rows + 6) column (hashes_bytes path ++ others_bytes) hc.0 in
    let second = path_again end p.depth path others_bytes hp.0 in
    let others = openings_again p end n columns paths rest (omega arith) (omega arith) hc.1 hp.1 in
    rw (three (column_bytes column) (hashes_bytes path) (openings_bytes columns paths) rest)
    (rw (first, second, others) refl)

-- what is spelled so is read
pub proof_again : (p : Params) (proof : Proof) → IsProof p proof
    → proof_of p (proof_bytes proof) ≡ Ok proof
unfolding proof_of proof_bytes
proof_again p proof fits =
    let openings = openings_bytes proof.columns proof.paths in
    let values = column_bytes proof.polys ++ openings in
    let end = length (head_bytes 1 ++ (proof.root ++ values)) in
    let head = head_again 1 (proof.root ++ values) refl in
    let root = (hash_again end).again proof.root values fits.root in
    let polys = values_again end (18 * p.l) proof.polys openings fits.polys in
    let opened : next_openings p end opened_count openings ≡ Ok ((proof.columns, proof.paths), []) =
    ap (next_openings p end opened_count) (sym (append-nil openings))
    ∙ openings_again p end opened_count proof.columns proof.paths [] fits.opened
    fits.paths_opened fits.columns fits.paths in
    rw (head, root, polys, opened) refl

pub found_of : (r : Result Proof ProofFault) (p : Params) (bytes : List ℕ) → IsBytes bytes
    → Gives refused (λ x. x) r (proof_of p bytes)
    → IfOk r (λ proof. IsProof p proof × (bytes ≡ proof_bytes proof))
found_of (Ok proof) p bytes h e = proof_takes p bytes proof h e
found_of (Err fault) p bytes h e = tt

pub only_of : (r : Result Proof ProofFault) (p : Params) (bytes : List ℕ) (proof : Proof)
    → Gives refused (λ x. x) r (proof_of p bytes) → IsProof p proof → bytes ≡ proof_bytes proof
    → Gives refused (λ x. x) r (Ok proof)
only_of r p bytes proof e fits is = let read : proof_of p bytes ≡ Ok proof = ap (proof_of p) is
    ∙ proof_again p proof fits in rw (← read) e
