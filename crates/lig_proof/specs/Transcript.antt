-- The challenges, drawn from what the prover has sent so far.
use Rattle.std.specs.Prelude.{ℕ, ◌+◌, ◌*◌, ◌%◌, List, ◌∷◌, ◌++◌, length, map, codes}
use Rattle.std.specs.List.{range_with_len}
use Rattle.std.specs.Int.{w32, to_le_bytes}
use Rattle.sha2.specs.Sha256.{sha256}
use Rattle.rand_chacha.specs.ChaCha.{word_at, key_of}
use Rattle.lig_layout.specs.declared.params.Params.{Params}
use Rattle.lig_merkle.specs.Merkle.{column_bytes}
use Rattle.lig_proof.specs.Drawing.{numbers_of}
use Rattle.lig_proof.specs.declared.challenge.Challenges.{Challenges}
use Rattle.lig_proof.specs.ProofBytes.{opened_count}

-- a word of the ChaCha20 key stream of a key of 32 bytes, stream 0: ChaCha20 has 10 double rounds
abbrev pub key_word : List ℕ → ℕ → ℕ
key_word key place = word_at 10 (key_of key) 0 place

-- so many numbers of the field, each from two words of that key stream, from this word on
abbrev pub numbers : List ℕ → ℕ → ℕ → List ℕ
numbers key place count = numbers_of (key_of key) 0 place count

-- the first key, of the relation, the public values and the root
abbrev pub first_key : List ℕ → List ℕ → List ℕ → List ℕ
first_key r1cs_bytes publics root =
    sha256 (codes "circom_gold 1"
    ++ (sha256 r1cs_bytes
    ++ (to_le_bytes w32 (length publics) ++ (column_bytes publics ++ root))))

-- for each of two repetitions a number for each row, each equation and each row of products
abbrev pub challenges_of : Params → ℕ → List ℕ → Challenges
challenges_of p equations first =
    let r_at = 2 * p.rows in
    let rho_at = r_at + 2 * equations in
    let second = rho_at + 2 * p.constraint_rows in
    record {
      first = first;
      alpha = numbers first 0 p.rows ++ numbers first second p.rows;
      r = numbers first r_at equations ++ numbers first (second + r_at) equations;
      rho = numbers first rho_at p.constraint_rows
          ++ numbers first (second + rho_at) p.constraint_rows;
    }

-- the second key, of the first and the polynomials
abbrev pub second_key : List ℕ → List ℕ → List ℕ
second_key first polys = sha256 (2 ∷ (first ++ column_bytes polys))

-- the columns that are opened, one for each word; a column may come more than once
abbrev pub queries : Params → List ℕ → List ℕ → List ℕ
queries p first polys =
    let key = second_key first polys in
    map (λ q. key_word key q % (8 * p.l)) (range_with_len 0 opened_count)
