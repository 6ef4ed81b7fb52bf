-- Loops that read fields.
use Rattle.std.proofs.Common.{◌≡◌, ℕ, suc, ◌-◌, ◌+◌, ◌≤◌, ◌<◌, true, false, ltb, List, [], ◌∷◌}
use Rattle.std.proofs.Common.{◌++◌, length, take, drop, Some, None, Option, Result, Ok, Err, refl}
use Rattle.std.proofs.Common.{sym, ap, ◌∙◌, append_assoc, arith, ⊎_elim}
use Rattle.std.proofs.lemmas.List.{append-nil, length-take-le}
use Rattle.std.proofs.lemmas.Bool.{cases_lt, lt-ltb, le-ltb}
use Rattle.binary_format.specs.Reading.{Fails, ◌>>=◌, repeated, front_of}
use Rattle.binary_format.proofs.Loop.{with_front, fails}
use Rattle.lig_layout.specs.declared.params.Params.{Params}
use Rattle.lig_proof.specs.declared.fault.ProofFault.{ProofFault}
use Rattle.lig_proof.specs.declared.fault.ProofFault.TheVariants as faults
use Rattle.lig_proof.specs.Reading.{refused, next_value, next_hash, next_openings}

abbrev front_or_none : Option (List ℕ × List ℕ) → List ℕ
front_or_none None = []
front_or_none (Some x) = x.0

-- a front is as long as was asked
pub length-front : (n : ℕ) (bytes front rest : List ℕ) → front_of n bytes ≡ Some (front, rest)
    → length front ≡ n
length-front n bytes front rest e = ⊎_elim
    (λ short. let t : ltb (length bytes) n ≡ true = lt-ltb (length bytes) n short in
    let none : ◌≡◌ {A = Option (List ℕ × List ℕ)} None (Some (front, rest)) = sym (rw t refl) ∙ e
    in absurd (cc))
    (λ long. let t : ltb (length bytes) n ≡ false = le-ltb (length bytes) n long in
    let some : ◌≡◌ {A = Option (List ℕ × List ℕ)} (Some (take n bytes, drop n bytes))
    (Some (front, rest)) = sym (rw t refl) ∙ e in
    let same : take n bytes ≡ front = ap front_or_none some in
    ap length (sym same) ∙ length-take-le n bytes long)
    (cases_lt (length bytes) n)

pub field_fails : {A : Type 0} (field : List ℕ → Result (A × List ℕ) ℕ) (fault : ProofFault)
    (front : List A) (count i : ℕ) (bytes : List ℕ) (total : Result (List A × List ℕ) ℕ)
    → i < count → Fails (refused fault) (field bytes)
    → with_front front (repeated field (count - i) bytes) ≡ total → Fails (refused fault) total
field_fails field (faults.Malformed offset) front count i bytes total lt at so_far =
    fails field front count i bytes offset total lt at so_far
field_fails field faults.OutOfMemory front count i bytes total lt at so_far = tt

-- a loop that reads fields: what was read, and what is still read
pub record Reading {A : Type 0} (field : ℕ → List ℕ → Result (A × List ℕ) ℕ)
    (count end end0 counter : ℕ) (read : List A) (rest rest0 : List ℕ) : Type 0 where
  pub ends : end ≡ end0
  pub so_far : with_front read (repeated (field end0) (count - counter) rest)
      ≡ repeated (field end0) count rest0

-- the columns and the paths before
abbrev pub with_fronts : List (List ℕ) → List (List (List ℕ))
    → Result ((List (List ℕ) × List (List (List ℕ))) × List ℕ) ℕ
    → Result ((List (List ℕ) × List (List (List ℕ))) × List ℕ) ℕ
with_fronts columns paths reading = reading >>= λ x. Ok ((columns ++ x.0.0, paths ++ x.0.1), x.1)

regroup : (columns : List (List ℕ)) (paths : List (List (List ℕ))) (column : List ℕ)
    (path : List (List ℕ)) (reading : Result ((List (List ℕ) × List (List (List ℕ))) × List ℕ) ℕ)
    → with_fronts columns paths (reading >>= λ y. Ok ((column ∷ y.0.0, path ∷ y.0.1), y.1))
    ≡ with_fronts (columns ++ column ∷ []) (paths ++ path ∷ []) reading
regroup columns paths column path (Ok y) =
    rw (append_assoc columns (column ∷ []) y.0.0, append_assoc paths (path ∷ []) y.0.1) refl
regroup columns paths column path (Err e) = refl

module _ (p : Params) (end count i : ℕ) (columns : List (List ℕ)) (paths : List (List (List ℕ)))
    (bytes : List ℕ) (total : Result ((List (List ℕ) × List (List (List ℕ))) × List ℕ) ℕ)
    (so_far : with_fronts columns paths (next_openings p end (count - i) bytes) ≡ total) where
  pub opening_read : (column : List ℕ) (path : List (List ℕ)) (middle rest : List ℕ) → i < count
      → repeated (next_value end) (p.rows + 6) bytes ≡ Ok (column, middle)
      → repeated (next_hash end) p.depth middle ≡ Ok (path, rest)
      → with_fronts (columns ++ column ∷ []) (paths ++ path ∷ [])
      (next_openings p end (count - (i + 1)) rest) ≡ total
  unfolding next_openings
  opening_read column path middle rest lt first second =
      let n : count - i ≡ suc (count - (i + 1)) = omega arith in
      let one : with_fronts columns paths (next_openings p end (count - i) bytes)
      ≡ with_fronts (columns ++ column ∷ []) (paths ++ path ∷ [])
      (next_openings p end (count - (i + 1)) rest) =
      rw (n, first, second)
      (regroup columns paths column path (next_openings p end (count - (i + 1)) rest)) in
      sym one ∙ so_far

  pub column_fails : (fault : ProofFault) → i < count
      → Fails (refused fault) (repeated (next_value end) (p.rows + 6) bytes)
      → Fails (refused fault) total
  unfolding next_openings
  column_fails (faults.Malformed offset) lt at =
      let n : count - i ≡ suc (count - (i + 1)) = omega arith in
      let one : with_fronts columns paths (next_openings p end (count - i) bytes) ≡ Err offset =
      rw (n, at) refl in
      sym so_far ∙ one
  column_fails faults.OutOfMemory lt at = tt

  pub path_fails : (fault : ProofFault) (column middle : List ℕ) → i < count
      → repeated (next_value end) (p.rows + 6) bytes ≡ Ok (column, middle)
      → Fails (refused fault) (repeated (next_hash end) p.depth middle)
      → Fails (refused fault) total
  unfolding next_openings
  path_fails (faults.Malformed offset) column middle lt first at =
      let n : count - i ≡ suc (count - (i + 1)) = omega arith in
      let one : with_fronts columns paths (next_openings p end (count - i) bytes) ≡ Err offset =
      rw (n, first, at) refl in
      sym so_far ∙ one
  path_fails faults.OutOfMemory column middle lt first at = tt

  pub all_opened : count ≤ i → total ≡ Ok ((columns, paths), bytes)
  unfolding next_openings
  all_opened le =
      let n : count - i ≡ 0 = omega arith in
      let one : with_fronts columns paths (next_openings p end (count - i) bytes)
      ≡ Ok ((columns, paths), bytes) = rw n (rw (append-nil columns, append-nil paths) refl) in
      sym so_far ∙ one

-- the loop over opened columns
pub record Opening (p : Params) (count end end0 counter : ℕ) (columns : List (List ℕ))
    (paths : List (List (List ℕ))) (rest rest0 : List ℕ) : Type 0 where
  pub ends : end ≡ end0
  pub so_far : with_fronts columns paths (next_openings p end0 (count - counter) rest)
      ≡ next_openings p end0 count rest0
