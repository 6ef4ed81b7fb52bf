-- Loops that read fields: where one fails, and constraints with the room that is left for terms.
use Rattle.std.proofs.Common.{◌≡◌, ℕ, suc, ◌-◌, ◌+◌, ◌≤◌, ◌<◌, List, [], ◌∷◌, ◌++◌, length, Result}
use Rattle.std.proofs.Common.{Ok, Err, refl, sym, ap, ◌∙◌, append_assoc, arith}
use Rattle.std.proofs.lemmas.List.{append-nil}
use Rattle.gold_field.specs.declared.form.Constraint.{Constraint}
use Rattle.binary_format.specs.Reading.{Fails, ◌>>=◌, repeated}
use Rattle.binary_format.proofs.Loop.{with_front, fails}
use Rattle.iden_files.specs.declared.fault.FileFault.{FileFault}
use Rattle.iden_files.specs.declared.fault.FileFault.TheVariants as faults
use Rattle.iden_files.specs.Refusal.{Refusal, refusal, refused}
use Rattle.iden_files.specs.Meaning.{meaning}
use Rattle.iden_files.specs.ReadR1cs.{constraint_at, constraints_at, meant}

pub field_fails : {A : Type 0} (field : List ℕ → Result (A × List ℕ) Refusal) (fault : FileFault)
    (front : List A) (count i : ℕ) (bytes : List ℕ) (total : Result (List A × List ℕ) Refusal)
    → i < count → Fails (refused fault) (field bytes)
    → with_front front (repeated field (count - i) bytes) ≡ total → Fails (refused fault) total
field_fails field (faults.At cause offset) front count i bytes total lt at so_far =
    fails field front count i bytes (refusal cause offset) total lt at so_far
field_fails field faults.OutOfMemory front count i bytes total lt at so_far = tt

regroup : (wires : ℕ) (front : List Constraint) (w : Constraint)
    (reading : Result (List Constraint × List ℕ) Refusal)
    → with_front front (meant wires (reading >>= λ y. Ok (w ∷ y.0, y.1)))
    ≡ with_front (front ++ meaning wires w ∷ []) (meant wires reading)
regroup wires front w (Ok y) = ap (λ (ks : List Constraint). Ok (ks, y.1)) (simp append_assoc)
regroup wires front w (Err e) = refl

module _ (wires end count i room : ℕ) (front : List Constraint) (bytes : List ℕ)
    (total : Result (List Constraint × List ℕ) Refusal)
    (so_far : with_front front (meant wires (constraints_at wires end room (count - i) bytes))
    ≡ total) where
  pub goes_on : (w k : Constraint) (rest : List ℕ) (left : ℕ) → i < count
      → constraint_at wires end room bytes ≡ Ok (w, rest) → k ≡ meaning wires w
      → left ≡ room - length w.a - length w.b - length w.c
      → with_front (front ++ k ∷ [])
      (meant wires (constraints_at wires end left (count - (i + 1)) rest)) ≡ total
  unfolding constraints_at
  goes_on w k rest left lt at is less =
      let n : count - i ≡ suc (count - (i + 1)) = omega arith in
      let one : with_front front (meant wires (constraints_at wires end room (count - i) bytes))
      ≡ with_front (front ++ meaning wires w ∷ [])
      (meant wires
      (constraints_at wires end (room - length w.a - length w.b - length w.c)
      (count - (i + 1)) rest)) =
      rw (n, at)
      (regroup wires front w
      (constraints_at wires end (room - length w.a - length w.b - length w.c)
      (count - (i + 1)) rest)) in
      rw (is, less) (sym one ∙ so_far)

  pub constraint_fails : (fault : FileFault) → i < count
      → Fails (refused fault) (constraint_at wires end room bytes) → Fails (refused fault) total
  unfolding constraints_at
  constraint_fails (faults.At cause offset) lt at =
      let n : count - i ≡ suc (count - (i + 1)) = omega arith in
      let one : with_front front (meant wires (constraints_at wires end room (count - i) bytes))
      ≡ Err (refusal cause offset) = rw (n, at) refl in
      sym so_far ∙ one
  constraint_fails faults.OutOfMemory lt at = tt

  pub all_read : count ≤ i → total ≡ Ok (front, bytes)
  unfolding constraints_at
  all_read le =
      let n : count - i ≡ 0 = omega arith in
      let one : with_front front (meant wires (constraints_at wires end room (count - i) bytes))
      ≡ Ok (front, bytes) =
      rw n (ap (λ (ks : List Constraint). Ok (ks, bytes)) (append-nil front)) in
      sym so_far ∙ one
