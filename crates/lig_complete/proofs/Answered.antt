-- What is not refused is made of values that satisfy the file, and so it is accepted.
use Rattle.std.proofs.Common.{◌≡◌, ◌==◌, ℕ, ◌+◌, ◌<◌, Bool, true, false, List, [], ◌∷◌, All, length}
use Rattle.std.proofs.Common.{slice_index, Option, Some, None, Ok, Err, if◌then◌else◌, refl, sym}
use Rattle.std.proofs.Common.{subst}
use Rattle.std.proofs.lemmas.Bool.Decides.{Decides-eqb}
use Rattle.std.proofs.lemmas.List.Elements.{All-nil, All-cons}
use Rattle.gold_field.specs.Form.{Holds}
use Rattle.gold_field.specs.declared.form.Constraint.{Constraint}
use Rattle.gold_field.specs.declared.gold.TheConstants.{P}
use Rattle.iden_files.specs.Failing.{is_satisfied, first_failing_from}
use Rattle.iden_files.specs.File.{File}
use Rattle.lig_layout.specs.Laws.{publics_of}
use Rattle.lig_proof.specs.Acceptance.{IsVerdict}
use Rattle.lig_prover.specs.Refusing.{failing, refusal_of}
use Rattle.lig_prover.specs.declared.fault.ProveFault.TheVariants.{WrongLength, WireZero}
use Rattle.lig_complete.specs.Completeness.{IsWitness, AnswersAreAccepted}
use Rattle.lig_complete.proofs.Accepted.{accepted, none_is_refused}

-- where none from the first on fails, the first holds and none behind it fails
first_holds : (w : List ℕ) (k : Constraint) (b : Bool) (i : ℕ) (behind : Option ℕ)
    → is_satisfied w k ≡ b → (if b then behind else Some i) ≡ None
    → Holds (slice_index w) k × (behind ≡ None)
first_holds w k true i behind is e = ((Decides-eqb _ _).0 is, e)
first_holds w k false i behind is e = cc

pub all_hold : (i : ℕ) (w : List ℕ) (ks : List Constraint) → first_failing_from i w ks ≡ None
    → All (Holds (slice_index w)) ks
all_hold i w [] e = All-nil (Holds (slice_index w))
all_hold i w (k ∷ ks) e =
    let first = first_holds w k (is_satisfied w k) i (first_failing_from (i + 1) w ks) refl e in
    All-cons (Holds (slice_index w)) k ks first.0 (all_hold (i + 1) w ks first.1)

-- no refusal passes over the count of values, wire 0 and the constraints
unrefused : (counts one : Bool) (found : Option ℕ) (has wants : ℕ)
    → (if counts then (if one then failing found else Some WireZero)
    else Some (WrongLength has wants)) ≡ None
    → (counts ≡ true) × (one ≡ true) × (found ≡ None)
unrefused true true None has wants e = (refl, refl, refl)
unrefused true true (Some k) has wants e = cc
unrefused true false found has wants e = cc
unrefused false one found has wants e = cc

witness_of : (f : File) (w : List ℕ) → All (λ value. value < P) w → refusal_of f w ≡ None
    → IsWitness f w
witness_of f w numbers e =
    let found = first_failing_from 0 w f.constraints in
    let passed =
    unrefused (length w == f.wires) (slice_index w 0 == 1) found (length w) f.wires e in record {
      count = (Decides-eqb (length w) f.wires).0 passed.0;
      numbers = numbers;
      one = (Decides-eqb (slice_index w 0) 1).0 passed.1;
      holds = all_hold 0 w f.constraints passed.2;
    }

pub answers_accepted : AnswersAreAccepted
answers_accepted version r1cs_bytes f w seed (Ok v) file limits numbers answered =
    let witness = witness_of f w numbers answered.satisfied in
    λ verdict. (
      none_is_refused version r1cs_bytes f w seed v.items verdict file limits witness answered.made,
      λ e. subst (IsVerdict r1cs_bytes f (publics_of f w) v.items) (sym e)
          (accepted version r1cs_bytes f w seed v.items file limits witness answered.made),
    )
answers_accepted version r1cs_bytes f w seed (Err fault) file limits numbers answered = tt
