-- The answers of `check`, and the constraints that hold.
use Rattle.std.proofs.Common.{◌≡◌, ◌==◌, ℕ, zero, suc, ◌+◌, ◌<◌, ◌≤◌, Bool, true, false, List, []}
use Rattle.std.proofs.Common.{◌∷◌, length, slice_index, slice_get, Option, Some, None, IsSomeAnd}
use Rattle.std.proofs.Common.{All, if◌then◌else◌, refl, ap, subst, ◌↔◌, arith}
use Rattle.std.proofs.lemmas.Bool.Decides.{Decides-eqb}
use Rattle.std.proofs.lemmas.List.Elements.{All-head, All-tail}
use Rattle.gold_field.specs.Form.{Holds}
use Rattle.gold_field.specs.declared.form.Constraint.{Constraint}
use Rattle.iden_files.specs.Failing.{is_satisfied, first_failing_from}
use Rattle.iden_files.specs.File.{File}
use Rattle.lig_complete.proofs.Answered.{all_hold}
use Rattle.circom_files.specs.Check.{verdict, satisfaction}
use Rattle.circom_files.specs.Satisfaction.{IsAssignment, Satisfies, IsLeastFailing, FailsFirstAt}
use Rattle.circom_lines.specs.declared.answer.Verdict.{Verdict}
use Rattle.circom_lines.specs.declared.answer.Verdict.TheVariants.{CountsDiffer, WireZero}
use Rattle.circom_lines.specs.declared.answer.Verdict.TheVariants.{ConstraintFails, Satisfied}

-- the first n constraints hold
abbrev Pass : List ℕ → List Constraint → ℕ → Type 0
Pass w ks n = (j : ℕ) → j < n → IsSomeAnd (slice_get ks j) (Holds (slice_index w))

Pass-cons : (w : List ℕ) (k : Constraint) (ks : List Constraint) (n : ℕ) → Holds (slice_index w) k
    → Pass w ks n → Pass w (k ∷ ks) (suc n)
Pass-cons w k ks n holds pass zero lt = holds
Pass-cons w k ks n holds pass (suc j) lt = pass j (omega arith)

-- what the search from the index i found
abbrev Found : ℕ → List ℕ → List Constraint → Option ℕ → Type 0
Found i w ks None = Pass w ks (length ks)
Found i w ks (Some m) = (k : ℕ) × (m ≡ i + k) × IsLeastFailing w ks k

Found-cons : (i : ℕ) (w : List ℕ) (k : Constraint) (ks : List Constraint) (r : Option ℕ)
    → Holds (slice_index w) k → Found (i + 1) w ks r → Found i w (k ∷ ks) r
Found-cons i w k ks None holds found = Pass-cons w k ks (length ks) holds found
Found-cons i w k ks (Some m) holds found = (
  suc found.0,
  omega (arith, found.1),
  record { before = Pass-cons w k ks found.0 holds found.2.before; here = found.2.here },
)

differ : {b : Bool} → b ≡ false → b ≡ true → ⊥
differ p q = cc

found : (i : ℕ) (w : List ℕ) (ks : List Constraint) → Found i w ks (first_failing_from i w ks)
found i w [] = λ j lt. absurd (omega arith)
found i w (k ∷ ks) =
    elim (is_satisfied w k) as (λ b. is_satisfied w k ≡ b
    → Found i w (k ∷ ks) (if b then first_failing_from (i + 1) w ks else Some i)) [
      | true ↦ λ e. Found-cons i w k ks (first_failing_from (i + 1) w ks) ((Decides-eqb _ _).0 e)
          (found (i + 1) w ks)
      | false ↦ λ e. (
        0,
        omega arith,
        record {
          before = λ j lt. absurd (omega arith);
          here = λ holds. differ e ((Decides-eqb _ _).1 holds);
        },
      )
    ] refl

clash : (P : Constraint → Type 0) (o : Option Constraint) → IsSomeAnd o P → IsSomeAnd o (λ k. ¬ P k)
    → ⊥
clash P None p q = p
clash P (Some k) p q = q p

within : (P : Constraint → Type 0) (ks : List Constraint) (j : ℕ) → IsSomeAnd (slice_get ks j) P
    → j < length ks
within P [] j p = absurd p
within P (k ∷ ks) zero p = omega arith
within P (k ∷ ks) (suc j) p = let lt : j < length ks = within P ks j p in omega arith

-- the least one that fails is the only one
least_below : (w : List ℕ) (ks : List Constraint) (k m : ℕ) → IsLeastFailing w ks k
    → IsLeastFailing w ks m → k ≤ m
least_below w ks k m least other =
    let not_below : m < k → ⊥ =
    λ lt. clash (Holds (slice_index w)) (slice_get ks m) (least.before m lt) other.here in
    omega arith

-- the search finds the least one that fails
least_found : (w : List ℕ) (ks : List Constraint) (k : ℕ) (r : Option ℕ) → IsLeastFailing w ks k
    → Found 0 w ks r → r ≡ Some k
least_found w ks k None least found =
    absurd (clash (Holds (slice_index w)) (slice_get ks k)
    (found k (within (λ c. ¬ Holds (slice_index w) c) ks k least.here)) least.here)
least_found w ks k (Some m) least found =
    let below : k ≤ found.0 = least_below w ks k found.0 least found.2 in
    let above : found.0 ≤ k = least_below w ks found.0 k found.2 least in
    let same : m ≡ k = omega (arith, found.1) in
    ap Some same

least_from : (w : List ℕ) (ks : List Constraint) (k : ℕ) → Found 0 w ks (Some k)
    → IsLeastFailing w ks k
least_from w ks k found =
    let same : found.0 ≡ k = omega (arith, found.1) in
    subst (IsLeastFailing w ks) same found.2

-- as long as all hold, nothing is found
Pass-from_all : (w : List ℕ) (ks : List Constraint) → All (Holds (slice_index w)) ks
    → Pass w ks (length ks)
Pass-from_all w [] all j lt = absurd (omega arith)
Pass-from_all w (k ∷ ks) all zero lt = All-head (Holds (slice_index w)) k ks all
Pass-from_all w (k ∷ ks) all (suc j) lt =
    Pass-from_all w ks (All-tail (Holds (slice_index w)) k ks all) j (omega arith)

none_found : (w : List ℕ) (ks : List Constraint) (r : Option ℕ) → Pass w ks (length ks)
    → Found 0 w ks r → r ≡ None
none_found w ks None pass found = refl
none_found w ks (Some m) pass found =
    absurd (clash (Holds (slice_index w)) (slice_get ks found.0)
    (pass found.0 (within (λ c. ¬ Holds (slice_index w) c) ks found.0 found.2.here))
    found.2.here)

-- the verdict by the outcome of its tests
abbrev chosen : Bool → Bool → Option ℕ → Verdict → Verdict
chosen counts one found differs =
    if counts then (if one then satisfaction found else WireZero) else differs

tests_of_satisfied : (counts one : Bool) (r : Option ℕ) (values wires : ℕ)
    → chosen counts one r (CountsDiffer values wires) ≡ Satisfied
    → (counts ≡ true) × (one ≡ true) × (r ≡ None)
tests_of_satisfied true true None values wires e = (refl, refl, refl)
tests_of_satisfied true true (Some k) values wires e = cc
tests_of_satisfied true false r values wires e = cc
tests_of_satisfied false one r values wires e = cc

tests_of_failing : (counts one : Bool) (r : Option ℕ) (values wires k : ℕ)
    → chosen counts one r (CountsDiffer values wires) ≡ ConstraintFails k
    → (counts ≡ true) × (one ≡ true) × (r ≡ Some k)
tests_of_failing true true None values wires k e = cc
tests_of_failing true true (Some m) values wires k e = (refl, refl, cc)
tests_of_failing true false r values wires k e = cc
tests_of_failing false one r values wires k e = cc

chosen_at : (counts one : Bool) (r found : Option ℕ) (differs : Verdict) → counts ≡ true
    → one ≡ true → r ≡ found
    → chosen counts one r differs ≡ satisfaction found
chosen_at true true r found differs p q e = ap satisfaction e
chosen_at true false r found differs p q e = cc
chosen_at false one r found differs p q e = cc

assignment_of : (file : File) (values : List ℕ) → (length values == file.wires) ≡ true
    → (slice_index values 0 == 1) ≡ true
    → IsAssignment file values
assignment_of file values p q =
    record {
      counts = (Decides-eqb (length values) file.wires).0 p;
      one =
          (Decides-eqb (slice_index values 0) 1).0 q;
    }

verdict_at : (file : File) (values : List ℕ) (found : Option ℕ) → IsAssignment file values
    → first_failing_from 0 values file.constraints ≡ found
    → verdict file values ≡ satisfaction found
verdict_at file values found assignment e =
    chosen_at (length values == file.wires) (slice_index values 0 == 1)
    (first_failing_from 0 values file.constraints) found
    (CountsDiffer (length values) file.wires)
    ((Decides-eqb (length values) file.wires).1 assignment.counts)
    ((Decides-eqb (slice_index values 0) 1).1 assignment.one) e

pub satisfied : (file : File) (values : List ℕ) → (verdict file values ≡ Satisfied)
    ↔ Satisfies file values
satisfied file values =
    let search = found 0 values file.constraints in (
      (λ e.
          let tests = tests_of_satisfied (length values == file.wires) (slice_index values 0 == 1)
          (first_failing_from 0 values file.constraints) (length values) file.wires e in
          record {
            assignment = assignment_of file values tests.0 tests.1;
            holds = all_hold 0 values file.constraints tests.2;
          }),
      (λ s. verdict_at file values None s.assignment
          (none_found values file.constraints _ (Pass-from_all values file.constraints s.holds)
          search)),
    )

pub least : (file : File) (values : List ℕ) (k : ℕ) → (verdict file values ≡ ConstraintFails k)
    ↔ FailsFirstAt file values k
least file values k =
    let search = found 0 values file.constraints in (
      (λ e.
          let tests = tests_of_failing (length values == file.wires) (slice_index values 0 == 1)
          (first_failing_from 0 values file.constraints) (length values) file.wires k e in
          record {
            assignment = assignment_of file values tests.0 tests.1;
            least = least_from values file.constraints k
                (subst (Found 0 values file.constraints) tests.2 search);
          }),
      (λ f. verdict_at file values (Some k) f.assignment
          (least_found values file.constraints k _ f.least search)),
    )
