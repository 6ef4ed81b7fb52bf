-- What the replies to `witness` mean.
use Rattle.std.proofs.Common.{◌≡◌, ◌∙◌, ◌↔◌, ℕ, suc, ◌+◌, ◌<◌}
use Rattle.std.proofs.Common.{◌≤◌, List, [], ◌∷◌, All, length}
use Rattle.std.proofs.Common.{slice_index, Option, Some, None, Result, Ok, Err, IsSomeAnd, refl}
use Rattle.std.proofs.Common.{ap, sym, subst, arith}
use Rattle.std.proofs.lemmas.List.Elements.{All-nil, All-cons}
use Rattle.std.specs.Prelude.{sum_by}
use Rattle.binary_format.specs.Reading.{◌>>=◌}
use Rattle.gold_field.specs.declared.gold.TheConstants.{P}
use Rattle.iden_files.specs.Limits.{most_wires}
use Rattle.iden_files.specs.ReadWtns.{wtns_of}
use Rattle.iden_files.specs.Spelling.{wtns_bytes}
use Rattle.iden_files.proofs.ReadAgain.{values_again}
use Rattle.cir_scope.proofs.Loaded.{loaded}
use Rattle.cir_values.specs.declared.signals.InputShape.{InputShape}
use Rattle.cir_meaning.specs.Compile.{InputShape as Shape}
use Rattle.cir_meaning.specs.Scoped.{IsResolved}
use Rattle.cir_simplify.specs.declared.types.Level.{Level}
use Rattle.cir_compile.specs.Compiled.{IsCompiled, IsWritten}
use Rattle.cir_compile.specs.Written.{AreValues}
use Rattle.wit_input.specs.Input.{input_of}
use Rattle.wit_input.specs.declared.fault.InputFault.{InputFault}
use Rattle.wit_input.proofs.InputNumbers.{input_counted}
use Rattle.out_io.specs.Contents.{Contents}
use Rattle.iden_files.specs.File.{File}
use Rattle.cir_ast.specs.Program.{Program}
use Rattle.circom_words.specs.Words.{Options}
use Rattle.circom_lines.specs.declared.answer.Refusal.{Refusal}
use Rattle.circom_lines.specs.declared.answer.Verdict.TheVariants.{Satisfied}
use Rattle.circom_files.specs.Check.{check_of}
use Rattle.circom_files.specs.Reply.{Reply, Says, said}
use Rattle.circom_files.specs.Files.{bytes_in}
use Rattle.circom_files.specs.Running.{witnessed, accepted_input, input_in}
use Rattle.circom_files.specs.Satisfaction.{Satisfies}
use Rattle.circom_files.specs.declared.outcome.Ran.{Ran}
use Rattle.circom_files.specs.declared.outcome.Ran.TheVariants.{Ended, Halted}
use Rattle.circom_files.proofs.Checked.{check_of_read}
use Rattle.circom_files.proofs.CheckLaws.{satisfied}
use Rattle.cir_compile.proofs.OneFile.{one_file}
use Rattle.circom_gold.specs.Compile.{AreConstraintsOf, LoadsAgain, task_of}
use Rattle.circom_gold.specs.Witness.{HasWitness, IsWitnessed, IsWitnessOf, Witnesses}
use Rattle.circom_gold.specs.Witness.{GivesInput, IsRunOf, IsSource, values_by_wire}
use Rattle.circom_gold.proofs.InputCounts.{main_inputs, shapes_counted}
use Rattle.circom_gold.proofs.Satisfied.{values_are, few_values, satisfied_file}
use Rattle.circom_gold.proofs.OneRun.{one_witness, compiled_as}

module _ (files : Contents) (source input out : List ℕ) (options : Options) (fuel : ℕ) where
  abbrev Answered : Reply → Type 0
  Answered r =
      Says (witnessed out) (λ found. Witnesses files source input options fuel found) r

  -- the status of a reply to what was found
  abbrev status_in : Result Ran Refusal → ℕ
  status_in (Ok (Ended values log)) = 0
  status_in (Ok (Halted h)) = 1
  status_in (Err refusal) = 1

  status_said : (found : Result Ran Refusal)
      → (said (witnessed out) found).status ≡ status_in found
  status_said (Ok (Ended values log)) = refl
  status_said (Ok (Halted h)) = refl
  status_said (Err refusal) = refl

  ended : (found : Result Ran Refusal) → Witnesses files source input options fuel found
      → status_in found ≡ 0 → HasWitness files source input options fuel
  ended (Ok (Ended values log)) x e = record { values = values; log = log; found = x }
  ended (Ok (Halted h)) x e = let bad : 1 ≡ 0 = e in absurd (omega (arith, bad))
  ended (Err refusal) x e = let bad : 1 ≡ 0 = e in absurd (omega (arith, bad))

  pub one_answer : (found : Ran) (r : Reply) → Answered r
      → IsWitnessed files source input options fuel found → r ≡ witnessed out found
  one_answer found r (other, x, e) y =
      e ∙ ap (said (witnessed out))
      (one_witness files source input options fuel other (Ok found) x y)

  pub status_of : (r : Reply) → Answered r
      → (r.status ≡ 0) ↔ HasWitness files source input options fuel
  status_of r (found, x, e) = (
    λ zero. ended found x
        (sym (status_said found) ∙ sym (ap (λ (s : Reply). s.status) e) ∙ zero),
    λ has. ap (λ (s : Reply). s.status)
        (one_answer (Ended has.values has.log) r (found, x, e) has.found),
  )

all_small : (xs : List ℕ) → ((k : ℕ) → slice_index xs k < P) → All (λ n. n < P) xs
all_small [] h = All-nil (λ n. n < P)
all_small (x ∷ xs) h =
    All-cons (λ n. n < P) x xs (h 0) (all_small xs (λ k. h (suc k)))

-- an input that is read
pub accepted_is : (inputs : List InputShape) (r : Result (List ℕ) InputFault) (ns : List ℕ)
    → accepted_input inputs r ≡ Ok ns → r ≡ Ok ns
accepted_is inputs (Ok ms) ns e = let same : ms ≡ ns = cc in ap Ok same
accepted_is inputs (Err fault) ns e = cc

pub input_read : (inputs : List InputShape) (b : Result (List ℕ) Refusal) (ns : List ℕ)
    → (b >>= λ bytes. accepted_input inputs (input_of bytes inputs)) ≡ Ok ns
    → (bytes : List ℕ) × (input_of bytes inputs ≡ Ok ns)
input_read inputs (Ok bytes) ns e = (bytes, accepted_is inputs (input_of bytes inputs) ns e)
input_read inputs (Err r) ns e = let bad : ⊥ = cc in absurd bad

module _ (files : Contents) (input : List ℕ) (p : Program) (resolved : IsResolved p)
    (inputs : List ℕ) (g : GivesInput files input p (Ok (1 ∷ inputs))) where
  bytes_read : (bytes : List ℕ) × (input_of bytes g.inputs ≡ Ok (1 ∷ inputs))
  unfolding input_in
  bytes_read = input_read g.inputs (bytes_in files input) (1 ∷ inputs) g.reads

  pub many : length inputs ≡ g.has.meaning.public_inputs + g.has.meaning.private_inputs
  many =
      (input_counted bytes_read.0 g.inputs inputs bytes_read.1).many
      ∙ sym (shapes_counted g.inputs)
      ∙ ap (λ (shapes : List Shape). sum_by (λ (i : Shape). i.count) shapes) g.has.are
      ∙ main_inputs p g.has.meaning resolved g.has.compiles

  small : All (λ n. n < P) inputs
  small = (input_counted bytes_read.0 g.inputs inputs bytes_read.1).below

-- the values of a run on an input that is read
module _ (files : Contents) (input : List ℕ) (level : Level) (p : Program) (f : File)
    (resolved : IsResolved p) (written : IsWritten p level f) (fuel : ℕ) (inputs : List ℕ)
    (g : GivesInput files input p (Ok (1 ∷ inputs))) (values : List ℕ) (log : List (List ℕ))
    (run : IsRunOf p f fuel inputs (Ended values log)) where
  each : length inputs ≡ g.has.meaning.public_inputs + g.has.meaning.private_inputs
  each = many files input p resolved inputs g

  below : All (λ n. n < P) inputs
  below = small files input p resolved inputs g

  are : AreValues f (values_by_wire f run.0)
  are = values_are p level f written resolved g.has.meaning g.has.compiles fuel inputs run.0 log
      each below run.1

  few : length (values_by_wire f run.0) ≤ most_wires
  few = few_values p level f written resolved g.has.meaning g.has.compiles fuel inputs run.0 log
      each below run.1

  pub run_read : wtns_of (wtns_bytes values) ≡ Ok values
  run_read =
      ap (λ (v : List ℕ). wtns_of (wtns_bytes v)) run.2
      ∙ values_again (values_by_wire f run.0) few
      (all_small (values_by_wire f run.0) are.below)
      ∙ ap Ok (sym run.2)

  pub run_satisfied : Satisfies f values
  run_satisfied =
      subst (Satisfies f) (sym run.2)
      (satisfied_file p level f written resolved g.has.meaning g.has.compiles fuel inputs run.0
      log each below run.1)

pub resolved_in : (files : Contents) (source : List ℕ) (options : Options) (p : Program)
    (f : File) → IsSource files source options p f → IsResolved p
resolved_in files source options p f compiled =
    (loaded files source options.folder p compiled.loaded).0

module _ (files : Contents) (source input : List ℕ) (options : Options) (fuel : ℕ)
    (values : List ℕ) (log : List (List ℕ))
    (w : IsWitnessed files source input options fuel (Ended values log)) where
  resolved : IsResolved w.program
  resolved = resolved_in files source options w.program w.file w.compiled

  pub is_witness : IsWitnessOf files source input options fuel (wtns_bytes values)
  is_witness = record {
    values = values;
    log = log;
    found = w;
    read = run_read files input options.level w.program w.file resolved w.compiled.written fuel
        w.inputs w.given values log w.run;
    satisfied = run_satisfied files input options.level w.program w.file resolved
        w.compiled.written fuel w.inputs w.given values log w.run;
  }

-- the reply that says so writes them
pub written_witness : (files : Contents) (source input out : List ℕ) (options : Options)
    (fuel : ℕ)
    (r : Reply) → Says (witnessed out)
    (λ found. Witnesses files source input options fuel found) r → r.status ≡ 0
    → (bytes : List ℕ) × (r.file ≡ Some (record { name = out; bytes = bytes }))
    × IsWitnessOf files source input options fuel bytes
written_witness files source input out options fuel r answered zero =
    let has = (status_of files source input out options fuel r answered).0 zero in
    let is = one_answer files source input out options fuel (Ended has.values has.log) r answered
    has.found in (
      wtns_bytes has.values,
      ap (λ (s : Reply). s.file) is,
      is_witness files source input options fuel has.values has.log has.found,
    )

-- what is there
pub there : {A : Type 0} (o : Option A) (P : A → Type 0) → IsSomeAnd o P
    → (x : A) × (o ≡ Some x) × P x
there None P h = absurd h
there (Some x) P h = (x, refl, h)

-- the two files are read, and `check` of them is satisfied
pub check_accepts : (first second after : Contents) (source input r1cs wtns : List ℕ)
    (options : Options) (fuel : ℕ) → LoadsAgain first second source options
    → IsSomeAnd (after r1cs) (AreConstraintsOf first source options)
    → IsSomeAnd (after wtns) (IsWitnessOf second source input options fuel)
    → check_of after r1cs wtns ≡ Ok Satisfied
check_accepts first second after source input r1cs wtns options fuel again f w =
    let task = task_of source options in
    let a = there (after r1cs) (AreConstraintsOf first source options) f in
    let b = there (after wtns) (IsWitnessOf second source input options fuel) w in
    let k = a.2 in
    let c = k.compiled in
    let x = b.2.found in
    let compiled : IsCompiled second task k.file =
    record {
      program = c.program;
      loaded = again c.program c.loaded;
      written = c.written;
    } in
    let same : x.file ≡ k.file =
    one_file second task x.file k.file
    (compiled_as second source options x.program x.file x.compiled) compiled in
    check_of_read after r1cs wtns a.0 b.0 k.file b.2.values a.1 k.read b.1 b.2.read
    ∙ ap Ok ((satisfied k.file b.2.values).1
    (subst (λ (g : File). Satisfies g b.2.values) same b.2.satisfied))
