-- What replies mean, command by command.
use Rattle.std.proofs.Common.{◌≡◌, ◌≢◌, ◌∙◌, ◌↔◌, ℕ, Bool, true, false}
use Rattle.std.proofs.Common.{List, length, slice_index}
use Rattle.std.proofs.Common.{◌==◌, Option, Some, None, Result, Ok, Err, IfSome, IsSomeAnd}
use Rattle.std.proofs.Common.{refl, ap}
use Rattle.std.proofs.Common.{sym, subst, arith, if◌then◌else◌}
use Rattle.std.proofs.lemmas.Bool.Decides.{Decides-eqb}
use Rattle.binary_format.specs.Reading.{◌>>=◌}
use Rattle.out_io.specs.Contents.{Contents}
use Rattle.iden_files.specs.File.{File}
use Rattle.lig_layout.specs.Laws.{publics_of}
use Rattle.wit_input.specs.Publics.{publics_text}
use Rattle.cir_determined.specs.declared.rule.Answer.{Answer}
use Rattle.cir_determined.specs.declared.rule.Answer.TheVariants.{Shown, NotShown}
use Rattle.cir_determined.specs.declared.rule.Confirm.{Confirm}
use Rattle.cir_determined.specs.declared.rule.Confirm.TheVariants.{Confirmed, BadRule, Short}
use Rattle.cir_determined.specs.declared.rule.Rule.{Rule}
use Rattle.circom_lines.specs.Lines.{verdict_status}
use Rattle.circom_words.specs.Words.{Command, ProveOptions, check, check_named, compile, witness}
use Rattle.circom_words.specs.Words.{prove, public, audit, name_signals, confirm, determine}
use Rattle.circom_words.specs.Words.{batch, generate}
use Rattle.circom_lines.specs.declared.answer.Refusal.{Refusal}
use Rattle.circom_lines.specs.declared.answer.Verdict.{Verdict}
use Rattle.circom_lines.specs.declared.answer.Verdict.TheVariants.{CountsDiffer, WireZero}
use Rattle.circom_lines.specs.declared.answer.Verdict.TheVariants.{ConstraintFails, Satisfied}
use Rattle.circom_files.specs.Check.{check_of, verdict}
use Rattle.circom_files.specs.Determining.{AreCertificate, HasCertificate}
use Rattle.circom_files.specs.Determining.{HoldsCertificate, IsConfirmed, IsSearched, claim_of}
use Rattle.circom_files.specs.Files.{r1cs_in}
use Rattle.circom_files.specs.Given.{Leaves}
use Rattle.circom_named.specs.Named.{described_of, failing_names, named}
use Rattle.circom_files.specs.Proving.{FoundIn, IsProved, public_of}
use Rattle.circom_files.specs.Proving.{published_values, witness_of}
use Rattle.circom_files.specs.Reply.{NewFile, Reply, checked, checked_by_name, confirmed}
use Rattle.circom_files.specs.Reply.{determined, proved, published, said}
use Rattle.circom_files.specs.Running.{generated, halted}
use Rattle.circom_files.specs.Satisfaction.{FailsFirstAt, IsAssignment, Satisfies}
use Rattle.circom_files.specs.declared.outcome.Claim.{Claim}
use Rattle.circom_named.specs.declared.described.Described.{Described}
use Rattle.circom_files.specs.declared.outcome.Generated.{Generated}
use Rattle.circom_files.specs.declared.outcome.Generated.TheVariants as made
use Rattle.circom_files.specs.declared.outcome.Named.{Named}
use Rattle.circom_files.specs.declared.outcome.Outcome.{Outcome}
use Rattle.circom_files.specs.declared.outcome.Outcome.TheVariants.{Made, Unmade}
use Rattle.circom_files.specs.declared.outcome.Published.{Published}
use Rattle.circom_files.specs.declared.outcome.Published.TheVariants.{Values, Wrong}
use Rattle.circom_files.specs.declared.outcome.Ran.TheVariants.{Halted}
use Rattle.circom_files.specs.declared.outcome.Witness.{Witness}
use Rattle.circom_files.proofs.Accepts.{says_accepted, zero_satisfied}
use Rattle.circom_files.proofs.CheckLaws.{least as least_failing, satisfied}
use Rattle.circom_named.proofs.Describing.{check_named_by, finding}
use Rattle.circom_files.proofs.Reading.{check_by, public_by}
use Rattle.circom_files.proofs.Certified.{confirmed_is, one_confirm}
use Rattle.circom_gold.specs.Answering.{Assures}
use Rattle.circom_gold.specs.Means.{ArePublicsOf, AreRead, AreSatisfied, Means, NamesFailing}
use Rattle.circom_gold.specs.Reply.{Answers}
use Rattle.circom_gold.specs.Witness.{Generates, HasGenerated}
use Rattle.circom_gold.proofs.CompileLaws as compiling
use Rattle.circom_gold.proofs.SymbolLines as naming
use Rattle.circom_gold.proofs.OneRun.{one_generated}
use Rattle.circom_gold.proofs.BatchLaws as batching
use Rattle.circom_gold.proofs.WitnessLaws as witnessing

-- the bytes are there under the name of the file that was written
left_under : (P : List ℕ → Type 0) (out bytes : List ℕ) (file : Option NewFile)
    (files after : Contents) → file ≡ Some (record { name = out; bytes = bytes })
    → Leaves file files after → P bytes → IsSomeAnd (after out) P
left_under P out bytes file files after e leaves p =
    let written : Leaves (Some (record { name = out; bytes = bytes })) files after =
    subst (λ (f : Option NewFile). Leaves f files after) e leaves in
    subst (λ (o : Option (List ℕ)). IsSomeAnd o P) (sym written.here) p

-- ---- constraints and values that are read

-- what is found in a witness that was read
found_in : {C : Type 0} (read : Result Witness Refusal) (g : Witness → C) (c : C)
    → (read >>= λ w. Ok (g w)) ≡ Ok c → (w : Witness) × (read ≡ Ok w) × (g w ≡ c)
found_in (Ok w) g c e = (w, refl, cc)
found_in (Err r) g c e = let bad : ⊥ = cc in absurd bad

-- ---- check

module _ (files : Contents) (r1cs wtns : List ℕ) where
  checked_so : (found : Result Verdict Refusal) → check_of files r1cs wtns ≡ found
      → (said checked found).status ≡ 0 → AreRead Satisfies files r1cs wtns
  checked_so (Ok v) is zero =
      let w = found_in (witness_of files r1cs wtns) (λ x. verdict x.file x.values) v
      (sym (check_by files r1cs wtns) ∙ is) in
      record {
        witness = w.0;
        read = w.1;
        so = (satisfied w.0.file w.0.values).0 (w.2 ∙ zero_satisfied v zero);
      }
  checked_so (Err r) is zero = absurd (omega (arith, zero))

  check_means : (r : Reply) → Answers files (Some (check r1cs wtns)) r
      → (r.status ≡ 0) ↔ AreRead Satisfies files r1cs wtns
  check_means r (found, is, e) = (
    λ zero. checked_so found is (sym (ap (λ (x : Reply). x.status) e) ∙ zero),
    λ a. ap (λ (x : Reply). x.status)
        (e ∙ ap (said checked) (sym is ∙ check_by files r1cs wtns
        ∙ ap (λ (x : Result Witness Refusal). x >>= λ w. Ok (verdict w.file w.values)) a.read
        ∙ ap Ok ((satisfied a.witness.file a.witness.values).1 a.so))),
  )

-- ---- check, where wires have names

module _ (files : Contents) (r1cs wtns names : List ℕ) where
  names_so : (read : Result Described Refusal) (found : Result Named Refusal)
      → finding read ≡ found → (said checked_by_name found).status ≡ 0
      → (d : Described) × (read ≡ Ok d) × Satisfies d.witness.file d.witness.values
  names_so (Ok d) (Ok n) is zero =
      let same : named d.witness.file d.witness.values d.lines ≡ n = cc in
      let fits : verdict d.witness.file d.witness.values ≡ Satisfied =
      ap (λ (x : Named). x.verdict) same ∙ zero_satisfied n.verdict zero in
      (d, refl, (satisfied d.witness.file d.witness.values).0 fits)
  names_so (Ok d) (Err r) is zero = let bad : ⊥ = cc in absurd bad
  names_so (Err r) (Ok n) is zero = let bad : ⊥ = cc in absurd bad
  names_so (Err r) (Err s) is zero = absurd (omega (arith, zero))

  -- the reply where all three files are read
  reply_named : (r : Reply) (d : Described)
      → Answers files (Some (check_named r1cs wtns names)) r
      → described_of files r1cs wtns names ≡ Ok d
      → r ≡ checked_by_name (named d.witness.file d.witness.values d.lines)
  reply_named r d (found, is, e) read =
      e ∙ ap (said checked_by_name)
      (sym is ∙ check_named_by files r1cs wtns names ∙ ap finding read)

  check_named_means : (r : Reply) → Answers files (Some (check_named r1cs wtns names)) r
      → (r.status ≡ 0) ↔ AreSatisfied files r1cs wtns names
  check_named_means r (found, is, e) = (
    λ zero.
        let d = names_so (described_of files r1cs wtns names) found
        (sym (check_named_by files r1cs wtns names) ∙ is)
        (sym (ap (λ (x : Reply). x.status) e) ∙ zero) in
        record { described = d.0; read = d.1; so = d.2 },
    λ a. ap (λ (x : Reply). x.status) (reply_named r a.described (found, is, e) a.read)
        ∙ ap verdict_status
        ((satisfied a.described.witness.file a.described.witness.values).1 a.so),
  )

  failing_named : (r : Reply) → Answers files (Some (check_named r1cs wtns names)) r
      → (d : Described) (k : ℕ) → described_of files r1cs wtns names ≡ Ok d
      → FailsFirstAt d.witness.file d.witness.values k
      → NamesFailing d k r.status r.text
  failing_named r answers d k read fails =
      let same : r ≡ checked_by_name (named d.witness.file d.witness.values d.lines) =
      reply_named r d answers read in
      let is : verdict d.witness.file d.witness.values ≡ ConstraintFails k =
      (least_failing d.witness.file d.witness.values k).1 fails in
      let all : r ≡ checked_by_name (record {
        verdict = ConstraintFails k;
        names = failing_names d.witness.file d.lines (ConstraintFails k);
      }) =
      same ∙ ap (λ (v : Verdict). checked_by_name (record {
        verdict = v;
        names = failing_names d.witness.file d.lines v;
      })) is in
      record {
        status = ap (λ (x : Reply). x.status) all;
        line = ap (λ (x : Reply). x.text) all;
      }

-- ---- prove

module _ (out : List ℕ) (options : ProveOptions) where
  proved_so : (read : Result Witness Refusal) (found : Result Outcome Refusal)
      → FoundIn (IsProved options) read found → (said (proved out) found).status ≡ 0
      → (w : Witness) × (read ≡ Ok w) × Satisfies w.file w.values
  proved_so (Ok w) (Ok (Made proof)) is zero = (w, refl, (satisfied w.file w.values).0 is.0)
  proved_so (Ok w) (Ok (Unmade v)) is zero = absurd (is.1 (zero_satisfied v zero))
  proved_so (Ok w) (Err r) is zero = absurd is
  proved_so (Err r) (Ok o) is zero = absurd is
  proved_so (Err r) (Err s) is zero = absurd (omega (arith, zero))

  made_so : (read : Result Witness Refusal) (found : Result Outcome Refusal) (a : Witness)
      → FoundIn (IsProved options) read found → read ≡ Ok a → Satisfies a.file a.values
      → (said (proved out) found).status ≡ 0
  made_so (Ok w) (Ok (Made proof)) a is e s = refl
  made_so (Ok w) (Ok (Unmade v)) a is e s =
      let same : a ≡ w = cc in
      let holds = subst (λ (x : Witness). Satisfies x.file x.values) same s in
      absurd (is.1 (sym is.0 ∙ (satisfied w.file w.values).1 holds))
  made_so (Ok w) (Err r) a is e s = absurd is
  made_so (Err r) found a is e s = let bad : ⊥ = cc in absurd bad

  prove_means : (files : Contents) (r1cs wtns : List ℕ) (r : Reply)
      → Answers files (Some (prove r1cs wtns out options)) r
      → (r.status ≡ 0) ↔ AreRead Satisfies files r1cs wtns
  prove_means files r1cs wtns r (found, is, e) = (
    λ zero.
        let w = proved_so (witness_of files r1cs wtns) found is
        (sym (ap (λ (x : Reply). x.status) e) ∙ zero) in
        record { witness = w.0; read = w.1; so = w.2 },
    λ a. ap (λ (x : Reply). x.status) e
        ∙ made_so (witness_of files r1cs wtns) found a.witness is a.read a.so,
  )

-- ---- public

module _ (f : File) (values : List ℕ) where
  abbrev chosen : Bool → Bool → Published
  chosen counts one =
      if counts then (if one then Values (publics_of f values) else Wrong WireZero)
      else Wrong (CountsDiffer (length values) f.wires)

  values_so : (counts one : Bool) (ns : List ℕ) → chosen counts one ≡ Values ns
      → (counts ≡ true) × (one ≡ true) × (publics_of f values ≡ ns)
  values_so true true ns e = (refl, refl, cc)
  values_so true false ns e = let bad : ⊥ = cc in absurd bad
  values_so false one ns e = let bad : ⊥ = cc in absurd bad

  wrong_so : (counts one : Bool) (v : Verdict) → chosen counts one ≡ Wrong v → v ≢ Satisfied
  wrong_so true true v e s = cc
  wrong_so true false v e s = cc
  wrong_so false one v e s = cc

  chosen_so : (counts one : Bool) → counts ≡ true → one ≡ true
      → chosen counts one ≡ Values (publics_of f values)
  chosen_so true true p q = refl
  chosen_so true false p q = let bad : ⊥ = cc in absurd bad
  chosen_so false one p q = let bad : ⊥ = cc in absurd bad

  assigned : (ns : List ℕ) → published_values f values ≡ Values ns
      → IsAssignment f values × (publics_of f values ≡ ns)
  assigned ns e =
      let tests = values_so (length values == f.wires) (slice_index values 0 == 1) ns e in (
        record {
          counts = (Decides-eqb (length values) f.wires).0 tests.0;
          one = (Decides-eqb (slice_index values 0) 1).0 tests.1;
        },
        tests.2,
      )

  published_so : IsAssignment f values
      → published_values f values ≡ Values (publics_of f values)
  published_so a =
      chosen_so (length values == f.wires) (slice_index values 0 == 1)
      ((Decides-eqb (length values) f.wires).1 a.counts)
      ((Decides-eqb (slice_index values 0) 1).1 a.one)

module _ (files : Contents) (r1cs wtns out : List ℕ) where
  -- a public file that is written is that of values that are read
  pub record Public (found : Result Published Refusal) : Type 0 where
    pub witness : Witness
    pub read : witness_of files r1cs wtns ≡ Ok witness
    pub assignment : IsAssignment witness.file witness.values
    pub found_is : found ≡ Ok (Values (publics_of witness.file witness.values))

  public_so : (found : Result Published Refusal) → public_of files r1cs wtns ≡ found
      → (said (published out) found).status ≡ 0 → Public found
  public_so (Ok (Values ns)) is zero =
      let w = found_in (witness_of files r1cs wtns) (λ x. published_values x.file x.values)
      (Values ns) (sym (public_by files r1cs wtns) ∙ is) in
      let a = assigned w.0.file w.0.values ns w.2 in
      record {
        witness = w.0;
        read = w.1;
        assignment = a.0;
        found_is = ap (λ (n : List ℕ). Ok (Values n)) (sym a.1);
      }
  public_so (Ok (Wrong v)) is zero =
      let w = found_in (witness_of files r1cs wtns) (λ x. published_values x.file x.values)
      (Wrong v) (sym (public_by files r1cs wtns) ∙ is) in
      absurd (wrong_so w.0.file w.0.values (length w.0.values == w.0.file.wires)
      (slice_index w.0.values 0 == 1) v w.2 (zero_satisfied v zero))
  public_so (Err r) is zero = absurd (omega (arith, zero))

  module _ (r : Reply) (answers : Answers files (Some (public r1cs wtns out)) r) where
    public_found : r.status ≡ 0 → Public answers.0
    public_found zero =
        public_so answers.0 answers.1 (sym (ap (λ (x : Reply). x.status) answers.2) ∙ zero)

    public_means : (r.status ≡ 0) ↔ AreRead IsAssignment files r1cs wtns
    public_means = (
      λ zero.
          let p = public_found zero in
          record { witness = p.witness; read = p.read; so = p.assignment },
      λ a. ap (λ (x : Reply). x.status)
          (answers.2 ∙ ap (said (published out)) (sym answers.1 ∙ public_by files r1cs wtns
          ∙ ap
          (λ (x : Result Witness Refusal). x >>= λ w. Ok (published_values w.file w.values))
          a.read
          ∙ ap Ok (published_so a.witness.file a.witness.values a.so))),
    )

    public_left : (after : Contents) → Leaves r.file files after → r.status ≡ 0
        → IsSomeAnd (after out) (ArePublicsOf files r1cs wtns)
    public_left after leaves zero =
        let p = public_found zero in
        let values = publics_of p.witness.file p.witness.values in
        left_under (ArePublicsOf files r1cs wtns) out (publics_text values) r.file files after
        (ap (λ (x : Reply). x.file) (answers.2 ∙ ap (said (published out)) p.found_is)) leaves
        (record { witness = p.witness; read = p.read; text = refl })

-- ---- generate

module _ (seed size fuel : ℕ) where
  generated_so : (found : Result Generated Refusal) → Generates seed size fuel found
      → (said (generated size) found).status ≡ 0 → HasGenerated seed size fuel
  generated_so (Ok (made.Ended wires constraints out log)) is zero =
      record { wires = wires; constraints = constraints; out = out; log = log; found = is }
  generated_so (Ok (made.Halted h)) is zero = absurd (omega (arith, zero))
  generated_so (Err r) is zero = absurd (omega (arith, zero))

  generate_means : (r : Reply) (found : Result Generated Refusal) → Generates seed size fuel found
      → r ≡ said (generated size) found → (r.status ≡ 0) ↔ HasGenerated seed size fuel
  generate_means r found is e = (
    λ zero. generated_so found is (sym (ap (λ (x : Reply). x.status) e) ∙ zero),
    λ has. ap (λ (x : Reply). x.status)
        (e ∙ ap (said (generated size))
        (one_generated seed size fuel found
        (Ok (made.Ended has.wires has.constraints has.out has.log)) is has.found)),
  )

-- ---- determine and confirm

module _ (files : Contents) (r1cs : List ℕ) where
  module _ (out : List ℕ) where
    answer_shown : (read : Result File Refusal) (found : Result Answer Refusal)
        → FoundIn IsSearched read found → (said (determined out) found).status ≡ 0
        → (f : File) × (rules : List Rule) × (read ≡ Ok f) × AreCertificate f rules
    answer_shown (Ok f) (Ok (Shown rules)) is zero = (f, rules.items, refl, is.0)
    answer_shown (Ok f) (Ok (NotShown wire)) is zero = absurd (omega (arith, zero))
    answer_shown (Ok f) (Err r) is zero = absurd is
    answer_shown (Err r) (Ok a) is zero = absurd is
    answer_shown (Err r) (Err s) is zero = absurd (omega (arith, zero))

    shown_answer : (read : Result File Refusal) (found : Result Answer Refusal) (f : File)
        (rules : List Rule) → FoundIn IsSearched read found → read ≡ Ok f
        → AreCertificate f rules
        → (said (determined out) found).status ≡ 0
    shown_answer (Ok g) (Ok (Shown rs)) f rules is e c = refl
    shown_answer (Ok g) (Ok (NotShown wire)) f rules is e c =
        let same : f ≡ g = cc in
        let certificate = subst (λ (x : File). AreCertificate x rules) same c in
        absurd (is.never (record {
          rules = rules;
          apply = certificate.apply;
          known = certificate.outputs wire is.output;
        }))
    shown_answer (Ok g) (Err r) f rules is e c = absurd is
    shown_answer (Err r) found f rules is e c = let bad : ⊥ = cc in absurd bad

    determine_means : (r : Reply) → Answers files (Some (determine r1cs out)) r
        → (r.status ≡ 0) ↔ HasCertificate files r1cs
    determine_means r (found, is, e) = (
      λ zero.
          let a = answer_shown (r1cs_in files r1cs) found is
          (sym (ap (λ (x : Reply). x.status) e) ∙ zero) in
          record { file = a.0; read = a.2; rules = a.1; certificate = a.3 },
      λ has. ap (λ (x : Reply). x.status) e
          ∙ shown_answer (r1cs_in files r1cs) found has.file has.rules is has.read
          has.certificate,
    )

  module _ (certificate : List ℕ) where
    verdict_confirmed : (read : Result Claim Refusal) (found : Result Confirm Refusal)
        → FoundIn IsConfirmed read found → (said confirmed found).status ≡ 0
        → (c : Claim) × (read ≡ Ok c) × AreCertificate c.file c.rules
    verdict_confirmed (Ok c) (Ok Confirmed) is zero = (c, refl, is)
    verdict_confirmed (Ok c) (Ok (BadRule index)) is zero = absurd (omega (arith, zero))
    verdict_confirmed (Ok c) (Ok (Short wire)) is zero = absurd (omega (arith, zero))
    verdict_confirmed (Ok c) (Err r) is zero = absurd is
    verdict_confirmed (Err r) (Ok v) is zero = absurd is
    verdict_confirmed (Err r) (Err s) is zero = absurd (omega (arith, zero))

    confirm_means : (r : Reply) → Answers files (Some (confirm r1cs certificate)) r
        → (r.status ≡ 0) ↔ HoldsCertificate files r1cs certificate
    confirm_means r (found, is, e) = (
      λ zero.
          let a = verdict_confirmed (claim_of files r1cs certificate) found is
          (sym (ap (λ (x : Reply). x.status) e) ∙ zero) in
          record { claim = a.0; read = a.1; confirmed = a.2 },
      λ holds. ap (λ (x : Reply). x.status)
          (e ∙ ap (said confirmed)
          (one_confirm files r1cs certificate found (Ok Confirmed) is
          (confirmed_is files r1cs certificate holds))),
    )

-- ---- every command

means_of : (c : Command) (files after : Contents) (r : Reply) → Answers files (Some c) r
    → Leaves r.file files after → Assures c files r → Means c files after r.status r.text
means_of (check r1cs wtns) files after r answers leaves assured =
    check_means files r1cs wtns r answers
means_of (check_named r1cs wtns names) files after r answers leaves assured = (
  check_named_means files r1cs wtns names r answers,
  failing_named files r1cs wtns names r answers,
)
means_of (compile source out options) files after r answers leaves assured = (
  compiling.status_of files source out options r answers,
  λ zero.
      let w = assured zero in
      left_under _ out w.bytes r.file files after w.file leaves w.constraints,
)
means_of (witness source input out options running) files after r answers leaves assured = (
  witnessing.status_of files source input out options running.fuel r answers,
  λ zero.
      let w = witnessing.written_witness files source input out options running.fuel r answers
      zero in
      left_under _ out w.0 r.file files after w.1 leaves w.2,
  λ h stops.
      let same : r ≡ halted h =
      witnessing.one_answer files source input out options running.fuel (Halted h) r answers
      stops in
      (ap (λ (x : Reply). x.status) same, ap (λ (x : Reply). x.text) same),
)
means_of (prove r1cs wtns out options) files after r answers leaves assured = (
  prove_means out options files r1cs wtns r answers,
  λ zero.
      let w = assured zero in
      left_under _ out w.bytes r.file files after w.file leaves w.proof,
)
means_of (public r1cs wtns out) files after r answers leaves assured = (
  public_means files r1cs wtns out r answers,
  λ zero. public_left files r1cs wtns out r answers after leaves zero,
)
means_of (audit r1cs publics proof) files after r answers leaves assured =
    says_accepted files r1cs publics proof r answers
means_of (name_signals source out options) files after r answers leaves assured = (
  naming.status_of files source options out r answers,
  λ zero.
      let w = assured zero in
      left_under _ out w.bytes r.file files after w.file leaves w.names,
)
means_of (batch source inputs out options running) files after r answers leaves assured = (
  batching.status_of files source inputs out options running.fuel r answers,
  λ zero.
      let w = batching.written_batch files source inputs out options running.fuel r answers zero in
      left_under _ out w.0 r.file files after w.1 leaves w.2,
)
means_of (determine r1cs out) files after r answers leaves assured = (
  determine_means files r1cs out r answers,
  λ zero.
      let w = assured zero in
      left_under _ out w.bytes r.file files after w.file leaves w.certificate,
)
means_of (confirm r1cs certificate) files after r answers leaves assured = (
  confirm_means files r1cs certificate r answers,
  assured,
)
means_of (generate seed size running) files after r answers leaves assured =
    generate_means seed size running.fuel r answers.0 answers.1 answers.2

-- the reply whose file is written has the meaning of the command
pub has_meaning : (command : Option Command) (files after : Contents) (r : Reply)
    → Answers files command r → Leaves r.file files after
    → IfSome command (λ c. Assures c files r)
    → IfSome command (λ c. Means c files after r.status r.text)
has_meaning None files after r answers leaves assured = tt
has_meaning (Some c) files after r answers leaves assured =
    means_of c files after r answers leaves assured
