-- What `determine` and `confirm` find in given files.
use Rattle.std.proofs.Common.{◌≡◌, ◌∙◌, ◌⊎◌, ℕ, List, All, Result, Ok, Err}
use Rattle.std.proofs.Common.{IfOk, ap, inl, inr}
use Rattle.std.proofs.Common.{◌+◌, Vec, refl, subst, sym, arith}
use Rattle.std.specs.declared.alloc.AllocError.{AllocError}
use Rattle.std.specs.declared.alloc.Global.{Global}
use Rattle.binary_format.specs.Reading.{◌>>=◌}
use Rattle.out_io.specs.Contents.{Contents}
use Rattle.gold_field.specs.Form.{ConstraintBelow}
use Rattle.gold_field.specs.declared.form.Constraint.{Constraint}
use Rattle.iden_files.specs.File.{File, IsFile}
use Rattle.iden_files.specs.ReadR1cs.{r1cs_of}
use Rattle.cir_determined.proofs.Once.{least_is_one, never_both, verdicts_are_one}
use Rattle.cir_determined.proofs.Sound.{certificate_determines}
use Rattle.cir_determined.specs.Certificate.{IsVerdict}
use Rattle.cir_determined.specs.Circuit.{Circuit, in_normal_form}
use Rattle.cir_determined.specs.Determined.{Determines}
use Rattle.cir_determined.specs.Text.{rules_text}
use Rattle.cir_determined.specs.declared.rule.Answer.{Answer}
use Rattle.cir_determined.specs.declared.rule.Answer.TheVariants.{Shown, NotShown}
use Rattle.cir_determined.specs.declared.rule.Confirm.{Confirm}
use Rattle.cir_determined.specs.declared.rule.Confirm.TheVariants.{Confirmed, BadRule, Short}
use Rattle.cir_determined.specs.declared.rule.Rule.{Rule}
use Rattle.circom_lines.specs.declared.answer.Refusal.{Refusal}
use Rattle.circom_files.specs.Determining.{Confirms, HoldsCertificate, IsConfirmed}
use Rattle.circom_files.specs.Determining.{HasDetermined, IsReadBack, IsSearched, Searches}
use Rattle.circom_files.specs.Determining.{WritesCertificate, WritesRules, circuit_of, claim_of}
use Rattle.circom_files.specs.Files.{accepted, bytes_in, r1cs_in, rules_in}
use Rattle.circom_files.specs.Proving.{FoundIn}
use Rattle.circom_files.specs.Reply.{Reply, confirmed, determined, said}
use Rattle.circom_files.specs.declared.outcome.Claim.{Claim}
use Rattle.circom_files.proofs.Once.{kept, one_found, read_in_limits, second_step}

-- what is confirmed of the rules is one
pub one_confirm : (files : Contents) (r1cs certificate : List ℕ) (a b : Result Confirm Refusal)
    → Confirms files r1cs certificate a → Confirms files r1cs certificate b → a ≡ b
one_confirm files r1cs certificate =
    one_found IsConfirmed (claim_of files r1cs certificate)
    (λ c read. verdicts_are_one (in_normal_form (circuit_of c.file)) c.rules)

pub confirmed_is : (files : Contents) (r1cs certificate : List ℕ)
    → HoldsCertificate files r1cs certificate
    → Confirms files r1cs certificate (Ok Confirmed)
confirmed_is files r1cs certificate h =
    subst (λ (x : Result Claim Refusal). FoundIn IsConfirmed x (Ok Confirmed)) (sym h.read)
    h.confirmed

-- two searches find the same, or rules both
abbrev pub FindRules : Result Answer Refusal → Result Answer Refusal → Type 0
FindRules x y = (a : Vec Rule Global) × (b : Vec Rule Global)
    × (x ≡ Ok (Shown a)) × (y ≡ Ok (Shown b))

one_in : (read : Result File Refusal) (x y : Result Answer Refusal)
    → FoundIn IsSearched read x → FoundIn IsSearched read y → (x ≡ y) ⊎ FindRules x y
one_in (Ok f) (Ok (Shown a)) (Ok (Shown b)) p q = inr (a, b, refl, refl)
one_in (Ok f) (Ok (NotShown v)) (Ok (NotShown w)) p q =
    inl (ap (λ (n : ℕ). Ok (NotShown n)) (least_is_one (in_normal_form (circuit_of f)) v w p q))
one_in (Ok f) (Ok (Shown a)) (Ok (NotShown w)) p q =
    absurd (never_both (in_normal_form (circuit_of f)) a.items w p.0 q)
one_in (Ok f) (Ok (NotShown v)) (Ok (Shown b)) p q =
    absurd (never_both (in_normal_form (circuit_of f)) b.items v q.0 p)
one_in (Ok f) (Ok x) (Err s) p q = absurd q
one_in (Ok f) (Err r) y p q = absurd p
one_in (Err r) (Ok x) y p q = absurd p
one_in (Err r) (Err s) (Ok y) p q = absurd q
one_in (Err r) (Err s) (Err t) p q = inl (ap Err (sym p ∙ q))

pub one_search : (files : Contents) (r1cs : List ℕ) (x y : Result Answer Refusal)
    → Searches files r1cs x → Searches files r1cs y → (x ≡ y) ⊎ FindRules x y
one_search files r1cs x y p q = one_in (r1cs_in files r1cs) x y p q

-- the rules that are found are written
shown_in : (read : Result File Refusal) (rules : Vec Rule Global)
    → FoundIn IsSearched read (Ok (Shown rules))
    → (f : File) × (read ≡ Ok f) × IsSearched f (Shown rules)
shown_in (Ok f) rules is = (f, refl, is)
shown_in (Err r) rules is = absurd is

pub shown_written : (files : Contents) (r1cs out : List ℕ) (rules : Vec Rule Global) (r : Reply)
    → Searches files r1cs (Ok (Shown rules)) → r ≡ said (determined out) (Ok (Shown rules))
    → WritesRules files r1cs out r
shown_written files r1cs out rules r is e =
    let f = shown_in (r1cs_in files r1cs) rules is in
    record {
      file = f.0;
      read = f.1;
      rules = rules.items;
      certificate = f.2.0;
      few = f.2.1;
      written = ap (λ (x : Reply). x.file) e;
    }

-- the reply that writes rules writes what is read as rules that show it
pub writes_certificate : (files : Contents) (r1cs out : List ℕ) (found : Answer) (r : Reply)
    → Searches files r1cs (Ok found) → IsReadBack found → r ≡ determined out found
    → r.status ≡ 0 → WritesCertificate files r1cs out r
writes_certificate files r1cs out (Shown rules) r is back e zero =
    let f = shown_in (r1cs_in files r1cs) rules is in
    let limits = read_in_limits files r1cs f.0 f.1 in
    record {
      bytes = rules_text rules.items;
      file = ap (λ (x : Reply). x.file) e;
      certificate = record {
        file = f.0;
        read = f.1;
        rules = rules.items;
        text = back (omega (arith, f.2.1, limits.wires));
        certificate = f.2.0;
      };
    }
writes_certificate files r1cs out (NotShown wire) r is back e zero =
    let two : r.status ≡ 2 = ap (λ (x : Reply). x.status) e in
    absurd (omega (arith, two, zero))

-- the wires of the constraints of a file are below its number of wires
pub below : (f : File) (ks : List Constraint) → ks ≡ f.constraints → IsFile f
    → All (ConstraintBelow f.wires) ks
below f ks e file =
    subst (λ (l : List Constraint). All (ConstraintBelow f.wires) l) (sym e) file.wired

-- confirmed rules show that the inputs determine the outputs
sound : (f : File) (rules : List Rule) (found : Result Confirm AllocError) → IsFile f
    → IfOk found (IsConfirmed (record { file = f; rules = rules }))
    → IfOk found (λ verdict. verdict ≡ Confirmed → Determines (circuit_of f))
sound f rules (Ok Confirmed) file is = λ same.
    certificate_determines (circuit_of f) rules file.wired is
sound f rules (Ok (BadRule index)) file is = λ same. let bad : ⊥ = cc in absurd bad
sound f rules (Ok (Short wire)) file is = λ same. let bad : ⊥ = cc in absurd bad
sound f rules (Err e) file is = tt

-- the same of a circuit of the file's constraints and counts
abbrev circuit_with : List Constraint → File → Circuit
circuit_with ks g = record {
  constraints = ks;
  wires = g.wires;
  outputs = g.outputs;
  inputs = g.public_inputs + g.private_inputs;
}

pub sound_as : (f g : File) (ks : List Constraint) (rules : List Rule)
    (found : Result Confirm AllocError) → g ≡ f → ks ≡ f.constraints → IsFile f
    → IfOk found (IsVerdict (in_normal_form (circuit_with ks g)) rules)
    → IfOk found (λ verdict. verdict ≡ Confirmed → Determines (circuit_of f))
sound_as f g ks rules found same_file same_list file is =
    let same : circuit_with ks g ≡ circuit_of f =
    λ i. circuit_with (same_list i) (same_file i) in
    sound f rules found file
    (subst (λ (c : Circuit). IfOk found (IsVerdict (in_normal_form c) rules)) same is)

-- the inputs determine the outputs where the rules are confirmed
pub confirmed_so : (found : Confirm) (r : Reply) (P : Type 0) → r ≡ confirmed found
    → (found ≡ Confirmed → P) → r.status ≡ 0 → P
confirmed_so Confirmed r P e so zero = so refl
confirmed_so (BadRule index) r P e so zero =
    let two : r.status ≡ 2 = ap (λ (x : Reply). x.status) e in
    absurd (omega (arith, two, zero))
confirmed_so (Short wire) r P e so zero =
    let two : r.status ≡ 2 = ap (λ (x : Reply). x.status) e in
    absurd (omega (arith, two, zero))

-- the file of a claim is the one under the name
claim_file : (files : Contents) (r1cs certificate : List ℕ) (c : Claim)
    → claim_of files r1cs certificate ≡ Ok c → r1cs_in files r1cs ≡ Ok c.file
unfolding claim_of r1cs_in
claim_file files r1cs certificate c e =
    second_step (bytes_in files r1cs) (λ bytes. accepted r1cs (r1cs_of bytes))
    (λ bytes file. rules_in files certificate >>= λ rs. Ok (record { file = file; rules = rs }))
    (λ x. x.file) c (λ bytes file d. claim_kept file (rules_in files certificate) d) e
  where
    claim_kept : (file : File) (rules : Result (List Rule) Refusal) (d : Claim)
        → (rules >>= λ rs. Ok (record { file = file; rules = rs })) ≡ Ok d → d.file ≡ file
    claim_kept file (Ok rs) d e =
        let made : Claim = record { file = file; rules = rs } in kept made d (λ x. x.file) e
    claim_kept file (Err r) d e = cc

pub claim_determined : (files : Contents) (r1cs certificate : List ℕ) (c : Claim)
    → claim_of files r1cs certificate ≡ Ok c → Determines (circuit_of c.file)
    → HasDetermined files r1cs
claim_determined files r1cs certificate c read determined = record {
  file = c.file;
  read = claim_file files r1cs certificate c read;
  determined = determined;
}
