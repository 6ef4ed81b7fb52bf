-- What commands come to that run one after the other.
use Rattle.std.proofs.Common.{◌≡◌, ◌≢◌, ◌∙◌, ◌<◌, ℕ, List, Option, Some}
use Rattle.std.proofs.Common.{None, Result, Ok, Err}
use Rattle.std.proofs.Common.{IsSomeAnd, All, ap, refl, subst, sym, drop}
use Rattle.std.specs.Prelude.{⊤}
use Rattle.std.proofs.lemmas.List.Elements.{All-take, All-drop}
use Rattle.binary_format.specs.Reading.{◌>>=◌}
use Rattle.out_io.specs.Contents.{Contents}
use Rattle.gold_field.specs.declared.gold.TheConstants.{P}
use Rattle.iden_files.specs.File.{File}
use Rattle.iden_files.specs.ReadR1cs.{r1cs_of}
use Rattle.iden_files.specs.ReadWtns.{wtns_of}
use Rattle.iden_files.specs.Refusal.{Refusal as Fault}
use Rattle.cir_names.proofs.Asking.{loaded_again}
use Rattle.cir_names.specs.Asking.{IsUnasked}
use Rattle.lig_layout.specs.Laws.{publics_of}
use Rattle.lig_layout.specs.System.{public_count}
use Rattle.lig_proof.specs.declared.verdict.Verdict.TheVariants.{Accepted}
use Rattle.wit_input.proofs.ReadBack.{publics_again}
use Rattle.wit_input.specs.Publics.{publics_of as publics_read, publics_text}
use Rattle.cir_determined.specs.Text.{rules_of}
use Rattle.cir_determined.specs.declared.rule.Answer.{Answer}
use Rattle.cir_determined.specs.declared.rule.Answer.TheVariants.{Shown, NotShown}
use Rattle.cir_determined.specs.declared.rule.Confirm.TheVariants.{Confirmed}
use Rattle.cir_determined.specs.declared.rule.Rule.{Rule}
use Rattle.circom_lines.specs.Determining.{confirmed_line}
use Rattle.circom_lines.specs.Lines.{verdict_line}
use Rattle.circom_lines.specs.Proving.{audit_line}
use Rattle.circom_words.specs.Words.{Options, ProveOptions, audit, check, compile, prove, public}
use Rattle.circom_words.specs.Words.{confirm, determine, witness}
use Rattle.circom_lines.specs.declared.answer.Refusal.{Refusal}
use Rattle.circom_lines.specs.declared.answer.Verdict.TheVariants.{Satisfied}
use Rattle.circom_words.specs.declared.options.RunOptions.{RunOptions}
use Rattle.circom_files.specs.Accepted.{IsAccepted, IsProofOf}
use Rattle.circom_files.specs.Check.{check_of}
use Rattle.circom_files.specs.Determining.{HoldsCertificate, IsCertificateOf, claim_of}
use Rattle.circom_files.specs.Files.{accepted, accepted_publics, accepted_rules, bytes_in}
use Rattle.circom_files.specs.Files.{publics_in, r1cs_in, rules_in, wtns_in}
use Rattle.circom_files.specs.Given.{Leaves}
use Rattle.circom_files.specs.Proving.{offer_of, witness_of}
use Rattle.circom_files.specs.Reply.{NewFile, Reply, audited, checked, confirmed, determined}
use Rattle.circom_files.specs.Reply.{proved, published, said}
use Rattle.circom_files.specs.Running.{witnessed}
use Rattle.circom_files.specs.declared.outcome.Claim.{Claim}
use Rattle.circom_files.specs.declared.outcome.Offer.{Offer}
use Rattle.circom_files.specs.declared.outcome.Outcome.{Outcome}
use Rattle.circom_files.specs.declared.outcome.Outcome.TheVariants.{Made, Unmade}
use Rattle.circom_files.specs.declared.outcome.Published.{Published}
use Rattle.circom_files.specs.declared.outcome.Published.TheVariants.{Values, Wrong}
use Rattle.circom_files.specs.declared.outcome.Ran.{Ran}
use Rattle.circom_files.specs.declared.outcome.Ran.TheVariants.{Ended, Halted}
use Rattle.circom_files.specs.declared.outcome.Witness.{Witness}
use Rattle.circom_files.proofs.Accepts.{accepted_is}
use Rattle.circom_files.proofs.Certified.{confirmed_is, one_confirm}
use Rattle.circom_files.proofs.Numbers.{values_below}
use Rattle.circom_files.proofs.Once.{one_audit}
use Rattle.circom_gold.specs.Compile.{AreConstraintsOf, LoadsAgain}
use Rattle.circom_gold.specs.Means.{ArePublicsOf}
use Rattle.circom_gold.specs.Reply.{constraints_written}
use Rattle.circom_gold.specs.Run.{IsReplied}
use Rattle.circom_gold.proofs.WitnessLaws.{check_accepts, there}

-- ---- files that a command leaves as they are

-- the file of a reply, if it has one, is under this name
abbrev IsNamed : List ℕ → Option NewFile → Type 0
IsNamed out None = ⊤
IsNamed out (Some f) = f.name ≡ out

kept : (out : List ℕ) (file : Option NewFile) (files after : Contents) → IsNamed out file
    → Leaves file files after → (other : List ℕ) → other ≢ out
    → after other ≡ files other
kept out None files after named leaves other differ = ap (λ (c : Contents). c other) leaves
kept out (Some f) files after named leaves other differ =
    leaves.others other (λ e. differ (e ∙ named))

said_named : {X : Type 0} (reply : X → Reply) (out : List ℕ) (found : Result X Refusal)
    → ((x : X) → IsNamed out (reply x).file) → IsNamed out (said reply found).file
said_named reply out (Ok x) all = all x
said_named reply out (Err r) all = tt

-- of a reply to what was found
others : {X : Type 0} (reply : X → Reply) (out : List ℕ) (found : Result X Refusal) (r : Reply)
    (files after : Contents) → ((x : X) → IsNamed out (reply x).file) → r ≡ said reply found
    → Leaves r.file files after → (other : List ℕ) → other ≢ out
    → after other ≡ files other
others reply out found r files after all e leaves =
    kept out r.file files after
    (subst (λ (x : Reply). IsNamed out x.file) (sym e) (said_named reply out found all)) leaves

constraints_named : (out : List ℕ) (f : File) → IsNamed out (constraints_written out f).file
constraints_named out f = refl

witnessed_named : (out : List ℕ) (x : Ran) → IsNamed out (witnessed out x).file
witnessed_named out (Ended values log) = refl
witnessed_named out (Halted h) = tt

proved_named : (out : List ℕ) (x : Outcome) → IsNamed out (proved out x).file
proved_named out (Made bytes) = refl
proved_named out (Unmade v) = tt

published_named : (out : List ℕ) (x : Published) → IsNamed out (published out x).file
published_named out (Values values) = refl
published_named out (Wrong v) = tt

-- ---- compile, witness, check

module _ (first second third last : Contents) (source input r1cs wtns : List ℕ)
    (options : Options) (running : RunOptions) (exit : ℕ) (made ran text : List ℕ)
    (a : IsReplied (Some (compile source r1cs options)) first second 0 made)
    (b : IsReplied (Some (witness source input wtns options running)) second third 0 ran)
    (d : IsReplied (Some (check r1cs wtns)) third last exit text)
    (unasked : IsUnasked first source options.folder r1cs) (differ : wtns ≢ r1cs) where
  again : LoadsAgain first second source options
  again p loaded =
      loaded_again first second options.folder r1cs
      (others (constraints_written r1cs) r1cs a.answers.0 a.reply first second
      (constraints_named r1cs) a.answers.2 a.leaves) source p loaded unasked

  same_r1cs : third r1cs ≡ second r1cs
  same_r1cs =
      others (witnessed wtns) wtns b.answers.0 b.reply second third (witnessed_named wtns)
      b.answers.2 b.leaves r1cs (λ e. differ (sym e))

  checks : check_of third r1cs wtns ≡ Ok Satisfied
  checks =
      check_accepts first second third source input r1cs wtns options running.fuel again
      (subst (λ (o : Option (List ℕ)). IsSomeAnd o (AreConstraintsOf first source options))
      (sym same_r1cs) (a.means.1 refl)) (b.means.1 refl)

  pub satisfied_in_turn : (exit ≡ 0) × (text ≡ verdict_line Satisfied)
  satisfied_in_turn =
      let is : d.reply ≡ checked Satisfied =
      d.answers.2 ∙ ap (said checked) (sym d.answers.1 ∙ checks) in
      (d.status ∙ ap (λ (r : Reply). r.status) is, d.said ∙ ap (λ (r : Reply). r.text) is)

-- ---- what a witness is read from

-- what is read in two steps is read by both
two : {A B : Type 0} (x : Result A Refusal) (g : A → Result B Refusal) (b : B)
    → (x >>= g) ≡ Ok b → (a : A) × (x ≡ Ok a) × (g a ≡ Ok b)
two (Ok a) g b e = (a, refl, e)
two (Err r) g b e = let bad : ⊥ = cc in absurd bad

abbrev well : {C : Type 0} → C → Result C Refusal
well c = Ok c

one_ok : {C : Type 0} (c d : C) → well c ≡ well d → c ≡ d
one_ok c d e = cc

read_so : {X : Type 0} (name : List ℕ) (read : Result X Fault) (x : X)
    → accepted name read ≡ Ok x
    → read ≡ Ok x
read_so name (Ok y) x e = let same : y ≡ x = cc in ap Ok same
read_so name (Err fault) x e = let bad : ⊥ = cc in absurd bad

abbrev made_of : List ℕ → File → List ℕ → Witness
made_of bytes file values = record { bytes = bytes; file = file; values = values }

pub record IsFrom (files : Contents) (r1cs wtns : List ℕ) (w : Witness) : Type 0 where
  pub bytes : bytes_in files r1cs ≡ Ok w.bytes
  pub file : accepted r1cs (r1cs_of w.bytes) ≡ Ok w.file
  pub values : wtns_in files wtns ≡ Ok w.values

from_files : (files : Contents) (r1cs wtns : List ℕ) (w : Witness)
    → witness_of files r1cs wtns ≡ Ok w → IsFrom files r1cs wtns w
unfolding witness_of
from_files files r1cs wtns w e =
    let one = two (bytes_in files r1cs) (λ bytes. accepted r1cs (r1cs_of bytes)
    >>= λ f. wtns_in files wtns >>= λ v. Ok (made_of bytes f v)) w e in
    let next = two (accepted r1cs (r1cs_of one.0))
    (λ f. wtns_in files wtns >>= λ v. Ok (made_of one.0 f v)) w one.2 in
    let end = two (wtns_in files wtns) (λ v. Ok (made_of one.0 next.0 v)) w next.2 in
    let same : made_of one.0 next.0 end.0 ≡ w = one_ok (made_of one.0 next.0 end.0) w end.2 in
    record {
      bytes = one.1 ∙ ap (λ (x : Witness). Ok x.bytes) same;
      file = ap (λ (x : Witness). accepted r1cs (r1cs_of x.bytes)) (sym same) ∙ next.1
          ∙ ap (λ (x : Witness). Ok x.file) same;
      values = end.1 ∙ ap (λ (x : Witness). Ok x.values) same;
    }

values_small : (files : Contents) (wtns values : List ℕ) → wtns_in files wtns ≡ Ok values
    → All (λ n. n < P) values
unfolding wtns_in
values_small files wtns values e =
    let one = two (bytes_in files wtns) (λ bytes. accepted wtns (wtns_of bytes)) values e in
    values_below one.0 values (read_so wtns (wtns_of one.0) values one.2)

-- only what is under the two names counts
same_bytes : (files other : Contents) (name : List ℕ) → files name ≡ other name
    → bytes_in files name ≡ bytes_in other name
same_bytes files other name e = ap (λ (o : Option (List ℕ)). bytes_in (λ n. o) name) e

same_witness : (files other : Contents) (r1cs wtns : List ℕ) → files r1cs ≡ other r1cs
    → files wtns ≡ other wtns → witness_of files r1cs wtns ≡ witness_of other r1cs wtns
unfolding witness_of wtns_in
same_witness files other r1cs wtns e f =
    λ i. same_bytes files other r1cs e i >>= λ bytes. accepted r1cs (r1cs_of bytes)
    >>= λ file. (same_bytes files other wtns f i >>= λ b. accepted wtns (wtns_of b))
    >>= λ v. Ok (made_of bytes file v)

-- ---- prove, public, audit

module _ (files : Contents) (r1cs publics proof : List ℕ) (o : Offer) (text : List ℕ) where
  offered : bytes_in files r1cs ≡ Ok o.bytes → accepted r1cs (r1cs_of o.bytes) ≡ Ok o.file
      → files publics ≡ Some text → publics_read text ≡ Ok o.publics
      → files proof ≡ Some o.proof → offer_of files r1cs publics proof ≡ Ok o
  unfolding offer_of publics_in
  offered bytes file there read held =
      ap (λ (x : Result (List ℕ) Refusal). x >>= λ b. accepted r1cs (r1cs_of b)
      >>= λ f. (bytes_in files publics >>= λ t. accepted_publics (publics_read t))
      >>= λ v. bytes_in files proof
      >>= λ p. Ok (record { bytes = b; file = f; publics = v; proof = p })) bytes
      ∙ ap (λ (x : Result File Refusal). x
      >>= λ f. (bytes_in files publics >>= λ t. accepted_publics (publics_read t))
      >>= λ v. bytes_in files proof
      >>= λ p. Ok (record { bytes = o.bytes; file = f; publics = v; proof = p })) file
      ∙ ap (λ (x : Option (List ℕ)). (bytes_in (λ n. x) publics
      >>= λ t. accepted_publics (publics_read t)) >>= λ v. bytes_in files proof
      >>= λ p. Ok (record { bytes = o.bytes; file = o.file; publics = v; proof = p })) there
      ∙ ap (λ (x : Result (List ℕ) _). accepted_publics x >>= λ v. bytes_in files proof
      >>= λ p. Ok (record { bytes = o.bytes; file = o.file; publics = v; proof = p })) read
      ∙ ap (λ (x : Option (List ℕ)). bytes_in (λ n. x) proof
      >>= λ p. Ok (record { bytes = o.bytes; file = o.file; publics = o.publics; proof = p })) held

module _ (first second third last : Contents) (r1cs wtns publics proof : List ℕ)
    (options : ProveOptions) (exit : ℕ) (made written text : List ℕ)
    (a : IsReplied (Some (prove r1cs wtns proof options)) first second 0 made)
    (b : IsReplied (Some (public r1cs wtns publics)) second third 0 written)
    (d : IsReplied (Some (audit r1cs publics proof)) third last exit text)
    (from_r1cs : proof ≢ r1cs) (from_wtns : proof ≢ wtns) (other_r1cs : publics ≢ r1cs)
    (other_proof : publics ≢ proof) where
  behind_proof : (other : List ℕ) → other ≢ proof → second other ≡ first other
  behind_proof =
      others (proved proof) proof a.answers.0 a.reply first second (proved_named proof)
      a.answers.2 a.leaves

  behind_publics : (other : List ℕ) → other ≢ publics → third other ≡ second other
  behind_publics =
      others (published publics) publics b.answers.0 b.reply second third
      (published_named publics) b.answers.2 b.leaves

  abbrev proven : (bytes : List ℕ) × (second proof ≡ Some bytes)
      × IsProofOf first r1cs wtns bytes
  proven = there (second proof) (IsProofOf first r1cs wtns) (a.means.1 refl)

  abbrev shown : (bytes : List ℕ) × (third publics ≡ Some bytes)
      × ArePublicsOf second r1cs wtns bytes
  shown = there (third publics) (ArePublicsOf second r1cs wtns) (b.means.1 refl)

  abbrev w : Witness
  w = proven.2.witness

  abbrev ns : List ℕ
  ns = publics_of w.file w.values

  from : IsFrom first r1cs wtns w
  from = from_files first r1cs wtns w proven.2.read

  same_read : shown.2.witness ≡ w
  same_read =
      one_ok shown.2.witness w (sym shown.2.read
      ∙ same_witness second first r1cs wtns (behind_proof r1cs (λ e. from_r1cs (sym e)))
      (behind_proof wtns (λ e. from_wtns (sym e)))
      ∙ proven.2.read)

  small : All (λ n. n < P) ns
  small =
      All-take (λ n. n < P) (public_count w.file) (drop 1 w.values)
      (All-drop (λ n. n < P) 1 w.values (values_small first wtns w.values from.values))

  abbrev o : Offer
  o = record { bytes = w.bytes; file = w.file; publics = ns; proof = proven.0 }

  read : offer_of third r1cs publics proof ≡ Ok o
  read =
      let same : third r1cs ≡ first r1cs =
      behind_publics r1cs (λ e. other_r1cs (sym e))
      ∙ behind_proof r1cs (λ e. from_r1cs (sym e)) in
      offered third r1cs publics proof o shown.0
      (same_bytes third first r1cs same ∙ from.bytes) from.file shown.1
      (ap publics_read shown.2.text
      ∙ ap (λ (x : Witness). publics_read (publics_text (publics_of x.file x.values))) same_read
      ∙ publics_again ns small)
      (behind_publics proof (λ e. other_proof (sym e)) ∙ proven.1)

  accepts : IsAccepted third r1cs publics proof
  accepts = record {
    offer = o;
    read = read;
    accepted = (proven.2.accepted Accepted).1 refl;
  }

  pub accepted_in_turn : (exit ≡ 0) × (text ≡ audit_line Accepted)
  accepted_in_turn =
      let is : d.reply ≡ audited Accepted =
      d.answers.2 ∙ ap (said audited)
      (one_audit third r1cs publics proof d.answers.0 (Ok Accepted) d.answers.1
      (accepted_is third r1cs publics proof accepts)) in
      (d.status ∙ ap (λ (r : Reply). r.status) is, d.said ∙ ap (λ (r : Reply). r.text) is)

-- ---- determine, confirm

determined_named : (out : List ℕ) (x : Answer) → IsNamed out (determined out x).file
determined_named out (Shown rules) = refl
determined_named out (NotShown wire) = tt

abbrev claimed : File → List Rule → Claim
claimed f rules = record { file = f; rules = rules }

module _ (files after : Contents) (r1cs certificate bytes : List ℕ) (f : File) (rules : List Rule)
    (same : after r1cs ≡ files r1cs) (held : after certificate ≡ Some bytes)
    (text : rules_of bytes ≡ Ok rules) where
  -- what is read of the file of constraints, and then of the certificate
  abbrev behind : Result File Refusal → Result Claim Refusal
  behind file = file >>= λ f. rules_in after certificate >>= λ rs. Ok (claimed f rs)

  read_rules : rules_in after certificate ≡ Ok rules
  unfolding rules_in
  read_rules =
      ap (λ (o : Option (List ℕ)). bytes_in (λ n. o) certificate
      >>= λ b. accepted_rules certificate (rules_of b)) held
      ∙ ap (accepted_rules certificate) text

  first_two : claim_of after r1cs certificate ≡ behind (r1cs_in after r1cs)
  unfolding claim_of r1cs_in
  first_two = by (bytes_in after r1cs)
    where
      by : (read : Result (List ℕ) Refusal)
          → (read >>= λ b. accepted r1cs (r1cs_of b)
          >>= λ f. rules_in after certificate >>= λ rs. Ok (claimed f rs))
          ≡ behind (read >>= λ b. accepted r1cs (r1cs_of b))
      by (Ok b) = refl
      by (Err r) = refl

  same_file : r1cs_in after r1cs ≡ r1cs_in files r1cs
  unfolding r1cs_in
  same_file =
      ap (λ (x : Result (List ℕ) Refusal). x >>= λ b. accepted r1cs (r1cs_of b))
      (same_bytes after files r1cs same)

  claim_read : r1cs_in files r1cs ≡ Ok f
      → claim_of after r1cs certificate ≡ Ok (claimed f rules)
  claim_read read =
      first_two ∙ ap behind (same_file ∙ read)
      ∙ ap (λ (x : Result (List Rule) Refusal). x >>= λ rs. Ok (claimed f rs)) read_rules

module _ (first second last : Contents) (r1cs certificate : List ℕ) (exit : ℕ)
    (found text : List ℕ)
    (a : IsReplied (Some (determine r1cs certificate)) first second 0 found)
    (b : IsReplied (Some (confirm r1cs certificate)) second last exit text)
    (differ : certificate ≢ r1cs) where
  abbrev written_rules : (bytes : List ℕ) × (second certificate ≡ Some bytes)
      × IsCertificateOf first r1cs bytes
  written_rules = there (second certificate) (IsCertificateOf first r1cs) (a.means.1 refl)

  holds : HoldsCertificate second r1cs certificate
  holds =
      let c = written_rules.2 in
      record {
        claim = claimed c.file c.rules;
        read =
            claim_read first second r1cs certificate written_rules.0 c.file c.rules
            (others (determined certificate) certificate a.answers.0 a.reply first second
            (determined_named certificate) a.answers.2 a.leaves r1cs (λ e. differ (sym e)))
            written_rules.1 c.text c.read;
        confirmed = c.certificate;
      }

  pub confirmed_in_turn : (exit ≡ 0) × (text ≡ confirmed_line Confirmed)
  confirmed_in_turn =
      let is : b.reply ≡ confirmed Confirmed =
      b.answers.2 ∙ ap (said confirmed)
      (one_confirm second r1cs certificate b.answers.0 (Ok Confirmed) b.answers.1
      (confirmed_is second r1cs certificate holds)) in
      (b.status ∙ ap (λ (r : Reply). r.status) is, b.said ∙ ap (λ (r : Reply). r.text) is)
