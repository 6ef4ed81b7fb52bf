-- What a command finds in given files is one thing.
use Rattle.std.proofs.Common.{◌≡◌, ◌∙◌, ℕ, List, Result, Ok, Err, ap, refl, sym}
use Rattle.binary_format.specs.Reading.{◌>>=◌}
use Rattle.out_io.specs.Contents.{Contents}
use Rattle.iden_files.specs.File.{File, InLimits}
use Rattle.iden_files.specs.ReadR1cs.{r1cs_of}
use Rattle.iden_files.specs.Refusal.{Refusal as Fault}
use Rattle.iden_files.proofs.LimitLaws.{read_file_in_limits}
use Rattle.lig_complete.proofs.Sizes.{sizes_fit}
use Rattle.lig_layout.specs.Layout.{vectors_of}
use Rattle.lig_proof.proofs.MadeOnce.{proofs_are_one}
use Rattle.lig_proof.proofs.VerdictOnce.{verdicts_are_one}
use Rattle.lig_proof.specs.declared.verdict.Verdict.{Verdict as Audited}
use Rattle.circom_words.specs.Words.{ProveOptions}
use Rattle.circom_lines.specs.declared.answer.Refusal.{Refusal}
use Rattle.circom_files.specs.Files.{bytes_in, accepted, r1cs_in, wtns_in, publics_in}
use Rattle.circom_files.specs.Proving.{FoundIn, IsAudited, IsProved, Audits, Proves, offer_of}
use Rattle.circom_files.specs.Proving.{witness_of}
use Rattle.circom_files.specs.declared.outcome.Witness.{Witness}
use Rattle.circom_files.specs.declared.outcome.Offer.{Offer}
use Rattle.circom_files.specs.declared.outcome.Outcome.{Outcome}
use Rattle.circom_files.specs.declared.outcome.Outcome.TheVariants.{Made, Unmade}

-- a result of two steps has the result of the first
first_step : {A C : Type 0} (x : Result A Refusal) (g : A → Result C Refusal) (k : C → A) (c : C)
    → ((a : A) (d : C) → g a ≡ Ok d → k d ≡ a) → (x >>= g) ≡ Ok c → x ≡ Ok (k c)
first_step (Ok a) g k c keeps e = ap Ok (sym (keeps a c e))
first_step (Err r) g k c keeps e = cc

pub second_step : {A B C : Type 0} (x : Result A Refusal) (f : A → Result B Refusal)
    (g : A → B → Result C Refusal) (k : C → B) (c : C)
    → ((a : A) (b : B) (d : C) → g a b ≡ Ok d → k d ≡ b)
    → (x >>= λ a. f a >>= λ b. g a b) ≡ Ok c → (x >>= f) ≡ Ok (k c)
second_step (Ok a) f g k c keeps e = first_step (f a) (λ b. g a b) k c (keeps a) e
second_step (Err r) f g k c keeps e = cc

-- the last step of these is no refusal
abbrev well : {C : Type 0} → C → Result C Refusal
well c = Ok c

pub kept : {C D : Type 0} (c d : C) (k : C → D) → well c ≡ well d → k d ≡ k c
kept c d k e = let same : d ≡ c = cc in ap k same

witness_kept : (bytes : List ℕ) (file : File) (values : Result (List ℕ) Refusal) (w : Witness)
    → (values >>= λ v. Ok (record { bytes = bytes; file = file; values = v })) ≡ Ok w
    → w.file ≡ file
witness_kept bytes file (Ok v) w e =
    let made : Witness = record { bytes = bytes; file = file; values = v } in
    kept made w (λ x. x.file) e
witness_kept bytes file (Err r) w e = cc

pub witness_file : (files : Contents) (r1cs wtns : List ℕ) (w : Witness)
    → witness_of files r1cs wtns ≡ Ok w → r1cs_in files r1cs ≡ Ok w.file
unfolding witness_of r1cs_in
witness_file files r1cs wtns w e =
    second_step (bytes_in files r1cs) (λ bytes. accepted r1cs (r1cs_of bytes))
    (λ bytes file. wtns_in files wtns
    >>= λ v. Ok (record { bytes = bytes; file = file; values = v }))
    (λ x. x.file) w (λ bytes file d. witness_kept bytes file (wtns_in files wtns) d) e

offer_kept : (bytes : List ℕ) (file : File) (values offered : Result (List ℕ) Refusal) (o : Offer)
    → (values >>= λ v. offered
    >>= λ p. Ok (record { bytes = bytes; file = file; publics = v; proof = p })) ≡ Ok o
    → o.file ≡ file
offer_kept bytes file (Ok v) (Ok p) o e =
    let made : Offer = record { bytes = bytes; file = file; publics = v; proof = p } in
    kept made o (λ x. x.file) e
offer_kept bytes file (Ok v) (Err r) o e = cc
offer_kept bytes file (Err r) offered o e = cc

pub offer_file : (files : Contents) (r1cs publics proof : List ℕ) (o : Offer)
    → offer_of files r1cs publics proof ≡ Ok o → r1cs_in files r1cs ≡ Ok o.file
unfolding offer_of r1cs_in
offer_file files r1cs publics proof o e =
    second_step (bytes_in files r1cs) (λ bytes. accepted r1cs (r1cs_of bytes))
    (λ bytes file. publics_in files publics >>= λ v. bytes_in files proof
    >>= λ p. Ok (record { bytes = bytes; file = file; publics = v; proof = p }))
    (λ x. x.file) o
    (λ bytes file d. offer_kept bytes file (publics_in files publics) (bytes_in files proof) d) e

-- ---- the file of constraints is within the limits

accepted_is : {X : Type 0} (name : List ℕ) (read : Result X Fault) (x : X)
    → accepted name read ≡ Ok x → read ≡ Ok x
accepted_is name (Ok y) x e = let same : y ≡ x = cc in ap Ok same
accepted_is name (Err fault) x e = cc

file_in_limits : (name : List ℕ) (read : Result (List ℕ) Refusal) (f : File)
    → (read >>= λ bytes. accepted name (r1cs_of bytes)) ≡ Ok f → InLimits f
file_in_limits name (Ok bytes) f e =
    read_file_in_limits bytes f (accepted_is name (r1cs_of bytes) f e)
file_in_limits name (Err r) f e = let bad : ⊥ = cc in absurd bad

pub read_in_limits : (files : Contents) (r1cs : List ℕ) (f : File) → r1cs_in files r1cs ≡ Ok f
    → InLimits f
unfolding r1cs_in
read_in_limits files r1cs f e = file_in_limits r1cs (bytes_in files r1cs) f e

-- ---- what is found is one

-- what is found in what was read is one, where it is one in each
pub one_found : {X Y : Type 0} (Finds : X → Y → Type 0) (read : Result X Refusal)
    → ((x : X) → read ≡ Ok x → (y z : Y) → Finds x y → Finds x z → y ≡ z)
    → (a b : Result Y Refusal) → FoundIn Finds read a → FoundIn Finds read b → a ≡ b
one_found Finds (Ok x) one (Ok y) (Ok z) p q = ap Ok (one x refl y z p q)
one_found Finds (Ok x) one (Ok y) (Err s) p q = absurd q
one_found Finds (Ok x) one (Err r) b p q = absurd p
one_found Finds (Err x) one (Ok y) b p q = absurd p
one_found Finds (Err x) one (Err r) (Ok z) p q = absurd q
one_found Finds (Err x) one (Err r) (Err s) p q = ap Err (sym p ∙ q)

one_proof : (options : ProveOptions) (w : Witness) → InLimits w.file → (a b : Outcome)
    → IsProved options w a → IsProved options w b → a ≡ b
one_proof options w limits (Made x) (Made y) p q =
    ap Made (proofs_are_one options.version w.bytes w.file (vectors_of w.file w.values)
    options.seed x y (sizes_fit w.file limits) p.1 q.1)
one_proof options w limits (Made x) (Unmade v) p q = absurd (q.1 (sym q.0 ∙ p.0))
one_proof options w limits (Unmade u) (Made y) p q = absurd (p.1 (sym p.0 ∙ q.0))
one_proof options w limits (Unmade u) (Unmade v) p q = ap Unmade (sym p.0 ∙ q.0)

pub one_outcome : (files : Contents) (r1cs wtns : List ℕ) (options : ProveOptions)
    (a b : Result Outcome Refusal) → Proves files r1cs wtns options a
    → Proves files r1cs wtns options b → a ≡ b
one_outcome files r1cs wtns options =
    one_found (IsProved options) (witness_of files r1cs wtns)
    (λ w read. one_proof options w
    (read_in_limits files r1cs w.file (witness_file files r1cs wtns w read)))

-- the verdicts on an offer are one
pub one_verdict : (o : Offer) → InLimits o.file → (a b : Audited) → IsAudited o a → IsAudited o b
    → a ≡ b
one_verdict o limits a b =
    verdicts_are_one o.bytes o.file o.publics o.proof a b (sizes_fit o.file limits)

pub one_audit : (files : Contents) (r1cs publics proof : List ℕ) (a b : Result Audited Refusal)
    → Audits files r1cs publics proof a → Audits files r1cs publics proof b → a ≡ b
one_audit files r1cs publics proof =
    one_found IsAudited (offer_of files r1cs publics proof)
    (λ o read. one_verdict o
    (read_in_limits files r1cs o.file (offer_file files r1cs publics proof o read)))
