-- What is found in files that are read one after the other.
use Rattle.std.proofs.Common.{◌≡◌, ◌∙◌, ℕ, List, Option, None, Some, Result, Ok, Err}
use Rattle.std.proofs.Common.{Vec}
use Rattle.std.proofs.Common.{ap, refl, sym}
use Rattle.std.specs.declared.alloc.Global.{Global}
use Rattle.binary_format.specs.Reading.{◌>>=◌}
use Rattle.out_io.specs.Contents.{Contents, bytes_of}
use Rattle.iden_files.specs.File.{File}
use Rattle.iden_files.specs.ReadR1cs.{r1cs_of}
use Rattle.iden_files.specs.ReadWtns.{wtns_of}
use Rattle.cir_determined.specs.Text.{rules_of}
use Rattle.cir_determined.specs.declared.rule.Rule.{Rule}
use Rattle.circom_lines.specs.declared.answer.Refusal.{Refusal}
use Rattle.circom_lines.specs.declared.answer.Refusal.TheVariants.{NoSuchFile}
use Rattle.circom_lines.specs.declared.answer.Verdict.{Verdict}
use Rattle.circom_files.specs.Check.{check_of, verdict}
use Rattle.circom_files.specs.Determining.{claim_of}
use Rattle.circom_files.specs.Files.{accepted, accepted_rules, bytes_in, r1cs_in, rules_in}
use Rattle.circom_files.specs.Files.{wtns_in}
use Rattle.out_io.specs.Held.{OfAll}
use Rattle.circom_files.specs.Proving.{public_of, published_values, witness_of}
use Rattle.circom_files.specs.Steps.{Gets, HeldWith, Steps}
use Rattle.circom_files.specs.declared.inputs.Read.{Read}
use Rattle.circom_files.specs.declared.outcome.Claim.{Claim}
use Rattle.circom_files.specs.declared.outcome.Published.{Published}
use Rattle.circom_files.specs.declared.outcome.Witness.{Witness}
use Rattle.circom_files.specs.declared.stop.Stop.{Stop}
use Rattle.circom_files.specs.declared.stop.Stop.TheVariants.{Refused, StoreFailed, OutOfMemory}

-- what a reading found
pub reads_there : (files : Contents) (name : List ℕ) (bytes : Vec ℕ Global)
    → bytes_of (Some bytes) ≡ files name → bytes_in files name ≡ Ok bytes.items
reads_there files name bytes is =
    ap (λ (o : Option (List ℕ)). bytes_in (λ n. o) name) (sym is)

pub reads_none : (files : Contents) (name said : List ℕ) → said ≡ name
    → bytes_of None ≡ files name → bytes_in files name ≡ Err (NoSuchFile said)
reads_none files name said same is =
    ap (λ (o : Option (List ℕ)). bytes_in (λ n. o) name) (sym is)
    ∙ ap (λ (n : List ℕ). Err (NoSuchFile n)) (sym same)

-- a step of fewer contents, with a cause of its failure that comes of the first one
pub steps_later : {X Y : Type 0} (view : X → Y) (before held : Contents → Type 0)
    (meaning : Contents → Result Y Refusal) (fails failed : Type 0) (result : Result X Stop)
    → OfAll held before → (fails → failed) → Steps view before meaning fails result
    → Steps view held meaning failed result
steps_later view before held meaning fails failed (Ok x) fewer rose step = λ files may.
    step files (fewer files may)
steps_later view before held meaning fails failed (Err (Refused r)) fewer rose step =
    λ files may. step files (fewer files may)
steps_later view before held meaning fails failed (Err StoreFailed) fewer rose step = rose step
steps_later view before held meaning fails failed (Err OutOfMemory) fewer rose step = tt

-- a step that gave nothing, whatever it would have given
pub none_given : {X Z Y : Type 0} (view : X → Y) (other : Z → Y) (held : Contents → Type 0)
    (meaning : Contents → Result Y Refusal) (failed : Type 0) (e : Stop)
    → Steps view held meaning failed (Err e) → Steps other held meaning failed (Err e)
none_given view other held meaning failed (Refused r) step = step
none_given view other held meaning failed StoreFailed step = step
none_given view other held meaning failed OutOfMemory step = tt

-- what was read before is known of all contents that there may be
module _ (held : Contents → Type 0) (first : Read) (bytes : List ℕ)
    (all : first.bytes.now ≡ bytes)
    (read : OfAll held (λ files. bytes_in files first.name.now ≡ Ok bytes)) where
  pub one_read : OfAll held (HeldWith held first None)
  one_read files may = (may, read files may ∙ ap Ok (sym all), tt)

  pub two_read : (second : Read) (text : List ℕ) → second.bytes.now ≡ text
      → OfAll held (λ files. bytes_in files second.name.now ≡ Ok text)
      → OfAll held (HeldWith held first (Some second))
  two_read second text whole found = λ files may.
      (may, read files may ∙ ap Ok (sym all), found files may ∙ ap Ok (sym whole))

-- ---- one file of constraints

file_is : (files : Contents) (r1cs : List ℕ)
    → r1cs_in files r1cs ≡ (bytes_in files r1cs >>= λ bytes. accepted r1cs (r1cs_of bytes))
unfolding r1cs_in
file_is files r1cs = refl

module _ (held : Contents → Type 0) (r1cs : List ℕ) (failed : Type 0) where
  pub file_unread : (e : Stop) → Steps (λ (v : Vec ℕ Global). v.items) held
      (λ files. bytes_in files r1cs) failed (Err e)
      → Steps (λ (f : File). f) held (λ files. r1cs_in files r1cs) failed (Err e)
  file_unread (Refused r) step = λ files may.
      file_is files r1cs ∙ ap (λ (a : Result (List ℕ) Refusal).
      a >>= λ bytes. accepted r1cs (r1cs_of bytes)) (step files may)
  file_unread StoreFailed step = step
  file_unread OutOfMemory step = tt

  module _ (bytes : List ℕ) (there : OfAll held (λ files. bytes_in files r1cs ≡ Ok bytes))
      (slice : List ℕ) (same : slice ≡ bytes) where
    decoded : (f : Result File Refusal) → accepted r1cs (r1cs_of slice) ≡ f
        → OfAll held (λ files. r1cs_in files r1cs ≡ f)
    decoded f gets = λ files may.
        file_is files r1cs
        ∙ ap (λ (a : Result (List ℕ) Refusal). a >>= λ bytes. accepted r1cs (r1cs_of bytes))
        (there files may)
        ∙ ap (λ (b : List ℕ). accepted r1cs (r1cs_of b)) (sym same) ∙ gets

    pub file_decoded : (result : Result File Stop)
        → Gets (λ (f : File). f) (accepted r1cs (r1cs_of slice)) result
        → Steps (λ (f : File). f) held (λ files. r1cs_in files r1cs) failed result
    file_decoded (Ok f) gets = decoded (Ok f) gets
    file_decoded (Err (Refused r)) gets = decoded (Err r) gets
    file_decoded (Err StoreFailed) gets = absurd gets
    file_decoded (Err OutOfMemory) gets = tt

-- what is made of a file of constraints and of another file that is read behind it
module _ {B C : Type 0} (accept : List ℕ → Result B Refusal)
    (make : List ℕ → File → B → C) where
  abbrev with_second : List ℕ → File → Result (List ℕ) Refusal → Result C Refusal
  with_second bytes file text = (text >>= accept) >>= λ b. Ok (make bytes file b)

  abbrev with_first : List ℕ → Result File Refusal → Result (List ℕ) Refusal
      → Result C Refusal
  with_first bytes file text = file >>= λ f. with_second bytes f text

  abbrev two_by : (r1cs : List ℕ) → Result (List ℕ) Refusal → Result (List ℕ) Refusal
      → Result C Refusal
  two_by r1cs a b = a >>= λ bytes. with_first bytes (accepted r1cs (r1cs_of bytes)) b

  module _ (meaning : Contents → Result C Refusal) (held : Contents → Type 0)
      (r1cs second : List ℕ)
      (meaning_is : (files : Contents) → meaning files
      ≡ two_by r1cs (bytes_in files r1cs) (bytes_in files second))
      (failed : Type 0) where
    -- the first file isn't there
    pub unread_first : (e : Stop) → Steps (λ (v : Vec ℕ Global). v.items) held
        (λ files. bytes_in files r1cs) failed (Err e)
        → Steps (λ (c : C). c) held meaning failed (Err e)
    unread_first (Refused r) step = λ files may.
        meaning_is files
        ∙ ap (λ (a : Result (List ℕ) Refusal). two_by r1cs a (bytes_in files second))
        (step files may)
    unread_first StoreFailed step = step
    unread_first OutOfMemory step = tt

    module _ (bytes : List ℕ) (there : OfAll held (λ files. bytes_in files r1cs ≡ Ok bytes))
        (slice : List ℕ) (same : slice ≡ bytes) where
      opened : (f : Result File Refusal) → accepted r1cs (r1cs_of slice) ≡ f
          → OfAll held (λ files. meaning files ≡ with_first bytes f (bytes_in files second))
      opened f read = λ files may.
          meaning_is files
          ∙ ap (λ (a : Result (List ℕ) Refusal). two_by r1cs a (bytes_in files second))
          (there files may)
          ∙ ap (λ (x : Result File Refusal). with_first bytes x (bytes_in files second))
          (ap (λ (b : List ℕ). accepted r1cs (r1cs_of b)) (sym same) ∙ read)

      -- it is refused
      pub bad_first : (e : Stop) → Gets (λ (f : File). f) (accepted r1cs (r1cs_of slice)) (Err e)
          → Steps (λ (c : C). c) held meaning failed (Err e)
      bad_first (Refused r) gets = opened (Err r) gets
      bad_first StoreFailed gets = absurd gets
      bad_first OutOfMemory gets = tt

      module _ (file : File) (read : accepted r1cs (r1cs_of slice) ≡ Ok file) where
        -- the second file isn't there
        pub unread_second : (e : Stop) → Steps (λ (v : Vec ℕ Global). v.items) held
            (λ files. bytes_in files second) failed (Err e)
            → Steps (λ (c : C). c) held meaning failed (Err e)
        unread_second (Refused r) step = λ files may.
            opened (Ok file) read files may ∙ ap (with_second bytes file) (step files may)
        unread_second StoreFailed step = step
        unread_second OutOfMemory step = tt

        module _ (text : List ℕ)
            (found : OfAll held (λ files. bytes_in files second ≡ Ok text))
            (part : List ℕ) (is : part ≡ text) where
          both : (b : Result B Refusal) → accept part ≡ b
              → OfAll held (λ files. meaning files ≡ (b >>= λ x. Ok (make bytes file x)))
          both b gets = λ files may.
              opened (Ok file) read files may ∙ ap (with_second bytes file) (found files may)
              ∙ ap (λ (y : Result B Refusal). y >>= λ x. Ok (make bytes file x))
              (ap accept (sym is) ∙ gets)

          -- it is refused
          pub bad_second : {V : Type 0} (view : V → B) (e : Stop)
              → Gets view (accept part) (Err e)
              → Steps (λ (c : C). c) held meaning failed (Err e)
          bad_second view (Refused r) gets = both (Err r) gets
          bad_second view StoreFailed gets = absurd gets
          bad_second view OutOfMemory gets = tt

          -- both are read
          pub both_read : (b : B) (c : C) → accept part ≡ Ok b → c ≡ make bytes file b
              → OfAll held (λ files. meaning files ≡ Ok c)
          both_read b c gets made = λ files may. both (Ok b) gets files may ∙ ap Ok (sym made)

-- ---- the witness

abbrev with_values : List ℕ → File → Result (List ℕ) Refusal → Result Witness Refusal
with_values bytes file values =
    values >>= λ v. Ok (record { bytes = bytes; file = file; values = v })

abbrev pub values_in : (wtns : List ℕ) → List ℕ → Result (List ℕ) Refusal
values_in wtns t = accepted wtns (wtns_of t)

abbrev pub witness_with : List ℕ → File → List ℕ → Witness
witness_with bytes file v = record { bytes = bytes; file = file; values = v }

pub witness_is : (r1cs wtns : List ℕ) (files : Contents) → witness_of files r1cs wtns
    ≡ two_by (values_in wtns) witness_with r1cs (bytes_in files r1cs) (bytes_in files wtns)
unfolding witness_of wtns_in
witness_is r1cs wtns files = refl

-- ---- the claim of a certificate

abbrev pub rules_at : (certificate : List ℕ) → List ℕ → Result (List Rule) Refusal
rules_at certificate t = accepted_rules certificate (rules_of t)

abbrev pub claim_with : List ℕ → File → List Rule → Claim
claim_with bytes file rules = record { file = file; rules = rules }

pub claim_is : (r1cs certificate : List ℕ) (files : Contents) → claim_of files r1cs certificate
    ≡ two_by (rules_at certificate) claim_with r1cs (bytes_in files r1cs)
    (bytes_in files certificate)
unfolding claim_of rules_in
claim_is r1cs certificate files = refl

-- what a command finds in a witness
found_in : {X : Type 0} (g : File → List ℕ → X) (a : Result (List ℕ) Refusal)
    (f : List ℕ → Result File Refusal) (b : Result (List ℕ) Refusal)
    → ((a >>= f) >>= λ file. b >>= λ values. Ok (g file values))
    ≡ ((a >>= λ bytes. f bytes >>= λ file. with_values bytes file b)
    >>= λ w. Ok (g w.file w.values))
found_in g (Err r) f b = refl
found_in g (Ok bytes) f b = by (f bytes)
  where
    by : (file : Result File Refusal) → (file >>= λ x. b >>= λ values. Ok (g x values))
        ≡ ((file >>= λ x. with_values bytes x b) >>= λ w. Ok (g w.file w.values))
    by (Err r) = refl
    by (Ok file) = with_them b
      where
        with_them : (values : Result (List ℕ) Refusal) → (values >>= λ v. Ok (g file v))
            ≡ (with_values bytes file values >>= λ w. Ok (g w.file w.values))
        with_them (Err r) = refl
        with_them (Ok v) = refl

pub check_by : (files : Contents) (r1cs wtns : List ℕ) → check_of files r1cs wtns
    ≡ (witness_of files r1cs wtns >>= λ w. Ok (verdict w.file w.values))
unfolding check_of witness_of r1cs_in
check_by files r1cs wtns =
    found_in verdict (bytes_in files r1cs) (λ bytes. accepted r1cs (r1cs_of bytes))
    (wtns_in files wtns)

pub public_by : (files : Contents) (r1cs wtns : List ℕ) → public_of files r1cs wtns
    ≡ (witness_of files r1cs wtns >>= λ w. Ok (published_values w.file w.values))
unfolding public_of witness_of r1cs_in
public_by files r1cs wtns =
    found_in published_values (bytes_in files r1cs) (λ bytes. accepted r1cs (r1cs_of bytes))
    (wtns_in files wtns)

module _ {X : Type 0} (g : File → List ℕ → X) (meaning : Contents → Result X Refusal)
    (held : Contents → Type 0) (r1cs wtns : List ℕ)
    (is : (files : Contents) → meaning files
    ≡ (witness_of files r1cs wtns >>= λ w. Ok (g w.file w.values))) where
  ends_unread : (failed : Type 0) (e : Stop) → Steps (λ (w : Witness). w) held
      (λ files. witness_of files r1cs wtns) failed (Err e)
      → Steps (λ (x : X). x) held meaning failed (Err e)
  ends_unread failed (Refused r) step = λ files may.
      is files
      ∙ ap (λ (w : Result Witness Refusal). w >>= λ x. Ok (g x.file x.values)) (step files may)
  ends_unread failed StoreFailed step = step
  ends_unread failed OutOfMemory step = tt

  ends_found : (w : Witness) (x : X) → OfAll held (λ files. witness_of files r1cs wtns ≡ Ok w)
      → x ≡ g w.file w.values → OfAll held (λ files. meaning files ≡ Ok x)
  ends_found w x read found = λ files may.
      is files
      ∙ ap (λ (w : Result Witness Refusal). w >>= λ v. Ok (g v.file v.values)) (read files may)
      ∙ ap Ok (sym found)

module _ (held : Contents → Type 0) (r1cs wtns : List ℕ) where
  pub check_unread : (failed : Type 0) (e : Stop) → Steps (λ (w : Witness). w) held
      (λ files. witness_of files r1cs wtns) failed (Err e)
      → Steps (λ (v : Verdict). v) held (λ files. check_of files r1cs wtns) failed (Err e)
  check_unread = ends_unread verdict (λ files. check_of files r1cs wtns) held r1cs wtns
      (λ files. check_by files r1cs wtns)

  pub check_found : (w : Witness) (v : Verdict)
      → OfAll held (λ files. witness_of files r1cs wtns ≡ Ok w)
      → v ≡ verdict w.file w.values
      → OfAll held (λ files. check_of files r1cs wtns ≡ Ok v)
  check_found = ends_found verdict (λ files. check_of files r1cs wtns) held r1cs wtns
      (λ files. check_by files r1cs wtns)

  pub public_unread : (failed : Type 0) (e : Stop) → Steps (λ (w : Witness). w) held
      (λ files. witness_of files r1cs wtns) failed (Err e)
      → Steps (λ (p : Published). p) held (λ files. public_of files r1cs wtns) failed (Err e)
  public_unread = ends_unread published_values (λ files. public_of files r1cs wtns) held r1cs wtns
      (λ files. public_by files r1cs wtns)

  pub public_found : (w : Witness) (p : Published)
      → OfAll held (λ files. witness_of files r1cs wtns ≡ Ok w)
      → p ≡ published_values w.file w.values
      → OfAll held (λ files. public_of files r1cs wtns ≡ Ok p)
  public_found = ends_found published_values (λ files. public_of files r1cs wtns) held r1cs wtns
      (λ files. public_by files r1cs wtns)
