-- What is found in a witness, and in the names of wires that are read behind it.
use Rattle.std.proofs.Common.{◌≡◌, ◌∙◌, ℕ, List, Result, Ok, Err, Vec, ap, refl, sym}
use Rattle.std.specs.declared.alloc.Global.{Global}
use Rattle.binary_format.specs.Reading.{◌>>=◌}
use Rattle.out_io.specs.Contents.{Contents}
use Rattle.sym_file.specs.Line.{symbols_of}
use Rattle.sym_file.specs.declared.line.SymLine.{SymLine}
use Rattle.circom_lines.specs.declared.answer.Refusal.{Refusal}
use Rattle.circom_files.specs.Files.{accepted_symbols, bytes_in, symbols_in}
use Rattle.out_io.specs.Held.{OfAll}
use Rattle.circom_named.specs.Named.{check_named_of, described_of, named}
use Rattle.circom_files.specs.Proving.{witness_of}
use Rattle.circom_files.specs.Steps.{Gets, Steps}
use Rattle.circom_named.specs.declared.described.Described.{Described}
use Rattle.circom_files.specs.declared.outcome.Named.{Named}
use Rattle.circom_files.specs.declared.outcome.Witness.{Witness}
use Rattle.circom_files.specs.declared.stop.Stop.{Stop}
use Rattle.circom_files.specs.declared.stop.Stop.TheVariants.{Refused, StoreFailed, OutOfMemory}

abbrev with_lines : Witness → Result (List SymLine) Refusal → Result Described Refusal
with_lines w lines = lines >>= λ ls. Ok (record { witness = w; lines = ls })

abbrev with_text : List ℕ → Witness → Result (List ℕ) Refusal → Result Described Refusal
with_text names w text = with_lines w (text >>= λ t. accepted_symbols names (symbols_of t))

abbrev with_witness : List ℕ → Result Witness Refusal → Result (List ℕ) Refusal
    → Result Described Refusal
with_witness names witness text = witness >>= λ w. with_text names w text

described_is : (files : Contents) (r1cs wtns names : List ℕ)
    → described_of files r1cs wtns names
    ≡ with_witness names (witness_of files r1cs wtns) (bytes_in files names)
unfolding described_of symbols_in
described_is files r1cs wtns names = refl

abbrev pub finding : Result Described Refusal → Result Named Refusal
finding described = described >>= λ d. Ok (named d.witness.file d.witness.values d.lines)

pub check_named_by : (files : Contents) (r1cs wtns names : List ℕ)
    → check_named_of files r1cs wtns names ≡ finding (described_of files r1cs wtns names)
unfolding check_named_of
check_named_by files r1cs wtns names = refl

module _ (held : Contents → Type 0) (r1cs wtns names : List ℕ) (failed : Type 0) where
  -- the witness isn't read
  pub witness_unread : {X : Type 0} (view : X → Witness) (e : Stop)
      → Steps view held (λ files. witness_of files r1cs wtns) failed (Err e)
      → Steps (λ (d : Described). d) held (λ files. described_of files r1cs wtns names) failed
      (Err e)
  witness_unread view (Refused r) step = λ files may.
      described_is files r1cs wtns names
      ∙ ap (λ (w : Result Witness Refusal). with_witness names w (bytes_in files names))
      (step files may)
  witness_unread view StoreFailed step = step
  witness_unread view OutOfMemory step = tt

  module _ (w : Witness) (there : OfAll held (λ files. witness_of files r1cs wtns ≡ Ok w)) where
    behind : (text : Result (List ℕ) Refusal)
        → OfAll held (λ files. bytes_in files names ≡ text)
        → OfAll held (λ files. described_of files r1cs wtns names ≡ with_text names w text)
    behind text found = λ files may.
        described_is files r1cs wtns names
        ∙ ap (λ (x : Result Witness Refusal). with_witness names x (bytes_in files names))
        (there files may)
        ∙ ap (with_text names w) (found files may)

    -- the names aren't there
    pub names_unread : (e : Stop) → Steps (λ (v : Vec ℕ Global). v.items) held
        (λ files. bytes_in files names) failed (Err e)
        → Steps (λ (d : Described). d) held (λ files. described_of files r1cs wtns names) failed
        (Err e)
    names_unread (Refused r) step = behind (Err r) step
    names_unread StoreFailed step = step
    names_unread OutOfMemory step = tt

    module _ (text : List ℕ) (found : OfAll held (λ files. bytes_in files names ≡ Ok text))
        (part : List ℕ) (is : part ≡ text) where
      read : (lines : Result (List SymLine) Refusal)
          → accepted_symbols names (symbols_of part) ≡ lines
          → OfAll held (λ files. described_of files r1cs wtns names ≡ with_lines w lines)
      read lines gets = λ files may.
          behind (Ok text) found files may
          ∙ ap (with_lines w)
          (ap (λ (t : List ℕ). accepted_symbols names (symbols_of t)) (sym is) ∙ gets)

      -- they are refused
      pub names_bad : {V : Type 0} (view : V → List SymLine) (e : Stop)
          → Gets view (accepted_symbols names (symbols_of part)) (Err e)
          → Steps (λ (d : Described). d) held
          (λ files. described_of files r1cs wtns names) failed (Err e)
      names_bad view (Refused r) gets = read (Err r) gets
      names_bad view StoreFailed gets = absurd gets
      names_bad view OutOfMemory gets = tt

      -- all are read
      pub described_read : (lines : List SymLine) (d : Described)
          → accepted_symbols names (symbols_of part) ≡ Ok lines
          → d ≡ record { witness = w; lines = lines }
          → OfAll held (λ files. described_of files r1cs wtns names ≡ Ok d)
      described_read lines d gets made = λ files may.
          read (Ok lines) gets files may ∙ ap Ok (sym made)

  -- what `check` finds in them
  pub named_unread : (e : Stop) → Steps (λ (d : Described). d) held
      (λ files. described_of files r1cs wtns names) failed (Err e)
      → Steps (λ (n : Named). n) held (λ files. check_named_of files r1cs wtns names) failed
      (Err e)
  named_unread (Refused r) step = λ files may.
      check_named_by files r1cs wtns names ∙ ap finding (step files may)
  named_unread StoreFailed step = step
  named_unread OutOfMemory step = tt

  pub named_found : (d : Described) (n : Named)
      → OfAll held (λ files. described_of files r1cs wtns names ≡ Ok d)
      → n ≡ named d.witness.file d.witness.values d.lines
      → OfAll held (λ files. check_named_of files r1cs wtns names ≡ Ok n)
  named_found d n step is = λ files may.
      check_named_by files r1cs wtns names ∙ ap finding (step files may) ∙ ap Ok (sym is)
