-- What is found in the three files of `audit`, and by commands in what was read.
use Rattle.std.proofs.Common.{◌≡◌, ◌∙◌, ℕ, List, Result, Ok, Err, Vec, ap, refl}
use Rattle.std.proofs.Common.{subst, sym}
use Rattle.std.specs.declared.alloc.Global.{Global}
use Rattle.binary_format.specs.Reading.{◌>>=◌}
use Rattle.out_io.specs.Contents.{Contents}
use Rattle.iden_files.specs.File.{File}
use Rattle.iden_files.specs.ReadR1cs.{r1cs_of}
use Rattle.wit_input.specs.Publics.{publics_of}
use Rattle.circom_lines.specs.declared.answer.Refusal.{Refusal}
use Rattle.circom_files.specs.Files.{accepted, accepted_publics, bytes_in, publics_in}
use Rattle.circom_files.specs.Proving.{FoundIn, offer_of}
use Rattle.out_io.specs.Held.{OfAll}
use Rattle.circom_files.specs.Steps.{Gets, Steps, StepsTo}
use Rattle.circom_files.specs.declared.outcome.Offer.{Offer}
use Rattle.circom_files.specs.declared.stop.Stop.{Stop}
use Rattle.circom_files.specs.declared.stop.Stop.TheVariants.{Refused, StoreFailed, OutOfMemory}

-- the offer, from the files' steps
abbrev with_proof : List ℕ → File → List ℕ → Result (List ℕ) Refusal
    → Result Offer Refusal
with_proof bytes file values offered = offered
    >>= λ p. Ok (record { bytes = bytes; file = file; publics = values; proof = p })

abbrev read_publics : Result (List ℕ) Refusal → Result (List ℕ) Refusal
read_publics text = text >>= λ t. accepted_publics (publics_of t)

abbrev with_publics : List ℕ → File → Result (List ℕ) Refusal → Result (List ℕ) Refusal
    → Result Offer Refusal
with_publics bytes file text offered =
    read_publics text >>= λ values. with_proof bytes file values offered

abbrev with_file : List ℕ → Result File Refusal → Result (List ℕ) Refusal
    → Result (List ℕ) Refusal → Result Offer Refusal
with_file bytes file text offered = file >>= λ f. with_publics bytes f text offered

abbrev offer_by : (r1cs : List ℕ) → Result (List ℕ) Refusal → Result (List ℕ) Refusal
    → Result (List ℕ) Refusal → Result Offer Refusal
offer_by r1cs a b c = a >>= λ bytes. with_file bytes (accepted r1cs (r1cs_of bytes)) b c

offer_is : (files : Contents) (r1cs publics proof : List ℕ) → offer_of files r1cs publics proof
    ≡ offer_by r1cs (bytes_in files r1cs) (bytes_in files publics) (bytes_in files proof)
unfolding offer_of publics_in
offer_is files r1cs publics proof = refl

module _ (held : Contents → Type 0) (r1cs publics proof : List ℕ) (failed : Type 0) where
  -- the first file isn't there
  pub offer_unread : (e : Stop) → Steps (λ (v : Vec ℕ Global). v.items) held
      (λ files. bytes_in files r1cs) failed (Err e) → Steps (λ (o : Offer). o) held
      (λ files. offer_of files r1cs publics proof) failed (Err e)
  offer_unread (Refused r) step = λ files may.
      offer_is files r1cs publics proof
      ∙ ap (λ (a : Result (List ℕ) Refusal).
      offer_by r1cs a (bytes_in files publics) (bytes_in files proof)) (step files may)
  offer_unread StoreFailed step = step
  offer_unread OutOfMemory step = tt

  module _ (bytes : List ℕ) (there : OfAll held (λ files. bytes_in files r1cs ≡ Ok bytes))
      (slice : List ℕ) (same : slice ≡ bytes) where
    opened : (f : Result File Refusal) → accepted r1cs (r1cs_of slice) ≡ f
        → OfAll held (λ files. offer_of files r1cs publics proof
        ≡ with_file bytes f (bytes_in files publics) (bytes_in files proof))
    opened f read = λ files may.
        offer_is files r1cs publics proof
        ∙ ap (λ (a : Result (List ℕ) Refusal).
        offer_by r1cs a (bytes_in files publics) (bytes_in files proof)) (there files may)
        ∙ ap (λ (x : Result File Refusal).
        with_file bytes x (bytes_in files publics) (bytes_in files proof))
        (ap (λ (b : List ℕ). accepted r1cs (r1cs_of b)) (sym same) ∙ read)

    -- it is refused
    pub offer_bad_r1cs : (e : Stop)
        → Gets (λ (f : File). f) (accepted r1cs (r1cs_of slice)) (Err e)
        → Steps (λ (o : Offer). o) held (λ files. offer_of files r1cs publics proof) failed
        (Err e)
    offer_bad_r1cs (Refused r) gets = opened (Err r) gets
    offer_bad_r1cs StoreFailed gets = absurd gets
    offer_bad_r1cs OutOfMemory gets = tt

    module _ (file : File) (read : accepted r1cs (r1cs_of slice) ≡ Ok file) where
      -- the second file isn't there
      pub offer_unread_publics : (e : Stop) → Steps (λ (v : Vec ℕ Global). v.items) held
          (λ files. bytes_in files publics) failed (Err e) → Steps (λ (o : Offer). o) held
          (λ files. offer_of files r1cs publics proof) failed (Err e)
      offer_unread_publics (Refused r) step = λ files may.
          opened (Ok file) read files may
          ∙ ap (λ (x : Result (List ℕ) Refusal). with_publics bytes file x
          (bytes_in files proof))
          (step files may)
      offer_unread_publics StoreFailed step = step
      offer_unread_publics OutOfMemory step = tt

      module _ (text : List ℕ) (found : OfAll held (λ files. bytes_in files publics ≡ Ok text))
          (part : List ℕ) (is : part ≡ text) where
        middle : (v : Result (List ℕ) Refusal) → accepted_publics (publics_of part) ≡ v
            → OfAll held (λ files. offer_of files r1cs publics proof
            ≡ (v >>= λ values. with_proof bytes file values (bytes_in files proof)))
        middle v gets = λ files may.
            opened (Ok file) read files may
            ∙ ap (λ (x : Result (List ℕ) Refusal). with_publics bytes file x
            (bytes_in files proof))
            (found files may)
            ∙ ap (λ (x : Result (List ℕ) Refusal).
            x >>= λ values. with_proof bytes file values (bytes_in files proof))
            (ap (λ (b : List ℕ). accepted_publics (publics_of b)) (sym is) ∙ gets)

        -- it is refused
        pub offer_bad_publics : (e : Stop)
            → Gets (λ (v : Vec ℕ Global). v.items) (accepted_publics (publics_of part)) (Err e)
            → Steps (λ (o : Offer). o) held (λ files. offer_of files r1cs publics proof)
            failed (Err e)
        offer_bad_publics (Refused r) gets = middle (Err r) gets
        offer_bad_publics StoreFailed gets = absurd gets
        offer_bad_publics OutOfMemory gets = tt

        module _ (values : List ℕ) (gets : accepted_publics (publics_of part) ≡ Ok values) where
          -- the third file isn't there
          pub offer_unread_proof : (e : Stop) → Steps (λ (v : Vec ℕ Global). v.items) held
              (λ files. bytes_in files proof) failed (Err e) → Steps (λ (o : Offer). o) held
              (λ files. offer_of files r1cs publics proof) failed (Err e)
          offer_unread_proof (Refused r) step = λ files may.
              middle (Ok values) gets files may
              ∙ ap (with_proof bytes file values) (step files may)
          offer_unread_proof StoreFailed step = step
          offer_unread_proof OutOfMemory step = tt

          -- all are read
          pub offer_read : (offered : List ℕ) (o : Offer)
              → OfAll held (λ files. bytes_in files proof ≡ Ok offered)
              → o ≡ record { bytes = bytes; file = file; publics = values; proof = offered }
              → OfAll held (λ files. offer_of files r1cs publics proof ≡ Ok o)
          offer_read offered o last made = λ files may.
              middle (Ok values) gets files may
              ∙ ap (with_proof bytes file values) (last files may) ∙ ap Ok (sym made)

-- what a command finds in what it read
module _ {X Y : Type 0} (Finds : X → Y → Type 0) (meaning : Contents → Result X Refusal)
    (held : Contents → Type 0) where
  pub unread_to : (failed : Type 0) (e : Stop)
      → Steps (λ (x : X). x) held meaning failed (Err e)
      → StepsTo (λ (y : Y). y) held (λ files found. FoundIn Finds (meaning files) found) failed
      (Err e)
  unread_to failed (Refused r) step = λ files may.
      subst (λ (x : Result X Refusal). FoundIn Finds x (Err r)) (sym (step files may)) refl
  unread_to failed StoreFailed step = step
  unread_to failed OutOfMemory step = tt

  pub found_to : (x : X) (y : Y) → OfAll held (λ files. meaning files ≡ Ok x) → Finds x y
      → OfAll held (λ files. FoundIn Finds (meaning files) (Ok y))
  found_to x y read finds = λ files may.
      subst (λ (x : Result X Refusal). FoundIn Finds x (Ok y)) (sym (read files may)) finds
