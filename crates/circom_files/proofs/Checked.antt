-- What `check` finds in two files that are read.
use Rattle.std.proofs.Common.{◌≡◌, ◌∙◌, ℕ, List, Option, Some, Result, Ok, ap}
use Rattle.binary_format.specs.Reading.{◌>>=◌}
use Rattle.out_io.specs.Contents.{Contents}
use Rattle.iden_files.specs.File.{File}
use Rattle.iden_files.specs.ReadR1cs.{r1cs_of}
use Rattle.iden_files.specs.ReadWtns.{wtns_of}
use Rattle.circom_lines.specs.declared.answer.Refusal.{Refusal}
use Rattle.circom_files.specs.Check.{check_of, verdict}
use Rattle.circom_files.specs.Files.{accepted, bytes_in, r1cs_in, wtns_in}

-- the bytes that are there under the name
there : (files : Contents) (name bytes : List ℕ) → files name ≡ Some bytes
    → bytes_in files name ≡ Ok bytes
there files name bytes e = ap (λ (o : Option (List ℕ)). bytes_in (λ n. o) name) e

module _ (files : Contents) (r1cs wtns bytes text : List ℕ) (file : File) (values : List ℕ) where
  file_read : files r1cs ≡ Some bytes → r1cs_of bytes ≡ Ok file → r1cs_in files r1cs ≡ Ok file
  unfolding r1cs_in
  file_read here read =
      ap (λ (b : Result (List ℕ) Refusal). b >>= λ x. accepted r1cs (r1cs_of x))
      (there files r1cs bytes here) ∙ ap (accepted r1cs) read

  values_read : files wtns ≡ Some text → wtns_of text ≡ Ok values → wtns_in files wtns ≡ Ok values
  unfolding wtns_in
  values_read here read =
      ap (λ (b : Result (List ℕ) Refusal). b >>= λ x. accepted wtns (wtns_of x))
      (there files wtns text here) ∙ ap (accepted wtns) read

  pub check_of_read : files r1cs ≡ Some bytes → r1cs_of bytes ≡ Ok file → files wtns ≡ Some text
      → wtns_of text ≡ Ok values → check_of files r1cs wtns ≡ Ok (verdict file values)
  unfolding check_of
  check_of_read here read beside decoded =
      ap (λ (x : Result File Refusal). x >>= λ f. wtns_in files wtns >>= λ v. Ok (verdict f v))
      (file_read here read)
      ∙ ap (λ (x : Result (List ℕ) Refusal). x >>= λ v. Ok (verdict file v))
      (values_read beside decoded)
