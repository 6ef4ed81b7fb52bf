-- What was written is read again, whatever follows it.
use Rattle.std.proofs.Common.{◌≡◌, ℕ, ◌^◌, ◌<◌, Bool, true, false, ltb, List, [], ◌∷◌, ◌++◌, length}
use Rattle.std.proofs.Common.{Some, Result, Ok, refl, ap, append_assoc, arith}
use Rattle.std.specs.Int.{Width, w32, w64, byte_len, from_le_bytes, to_le_bytes}
use Rattle.std.specs.List.{flat_map}
use Rattle.std.proofs.lemmas.Bool.{le-ltb}
use Rattle.std.proofs.lemmas.List.{take_at, drop_at, length-append}
use Rattle.std.proofs.lemmas.Nat.{from_le_bytes-to_le_bytes_4, from_le_bytes-to_le_bytes_8}
use Rattle.binary_format.specs.Reading.{front_of, number_of, or_short, tested, repeated}

-- each element of a list has the property, the first one first
abbrev pub Each : {A : Type 0} → (A → Type 0) → List A → Type 0
Each P [] = Unit {0}
Each P (x ∷ xs) = P x × Each P xs

-- A field that reads each value that fits back from its bytes.
pub record ReadsBack {A R : Type 0} (field : List ℕ → Result (A × List ℕ) R) (text : A → List ℕ)
    (Fits : A → Type 0) : Type 0 where
  pub again : (x : A) (rest : List ℕ) → Fits x → field (text x ++ rest) ≡ Ok (x, rest)

pub front_again : (text rest : List ℕ) (n : ℕ) → length text ≡ n
    → front_of n (text ++ rest) ≡ Some (text, rest)
front_again text rest n len =
    let long : ltb (length (text ++ rest)) n ≡ false =
    le-ltb _ _ (omega (arith, length-append text rest)) in
    let front = take_at text rest n len in
    let back = drop_at text rest n len in
    rw (long, front, back) refl

pub number_again : (w : Width) (text rest : List ℕ) (n : ℕ) → length text ≡ byte_len w
    → from_le_bytes w text ≡ n → number_of w (text ++ rest) ≡ Some (n, rest)
number_again w text rest n len is =
    let long : ltb (length (text ++ rest)) (byte_len w) ≡ false =
    le-ltb _ _ (omega (arith, length-append text rest)) in
    let front = take_at text rest (byte_len w) len in
    let back = drop_at text rest (byte_len w) len in
    rw (long, front, back, is) refl

pub u32_again : {R : Type 0} (short : R)
    → ReadsBack (λ bytes. or_short (number_of w32 bytes) short) (to_le_bytes w32) (λ n. n < 2 ^ 32)
u32_again short =
    record {
      again =
          λ n rest fits. ap (λ r. or_short r short)
          (number_again w32 (to_le_bytes w32 n) rest n refl (from_le_bytes-to_le_bytes_4 n fits));
    }

pub u64_again : {R : Type 0} (short : R)
    → ReadsBack (λ bytes. or_short (number_of w64 bytes) short) (to_le_bytes w64) (λ n. n < 2 ^ 64)
u64_again short =
    record {
      again =
          λ n rest fits. ap (λ r. or_short r short)
          (number_again w64 (to_le_bytes w64 n) rest n refl (from_le_bytes-to_le_bytes_8 n fits));
    }

pub tested_again : {A R : Type 0} (passes : A → Bool) (refusal : R) (field : Result (A × List ℕ) R)
    (x : A) (rest : List ℕ) → field ≡ Ok (x, rest) → passes x ≡ true
    → tested passes refusal field ≡ Ok (x, rest)
tested_again passes refusal field x rest read passed = rw (read, passed) refl

pub repeated_again : {A R : Type 0} (field : List ℕ → Result (A × List ℕ) R) (text : A → List ℕ)
    (Fits : A → Type 0) → ReadsBack field text Fits
    → (xs : List A) (rest : List ℕ) → Each Fits xs
    → repeated field (length xs) (flat_map text xs ++ rest) ≡ Ok (xs, rest)
repeated_again field text Fits back [] rest fits = refl
repeated_again field text Fits back (x ∷ xs) rest fits =
    let first = back.again x (flat_map text xs ++ rest) fits.0 in
    let others = repeated_again field text Fits back xs rest fits.1 in
    rw (append_assoc, first, others) refl
