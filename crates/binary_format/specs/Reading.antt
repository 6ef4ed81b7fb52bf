-- Reading a binary format from left to right.
--
-- A reading takes the bytes that are left, and answers the value at their front with the bytes
-- after it, or a refusal. Where a refusal names a place in the file, the reading is told where the
-- bytes end: the place of the next byte is that end less the number of bytes that are left.
use Rattle.std.specs.Prelude.{◌≡◌, ℕ, zero, suc, List, [], ◌∷◌, length, take, drop, Bool, true}
use Rattle.std.specs.Prelude.{false, Option, Some, None, Result, Ok, Err, nat_lt, if◌then◌else◌}
use Rattle.std.specs.Int.{Width, byte_len, from_le_bytes}

infixl 10 ◌>>=◌
abbrev pub ◌>>=◌ : {A B R : Type 0} → Result A R → (A → Result B R) → Result B R
(Ok x) >>= f = f x
(Err e) >>= f = Err e

-- The first n bytes, where there are so many.
abbrev pub front_of : ℕ → List ℕ → Option (List ℕ × List ℕ)
front_of n bytes = if nat_lt (length bytes) n then None else Some (take n bytes, drop n bytes)

-- An unsigned number of the width w, its lowest byte first.
abbrev pub number_of : Width → List ℕ → Option (ℕ × List ℕ)
number_of w bytes =
    let n = byte_len w in
    if nat_lt (length bytes) n then None else Some (from_le_bytes w (take n bytes), drop n bytes)

-- The field, or this refusal where the bytes end within it.
abbrev pub or_short : {A R : Type 0} → Option (A × List ℕ) → R → Result (A × List ℕ) R
or_short None short = Err short
or_short (Some x) short = Ok x

-- Nothing where the test is passed, else this refusal.
abbrev pub required : {R : Type 0} → Bool → R → Result (Unit {0}) R
required true refusal = Ok tt
required false refusal = Err refusal

-- The field where its value passes the test, else this refusal.
abbrev pub tested : {A R : Type 0} → (A → Bool) → R → Result (A × List ℕ) R
    → Result (A × List ℕ) R
tested passes refusal field = do
  x ← field
  if passes x.0 then Ok x else Err refusal

-- So many fields, one after another.
abbrev pub repeated : {A R : Type 0} → (List ℕ → Result (A × List ℕ) R) → ℕ → List ℕ
    → Result (List A × List ℕ) R
repeated field zero bytes = Ok ([], bytes)
repeated field (suc n) bytes = do
  first ← field bytes
  others ← repeated field n first.1
  Ok (first.0 ∷ others.0, others.1)

-- What a call that reads an optional field answered, and what it left, is what the definition says.
abbrev pub Takes : {X Y : Type 0} → (X → Y) → Option X → List ℕ → List ℕ → Option (Y × List ℕ)
    → Type 0
Takes view None old new reading = (reading ≡ None) × (new ≡ old)
Takes view (Some x) old new reading = reading ≡ Some (view x, new)

-- A reading is refused so, where a call failed for this refusal. A call that found no memory (None)
-- says nothing of it.
abbrev pub Fails : {Y R : Type 0} → Option R → Result Y R → Type 0
Fails None reading = Unit {0}
Fails (Some refusal) reading = reading ≡ Err refusal

-- What a call answered, seen by view, is what the definition gives, unless memory ran out; why
-- tells the refusal that a fault stands for.
abbrev pub Gives : {X Y F R : Type 0} → (F → Option R) → (X → Y) → Result X F → Result Y R → Type 0
Gives why view (Ok x) reading = reading ≡ Ok (view x)
Gives why view (Err fault) reading = Fails (why fault) reading

-- The same for a call that leaves these bytes to be read.
abbrev pub Reads : {X Y F R : Type 0} → (F → Option R) → (X → Y) → List ℕ → Result X F
    → Result (Y × List ℕ) R → Type 0
Reads why view rest (Ok x) reading = reading ≡ Ok (view x, rest)
Reads why view rest (Err fault) reading = Fails (why fault) reading
