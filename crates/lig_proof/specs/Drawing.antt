-- Numbers of the field from a key stream.
use Rattle.std.specs.Prelude.{ℕ, zero, suc, ◌+◌, ◌*◌, ◌%◌, ◌^◌, List, [], ◌∷◌}
use Rattle.rand_chacha.specs.ChaCha.{word_at}
use Rattle.gold_field.specs.declared.gold.TheConstants.{P}

-- the number of the field that the two words from this place on make, the low one first. 10 double
-- rounds are those of ChaCha20.
abbrev pub number_at : List ℕ → ℕ → ℕ → ℕ
number_at key stream place =
    (word_at 10 key stream place + word_at 10 key stream (place + 1) * 2 ^ 32) % P

-- so many numbers, from this word on
abbrev pub numbers_of : List ℕ → ℕ → ℕ → ℕ → List ℕ
numbers_of key stream place zero = []
numbers_of key stream place (suc n) =
    number_at key stream place ∷ numbers_of key stream (place + 2) n
