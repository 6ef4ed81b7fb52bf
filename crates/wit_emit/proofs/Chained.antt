-- Pieces of code one behind the other.
use Rattle.std.proofs.Common.{◌≡◌, ◌∙◌, ℕ, ◌+◌, ◌++◌, length, ap, append_assoc}
use Rattle.std.proofs.lemmas.List.{length-append}
use Rattle.wit_lower.specs.Pieces.{Code, followed}

-- a piece, and behind it what is left
pub chained : (old first : Code) (second : ℕ → Code)
    → (old ++ first) ++ second (length (old ++ first)) ≡ old ++ followed (length old) first second
chained old first second =
    ap (λ n. (old ++ first) ++ second n) (length-append old first)
    ∙ append_assoc old first (second (length old + length first))

-- the same of the codes as they are made
pub then_made : (old one two first : Code) (second : ℕ → Code) → one ≡ old ++ first
    → two ≡ one ++ second (length one) → two ≡ old ++ followed (length old) first second
then_made old one two first second made more =
    more ∙ ap (λ c. c ++ second (length c)) made ∙ chained old first second

-- a piece of two parts, the second of which has no jumps
pub then_ended : (old one two first last : Code) → one ≡ old ++ first → two ≡ one ++ last
    → two ≡ old ++ (first ++ last)
then_ended old one two first last made more =
    more ∙ ap (λ c. c ++ last) made ∙ append_assoc old first last
