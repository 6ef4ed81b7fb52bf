-- The turns of reading statements, where a number stands in place of its successor.
use Rattle.std.proofs.Common.{◌≡◌, ℕ, zero, suc, ◌<◌, List, [], ◌∷◌, ◌++◌, Option, Some, false}
use Rattle.std.proofs.Common.{refl, ◌∙◌, arith}
use Rattle.std.specs.Prelude.{if◌then◌else◌}
use Rattle.cir_token.specs.declared.token.Symbol.TheVariants.{CloseBrace}
use Rattle.cir_expression.specs.Front.{Tokens, tail, begins}
use Rattle.cir_expression.specs.Combinators.{next}
use Rattle.cir_expression.specs.declared.reader.Stop.{Stop}
use Rattle.cir_expression.specs.declared.reader.Stop.TheVariants.{NoTree, OutOfMemory}
use Rattle.cir_expression.specs.Answers.{Stops}
use Rattle.cir_parse.specs.Reading.{statements_by}

pub statements_is : {A : Type 0} (n m : ℕ) (read : Tokens → Option (A × Tokens)) (before : List A)
    (ts : Tokens) → n ≡ suc m
    → statements_by n read before ts
    ≡ (if begins CloseBrace ts then Some (before, tail ts)
    else next (read ts) (λ s. statements_by m read (before ++ s.0 ∷ []) s.1))
statements_is n m read before ts e = rw e refl

pub no_statement : {A : Type 0} (stop : Stop) (n : ℕ) (read : Tokens → Option (A × Tokens))
    (before : List A) (ts : Tokens) (all : Option (List A × Tokens)) → 0 < n
    → all ≡ statements_by n read before ts → begins CloseBrace ts ≡ false → Stops stop (read ts)
    → Stops stop all
no_statement OutOfMemory n read before ts all h e close s = tt
no_statement NoTree zero read before ts all h e close s = absurd (omega arith)
no_statement NoTree (suc n) read before ts all h e close s = e ∙ rw (close, s) refl
