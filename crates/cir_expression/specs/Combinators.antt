-- Readings made of others: in order, in parentheses, and in lists.
--
-- A reading takes the tokens that are left, and answers the tree at their front with the tokens
-- behind it. As in libraries of parser combinators: `next` is and_then, `otherwise` is map_or
-- (first what is answered for None), `after` is preceded, `closed` terminated, `made` map,
-- `enclosed` delimited by ( ), `separated` separated_list1 and `any_number` separated_list0.
use Rattle.std.specs.Prelude.{ℕ, zero, suc, if◌then◌else◌, List, [], ◌∷◌, ◌++◌, length, Option}
use Rattle.std.specs.Prelude.{Some, None}
use Rattle.cir_token.specs.declared.token.Symbol.{Symbol}
use Rattle.cir_token.specs.declared.token.Symbol.TheVariants.{Comma, OpenParenthesis}
use Rattle.cir_token.specs.declared.token.Symbol.TheVariants.{CloseParenthesis}
use Rattle.cir_expression.specs.Front.{Tokens, tail, begins, behind}

abbrev pub next : {A B : Type 0} → Option A → (A → Option B) → Option B
next None go = None
next (Some x) go = go x

abbrev pub otherwise : {A B : Type 0} → Option A → B → (A → B) → B
otherwise None end go = end
otherwise (Some x) end go = go x

-- this symbol, and what is read behind it
abbrev pub after : {A : Type 0} → Symbol → (Tokens → Option (A × Tokens)) → Tokens
    → Option (A × Tokens)
after s read ts = next (behind s ts) read

-- what was read, with this symbol behind it
abbrev pub closed : {A : Type 0} → Symbol → Option (A × Tokens) → Option (A × Tokens)
closed s found = next found (λ x. next (behind s x.1) (λ rest. Some (x.0, rest)))

-- made of what was read
abbrev pub made : {A B : Type 0} → (A → B) → Option (A × Tokens) → Option (B × Tokens)
made make found = next found (λ x. Some (make x.0, x.1))

-- in parentheses
abbrev pub enclosed : {A : Type 0} → (Tokens → Option (A × Tokens)) → Tokens → Option (A × Tokens)
enclosed read ts = closed CloseParenthesis (after OpenParenthesis read ts)

-- one or more with this symbol between them, so many at most, behind those that were read before
abbrev pub parted_by : {A : Type 0} → Symbol → ℕ → (Tokens → Option (A × Tokens)) → List A → Tokens
    → Option (List A × Tokens)
parted_by s zero read before ts = None
parted_by s (suc n) read before ts =
    next (read ts) (λ x.
    if begins s x.1
    then parted_by s n read (before ++ x.0 ∷ []) (tail x.1)
    else Some (before ++ x.0 ∷ [], x.1))

-- with commas
abbrev pub separated_by : {A : Type 0} → ℕ → (Tokens → Option (A × Tokens)) → List A → Tokens
    → Option (List A × Tokens)
separated_by = parted_by Comma

unfoldable pub separated : {A : Type 0} → (Tokens → Option (A × Tokens)) → Tokens
    → Option (List A × Tokens)
separated read ts = separated_by (length ts) read [] ts

-- so many at most with commas between them, behind those that were read before, and this symbol
abbrev pub listed_to : {A : Type 0} → Symbol → ℕ → (Tokens → Option (A × Tokens)) → List A → Tokens
    → Option (List A × Tokens)
listed_to close n read before ts = closed close (separated_by n read before ts)

-- two or more with commas between them
abbrev pub several : {A : Type 0} → (Tokens → Option (A × Tokens)) → Tokens
    → Option (List A × Tokens)
several read ts =
    next (closed Comma (read ts)) (λ x. separated_by (length x.1) read (x.0 ∷ []) x.1)

-- none or more, up to `)`
abbrev pub any_number : {A : Type 0} → (Tokens → Option (A × Tokens)) → Tokens
    → Option (List A × Tokens)
any_number read ts = if begins CloseParenthesis ts then Some ([], ts) else separated read ts
