-- Scopes of nested blocks.
use Rattle.std.proofs.Common.{◌≡◌, ◌∙◌, ℕ, List, [], ◌∷◌, ◌++◌, reverse, refl, ap, sym}
use Rattle.std.specs.Option.{option_or}
use Rattle.std.proofs.lemmas.List.{reverse-append, reverse-reverse}
use Rattle.std.proofs.lemmas.List.Sums.{fold-append}
use Rattle.cir_resolve.specs.declared.names.Names.{Names}
use Rattle.cir_resolve.specs.Scope.{nothing}
use Rattle.cir_resolve.specs.Answers.{names_in, hiding, nested}

-- a block inside these
pub nested_push : (blocks : List Names) (names : Names)
    → nested (blocks ++ names ∷ []) ≡ hiding (nested blocks) (names_in names)
unfolding nested
nested_push blocks names =
    fold-append (λ around n. hiding around (names_in n)) nothing blocks (names ∷ [])

pub nested_none : nested [] ≡ nothing
unfolding nested
nested_none = refl

-- what a name means in blocks, by the last of them
pub nested_last : (blocks around : List Names) (names : Names) (name : List ℕ)
    → blocks ≡ around ++ names ∷ []
    → nested blocks name ≡ option_or (names_in names name) (nested around name)
nested_last blocks around names name is =
    ap (λ b. nested b name) is ∙ ap (λ f. f name) (nested_push around names)

-- lists that are equal have the same last element, and the same ones before it
pub last_of : {A : Type 0} (xs ys : List A) (x y : A) → xs ++ x ∷ [] ≡ ys ++ y ∷ []
    → (xs ≡ ys) × (x ≡ y)
last_of xs ys x y e =
    let back : x ∷ reverse xs ≡ y ∷ reverse ys =
    sym (reverse-append xs (x ∷ [])) ∙ ap reverse e ∙ reverse-append ys (y ∷ []) in
    (cc (reverse-reverse xs, reverse-reverse ys), cc)
