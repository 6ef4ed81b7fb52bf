-- The steps of loops over inputs and over values.
use Rattle.std.proofs.Common.{◌≡◌, ◌∙◌, ℕ, ◌+◌, ◌<◌, List, [], ◌∷◌, ◌++◌, length, get_or, drop}
use Rattle.std.proofs.Common.{Option, Result, Ok, Err, refl, sym, ap, append_assoc}
use Rattle.std.specs.Option.{option_or}
use Rattle.std.proofs.lemmas.List.{drop_more}
use Rattle.wit_input.specs.Input.{first_fault}
use Rattle.wit_input.specs.declared.fault.InputFault.{InputFault}

-- the list from an element on
pub from : {A : Type 0} (xs : List A) (i : ℕ) (x : A) → i < length xs → x ≡ get_or xs i x
    → drop i xs ≡ x ∷ drop (i + 1) xs
from xs i x h is = drop_more xs i x h ∙ ap (λ y. y ∷ drop (i + 1) xs) (sym is)

-- the faults from an element on
pub faults_from : {A : Type 0} (fault : ℕ → A → Option InputFault) (xs : List A) (i : ℕ) (x : A)
    → i < length xs → x ≡ get_or xs i x
    → first_fault fault i (drop i xs)
    ≡ option_or (fault i x) (first_fault fault (i + 1) (drop (i + 1) xs))
faults_from fault xs i x h is = ap (first_fault fault i) (from xs i x h is)

-- numbers in front of those of a reading
abbrev pub behind : List ℕ → Result (List ℕ) InputFault → Result (List ℕ) InputFault
behind xs (Ok ys) = Ok (xs ++ ys)
behind xs (Err fault) = Err fault

pub behind_none : (r : Result (List ℕ) InputFault) → behind [] r ≡ r
behind_none (Ok ys) = refl
behind_none (Err fault) = refl

pub behind_behind : (xs ys : List ℕ) (r : Result (List ℕ) InputFault)
    → behind (xs ++ ys) r ≡ behind xs (behind ys r)
behind_behind xs ys (Ok zs) = ap Ok (append_assoc xs ys zs)
behind_behind xs ys (Err fault) = refl
