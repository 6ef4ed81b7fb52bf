-- What steps ask of a store, one after the other.
use Rattle.std.proofs.Common.{◌≡◌, ◌++◌, ◌∷◌, ℕ, List, [], Option, Result, inl, inr, refl, subst}
use Rattle.out_io.specs.History.{Call}
use Rattle.out_io.specs.History.{Read as Reads}
use Rattle.out_io.specs.declared.fault.IoFault.{IoFault}
use Rattle.circom_files.specs.Asked.{Asks}

-- nothing was asked
pub asks_none : (names : List (List ℕ)) (calls : List Call) → Asks names calls calls
asks_none [] calls = refl
asks_none (name ∷ names) calls = inl (asks_none names calls)

-- one name was read
pub asks_one : (name : List ℕ) (found : Result (Option (List ℕ)) IoFault)
    (before after : List Call) → after ≡ Reads name found ∷ before
    → Asks (name ∷ []) before after
asks_one name found before after is = inr (found, is)

-- some of the first names, and then some of the others
pub asks_both : (xs ys : List (List ℕ)) (first before after : List Call) → Asks xs first before
    → Asks ys before after → Asks (xs ++ ys) first after
asks_both [] ys first before after same more =
    subst (λ (calls : List Call). Asks ys calls after) same more
asks_both (x ∷ xs) ys first before after (inl asks) more =
    inl (asks_both xs ys first before after asks more)
asks_both (x ∷ xs) ys first before after (inr asks) more =
    inr (asks.0, asks_both xs ys (Reads x asks.0 ∷ first) before after asks.1 more)

-- some of the first names, and none of the others
pub asks_first : (xs ys : List (List ℕ)) (before after : List Call) → Asks xs before after
    → Asks (xs ++ ys) before after
asks_first xs ys before after asks =
    asks_both xs ys before after after asks (asks_none ys after)
