-- What is asked of a store and of a sink, by the history of their calls, of which the last one
-- stands first.
use Rattle.std.specs.Prelude.{◌≡◌, ◌⊎◌, ◌∷◌, ℕ, List, [], Option, Result}
use Rattle.out_io.specs.History.{Call, Put, Write}
use Rattle.out_io.specs.History.{Read as Reads}
use Rattle.out_io.specs.declared.fault.IoFault.{IoFault}

-- some of these names were read, in this order and each at most once, and nothing else was asked
abbrev pub Asks : List (List ℕ) → (before after : List Call) → Type 0
Asks [] before after = after ≡ before
Asks (name ∷ names) before after =
    Asks names before after
    ⊎ ((found : Result (Option (List ℕ)) IoFault)
    × Asks names (Reads name found ∷ before) after)

-- nothing was asked, or one file was written
abbrev pub WritesOnce : (before after : List Call) → Type 0
WritesOnce before after =
    (after ≡ before)
    ⊎ ((name : List ℕ) × (bytes : List ℕ) × (done : Result (Unit {0}) IoFault)
    × (after ≡ Write name bytes done ∷ before))

-- nothing was asked, or one text was put
abbrev pub PutsOnce : (before after : List Call) → Type 0
PutsOnce before after =
    (after ≡ before)
    ⊎ ((text : List ℕ) × (done : Result (Unit {0}) IoFault) × (after ≡ Put text done ∷ before))
