-- What a store holds, and what its calls do to it.
use Rattle.std.specs.Prelude.{◌≡◌, ◌≢◌, ℕ, List, Option, None, Some, ◌⊎◌, take, Vec}
use Rattle.std.specs.declared.alloc.Global.{Global}

-- the bytes under each name, None where the name isn't there
abbrev pub Contents : Type 0
Contents = List ℕ → Option (List ℕ)

-- the bytes that a reader got
abbrev pub bytes_of : Option (Vec ℕ Global) → Option (List ℕ)
bytes_of None = None
bytes_of (Some v) = Some v.items

-- the name holds these bytes, and every other name is as before
pub record Replaces (name bytes : List ℕ) (old new : Contents) : Type 0 where
  pub here : new name ≡ Some bytes
  pub others : (other : List ℕ) → other ≢ name → new other ≡ old other

-- the name is as before or holds a prefix of these bytes, and every other name is as before
pub record ReplacesInPart (name bytes : List ℕ) (old new : Contents) : Type 0 where
  pub here : (new name ≡ old name) ⊎ ((count : ℕ) × (new name ≡ Some (take count bytes)))
  pub others : (other : List ℕ) → other ≢ name → new other ≡ old other
