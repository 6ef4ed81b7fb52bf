-- Hashers that take a message in piece by piece.
use Rattle.std.specs.Prelude.{ℕ, List, ◌++◌}
use Rattle.sha2.specs.declared.Sha256.{Sha256}
use Rattle.sha2.specs.Hashers.{Holds256}

-- whatever message the old hasher holds, the new one holds it with these bytes behind
abbrev pub Absorbs : List ℕ → Sha256 → Sha256 → Type 0
Absorbs bytes old new = (message : List ℕ) → Holds256 old message → Holds256 new (message ++ bytes)
