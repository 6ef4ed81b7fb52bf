-- How high a tree may be.
use Rattle.std.specs.Prelude.{ℕ}

abbrev pub most_height : ℕ
most_height = 256

-- so high a statement of a definition may be: the item and its block are two nodes
abbrev pub inner_height : ℕ
inner_height = 254
