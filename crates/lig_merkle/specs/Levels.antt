-- A level of a tree, as code keeps it.
use Rattle.std.specs.Prelude.{◌≡◌, ℕ, ◌^◌, ◌<◌, All, length}
use Rattle.std.specs.List.Sorted.{IsStrictlyIncreasing}
use Rattle.lig_merkle.specs.Shared.{missing}
use Rattle.lig_merkle.specs.declared.opened.Level.{Level}

pub record IsLevel (level : Level) : Type 0 where
  pub rising : IsStrictlyIncreasing level.known.now
  pub small : All (λ place. place < 2 ^ 63) level.known.now
  pub beside : level.beside.now ≡ missing level.known.now
  pub hashes : length level.hashes.now ≡ length level.known.now
  pub nodes : length level.nodes.now ≡ length level.beside.now
