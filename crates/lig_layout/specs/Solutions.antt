-- What it is to solve the linear system, with right products, and what that says of a file.
use Rattle.std.specs.Prelude.{◌≡◌, ◌↔◌, ℕ, ◌*◌, ◌%◌, ◌<◌, List, All, length, map, slice_index}
use Rattle.gold_field.specs.declared.gold.TheConstants.{P}
use Rattle.gold_field.specs.Form.{Holds, value_at}
use Rattle.iden_files.specs.File.{File, IsFile, InLimits}
use Rattle.lig_layout.specs.declared.matrix.Vectors.{Vectors}
use Rattle.lig_layout.specs.Sizes.{params_of}
use Rattle.lig_layout.specs.Layout.{vectors_of, message}
use Rattle.lig_layout.specs.System.{left_sides, right_sides}
use Rattle.lig_layout.specs.Laws.{publics_of}

-- values that satisfy a file: a number of the field for each wire, 1 for wire 0, and every
-- constraint holds
pub record IsWitness (f : File) (w : List ℕ) : Type 0 where
  pub count : length w ≡ f.wires
  pub numbers : All (λ value. value < P) w
  pub one : slice_index w 0 ≡ 1
  pub holds : All (Holds (slice_index w)) f.constraints

-- n numbers of the field
pub record AreNumbers (n : ℕ) (values : List ℕ) : Type 0 where
  pub count : length values ≡ n
  pub each : All (λ value. value < P) values

-- a number for each wire, and three for each constraint, whatever they are
pub record AreVectors (f : File) (v : Vectors) : Type 0 where
  pub w : AreNumbers f.wires v.w
  pub x : AreNumbers (length f.constraints) v.x
  pub y : AreNumbers (length f.constraints) v.y
  pub z : AreNumbers (length f.constraints) v.z

-- every equation of the linear system holds, with these public values
abbrev pub SolvesSystem : File → List ℕ → Vectors → Type 0
SolvesSystem f publics v =
    map (value_at (slice_index (message (params_of f) v))) (left_sides (params_of f) f)
    ≡ right_sides f publics

-- x * y is z at every place
abbrev pub AreProducts : Vectors → Type 0
AreProducts v = (place : ℕ)
    → (slice_index v.x place * slice_index v.y place) % P ≡ slice_index v.z place

-- vectors solve the system and are products exactly where their w satisfies the file with these
-- public values, and x, y and z are made of it
abbrev pub SystemIsFile : Type 0
SystemIsFile = (f : File) (publics : List ℕ) (v : Vectors) → IsFile f → InLimits f → AreVectors f v
    → (SolvesSystem f publics v × AreProducts v)
    ↔ (IsWitness f v.w × (publics ≡ publics_of f v.w) × (v ≡ vectors_of f v.w))
