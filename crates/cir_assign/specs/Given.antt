-- What an assignment gives, and how it is written.
use Rattle.std.specs.Prelude.{◌≡◌, ℕ, List, Option, Some, None}
use Rattle.cir_ast.specs.declared.program.Meant.{Meant}
use Rattle.cir_ast.specs.declared.operators.Arrow.{Arrow}
use Rattle.cir_ast.specs.declared.operators.Binary.TheVariants as binary
use Rattle.cir_ast.specs.declared.marked.Accessor.{Accessor}
use Rattle.cir_ast.specs.Tree.{Expr, Number, Place, Parentheses, Binary, Accessors, Assign, Set}
use Rattle.cir_ast.specs.Tree.{Compound, Left, Increment, Decrement, bare, bare_place, as_accessors}
use Rattle.cir_meaning.specs.Operators.{compound_of}
use Rattle.cir_assign.specs.declared.assigning.Given.{Given}
use Rattle.cir_assign.specs.declared.assigning.Given.TheVariants as given
use Rattle.cir_assign.specs.declared.assigning.Placed.{Placed}

-- the expression that is given
abbrev pub given_by : Given → Expr Meant
given_by (given.Plain e) = bare e.now
given_by (given.Compound op place e) =
    Binary (compound_of op) (bare_place place.now) (Parentheses (bare e.now))
given_by (given.Increment place) = Binary binary.Add (bare_place place.now) (Number 1)
given_by (given.Decrement place) = Binary binary.Sub (bare_place place.now) (Number 1)

-- the assignment as it is written
abbrev pub written_by : (name : List ℕ) → Meant → List (Accessor Meant) → Given
    → Assign Meant
written_by name m accessors (given.Plain e) = Set name m (as_accessors accessors) (bare e.now)
written_by name m accessors (given.Compound op place e) =
    Compound name m (as_accessors accessors) op (bare e.now)
written_by name m accessors (given.Increment place) = Increment name m (as_accessors accessors)
written_by name m accessors (given.Decrement place) = Decrement name m (as_accessors accessors)

-- the place of which a new value is made is the written one
abbrev pub IsPlaceOf : (name : List ℕ) → Meant → List (Accessor Meant) → Given → Type 0
IsPlaceOf name m accessors (given.Plain e) = Unit {0}
IsPlaceOf name m accessors (given.Compound op place e) =
    bare_place place.now ≡ Place name m (as_accessors accessors)
IsPlaceOf name m accessors (given.Increment place) =
    bare_place place.now ≡ Place name m (as_accessors accessors)
IsPlaceOf name m accessors (given.Decrement place) =
    bare_place place.now ≡ Place name m (as_accessors accessors)

-- an assignment by its place, or one by an arrow
pub record IsPlaced (a : Assign Meant) (p : Placed) : Type 0 where
  pub name : List ℕ
  pub written : a ≡ written_by name p.meant p.accessors.now p.given
  pub place : IsPlaceOf name p.meant p.accessors.now p.given

pub record IsArrow (a : Assign Meant) : Type 0 where
  pub name : List ℕ
  pub meant : Meant
  pub accessors : Accessors Meant
  pub arrow : Arrow
  pub value : Expr Meant
  pub written : a ≡ Left name meant accessors arrow value

abbrev pub Places : Assign Meant → Option Placed → Type 0
Places a (Some p) = IsPlaced a p
Places a None = IsArrow a
