-- What is declared and created, by its number.
use Rattle.std.specs.Prelude.{◌≡◌, ℕ, false, List, [], ◌∷◌, map, Option, Some, None}
use Rattle.std.specs.Prelude.{Result, Ok, Err}
use Rattle.std.proofs.Common.{Bor}
use Rattle.cir_ast.specs.declared.program.Meant.{Meant}
use Rattle.cir_ast.specs.declared.marked.Expr.{Expr as CodeExpr}
use Rattle.cir_ast.specs.declared.refusal.Kind.TheVariants.{WrongKind}
use Rattle.cir_ast.specs.Tree.{Exprs, bare_exprs}
use Rattle.cir_meaning.specs.Tried.{Where, Tried, refused}
use Rattle.cir_meaning.specs.Limits.{is_too_large}
use Rattle.cir_meaning.specs.Frame.{State, entry_at}
use Rattle.cir_meaning.specs.Simple.{declared_number}
use Rattle.cir_meaning.specs.Declaring as D
use Rattle.cir_arrays.specs.declared.stop.Fault.{Fault}
use Rattle.cir_arrays.specs.declared.reach.Part.{Part}
use Rattle.cir_arrays.specs.declared.reach.Part.TheVariants as part
use Rattle.cir_arrays.specs.Stopped.{IsRefusal}
use Rattle.cir_arrays.specs.Shown.{datum_of}
use Rattle.cir_create.specs.declared.creating.Creation.{Creation}

abbrev pub Numbers : Where → Meant → Result ℕ Fault → Type 0
Numbers w m (Ok n) = (go : ℕ → Tried State) → declared_number w m go ≡ go n
Numbers w m (Err f) = (go : ℕ → Tried State) → IsRefusal f (declared_number w m go)

-- the template and the arguments of a call that is found
abbrev pub told_call : {A : Type 0} → Where → Option (ℕ × Bor (List (CodeExpr Meant)))
    → (ℕ → Exprs Meant → Tried A) → Tried A
told_call w None go = refused w WrongKind
told_call w (Some c) go = go c.0 (bare_exprs c.1.now)

-- the place of the part that is reached
abbrev pub place_by : Part → Option ℕ
place_by (part.Known first count) = Some first
place_by part.Unknown = None
place_by part.Outside = None

-- the indices of a component mean one place; of an array that is too large no part is kept, and
-- any place will do
pub record IsPlaceIn (dims : List ℕ) (place : Option ℕ) (places : List ℕ) : Type 0 where
  pub known : ℕ
  pub there : place ≡ Some known
  pub meant : ℕ
  pub one : places ≡ meant ∷ []
  pub same : is_too_large dims ≡ false → known ≡ meant

pub record IsCreation (s : State) (c : Creation) (x : D.Creation) : Type 0 where
  pub state : x.state ≡ s
  pub component : x.component ≡ c.component
  pub entry : entry_at s.frame.components c.component ≡ Some x.entry
  pub indices : x.indices ≡ c.indices.items
  pub place : IsPlaceIn x.entry.dims c.place x.places
  pub template : x.template ≡ c.template
  pub arguments : x.arguments ≡ map datum_of c.arguments.items

abbrev pub Creates : State → Result Creation Fault → Tried D.Creation → Type 0
Creates s (Ok c) m = (x : D.Creation) × (m ≡ Ok x) × IsCreation s c x
Creates s (Err f) m = IsRefusal f m
