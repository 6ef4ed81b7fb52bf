-- Steps of which the first that refuses ends all, and the place of a refusal.
use Rattle.std.specs.Prelude.{ℕ, List, Bool, Option, Some, None, Result, Ok, Err, if◌then◌else◌}
use Rattle.cir_ast.specs.declared.program.Spot.{Spot}
use Rattle.cir_ast.specs.declared.refusal.Kind.{Kind}

-- a statement's place in its file, and the instance in which it is executed, by its number and its
-- path
pub record Where : Type 0 where
  pub file : ℕ
  pub spot : Spot
  pub instance : ℕ
  pub path : List ℕ

pub record Refused : Type 0 where
  pub kind : Kind
  pub place : Where

abbrev pub Tried : Type 0 → Type 0
Tried A = Result A Refused

-- the first refusal ends all
abbrev pub next : {E A B : Type 0} → Result A E → (A → Result B E) → Result B E
next (Ok a) go = go a
next (Err e) go = Err e

abbrev pub refused : {A : Type 0} → Where → Kind → Tried A
refused w kind = Err record { kind = kind; place = w }

-- refused unless the test holds
abbrev pub needed : {A : Type 0} → Bool → Where → Kind → Tried A → Tried A
needed test w kind go = if test then go else refused w kind

abbrev pub found : {A : Type 0} → Where → Kind → Option A → Tried A
found w kind None = refused w kind
found w kind (Some a) = Ok a
