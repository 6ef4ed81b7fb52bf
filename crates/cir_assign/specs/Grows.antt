-- What is written to a variable: a value, or what is added to the linear number that it has.
use Rattle.std.specs.Prelude.{◌≡◌, ℕ, Bool, true, List, [], ◌∷◌, Result, Ok, Err}
use Rattle.cir_ast.specs.declared.program.Meant.{Meant}
use Rattle.cir_ast.specs.declared.program.Meant.TheVariants.{Variable}
use Rattle.cir_ast.specs.declared.operators.Binary.TheVariants as binary
use Rattle.cir_ast.specs.Tree.{Expr, Place, Binary, done}
use Rattle.cir_lc.specs.Number.{Number}
use Rattle.cir_values.specs.Meant.{meant}
use Rattle.cir_meaning.specs.Tried.{Where, Tried}
use Rattle.cir_meaning.specs.Values.{Linear, sum_of}
use Rattle.cir_meaning.specs.Arrays.{Datum, Reach, Want, single}
use Rattle.cir_meaning.specs.Frame.{Context, State, variable_at}
use Rattle.cir_meaning.specs.Evaluate.{value_in}
use Rattle.cir_arrays.specs.declared.stop.Fault.{Fault}
use Rattle.cir_arrays.specs.Stopped.{IsRefusal}
use Rattle.cir_arrays.specs.Shown.{datum_of}
use Rattle.cir_assign.specs.declared.growing.NewValue.{NewValue}
use Rattle.cir_assign.specs.declared.growing.NewValue.TheVariants as new

-- a linear number
abbrev pub IsLinear : Datum → Type 0
IsLinear d = (f : Number) × (d ≡ single (Linear f))

-- the value that stands in place of the old one
abbrev pub IsNew : (old : Datum) → NewValue → (value : Datum) → Type 0
IsNew old (new.Whole d) value = value ≡ datum_of d
IsNew old (new.Added y) value =
    (f : Number) × (old ≡ single (Linear f)) × (value ≡ single (sum_of (Linear f) (meant y)))

-- a sum is written to the whole variable
abbrev pub IsWritten : NewValue → Reach → Type 0
IsWritten (new.Whole d) r = Unit {0}
IsWritten (new.Added y) r = (r.is_sure ≡ true) × (r.places ≡ 0 ∷ [])

-- an expression has a value, in the state that its evaluation leaves
abbrev pub GivesNew : ℕ → State → Result NewValue Fault → Tried (Datum × State) → Type 0
GivesNew n s (Ok v) m = (d : Datum) × (m ≡ Ok (d, s)) × IsNew (variable_at s.frame n) v d
GivesNew n s (Err f) m = IsRefusal f m

-- the variable, without indices
abbrev pub IsWhole : ℕ → Expr Meant → Type 0
IsWhole n e = (name : List ℕ) × (e ≡ Place name (Variable n) done)

-- the value of an expression is that of the variable and a part, added
abbrev pub AddsTo : ℕ → (whole part : Expr Meant) → Type 0
AddsTo n whole part =
    (name : List ℕ) × ((k : Context) (w : Where) (shaded : Bool) (want : Want) (s : State)
    → value_in k w shaded want whole s
    ≡ value_in k w shaded want (Binary binary.Add (Place name (Variable n) done) part) s)
