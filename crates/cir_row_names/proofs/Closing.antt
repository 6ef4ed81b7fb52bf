-- What executing keeps, where it is kept by each thing that statements do to a state, declarations
-- being under names of the statements.
use Rattle.std.proofs.Common.{◌≡◌, ℕ, Bool, true, List, Option, Some}
use Rattle.cir_ast.specs.declared.program.Spot.{Spot}
use Rattle.cir_ast.specs.declared.operators.Arrow.{Arrow}
use Rattle.cir_ast.specs.declared.operators.Direction.{Direction}
use Rattle.cir_meaning.specs.Tried.{Where}
use Rattle.cir_meaning.specs.Limits.{with_array}
use Rattle.cir_meaning.specs.Arrays.{Datum}
use Rattle.cir_meaning.specs.Values.{Value}
use Rattle.cir_meaning.specs.Frame.{SignalEntry, ComponentEntry, State, Context, put_at, entry_at}
use Rattle.cir_meaning.specs.Frame.{in_frame, adding}
use Rattle.cir_meaning.specs.Writing.{put_variable, signals_of, with_signals, marked}
use Rattle.cir_meaning.specs.Writing.{constrained_by}
use Rattle.cir_meaning.specs.Declaring.{declare_signal, Creation}
use Rattle.cir_meaning.proofs.Good.{OnGood}
use Rattle.cir_meaning.proofs.Likes.{Like}
use Rattle.cir_meaning.proofs.VariableRuns.{IsAdded}
use Rattle.cir_meaning.proofs.Creating.{Created as IsCreated}
use Rattle.cir_row_names.specs.Rows.{IsLineText}

-- the component that is created is declared
abbrev pub IsOfEntry : Creation → Type 0
IsOfEntry c = entry_at c.state.frame.components c.component ≡ Some c.entry

pub record Closes (p : List ℕ → Bool) (k : Context) (Q : State → Type 0) : Type 0 where
  pub like : (f s : State) → Like f s → Q f → Q s
  pub added : (s t : State) → IsAdded s t → Q s → Q t
  pub variable : (i : ℕ) (d : Datum) (s : State) → Q s → Q (put_variable i d s)
  pub array : (dims : List ℕ) (s : State) → Q s → Q (adding (with_array dims) s)
  pub component : (i : ℕ) (c : ComponentEntry) (s : State) → IsLineText c.name → Q s
      → Q (in_frame (λ f. record f { components = put_at i c f.components }) s)
  pub written : (part : Option ℕ) (number place : ℕ) (e : SignalEntry) (s : State) → Q s
      → Q (in_frame (λ f.
      with_signals part (put_at number (marked e place) (signals_of part f)) f) s)
  pub equation : (w : Where) (arrow : Arrow) (x y : Value) (s : State) → Q s
      → OnGood Q (constrained_by k w arrow x y s)
  pub signal : (spot : Spot) (direction : Direction) (i : ℕ) (name dims : List ℕ) (s : State)
      → p name ≡ true → Q s → Q (declare_signal k spot direction i name dims s)
  pub created : (w : Where) (c : Creation) (place : ℕ) (s : State) → IsCreated k w c place s
      → IsOfEntry c → Q c.state → Q s
