-- What assignments write: variables, and elements of signals, which are written once and may be
-- constrained.
use Rattle.std.specs.Prelude.{ℕ, ◌+◌, ◌==◌, Bool, true, false, not, if◌then◌else◌, is_some, List}
use Rattle.std.specs.Prelude.{[], ◌∷◌, ◌++◌, Option, Some, None, Ok, slice_get, slice_set}
use Rattle.cir_ast.specs.declared.program.Meant.{Meant}
use Rattle.cir_ast.specs.declared.program.Meant.TheVariants as meant
use Rattle.cir_ast.specs.declared.operators.Arrow.{Arrow}
use Rattle.cir_ast.specs.declared.operators.Arrow.TheVariants.{Assign as AssignArrow}
use Rattle.cir_ast.specs.declared.operators.Arrow.TheVariants.{Constrain as ConstrainArrow}
use Rattle.cir_ast.specs.declared.refusal.Kind.TheVariants.{WrongKind, UnknownIndex, NonQuadratic}
use Rattle.cir_ast.specs.declared.refusal.Kind.TheVariants.{ReadBeforeWrite, SecondWrite}
use Rattle.cir_ast.specs.declared.refusal.Kind.TheVariants.{ShapeDiffers}
use Rattle.cir_ast.specs.Tree.{Expr, Number, Place, Parentheses, Binary, Accessors, done, index}
use Rattle.cir_ast.specs.Tree.{member, Assign, Set, Compound, Left, Increment, Decrement}
use Rattle.cir_ast.specs.declared.operators.Binary.TheVariants as binary
use Rattle.cir_meaning.specs.Operators.{compound_of}
use Rattle.cir_lc.specs.Number.{signal}
use Rattle.cir_meaning.specs.Tried.{Where, Tried, next, refused, needed, found}
use Rattle.cir_meaning.specs.Places.{elements, all_known}
use Rattle.cir_meaning.specs.Limits.{count_sum}
use Rattle.cir_meaning.specs.Arrays.{Datum, Whole, Reach, reach, forgotten, is_all_known, same_dims}
use Rattle.cir_meaning.specs.Arrays.{put_items}
use Rattle.cir_meaning.specs.Values.{Value, Linear, Parts, difference_of, parts_of, number_of}
use Rattle.cir_meaning.specs.Source.{terms_of}
use Rattle.cir_meaning.specs.Frame.{SignalEntry, Signals, Part, Frame, State, Context, all_numbers}
use Rattle.cir_meaning.specs.Frame.{is_input, is_written, put_at, entry_at, variable_at, in_frame}
use Rattle.cir_meaning.specs.Frame.{adding}
use Rattle.cir_meaning.specs.Reading.{part_at, named_signal}
use Rattle.cir_meaning.specs.Evaluate.{value_in, indices_in}

-- `x += e` is `x = x + (e)`, and `x++` is `x = x + 1`
abbrev pub plain : Assign Meant → Assign Meant
plain (Set name m accessors e) = Set name m accessors e
plain (Compound name m accessors op e) =
    Set name m accessors (Binary (compound_of op) (Place name m accessors) (Parentheses e))
plain (Left name m accessors arrow e) = Left name m accessors arrow e
plain (Increment name m accessors) =
    Set name m accessors (Binary binary.Add (Place name m accessors) (Number 1))
plain (Decrement name m accessors) =
    Set name m accessors (Binary binary.Sub (Place name m accessors) (Number 1))

-- a variable, of which a part is written; it is opaque as a whole where it isn't known which part
abbrev pub put_variable : ℕ → Datum → State → State
put_variable n d s = in_frame (λ f. record f { variables = slice_set f.variables n d }) s

abbrev pub written_datum : Datum → Reach → Datum → Datum
written_datum old r d =
    if r.is_sure then record { dims = old.dims; items = put_items r.places d.items old.items } else
    forgotten old

-- what an assignment to a variable writes, and where, with the state behind the evaluation of both
pub record VariableAssignment : Type 0 where
  pub value : Datum
  pub reach : Reach
  pub state : State

-- the value comes first, then the indices of the written place, then shapes
abbrev pub variable_assignment : Context → Where → ℕ → Accessors Meant → Expr Meant → State
    → Tried VariableAssignment
variable_assignment k w n accessors e s =
    next (value_in k w false Whole e s) (λ (d, s1). indices_in k w false [] accessors s1
    (λ indices rest s2.
    next (reach w false Whole (variable_at s2.frame n).dims indices) (λ r.
    needed (same_dims r.left d.dims) w ShapeDiffers (Ok
    record { value = d; reach = r; state = s2 }))))

abbrev pub write_variable : ℕ → VariableAssignment → State
write_variable n a =
    put_variable n (written_datum (variable_at a.state.frame n) a.reach a.value) a.state

-- whether an element that it writes isn't known afterwards
abbrev pub is_unknown : ℕ → VariableAssignment → Bool
is_unknown n a =
    if a.reach.is_sure then not (is_all_known a.value) else not
    (elements (variable_at a.state.frame n).dims == 0)

-- the elements of a signal that are to be written: an own signal, or an input of a part, by its
-- number
pub record Target : Type 0 where
  pub part : Option ℕ
  pub number : ℕ
  pub reach : Reach

-- the signals of the body or of a part
abbrev pub part_signals : Option Part → Signals
part_signals None = []
part_signals (Some p) = p.signals

abbrev pub signals_of : Option ℕ → Frame → Signals
signals_of None f = f.signals
signals_of (Some j) f = part_signals (slice_get f.parts j)

abbrev pub with_part_signals : ℕ → Signals → Option Part → Frame → Frame
with_part_signals j signals None f = f
with_part_signals j signals (Some p) f =
    record f { parts = slice_set f.parts j (record p { signals = signals }) }

abbrev pub with_signals : Option ℕ → Signals → Frame → Frame
with_signals None signals f = record f { signals = signals }
with_signals (Some j) signals f = with_part_signals j signals (slice_get f.parts j) f

-- all indices of a written signal must be known
abbrev pub targeted : Where → Option ℕ → ℕ → SignalEntry → List (Option ℕ) → Tried Target
targeted w part n e indices =
    needed (is_some (all_known indices)) w UnknownIndex
    (next (reach w false Whole e.dims indices) (λ r. Ok
    record { part = part; number = n; reach = r }))

-- the input of this name of the component that the indices mean; its other signals aren't written
-- from outside
abbrev pub input_of : {A : Type 0} → Where → ℕ → List (Option ℕ) → List ℕ → State
    → (Option ℕ → ℕ → SignalEntry → Tried A) → Tried A
input_of w n indices name s go =
    next (part_at w false n indices s.frame) (λ j. next (named_signal w name (signals_of j s.frame))
    (λ (i, e).
    needed (is_input e.direction) w WrongKind (go j i e)))

abbrev pub target_at : Context → Where → ℕ → List (Option ℕ) → Accessors Meant → State
    → Tried (Target × State)
target_at k w n indices (member name rest) s =
    input_of w n indices name s (λ j i e. indices_in k w false [] rest s (λ inner more_rest s1.
    next (targeted w j i e inner) (λ t. Ok (t, s1))))
target_at k w n indices done s = refused w WrongKind
target_at k w n indices (index e rest) s = refused w WrongKind

abbrev pub target_in : Context → Where → Meant → Accessors Meant → State → Tried (Target × State)
target_in k w (meant.Signal direction n) accessors s =
    indices_in k w false [] accessors s (λ indices rest s1.
    next (found w ReadBeforeWrite (entry_at s1.frame.signals n))
    (λ e. next (targeted w None n e indices) (λ t. Ok (t, s1))))
target_in k w (meant.Component n) accessors s =
    indices_in k w false [] accessors s (target_at k w n)
target_in k w meant.Other accessors s = refused w WrongKind
target_in k w (meant.Variable n) accessors s = refused w WrongKind
target_in k w (meant.Template n) accessors s = refused w WrongKind
target_in k w (meant.Function n) accessors s = refused w WrongKind

-- an element is written once
abbrev pub marked : SignalEntry → ℕ → SignalEntry
marked e place = record e { written = slice_set e.written place true }

abbrev pub write_element : Where → Target → ℕ → State → Tried (SignalEntry × State)
write_element w t place s =
    next (found w ReadBeforeWrite (entry_at (signals_of t.part s.frame) t.number)) (λ e.
    needed (not (is_written e place)) w SecondWrite
    (Ok (
      e,
      in_frame (λ f. with_signals t.part (put_at t.number (marked e place)
          (signals_of t.part f)) f) s,
    )))

-- one more constraint, that two values are equal: their difference may not be opaque
abbrev pub appended : Context → Where → Value → Value → State → Option Parts → Tried State
appended k w x y s None = refused w NonQuadratic
appended k w x y s (Some p) =
    Ok (adding (λ c. record c {
      constraints = count_sum c.constraints 1;
      terms = count_sum c.terms (terms_of (all_numbers k) p);
    })
    (record s {
      world = record (s.world) {
        equations = s.world.equations ++
            record { left = number_of x; right = number_of y; parts = p } ∷ [];
      };
    }))

abbrev pub constrained : Context → Where → Value → Value → State → Tried State
constrained k w x y s = appended k w x y s (parts_of (difference_of x y))

abbrev pub constrained_by : Context → Where → Arrow → Value → Value → State → Tried State
constrained_by k w AssignArrow x y s = Ok s
constrained_by k w ConstrainArrow x y s = constrained k w x y s

-- element by element in row order: written, then constrained
abbrev pub write_elements : Context → Where → Arrow → Target → List ℕ → List Value → State
    → Tried State
write_elements k w arrow t [] vs s = Ok s
write_elements k w arrow t (place ∷ places) [] s = Ok s
write_elements k w arrow t (place ∷ places) (v ∷ vs) s =
    next (write_element w t place s) (λ (e, s1).
    next (constrained_by k w arrow (Linear (signal (e.first + place))) v s1) (λ s2.
    write_elements k w arrow t places vs s2))

-- what an assignment to a signal writes, and where
pub record SignalAssignment : Type 0 where
  pub value : Datum
  pub target : Target
  pub state : State

abbrev pub signal_assignment : Context → Where → Meant → Accessors Meant → Expr Meant → State
    → Tried SignalAssignment
signal_assignment k w m accessors e s =
    next (value_in k w false Whole e s) (λ (d, s1). next (target_in k w m accessors s1) (λ (t, s2).
    needed (same_dims t.reach.left d.dims) w ShapeDiffers
    (Ok record { value = d; target = t; state = s2 })))

abbrev pub write_signal : Context → Where → Arrow → SignalAssignment → Tried State
write_signal k w arrow a =
    write_elements k w arrow a.target a.target.reach.places a.value.items a.state
