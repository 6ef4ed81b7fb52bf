-- Declarations before the values that they give.
use Rattle.std.specs.Prelude.{◌≡◌, ℕ, false, List, map, slice_set, Result, Ok, Err}
use Rattle.cir_ast.specs.declared.program.Spot.{Spot}
use Rattle.cir_ast.specs.declared.program.Meant.{Meant}
use Rattle.cir_ast.specs.declared.operators.Direction.{Direction}
use Rattle.cir_ast.specs.Tree.{Signal, Variable}
use Rattle.cir_meaning.specs.Tried.{Where, Tried, next}
use Rattle.cir_meaning.specs.Frame.{State, Context, at}
use Rattle.cir_meaning.specs.Evaluate.{dims_in}
use Rattle.cir_meaning.specs.Declaring.{declare_variable, declare_signal}
use Rattle.cir_meaning.specs.Simple.{declared_number}
use Rattle.cir_meaning.specs.Arrays.{filled}
use Rattle.cir_meaning.specs.Values.{Known}
use Rattle.cir_arrays.specs.declared.stop.Fault.{Fault}
use Rattle.cir_arrays.specs.Stopped.{IsRefusal}
use Rattle.cir_arrays.specs.Shown.{datum_of}
use Rattle.cir_frame.specs.Shown.{part_of}
use Rattle.cir_frame.specs.declared.frame.Frame.{Frame}
use Rattle.cir_steps.specs.Emission.{Emission, Emitted, known_in, made_elements, quiet, with_signal}
use Rattle.cir_steps.specs.Emission.{with_state}
use Rattle.cir_steps.specs.Emit.{emit_number}
use Rattle.cir_steps.specs.Making.{Emitting}

abbrev pub declared_variable : Context → Where → Variable Meant → State → Tried State
declared_variable k w v s =
    declared_number w v.meant (λ n. next (dims_in k w false v.dimensions s)
    (λ (dims, s1). Ok (declare_variable n dims s1)))

abbrev pub declared_signal : Emitting → Spot → Direction → Signal Meant → Emission → Tried Emitted
declared_signal q spot direction d x =
    emit_number (at q.context spot) d.meant (λ n. next
    (dims_in q.context (at q.context spot) false d.dimensions (known_in x)) (λ (dims, s).
    quiet (with_signal n (made_elements dims)
    (with_state (declare_signal q.context spot direction n d.name dims s) x))))

-- one variable has new elements, each 0
pub record IsDeclared (f g : Frame) (n : ℕ) : Type 0 where
  pub dims : List ℕ
  pub variables : map datum_of g.variables.items
      ≡ slice_set (map datum_of f.variables.items) n (filled dims (Known 0))
  pub parts : map part_of g.parts.items ≡ map part_of f.parts.items

abbrev pub Numbers : Where → Meant → Result ℕ Fault → Type 0
Numbers w m (Ok n) = (go : ℕ → Tried Emitted) → emit_number w m go ≡ go n
Numbers w m (Err f) = (go : ℕ → Tried Emitted) → IsRefusal f (emit_number w m go)
