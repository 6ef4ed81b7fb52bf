-- Declarations in two parts: what is declared, and the value that it begins with.
use Rattle.std.proofs.Common.{◌≡◌, ◌∙◌, ◌+◌, ◌++◌, ℕ, List, Ok, Err, ap, false, refl, subst, sym}
use Rattle.std.specs.declared.vec.Vec.{Vec}
use Rattle.std.specs.declared.alloc.Global.{Global}
use Rattle.cir_ast.specs.declared.program.Spot.{Spot}
use Rattle.cir_ast.specs.declared.program.Meant.{Meant}
use Rattle.cir_ast.specs.declared.program.Meant.TheVariants as meant
use Rattle.cir_ast.specs.declared.operators.Direction.{Direction}
use Rattle.cir_ast.specs.Tree.{Signal, Variable}
use Rattle.cir_meaning.specs.Tried.{Where, Tried, next}
use Rattle.cir_meaning.specs.Arrays.{Datum}
use Rattle.cir_meaning.specs.Costs.{Made as Key}
use Rattle.cir_meaning.specs.Frame.{Part, State, at}
use Rattle.cir_meaning.specs.Run.{Wires}
use Rattle.cir_arrays.specs.declared.stop.Fault.{Fault}
use Rattle.cir_arrays.specs.Stopped.{IsRefusal}
use Rattle.cir_arrays.proofs.Exits.{exits}
use Rattle.cir_frame.specs.declared.frame.Frame.{Frame}
use Rattle.cir_meaning.specs.Evaluate.{dims_in}
use Rattle.cir_meaning.specs.Declaring.{declare_signal, declare_variable}
use Rattle.cir_meaning.specs.Simple.{declared_number}
use Rattle.cir_steps.specs.Emission.{Emission, Emitted, emit_known, known_in, made_elements, quiet}
use Rattle.cir_steps.specs.Emission.{put_signal, then_emit, with_signal, with_state}
use Rattle.cir_steps.specs.Step.{Step}
use Rattle.cir_make.specs.declared.cells.Cells.{Cells}
use Rattle.cir_make.specs.declared.cells.Run.{Run}
use Rattle.cir_make.specs.declared.whole.Made.{Made}
use Rattle.cir_make.specs.Cells.{wires_by}
use Rattle.cir_make.specs.Emits.{go_on}
use Rattle.cir_make.specs.Shows.{AreSourced, AreWaiting, IsKept, SameBody, SameWires, keys_of}
use Rattle.cir_steps.specs.Emit.{emit_initial, emit_initial_signal, emit_number, emit_signal}
use Rattle.cir_steps.specs.Emit.{emit_variable}
use Rattle.cir_steps.specs.Making.{Emitting}
use Rattle.cir_write.specs.Declarations.{declared_signal, declared_variable}
use Rattle.cir_make.proofs.Going.{behind_none}

module _ (w : Where) (x : Emission) (go : Emission → Tried Emitted) where
  variable_then : (n : ℕ) (m : Tried (List ℕ × State))
      → next m (λ (dims, s). go (with_state (declare_variable n dims s) x))
      ≡ then_emit (next (next m (λ (dims, s1). Ok (declare_variable n dims s1)))
      (λ s. quiet (with_state s x))) go
  variable_then n (Ok (dims, s)) =
      sym (behind_none (go (with_state (declare_variable n dims s) x)))
  variable_then n (Err e) = refl

  variable_by : (k : Meant) (m : Tried (List ℕ × State))
      → emit_number w k (λ n. next m (λ (dims, s). go (with_state (declare_variable n dims s) x)))
      ≡ then_emit (next (declared_number w k (λ n. next m
      (λ (dims, s1). Ok (declare_variable n dims s1)))) (λ s. quiet (with_state s x))) go
  variable_by (meant.Variable n) m = variable_then n m
  variable_by (meant.Signal direction n) m = variable_then n m
  variable_by (meant.Component n) m = variable_then n m
  variable_by meant.Other m = refl
  variable_by (meant.Template t) m = refl
  variable_by (meant.Function f) m = refl

  module _ (after : ℕ → List ℕ → State → Emission) where
    signal_then : (n : ℕ) (m : Tried (List ℕ × State)) → next m (λ (dims, s). go (after n dims s))
        ≡ then_emit (next m (λ (dims, s). quiet (after n dims s))) go
    signal_then n (Ok (dims, s)) = sym (behind_none (go (after n dims s)))
    signal_then n (Err e) = refl

    signal_by : (k : Meant) (m : Tried (List ℕ × State))
        → emit_number w k (λ n. next m (λ (dims, s). go (after n dims s)))
        ≡ then_emit (emit_number w k (λ n. next m (λ (dims, s). quiet (after n dims s)))) go
    signal_by (meant.Variable n) m = signal_then n m
    signal_by (meant.Signal direction n) m = signal_then n m
    signal_by (meant.Component n) m = signal_then n m
    signal_by meant.Other m = refl
    signal_by (meant.Template t) m = refl
    signal_by (meant.Function f) m = refl

pub variable_parts : (q : Emitting) (w : Where) (v : Variable Meant) (x : Emission)
    → emit_variable q w v x
    ≡ then_emit (emit_known (declared_variable q.context w v) x) (emit_initial q w v.meant v.value)
variable_parts q w v x =
    variable_by w x (emit_initial q w v.meant v.value) v.meant
    (dims_in q.context w false v.dimensions (known_in x))

pub signal_parts : (q : Emitting) (spot : Spot) (direction : Direction) (d : Signal Meant)
    (x : Emission) → emit_signal q spot direction d x
    ≡ then_emit (declared_signal q spot direction d x)
    (emit_initial_signal q (at q.context spot) d.meant d.value)
signal_parts q spot direction d x =
    signal_by (at q.context spot) x (emit_initial_signal q (at q.context spot) d.meant d.value)
    (λ n dims s. with_signal n (made_elements dims)
    (with_state (declare_signal q.context spot direction n d.name dims s) x)) d.meant
    (dims_in q.context (at q.context spot) false d.dimensions (known_in x))

-- ---- a signal that is declared
module _ (q : Emitting) (spot : Spot) (direction : Direction) (b : Signal Meant) (n : ℕ) where
  abbrev rest : Emission → ℕ → Tried (List ℕ × State) → Tried Emitted
  rest x n m =
      next m (λ (dims, s). quiet (with_signal n (made_elements dims)
      (with_state (declare_signal q.context spot direction n b.name dims s) x)))

  pub signal_goes : (dims : List ℕ) (x : Emission) (s1 s : State) → known_in x ≡ s
      → ((go : ℕ → Tried Emitted) → emit_number (at q.context spot) b.meant go ≡ go n)
      → dims_in q.context (at q.context spot) false b.dimensions s ≡ Ok (dims, s1)
      → declared_signal q spot direction b x ≡ quiet (with_signal n (made_elements dims)
      (with_state (declare_signal q.context spot direction n b.name dims s1) x))
  signal_goes dims x s1 s known number got =
      number (λ n. rest x n (dims_in q.context (at q.context spot) false b.dimensions (known_in x)))
      ∙ ap (λ (z : State). rest x n (dims_in q.context (at q.context spot) false b.dimensions z))
      known
      ∙ ap (λ (m : Tried (List ℕ × State)). rest x n m) got

  pub signal_stops : (d : Emitted) (f : Fault) (s : State) → known_in d.state ≡ s
      → ((go : ℕ → Tried Emitted) → emit_number (at q.context spot) b.meant go ≡ go n)
      → IsRefusal f (dims_in q.context (at q.context spot) false b.dimensions s)
      → IsRefusal f (go_on d (declared_signal q spot direction b))
  signal_stops d f s known number h =
      let m = dims_in q.context (at q.context spot) false b.dimensions (known_in d.state) in
      exits f (declared_signal q spot direction b d.state)
      (λ x. Ok record { state = x.state; steps = d.steps ++ x.steps })
      (subst (λ (z : Tried Emitted). IsRefusal f z)
      (sym (number (λ n. rest d.state n m)))
      (exits f m (λ (dims, s). quiet (with_signal n (made_elements dims)
      (with_state (declare_signal q.context spot direction n b.name dims s) d.state)))
      (subst (λ (z : State). IsRefusal f
      (dims_in q.context (at q.context spot) false b.dimensions z)) (sym known) h)))

pub kept_signal : (p : List Key) (f g : Frame) (c : Cells) (signals : Vec (Vec Run Global) Global)
    (made : Made) (next : ℕ) (x : Emission) (steps : List Step) (n count : ℕ) (s : State)
    → SameBody f g
    → ((own : Wires) → SameWires own (wires_by c.signals.items)
    → SameWires (put_signal n made.next count own) (wires_by signals.items))
    → next ≡ made.next + count → IsKept p f c made x steps
    → IsKept p g record c { signals = signals } record made { next = next }
    (with_signal n count (with_state s x)) steps
kept_signal p f g c signals made next x steps n count s same wires is h = record {
  next = ap (λ (i : ℕ). i + count) h.next ∙ sym is;
  own = subst (λ (i : ℕ). SameWires (put_signal n i count x.cells.own) (wires_by signals.items))
      (sym h.next) (wires x.cells.own h.own);
  parts = h.parts;
  sources = subst (λ (ds : List Datum). AreSourced ds x.sources c.variables.items)
      (sym same.variables) h.sources;
  waiting = subst (λ (ps : List Part). AreWaiting (keys_of made) x.bodies ps c.parts.items)
      (sym same.parts) h.waiting;
  steps_made = h.steps_made;
  later = h.later;
  keys = h.keys;
}
