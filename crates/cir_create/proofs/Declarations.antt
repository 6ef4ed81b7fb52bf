-- Declarations, in parts.
use Rattle.std.proofs.Common.{◌≡◌, ℕ, false, List, Option, Ok, ap, sym, ◌∙◌}
use Rattle.cir_ast.specs.declared.program.Meant.{Meant}
use Rattle.cir_ast.specs.declared.marked.DeclaredComponent.{DeclaredComponent}
use Rattle.cir_ast.specs.declared.marked.DeclaredSignal.{DeclaredSignal}
use Rattle.cir_ast.specs.declared.marked.DeclaredVariable.{DeclaredVariable}
use Rattle.cir_ast.specs.declared.marked.Expr.{Expr as CodeExpr}
use Rattle.cir_ast.specs.declared.marked.SignalValue.{SignalValue as CodeValue}
use Rattle.cir_ast.specs.declared.operators.Direction.{Direction}
use Rattle.cir_ast.specs.declared.program.Spot.{Spot}
use Rattle.cir_ast.specs.Tree.{Exprs, bare_component, bare_exprs, bare_signal, bare_signal_value}
use Rattle.cir_ast.specs.Tree.{bare_value, bare_variable}
use Rattle.cir_meaning.specs.Tried.{Where, Tried, next}
use Rattle.cir_meaning.specs.Frame.{State, Context, at}
use Rattle.cir_meaning.specs.Evaluate.{dims_in}
use Rattle.cir_arrays.specs.declared.stop.Fault.{Fault}
use Rattle.cir_arrays.specs.Stopped.{IsRefusal}
use Rattle.cir_arrays.proofs.Exits.{exits}
use Rattle.cir_evaluate.proofs.Steps.{refusal}
use Rattle.cir_meaning.specs.Declaring.{declare_component, declare_signal, declare_variable}
use Rattle.cir_meaning.specs.Simple.{component_declaration, declared_number, initial}
use Rattle.cir_meaning.specs.Simple.{initial_signal, signal_declaration, variable_declaration}

-- the dimensions behind the number
pub declared_goes : (k : Context) (w : Where) (m : Meant) (n : ℕ) (es : Exprs Meant)
    (dims : List ℕ) (s s1 : State) (go : ℕ → List ℕ × State → Tried State)
    → ((go : ℕ → Tried State) → declared_number w m go ≡ go n)
    → dims_in k w false es s ≡ Ok (dims, s1)
    → declared_number w m (λ n. next (dims_in k w false es s) (go n)) ≡ go n (dims, s1)
declared_goes k w m n es dims s s1 go number got =
    number (λ n. next (dims_in k w false es s) (go n))
    ∙ ap (λ (z : Tried (List ℕ × State)). next z (go n)) got

pub component_goes : (k : Context) (w : Where) (c : DeclaredComponent Meant) (n : ℕ)
    (dims : List ℕ) (s s1 after : State)
    → ((go : ℕ → Tried State) → declared_number w c.meant go ≡ go n)
    → dims_in k w false (bare_exprs c.dimensions) s ≡ Ok (dims, s1)
    → after ≡ declare_component n c.name dims s1
    → component_declaration k w (bare_component c) s ≡ Ok after
component_goes k w c n dims s s1 after number got e =
    declared_goes k w c.meant n (bare_exprs c.dimensions) dims s s1
    (λ n (dims, s1). Ok (declare_component n c.name dims s1)) number got
    ∙ ap (λ (x : State). Ok x) (sym e)

-- what is left is the value
pub variable_goes : (k : Context) (w : Where) (v : DeclaredVariable Meant) (n : ℕ)
    (dims : List ℕ) (s s1 after : State) (e : Option (CodeExpr Meant))
    → ((go : ℕ → Tried State) → declared_number w v.meant go ≡ go n)
    → dims_in k w false (bare_exprs v.dimensions) s ≡ Ok (dims, s1)
    → after ≡ declare_variable n dims s1 → v.value ≡ e
    → variable_declaration k w (bare_variable v) s ≡ initial k w v.meant (bare_value e) after
variable_goes k w v n dims s s1 after e number got is value =
    declared_goes k w v.meant n (bare_exprs v.dimensions) dims s s1
    (λ n (dims, s1). initial k w v.meant (bare_value v.value) (declare_variable n dims s1))
    number got ∙ ap (λ (x : State). initial k w v.meant (bare_value v.value) x) (sym is)
    ∙ ap (λ (x : Option (CodeExpr Meant)). initial k w v.meant (bare_value x) after) value

-- the dimensions are refused
pub variable_exits : (k : Context) (w : Where) (v : DeclaredVariable Meant) (n : ℕ) (s : State)
    (f : Fault) → ((go : ℕ → Tried State) → declared_number w v.meant go ≡ go n)
    → IsRefusal f (dims_in k w false (bare_exprs v.dimensions) s)
    → IsRefusal f (variable_declaration k w (bare_variable v) s)
variable_exits k w v n s f number h =
    let go : ℕ → Tried State = λ n. next (dims_in k w false (bare_exprs v.dimensions) s)
    (λ (dims, s1). initial k w v.meant (bare_value v.value) (declare_variable n dims s1)) in
    refusal f (declared_number w v.meant go) (go n) (number go)
    (exits f (dims_in k w false (bare_exprs v.dimensions) s) _ h)

pub signal_goes : (k : Context) (spot : Spot) (direction : Direction) (d : DeclaredSignal Meant)
    (n : ℕ) (dims : List ℕ) (s s1 after : State) (value : CodeValue Meant)
    → ((go : ℕ → Tried State) → declared_number (at k spot) d.meant go ≡ go n)
    → dims_in k (at k spot) false (bare_exprs d.dimensions) s ≡ Ok (dims, s1)
    → after ≡ declare_signal k spot direction n d.name dims s1 → d.value ≡ value
    → signal_declaration k spot direction (bare_signal d) s
    ≡ initial_signal k (at k spot) d.meant (bare_signal_value value) after
signal_goes k spot direction d n dims s s1 after value number got is same =
    declared_goes k (at k spot) d.meant n (bare_exprs d.dimensions) dims s s1
    (λ n (dims, s1). initial_signal k (at k spot) d.meant (bare_signal_value d.value)
    (declare_signal k spot direction n d.name dims s1)) number got
    ∙ ap (λ (x : State). initial_signal k (at k spot) d.meant (bare_signal_value d.value) x)
    (sym is)
    ∙ ap (λ (x : CodeValue Meant). initial_signal k (at k spot) d.meant (bare_signal_value x)
    after) same
