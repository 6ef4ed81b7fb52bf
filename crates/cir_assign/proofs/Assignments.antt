-- What an assignment to a variable writes, in parts.
use Rattle.std.proofs.Common.{◌≡◌, ℕ, Bool, List, [], Option, Ok, ap, ◌∙◌, arith}
use Rattle.std.specs.Prelude.{if◌then◌else◌, ◌==◌}
use Rattle.cir_ast.specs.declared.program.Meant.{Meant}
use Rattle.cir_ast.specs.declared.refusal.Kind.{Kind}
use Rattle.cir_ast.specs.declared.refusal.Kind.TheVariants.{ShapeDiffers}
use Rattle.cir_ast.specs.Tree.{Expr, Accessors}
use Rattle.cir_meaning.specs.Tried.{Where, Tried, next, needed}
use Rattle.cir_meaning.specs.Limits.{count_sum, standing}
use Rattle.cir_meaning.specs.Arrays.{Datum, Whole, Reach, reach, same_dims}
use Rattle.cir_meaning.specs.Frame.{State, Context, variable_at}
use Rattle.cir_meaning.specs.Evaluate.{value_in, indices_in}
use Rattle.cir_meaning.specs.Writing.{VariableAssignment}
use Rattle.cir_meaning.specs.Costs.{Cost}
use Rattle.cir_meaning.specs.Functions.{function_fault, function_elements}
use Rattle.cir_meaning.specs.Steps.{distinct, stepped, unless_faulty}
use Rattle.cir_evaluate.specs.Parts.{indexed}
use Rattle.cir_assign.specs.Assigns.{assignment_in}
use Rattle.cir_assign.proofs.Indexed.{indices_first}

abbrev pub fitted : Where → Datum → State → Reach → Tried VariableAssignment
fitted w d s r =
    needed (same_dims r.left d.dims) w ShapeDiffers (Ok record { value = d; reach = r; state = s })

abbrev pub reaching : Where → Bool → ℕ → Datum → List (Option ℕ) → State
    → Tried VariableAssignment
reaching w shaded n d indices s =
    next (reach w shaded Whole (variable_at s.frame n).dims indices) (fitted w d s)

pub value_first : (k : Context) (w : Where) (dark : Bool) (n : ℕ) (accessors : Accessors Meant)
    (e : Expr Meant) (s s1 : State) (d : Datum) → value_in k w dark Whole e s ≡ Ok (d, s1)
    → assignment_in k w dark n accessors e s
    ≡ next (indices_in k w dark [] accessors s1 indexed)
    (λ (indices, (rest, s2)). reaching w dark n d indices s2)
value_first k w dark n accessors e s s1 d h =
    ap (λ (z : Tried (Datum × State)). next z (λ (d, s1). indices_in k w dark [] accessors s1
    (λ indices rest s2. reaching w dark n d indices s2))) h
    ∙ indices_first k w dark [] accessors s1 (λ indices rest s2. reaching w dark n d indices s2)

pub indices_next : (k : Context) (w : Where) (dark : Bool) (n : ℕ) (accessors rest : Accessors
    Meant)
    (e : Expr Meant) (s s1 s2 : State) (d : Datum) (indices : List (Option ℕ))
    → value_in k w dark Whole e s ≡ Ok (d, s1)
    → indices_in k w dark [] accessors s1 indexed ≡ Ok (indices, (rest, s2))
    → assignment_in k w dark n accessors e s ≡ reaching w dark n d indices s2
indices_next k w dark n accessors rest e s s1 s2 d indices h i =
    value_first k w dark n accessors e s s1 d h
    ∙ ap (λ (z : Tried (List (Option ℕ) × (Accessors Meant × State))). next z
    (λ (indices, (rest, s2)). reaching w dark n d indices s2)) i

pub reach_next : (k : Context) (w : Where) (dark : Bool) (n : ℕ)
    (accessors rest : Accessors Meant) (e : Expr Meant) (s s1 s2 : State) (d : Datum)
    (indices : List (Option ℕ)) (r : Reach)
    → value_in k w dark Whole e s ≡ Ok (d, s1)
    → indices_in k w dark [] accessors s1 indexed ≡ Ok (indices, (rest, s2))
    → reach w dark Whole (variable_at s2.frame n).dims indices ≡ Ok r
    → assignment_in k w dark n accessors e s ≡ fitted w d s2 r
reach_next k w dark n accessors rest e s s1 s2 d indices r h i j =
    indices_next k w dark n accessors rest e s s1 s2 d indices h i
    ∙ ap (λ (z : Tried Reach). next z (fitted w d s2)) j

-- a count stands still
standing_more : (a n : ℕ) → count_sum a (standing n) ≡ count_sum a n
standing_more a n = omega arith

abbrev step_of : Where → Option Kind → (nodes reads too_many : ℕ) → State → (cells : ℕ)
    → Tried State
step_of w fault nodes reads too_many s cells =
    unless_faulty w fault (Ok record s {
      frame = record (s.frame) {
        added = record (s.frame.added) {
          cells = cells;
          steps = count_sum s.frame.added.steps 1;
          nodes = count_sum s.frame.added.nodes nodes;
          reads = count_sum s.frame.added.reads reads;
          elements =
              if s.frame.added.elements == 0 then standing too_many else s.frame.added.elements;
        };
      };
    })

pub stepped_standing : (k : Context) (w : Where) (c : Cost) (n : ℕ) (s : State)
    → stepped k w c (standing n) s ≡ stepped k w c n s
stepped_standing k w c n s =
    ap (step_of w (function_fault k.program c.calls) c.nodes (distinct c.reads)
    (function_elements k.program c.calls) s) (standing_more s.frame.added.cells n)

pub fits_by : (w : Where) (d : Datum) (s : State) (r : Reach) (b : Bool)
    → same_dims r.left d.dims ≡ b → fitted w d s r
    ≡ needed b w ShapeDiffers (Ok record { value = d; reach = r; state = s })
fits_by w d s r b h =
    ap (λ (b : Bool). needed {A = VariableAssignment} b w ShapeDiffers
    (Ok record { value = d; reach = r; state = s })) h
