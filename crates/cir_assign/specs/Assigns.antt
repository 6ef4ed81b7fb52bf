-- What assignments to variables write.
use Rattle.std.specs.Prelude.{◌≡◌, ℕ, Bool, List, [], Option, Result, Ok, Err}
use Rattle.cir_ast.specs.declared.program.Meant.{Meant}
use Rattle.cir_ast.specs.declared.refusal.Kind.TheVariants.{ShapeDiffers}
use Rattle.cir_ast.specs.Tree.{Expr, Accessors, bare, place_accessors}
use Rattle.cir_meaning.specs.Tried.{Where, Tried, next, needed}
use Rattle.cir_meaning.specs.Arrays.{Whole, reach, same_dims}
use Rattle.cir_meaning.specs.Costs.{Cost, both, node, cost_of, indices_cost, place_cost}
use Rattle.cir_meaning.specs.Reading.{Named}
use Rattle.cir_meaning.specs.Evaluate.{value_in, indices_in}
use Rattle.cir_meaning.specs.Frame.{Context, State, variable_at}
use Rattle.cir_meaning.specs.Writing.{VariableAssignment}
use Rattle.cir_meaning.specs.Steps.{stepped}
use Rattle.cir_cost.specs.declared.cost.Cost.{Cost as CodeCost}
use Rattle.cir_cost.specs.Adds.{IsCost}
use Rattle.cir_arrays.specs.declared.stop.Fault.{Fault}
use Rattle.cir_arrays.specs.Stopped.{IsRefusal}
use Rattle.cir_arrays.specs.Reached.{IsReach}
use Rattle.cir_assign.specs.declared.assigning.Assignment.{Assignment}
use Rattle.cir_assign.specs.declared.assigning.Given.{Given}
use Rattle.cir_assign.specs.declared.assigning.Given.TheVariants as given
use Rattle.cir_assign.specs.Grows.{IsNew, IsWritten}

-- as in the meaning, also where it is only scanned
abbrev pub assignment_in : Context → Where → (shaded : Bool) → ℕ → Accessors Meant
    → Expr Meant → State → Tried VariableAssignment
assignment_in k w shaded n accessors e s =
    next (value_in k w shaded Whole e s) (λ (d, s1). indices_in k w shaded [] accessors s1
    (λ indices rest s2.
    next (reach w shaded Whole (variable_at s2.frame n).dims indices) (λ r.
    needed (same_dims r.left d.dims) w ShapeDiffers (Ok
    record { value = d; reach = r; state = s2 }))))

pub record IsAssignment (n : ℕ) (s : State) (a : Assignment) (x : VariableAssignment)
    : Type 0 where
  pub value : IsNew (variable_at s.frame n) a.value x.value
  pub written : IsWritten a.value x.reach
  pub state : x.state ≡ s
  pub indices : List (Option ℕ)
  pub reach : IsReach (variable_at s.frame n).dims indices a.reach x.reach

abbrev pub Assigns : ℕ → State → Result Assignment Fault → Tried VariableAssignment
    → Type 0
Assigns n s (Ok a) m = (x : VariableAssignment) × (m ≡ Ok x) × IsAssignment n s a x
Assigns n s (Err f) m = IsRefusal f m

-- the nodes of an assignment, as it is written, and what it reads; a new value that is made of the
-- old one reads it at the place that is written
abbrev pub assigned_cost : Context → Where → Bool → Accessors Meant → Given
    → State → Cost
assigned_cost k w dark accessors (given.Plain e) s =
    both (node 1) (both (cost_of k w dark (bare e.now) s) (indices_cost k w dark accessors s))
assigned_cost k w dark accessors (given.Compound op place e) s =
    both (node 1) (both (place_cost k w dark place.now.meant (Named place.now.meant) []
    (place_accessors place.now) s) (cost_of k w dark (bare e.now) s))
assigned_cost k w dark accessors (given.Increment place) s =
    both (node 1) (place_cost k w dark place.now.meant (Named place.now.meant) []
    (place_accessors place.now) s)
assigned_cost k w dark accessors (given.Decrement place) s =
    both (node 1) (place_cost k w dark place.now.meant (Named place.now.meant) []
    (place_accessors place.now) s)

-- a step costs as much as the meaning says
abbrev pub PaysFor : Context → Where → Cost → (cells : ℕ) → CodeCost → ℕ → Type 0
PaysFor k w c cells cost count =
    (d : Cost) × IsCost cost d × ((s : State) → stepped k w d count s ≡ stepped k w c cells s)
