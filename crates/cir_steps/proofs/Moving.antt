-- What the compile meaning does without touching signals, their sizes and components, with what it
-- counts.
use Rattle.std.proofs.Common.{◌≡◌, ℕ, ◌+◌, ◌≤◌, Bool, true, false, cond, List, [], length, Option}
use Rattle.std.proofs.Common.{Ok, refl, arith}
use Rattle.std.proofs.lemmas.Slice.Eq.{bytes_eq-Decides}
use Rattle.cir_ast.specs.declared.program.Spot.{Spot}
use Rattle.cir_ast.specs.declared.program.Meant.{Meant}
use Rattle.cir_ast.specs.declared.refusal.Kind.TheVariants.{ShapeDiffers}
use Rattle.cir_ast.specs.Tree.{Expr, Exprs, Accessors, Component, LogArgument, Statement}
use Rattle.cir_meaning.specs.Tried.{Where, Tried}
use Rattle.cir_meaning.specs.Arrays.{Want, Whole, reach, same_dims}
use Rattle.cir_meaning.specs.Values.{Value}
use Rattle.cir_meaning.specs.Frame.{State, Context, counted, variable_at}
use Rattle.cir_meaning.specs.Evaluate.{value_in, dims_in}
use Rattle.cir_meaning.specs.Writing.{VariableAssignment, variable_assignment, write_variable}
use Rattle.cir_meaning.specs.Costs.{Cost}
use Rattle.cir_meaning.specs.Steps.{stepped, new_cells, logged_cells, undecided_cells}
use Rattle.cir_meaning.specs.Simple.{dropped, component_declaration, equal}
use Rattle.cir_meaning.specs.Unknown.{Fault, outer_assigned}
use Rattle.cir_meaning.specs.Scan.{undecided}
use Rattle.cir_meaning.specs.Statement.{condition, assert_value, log_values}
use Rattle.cir_meaning.proofs.Good.{OnGood, good_ok, good_next, good_needed_as, good_weaker}
use Rattle.cir_meaning.proofs.Good.{good_is}
use Rattle.cir_meaning.proofs.Pairs.{good_both}
use Rattle.cir_meaning.proofs.ValueKeepings.{assignment_kept, indices_any}
use Rattle.cir_steps.specs.Making.{new_places, wanted_of, count_of}
use Rattle.cir_steps.proofs.Still.{Still, still_itself, counted_still, condition_still}
use Rattle.cir_steps.proofs.Still.{dropped_still, dims_still, component_still, log_still}
use Rattle.cir_steps.proofs.Still.{equal_still, assert_still, value_still, undecided_still}
use Rattle.cir_steps.proofs.Still.{assignment_still, behind_still}
use Rattle.cir_steps.proofs.Sized.{IsSized, IsReach, reach_is, value_sized}
use Rattle.cir_steps.proofs.Rising.{AreSized, Grows, Rises, rises_itself, grows_fewer, Calls}
use Rattle.cir_steps.proofs.Rising.{counted_grows, condition_grows, dropped_grows, dims_grow}
use Rattle.cir_steps.proofs.Rising.{component_grows, log_grows, equal_grows, Asserted, assert_grows}
use Rattle.cir_steps.proofs.Rising.{value_grows, undecided_grows, write_grows, step_grows}
use Rattle.cir_steps.proofs.NewCells.{new_few, wanted_few}

abbrev pub Moves : State → State → Type 0
Moves f s = Still f s × Rises f s

pub moves_itself : (s : State) → Moves s s
moves_itself s = (still_itself s, rises_itself s)

-- with a step that has so many new cells
abbrev pub Steps : (cells : ℕ) → State → State → Type 0
Steps cells f s = Still f s × (AreSized f → Grows cells 1 f s)

pub with_fewer : (cells steps : ℕ) (f s : State) → Still f s → Grows cells steps f s → Moves f s
with_fewer cells steps f s h g =
    (h, grows_fewer cells steps 0 0 f s (omega arith) (omega arith) g)

pub steps_of : (cells : ℕ) (f s : State) → Still f s → Grows (0 + cells) (0 + 1) f s
    → Steps cells f s
steps_of cells f s h g =
    (h, λ e. grows_fewer (0 + cells) (0 + 1) cells 1 f s (omega arith) (omega arith) g)

module _ (f : State) where
  pub counted_moves : (w : Where) → OnGood (Moves f) (counted w f)
  counted_moves w =
      good_both (Still f) (Rises f) (counted w f) (counted_still f w f (still_itself f))
      (counted_grows f 0 0 w f (rises_itself f))

  module _ (k : Context) (calls : Calls k.call) where
    pub value_moves : (w : Where) (want : Want) (e : Expr Meant)
        → OnGood (λ x. Moves f x.1) (value_in k w false want e f)
    value_moves w want e =
        good_both (λ x. Still f x.1) (λ x. Rises f x.1) (value_in k w false want e f)
        (value_still f k calls.keeps w want e f (still_itself f))
        (value_grows f 0 0 k calls false w want e f (rises_itself f))

    pub dims_moves : (w : Where) (es : Exprs Meant)
        → OnGood (λ x. Moves f x.1) (dims_in k w false es f)
    dims_moves w es =
        good_both (λ x. Still f x.1) (λ x. Rises f x.1) (dims_in k w false es f)
        (dims_still f k calls.keeps w false es f (still_itself f))
        (dims_grow f 0 0 k calls w false es f (rises_itself f))

    pub condition_moves : (spot : Spot) (c : Expr Meant)
        → OnGood (λ x. Moves f x.1) (condition k spot c f)
    condition_moves spot c =
        good_both (λ x. Still f x.1) (λ x. Rises f x.1) (condition k spot c f)
        (condition_still f k calls.keeps spot c f (still_itself f))
        (condition_grows f 0 0 k calls spot c f (rises_itself f))

    pub dropped_moves : (w : Where) (e : Expr Meant) → OnGood (Moves f) (dropped k w e f)
    dropped_moves w e =
        good_both (Still f) (Rises f) (dropped k w e f)
        (dropped_still f k calls.keeps w e f (still_itself f))
        (dropped_grows f 0 0 k calls w e f (rises_itself f))

    pub component_moves : (w : Where) (c : Component Meant)
        → OnGood (Moves f) (component_declaration k w c f)
    component_moves w c =
        good_both (Still f) (Rises f) (component_declaration k w c f)
        (component_still f k calls.keeps w c f (still_itself f))
        (component_grows f 0 0 k calls w c f (rises_itself f))

    -- what makes a step
    stepping : (cells : ℕ) (m : Tried State) → OnGood (Still f) m
        → OnGood (Grows (0 + cells) (0 + 1) f) m → OnGood (Steps cells f) m
    stepping cells m h g =
        good_weaker (λ s. Still f s × Grows (0 + cells) (0 + 1) f s) (Steps cells f) m
        (good_both (Still f) (Grows (0 + cells) (0 + 1) f) m h g)
        (λ s p. steps_of cells f s p.0 p.1)

    pub log_steps : (w : Where) (arguments : List (LogArgument Meant))
        → OnGood (Steps (logged_cells arguments) f) (log_values k w arguments f)
    log_steps w arguments =
        stepping (logged_cells arguments) (log_values k w arguments f)
        (log_still f k calls.keeps w arguments f (still_itself f))
        (log_grows f 0 0 k calls w arguments f (rises_itself f))

    pub equal_steps : (w : Where) (a b : Expr Meant) → OnGood (Steps 0 f) (equal k w a b f)
    equal_steps w a b =
        stepping 0 (equal k w a b f) (equal_still f k calls.keeps w a b f (still_itself f))
        (equal_grows f 0 0 k calls w a b f (rises_itself f))

    pub undecided_steps : (spot : Spot) (fault : Option Fault) (a : Statement Spot Meant)
        → OnGood (Steps (count_of (wanted_of (outer_assigned a) f)) f)
        (undecided k spot fault a f)
    undecided_steps spot fault a =
        good_weaker (Steps (undecided_cells a f) f)
        (Steps (count_of (wanted_of (outer_assigned a) f)) f) (undecided k spot fault a f)
        (stepping (undecided_cells a f) (undecided k spot fault a f)
        (undecided_still f k calls.keeps spot fault a f (still_itself f))
        (undecided_grows f 0 0 k calls spot fault a f (rises_itself f)))
        (λ s h. (
          h.0,
          λ e. grows_fewer (undecided_cells a f) 1 (count_of (wanted_of (outer_assigned a) f)) 1 f s
              (wanted_few (outer_assigned a) f e) (omega arith) (h.1 e),
        ))

    pub assert_moves : (w : Where) (e : Expr Meant) (v : Value) (s : State) → Moves f s
        → OnGood (λ t. Still f t × Asserted f 0 0 k calls v t) (assert_value k w e f v s)
    assert_moves w e v s h =
        good_both (Still f) (Asserted f 0 0 k calls v) (assert_value k w e f v s)
        (assert_still f k calls.keeps w e f v s h.0) (assert_grows f 0 0 k calls w e f v s h.1)

    -- an assignment to a variable is a step where something that it writes isn't known
    abbrev IsAssigned : ℕ → VariableAssignment → Type 0
    IsAssigned n a =
        IsReach (variable_at a.state.frame n).dims a.reach × IsSized a.value
        × (a.reach.left ≡ a.value.dims)

    assigned_is : (w : Where) (n : ℕ) (accessors : Accessors Meant) (e : Expr Meant)
        → OnGood (IsAssigned n) (variable_assignment k w n accessors e f)
    assigned_is w n accessors e =
        good_next (λ x. IsSized x.0) (IsAssigned n) (value_in k w false Whole e f) _
        (value_sized k calls.sized w false Whole e f) (λ x sized.
        indices_any (IsAssigned n) k w false [] accessors x.1 _ (λ indices rest s2.
        good_next (IsReach (variable_at s2.frame n).dims) (IsAssigned n)
        (reach w false Whole (variable_at s2.frame n).dims indices) _
        (reach_is w false Whole (variable_at s2.frame n).dims indices) (λ r is.
        good_needed_as (IsAssigned n) (same_dims r.left x.0.dims) w ShapeDiffers _ (λ same.
        good_ok (IsAssigned n) record { value = x.0; reach = r; state = s2 }
        (is, sized, (bytes_eq-Decides r.left x.0.dims).0 same)))))

    abbrev pub Written : ℕ → VariableAssignment → Bool → State → Type 0
    Written n a b s = Moves f s × (b ≡ true → Steps (length (new_places n a)) f s)

    pub written_moves : (w : Where) (cost : Cost) (n : ℕ) (accessors : Accessors Meant)
        (e : Expr Meant) (a : VariableAssignment) (b : Bool)
        → variable_assignment k w n accessors e f ≡ Ok a
        → OnGood (Written n a b) (cond b (stepped k w cost (new_cells n a) (write_variable n a))
        (Ok (write_variable n a)))
    written_moves w cost n accessors e a b is =
        at b (behind_still f k calls.keeps w cost (new_cells n a) n a b
        (good_is (λ a. Still f a.state) _ a is
        (assignment_still f k calls.keeps w n accessors e f (still_itself f))))
      where
        behind : Rises f a.state
        behind =
            good_is (λ a. Rises f a.state) _ a is
            (assignment_kept k (Rises f) (value_grows f 0 0 k calls false) w n accessors e f
            (rises_itself f))

        its : IsAssigned n a
        its = good_is (IsAssigned n) _ a is (assigned_is w n accessors e)

        with_step : (s : State) → Still f s → Grows (0 + new_cells n a) (0 + 1) f s
            → Written n a true s
        with_step s h g = (
          with_fewer (0 + new_cells n a) (0 + 1) f s h g,
          (λ t. (
            h,
            (λ sized.
                let few : length (new_places n a) ≤ new_cells n a =
                new_few n a its.0 its.1 its.2 (behind.2 sized) in
                grows_fewer (0 + new_cells n a) (0 + 1) (length (new_places n a)) 1 f s
                (omega arith)
                (omega arith) g),
          )),
        )

        at : (b : Bool) → OnGood (Still f)
            (cond b (stepped k w cost (new_cells n a) (write_variable n a))
            (Ok (write_variable n a)))
            → OnGood (Written n a b)
            (cond b (stepped k w cost (new_cells n a) (write_variable n a))
            (Ok (write_variable n a)))
        at true h =
            good_weaker (λ s. Still f s × Grows (0 + new_cells n a) (0 + 1) f s)
            (Written n a true) (stepped k w cost (new_cells n a) (write_variable n a))
            (good_both (Still f) (Grows (0 + new_cells n a) (0 + 1) f)
            (stepped k w cost (new_cells n a) (write_variable n a)) h
            (step_grows f 0 0 k w cost (new_cells n a) (write_variable n a)
            (write_grows f 0 0 n a behind)))
            (λ s p. with_step s p.0 p.1)
        at false h =
            good_ok (Written n a false) (write_variable n a) (
              (
                good_is (Still f) (Ok (write_variable n a)) (write_variable n a) refl h,
                write_grows f 0 0 n a behind,
              ),
              λ t. (let no : false ≡ true = t in cc),
            )
