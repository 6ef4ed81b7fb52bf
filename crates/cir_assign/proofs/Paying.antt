-- What an assignment to a variable costs, by what is given.
use Rattle.std.proofs.Common.{◌≡◌, ℕ, true, false, List, [], Ok, refl, ap, sym, subst}
use Rattle.std.proofs.Common.{◌∙◌}
use Rattle.std.specs.Prelude.{if◌then◌else◌, count_by, not, slice_set}
use Rattle.cir_ast.specs.declared.program.Meant.{Meant}
use Rattle.cir_ast.specs.declared.program.Meant.TheVariants.{Other, Variable}
use Rattle.cir_ast.specs.declared.operators.Binary.TheVariants as binary
use Rattle.cir_ast.specs.declared.marked.Accessor.{Accessor as CodeAccessor}
use Rattle.cir_ast.specs.declared.marked.Place.{Place as CodePlace}
use Rattle.cir_ast.specs.Tree.{Expr, Number, Place, Parentheses, Binary, Accessors, Assign}
use Rattle.cir_ast.specs.Tree.{Compound, Increment, Decrement, accessors_of, bare, bare_place}
use Rattle.cir_ast.specs.Tree.{as_accessors, place_accessors}
use Rattle.cir_meaning.specs.Tried.{Where, Tried, next}
use Rattle.cir_meaning.specs.Places.{elements, numbers_from}
use Rattle.cir_meaning.specs.Arrays.{Datum, is_known}
use Rattle.cir_meaning.specs.Operators.{compound_of}
use Rattle.cir_meaning.specs.Reading.{Named}
use Rattle.cir_meaning.specs.Frame.{Frame, State, Context, uncounted, variable_at}
use Rattle.cir_meaning.specs.Source.{Equation}
use Rattle.cir_meaning.specs.Writing.{VariableAssignment}
use Rattle.cir_meaning.specs.Writing as W
use Rattle.cir_meaning.specs.Costs.{Cost, both, node, cost_of, place_cost, unknown_at}
use Rattle.cir_meaning.specs.Steps.{new_cells, old_reads, stepped, variable_cost}
use Rattle.cir_meaning.specs.Simple as S
use Rattle.cir_frame.specs.declared.frame.Frame.{Frame as CodeFrame}
use Rattle.cir_frame.specs.declared.world.World.{World}
use Rattle.cir_arrays.specs.Counted.{counts_of}
use Rattle.cir_frame.specs.Shown.{frame_of, state_of, world_of}
use Rattle.cir_cost.specs.declared.cost.Cost.{Cost as CodeCost}
use Rattle.cir_cost.specs.Adds.{IsCost}
use Rattle.cir_assign.specs.declared.assigning.Given.{Given}
use Rattle.cir_assign.specs.declared.assigning.Given.TheVariants as given
use Rattle.cir_assign.specs.Given.{IsPlaceOf, given_by, written_by}
use Rattle.cir_assign.specs.Assigns.{PaysFor, assigned_cost}
use Rattle.cir_assign.proofs.CostStates.{both_same, cost_same, indices_same, place_same}
use Rattle.cir_assign.proofs.Repeats.{Alike, stepped_alike}
use Rattle.cir_assign.proofs.PaidCosts.{paid, plain_alike, compound_alike, increment_alike}
use Rattle.cir_assign.proofs.PaidCosts.{decrement_alike}

abbrev meant_in : Expr Meant → Meant
meant_in (Place name m accessors) = m
meant_in _ = Other

module _ (k : Context) (w : Where) (n : ℕ) (name : List ℕ) (l : List (CodeAccessor Meant))
    (x : VariableAssignment) (s : State) where
  abbrev place : Meant → Accessors Meant → Cost
  place m accessors = place_cost k w false m (Named m) [] accessors s

  -- at a place that is the written one
  at_place : (q : CodePlace Meant) (written : Assign Meant) (value : Expr Meant → Expr Meant)
      (more : Cost → Cost) → bare_place q ≡ Place name (Variable n) (as_accessors l)
      → Alike k.program (variable_cost k w written n (as_accessors l)
      (value (Place name (Variable n) (as_accessors l))) x s)
      (paid (both (node 1) (more (place (Variable n) (as_accessors l)))) (old_reads n x))
      → Alike k.program (variable_cost k w written n (as_accessors l) (value (bare_place q)) x s)
      (paid (both (node 1) (more (place q.meant (place_accessors q)))) (old_reads n x))
  at_place q written value more h alike =
      let m : q.meant ≡ Variable n = ap meant_in h in
      let accessors : place_accessors q ≡ as_accessors l = ap (accessors_of {N = Meant}) h in
      let cost : place q.meant (place_accessors q) ≡ place (Variable n) (as_accessors l) =
      ap (λ (y : Meant). place y (place_accessors q)) m
      ∙ ap (λ (y : Accessors Meant). place (Variable n) y) accessors in
      subst (λ (c : Cost). Alike k.program (variable_cost k w written n (as_accessors l)
      (value (bare_place q)) x s) (paid (both (node 1) (more c)) (old_reads n x))) (sym cost)
      (subst (λ (b : Expr Meant). Alike k.program (variable_cost k w written n (as_accessors l)
      (value b) x s) (paid (both (node 1) (more (place (Variable n) (as_accessors l))))
      (old_reads n x))) (sym h) alike)

  pub variable_alike : (g : Given) → IsPlaceOf name (Variable n) l g
      → Alike k.program (variable_cost k w (written_by name (Variable n) l g) n (as_accessors l)
      (given_by g) x s) (paid (assigned_cost k w false (as_accessors l) g s) (old_reads n x))
  variable_alike (given.Plain e) h =
      plain_alike k w n name (Variable n) (as_accessors l) x s (bare e.now)
  variable_alike (given.Compound op q e) h =
      at_place q.now (Compound name (Variable n) (as_accessors l) op (bare e.now))
      (λ b. Binary (compound_of op) b (Parentheses (bare e.now)))
      (λ c. both c (cost_of k w false (bare e.now) s)) h
      (compound_alike k w n name (Variable n) (as_accessors l) x s op (bare e.now))
  variable_alike (given.Increment q) h =
      at_place q.now (Increment name (Variable n) (as_accessors l))
      (λ b. Binary binary.Add b (Number 1)) (λ c. c) h
      (increment_alike k w n name (Variable n) (as_accessors l) x s)
  variable_alike (given.Decrement q) h =
      at_place q.now (Decrement name (Variable n) (as_accessors l))
      (λ b. Binary binary.Sub b (Number 1)) (λ c. c) h
      (decrement_alike k w n name (Variable n) (as_accessors l) x s)

pub assigned_same : (k : Context) (w : Where) (accessors : Accessors Meant) (g : Given)
    (s t : State) → uncounted s ≡ uncounted t
    → assigned_cost k w false accessors g s ≡ assigned_cost k w false accessors g t
assigned_same k w accessors (given.Plain e) s t h =
    ap (both (node 1)) (both_same _ _ _ _ (cost_same k w s t h false (bare e.now))
    (indices_same k w s t h false accessors))
assigned_same k w accessors (given.Compound op q e) s t h =
    ap (both (node 1)) (both_same _ _ _ _ (place_same k w s t h false q.now.meant
    (Named q.now.meant) [] (place_accessors q.now)) (cost_same k w s t h false (bare e.now)))
assigned_same k w accessors (given.Increment q) s t h =
    ap (both (node 1)) (place_same k w s t h false q.now.meant (Named q.now.meant) []
    (place_accessors q.now))
assigned_same k w accessors (given.Decrement q) s t h =
    ap (both (node 1)) (place_same k w s t h false q.now.meant (Named q.now.meant) []
    (place_accessors q.now))

pub pays : (k : Context) (w : Where) (c d : Cost) (cost : CodeCost) (cells count : ℕ)
    → IsCost cost d → Alike k.program c d
    → ((t : State) → stepped k w c count t ≡ stepped k w c cells t)
    → PaysFor k w c cells cost count
pays k w c d cost cells count is alike same =
    (d, is, λ t. sym (stepped_alike k w c d count t alike) ∙ same t)

pub sure_reads : (n : ℕ) (x : VariableAssignment) → x.reach.is_sure ≡ true
    → old_reads n x ≡ []
sure_reads n x h = rw h refl

pub sure_cells : (n : ℕ) (x : VariableAssignment) → x.reach.is_sure ≡ true
    → new_cells n x ≡ count_by (λ v. not (is_known v)) x.value.items
sure_cells n x h = rw h refl

pub unsure_reads : (n : ℕ) (x : VariableAssignment) → x.reach.is_sure ≡ false
    → old_reads n x ≡ unknown_at n (variable_at x.state.frame n)
    (numbers_from 0 (elements (variable_at x.state.frame n).dims))
unsure_reads n x h = rw h refl

pub unsure_cells : (n : ℕ) (x : VariableAssignment) → x.reach.is_sure ≡ false
    → new_cells n x ≡ elements (variable_at x.state.frame n).dims
unsure_cells n x h = rw h refl

-- what an assignment does once it is evaluated
set_first : (k : Context) (w : Where) (written : Assign Meant) (n : ℕ)
    (accessors : Accessors Meant) (e : Expr Meant) (s : State) (x : VariableAssignment)
    → W.variable_assignment k w n accessors e s ≡ Ok x
    → S.set_variable k w written n accessors e s ≡ (if W.is_unknown n x
    then stepped k w (variable_cost k w written n accessors e x s) (new_cells n x)
    (W.write_variable n x) else Ok (W.write_variable n x))
set_first k w written n accessors e s x h =
    ap (λ (z : Tried VariableAssignment). next z (λ a. if W.is_unknown n a
    then stepped k w (variable_cost k w written n accessors e a s) (new_cells n a)
    (W.write_variable n a) else Ok (W.write_variable n a))) h

-- where all that is written is known
pub set_known : (k : Context) (w : Where) (written : Assign Meant) (n : ℕ)
    (accessors : Accessors Meant) (e : Expr Meant) (s : State) (x : VariableAssignment)
    → W.variable_assignment k w n accessors e s ≡ Ok x → W.is_unknown n x ≡ false
    → S.set_variable k w written n accessors e s ≡ Ok (W.write_variable n x)
set_known k w written n accessors e s x h u =
    set_first k w written n accessors e s x h ∙ rw u refl

-- and where not, a step
pub set_unknown : (k : Context) (w : Where) (written : Assign Meant) (n : ℕ)
    (accessors : Accessors Meant) (e : Expr Meant) (s after : State) (x : VariableAssignment)
    (d : Cost) (cells : ℕ) → W.variable_assignment k w n accessors e s ≡ Ok x
    → W.is_unknown n x ≡ true
    → ((t : State) → stepped k w d cells t
    ≡ stepped k w (variable_cost k w written n accessors e x s) (new_cells n x) t)
    → W.write_variable n x ≡ after
    → S.set_variable k w written n accessors e s ≡ stepped k w d cells after
set_unknown k w written n accessors e s after x d cells h u pays wrote =
    set_first k w written n accessors e s x h ∙ rw u (sym (pays (W.write_variable n x)))
    ∙ ap (λ (z : State). stepped k w d cells z) wrote

-- a part of a variable is written
pub write_goes : (n : ℕ) (x : VariableAssignment) (f new : CodeFrame) (world : World)
    (qs : List Equation) (d : Datum) → x.state ≡ state_of f world qs → x.value ≡ d
    → frame_of new (counts_of world.added) ≡ record (frame_of f (counts_of world.added)) {
      variables = slice_set (frame_of f (counts_of world.added)).variables n
          (W.written_datum (variable_at (frame_of f (counts_of world.added)) n) x.reach d);
    } → W.write_variable n x ≡ state_of new world qs
write_goes n x f new world qs d state value write =
    ap (λ (z : State). W.put_variable n
    (W.written_datum (variable_at z.frame n) x.reach x.value) z) state
    ∙ ap (λ (y : Datum). W.put_variable n (W.written_datum
    (variable_at (state_of f world qs).frame n) x.reach y) (state_of f world qs)) value
    ∙ ap (λ (z : Frame). with_frame z) (sym write)
  where
    with_frame : Frame → State
    with_frame z = record { frame = z; world = world_of world qs }
