-- What an assignment under a condition that isn't known reads and calls: the indices of a place are
-- in the value again that is made of the old one.
use Rattle.std.proofs.Common.{◌≡◌, ◌∙◌, ℕ, ◌+◌, Bool, true, List, [], ◌∷◌, ◌++◌, ap, sym, refl}
use Rattle.std.proofs.Common.{subst, arith, append-nil, inl, inr}
use Rattle.std.specs.Prelude.{None, flat_map}
use Rattle.cir_ast.specs.declared.program.Spot.{Spot}
use Rattle.cir_ast.specs.declared.program.Meant.{Meant}
use Rattle.cir_ast.specs.declared.program.Meant.TheVariants.{Other}
use Rattle.cir_ast.specs.declared.operators.Binary.TheVariants as binary
use Rattle.cir_ast.specs.declared.marked.Accessor.{Accessor as CodeAccessor}
use Rattle.cir_ast.specs.declared.marked.Place.{Place as CodePlace}
use Rattle.cir_ast.specs.Tree.{Accessors, Assign, Binary, Expr, Left, Number, Parentheses, Place}
use Rattle.cir_ast.specs.Tree.{accessors_of, as_accessors, bare, bare_place, done, index, member}
use Rattle.cir_ast.specs.Tree.{place_accessors}
use Rattle.cir_meaning.specs.Tried.{Where}
use Rattle.cir_meaning.specs.Arrays.{Whole}
use Rattle.cir_meaning.specs.Frame.{State, Context}
use Rattle.cir_meaning.specs.Operators.{compound_of}
use Rattle.cir_meaning.specs.Reading.{Named}
use Rattle.cir_meaning.specs.Texts.{Wanted, indices_of, numbers_wanted, wanted}
use Rattle.cir_meaning.specs.Costs.{Cell, Cost, Made, above, both, cost_of, indices_cost, node}
use Rattle.cir_meaning.specs.Costs.{place_cost}
use Rattle.cir_meaning.specs.Unknown.{assign_fault}
use Rattle.cir_cost.specs.declared.cost.Cost.{Cost as CodeCost}
use Rattle.cir_cost.specs.Adds.{Adds}
use Rattle.cir_assign.specs.declared.assigning.Given.{Given}
use Rattle.cir_assign.specs.declared.assigning.Given.TheVariants as given
use Rattle.cir_assign.specs.declared.assigning.Placed.{Placed}
use Rattle.cir_assign.specs.Assigns.{assigned_cost}
use Rattle.cir_assign.specs.Given.{IsArrow, IsPlaced, IsPlaceOf, written_by}
use Rattle.cir_assign.proofs.Repeats as R
use Rattle.cir_assign.proofs.PaidCosts.{calls_among, compound_cost, place_nodes, reads_among}
use Rattle.cir_execute.specs.Again.{AddsOnce, Again, In, Repeats}
use Rattle.cir_execute.specs.Rests.{assign_inside}
use Rattle.cir_execute.proofs.Agains.{again_behind, again_self, front}

from_other : {A : Type 0} (y : A) (xs : List A) → R.In y xs → In y xs
from_other y [] h = absurd h
from_other y (x ∷ xs) (inl h) = inl h
from_other y (x ∷ xs) (inr h) = inr (from_other y xs h)

among_in : {A : Type 0} (ys xs : List A) → R.Among ys xs → (z : A) → In z ys → In z xs
among_in [] xs h z i = absurd i
among_in {A} (y ∷ ys) xs h z (inl e) =
    let P : A → Type 0 = λ a. In a xs in subst P (sym e) (from_other y xs h.0)
among_in (y ∷ ys) xs h z (inr i) = among_in ys xs h.1 z i

again_among : {A : Type 0} (place value indices : List A) → R.Among indices place
    → Again [] (place ++ value) ((place ++ value) ++ indices)
again_among place value indices h =
    again_behind (place ++ value) indices
    (λ z i. front z place value (among_in indices place h z i))

abbrev meant_in : Expr Meant → Meant
meant_in (Place name m accessors) = m
meant_in _ = Other

module _ (k : Context) (w : Where) (s : State) where
  abbrev reads_of : Wanted → List Cell
  reads_of x = (cost_of k w true x.expr s).reads

  abbrev calls_of : Wanted → List Made
  calls_of x = (cost_of k w true x.expr s).calls

  indices_read : (accessors : Accessors Meant)
      → flat_map reads_of (numbers_wanted (indices_of accessors))
      ≡ (indices_cost k w true accessors s).reads
  indices_read done = refl
  indices_read (index e rest) =
      ap (λ l. (cost_of k w true e s).reads ++ l) (indices_read rest)
  indices_read (member name rest) = indices_read rest

  indices_call : (accessors : Accessors Meant)
      → flat_map calls_of (numbers_wanted (indices_of accessors))
      ≡ (indices_cost k w true accessors s).calls
  indices_call done = refl
  indices_call (index e rest) =
      ap (λ l. (cost_of k w true e s).calls ++ l) (indices_call rest)
  indices_call (member name rest) = indices_call rest

  module _ (m : Meant) (accessors : Accessors Meant) where
    abbrev place : Cost
    place = place_cost k w true m (Named m) [] accessors s

    abbrev indices : Cost
    indices = indices_cost k w true accessors s

    abbrev wants : Expr Meant → List Wanted
    wants value = wanted Whole value ++ numbers_wanted (indices_of accessors)

    reads_at : (value : Expr Meant) (c : Cost)
        → cost_of k w true value s ≡ above (both (above place) c)
        → Again [] (place.reads ++ c.reads) (flat_map reads_of (wants value))
    reads_at value c e =
        let P : List Cell → Type 0 = Again [] (place.reads ++ c.reads) in
        subst P (sym
        (ap (λ (x : Cost). x.reads ++ flat_map reads_of (numbers_wanted (indices_of accessors))) e
        ∙ ap (λ l. (place.reads ++ c.reads) ++ l) (indices_read accessors)))
        (again_among place.reads c.reads indices.reads
        (reads_among k w true s m (Named m) [] accessors))

    calls_at : (value : Expr Meant) (c : Cost)
        → cost_of k w true value s ≡ above (both (above place) c)
        → Again [] (place.calls ++ c.calls) (flat_map calls_of (wants value))
    calls_at value c e =
        let P : List Made → Type 0 = Again [] (place.calls ++ c.calls) in
        subst P (sym
        (ap (λ (x : Cost). x.calls ++ flat_map calls_of (numbers_wanted (indices_of accessors))) e
        ∙ ap (λ l. (place.calls ++ c.calls) ++ l) (indices_call accessors)))
        (again_among place.calls c.calls indices.calls
        (calls_among k w true s m (Named m) [] accessors))

    abbrev standing_at : ℕ → Expr Meant → Cost
    standing_at n value = record {
      nodes = n;
      reads = flat_map reads_of (wants value);
      calls = flat_map calls_of (wants value);
    }

    plain_repeats : (e : Expr Meant)
        → Repeats (both (node 1) (both (cost_of k w true e s) indices))
        (standing_at (1 + (indices.nodes + (cost_of k w true e s).nodes)) e)
    plain_repeats e =
        let c = cost_of k w true e s in
        let P : List Cell → Type 0 = λ l. Again [] (c.reads ++ indices.reads) (c.reads ++ l) in
        let Q : List Made → Type 0 = λ l. Again [] (c.calls ++ indices.calls) (c.calls ++ l) in
        record {
          nodes = omega arith;
          reads = subst P (sym (indices_read accessors)) (again_self [] (c.reads ++ indices.reads));
          calls = subst Q (sym (indices_call accessors)) (again_self [] (c.calls ++ indices.calls));
        }

    compound_repeats : (e value : Expr Meant)
        → cost_of k w true value s ≡ above (both (above place) (above (cost_of k w true e s)))
        → Repeats (both (node 1) (both place (cost_of k w true e s)))
        (standing_at (1 + (indices.nodes + (cost_of k w true e s).nodes)) value)
    compound_repeats e value is = record {
      nodes =
          ap (λ n. 1 + (n + (cost_of k w true e s).nodes))
          (place_nodes k w true s m (Named m) [] accessors);
      reads = reads_at value (above (cost_of k w true e s)) is;
      calls = calls_at value (above (cost_of k w true e s)) is;
    }

    step_repeats : (value : Expr Meant)
        → cost_of k w true value s ≡ above (both (above place) (node 1))
        → Repeats (both (node 1) place) (standing_at (1 + indices.nodes) value)
    step_repeats value is =
        let P : List Cell → Type 0 = λ l. Again [] l (flat_map reads_of (wants value)) in
        let Q : List Made → Type 0 = λ l. Again [] l (flat_map calls_of (wants value)) in
        record {
          nodes = ap (λ n. 1 + n) (place_nodes k w true s m (Named m) [] accessors);
          reads = subst P (append-nil place.reads) (reads_at value (node 1) is);
          calls = subst Q (append-nil place.calls) (calls_at value (node 1) is);
        }

  -- at a place that is the written one
  place_same : (q : CodePlace Meant) (name : List ℕ) (m : Meant) (accessors : Accessors Meant)
      → bare_place q ≡ Place name m accessors
      → place_cost k w true q.meant (Named q.meant) [] (place_accessors q) s
      ≡ place_cost k w true m (Named m) [] accessors s
  place_same q name m accessors h =
      let cost : Meant → Accessors Meant → Cost = λ x l. place_cost k w true x (Named x) [] l s in
      ap (λ x. cost x (place_accessors q)) (ap meant_in h)
      ∙ ap (cost m) (ap (accessors_of {N = Meant}) h)

  assigned_repeats : (name : List ℕ) (m : Meant) (l : List (CodeAccessor Meant)) (g : Given)
      → IsPlaceOf name m l g → Repeats (assigned_cost k w true (as_accessors l) g s)
      (assign_inside k w (written_by name m l g) s)
  assigned_repeats name m l (given.Plain e) h = plain_repeats m (as_accessors l) (bare e.now)
  assigned_repeats name m l (given.Compound op q e) h =
      let accessors = as_accessors l in
      let P : Cost → Type 0 =
      λ c. Repeats (both (node 1) (both c (cost_of k w true (bare e.now) s)))
      (assign_inside k w (written_by name m l (given.Compound op q e)) s) in
      subst P (sym (place_same q.now name m accessors h))
      (compound_repeats m accessors (bare e.now)
      (Binary (compound_of op) (Place name m accessors) (Parentheses (bare e.now)))
      (compound_cost k w true op (Place name m accessors) (bare e.now) s))
  assigned_repeats name m l (given.Increment q) h =
      let P : Cost → Type 0 = λ c. Repeats (both (node 1) c)
      (assign_inside k w (written_by name m l (given.Increment q)) s) in
      subst P (sym (place_same q.now name m (as_accessors l) h))
      (step_repeats m (as_accessors l)
      (Binary binary.Add (Place name m (as_accessors l)) (Number 1)) refl)
  assigned_repeats name m l (given.Decrement q) h =
      let P : Cost → Type 0 = λ c. Repeats (both (node 1) c)
      (assign_inside k w (written_by name m l (given.Decrement q)) s) in
      subst P (sym (place_same q.now name m (as_accessors l) h))
      (step_repeats m (as_accessors l)
      (Binary binary.Sub (Place name m (as_accessors l)) (Number 1)) refl)

  pub assign_stands : (a b : CodeCost) (assign : Assign Meant) (p : Placed) (dark : Bool)
      → IsPlaced assign p → dark ≡ true
      → Adds a b (assigned_cost k w dark (as_accessors p.accessors.now) p.given s)
      → AddsOnce a b (assign_inside k w assign s)
  assign_stands a b assign p dark h is adds =
      let P : Assign Meant → Type 0 = λ x. AddsOnce a b (assign_inside k w x s) in
      subst P (sym h.written) record {
        once = assigned_cost k w true (as_accessors p.accessors.now) p.given s;
        adds = subst (λ d. Adds a b (assigned_cost k w d (as_accessors p.accessors.now) p.given s))
            is adds;
        repeats = assigned_repeats h.name p.meant p.accessors.now p.given h.place;
      }

-- an assignment by an arrow may not stand there
pub arrow_faulty : (spot : Spot) (a : Assign Meant) → IsArrow a → assign_fault spot a ≡ None → ⊥
arrow_faulty spot a h free =
    let none : assign_fault spot (Left h.name h.meant h.accessors h.arrow h.value) ≡ None =
    subst (λ x. assign_fault spot x ≡ None) h.written free in absurd (cc)
