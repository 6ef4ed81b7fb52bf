-- What an assignment is said to cost, and what its parts cost.
use Rattle.std.proofs.Common.{◌≡◌, ℕ, ◌+◌, Bool, List, [], ◌∷◌, ◌++◌, Option}
use Rattle.std.proofs.Common.{false, refl, ap, sym, subst, ◌∙◌, arith}
use Rattle.std.proofs.lemmas.List.{append-nil}
use Rattle.cir_ast.specs.declared.program.Meant.{Meant}
use Rattle.cir_ast.specs.declared.operators.Binary.{Binary as BinaryOperator}
use Rattle.cir_ast.specs.declared.operators.Binary.TheVariants as binary
use Rattle.cir_ast.specs.declared.operators.Compound.{Compound as CompoundOperator}
use Rattle.cir_ast.specs.declared.operators.Compound.TheVariants as compound
use Rattle.cir_ast.specs.Tree.{Expr, Number, Place, Parentheses, Binary, Accessors, done, index}
use Rattle.cir_ast.specs.Tree.{member, Set, Compound, Increment, Decrement}
use Rattle.cir_meaning.specs.Tried.{Where}
use Rattle.cir_meaning.specs.Values.{known_number}
use Rattle.cir_meaning.specs.Operators.{compound_of}
use Rattle.cir_meaning.specs.Frame.{State, Context}
use Rattle.cir_meaning.specs.Reading.{Root, Named, inner_origin}
use Rattle.cir_meaning.specs.Writing.{VariableAssignment}
use Rattle.cir_meaning.specs.Costs.{Cell, Cost, node, both, above, seen, value_of, cost_of}
use Rattle.cir_meaning.specs.Costs.{place_cost, indices_cost, root_of}
use Rattle.cir_meaning.specs.Functions.{function_fault, function_elements}
use Rattle.cir_meaning.specs.Steps.{distinct, variable_cost, old_reads}
use Rattle.cir_assign.proofs.Repeats.{Among, among_front, among_back, among_both, among_self, Alike}
use Rattle.cir_assign.proofs.Repeats.{reads_again, fault_again, elements_again}

-- the indices of a place are among what is read and called at the place
module _ (k : Context) (w : Where) (dark : Bool) (s : State) where
  pub place_nodes : (m : Meant) (root : Root) (is : List (Option ℕ)) (accessors : Accessors Meant)
      → (place_cost k w dark m root is accessors s).nodes
      ≡ (indices_cost k w dark accessors s).nodes
  place_nodes m root is done = refl
  place_nodes m root is (index e rest) =
      ap (λ (n : ℕ). (cost_of k w dark e s).nodes + n)
      (place_nodes m root (is ++ known_number (value_of (seen k w dark e s)) ∷ []) rest)
  place_nodes m root is (member name rest) =
      place_nodes m (root_of (inner_origin w dark root is name s.frame)) [] rest

  pub reads_among : (m : Meant) (root : Root) (is : List (Option ℕ)) (accessors : Accessors Meant)
      → Among (indices_cost k w dark accessors s).reads
      (place_cost k w dark m root is accessors s).reads
  reads_among m root is done = tt
  reads_among m root is (index e rest) =
      let next : List (Option ℕ) = is ++ known_number (value_of (seen k w dark e s)) ∷ [] in
      among_both (cost_of k w dark e s).reads (indices_cost k w dark rest s).reads _
      (among_front (cost_of k w dark e s).reads (cost_of k w dark e s).reads
      (place_cost k w dark m root next rest s).reads (among_self (cost_of k w dark e s).reads))
      (among_back (indices_cost k w dark rest s).reads (cost_of k w dark e s).reads
      (place_cost k w dark m root next rest s).reads (reads_among m root next rest))
  reads_among m root is (member name rest) =
      reads_among m (root_of (inner_origin w dark root is name s.frame)) [] rest

  pub calls_among : (m : Meant) (root : Root) (is : List (Option ℕ)) (accessors : Accessors Meant)
      → Among (indices_cost k w dark accessors s).calls
      (place_cost k w dark m root is accessors s).calls
  calls_among m root is done = tt
  calls_among m root is (index e rest) =
      let next : List (Option ℕ) = is ++ known_number (value_of (seen k w dark e s)) ∷ [] in
      among_both (cost_of k w dark e s).calls (indices_cost k w dark rest s).calls _
      (among_front (cost_of k w dark e s).calls (cost_of k w dark e s).calls
      (place_cost k w dark m root next rest s).calls (among_self (cost_of k w dark e s).calls))
      (among_back (indices_cost k w dark rest s).calls (cost_of k w dark e s).calls
      (place_cost k w dark m root next rest s).calls (calls_among m root next rest))
  calls_among m root is (member name rest) =
      calls_among m (root_of (inner_origin w dark root is name s.frame)) [] rest

pub compound_cost : (k : Context) (w : Where) (dark : Bool) (op : CompoundOperator)
    (a e : Expr Meant) (s : State)
    → cost_of k w dark (Binary (compound_of op) a (Parentheses e)) s
    ≡ above (both (cost_of k w dark a s) (above (cost_of k w dark e s)))
compound_cost k w dark compound.Pow a e s = refl
compound_cost k w dark compound.ShiftLeft a e s = refl
compound_cost k w dark compound.ShiftRight a e s = refl
compound_cost k w dark compound.Add a e s = refl
compound_cost k w dark compound.Sub a e s = refl
compound_cost k w dark compound.Mul a e s = refl
compound_cost k w dark compound.Div a e s = refl
compound_cost k w dark compound.Quotient a e s = refl
compound_cost k w dark compound.Remainder a e s = refl
compound_cost k w dark compound.And a e s = refl
compound_cost k w dark compound.Or a e s = refl
compound_cost k w dark compound.Xor a e s = refl

-- the node of the statement, the assignment, and what is read of the old elements
abbrev pub paid : Cost → List Cell → Cost
paid c olds = record { nodes = 1 + c.nodes; reads = c.reads ++ olds; calls = c.calls }

module _ (k : Context) (w : Where) (n : ℕ) (name : List ℕ) (m : Meant)
    (accessors : Accessors Meant) (a : VariableAssignment) (s : State) where
  pub plain_alike : (e : Expr Meant)
      → Alike k.program (variable_cost k w (Set name m accessors e) n accessors e a s)
      (paid (both (node 1) (both (cost_of k w false e s) (indices_cost k w false accessors s)))
      (old_reads n a))
  plain_alike e = record { nodes = omega arith; reads = refl; fault = refl; elements = refl }

  abbrev place : Cost
  place = place_cost k w false m (Named m) [] accessors s

  abbrev indices : Cost
  indices = indices_cost k w false accessors s

  abbrev at_place : Cost → Cost
  at_place c = record {
    nodes = 1 + (1 + (indices.nodes + c.nodes));
    reads = ((place.reads ++ c.reads) ++ indices.reads) ++ old_reads n a;
    calls = (place.calls ++ c.calls) ++ indices.calls;
  }

  at_place_alike : (c : Cost)
      → Alike k.program (at_place c) (paid (both (node 1) (both place c)) (old_reads n a))
  at_place_alike c = record {
    nodes = omega (arith, place_nodes k w false s m (Named m) [] accessors);
    reads = reads_again (place.reads ++ c.reads) indices.reads (old_reads n a)
        (among_front indices.reads place.reads c.reads
        (reads_among k w false s m (Named m) [] accessors));
    fault = fault_again k.program (place.calls ++ c.calls) indices.calls
        (among_front indices.calls place.calls c.calls
        (calls_among k w false s m (Named m) [] accessors));
    elements = elements_again k.program (place.calls ++ c.calls) indices.calls
        (among_front indices.calls place.calls c.calls
        (calls_among k w false s m (Named m) [] accessors));
  }

  abbrev value_by : Cost → Cost → Cost
  value_by c written = record (both c indices) {
    nodes = 1 + written.nodes;
    reads = (both c indices).reads ++ old_reads n a;
  }

  pub compound_alike : (op : CompoundOperator) (e : Expr Meant)
      → Alike k.program (variable_cost k w (Compound name m accessors op e) n accessors
      (Binary (compound_of op) (Place name m accessors) (Parentheses e)) a s)
      (paid (both (node 1) (both place (cost_of k w false e s))) (old_reads n a))
  compound_alike op e =
      subst (λ (c : Cost). Alike k.program (value_by c
      (node (1 + (indices.nodes + (cost_of k w false e s).nodes))))
      (paid (both (node 1) (both place (cost_of k w false e s))) (old_reads n a)))
      (sym (compound_cost k w false op (Place name m accessors) e s))
      (at_place_alike (cost_of k w false e s))

  step_alike : (b : BinaryOperator) (written : ℕ)
      → (cost_of k w false (Binary b (Place name m accessors) (Number 1)) s
      ≡ above (both (above place) (node 1))) → written ≡ 1 + indices.nodes
      → Alike k.program
      (value_by (cost_of k w false (Binary b (Place name m accessors) (Number 1)) s)
      (node written)) (paid (both (node 1) place) (old_reads n a))
  step_alike b written e size =
      let end : place.reads ++ [] ≡ place.reads = append-nil place.reads in
      let last : place.calls ++ [] ≡ place.calls = append-nil place.calls in
      let all = at_place_alike (node 0) in
      subst (λ (c : Cost). Alike k.program (value_by c (node written))
      (paid (both (node 1) place) (old_reads n a))) (sym e) record {
        nodes = omega (arith, size, all.nodes);
        reads = all.reads ∙ ap (λ (l : List Cell). distinct (l ++ old_reads n a)) end;
        fault = all.fault ∙ ap (function_fault k.program) last;
        elements = all.elements ∙ ap (function_elements k.program) last;
      }

  pub increment_alike : Alike k.program (variable_cost k w (Increment name m accessors) n accessors
      (Binary binary.Add (Place name m accessors) (Number 1)) a s)
      (paid (both (node 1) place) (old_reads n a))
  increment_alike = step_alike binary.Add (1 + indices.nodes) refl refl

  pub decrement_alike : Alike k.program (variable_cost k w (Decrement name m accessors) n accessors
      (Binary binary.Sub (Place name m accessors) (Number 1)) a s)
      (paid (both (node 1) place) (old_reads n a))
  decrement_alike = step_alike binary.Sub (1 + indices.nodes) refl refl
