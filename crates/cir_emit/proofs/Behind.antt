-- What an expression costs where a scan evaluates it is what it costs in the state behind the scan.
use Rattle.std.proofs.Common.{◌≡◌, ℕ, Bool, true, cond, List, [], ◌∷◌, ◌++◌, Option, Some, None, Ok}
use Rattle.std.proofs.Common.{Err, refl, sym, ap, ap₂, subst, ◌∙◌}
use Rattle.std.specs.Prelude.{⊤}
use Rattle.cir_ast.specs.declared.program.Meant.{Meant}
use Rattle.cir_ast.specs.declared.program.Meant.TheVariants as meant
use Rattle.cir_ast.specs.declared.refusal.Kind.TheVariants.{ReadBeforeWrite}
use Rattle.cir_ast.specs.Tree.{Expr, Number, Place, Call, Anonymous, Parentheses, Array, Unary}
use Rattle.cir_ast.specs.Tree.{Binary, Choice, Exprs, none, more, Accessors, done, index, member}
use Rattle.cir_meaning.specs.Tried.{Where, Tried, next, found}
use Rattle.cir_meaning.specs.Arrays.{Datum, Whole}
use Rattle.cir_meaning.specs.Values.{known_number, side_of}
use Rattle.cir_meaning.specs.Operators.{operator_of, left_tells, shading, first_shading}
use Rattle.cir_meaning.specs.Operators.{second_shading}
use Rattle.cir_meaning.specs.Frame.{Signals, Part, ComponentEntry, State, Context, entry_at}
use Rattle.cir_meaning.specs.Frame.{variable_at, uncounted}
use Rattle.cir_meaning.specs.Reading.{Origin, Stored, Wired, Root, Named, Found, origin_of}
use Rattle.cir_meaning.specs.Reading.{inner_origin}
use Rattle.cir_meaning.specs.Evaluate.{value_in}
use Rattle.cir_meaning.specs.Costs.{Cost, node, both, above, datum_of, seen, value_of, is_settled}
use Rattle.cir_meaning.specs.Costs.{shape_of, origin_reads, root_of, call_made, operand, nodes_of}
use Rattle.cir_meaning.specs.Costs.{cost_of, all_cost, shapes_in, place_cost}
use Rattle.cir_meaning.specs.Scoped.{Scope, IsSeen, AreCallsMeant, AreAllMeant, AreIndicesMeant}
use Rattle.cir_meaning.proofs.Fading.{Rest}
use Rattle.cir_meaning.proofs.ScanStarts.{rest_between}
use Rattle.cir_meaning.proofs.Twins.{Twin, twin_weaker}
use Rattle.cir_meaning.proofs.Varied.{varied, Varied, value_varied}
use Rattle.cir_emit.proofs.Seen.{moved}

-- two evaluations, each of which has the other's value
same_datum : (m r : Tried (Datum × State)) → Twin (λ x y. y.0 ≡ x.0) m r
    → Twin (λ x y. y.0 ≡ x.0) r m → datum_of m ≡ datum_of r
unfolding Twin
same_datum (Ok a) (Ok b) h g = sym (ap (λ d. Some d) h)
same_datum (Ok a) (Err e) h g = absurd h
same_datum (Err e) (Ok b) h g = absurd g
same_datum (Err e) (Err f) h g = refl

half : (k : Context) (w : Where) (dark : Bool) (scope : Scope) (s t : State) (e : Expr Meant)
    → Rest s t → AreCallsMeant scope e
    → ((n : ℕ) → scope.seen n ≡ true → variable_at s.frame n ≡ variable_at t.frame n)
    → Twin (λ x y. y.0 ≡ x.0) (value_in k w dark Whole e (uncounted t))
    (value_in k w dark Whole e (uncounted s))
half k w dark scope s t e rest is same =
    subst (λ u. Twin (λ x y. y.0 ≡ x.0) (value_in k w dark Whole e (uncounted t))
    (value_in k w dark Whole e u)) (moved scope s t rest)
    (twin_weaker (Varied scope s.frame.variables) (λ x y. y.0 ≡ x.0)
    (value_in k w dark Whole e (uncounted t))
    (value_in k w dark Whole e (varied scope s.frame.variables (uncounted t)))
    (λ x y p. p.0)
    (value_varied scope s.frame.variables k w dark Whole e (uncounted t) is same))

operand_same : (o : Option Bool) (f g : Bool → Cost) (n : ℕ) → ((dark : Bool) → f dark ≡ g dark)
    → operand o f n ≡ operand o g n
operand_same None f g n h = refl
operand_same (Some dark) f g n h = h dark

module _ (k : Context) (w : Where) (scope : Scope) (s t : State) (rest : Rest s t)
    (same : (n : ℕ) → scope.seen n ≡ true → variable_at t.frame n ≡ variable_at s.frame n) where
  seen_same : (dark : Bool) (e : Expr Meant) → AreCallsMeant scope e
      → seen k w dark e t ≡ seen k w dark e s
  seen_same dark e is =
      same_datum (value_in k w dark Whole e (uncounted t))
      (value_in k w dark Whole e (uncounted s))
      (half k w dark scope s t e rest is (λ n h. sym (same n h)))
      (half k w dark scope t s e (rest_between s t s rest (refl, refl, refl, refl)) is same)

  -- what stands in front of indices is in scope
  abbrev RootSeen : Root → Type 0
  RootSeen (Named m) = IsSeen scope m
  RootSeen (Found source) = ⊤

  origin_same : (root : Root) → RootSeen root
      → origin_of w root t.frame ≡ origin_of w root s.frame
  origin_same (Found source) h = refl
  origin_same (Named (meant.Variable n)) h = ap (λ d. Ok (Stored d)) (same n h)
  origin_same (Named (meant.Signal direction n)) h =
      ap (λ (xs : Signals). next (found w ReadBeforeWrite (entry_at xs n)) (λ e. Ok (Wired true e)))
      rest.0
  origin_same (Named meant.Other) h = refl
  origin_same (Named (meant.Component n)) h = refl
  origin_same (Named (meant.Template n)) h = refl
  origin_same (Named (meant.Function n)) h = refl

  inner_same : (dark : Bool) (root : Root) (os : List (Option ℕ)) (name : List ℕ)
      → inner_origin w dark root os name t.frame ≡ inner_origin w dark root os name s.frame
  inner_same dark (Named (meant.Component n)) os name =
      ap (λ (cs : List (Option ComponentEntry)). inner_origin w dark (Named (meant.Component n)) os
      name (record (t.frame) { components = cs })) rest.1
      ∙ ap (λ (ps : List Part). inner_origin w dark (Named (meant.Component n)) os
      name (record (t.frame) { components = s.frame.components; parts = ps })) rest.2
  inner_same dark (Found source) os name = refl
  inner_same dark (Named (meant.Variable n)) os name = refl
  inner_same dark (Named (meant.Signal direction n)) os name = refl
  inner_same dark (Named meant.Other) os name = refl
  inner_same dark (Named (meant.Template n)) os name = refl
  inner_same dark (Named (meant.Function n)) os name = refl

  found_seen : (o : Tried Origin) → RootSeen (root_of o)
  found_seen (Ok source) = tt
  found_seen (Err e) = tt

  mutual
    pub cost_same : (dark : Bool) (e : Expr Meant) → AreCallsMeant scope e
        → cost_of k w dark e t ≡ cost_of k w dark e s
    cost_same dark (Number n) is = refl
    cost_same dark (Place name m accessors) is =
        ap above (place_same dark m (Named m) [] accessors is.0 is.1)
    cost_same dark (Call parallel name m arguments) is =
        let one : (Option Datum → Cost → List (List ℕ) → Cost) = λ o c shapes.
        cond (is_settled o) (node 1) (above (both c record {
          nodes = 0;
          reads = [];
          calls = call_made k w dark m shapes;
        })) in
        ap (λ o. one o (all_cost k w dark arguments t) (shapes_in k w dark arguments t))
        (seen_same dark (Call parallel name m arguments) is) ∙
        ap₂ (λ c shapes. one (seen k w dark (Call parallel name m arguments) s) c shapes)
        (all_same dark arguments is.1) (shapes_same dark arguments is.1)
    cost_same dark (Anonymous parallel name m arguments inputs) is = refl
    cost_same dark (Parentheses e) is = ap above (cost_same dark e is)
    cost_same dark (Array elements) is = ap above (all_same dark elements is)
    cost_same dark (Unary op a) is = ap above (cost_same dark a is)
    cost_same dark (Binary op a b) is =
        ap above (ap₂ both (cost_same dark a is.0)
        (ap (λ v. operand (shading (left_tells (operator_of op) (value_of v)) dark)
        (λ deep. cost_of k w deep b t) (nodes_of b)) (seen_same dark a is.0) ∙
        operand_same (shading (left_tells (operator_of op) (value_of (seen k w dark a s))) dark)
        (λ deep. cost_of k w deep b t) (λ deep. cost_of k w deep b s) (nodes_of b)
        (λ deep. cost_same deep b is.1)))
    cost_same dark (Choice c a b) is =
        let side : (Option Datum → Cost) = λ v. both
        (operand (first_shading (side_of (value_of v)) dark) (λ deep. cost_of k w deep a t)
        (nodes_of a))
        (operand (second_shading (side_of (value_of v)) dark) (λ deep. cost_of k w deep b t)
        (nodes_of b)) in
        ap above (ap₂ both (cost_same dark c is.0)
        (ap side (seen_same dark c is.0) ∙
        ap₂ both
        (operand_same (first_shading (side_of (value_of (seen k w dark c s))) dark)
        (λ deep. cost_of k w deep a t) (λ deep. cost_of k w deep a s) (nodes_of a)
        (λ deep. cost_same deep a is.1))
        (operand_same (second_shading (side_of (value_of (seen k w dark c s))) dark)
        (λ deep. cost_of k w deep b t) (λ deep. cost_of k w deep b s) (nodes_of b)
        (λ deep. cost_same deep b is.2))))

    all_same : (dark : Bool) (es : Exprs Meant) → AreAllMeant scope es
        → all_cost k w dark es t ≡ all_cost k w dark es s
    all_same dark none is = refl
    all_same dark (more e es) is = ap₂ both (cost_same dark e is.0) (all_same dark es is.1)

    shapes_same : (dark : Bool) (es : Exprs Meant) → AreAllMeant scope es
        → shapes_in k w dark es t ≡ shapes_in k w dark es s
    shapes_same dark none is = refl
    shapes_same dark (more e es) is =
        ap₂ (λ v hs. shape_of v ∷ hs) (seen_same dark e is.0) (shapes_same dark es is.1)

    place_same : (dark : Bool) (m : Meant) (root : Root) (os : List (Option ℕ))
        (accessors : Accessors Meant) → RootSeen root → AreIndicesMeant scope accessors
        → place_cost k w dark m root os accessors t ≡ place_cost k w dark m root os accessors s
    place_same dark m root os done h is =
        ap (λ o. record { nodes = 0; reads = origin_reads w m os o; calls = [] })
        (origin_same root h)
    place_same dark m root os (index e rest_of) h is =
        ap₂ both (cost_same dark e is.0)
        (ap (λ v. place_cost k w dark m root (os ++ known_number (value_of v) ∷ []) rest_of t)
        (seen_same dark e is.0) ∙
        place_same dark m root (os ++ known_number (value_of (seen k w dark e s)) ∷ []) rest_of h
        is.1)
    place_same dark m root os (member name rest_of) h is =
        ap (λ o. place_cost k w dark m (root_of o) [] rest_of t) (inner_same dark root os name) ∙
        place_same dark m (root_of (inner_origin w dark root os name s.frame)) [] rest_of
        (found_seen (inner_origin w dark root os name s.frame)) is
