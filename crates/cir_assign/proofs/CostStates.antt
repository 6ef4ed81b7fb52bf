-- A cost is the same in each state that differs only in what is counted.
use Rattle.std.proofs.Common.{◌≡◌, ℕ, Bool, List, [], ◌∷◌, ◌++◌, Option, Some}
use Rattle.std.proofs.Common.{None, refl, ap, ◌∙◌, sym}
use Rattle.std.specs.Prelude.{if◌then◌else◌}
use Rattle.cir_ast.specs.declared.program.Meant.{Meant}
use Rattle.cir_ast.specs.declared.program.Meant.TheVariants as meant
use Rattle.cir_ast.specs.Tree.{Expr, Number, Place, Call, Anonymous, Parentheses, Array, Unary}
use Rattle.cir_ast.specs.Tree.{Binary, Choice, Exprs, none, more, Accessors, done, index, member}
use Rattle.cir_meaning.specs.Tried.{Where, Tried}
use Rattle.cir_meaning.specs.Limits.{Counts}
use Rattle.cir_meaning.specs.Arrays.{Datum, Whole}
use Rattle.cir_meaning.specs.Values.{known_number, side_of}
use Rattle.cir_meaning.specs.Operators.{operator_of, left_tells, shading, first_shading}
use Rattle.cir_meaning.specs.Operators.{second_shading}
use Rattle.cir_meaning.specs.Frame.{Frame, State, Context, uncounted}
use Rattle.cir_meaning.specs.Reading.{Origin, Root, Named, Found, origin_of, inner_origin}
use Rattle.cir_meaning.specs.Evaluate.{value_in}
use Rattle.cir_meaning.specs.Costs.{Cost, both, above, node, datum_of, seen, value_of, is_settled}
use Rattle.cir_meaning.specs.Costs.{shape_of, nodes_of, origin_reads, root_of, call_made, operand}
use Rattle.cir_meaning.specs.Costs.{cost_of, all_cost, shapes_in, place_cost, indices_cost}

origin_counted : (w : Where) (root : Root) (f : Frame) (c : Counts)
    → origin_of w root (record f { added = c }) ≡ origin_of w root f
origin_counted w (Found source) f c = refl
origin_counted w (Named (meant.Variable n)) f c = refl
origin_counted w (Named (meant.Signal direction n)) f c = refl
origin_counted w (Named meant.Other) f c = refl
origin_counted w (Named (meant.Component n)) f c = refl
origin_counted w (Named (meant.Template n)) f c = refl
origin_counted w (Named (meant.Function n)) f c = refl

inner_counted : (w : Where) (dark : Bool) (root : Root) (indices : List (Option ℕ))
    (name : List ℕ) (f : Frame) (c : Counts)
    → inner_origin w dark root indices name (record f { added = c })
    ≡ inner_origin w dark root indices name f
inner_counted w dark (Found source) indices name f c = refl
inner_counted w dark (Named (meant.Variable n)) indices name f c = refl
inner_counted w dark (Named (meant.Signal direction n)) indices name f c = refl
inner_counted w dark (Named meant.Other) indices name f c = refl
inner_counted w dark (Named (meant.Component n)) indices name f c = refl
inner_counted w dark (Named (meant.Template n)) indices name f c = refl
inner_counted w dark (Named (meant.Function n)) indices name f c = refl

abbrev call_by : Context → Where → Bool → Meant → Option Datum → Cost
    → List (List ℕ) → Cost
call_by k w dark m o c shapes =
    if is_settled o then node 1 else above (both c
    record { nodes = 0; reads = []; calls = call_made k w dark m shapes })

operand_same : (o : Option Bool) (f g : Bool → Cost) (n : ℕ)
    → ((dark : Bool) → f dark ≡ g dark) → operand o f n ≡ operand o g n
operand_same None f g n h = refl
operand_same (Some dark) f g n h = h dark

pub both_same : (a b c d : Cost) → a ≡ b → c ≡ d → both a c ≡ both b d
both_same a b c d p q = ap (λ (x : Cost). both x c) p ∙ ap (λ (x : Cost). both b x) q

module _ (k : Context) (w : Where) (s t : State) (same : uncounted s ≡ uncounted t) where
  seen_same : (dark : Bool) (e : Expr Meant) → seen k w dark e s ≡ seen k w dark e t
  seen_same dark e = ap (λ (x : State). datum_of (value_in k w dark Whole e x)) same

  origin_same : (root : Root) → origin_of w root s.frame ≡ origin_of w root t.frame
  origin_same root =
      sym (origin_counted w root s.frame _)
      ∙ ap (λ (x : State). origin_of w root x.frame) same
      ∙ origin_counted w root t.frame _

  inner_same : (dark : Bool) (root : Root) (indices : List (Option ℕ)) (name : List ℕ)
      → inner_origin w dark root indices name s.frame
      ≡ inner_origin w dark root indices name t.frame
  inner_same dark root indices name =
      sym (inner_counted w dark root indices name s.frame _)
      ∙ ap (λ (x : State). inner_origin w dark root indices name x.frame) same
      ∙ inner_counted w dark root indices name t.frame _

  mutual
    pub cost_same : (dark : Bool) (e : Expr Meant) → cost_of k w dark e s ≡ cost_of k w dark e t
    cost_same dark (Number n) = refl
    cost_same dark (Place name m accessors) =
        ap above (place_same dark m (Named m) [] accessors)
    cost_same dark (Call parallel name m arguments) =
        ap (λ (o : Option Datum). call_by k w dark m o (all_cost k w dark arguments s)
        (shapes_in k w dark arguments s)) (seen_same dark (Call parallel name m arguments))
        ∙ ap (λ (c : Cost). call_by k w dark m
        (seen k w dark (Call parallel name m arguments) t) c
        (shapes_in k w dark arguments s)) (all_same dark arguments)
        ∙ ap (λ (x : List (List ℕ)). call_by k w dark m
        (seen k w dark (Call parallel name m arguments) t) (all_cost k w dark arguments t) x)
        (shapes_same dark arguments)
    cost_same dark (Anonymous parallel name m arguments inputs) = refl
    cost_same dark (Parentheses e) = ap above (cost_same dark e)
    cost_same dark (Array elements) = ap above (all_same dark elements)
    cost_same dark (Unary op a) = ap above (cost_same dark a)
    cost_same dark (Binary op a b) =
        ap above (both_same _ _ _ _ (cost_same dark a)
        (ap (λ (o : Option Datum). operand
        (shading (left_tells (operator_of op) (value_of o)) dark)
        (λ dark. cost_of k w dark b s) (nodes_of b)) (seen_same dark a)
        ∙ operand_same (shading (left_tells (operator_of op) (value_of (seen k w dark a t))) dark)
        (λ dark. cost_of k w dark b s) (λ dark. cost_of k w dark b t) (nodes_of b)
        (λ d. cost_same d b)))
    cost_same dark (Choice c a b) =
        ap above (both_same _ _ _ _ (cost_same dark c) (both_same _ _ _ _
        (ap (λ (o : Option Datum). operand (first_shading (side_of (value_of o)) dark)
        (λ dark. cost_of k w dark a s) (nodes_of a)) (seen_same dark c)
        ∙ operand_same (first_shading (side_of (value_of (seen k w dark c t))) dark)
        (λ dark. cost_of k w dark a s) (λ dark. cost_of k w dark a t) (nodes_of a)
        (λ d. cost_same d a))
        (ap (λ (o : Option Datum). operand (second_shading (side_of (value_of o)) dark)
        (λ dark. cost_of k w dark b s) (nodes_of b)) (seen_same dark c)
        ∙ operand_same (second_shading (side_of (value_of (seen k w dark c t))) dark)
        (λ dark. cost_of k w dark b s) (λ dark. cost_of k w dark b t) (nodes_of b)
        (λ d. cost_same d b))))

    pub all_same : (dark : Bool) (es : Exprs Meant)
        → all_cost k w dark es s ≡ all_cost k w dark es t
    all_same dark none = refl
    all_same dark (more e es) = both_same _ _ _ _ (cost_same dark e) (all_same dark es)

    shapes_same : (dark : Bool) (es : Exprs Meant)
        → shapes_in k w dark es s ≡ shapes_in k w dark es t
    shapes_same dark none = refl
    shapes_same dark (more e es) =
        ap (λ (o : Option Datum). shape_of o ∷ shapes_in k w dark es s) (seen_same dark e)
        ∙ ap (λ (x : List (List ℕ)). shape_of (seen k w dark e t) ∷ x) (shapes_same dark es)

    pub place_same : (dark : Bool) (m : Meant) (root : Root) (indices : List (Option ℕ))
        (accessors : Accessors Meant) → place_cost k w dark m root indices accessors s
        ≡ place_cost k w dark m root indices accessors t
    place_same dark m root indices done =
        ap (λ (o : Tried Origin). record {
          nodes = 0;
          reads = origin_reads w m indices o;
          calls = [];
        }) (origin_same root)
    place_same dark m root indices (index e rest) =
        both_same _ _ _ _ (cost_same dark e)
        (ap (λ (o : Option Datum). place_cost k w dark m root
        (indices ++ known_number (value_of o) ∷ []) rest s) (seen_same dark e)
        ∙ place_same dark m root
        (indices ++ known_number (value_of (seen k w dark e t)) ∷ []) rest)
    place_same dark m root indices (member name rest) =
        ap (λ (o : Tried Origin). place_cost k w dark m (root_of o) [] rest s)
        (inner_same dark root indices name)
        ∙ place_same dark m (root_of (inner_origin w dark root indices name t.frame)) [] rest

  pub indices_same : (dark : Bool) (accessors : Accessors Meant)
      → indices_cost k w dark accessors s ≡ indices_cost k w dark accessors t
  indices_same dark done = refl
  indices_same dark (index e rest) =
      both_same _ _ _ _ (cost_same dark e) (indices_same dark rest)
  indices_same dark (member name rest) = indices_same dark rest
