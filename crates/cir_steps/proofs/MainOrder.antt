-- Main's body leaves its inputs in the order of their declarations.
use Rattle.std.proofs.Common.{◌≡◌, ℕ, ◌+◌, Bool, true, false, List, [], ◌∷◌, replicate, None, sym}
use Rattle.std.proofs.Common.{subst, ◌∙◌, arith}
use Rattle.std.specs.Prelude.{⊤, ◌&&◌}
use Rattle.cir_ast.specs.declared.program.Meant.{Meant}
use Rattle.cir_ast.specs.declared.operators.Direction.{Direction}
use Rattle.cir_ast.specs.Program.{Template}
use Rattle.cir_ast.specs.Tree.{Expr, Accessors}
use Rattle.cir_meaning.specs.Tried.{Where, Tried, next}
use Rattle.cir_meaning.specs.Arrays.{Datum}
use Rattle.cir_meaning.specs.Frame.{Group, Sizes, World, State, size_in, more_in, is_input}
use Rattle.cir_meaning.specs.Declaring.{Creation, creation, create, create_each}
use Rattle.cir_meaning.specs.Simple.{set_signal}
use Rattle.cir_meaning.specs.Statement.{Flow, Going, Returned, exec_all}
use Rattle.cir_meaning.specs.Bodies.{template_state}
use Rattle.cir_meaning.proofs.Good.{OnGood, good_ok, good_next, good_weaker, OnSome'}
use Rattle.cir_meaning.proofs.Likes.{Like, like_itself}
use Rattle.cir_meaning.proofs.Twins.{Twin, twin_good, twin_left, twin_weaker}
use Rattle.cir_meaning.proofs.Creating.{Created, create_at_is, creation_like}
use Rattle.cir_steps.specs.Emission.{Emission, Emitted, known_in}
use Rattle.cir_steps.specs.Making.{Emitting}
use Rattle.cir_steps.specs.Emit.{emit_set_signal, emit_create}
use Rattle.cir_steps.specs.Statements.{emit_all, emit_begun}
use Rattle.cir_steps.proofs.Templates.{IsTemplate, all_declare}
use Rattle.cir_steps.proofs.Rising.{Calls}
use Rattle.cir_steps.proofs.Still.{Still, still_itself, still_like}
use Rattle.cir_steps.proofs.Following.{Keeps, FollowsFlow}
use Rattle.cir_steps.proofs.Walk.{Leaves, Clear, StaysClear, all_follow}
use Rattle.cir_steps.proofs.Casting.{Fits, leaves, set_signal_written, blank_at, blank_clear}
use Rattle.cir_steps.proofs.Total.{anything}
use Rattle.cir_steps.proofs.InnerSizes.{SameInputs, IsInner}
use Rattle.cir_steps.proofs.InTurn.{AreInTurn, behind, none_behind}
use Rattle.cir_steps.proofs.MainTurns.{TurnsIn, declared_turns, still_turns, written_turns}
use Rattle.cir_steps.proofs.MainTurns.{same_turns, low}

module _ (q : Emitting) (calls : Calls q.context.call) (g : Group) (chosen : List ℕ → Bool)
    (its : (d : Direction) (name : List ℕ) → (is_input d && chosen name) ≡ true
    → q.context.group d name ≡ g)
    (others : (d : Direction) (name : List ℕ) (n : ℕ) (s : Sizes)
    → (is_input d && chosen name) ≡ false → size_in g (more_in (q.context.group d name) n s)
    ≡ size_in g s)
    (inner : (a b : Sizes) → SameInputs a b → size_in g b ≡ size_in g a)
    (makes : OnSome' IsInner q.context.make)
    (size : ℕ) (sized : q.context.group_size ≡ size)
    (fits : Fits (λ start world z o. ⊤) q.context.make q.cast) where
  abbrev Ordered : State → Type 0
  Ordered s = TurnsIn q.context g chosen its others s

  abbrev Goes : State → State → Type 0
  Goes f s = Ordered f → Ordered s

  abbrev R : Emission → Emitted → Type 0
  R x y = Goes (known_in x) (known_in y.state)

  -- a component that is created
  made_goes : (w : Where) (c : Creation) (place : ℕ) (s : State) → Created q.context w c place s
      → Goes c.state s
  made_goes w c place s made h =
      let same : SameInputs c.state.world.sizes made.world.sizes =
      (subst (λ o. OnSome' IsInner o) made.is_make makes) w c.template c.arguments _ c.state.world
      made.signals made.world made.made in
      subst Ordered (sym made.state)
      (same_turns q.context g chosen its others c.state.frame.signals c.state.world.sizes
      made.world.sizes (inner c.state.world.sizes made.world.sizes same) h)

  created_goes : (w : Where) (n : ℕ) (accessors : Accessors Meant) (e : Expr Meant) (f : State)
      → OnGood (Goes f) (next (creation q.context w n accessors e f) (create q.context w))
  created_goes w n accessors e f =
      good_next (λ c. Like f c.state) (Goes f) (creation q.context w n accessors e f)
      (create q.context w)
      (creation_like q.context calls.keeps f w n accessors e f (like_itself f))
      (λ c l. each c (still_like f f c.state (still_itself f) l) c.places)
    where
      each : (c : Creation) → Still f c.state → (places : List ℕ)
          → OnGood (Goes f) (create_each q.context w c places)
      each c l [] =
          good_ok (Goes f) c.state (still_turns q.context g chosen its others f c.state l)
      each c l (place ∷ places) =
          good_weaker (Created q.context w c place) (Goes f) _ (create_at_is q.context w c place)
          (λ s made h. made_goes w c place s made
          (still_turns q.context g chosen its others f c.state l h))

  abbrev Leaf : Emission → State → Emitted → Type 0
  Leaf x s y = (known_in y.state ≡ s) × R x y × StaysClear (known_in x) s

  with_goes : (x : Emission) (m : Tried State) (r : Tried Emitted)
      → OnGood (Goes (known_in x)) m
      → Twin (λ s y. (known_in y.state ≡ s) × ⊤ × StaysClear (known_in x) s) m r
      → Twin (Leaf x) m r
  with_goes x m r good twin =
      twin_weaker (λ s y. Goes (known_in x) s × ((known_in y.state ≡ s) × ⊤
      × StaysClear (known_in x) s)) (Leaf x) m r
      (λ s y h. (h.1.0, (λ i. subst Ordered (sym h.1.0) (h.0 i)), h.1.2))
      (twin_good (Goes (known_in x)) (λ s y. (known_in y.state ≡ s) × ⊤
      × StaysClear (known_in x) s) m r good twin)

  any_leaves : Leaves q (λ x y. ⊤)
  any_leaves =
      leaves size (λ x y. ⊤) (λ start world z o. ⊤) (anything size) q sized calls fits

  in_order : Leaves q R
  in_order = record {
    fresh = λ x y step f here.
        still_turns q.context g chosen its others (known_in x) (known_in y) f.still;
    declared = λ spot d n name dims x clear.
        declared_turns q.context g chosen its others spot d n name dims (known_in x) clear;
    wired = λ w here written m accessors arrow e x.
        with_goes x (set_signal q.context w written m accessors arrow e (known_in x))
        (emit_set_signal q w written m accessors arrow e x)
        (set_signal_written Goes (written_turns q.context g chosen its others) q.context w
        calls.keeps written m accessors arrow e (known_in x))
        (any_leaves.wired w here written m accessors arrow e x);
    created = λ w n accessors e x.
        with_goes x (next (creation q.context w n accessors e (known_in x))
        (create q.context w)) (emit_create q w n accessors e x)
        (created_goes w n accessors e (known_in x)) (any_leaves.created w n accessors e x);
  }

  order_keeps : Keeps R
  order_keeps = record {
    still = λ x s h. still_turns q.context g chosen its others (known_in x) s h.0;
    joins = λ x y z h i j. i (h j);
  }

  abbrev pub FlowOrdered : Flow → Type 0
  FlowOrdered (Going s) = Ordered s
  FlowOrdered (Returned d world) = ⊥

  pub body_order : (x : Template) (ds : List Datum) (path : List ℕ) (world : World)
      → IsTemplate x → size_in g world.sizes ≡ 0
      → OnGood FlowOrdered
      (exec_all q.context x.body (template_state x ds path world))
  body_order x ds path world plain none =
      twin_left FlowOrdered
      (FollowsFlow R order_keeps (Clear []) (emit_begun x ds path world 1))
      (exec_all q.context x.body (template_state x ds path world))
      (emit_all q x.body (emit_begun x ds path world 1)) ends
      (all_follow q calls R order_keeps in_order x.body plain.0 []
      (emit_begun x ds path world 1)
      (blank_clear (all_declare x.body []) x.signals plain.1))
    where
      first : Ordered (template_state x ds path world)
      first few =
          let begun : AreInTurn chosen (low q.context g chosen its others)
          (replicate x.signals None)
          × (behind chosen (low q.context g chosen its others) (replicate x.signals None)
          ≡ low q.context g chosen its others) =
          none_behind chosen (low q.context g chosen its others) (replicate x.signals None)
          (blank_at x.signals) in (
            begun.0,
            begun.1 ∙ (let zero : low q.context g chosen its others
                ≡ low q.context g chosen its others + size_in g world.sizes = omega arith in zero),
          )

      ends : (z : Flow) (y : Emitted)
          → FollowsFlow R order_keeps (Clear []) (emit_begun x ds path world 1) z y
          → FlowOrdered z
      ends (Going s) y h = subst Ordered h.0 (h.1 first)
      ends (Returned d v) y h = h
