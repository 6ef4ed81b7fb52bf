-- The cells of main's inputs, where a circuit starts, are in the order of their final numbers.
use Rattle.std.proofs.Common.{arith, length, slice_get, not, ◌<◌, Some, ◌++◌, ◌-◌, ◌*◌, ◌≡◌, ℕ, ◌+◌}
use Rattle.std.proofs.Common.{◌≤◌, Bool, true, false, cond, List, Ok, refl, sym, ap, subst, ◌∙◌}
use Rattle.cir_meaning.specs.Compile.{final_number, main_group, main_context, main_state}
use Rattle.cir_meaning.proofs.MainInputs.{final_at}
use Rattle.cir_meaning.proofs.Creating.{get_more, arguments_like}
use Rattle.cir_steps.proofs.InTurn.{cells_count, cell_at, get_behind, AreInTurn, behind}
use Rattle.cir_steps.specs.Circuit.{input_cells, is_public}
use Rattle.cir_steps.specs.Emission.{wire_cell}
use Rattle.cir_meaning.specs.Frame.{SignalEntry, entry_at, Signals, Group, Outputs, PublicInputs}
use Rattle.cir_meaning.specs.Frame.{PrivateInputs, Others, Sizes, World, State, Context, at}
use Rattle.cir_meaning.specs.Frame.{before_group, size_in, more_in, is_input}
use Rattle.cir_meaning.specs.Run.{Wires}
use Rattle.std.proofs.lemmas.List.{length-append}
use Rattle.std.specs.Prelude.{⊤, ◌&&◌, bytes_eq, codes}
use Rattle.std.specs.List.{list_any}
use Rattle.cir_ast.specs.declared.operators.Direction.{Direction}
use Rattle.cir_ast.specs.declared.operators.Direction.TheVariants.{Inner, Input, Output}
use Rattle.cir_ast.specs.declared.refusal.Kind.TheVariants.{WrongKind}
use Rattle.cir_ast.specs.Program.{Program, Main, Template}
use Rattle.cir_meaning.specs.Tried.{Where, Tried, next, found}
use Rattle.cir_meaning.specs.Statement.{Going, exec_all}
use Rattle.cir_meaning.specs.Bodies.{template_context, template_state, ended, ended_flow, call_at}
use Rattle.cir_meaning.specs.Bodies.{make_at, most_open}
use Rattle.cir_meaning.specs.Evaluate.{arguments_in}
use Rattle.cir_meaning.specs.RunBodies.{body_at}
use Rattle.cir_meaning.specs.Scoped.{IsResolved}
use Rattle.cir_meaning.proofs.Good.{good_is}
use Rattle.cir_meaning.proofs.Likes.{Like, like_itself}
use Rattle.cir_meaning.proofs.KnownCalls.{calls_keep}
use Rattle.cir_meaning.proofs.FineBodies.{makes_fine}
use Rattle.cir_meaning.proofs.Holds.{get_less}
use Rattle.cir_meaning.proofs.ScanPoints.{next_to, found_to}
use Rattle.cir_meaning.proofs.TemplateBodies.{template_flow, template_last, template_ends}
use Rattle.cir_meaning.proofs.DepthRuns.{makes_grow, bodies_run}
use Rattle.cir_meaning.proofs.MainRuns.{Executed}
use Rattle.cir_steps.specs.Making.{Emitting}
use Rattle.cir_steps.specs.Statements.{cast_at}
use Rattle.cir_steps.proofs.Resolved.{templates}
use Rattle.cir_steps.proofs.Casting.{casts_fit}
use Rattle.cir_steps.proofs.CallsRise.{calls_rise}
use Rattle.cir_steps.proofs.Total.{anything}
use Rattle.cir_steps.proofs.InnerSizes.{SameInputs, makes_inner}
use Rattle.cir_steps.proofs.MainOrder.{FlowOrdered, body_order}

module _ (publics : List (List ℕ)) where
  abbrev in_public : List ℕ → Bool
  in_public name = list_any (λ n. bytes_eq n name) publics

  abbrev in_private : List ℕ → Bool
  in_private name = not (in_public name)

  public_group : (d : Direction) (name : List ℕ) → (is_input d && in_public name) ≡ true
      → main_group publics d name ≡ PublicInputs
  public_group Inner name h = cc
  public_group Output name h = cc
  public_group Input name h = ap (λ (b : Bool). cond b PublicInputs PrivateInputs) h

  private_group : (d : Direction) (name : List ℕ) → (is_input d && in_private name) ≡ true
      → main_group publics d name ≡ PrivateInputs
  private_group Inner name h = cc
  private_group Output name h = cc
  private_group Input name h = at (in_public name) h
    where
      at : (b : Bool) → not b ≡ true → cond b PublicInputs PrivateInputs ≡ PrivateInputs
      at true e = cc
      at false e = refl

  public_others : (d : Direction) (name : List ℕ) (n : ℕ) (s : Sizes)
      → (is_input d && in_public name) ≡ false
      → size_in PublicInputs (more_in (main_group publics d name) n s) ≡ size_in PublicInputs s
  public_others Inner name n s h = refl
  public_others Output name n s h = refl
  public_others Input name n s h =
      ap (λ (b : Bool). size_in PublicInputs (more_in (cond b PublicInputs PrivateInputs) n s)) h

  private_others : (d : Direction) (name : List ℕ) (n : ℕ) (s : Sizes)
      → (is_input d && in_private name) ≡ false
      → size_in PrivateInputs (more_in (main_group publics d name) n s)
      ≡ size_in PrivateInputs s
  private_others Inner name n s h = refl
  private_others Output name n s h = refl
  private_others Input name n s h = at (in_public name) h
    where
      at : (b : Bool) → not b ≡ false
          → size_in PrivateInputs (more_in (cond b PublicInputs PrivateInputs) n s)
          ≡ size_in PrivateInputs s
      at true e = refl
      at false e = cc

none_in : (g : Group) → size_in g main_state.world.sizes ≡ 0
none_in Outputs = refl
none_in PublicInputs = refl
none_in PrivateInputs = refl
none_in Others = refl

module _ (p : Program) (resolved : IsResolved p) (size : ℕ) (m : Main) (t : ℕ)
    (signals : Signals) (after : World) (its : Executed p size m t signals after) where
  abbrev place : Where
  place = at (main_context p size m) m.spot

  found_template : (x : Template) × (slice_get p.templates t ≡ Some x)
  found_template =
      let one : (x : Template) × (found place WrongKind (slice_get p.templates t) ≡ Ok x)
      × (made_by x ≡ Ok (signals, its.world)) =
      next_to (found place WrongKind (slice_get p.templates t)) made_by
      (signals, its.world) its.made
      in (one.0, found_to place WrongKind (slice_get p.templates t) one.0 one.1)
    where
      made_by : Template → Tried (Signals × World)
      made_by x =
          next (exec_all (template_context p size (call_at p size most_open) (make_at p size 255)
          (main_group m.public_names) x (codes "main") its.state.world) x.body
          (template_state x its.arguments (codes "main") its.state.world))
          (ended_flow (template_context p size (call_at p size most_open) (make_at p size 255)
          (main_group m.public_names) x (codes "main") its.state.world))

  like : Like main_state its.state
  like =
      good_is (λ x. Like main_state x.1)
      (arguments_in (main_context p size m) place m.arguments main_state)
      (its.arguments, its.state) its.evaluated
      (arguments_like (main_context p size m) (calls_keep p size most_open) main_state place
      m.arguments main_state (like_itself main_state))

  module _ (g : Group) (chosen : List ℕ → Bool)
      (of : (d : Direction) (name : List ℕ) → (is_input d && chosen name) ≡ true
      → main_group m.public_names d name ≡ g)
      (others : (d : Direction) (name : List ℕ) (n : ℕ) (s : Sizes)
      → (is_input d && chosen name) ≡ false
      → size_in g (more_in (main_group m.public_names d name) n s) ≡ size_in g s)
      (inner : (a b : Sizes) → SameInputs a b → size_in g b ≡ size_in g a) where
    abbrev low : ℕ
    low = 1 + before_group size g

    main_turns : size_in g after.sizes ≤ 1048576
        → AreInTurn chosen low signals × (behind chosen low signals ≡ low + size_in g after.sizes)
    main_turns few =
        let x : Template = found_template.0 in
        let k : Context = template_context p size (call_at p size most_open) (make_at p size 255)
        (main_group m.public_names) x (codes "main") its.state.world in
        let q : Emitting = record { context = k; cast = cast_at p size 255 } in
        let flow : (z : _) × (exec_all k x.body (template_state x its.arguments (codes "main")
        its.state.world) ≡ Ok z) × (ended_flow k z ≡ Ok (signals, its.world)) =
        template_flow p resolved size 0 (make_at p size 255) (makes_fine p size 255)
        (makes_grow p resolved size 0 255) (main_group m.public_names) (body_at p size 0 255)
        (bodies_run p resolved size 0 255) t x found_template.1 (codes "main") its.state.world
        place its.arguments signals its.world its.made in
        let last : (u : State) × (flow.0 ≡ Going u) =
        template_last p resolved size 0 (make_at p size 255) (makes_fine p size 255)
        (makes_grow p resolved size 0 255) (main_group m.public_names) (body_at p size 0 255)
        (bodies_run p resolved size 0 255) t x found_template.1 (codes "main") its.state.world
        place its.arguments signals its.world its.made in
        let done : ended k last.0 ≡ Ok (signals, its.world) =
        subst (λ z. ended_flow k z ≡ Ok (signals, its.world)) last.1 flow.2 in
        let ends : (a : Unit {0}) × (b : Unit {0}) × _ × _ × (last.0.frame.signals ≡ signals)
        × (last.0.world ≡ its.world) =
        template_ends p resolved size 0 (make_at p size 255) (makes_fine p size 255)
        (makes_grow p resolved size 0 255) (main_group m.public_names) (body_at p size 0 255)
        (bodies_run p resolved size 0 255) t x found_template.1 (codes "main") its.state.world
        place its.arguments signals its.world its.made last.0 done in
        let ordered : size_in g last.0.world.sizes ≤ 1048576
        → AreInTurn chosen low last.0.frame.signals
        × (behind chosen low last.0.frame.signals ≡ low + size_in g last.0.world.sizes) =
        good_is (FlowOrdered q (calls_rise p size most_open) g chosen of others inner
        (makes_inner p resolved size 255)
        size refl
        (casts_fit size (λ x y. ⊤) (λ start world z o. ⊤) (anything size) p (templates p resolved)
        255))
        (exec_all k x.body (template_state x its.arguments (codes "main") its.state.world))
        (Going last.0) (flow.1 ∙ ap (λ z. Ok z) last.1)
        (body_order q (calls_rise p size most_open) g chosen of others inner
        (makes_inner p resolved size 255)
        size refl
        (casts_fit size (λ x y. ⊤) (λ start world z o. ⊤) (anything size) p (templates p resolved)
        255) x
        its.arguments (codes "main") its.state.world (templates p resolved t x found_template.1)
        (ap (size_in g) (ap (λ (v : World). v.sizes) like.4) ∙ none_in g)) in
        let sizes : last.0.world.sizes ≡ after.sizes =
        ap (λ (v : World). v.sizes) ends.5 ∙ sym its.like.0 in
        subst (λ xs. AreInTurn chosen low xs × (behind chosen low xs
        ≡ low + size_in g after.sizes)) ends.4
        (subst (λ s. size_in g s ≤ 1048576 → AreInTurn chosen low last.0.frame.signals
        × (behind chosen low last.0.frame.signals ≡ low + size_in g s)) sizes ordered few)

  -- cells of inputs, in the order in which a circuit starts with them
  abbrev pub all_inputs : Wires → List ℕ
  all_inputs own =
      input_cells (is_public m) own 0 signals
      ++ input_cells (λ e. not (is_public m e)) own 0 signals

  -- an input's number among the inputs
  abbrev pub index : SignalEntry → ℕ → ℕ
  index e k = final_number size after.sizes (e.first + k) - (1 + after.sizes.outputs)

  module _ (own : Wires) (top : size ≤ 1048576)
      (few : after.sizes.public_inputs + after.sizes.private_inputs < size) where
    abbrev public_cells : List ℕ
    public_cells = input_cells (is_public m) own 0 signals

    abbrev private_cells : List ℕ
    private_cells = input_cells (λ e. not (is_public m e)) own 0 signals

    public_turns : AreInTurn (in_public m.public_names) (1 + size) signals
        × (behind (in_public m.public_names) (1 + size) signals
        ≡ 1 + size + after.sizes.public_inputs)
    public_turns =
        main_turns PublicInputs (in_public m.public_names) (public_group m.public_names)
        (public_others m.public_names) (λ a b h. h.0) (omega arith)

    private_turns : AreInTurn (in_private m.public_names) (1 + 2 * size) signals
        × (behind (in_private m.public_names) (1 + 2 * size) signals
        ≡ 1 + 2 * size + after.sizes.private_inputs)
    private_turns =
        main_turns PrivateInputs (in_private m.public_names) (private_group m.public_names)
        (private_others m.public_names) (λ a b h. h.1) (omega arith)

    public_count : length public_cells ≡ after.sizes.public_inputs
    public_count =
        let all : 1 + size + length public_cells
        ≡ behind (in_public m.public_names) (1 + size) signals =
        cells_count (in_public m.public_names) own 0 (1 + size) signals in
        let end : behind (in_public m.public_names) (1 + size) signals
        ≡ 1 + size + after.sizes.public_inputs = public_turns.1 in omega arith

    private_count : length private_cells ≡ after.sizes.private_inputs
    private_count =
        let all : 1 + 2 * size + length private_cells
        ≡ behind (in_private m.public_names) (1 + 2 * size) signals =
        cells_count (in_private m.public_names) own 0 (1 + 2 * size) signals in
        let end : behind (in_private m.public_names) (1 + 2 * size) signals
        ≡ 1 + 2 * size + after.sizes.private_inputs = private_turns.1 in omega arith

    pub all_count : length (all_inputs own)
        ≡ after.sizes.public_inputs + after.sizes.private_inputs
    all_count =
        let all : length (all_inputs own) ≡ length public_cells + length private_cells =
        length-append public_cells private_cells in
        let one : length public_cells ≡ after.sizes.public_inputs = public_count in
        let two : length private_cells ≡ after.sizes.private_inputs = private_count in omega arith

    module _ (n : ℕ) (e : SignalEntry) (k : ℕ) (there : entry_at signals n ≡ Some e)
        (input : is_input e.direction ≡ true) (less : k < length e.written) where
      public_at : in_public m.public_names e.name ≡ true
          → slice_get (all_inputs own) (index e k) ≡ Some (wire_cell own n k)
      public_at is =
          let its : (j : ℕ) × (e.first + k ≡ 1 + size + j)
          × (slice_get public_cells j ≡ Some (wire_cell own (0 + n) k)) =
          cell_at (in_public m.public_names) own 0 (1 + size) n e k signals public_turns.0 there
          (ap (λ (b : Bool). b && in_public m.public_names e.name) input ∙ is) less in
          let number : e.first + k ≡ 1 + size + its.0 = its.1 in
          let below : its.0 < length public_cells =
          get_less public_cells its.0 (wire_cell own (0 + n) k) its.2 in
          let count : length public_cells ≡ after.sizes.public_inputs = public_count in
          let final : final_number size after.sizes (e.first + k)
          ≡ 1 + (after.sizes.outputs + its.0) =
          final_at size its.0 1 after.sizes (e.first + k) (omega arith) (omega arith) in
          let at : index e k ≡ its.0 = omega arith in
          let same : 0 + n ≡ n = omega arith in
          ap (slice_get (all_inputs own)) at
          ∙ get_more public_cells private_cells its.0 (wire_cell own (0 + n) k) its.2
          ∙ ap (λ (i : ℕ). Some (wire_cell own i k)) same

      private_at : in_public m.public_names e.name ≡ false
          → slice_get (all_inputs own) (index e k) ≡ Some (wire_cell own n k)
      private_at is =
          let its : (j : ℕ) × (e.first + k ≡ 1 + 2 * size + j)
          × (slice_get private_cells j ≡ Some (wire_cell own (0 + n) k)) =
          cell_at (in_private m.public_names) own 0 (1 + 2 * size) n e k signals private_turns.0
          there (ap (λ (b : Bool). b && in_private m.public_names e.name) input ∙ ap not is) less
          in
          let number : e.first + k ≡ 1 + 2 * size + its.0 = its.1 in
          let below : its.0 < length private_cells =
          get_less private_cells its.0 (wire_cell own (0 + n) k) its.2 in
          let front : length public_cells ≡ after.sizes.public_inputs = public_count in
          let count : length private_cells ≡ after.sizes.private_inputs = private_count in
          let final : final_number size after.sizes (e.first + k)
          ≡ 1 + (after.sizes.outputs + after.sizes.public_inputs + its.0) =
          final_at size its.0 2 after.sizes (e.first + k) (omega arith) (omega arith) in
          let at : index e k ≡ length public_cells + its.0 = omega arith in
          let same : 0 + n ≡ n = omega arith in
          ap (slice_get (all_inputs own)) at
          ∙ get_behind public_cells private_cells its.0 ∙ its.2
          ∙ ap (λ (i : ℕ). Some (wire_cell own i k)) same

      pub input_at : slice_get (all_inputs own) (index e k) ≡ Some (wire_cell own n k)
      input_at = at (in_public m.public_names e.name) refl
        where
          at : (b : Bool) → in_public m.public_names e.name ≡ b
              → slice_get (all_inputs own) (index e k) ≡ Some (wire_cell own n k)
          at true is = public_at is
          at false is = private_at is
