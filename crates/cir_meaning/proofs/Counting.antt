-- What is counted is at least what is there: of signals, of constraints and of their terms.
use Rattle.std.specs.Prelude.{nat_le}
use Rattle.std.proofs.Common.{◌≡◌, ℕ, ◌+◌, ◌≤◌, Bool, false, not, List, [], ◌∷◌, ◌++◌, Option, Some}
use Rattle.std.proofs.Common.{None, refl, sym, ap, subst, ◌∙◌, slice_get, arith}
use Rattle.cir_ast.specs.declared.program.Spot.{Spot}
use Rattle.cir_ast.specs.declared.program.Meant.{Meant}
use Rattle.cir_ast.specs.declared.operators.Arrow.{Arrow}
use Rattle.cir_ast.specs.declared.operators.Arrow.TheVariants.{Assign as AssignArrow}
use Rattle.cir_ast.specs.declared.operators.Arrow.TheVariants.{Constrain as ConstrainArrow}
use Rattle.cir_ast.specs.declared.operators.Direction.{Direction}
use Rattle.cir_ast.specs.declared.refusal.Kind.{Kind}
use Rattle.cir_ast.specs.declared.refusal.Kind.TheVariants.{ReadBeforeWrite, SecondWrite}
use Rattle.cir_ast.specs.Tree.{Expr, Accessors, Assign, Statements}
use Rattle.cir_lc.specs.Number.{signal}
use Rattle.cir_meaning.specs.Tried.{Where, Tried, found}
use Rattle.cir_meaning.specs.Limits.{Counts, nothing, Limited, limits, standing, tested, plus}
use Rattle.cir_meaning.specs.Limits.{with_array, count_sum}
use Rattle.cir_meaning.specs.Places.{elements}
use Rattle.cir_meaning.specs.Arrays.{Datum, Want, Scalar, Whole, the_item}
use Rattle.cir_meaning.specs.Values.{Value, Linear, Parts, difference_of, parts_of, number_of}
use Rattle.cir_meaning.specs.Source.{Equation, terms_of}
use Rattle.cir_meaning.specs.Frame.{Signals, Part, Frame, World, State, Context, Caller, Maker}
use Rattle.cir_meaning.specs.Frame.{all_numbers, is_written, entry_at, adding, settle, counted}
use Rattle.cir_meaning.specs.Frame.{one_statement}
use Rattle.cir_meaning.specs.Evaluate.{scalar, value_in}
use Rattle.cir_meaning.specs.Writing.{variable_assignment, is_unknown, write_variable, Target}
use Rattle.cir_meaning.specs.Writing.{signals_of, with_part_signals, with_signals, write_element}
use Rattle.cir_meaning.specs.Writing.{appended, constrained, constrained_by, write_elements}
use Rattle.cir_meaning.specs.Writing.{signal_assignment, write_signal}
use Rattle.cir_meaning.specs.Declaring.{with_row, Creation, creation, create_at, create_each}
use Rattle.cir_meaning.specs.Declaring.{create}
use Rattle.cir_meaning.specs.Costs.{Cost}
use Rattle.cir_meaning.specs.Functions.{function_fault, function_elements}
use Rattle.cir_meaning.specs.Steps.{unless_faulty, with_step, stepped, variable_cost, signal_cost}
use Rattle.cir_meaning.specs.Steps.{equal_cost, new_cells}
use Rattle.cir_meaning.specs.Simple as simple
use Rattle.cir_meaning.specs.Statement.{exec_all}
use Rattle.cir_meaning.proofs.Good.{OnGood, good_ok, good_bad, good_next, good_on, good_needed}
use Rattle.cir_meaning.proofs.Good.{good_is, good_weaker, either, OnSome'}
use Rattle.cir_meaning.proofs.Pairs.{good_both}
use Rattle.cir_meaning.proofs.Likes.{CallKeeps}
use Rattle.cir_meaning.proofs.ValueKeepings.{Valued, value_keeps, assignment_kept}
use Rattle.cir_meaning.proofs.ValueKeepings.{signal_assignment_kept, creation_kept}
use Rattle.cir_meaning.proofs.Keepings.{FlowIs, Keeping, exec_all_keeps}
use Rattle.cir_meaning.proofs.Creating.{Created, create_at_is}

-- what a declaration and a constraint add
abbrev pub signals_added : List ℕ → Counts → Counts
signals_added dims c = with_array dims (record c {
  signals = count_sum c.signals (elements dims);
  cells = count_sum c.cells (elements dims);
})

abbrev pub constraint_added : ℕ → Parts → Counts → Counts
constraint_added numbers p c = record c {
  constraints = count_sum c.constraints 1;
  terms = count_sum c.terms (terms_of numbers p);
}

abbrev pub with_equation : Equation → World → World
with_equation e w = record w { equations = w.equations ++ e ∷ [] }

-- counts that stand still
settled_sum : (low x y c a n z : ℕ) → x ≡ y → n ≡ standing (c + a) → z ≡ 0
    → standing y ≤ standing (low + c + a) → standing x ≤ standing (low + n + z)
settled_sum low x y c a n z e f g h = omega arith

grown : (low x y c d a : ℕ) → x ≡ y → standing c ≤ d → standing y ≤ standing (low + c + a)
    → standing x ≤ standing (low + d + a)
grown low x y c d a e f h = omega arith

ended : (low x c a : ℕ) → standing x ≤ standing (low + c + a) → a ≡ 0
    → standing x ≤ standing (low + c)
ended low x c a h e = omega arith

pub apart : (low c a x : ℕ) → standing x ≤ standing (low + c + a)
    → standing x ≤ standing (low + a + c)
apart low c a x h = omega arith

pub together : (low c a x : ℕ) → standing x ≤ standing (low + a + c)
    → standing x ≤ standing (low + c + a)
together low c a x h = omega arith

pub tested_same : (ls : List Limited) (w : Where) (c : Counts) → OnGood (λ d. d ≡ c) (tested ls w c)
tested_same [] w c = good_ok (λ d. d ≡ c) c refl
tested_same (l ∷ ls) w c =
    either (OnGood (λ d. d ≡ c)) (nat_le (l.count c) l.most) (tested ls w c) _
    (tested_same ls w c) (good_bad (λ d. d ≡ c) _)

-- a frame's counts
part_apart : (j : ℕ) (signals : Signals) (o : Option Part) (f : Frame)
    → (with_part_signals j signals o f).added ≡ f.added
part_apart j signals None f = refl
part_apart j signals (Some p) f = refl

added_apart : (part : Option ℕ) (signals : Signals) (f : Frame)
    → (with_signals part signals f).added ≡ f.added
added_apart None signals f = refl
added_apart (Some j) signals f = part_apart j signals (slice_get f.parts j) f

-- one count, and the amount that it counts; `low` is what is counted elsewhere
pub record Measure (numbers : ℕ) : Type 0 where
  pub count : Counts → ℕ
  pub amount : World → ℕ
  pub plus_is : (c d : Counts) → count (record (plus c d) { elements = 0 })
      ≡ standing (count c + count d)
  pub none : count nothing ≡ 0
  pub array : (dims : List ℕ) (c : Counts) → count (with_array dims c) ≡ count c
  pub statement : (c : Counts) → count (one_statement c) ≡ count c
  pub step : (cost : Cost) (cells many : ℕ) (c : Counts)
      → count (with_step cost cells many c) ≡ count c
  pub same : (w : World) (c : Counts) → amount (record w { counts = c }) ≡ amount w
  pub instances : (w : World) (paths : List (List ℕ))
      → amount (record w { instances = paths }) ≡ amount w
  pub more_signals : (dims : List ℕ) (c : Counts) → standing (count c)
      ≤ count (signals_added dims c)
  pub more_constraints : (p : Parts) (c : Counts) → standing (count c)
      ≤ count (constraint_added numbers p c)
  pub row : (k : Context) (direction : Direction) (name dims : List ℕ) (w : World) (c : Counts)
      (low : ℕ) → standing (amount w) ≤ standing (low + count c)
      → standing (amount (with_row k direction name dims w))
      ≤ standing (low + count (signals_added dims c))
  pub equation : (x y : Value) (p : Parts) (w : World) (c : Counts) (low : ℕ)
      → standing (amount w) ≤ standing (low + count c)
      → standing (amount (with_equation record {
        left = number_of x;
        right = number_of y;
        parts = p;
      } w)) ≤ standing (low + count (constraint_added numbers p c))

module _ (numbers : ℕ) (m : Measure numbers) where
  abbrev pub IsCounted : ℕ → World → Counts → Type 0
  IsCounted low w added =
      standing (m.amount w) ≤ standing (low + m.count w.counts + m.count added)

  -- a call counts more, and changes nothing else
  abbrev pub Grows : World → World → Type 0
  Grows w after = standing (m.count w.counts) ≤ m.count after.counts

  pub record CallsCount (call : Caller) : Type 0 where
    pub keeps : CallKeeps call
    pub grows : (w : Where) (n : ℕ) (ds : List Datum) (world : World)
        → OnGood (λ x. Grows world x.1) (call w n ds world)

  abbrev pub MakeCounts : Maker → Type 0
  MakeCounts make =
      (w : Where) (n : ℕ) (ds : List Datum) (path : List ℕ) (world : World) (low : ℕ)
      → standing (m.amount world) ≤ standing (low + m.count world.counts)
      → OnGood (λ x. standing (m.amount x.1) ≤ standing (low + m.count x.1.counts))
      (make w n ds path world)

  pub record BodyCounts (k : Context) : Type 0 where
    pub same : all_numbers k ≡ numbers
    pub calls : CallsCount k.call
    pub makes : OnSome' MakeCounts k.make

  some_make : (o : Option Maker) (make : Maker) → o ≡ Some make → OnSome' MakeCounts o
      → MakeCounts make
  some_make o make is h = subst (OnSome' MakeCounts) is h

  module _ (low : ℕ) where
    abbrev pub Kept : State → Type 0
    Kept s = IsCounted low s.world s.frame.added

    abbrev pub Done : State → Type 0
    Done s = Kept s × (m.count s.frame.added ≡ 0)

    abbrev pub Gone : Datum → World → Type 0
    Gone d w = standing (m.amount w) ≤ standing (low + m.count w.counts)

    pub added_same : (w : World) (a b : Counts) → m.count b ≡ m.count a → IsCounted low w a
        → IsCounted low w b
    added_same w a b e h =
        subst (λ (n : ℕ). standing (m.amount w) ≤ standing (low + m.count w.counts + n)) (sym e) h

    settled : (s : State) (c : Counts) → Kept s → c ≡ plus s.world.counts s.frame.added
        → IsCounted low (record (s.world) { counts = record c { elements = 0 } }) nothing
    settled s c g e =
        let x : ℕ = m.amount (record (s.world) { counts = record c { elements = 0 } }) in
        let same : x ≡ m.amount s.world = m.same s.world (record c { elements = 0 }) in
        let counts : m.count (record c { elements = 0 })
        ≡ standing (m.count s.world.counts + m.count s.frame.added) =
        ap (λ (d : Counts). m.count (record d { elements = 0 })) e
        ∙ m.plus_is s.world.counts s.frame.added in
        settled_sum low x (m.amount s.world) (m.count s.world.counts) (m.count s.frame.added)
        (m.count (record c { elements = 0 })) (m.count nothing) same counts m.none g

    pub gone : (s : State) → Done s
        → standing (m.amount s.world) ≤ standing (low + m.count s.world.counts)
    gone s g =
        ended low (m.amount s.world) (m.count s.world.counts) (m.count s.frame.added) g.0 g.1

    pub array_counts : (dims : List ℕ) (s : State) → Kept s → Kept (adding (with_array dims) s)
    array_counts dims s g =
        added_same s.world s.frame.added (with_array dims s.frame.added)
        (m.array dims s.frame.added) g

    pub calls_count : (k : Context) → BodyCounts k → (w : Where) (n : ℕ) (ds : List Datum)
        (s : State)
        → Kept s → OnGood (λ x. Kept (record s { world = x.1 })) (k.call w n ds s.world)
    calls_count k body w n ds s g =
        good_weaker (λ x. (x.1 ≡ record (s.world) { counts = x.1.counts }) × Grows s.world x.1)
        (λ x. Kept (record s { world = x.1 })) (k.call w n ds s.world)
        (good_both (λ x. x.1 ≡ record (s.world) { counts = x.1.counts }) (λ x. Grows s.world x.1)
        (k.call w n ds s.world) (body.calls.keeps w n ds s.world)
        (body.calls.grows w n ds s.world))
        (λ x p.
        let same : m.amount x.1 ≡ m.amount s.world =
        ap (λ (v : World). m.amount v) p.0 ∙ m.same s.world x.1.counts in
        grown low (m.amount x.1) (m.amount s.world) (m.count s.world.counts)
        (m.count x.1.counts) (m.count s.frame.added) same p.1 g)

    unless_counts : (w : Where) (o : Option Kind) (go : Tried State) → OnGood Kept go
        → OnGood Kept (unless_faulty w o go)
    unless_counts w (Some kind) go h = good_bad Kept _
    unless_counts w None go h = h

    pub settle_counts : (w : Where) (s : State) → Kept s → OnGood Done (settle w s)
    settle_counts w s g =
        good_next (λ c. c ≡ plus s.world.counts s.frame.added) Done
        (tested limits w (plus s.world.counts s.frame.added)) _
        (tested_same limits w (plus s.world.counts s.frame.added))
        (λ c e. good_ok Done _ (settled s c g e, m.none))

    value_counts : (k : Context) → BodyCounts k → (w : Where) (shaded : Bool) (want : Want)
        (e : Expr Meant) (s : State) → Kept s
        → OnGood (λ x. Kept x.1) (value_in k w shaded want e s)
    value_counts k body w shaded want e s g =
        value_keeps Kept k array_counts (calls_count k body) w shaded want e s g

    pub known_counts : (k : Context) → BodyCounts k → Valued k Kept false
    known_counts k body w want e s g = value_counts k body w false want e s g

    step_counts : (k : Context) (w : Where) (cost : Cost) (cells : ℕ) (s : State) → Kept s
        → OnGood Kept (stepped k w cost cells s)
    step_counts k w cost cells s g =
        unless_counts w (function_fault k.program cost.calls) _
        (good_ok Kept _ (added_same s.world s.frame.added
        (with_step cost cells (function_elements k.program cost.calls) s.frame.added)
        (m.step cost cells (function_elements k.program cost.calls) s.frame.added) g))

    -- equations
    appended_counts : (k : Context) → all_numbers k ≡ numbers → (w : Where) (x y : Value)
        (s : State) (o : Option Parts) → Kept s → OnGood Kept (appended k w x y s o)
    appended_counts k same w x y s None g = good_bad Kept _
    appended_counts k same w x y s (Some p) g =
        good_ok Kept _ (subst (λ (n : ℕ). IsCounted low (with_equation record {
          left = number_of x;
          right = number_of y;
          parts = p;
        } s.world) (constraint_added n p s.frame.added)) (sym same)
        (m.equation x y p s.world s.frame.added (low + m.count s.world.counts) g))

    constrained_counts : (k : Context) → all_numbers k ≡ numbers → (w : Where) (x y : Value)
        (s : State) → Kept s → OnGood Kept (constrained k w x y s)
    constrained_counts k same w x y s g =
        appended_counts k same w x y s (parts_of (difference_of x y)) g

    constrained_by_counts : (k : Context) → all_numbers k ≡ numbers → (w : Where) (arrow : Arrow)
        (x y : Value) (s : State) → Kept s → OnGood Kept (constrained_by k w arrow x y s)
    constrained_by_counts k same w AssignArrow x y s g = good_ok Kept s g
    constrained_by_counts k same w ConstrainArrow x y s g = constrained_counts k same w x y s g

    -- signals hold no counts
    element_counts : (w : Where) (t : Target) (place : ℕ) (s : State) → Kept s
        → OnGood (λ x. Kept x.1) (write_element w t place s)
    element_counts w t place s g =
        good_on (λ x. Kept x.1)
        (found w ReadBeforeWrite (entry_at (signals_of t.part s.frame) t.number)) _ (λ e.
        good_needed (λ x. Kept x.1) (not (is_written e place)) w SecondWrite _
        (good_ok (λ x. Kept x.1) _ (subst
        (λ (a : Counts). IsCounted low s.world a)
        (sym (added_apart t.part _ s.frame)) g)))

    elements_counts : (k : Context) → all_numbers k ≡ numbers → (w : Where) (arrow : Arrow)
        (t : Target) (places : List ℕ) (vs : List Value) (s : State) → Kept s
        → OnGood Kept (write_elements k w arrow t places vs s)
    elements_counts k same w arrow t [] vs s g = good_ok Kept s g
    elements_counts k same w arrow t (place ∷ places) [] s g = good_ok Kept s g
    elements_counts k same w arrow t (place ∷ places) (v ∷ vs) s g =
        good_next (λ x. Kept x.1) Kept (write_element w t place s) _
        (element_counts w t place s g) (λ x g1.
        good_next Kept Kept
        (constrained_by k w arrow (Linear (signal (x.0.first + place))) v x.1) _
        (constrained_by_counts k same w arrow (Linear (signal (x.0.first + place))) v x.1 g1)
        (λ s2 g2. elements_counts k same w arrow t places vs s2 g2))

    -- the single steps of a body
    module _ (k : Context) (body : BodyCounts k) where
      scalared : (w : Where) (shaded : Bool) (e : Expr Meant) (s : State)
          (go : Value → State → Tried State) → Kept s
          → ((v : Value) (s1 : State) → Kept s1 → OnGood Kept (go v s1))
          → OnGood Kept (scalar (value_in k w shaded Scalar e s) go)
      scalared w shaded e s go g h =
          good_next (λ x. Kept x.1) Kept (value_in k w shaded Scalar e s)
          (λ (d, s1). go (the_item d) s1) (value_counts k body w shaded Scalar e s g)
          (λ x g1. h (the_item x.0) x.1 g1)

      set_variable_counts : (w : Where) (written : Assign Meant) (n : ℕ)
          (accessors : Accessors Meant) (e : Expr Meant) (s : State) → Kept s
          → OnGood Kept (simple.set_variable k w written n accessors e s)
      set_variable_counts w written n accessors e s g =
          good_next (λ a. Kept a.state) Kept (variable_assignment k w n accessors e s) _
          (assignment_kept k Kept (known_counts k body) w n accessors e s g) (λ a g1.
          either (OnGood Kept) (is_unknown n a) _ _
          (step_counts k w (variable_cost k w written n accessors e a s) (new_cells n a)
          (write_variable n a) g1)
          (good_ok Kept (write_variable n a) g1))

      wired_counts : (w : Where) (cost : Cost) (places : List ℕ) (s : State) → Kept s
          → OnGood Kept (simple.wired k w cost places s)
      wired_counts w cost [] s g = good_ok Kept s g
      wired_counts w cost (place ∷ places) s g = step_counts k w cost 0 s g

      set_signal_counts : (w : Where) (written : Assign Meant) (meaning : Meant)
          (accessors : Accessors Meant) (arrow : Arrow) (e : Expr Meant) (s : State) → Kept s
          → OnGood Kept (simple.set_signal k w written meaning accessors arrow e s)
      set_signal_counts w written meaning accessors arrow e s g =
          good_next (λ a. Kept a.state) Kept (signal_assignment k w meaning accessors e s) _
          (signal_assignment_kept k Kept (known_counts k body) w meaning accessors e
          s g) (λ a g1.
          good_next Kept Kept (write_signal k w arrow a) _
          (elements_counts k body.same w arrow a.target a.target.reach.places a.value.items
          a.state g1)
          (wired_counts w (signal_cost k w written accessors e s) a.target.reach.places))

      equal_counts : (w : Where) (a b : Expr Meant) (s : State) → Kept s
          → OnGood Kept (simple.equal k w a b s)
      equal_counts w a b s g =
          scalared w false a s _ g (λ x s1 g1. scalared w false b s1 _ g1 (λ y s2 g2.
          good_next Kept Kept (constrained k w x y s2) _
          (constrained_counts k body.same w x y s2 g2)
          (λ s3 g3. step_counts k w (equal_cost k w a b s) 0 s3 g3)))

      created_counts : (w : Where) (c : Creation) (place : ℕ) (s : State) → Kept c.state
          → Created k w c place s → Kept s
      created_counts w c place s g is =
          let a : ℕ = m.count c.state.frame.added in
          let n : ℕ = m.count c.state.world.counts in
          let made : standing (m.amount is.world)
          ≤ standing (low + a + m.count is.world.counts) =
          good_is (λ x. standing (m.amount x.1) ≤ standing (low + a + m.count x.1.counts)) _
          (is.signals, is.world) is.made
          (some_make k.make is.make is.is_make body.makes w c.template c.arguments _
          c.state.world (low + a) (apart low n a (m.amount c.state.world) g)) in
          subst Kept (sym is.state)
          (together low (m.count is.world.counts) a (m.amount is.world) made)

      create_counts : (w : Where) (c : Creation) (places : List ℕ) → Kept c.state
          → OnGood Kept (create_each k w c places)
      create_counts w c [] g = good_ok Kept c.state g
      create_counts w c (place ∷ places) g =
          good_weaker (Created k w c place) Kept (create_at k w c place) (create_at_is k w c place)
          (λ s is. created_counts w c place s g is)

      abbrev counting : Keeping k
      counting = record {
        Kept = Kept;
        Done = Done;
        Gone = Gone;
        done = λ s g. g.0;
        value = value_counts k body;
        settle = settle_counts;
        statement = λ s g.
            added_same s.world s.frame.added (one_statement s.frame.added)
            (m.statement s.frame.added) g;
        step = step_counts k;
        variable = λ n dims s g. array_counts dims s g;
        scanned = λ n dims s g. array_counts dims s g;
        forgotten = λ n s g. g;
        signal = λ spot direction n name dims s g.
            m.row k direction name dims s.world s.frame.added (low + m.count s.world.counts) g;
        component = λ n name dims s g. array_counts dims s g;
        set_variable = set_variable_counts;
        set_signal = set_signal_counts;
        equal = equal_counts;
        create = λ w n accessors e s g.
            good_next (λ c. Kept c.state) Kept (creation k w n accessors e s) (create k w)
            (creation_kept k Kept (known_counts k body) w n accessors e s g)
            (λ c g1. create_counts w c c.places g1);
        returns = λ w e s g.
            good_next (λ x. Kept x.1) (FlowIs Done Gone) (value_in k w false Whole e s) _
            (value_counts k body w false Whole e s g) (λ x g1.
            good_next Done (FlowIs Done Gone) (counted w x.1) _
            (settle_counts w (adding one_statement x.1)
            (added_same x.1.world x.1.frame.added (one_statement x.1.frame.added)
            (m.statement x.1.frame.added) g1))
            (λ s2 g2. good_ok (FlowIs Done Gone) _ (gone s2 g2)));
      }

      pub exec_all_counts : (ss : Statements Spot Meant) (s : State) → Done s
          → OnGood (FlowIs Done Gone) (exec_all k ss s)
      exec_all_counts ss s g = exec_all_keeps k counting ss s g
