-- What is known behind statements whose steps are made is what their execution at compile time
-- leaves, and they are refused alike.
use Rattle.std.proofs.Common.{◌≡◌, ◌∙◌, ℕ, Bool, true, false, List, [], ◌∷◌, Option, Some, None, Ok}
use Rattle.std.proofs.Common.{Err, refl, ap, sym}
use Rattle.std.specs.Prelude.{◌==◌, if◌then◌else◌, is_none, length}
use Rattle.cir_ast.specs.declared.operators.Arrow.{Arrow}
use Rattle.cir_ast.specs.declared.operators.Direction.{Direction}
use Rattle.cir_ast.specs.declared.program.Spot.{Spot}
use Rattle.cir_ast.specs.declared.program.Meant.{Meant}
use Rattle.cir_ast.specs.declared.program.Meant.TheVariants as meant
use Rattle.cir_ast.specs.declared.refusal.Form.TheVariants.{MixedComponents}
use Rattle.cir_ast.specs.declared.refusal.Kind.{Kind}
use Rattle.cir_ast.specs.declared.refusal.Kind.TheVariants.{NotInProfile, SecondWrite, TooDeep}
use Rattle.cir_ast.specs.Tree.{Expr, Accessors, done, Variable, SignalValue, Nothing, Given, Signal}
use Rattle.cir_ast.specs.Tree.{Assign, Set, Left, Compound, Increment, Decrement, Slot, SlotPlace}
use Rattle.cir_ast.specs.Tree.{SlotDiscard, Target, Discard, Slots, Simple, Vars, Signals, Declared}
use Rattle.cir_ast.specs.Tree.{Created, Assigned, Constrain, Right, TargetLeft, TargetRight, Alone}
use Rattle.cir_meaning.specs.Tried.{Tried, Where, found, needed, next}
use Rattle.cir_meaning.specs.Arrays.{Datum}
use Rattle.cir_meaning.specs.Evaluate.{dims_in}
use Rattle.cir_meaning.specs.Frame.{Maker, Signals as Entries, State, World, at, counted, entry_at}
use Rattle.cir_meaning.specs.Frame.{in_frame}
use Rattle.cir_meaning.specs.Anonymous.{Lifted, lift_simple}
use Rattle.cir_meaning.specs.Writing.{SignalAssignment, is_unknown, plain, signal_assignment}
use Rattle.cir_meaning.specs.Writing.{variable_assignment}
use Rattle.cir_meaning.specs.Declaring.{Creation, add_part, create, create_each, creation}
use Rattle.cir_meaning.specs.Declaring.{declare_component, declare_signal, declare_variable, may_be}
use Rattle.cir_meaning.specs.Declaring.{opened, path_of, template_of}
use Rattle.cir_meaning.specs.Simple as simple
use Rattle.cir_meaning.specs.Simple.{component_declaration, declared_number, dropped, equal}
use Rattle.cir_meaning.specs.Simple.{values_of}
use Rattle.cir_steps.specs.Emission.{Emission, Emitted, behind, emit_known, known_in, made_elements}
use Rattle.cir_steps.specs.Emission.{quiet, then_emit, with_signal, with_state}
use Rattle.cir_steps.specs.Step.{Step}
use Rattle.cir_steps.specs.Making.{Cast, Caster, Emitting, freed_at, with_cast}
use Rattle.cir_steps.specs.Emit.{emit_assigned, emit_counted, emit_create, emit_created, emit_each}
use Rattle.cir_steps.specs.Emit.{emit_execute, emit_execute_counted, emit_initial}
use Rattle.cir_steps.specs.Emit.{emit_initial_signal, emit_lifted, emit_number, emit_set_place}
use Rattle.cir_steps.specs.Emit.{emit_set_signal, emit_set_variable, emit_signal, emit_simple}
use Rattle.cir_steps.specs.Emit.{emit_slot, emit_slots, emit_tuple, emit_variable, make_wiring}

-- ---- what is known
abbrev pub Tells : {B : Type 0} → (State → B) → Tried B → Tried Emitted → Type 0
Tells wrap m r = m ≡ next r (λ y. Ok (wrap (known_in y.state)))

abbrev pub Mirrors : Tried State → Tried Emitted → Type 0
Mirrors m r = Tells (λ s. s) m r

module _ {B : Type 0} (wrap : State → B) where
  abbrev pub told_of : Tried Emitted → Tried B
  told_of r = next r (λ y. Ok (wrap (known_in y.state)))

  behind_tells : (steps : List Step) (r : Tried Emitted) → told_of r ≡ told_of (behind steps r)
  behind_tells steps (Ok y) = refl
  behind_tells steps (Err e) = refl

  pub then_tells : (m : Tried State) (r : Tried Emitted) (go : State → Tried B)
      (on : Emission → Tried Emitted) → Mirrors m r
      → ((y : Emission) → Tells wrap (go (known_in y)) (on y))
      → Tells wrap (next m go) (then_emit r on)
  then_tells m (Ok y) go on h f =
      ap (λ z. next z go) h ∙ f y.state ∙ behind_tells y.steps (on y.state)
  then_tells m (Err e) go on h f = ap (λ z. next z go) h

  -- the same step in both
  pub both_tell : {A : Type 0} (m : Tried A) (go : A → Tried B) (on : A → Tried Emitted)
      → ((a : A) → Tells wrap (go a) (on a)) → Tells wrap (next m go) (next m on)
  both_tell (Ok a) go on f = f a
  both_tell (Err e) go on f = refl

-- what the compile meaning is asked for as a whole
pub alone : (m : Tried State) (on : State → Tried Emitted)
    → ((s : State) → m ≡ Ok s → Mirrors (Ok s) (on s)) → Mirrors m (next m on)
alone (Ok s) on f = f s refl
alone (Err e) on f = refl

-- after a part of it
twice : {A : Type 0} (m : Tried A) (go : A → Tried State) (on : A → State → Tried Emitted)
    → ((a : A) → Mirrors (go a) (next (go a) (on a)))
    → Mirrors (next m go) (next m (λ a. next (next m go) (on a)))
twice (Ok a) go on f = f a
twice (Err e) go on f = refl

either_mirrors : (b : Bool) (s : State) (r t : Tried Emitted) → Mirrors (Ok s) r
    → Mirrors (Ok s) t → Mirrors (Ok s) (if b then r else t)
either_mirrors true s r t h g = h
either_mirrors false s r t h g = g

pub known_mirrors : (go : State → Tried State) (x : Emission)
    → Mirrors (go (known_in x)) (emit_known go x)
known_mirrors go x = alone (go (known_in x)) (λ s. quiet (with_state s x)) (λ s is. refl)

-- a test, and what is found
needed_mirrors : (test : Bool) (w : Where) (kind : Kind) (m : Tried State)
    (on : State → Tried Emitted) → Mirrors m (next m on)
    → Mirrors (needed test w kind m) (next (needed test w kind m) on)
needed_mirrors true w kind m on h = h
needed_mirrors false w kind m on h = refl

found_mirrors : {A : Type 0} (w : Where) (kind : Kind) (o : Option A) (go : A → Tried State)
    (on : State → Tried Emitted)
    → ((a : A) → o ≡ Some a → Mirrors (go a) (next (go a) on))
    → Mirrors (next (found w kind o) go) (next (next (found w kind o) go) on)
found_mirrors w kind (Some a) go on f = f a refl
found_mirrors w kind None go on f = refl

made_mirrors : {A : Type 0} (m : Tried A) (state : A → State) (on : State → Tried Emitted)
    → ((a : A) → m ≡ Ok a → Mirrors (Ok (state a)) (on (state a)))
    → Mirrors (next m (λ a. Ok (state a))) (next (next m (λ a. Ok (state a))) on)
made_mirrors (Ok a) state on f = f a refl
made_mirrors (Err e) state on f = refl

-- one after the other
each_mirrors : {A : Type 0} (f : A → State → Tried State) (g : A → Emission → Tried Emitted)
    (as' : List A) (x : Emission)
    → ((a : A) (y : Emission) → Mirrors (f a (known_in y)) (g a y))
    → Mirrors (simple.each f as' (known_in x)) (emit_each g as' x)
each_mirrors f g [] x h = refl
each_mirrors f g (a ∷ as') x h =
    then_tells (λ s. s) (f a (known_in x)) (g a x) (simple.each f as') (emit_each g as') (h a x)
    (λ y. each_mirrors f g as' y h)

number_mirrors : (w : Where) (m : Meant) (go : ℕ → Tried State) (on : ℕ → Tried Emitted)
    → ((n : ℕ) → Mirrors (go n) (on n)) → Mirrors (declared_number w m go) (emit_number w m on)
number_mirrors w (meant.Variable n) go on h = h n
number_mirrors w (meant.Signal direction n) go on h = h n
number_mirrors w (meant.Component n) go on h = h n
number_mirrors w meant.Other go on h = refl
number_mirrors w (meant.Template n) go on h = refl
number_mirrors w (meant.Function n) go on h = refl

-- ---- simple statements, where what is made at compile time has steps too
abbrev pub Agree : Option Maker → Caster → Type 0
Agree make cast =
    (m : Maker) → make ≡ Some m → (w : Where) (n : ℕ) (ds : List Datum) (path : List ℕ)
    (world : World) (start : ℕ) (a : Entries × World) → m w n ds path world ≡ Ok a
    → (o : Cast) × (cast w n ds path world start ≡ Ok o)

module _ (q : Emitting) (agree : Agree q.context.make q.cast) where
  variable_mirrors : (w : Where) (written : Assign Meant) (n : ℕ) (accessors : Accessors Meant)
      (e : Expr Meant) (x : Emission)
      → Mirrors (simple.set_variable q.context w written n accessors e (known_in x))
      (emit_set_variable q w written n accessors e x)
  variable_mirrors w written n accessors e x =
      twice (variable_assignment q.context w n accessors e (known_in x)) _ _
      (λ a. alone _ _ (λ s is. either_mirrors (is_unknown n a) s _ _ refl refl))

  wiring_mirrors : (w : Where) (written : Assign Meant) (m : Meant) (accessors : Accessors Meant)
      (arrow : Arrow) (e : Expr Meant) (x : Emission)
      → Mirrors (simple.set_signal q.context w written m accessors arrow e (known_in x))
      (emit_set_signal q w written m accessors arrow e x)
  wiring_mirrors w written m accessors arrow e x =
      twice (signal_assignment q.context w m accessors e (known_in x)) _ _
      (λ a. alone _ _ (λ s is. at a s a.target.reach.places))
    where
      at : (a : SignalAssignment) (s : State) (places : List ℕ)
          → Mirrors (Ok s) (make_wiring q w written accessors e a s places x)
      at a s [] = refl
      at a s (place ∷ places) = refl

  -- a component is created where its steps are made
  created_mirrors : (w : Where) (c : Creation) (x : Emission) (places : List ℕ)
      → Mirrors (create_each q.context w c places)
      (next (create_each q.context w c places) (λ s. emit_created q w c places s x))
  created_mirrors w c x [] = refl
  created_mirrors w c x (place ∷ places) =
      needed_mirrors (is_none (entry_at c.entry.parts place)) w SecondWrite _ _
      (found_mirrors w TooDeep q.context.make _ _ (λ make there.
      needed_mirrors (may_be c.template (template_of c.state.frame.parts c.entry.parts)) w
      (NotInProfile MixedComponents) _ _
      (made_mirrors (make w c.template c.arguments (path_of q.context c.entry c.indices)
      c.state.world) state _ (λ a made. cast_mirrors (state a)
      (agree make there w c.template c.arguments (path_of q.context c.entry c.indices)
      c.state.world x.next a made)))))
    where
      state : Entries × World → State
      state a =
          in_frame (add_part c.component c.entry place record {
            spot = w.spot;
            template = c.template;
            signals = opened a.0;
          }) (record (c.state) { world = a.1 })

      cast_mirrors : (s : State)
          → (o : Cast) × (q.cast w c.template c.arguments (path_of q.context c.entry c.indices)
          c.state.world x.next ≡ Ok o)
          → Mirrors (Ok s) (emit_created q w c (place ∷ places) s x)
      cast_mirrors s (o, is) =
          ap (λ (m : Tried Cast). told_of (λ z. z) (next m (λ o.
          behind (freed_at (Some (length x.bodies)) false (with_cast q.context w c o s x))
          (quiet (with_cast q.context w c o s x))))) (sym is)

  create_mirrors : (w : Where) (n : ℕ) (accessors : Accessors Meant) (e : Expr Meant)
      (x : Emission)
      → Mirrors (next (creation q.context w n accessors e (known_in x)) (create q.context w))
      (emit_create q w n accessors e x)
  create_mirrors w n accessors e x =
      both_tell (λ s. s) (creation q.context w n accessors e (known_in x)) (create q.context w) _
      (λ c. created_mirrors w c x c.places)

  place_mirrors : (w : Where) (written : Assign Meant) (m : Meant) (accessors : Accessors Meant)
      (e : Expr Meant) (x : Emission)
      → Mirrors (simple.set q.context w written m accessors e (known_in x))
      (emit_set_place q w written m accessors e x)
  place_mirrors w written (meant.Variable n) accessors e x =
      variable_mirrors w written n accessors e x
  place_mirrors w written (meant.Component n) accessors e x = create_mirrors w n accessors e x
  place_mirrors w written meant.Other accessors e x = refl
  place_mirrors w written (meant.Signal d n) accessors e x = refl
  place_mirrors w written (meant.Template n) accessors e x = refl
  place_mirrors w written (meant.Function n) accessors e x = refl

  assigned_mirrors : (w : Where) (written a : Assign Meant) (x : Emission)
      → Mirrors (simple.assigned q.context w written a (known_in x))
      (emit_assigned q w written a x)
  assigned_mirrors w written (Set name m accessors e) x = place_mirrors w written m accessors e x
  assigned_mirrors w written (Left name m accessors arrow e) x =
      wiring_mirrors w written m accessors arrow e x
  assigned_mirrors w written (Compound name m accessors op e) x = refl
  assigned_mirrors w written (Increment name m accessors) x = refl
  assigned_mirrors w written (Decrement name m accessors) x = refl

  initial_mirrors : (w : Where) (m : Meant) (o : Option (Expr Meant)) (x : Emission)
      → Mirrors (simple.initial q.context w m o (known_in x)) (emit_initial q w m o x)
  initial_mirrors w m None x = refl
  initial_mirrors w m (Some e) x = place_mirrors w (Set [] m done e) m done e x

  initial_signal_mirrors : (w : Where) (m : Meant) (v : SignalValue Meant) (x : Emission)
      → Mirrors (simple.initial_signal q.context w m v (known_in x))
      (emit_initial_signal q w m v x)
  initial_signal_mirrors w m Nothing x = refl
  initial_signal_mirrors w m (Given arrow e) x =
      wiring_mirrors w (Left [] m done arrow e) m done arrow e x

  declared_mirrors : (w : Where) (v : Variable Meant) (x : Emission)
      → Mirrors (simple.variable_declaration q.context w v (known_in x)) (emit_variable q w v x)
  declared_mirrors w v x =
      number_mirrors w v.meant _ _ (λ n.
      both_tell (λ s. s) (dims_in q.context w false v.dimensions (known_in x)) _ _
      (λ (dims, s). initial_mirrors w v.meant v.value
      (with_state (declare_variable n dims s) x)))

  signal_mirrors : (spot : Spot) (direction : Direction) (d : Signal Meant) (x : Emission)
      → Mirrors (simple.signal_declaration q.context spot direction d (known_in x))
      (emit_signal q spot direction d x)
  signal_mirrors spot direction d x =
      let w : Where = at q.context spot in
      number_mirrors w d.meant _ _ (λ n.
      both_tell (λ s. s) (dims_in q.context w false d.dimensions (known_in x)) _ _
      (λ (dims, s). initial_signal_mirrors w d.meant d.value (with_signal n (made_elements dims)
      (with_state (declare_signal q.context spot direction n d.name dims s) x))))

  slot_mirrors : (w : Where) (arrow : Arrow) (t : Slot Meant) (e : Expr Meant) (x : Emission)
      → Mirrors (simple.slot q.context w arrow t e (known_in x)) (emit_slot q w arrow t e x)
  slot_mirrors w arrow (SlotPlace name m accessors) e x =
      wiring_mirrors w (Left name m accessors arrow e) m accessors arrow e x
  slot_mirrors w arrow SlotDiscard e x = known_mirrors (dropped q.context w e) x

  slots_mirror : (w : Where) (arrow : Arrow) (ts : List (Slot Meant)) (es : List (Expr Meant))
      (x : Emission)
      → Mirrors (simple.slots q.context w arrow ts es (known_in x)) (emit_slots q w arrow ts es x)
  slots_mirror w arrow [] es x = refl
  slots_mirror w arrow (t ∷ ts) [] x = refl
  slots_mirror w arrow (t ∷ ts) (e ∷ es) x =
      then_tells (λ s. s) (simple.slot q.context w arrow t e (known_in x))
      (emit_slot q w arrow t e x) (simple.slots q.context w arrow ts es)
      (emit_slots q w arrow ts es) (slot_mirrors w arrow t e x)
      (λ y. slots_mirror w arrow ts es y)

  tuple_mirrors : (w : Where) (arrow : Arrow) (target : Target Meant) (es : List (Expr Meant))
      (x : Emission)
      → Mirrors (simple.tuple q.context w arrow target es (known_in x))
      (emit_tuple q w arrow target es x)
  tuple_mirrors w arrow Discard es x =
      each_mirrors (dropped q.context w) (λ e. emit_known (dropped q.context w e)) es x
      (λ e y. known_mirrors (dropped q.context w e) y)
  tuple_mirrors w arrow (Slots ts) es x = slots_mirror w arrow ts es x

  execute_mirrors : (spot : Spot) (a : Simple Meant) (x : Emission)
      → Mirrors (simple.execute q.context spot a (known_in x)) (emit_execute q spot a x)
  execute_mirrors spot (Vars vs) x =
      each_mirrors (simple.variable_declaration q.context (at q.context spot)) _ vs x
      (declared_mirrors (at q.context spot))
  execute_mirrors spot (Signals direction ds) x =
      each_mirrors (simple.signal_declaration q.context spot direction) _ ds x
      (signal_mirrors spot direction)
  execute_mirrors spot (Declared cs) x =
      each_mirrors (component_declaration q.context (at q.context spot))
      (λ c. emit_known (component_declaration q.context (at q.context spot) c)) cs x
      (λ c y. known_mirrors (component_declaration q.context (at q.context spot) c) y)
  execute_mirrors spot (Created name m e) x =
      number_mirrors (at q.context spot) m _ _ (λ n. create_mirrors (at q.context spot) n done e
      (with_state (declare_component n name [] (known_in x)) x))
  execute_mirrors spot (Assigned a) x = assigned_mirrors (at q.context spot) a (plain a) x
  execute_mirrors spot (Constrain a b) x =
      alone (equal q.context (at q.context spot) a b (known_in x)) _ (λ s is. refl)
  execute_mirrors spot (TargetLeft target arrow source) x =
      tuple_mirrors (at q.context spot) arrow target (values_of source) x
  execute_mirrors spot (Right e arrow name m accessors) x = refl
  execute_mirrors spot (TargetRight source arrow target) x = refl
  execute_mirrors spot (Alone parallel name m arguments inputs) x = refl

  counted_mirrors : (spot : Spot) (a : Simple Meant) (x : Emission)
      → Mirrors (simple.execute_counted q.context spot a (known_in x))
      (emit_execute_counted q spot a x)
  counted_mirrors spot a x =
      then_tells (λ s. s) (simple.execute q.context spot a (known_in x)) (emit_execute q spot a x)
      (counted (at q.context spot)) (emit_counted q spot) (execute_mirrors spot a x)
      (known_mirrors (counted (at q.context spot)))

  pub simple_mirrors : (spot : Spot) (a : Simple Meant) (x : Emission)
      → Mirrors (simple.simple q.context spot a (known_in x)) (emit_simple q spot a x)
  simple_mirrors spot a x =
      at (lift_simple q.context.program q.context.named_components a
      (length (known_in x).frame.components))
    where
      at : (l : Lifted (Simple Meant))
          → Mirrors (simple.lifted q.context spot l (known_in x)) (emit_lifted q spot l x)
      at l =
          then_tells (λ s. s)
          (simple.each (simple.execute_counted q.context spot) l.before (known_in x))
          (emit_each (emit_execute_counted q spot) l.before x)
          (simple.execute_counted q.context spot l.value) (emit_execute_counted q spot l.value)
          (each_mirrors (simple.execute_counted q.context spot) (emit_execute_counted q spot)
          l.before x (counted_mirrors spot)) (counted_mirrors spot l.value)
