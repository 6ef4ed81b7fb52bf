-- What creates a component, behind its arguments and the place.
use Rattle.std.proofs.Common.{◌≡◌, ◌∙◌, ◌^◌, ◌++◌, ◌∷◌, [], false, ℕ, List, length, map, Some}
use Rattle.std.proofs.Common.{Result, Ok, Err, ap, sym, subst}
use Rattle.std.specs.Prelude.{IsErrAnd}
use Rattle.gold_field.specs.declared.form.Constraint.{Constraint}
use Rattle.cir_ast.specs.declared.program.Meant.{Meant}
use Rattle.cir_ast.specs.Tree.{Accessors, Expr}
use Rattle.cir_meaning.specs.Tried.{Where, Tried, next}
use Rattle.cir_meaning.specs.Costs.{Made as Key}
use Rattle.cir_meaning.specs.Declaring.{Creation, add_part, create, creation, opened, path_of}
use Rattle.cir_meaning.specs.Frame.{State, ComponentEntry, Context, Maker, World as AnyWorld}
use Rattle.cir_meaning.specs.Frame.{Signals, entry_at, in_frame}
use Rattle.cir_meaning.specs.Source.{Equation, IsSource}
use Rattle.cir_arrays.specs.declared.stop.Fault.{Fault}
use Rattle.cir_arrays.specs.Stopped.{IsRefusal}
use Rattle.cir_arrays.proofs.Exits.{exits}
use Rattle.cir_frame.specs.declared.world.World.{World}
use Rattle.cir_frame.specs.Shown.{state_of}
use Rattle.cir_evaluate.specs.Within.{Kept, kept_of}
use Rattle.cir_create.proofs.Opened.{making}
use Rattle.cir_assign.specs.Leads.{IsListed}
use Rattle.cir_meaning.specs.Arrays.{Datum}
use Rattle.cir_arrays.specs.declared.stop.Fault.TheVariants.{OutOfMemory, Refused}
use Rattle.cir_arrays.specs.Shown.{datum_of}
use Rattle.cir_create.specs.Declares.{IsCreation}
use Rattle.cir_create.specs.declared.creating.Creation.{Creation as CodeCreation}
use Rattle.cir_steps.specs.Emission.{Emission, Emitted, behind, known_in, quiet}
use Rattle.cir_steps.specs.Making.{Cast as AnyCast, Emitting, freed_at, with_cast}
use Rattle.cir_steps.specs.Step.{Step}
use Rattle.cir_steps.specs.Emit.{emit_create, emit_created}
use Rattle.cir_make.specs.declared.whole.Inside.{Inside}
use Rattle.cir_make.specs.declared.whole.Whole.{Whole}
use Rattle.cir_make.specs.Emits.{Emits, go_on}
use Rattle.cir_make.specs.Shows.{Shows, equations_in}
use Rattle.cir_make.proofs.Going.{append_none, emits_as, emits_refused}

-- evaluation adds no constraint
pub evaluated_listed : (qs : List Equation) (old mid new : World) → kept_of mid ≡ kept_of old
    → kept_of new ≡ kept_of mid → IsListed qs old → IsListed qs new
evaluated_listed qs old mid new a b h =
    subst (λ (ks : List Constraint). IsSource (2 ^ 32) qs ks)
    (sym (ap (λ (k : Kept). k.constraints) b ∙ ap (λ (k : Kept). k.constraints) a)) h

pub still_listed : (qs : List Equation) (old new : World)
    → new.constraints.items ≡ old.constraints.items → IsListed qs old → IsListed qs new
still_listed qs old new e h =
    subst (λ (ks : List Constraint). IsSource (2 ^ 32) qs ks) (sym e) h

module _ (p : List Key) (q : Emitting) (w : Where) (n : ℕ) (accessors : Accessors Meant)
    (e : Expr Meant) (i j : Inside) (u v : Whole) (d : Emitted) (shows : Shows p i u d) where
  abbrev rest : Creation → Tried Emitted
  rest c =
      next (create q.context w c) (λ s. emit_created q w c c.places s d.state)

  pub created_stops : {A : Type 0} (r : Result A Fault) (f : Fault) → IsErrAnd r (λ x. x ≡ f)
      → IsRefusal f (creation q.context w n accessors e
      (state_of i.frame u.world (equations_in d.state)))
      → Emits p j v r (go_on d (emit_create q w n accessors e))
  created_stops r f is h =
      let m : Tried Creation = creation q.context w n accessors e (known_in d.state) in
      emits_refused p j v r f (go_on d (emit_create q w n accessors e)) is
      (exits f (next m rest) (λ x. Ok record { state = x.state; steps = d.steps ++ x.steps })
      (exits f m rest (subst (λ (s : State). IsRefusal f
      (creation q.context w n accessors e s)) (sym shows.state) h)))

  pub created_emits : {A : Type 0} (r : Result A Fault) (c : Creation)
      → creation q.context w n accessors e (state_of i.frame u.world (equations_in d.state))
      ≡ Ok c → Emits p j v r (behind d.steps (rest c))
      → Emits p j v r (go_on d (emit_create q w n accessors e))
  created_emits r c is h =
      emits_as p j v r (go_on d (emit_create q w n accessors e)) (behind d.steps (rest c))
      (ap (λ (s : State). behind d.steps (next (creation q.context w n accessors e s) rest))
      shows.state ∙ ap (λ (m : Tried Creation). behind d.steps (next m rest)) is) h

-- ---- the making of a component, and its steps
stops_behind : {A : Type 0} (f : Fault) (steps : List Step) (m : Tried A) (go : A → Tried Emitted)
    → IsRefusal f m → IsRefusal f (behind steps (next m go))
stops_behind f steps m go h =
    exits f (next m go) (λ x. Ok record { state = x.state; steps = steps ++ x.steps })
    (exits f m go h)

pub create_stops : (f : Fault) (steps : List Step) (k : Context) (w : Where) (x : Creation)
    (go : State → Tried Emitted) → IsRefusal f (create k w x)
    → IsRefusal f (behind steps (next (create k w x) go))
create_stops f steps k w x go h = stops_behind f steps (create k w x) go h

-- what is made and cast
pub made_both : {A B : Type 0} (m : Tried A) (c : Tried B) (a : A) (b : B)
    → next {B = A × B} m (λ a. next {B = A × B} c (λ b. Ok (a, b))) ≡ Ok (a, b)
    → (m ≡ Ok a) × (c ≡ Ok b)
made_both {A = A} {B = B} (Ok y) (Ok z) a b h =
    let same : ◌≡◌ {A = A × B} (y, z) (a, b) = cc in
    (ap (λ (p : A × B). Ok p.0) same, ap (λ (p : A × B). Ok p.1) same)
made_both (Ok y) (Err e) a b h = absurd (cc)
made_both (Err e) c a b h = absurd (cc)

-- one of the two refuses
pub cast_stops : {A B : Type 0} (f : Fault) (m : Tried A) (c : Tried B) (st : A → State)
    (tail : State → B → Tried Emitted)
    → IsRefusal {A = A × B} f (next m (λ a. next c (λ b. Ok (a, b))))
    → IsRefusal f (next (next m (λ a. Ok (st a))) (λ s. next c (tail s)))
cast_stops f (Err e) c st tail h = h
cast_stops f (Ok a) (Err e) st tail h = h
cast_stops (Refused r) (Ok a) (Ok b) st tail h = absurd (cc)
cast_stops OutOfMemory (Ok a) (Ok b) st tail h = tt

-- the arguments are the code's
pub arguments_at : {T : Type 0} (s : State) (c : CodeCreation) (x : Creation) (e : ComponentEntry)
    (k : Context) (path : List ℕ) (go : ℕ → List Datum → List ℕ → AnyWorld → T)
    → IsCreation s c x → Some e ≡ entry_at s.frame.components c.component
    → path ≡ path_of k e c.indices.items
    → go x.template x.arguments (path_of k x.entry x.indices) x.state.world
    ≡ go c.template (map datum_of c.arguments.items) path s.world
arguments_at s c x e k path go is there spelled =
    let both : Some e ≡ Some x.entry = there ∙ is.entry in
    let entry : e ≡ x.entry = cc in
    let ds : List Datum = map datum_of c.arguments.items in
    let full : path_of k x.entry x.indices ≡ path =
    ap (λ (e : ComponentEntry). path_of k e x.indices) (sym entry)
    ∙ ap (λ (l : List ℕ). path_of k e l) is.indices ∙ sym spelled in
    ap (λ (n : ℕ). go n x.arguments (path_of k x.entry x.indices) x.state.world) is.template
    ∙ ap (λ (l : List Datum). go c.template l (path_of k x.entry x.indices) x.state.world)
    is.arguments ∙ ap (λ (p : List ℕ). go c.template ds p x.state.world) full
    ∙ ap (λ (z : State). go c.template ds path z.world) is.state

-- what is emitted behind it
pub emits_cast : (q : Emitting) (w : Where) (x : Creation) (z : Emission) (steps : List Step)
    (s : State) (place : ℕ) (o : AnyCast) → create q.context w x ≡ Ok s
    → x.places ≡ place ∷ [] → q.cast w x.template x.arguments
    (path_of q.context x.entry x.indices) x.state.world z.next ≡ Ok o
    → behind steps (next (create q.context w x) (λ s. emit_created q w x x.places s z))
    ≡ Ok record {
      state = with_cast q.context w x o s z;
      steps = steps ++ freed_at (Some (length z.bodies)) false (with_cast q.context w x o s z);
    }
emits_cast q w x z steps s place o created places cast =
    ap (λ (m : Tried State). behind steps (next m (λ s. emit_created q w x x.places s z))) created
    ∙ ap (λ (ps : List ℕ). behind steps (emit_created q w x ps s z)) places
    ∙ ap (λ (m : Tried AnyCast). behind steps (next m (λ o.
    behind (freed_at (Some (length z.bodies)) false (with_cast q.context w x o s z))
    (quiet (with_cast q.context w x o s z))))) cast
    ∙ ap (λ (l : List Step). Ok record {
      state = with_cast q.context w x o s z;
      steps = steps ++ l;
    }) (append_none (freed_at (Some (length z.bodies)) false (with_cast q.context w x o s z)))

pub cast_refuses : (q : Emitting) (w : Where) (x : Creation) (z : Emission) (steps : List Step)
    (place : ℕ) (maker : Maker) (f : Fault) → create q.context w x
    ≡ making q.context w x place maker → x.places ≡ place ∷ []
    → IsRefusal {A = (Signals × AnyWorld) × AnyCast} f (next (maker w x.template x.arguments
    (path_of q.context x.entry x.indices) x.state.world)
    (λ made. next (q.cast w x.template x.arguments (path_of q.context x.entry x.indices)
    x.state.world z.next) (λ o. Ok (made, o))))
    → IsRefusal f (behind steps (next (create q.context w x)
    (λ s. emit_created q w x x.places s z)))
cast_refuses q w x z steps place maker f making_it places h =
    subst (λ (ps : List ℕ). IsRefusal f (behind steps (next (create q.context w x)
    (λ s. emit_created q w x ps s z)))) (sym places)
    (subst (λ (m : Tried State). IsRefusal f (behind steps (next m
    (λ s. emit_created q w x (place ∷ []) s z)))) (sym making_it)
    (exits f _ (λ (x : Emitted). Ok record { state = x.state; steps = steps ++ x.steps })
    (cast_stops f (maker w x.template x.arguments (path_of q.context x.entry x.indices)
    x.state.world) (q.cast w x.template x.arguments
    (path_of q.context x.entry x.indices) x.state.world z.next)
    (λ (signals, world). in_frame (add_part x.component x.entry place record {
      spot = w.spot;
      template = x.template;
      signals = opened signals;
    }) (record (x.state) { world = world }))
    (λ s o. behind (freed_at (Some (length z.bodies)) false (with_cast q.context w x o s z))
    (quiet (with_cast q.context w x o s z))) h)))
