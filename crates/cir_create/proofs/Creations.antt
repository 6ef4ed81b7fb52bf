-- What is created, in parts.
use Rattle.std.proofs.Common.{◌≡◌, ℕ, Bool, true, false, List, [], ◌∷◌, length}
use Rattle.std.proofs.Common.{Option, Some, None, Result, Ok, refl, ap, sym, subst, ◌∙◌}
use Rattle.std.proofs.Common.{arith}
use Rattle.std.specs.Prelude.{◌||◌, if◌then◌else◌, is_some}
use Rattle.cir_ast.specs.declared.program.Meant.{Meant}
use Rattle.cir_ast.specs.declared.refusal.Kind.TheVariants.{OutOfBounds, ReadBeforeWrite}
use Rattle.cir_ast.specs.declared.refusal.Kind.TheVariants.{ShapeDiffers, UnknownIndex}
use Rattle.cir_ast.specs.Tree.{Expr, Accessors, Exprs, done}
use Rattle.cir_meaning.specs.Tried.{Where, Tried, next, found, needed, refused}
use Rattle.cir_meaning.specs.Places.{all_known, is_inside, left_of, places_of}
use Rattle.cir_meaning.specs.Arrays.{Datum, Want, Scalar, Reach, reach, fits}
use Rattle.cir_meaning.specs.Frame.{ComponentEntry, State, Context, entry_at}
use Rattle.cir_meaning.specs.Evaluate.{arguments_in, indices_in}
use Rattle.cir_meaning.specs.Declaring.{Creation, create, created_at, creation, declare_component}
use Rattle.cir_meaning.specs.Declaring.{template_call}
use Rattle.cir_arrays.specs.declared.stop.Fault.{Fault}
use Rattle.cir_arrays.specs.Stopped.{IsRefusal}
use Rattle.cir_arrays.proofs.Exits.{exits}
use Rattle.cir_frame.specs.declared.frame.Frame.{Frame}
use Rattle.cir_frame.specs.declared.world.World.{World}
use Rattle.cir_create.specs.declared.creating.Creation.{Creation as CodeCreation}
use Rattle.cir_assign.specs.Leads.{Leads}
use Rattle.cir_create.specs.Declares.{Creates, IsCreation}
use Rattle.cir_evaluate.specs.Parts.{indexed}
use Rattle.cir_assign.proofs.Indexed.{indices_first}
use Rattle.cir_assign.proofs.Stepping.{leads_after, leads_behind, leads_go, lists_kept}
use Rattle.cir_meaning.specs.Simple.{declared_number}
use Rattle.cir_frame.specs.Shown.{state_of}
use Rattle.cir_meaning.specs.Source.{Equation}

-- a part that is reached has its indices inside
pub reach_inside : (w : Where) (want : Want) (dims : List ℕ) (is : List (Option ℕ)) (r : Reach)
    → reach w false want dims is ≡ Ok r → is_inside dims is ≡ true
reach_inside w want dims is r h = at (left_of dims is) (is_inside dims is) h
  where
    at : (o : Option (List ℕ)) (b : Bool) → next (found w ShapeDiffers o) (λ left.
        needed (b || false) w OutOfBounds (needed (fits want left) w ShapeDiffers
        (Ok (if b
        then record { left = left; is_sure = is_some (all_known is); places = places_of dims is }
        else record { left = left; is_sure = false; places = [] })))) ≡ Ok r → b ≡ true
    at None b h = absurd (cc)
    at (Some left) true h = refl
    at (Some left) false h = absurd (cc)

pub unknown_index : (w : Where) (n : ℕ) (is : List (Option ℕ)) (t : ℕ) (ds : List Datum)
    (s : State) (c : ComponentEntry) → entry_at s.frame.components n ≡ Some c
    → all_known is ≡ None → created_at w n is t ds s ≡ refused w UnknownIndex
unknown_index w n is t ds s c e a = rw (e, a) refl

pub not_there : (w : Where) (n : ℕ) (is : List (Option ℕ)) (t : ℕ) (ds : List Datum)
    (s : State) → entry_at s.frame.components n ≡ None
    → created_at w n is t ds s ≡ refused w ReadBeforeWrite
not_there w n is t ds s e = rw e refl

pub not_reached : (w : Where) (n : ℕ) (is : List (Option ℕ)) (t : ℕ) (ds : List Datum)
    (s : State) (c : ComponentEntry) (numbers : List ℕ)
    → entry_at s.frame.components n ≡ Some c
    → all_known is ≡ Some numbers → created_at w n is t ds s
    ≡ next (reach w false Scalar c.dims is) (λ r. Ok record {
      component = n;
      entry = c;
      indices = numbers;
      places = r.places;
      template = t;
      arguments = ds;
      state = s;
    })
not_reached w n is t ds s c numbers e a = rw (e, a) refl

-- what is to be created
pub created_ok : (w : Where) (n : ℕ) (is : List (Option ℕ)) (t : ℕ) (ds : List Datum)
    (s : State) (c : ComponentEntry) (numbers : List ℕ) (r : Reach)
    → entry_at s.frame.components n ≡ Some c → all_known is ≡ Some numbers
    → reach w false Scalar c.dims is ≡ Ok r
    → created_at w n is t ds s ≡ Ok record {
      component = n;
      entry = c;
      indices = numbers;
      places = r.places;
      template = t;
      arguments = ds;
      state = s;
    }
created_ok w n is t ds s c numbers r e a h =
    not_reached w n is t ds s c numbers e a
    ∙ ap (λ (z : Tried Reach). next {B = Creation} z (λ r. Ok record {
      component = n;
      entry = c;
      indices = numbers;
      places = r.places;
      template = t;
      arguments = ds;
      state = s;
    })) h

-- one place of a list of one element
pub one_place : (ps : List ℕ) → length ps ≡ 1 → (q : ℕ) × (ps ≡ q ∷ [])
one_place [] h = absurd (omega arith)
one_place (q ∷ []) h = (q, refl)
one_place (q ∷ (p ∷ ps)) h = absurd (omega arith)

pub scalar_left : (left : List ℕ) → fits Scalar left ≡ true → left ≡ []
scalar_left [] h = refl
scalar_left (d ∷ ds) h = absurd (cc)

-- the indices of the place, and what is created there
abbrev pub placed : Context → Where → ℕ → Accessors Meant → (template : ℕ)
    → List Datum → State → Tried Creation
placed k w n accessors t ds s =
    indices_in k w false [] accessors s (λ indices rest s2. created_at w n indices t ds s2)

-- the arguments come first
pub arguments_first : (k : Context) (w : Where) (n t : ℕ) (accessors : Accessors Meant)
    (e : Expr Meant) (es : Exprs Meant) (s : State)
    → ((go : ℕ → Exprs Meant → Tried Creation) → template_call w e go ≡ go t es)
    → creation k w n accessors e s
    ≡ next (arguments_in k w es s) (λ (ds, s1). placed k w n accessors t ds s1)
arguments_first k w n t accessors e es s called =
    called (λ t es. next (arguments_in k w es s) (λ (ds, s1). placed k w n accessors t ds s1))

pub arguments_refused : (k : Context) (w : Where) (n t : ℕ) (accessors : Accessors Meant)
    (e : Expr Meant) (es : Exprs Meant) (s : State) (f : Fault)
    → ((go : ℕ → Exprs Meant → Tried Creation) → template_call w e go ≡ go t es)
    → IsRefusal f (arguments_in k w es s) → IsRefusal f (creation k w n accessors e s)
arguments_refused k w n t accessors e es s f called h =
    subst (λ m. IsRefusal f m) (sym (arguments_first k w n t accessors e es s called))
    (exits f (arguments_in k w es s) _ h)

pub arguments_go : (k : Context) (w : Where) (n t : ℕ) (accessors : Accessors Meant)
    (e : Expr Meant) (es : Exprs Meant) (s after : State) (ds : List Datum)
    → ((go : ℕ → Exprs Meant → Tried Creation) → template_call w e go ≡ go t es)
    → arguments_in k w es s ≡ Ok (ds, after)
    → creation k w n accessors e s ≡ placed k w n accessors t ds after
arguments_go k w n t accessors e es s after ds called got =
    arguments_first k w n t accessors e es s called
    ∙ ap (λ (z : Tried (List Datum × State)). next z
    (λ (ds, s1). placed k w n accessors t ds s1)) got

-- then the indices
pub placed_refused : (k : Context) (w : Where) (n t : ℕ) (accessors : Accessors Meant)
    (ds : List Datum) (s : State) (f : Fault)
    → IsRefusal f (indices_in k w false [] accessors s indexed)
    → IsRefusal f (placed k w n accessors t ds s)
placed_refused k w n t accessors ds s f h =
    subst (λ m. IsRefusal f m) (sym (indices_first k w false [] accessors s _))
    (exits f (indices_in k w false [] accessors s indexed) _ h)

pub placed_goes : (k : Context) (w : Where) (n t : ℕ) (accessors rest : Accessors Meant)
    (ds : List Datum) (s after : State) (is : List (Option ℕ))
    → indices_in k w false [] accessors s indexed ≡ Ok (is, (rest, after))
    → placed k w n accessors t ds s ≡ created_at w n is t ds after
placed_goes k w n t accessors rest ds s after is got =
    indices_first k w false [] accessors s _
    ∙ ap (λ (z : Tried (List (Option ℕ) × (Accessors Meant × State))). next z
    (λ (is, (rest, s1)). created_at w n is t ds s1)) got

-- the arguments, the indices and the place, and then the creation
pub creation_leads : {A : Type 0} (k : Context) (w : Where) (n t : ℕ)
    (accessors rest : Accessors Meant) (e : Expr Meant) (es : Exprs Meant) (s s1 s2 : State)
    (ds : List Datum) (is : List (Option ℕ)) (c : CodeCreation) (qs : List Equation)
    (old mid new : World) (f : Frame) (r : Result A Fault)
    → ((go : ℕ → Exprs Meant → Tried Creation) → template_call w e go ≡ go t es)
    → arguments_in k w es s ≡ Ok (ds, s1)
    → indices_in k w false [] accessors s1 indexed ≡ Ok (is, (rest, s2))
    → Creates s2 (Ok c) (created_at w n is t ds s2)
    → mid.constraints.items ≡ old.constraints.items
    → ((x : Creation) → IsCreation s2 c x → Leads qs mid f new r (create k w x))
    → Leads qs old f new r (next (creation k w n accessors e s) (create k w))
creation_leads k w n t accessors rest e es s s1 s2 ds is c qs old mid new f r called got found
    made kept leads =
    leads_go qs old f new r (creation k w n accessors e s) made.0 (create k w)
    (arguments_go k w n t accessors e es s s1 ds called got
    ∙ (placed_goes k w n t accessors rest ds s1 s2 is found ∙ made.1))
    (leads_after qs qs old mid f new r (create k w made.0) (lists_kept qs old mid kept)
    (leads made.0 made.2))

-- a component that is declared and created at once
pub declared_leads : {A : Type 0} (k : Context) (w : Where) (m : Meant) (n : ℕ) (name : List ℕ)
    (e : Expr Meant) (qs : List Equation) (old mid new : World) (f g after : Frame)
    (r : Result A Fault) → ((go : ℕ → Tried State) → declared_number w m go ≡ go n)
    → state_of g mid qs ≡ declare_component n name [] (state_of f old qs)
    → mid.constraints.items ≡ old.constraints.items
    → Leads qs mid after new r (next (creation k w n done e (state_of g mid qs)) (create k w))
    → Leads qs old after new r (declared_number w m (λ n. next (creation k w n done e
    (declare_component n name [] (state_of f old qs))) (create k w)))
declared_leads k w m n name e qs old mid new f g after r number declared kept leads =
    leads_behind qs old mid after new r _ _
    (number (λ n. next (creation k w n done e (declare_component n name [] (state_of f old qs)))
    (create k w)) ∙ ap (λ (s : State). next (creation k w n done e s) (create k w))
    (sym declared)) kept leads
