-- An assignment to signals, in parts.
use Rattle.std.proofs.Common.{◌≡◌, ℕ, ◌+◌, Bool, true, false, List, [], ◌∷◌}
use Rattle.std.proofs.Common.{length, Ok, refl, ap, sym, subst, ◌∙◌, cond, arith}
use Rattle.cir_ast.specs.declared.program.Meant.{Meant}
use Rattle.cir_ast.specs.declared.operators.Arrow.{Arrow}
use Rattle.cir_ast.specs.declared.refusal.Kind.TheVariants.{ShapeDiffers}
use Rattle.cir_ast.specs.Tree.{Expr, Accessors, Assign, Left}
use Rattle.cir_meaning.specs.Tried.{Where, Tried, next, needed, refused}
use Rattle.cir_meaning.specs.Places.{places_of}
use Rattle.cir_meaning.specs.Arrays.{Datum, Whole, same_dims}
use Rattle.cir_meaning.specs.Frame.{Frame, State, Context, uncounted}
use Rattle.cir_meaning.specs.Evaluate.{value_in}
use Rattle.cir_meaning.specs.Writing.{Target, SignalAssignment, target_in, write_elements}
use Rattle.cir_meaning.specs.Writing.{write_signal}
use Rattle.cir_meaning.specs.Costs.{Cost, both, cost_of, indices_cost}
use Rattle.cir_meaning.specs.Steps.{signal_cost, stepped}
use Rattle.cir_meaning.specs.Simple.{set_signal, wired}
use Rattle.cir_arrays.specs.declared.reach.Part.{Part}
use Rattle.cir_arrays.specs.declared.reach.Part.TheVariants as part
use Rattle.cir_frame.specs.declared.writing.Target.{Target as CodeTarget}
use Rattle.cir_arrays.specs.declared.stop.Fault.{Fault}
use Rattle.cir_arrays.specs.Stopped.{IsRefusal}
use Rattle.cir_frame.specs.Targets.{run_of}
use Rattle.cir_arrays.proofs.Exits.{exits}
use Rattle.cir_assign.specs.Finds.{IsFound}
use Rattle.cir_assign.proofs.CostStates.{cost_same, indices_same}

module _ (k : Context) (w : Where) (written : Assign Meant) (m : Meant)
    (accessors : Accessors Meant) (arrow : Arrow) (e : Expr Meant) (s : State) where
  abbrev behind : SignalAssignment → Tried State
  behind a =
      next (write_signal k w arrow a) (wired k w (signal_cost k w written accessors e s)
      a.target.reach.places)

  abbrev shaped : Datum → Target × State → Tried SignalAssignment
  shaped d (t, s2) =
      needed (same_dims t.reach.left d.dims) w ShapeDiffers
      (Ok record { value = d; target = t; state = s2 })

  abbrev found : Datum × State → Tried SignalAssignment
  found (d, s1) = next (target_in k w m accessors s1) (shaped d)

  pub value_refused : (f : Fault) → IsRefusal f (value_in k w false Whole e s)
      → IsRefusal f (set_signal k w written m accessors arrow e s)
  value_refused f h =
      exits f (next (value_in k w false Whole e s) found) behind
      (exits f (value_in k w false Whole e s) found h)

  pub target_refused : (f : Fault) (d : Datum) (s1 : State)
      → value_in k w false Whole e s ≡ Ok (d, s1)
      → IsRefusal f (target_in k w m accessors s1)
      → IsRefusal f (set_signal k w written m accessors arrow e s)
  target_refused f d s1 p h =
      subst (λ (z : Tried (Datum × State)). IsRefusal f (next (next z found) behind)) (sym p)
      (exits f (next (target_in k w m accessors s1) (shaped d)) behind
      (exits f (target_in k w m accessors s1) (shaped d) h))

  signal_shaped : (d : Datum) (s1 s2 : State) (x : Target) (b : Bool)
      → value_in k w false Whole e s ≡ Ok (d, s1)
      → target_in k w m accessors s1 ≡ Ok (x, s2)
      → same_dims x.reach.left d.dims ≡ b → set_signal k w written m accessors arrow e s
      ≡ next (needed b w ShapeDiffers (Ok record { value = d; target = x; state = s2 })) behind
  signal_shaped d s1 s2 x b p q h =
      ap (λ (z : Tried (Datum × State)). next (next z found) behind) p
      ∙ ap (λ (z : Tried (Target × State)). next (next z (shaped d)) behind) q
      ∙ ap (λ (b : Bool). next (needed b w ShapeDiffers
      (Ok record { value = d; target = x; state = s2 })) behind) h

  pub signal_goes : (d : Datum) (s1 s2 : State) (x : Target)
      → value_in k w false Whole e s ≡ Ok (d, s1)
      → target_in k w m accessors s1 ≡ Ok (x, s2)
      → same_dims x.reach.left d.dims ≡ true → set_signal k w written m accessors arrow e s
      ≡ next (write_elements k w arrow x x.reach.places d.items s2)
      (wired k w (signal_cost k w written accessors e s) x.reach.places)
  signal_goes d s1 s2 x p q h = signal_shaped d s1 s2 x true p q h

  pub signal_differs : (d : Datum) (s1 s2 : State) (x : Target)
      → value_in k w false Whole e s ≡ Ok (d, s1)
      → target_in k w m accessors s1 ≡ Ok (x, s2) → same_dims x.reach.left d.dims ≡ false
      → set_signal k w written m accessors arrow e s ≡ refused w ShapeDiffers
  signal_differs d s1 s2 x p q h = signal_shaped d s1 s2 x false p q h

no_length : (ps : List ℕ) → length ps ≡ 0 → ps ≡ []
no_length [] h = refl
no_length (p ∷ ps) h = absurd (omega arith)

-- whether a signal is written at all
pub places_none : (f : Frame) (t : CodeTarget) (x : Target) → IsFound f t x
    → (run_of t.reach.part).1 ≡ 0 → x.reach.places ≡ []
places_none f t x found h = at t.reach.part refl h
  where
    at : (p : Part) → t.reach.part ≡ p → (run_of p).1 ≡ 0 → x.reach.places ≡ []
    at (part.Known first count) is h =
        let counted = rw is at found.target.reach.count in
        no_length x.reach.places (omega (arith, counted, h))
    at part.Unknown is h =
        let kind = rw is at found.target.reach.kind in
        absurd (cc (kind.1, found.known))
    at part.Outside is h =
        let kind = rw is at found.target.reach.kind in
        sym found.target.reach.all
        ∙ ap (λ (b : Bool). cond b (places_of found.target.entry.dims found.indices) []) kind

pub nothing_wired : (k : Context) (w : Where) (arrow : Arrow) (cost : Cost) (x : Target)
    (d : Datum) (s : State) → x.reach.places ≡ []
    → next (write_elements k w arrow x x.reach.places d.items s) (wired k w cost x.reach.places)
    ≡ Ok s
nothing_wired k w arrow cost x d s h =
    ap (λ (ps : List ℕ). next (write_elements k w arrow x ps d.items s) (wired k w cost ps)) h

pub wired_some : (k : Context) (w : Where) (cost : Cost) (f : Frame) (t : CodeTarget) (x : Target)
    (s : State) → IsFound f t x → ((run_of t.reach.part).1 ≡ 0 → ⊥)
    → wired k w cost x.reach.places s ≡ stepped k w cost 0 s
wired_some k w cost f t x s found some = at x.reach.places refl
  where
    none : x.reach.places ≡ [] → (p : Part) → t.reach.part ≡ p → (run_of p).1 ≡ 0
    none e (part.Known first count) is =
        let counted = rw is at found.target.reach.count in
        omega (arith, counted, ap (λ (ps : List ℕ). length ps) e)
    none e part.Unknown is = refl
    none e part.Outside is = refl

    at : (ps : List ℕ) → x.reach.places ≡ ps → wired k w cost x.reach.places s
        ≡ stepped k w cost 0 s
    at [] e = absurd (some (none e t.reach.part refl))
    at (p ∷ ps) e = ap (λ (ps : List ℕ). wired k w cost ps s) e

pub signal_cost_same : (k : Context) (w : Where) (name : List ℕ) (m : Meant) (arrow : Arrow)
    (accessors : Accessors Meant) (e : Expr Meant) (s t : State) → uncounted s ≡ uncounted t
    → signal_cost k w (Left name m accessors arrow e) accessors e s
    ≡ signal_cost k w (Left name m accessors arrow e) accessors e t
signal_cost_same k w name m arrow accessors e s t h =
    ap (λ (c : Cost). by c (indices_cost k w false accessors s))
    (cost_same k w s t h false e)
    ∙ ap (λ (c : Cost). by (cost_of k w false e t) c) (indices_same k w s t h false accessors)
  where
    by : Cost → Cost → Cost
    by c d = record (both c d) { nodes = 1 + (1 + (d.nodes + c.nodes)) }
