-- Writes of signals with their steps.
use Rattle.std.proofs.Common.{◌≡◌, ◌∙◌, ℕ, Bool, true, false, cond, List, [], ◌∷◌, length, Option}
use Rattle.std.proofs.Common.{◌+◌, ◌++◌, None, Some, Ok, append_assoc, map, refl, sym, ap, subst}
use Rattle.std.proofs.Common.{arith}
use Rattle.std.specs.Prelude.{not, slice_get, unwrap_or}
use Rattle.cir_ast.specs.declared.program.Meant.{Meant}
use Rattle.cir_ast.specs.Tree.{Accessors, Assign, Expr}
use Rattle.cir_meaning.specs.Tried.{Where, Tried, found as finding, needed, next, refused}
use Rattle.cir_ast.specs.declared.operators.Arrow.{Arrow}
use Rattle.cir_ast.specs.declared.refusal.Kind.TheVariants.{ReadBeforeWrite, SecondWrite}
use Rattle.cir_ast.specs.declared.refusal.Kind.TheVariants.{ShapeDiffers}
use Rattle.cir_lc.specs.Number.{signal}
use Rattle.cir_meaning.specs.Limits.{Counts, is_too_large, standing}
use Rattle.cir_meaning.specs.Places.{elements, numbers_from, places_of}
use Rattle.cir_meaning.specs.Values.{Value, Linear}
use Rattle.cir_meaning.specs.Arrays.{Datum, Whole, same_dims}
use Rattle.cir_meaning.specs.Evaluate.{value_in}
use Rattle.cir_meaning.specs.Frame.{Context, SignalEntry, State, entry_at, in_frame, is_written}
use Rattle.cir_meaning.specs.Frame.{Frame, is_fed, put_at}
use Rattle.cir_meaning.specs.Steps.{signal_cost}
use Rattle.cir_meaning.specs.Writing.{SignalAssignment, Target, constrained_by, marked}
use Rattle.cir_meaning.specs.Writing.{signal_assignment, signals_of, target_in, with_signals}
use Rattle.cir_meaning.specs.Writing.{part_signals, write_elements}
use Rattle.cir_arrays.specs.Made.{made_count}
use Rattle.cir_arrays.specs.declared.reach.Part.{Part}
use Rattle.cir_arrays.specs.declared.reach.Part.TheVariants as part
use Rattle.cir_frame.specs.declared.frame.Frame.{Frame as CodeFrame}
use Rattle.cir_frame.specs.declared.writing.Target.{Target as CodeTarget}
use Rattle.cir_frame.specs.Shown.{frame_of}
use Rattle.cir_frame.specs.Targets.{run_of, target_by}
use Rattle.cir_assign.specs.Finds.{IsFound}
use Rattle.cir_assign.proofs.Wires.{marks_of}
use Rattle.cir_steps.specs.Emission.{Emission, known_in, ports_of, step_of, wire_cell, with_state}
use Rattle.cir_steps.specs.Making.{Emitting, freed_at, wiring, written_elements}
use Rattle.cir_steps.specs.Step.{Step, Valuing}
use Rattle.cir_make.proofs.Going.{append_none}
use Rattle.cir_steps.specs.Emit.{make_wiring}
use Rattle.cir_write.specs.Waiting.{wired_at}

pub wiring_is : (q : Emitting) (w : Where) (written : Assign Meant) (accessors : Accessors Meant)
    (e : Expr Meant) (a : SignalAssignment) (s : State) (places : List ℕ) (x : Emission)
    → make_wiring q w written accessors e a s places x ≡ Ok record {
      state = with_state s x;
      steps = wired_at q.context w written accessors e a s places x;
    }
wiring_is q w written accessors e a s [] x = refl
wiring_is q w written accessors e a s (place ∷ places) x = refl

-- what is evaluated and found is the assignment
pub assignment_is : (k : Context) (w : Where) (m : Meant) (accessors : Accessors Meant)
    (e : Expr Meant) (s s1 s2 : State) (d : Datum) (t : Target) (a : SignalAssignment)
    → value_in k w false Whole e s ≡ Ok (d, s1) → target_in k w m accessors s1 ≡ Ok (t, s2)
    → same_dims t.reach.left d.dims ≡ true → signal_assignment k w m accessors e s ≡ Ok a
    → a ≡ record { value = d; target = t; state = s2 }
assignment_is k w m accessors e s s1 s2 d t a p q same is =
    let all : Ok a ≡ Ok record { value = d; target = t; state = s2 } =
    sym is
    ∙ ap (λ (z : Tried (Datum × State)). next z (λ (d, s1). next (target_in k w m accessors s1)
    (λ (t, s2). needed (same_dims t.reach.left d.dims) w ShapeDiffers
    (Ok record { value = d; target = t; state = s2 })))) p
    ∙ ap (λ (z : Tried (Target × State)). next z (λ (t, s2).
    needed (same_dims t.reach.left d.dims) w ShapeDiffers
    (Ok record { value = d; target = t; state = s2 }))) q
    ∙ ap (λ b. needed b w ShapeDiffers (Ok record { value = d; target = t; state = s2 })) same in
    cc

-- ---- the elements that are written are those that the code has
none_written : (k : Context) (w : Where) (arrow : Arrow) (t : Target) (place : ℕ)
    (places : List ℕ) (v : Value) (vs : List Value) (s u : State) (e : SignalEntry)
    → entry_at (signals_of t.part s.frame) t.number ≡ Some e → e.written ≡ []
    → write_elements k w arrow t (place ∷ places) (v ∷ vs) s ≡ Ok u → ⊥
none_written k w arrow t place places v vs s u e there none is =
    let after : SignalEntry → State = λ e. in_frame (λ f. with_signals t.part
    (put_at t.number (marked e place) (signals_of t.part f)) f) s in
    let rest : Tried (SignalEntry × State) → Tried State = λ z. next z (λ (e, s1).
    next (constrained_by k w arrow (Linear (signal (e.first + place))) v s1)
    (λ s2. write_elements k w arrow t places vs s2)) in
    let no : Ok u ≡ refused w SecondWrite =
    sym is
    ∙ ap (λ (o : Option SignalEntry). rest (next (finding w ReadBeforeWrite o) (λ e.
    needed (not (is_written e place)) w SecondWrite (Ok (e, after e))))) there
    ∙ ap (λ (bs : List Bool). rest (needed {A = SignalEntry × State}
    (not (unwrap_or (slice_get bs place) true)) w SecondWrite (Ok (e, after e)))) none in
    absurd (cc)

no_marks : (bs : List Bool) (dims : List ℕ) → length bs ≡ made_count dims
    → is_too_large dims ≡ true → bs ≡ []
no_marks [] dims h large = refl
no_marks (b ∷ bs) dims h large =
    absurd (omega (arith, h, ap (λ (t : Bool). cond t 0 (elements dims)) large))

elements_none : (ps : List ℕ) → written_elements ps [] ≡ []
elements_none [] = refl
elements_none (p ∷ ps) = refl

pub elements_are : (k : Context) (w : Where) (arrow : Arrow) (f : CodeFrame) (c : Counts)
    (t : CodeTarget) (x : Target) (vs : List Value) (s u : State) → s.frame ≡ frame_of f c
    → IsFound s.frame t x → write_elements k w arrow x x.reach.places vs s ≡ Ok u
    → written_elements x.reach.places vs
    ≡ written_elements (numbers_from (run_of t.reach.part).0 (run_of t.reach.part).1) vs
elements_are k w arrow f c t x vs s u frame found went = at t.reach.part refl
  where
    e : SignalEntry
    e = found.target.entry

    there : entry_at (signals_of x.part s.frame) x.number ≡ Some e
    there =
        subst (λ (y : Target). entry_at (signals_of y.part s.frame) y.number ≡ Some e)
        (sym found.target.same) found.target.there

    marks : length e.written ≡ made_count e.dims
    marks =
        marks_of f c t.part t.number e
        (subst (λ z. entry_at (signals_of t.part z) t.number ≡ Some e) frame found.target.there)

    at : (p : Part) → t.reach.part ≡ p → written_elements x.reach.places vs
        ≡ written_elements (numbers_from (run_of p).0 (run_of p).1) vs
    at (part.Known first count) is = by (is_too_large e.dims) refl
      where
        by : (b : Bool) → is_too_large e.dims ≡ b → written_elements x.reach.places vs
            ≡ written_elements (numbers_from first count) vs
        by false small =
            sym (ap (λ (ps : List ℕ). written_elements ps vs)
            (rw is at (found.target.reach.places small)))
        by true large = of x.reach.places vs went (rw is at found.target.reach.count)
          where
            of : (ps : List ℕ) (vs : List Value) → write_elements k w arrow x ps vs s ≡ Ok u
                → count ≡ standing (length ps) → written_elements ps vs
                ≡ written_elements (numbers_from first count) vs
            of [] vs ok counted =
                let zero_count : count ≡ 0 = omega (arith, counted) in
                sym (ap (λ (n : ℕ). written_elements (numbers_from first n) vs) zero_count)
            of (p ∷ ps) [] ok counted = sym (elements_none (numbers_from first count))
            of (p ∷ ps) (v ∷ vs) ok counted =
                absurd (none_written k w arrow x p ps v vs s u e there
                (no_marks e.written e.dims marks large) ok)
    at part.Unknown is =
        let kind = rw is at found.target.reach.kind in
        absurd (cc (kind.1, found.known))
    at part.Outside is =
        let kind = rw is at found.target.reach.kind in
        let none : x.reach.places ≡ [] =
        sym found.target.reach.all
        ∙ ap (λ (b : Bool). cond b (places_of e.dims found.indices) []) kind in
        ap (λ (ps : List ℕ). written_elements ps vs) none

-- no elements
pub run_none : (f : Frame) (t : CodeTarget) (x : Target) → IsFound f t x → x.reach.places ≡ []
    → (run_of t.reach.part).1 ≡ 0
run_none f t x found none = at t.reach.part refl
  where
    at : (p : Part) → t.reach.part ≡ p → (run_of p).1 ≡ 0
    at (part.Known first count) is =
        let counted = rw is at found.target.reach.count in
        omega (arith, counted, ap (λ (ps : List ℕ). length ps) none)
    at part.Unknown is = refl
    at part.Outside is = refl

-- ---- the steps
module _ (k : Context) (w : Where) (written : Assign Meant) (accessors : Accessors Meant)
    (e : Expr Meant) (x : Emission) where
  abbrev pub step_with : List ℕ → Step
  step_with targets =
      step_of k w (known_in x) (signal_cost k w written accessors e (known_in x)) (Valuing e)
      targets
      None x

  abbrev pub cells_for : Target → List ℕ → List ℕ
  cells_for t places = map (wire_cell (ports_of t.part x) t.number) places

  pub wired_is : (d : Datum) (found : Target) (t : CodeTarget) (s : State) (a : SignalAssignment)
      → a ≡ record { value = d; target = found; state = s } → found ≡ target_by t found.reach
      → written_elements found.reach.places d.items
      ≡ written_elements (numbers_from (run_of t.reach.part).0 (run_of t.reach.part).1) d.items
      → wiring k w written accessors e a x ≡ step_with (map (wire_cell (ports_of t.part x) t.number)
      (written_elements (numbers_from (run_of t.reach.part).0 (run_of t.reach.part).1) d.items))
  wired_is d found t s a is same elements =
      ap (λ (b : SignalAssignment). wiring k w written accessors e b x) is
      ∙ ap (λ (y : Target). step_with (cells_for y (written_elements found.reach.places d.items)))
      same
      ∙ ap (λ (ps : List ℕ). step_with (map (wire_cell (ports_of t.part x) t.number) ps)) elements

  module _ (a : SignalAssignment) (u : State) (steps : List Step) (p : Option ℕ) (was : Bool) where
    freed_same : a.target.part ≡ p → ((j : ℕ) → p ≡ Some j
        → was ≡ is_fed (part_signals (slice_get (known_in x).frame.parts j)))
        → freed_at p was (with_state u x) ≡ freed_at a.target.part
        (is_fed (signals_of a.target.part (known_in x).frame)) (with_state u x)
    freed_same is fed =
        at p fed
        ∙ ap (λ (o : Option ℕ). freed_at o (is_fed (signals_of o (known_in x).frame))
        (with_state u x)) (sym is)
      where
        at : (o : Option ℕ) → ((j : ℕ) → o ≡ Some j
            → was ≡ is_fed (part_signals (slice_get (known_in x).frame.parts j)))
            → freed_at o was (with_state u x)
            ≡ freed_at o (is_fed (signals_of o (known_in x).frame)) (with_state u x)
        at None fed = refl
        at (Some j) fed = ap (λ (b : Bool). freed_at (Some j) b (with_state u x)) (fed j refl)

    pub wired_by : a.target.part ≡ p → ((j : ℕ) → p ≡ Some j
        → was ≡ is_fed (part_signals (slice_get (known_in x).frame.parts j)))
        → (a.target.reach.places ≡ [] → ⊥) → (P : List Step → Type 0)
        → P ((steps ++ wiring k w written accessors e a x ∷ []) ++ freed_at p was (with_state u x))
        → P (steps ++ wired_at k w written accessors e a u a.target.reach.places x)
    wired_by is fed some P h = at a.target.reach.places some
      where
        one : Step
        one = wiring k w written accessors e a x

        rest : List Step
        rest = freed_at a.target.part (is_fed (signals_of a.target.part (known_in x).frame))
            (with_state u x)

        at : (ps : List ℕ) → (ps ≡ [] → ⊥)
            → P (steps ++ wired_at k w written accessors e a u ps x)
        at [] some = absurd (some refl)
        at (q ∷ ps) some =
            subst P (append_assoc steps (one ∷ []) rest
            ∙ ap (λ (l : List Step). steps ++ one ∷ l) (sym (append_none rest)))
            (subst (λ (l : List Step). P ((steps ++ one ∷ []) ++ l)) (freed_same is fed) h)
