-- The elements of a signal that are written, one by one.
use Rattle.std.proofs.Common.{◌≡◌, ℕ, zero, suc, ◌+◌, ◌-◌, ◌<◌, ◌≤◌}
use Rattle.std.proofs.Common.{◌⊎◌, inl, inr, Bool, true, false, cond, List, [], ◌∷◌}
use Rattle.std.proofs.Common.{length, get_or, set, drop, map, Option, Some, None, Ok, Err, refl, ap}
use Rattle.std.proofs.Common.{sym, subst, ◌∙◌, add_assoc, arith}
use Rattle.std.specs.Prelude.{slice_get, unwrap_or, not}
use Rattle.std.proofs.lemmas.List.{drop_all, drop_more, drop-set-lt}
use Rattle.cir_ast.specs.declared.operators.Arrow.{Arrow}
use Rattle.cir_ast.specs.declared.operators.Arrow.TheVariants.{Assign as AssignArrow}
use Rattle.cir_ast.specs.declared.operators.Arrow.TheVariants.{Constrain as ConstrainArrow}
use Rattle.cir_ast.specs.declared.refusal.Kind.TheVariants.{ReadBeforeWrite, SecondWrite}
use Rattle.cir_lc.specs.Number.{Number, signal}
use Rattle.cir_values.specs.declared.value.Value.{Value as CodeValue}
use Rattle.cir_values.specs.Meant.{meant}
use Rattle.cir_meaning.specs.Tried.{Where, Tried, next, found, needed, refused}
use Rattle.cir_meaning.specs.Places.{elements, numbers_from, places_of}
use Rattle.cir_meaning.specs.Limits.{Counts, is_too_large, standing}
use Rattle.cir_meaning.specs.Values.{Value, Linear}
use Rattle.cir_meaning.specs.Source.{Equation}
use Rattle.cir_meaning.specs.Frame.{SignalEntry, State, Context, entry_at, in_frame, is_written}
use Rattle.cir_meaning.specs.Frame.{put_at}
use Rattle.cir_meaning.specs.Writing.{Target, marked, signals_of, with_signals, write_element}
use Rattle.cir_meaning.specs.Writing.{write_elements, constrained, constrained_by}
use Rattle.cir_frame.specs.declared.signal.SignalEntry.{SignalEntry as CodeEntry}
use Rattle.cir_frame.specs.declared.frame.Part.{Part as CodePart}
use Rattle.cir_frame.specs.declared.frame.Frame.{Frame as CodeFrame}
use Rattle.cir_arrays.specs.declared.reach.Part.{Part}
use Rattle.cir_arrays.specs.declared.reach.Part.TheVariants as part
use Rattle.cir_frame.specs.declared.writing.Target.{Target as CodeTarget}
use Rattle.cir_frame.specs.declared.world.World.{World}
use Rattle.cir_arrays.specs.declared.stop.Fault.{Fault}
use Rattle.cir_arrays.specs.Made.{made_count}
use Rattle.cir_frame.specs.Shown.{frame_of, part_of, signal_of, signals_of as shown_signals}
use Rattle.cir_frame.specs.Shown.{state_of}
use Rattle.cir_arrays.specs.Stopped.{IsRefusal}
use Rattle.cir_frame.specs.Targets.{first_written, run_of, target_by}
use Rattle.cir_assign.specs.Finds.{IsFound}
use Rattle.cir_assign.proofs.Stepping.{gone_on, next_next}
use Rattle.cir_arrays.proofs.Exits.{exits}

-- one element, written and constrained
abbrev pub element : Context → Where → Arrow → Target → ℕ → Value → State
    → Tried State
element k w arrow t place v s =
    next (write_element w t place s) (λ (e, s1). constrained_by k w arrow
    (Linear (signal (e.first + place))) v s1)

pub element_more : (k : Context) (w : Where) (arrow : Arrow) (t : Target) (place : ℕ)
    (places : List ℕ) (v : Value) (vs : List Value) (s : State)
    → write_elements k w arrow t (place ∷ places) (v ∷ vs) s
    ≡ next (element k w arrow t place v s) (write_elements k w arrow t places vs)
element_more k w arrow t place places v vs s =
    sym (next_next (write_element w t place s)
    (λ (e, s1). constrained_by k w arrow (Linear (signal (e.first + place))) v s1)
    (write_elements k w arrow t places vs))

-- what an element that is written answers
pub written_told : (w : Where) (t : Target) (place : ℕ) (s : State) (f : CodeFrame) (old : World)
    (qs : List Equation) (c : Counts) (first : ℕ)
    → first_written w t place s ≡ Ok (first, state_of f old qs)
    → (e : SignalEntry) × (write_element w t place s ≡ Ok (e, state_of f old qs))
    × (e.first ≡ first)
written_told w t place s f old qs c first h =
    let all = gone_on (write_element w t place s) (λ (e, after). (e.first, after))
    (first, state_of f old qs) h in (
      all.0.0,
      all.1 ∙ ap (λ (x : State). Ok (all.0.0, x)) (ap (λ (x : ℕ × State). x.1) all.2),
      ap (λ (x : ℕ × State). x.0) all.2,
    )

pub element_written : (k : Context) (w : Where) (t : Target) (place : ℕ) (v : Value)
    (s after : State) (e : SignalEntry) → write_element w t place s ≡ Ok (e, after)
    → element k w AssignArrow t place v s ≡ Ok after
element_written k w t place v s after e h =
    ap (λ z. next z (λ (e, s1). constrained_by k w AssignArrow
    (Linear (signal (e.first + place))) v s1)) h

pub element_constrained : (k : Context) (w : Where) (t : Target) (place : ℕ) (v : Value)
    (s after : State) (e : SignalEntry) (first number : ℕ) (f : Number)
    → write_element w t place s ≡ Ok (e, after) → e.first ≡ first
    → number ≡ first + place → f ≡ signal number
    → element k w ConstrainArrow t place v s ≡ constrained k w (Linear f) v after
element_constrained k w t place v s after e first number f h a b is =
    let same : e.first + place ≡ number = ap (λ (n : ℕ). n + place) a ∙ sym b in
    ap (λ z. next z (λ (e, s1). constrained_by k w ConstrainArrow
    (Linear (signal (e.first + place))) v s1)) h
    ∙ ap (λ (n : ℕ). constrained k w (Linear (signal n)) v after) same
    ∙ ap (λ (g : Number). constrained k w (Linear g) v after) (sym is)

-- the marks of a signal that is too large
entry_marks : (es : List (Option CodeEntry)) (n : ℕ) (e : SignalEntry)
    → entry_at (shown_signals es) n ≡ Some e → length e.written ≡ made_count e.dims
entry_marks [] n e h = absurd (cc)
entry_marks (None ∷ es) zero e h = absurd (cc)
entry_marks (Some x ∷ es) zero e h =
    let same : signal_of x ≡ e = cc in
    subst (λ (y : SignalEntry). length y.written ≡ made_count y.dims) same x.sized
entry_marks (o ∷ es) (suc n) e h = entry_marks es n e h

part_marks : (ps : List CodePart) (j n : ℕ) (e : SignalEntry)
    → entry_at (signals_of (Some j) record {
      variables = [];
      signals = [];
      components = [];
      parts = map part_of ps;
      added = record {
        signals = 0;
        constraints = 0;
        terms = 0;
        elements = 0;
        cells = 0;
        steps = 0;
        nodes = 0;
        reads = 0;
        statements = 0;
      };
    }) n ≡ Some e → length e.written ≡ made_count e.dims
part_marks [] j n e h = absurd (cc)
part_marks (p ∷ ps) zero n e h = entry_marks p.signals.items n e h
part_marks (p ∷ ps) (suc j) n e h = part_marks ps j n e h

pub marks_of : (f : CodeFrame) (c : Counts) (part : Option ℕ) (n : ℕ) (e : SignalEntry)
    → entry_at (signals_of part (frame_of f c)) n ≡ Some e
    → length e.written ≡ made_count e.dims
marks_of f c None n e h = entry_marks f.signals.items n e h
marks_of f c (Some j) n e h = part_marks f.parts.items j n e h

-- no element of it may be written
large_refused : (w : Where) (t : Target) (place : ℕ) (s : State) (e : SignalEntry)
    → entry_at (signals_of t.part s.frame) t.number ≡ Some e → e.written ≡ []
    → write_element w t place s ≡ refused w SecondWrite
large_refused w t place s e there none =
    let after : SignalEntry → State = λ e. in_frame (λ f. with_signals t.part
    (put_at t.number (marked e place) (signals_of t.part f)) f) s in
    ap (λ (o : Option SignalEntry). next (found w ReadBeforeWrite o) (λ e.
    needed (not (is_written e place)) w SecondWrite (Ok (e, after e)))) there
    ∙ ap (λ (bs : List Bool). needed {A = SignalEntry × State}
    (not (unwrap_or (slice_get bs place) true)) w SecondWrite (Ok (e, after e))) none

large_refuses : (k : Context) (w : Where) (arrow : Arrow) (t : Target) (place : ℕ)
    (places : List ℕ) (v : Value) (vs : List Value) (s : State) (e : SignalEntry)
    → entry_at (signals_of t.part s.frame) t.number ≡ Some e → e.written ≡ []
    → write_elements k w arrow t (place ∷ places) (v ∷ vs) s ≡ refused w SecondWrite
large_refuses k w arrow t place places v vs s e there none =
    ap (λ z. next z (λ (e, s1). next (constrained_by k w arrow (Linear (signal (e.first + place)))
    v s1) (λ s2. write_elements k w arrow t places vs s2)))
    (large_refused w t place s e there none)

large_same : (k : Context) (w : Where) (arrow : Arrow) (t : Target) (ps : List ℕ)
    (first count : ℕ) (vs : List Value) (s : State) (e : SignalEntry)
    → entry_at (signals_of t.part s.frame) t.number ≡ Some e → e.written ≡ []
    → count ≡ standing (length ps) → write_elements k w arrow t ps vs s
    ≡ write_elements k w arrow t (numbers_from first count) vs s
large_same k w arrow t [] first count vs s e there none is =
    let zero_count : count ≡ 0 = omega arith in
    sym (ap (λ (n : ℕ). write_elements k w arrow t (numbers_from first n) vs s) zero_count)
large_same k w arrow t (p ∷ ps) first count [] s e there none is =
    let some : count ≡ suc (count - 1) = omega arith in
    sym (ap (λ (n : ℕ). write_elements k w arrow t (numbers_from first n) [] s) some)
large_same k w arrow t (p ∷ ps) first count (v ∷ vs) s e there none is =
    let some : count ≡ suc (count - 1) = omega arith in
    large_refuses k w arrow t p ps v vs s e there none
    ∙ sym (ap (λ (n : ℕ). write_elements k w arrow t (numbers_from first n) (v ∷ vs) s) some
    ∙ large_refuses k w arrow t first (numbers_from (first + 1) (count - 1)) v vs s e there none)

no_marks : (bs : List Bool) (dims : List ℕ) → length bs ≡ made_count dims
    → is_too_large dims ≡ true → bs ≡ []
no_marks [] dims h large = refl
no_marks (b ∷ bs) dims h large =
    absurd (omega (arith, h, ap (λ (t : Bool). cond t 0 (elements dims)) large))

-- the places of the meaning are the run of the code
pub places_are : (k : Context) (w : Where) (arrow : Arrow) (t : CodeTarget) (x : Target)
    (vs : List Value) (s : State) → IsFound s.frame t x
    → ((e : SignalEntry) → entry_at (signals_of t.part s.frame) t.number ≡ Some e
    → length e.written ≡ made_count e.dims)
    → write_elements k w arrow x x.reach.places vs s
    ≡ write_elements k w arrow x
    (numbers_from (run_of t.reach.part).0 (run_of t.reach.part).1) vs s
places_are k w arrow t x vs s found marks = at t.reach.part refl
  where
    e : SignalEntry
    e = found.target.entry

    there : entry_at (signals_of x.part s.frame) x.number ≡ Some e
    there =
        subst (λ (y : Target). entry_at (signals_of y.part s.frame) y.number ≡ Some e)
        (sym found.target.same) found.target.there

    at : (p : Part) → t.reach.part ≡ p → write_elements k w arrow x x.reach.places vs s
        ≡ write_elements k w arrow x (numbers_from (run_of p).0 (run_of p).1) vs s
    at (part.Known first count) is = by (is_too_large e.dims) refl
      where
        by : (b : Bool) → is_too_large e.dims ≡ b
            → write_elements k w arrow x x.reach.places vs s
            ≡ write_elements k w arrow x (numbers_from first count) vs s
        by false small =
            sym (ap (λ (ps : List ℕ). write_elements k w arrow x ps vs s)
            (rw is at (found.target.reach.places small)))
        by true large =
            large_same k w arrow x x.reach.places first count vs s e there
            (no_marks e.written e.dims (marks e found.target.there) large)
            (rw is at found.target.reach.count)
    at part.Unknown is =
        let kind = rw is at found.target.reach.kind in
        absurd (cc (kind.1, found.known))
    at part.Outside is =
        let kind = rw is at found.target.reach.kind in
        let none : x.reach.places ≡ [] =
        sym found.target.reach.all
        ∙ ap (λ (b : Bool). cond b (places_of e.dims found.indices) []) kind in
        ap (λ (ps : List ℕ). write_elements k w arrow x ps vs s) none

-- one element more
pub wires_more : (k : Context) (w : Where) (arrow : Arrow) (t : Target) (first at count : ℕ)
    (vs : List CodeValue) (d : CodeValue) (s : State) → at < count → at < length vs
    → write_elements k w arrow t (numbers_from (first + at) (count - at))
    (map meant (drop at vs)) s
    ≡ next (element k w arrow t (first + at) (meant (get_or vs at d)) s)
    (write_elements k w arrow t (numbers_from (first + (at + 1)) (count - (at + 1)))
    (map meant (drop (at + 1) vs)))
wires_more k w arrow t first at count vs d s h l =
    let left : count - at ≡ suc (count - (at + 1)) = omega arith in
    ap (λ (n : ℕ). write_elements k w arrow t (numbers_from (first + at) n)
    (map meant (drop at vs)) s) left
    ∙ ap (λ (xs : List CodeValue). write_elements k w arrow t
    (numbers_from (first + at) (suc (count - (at + 1)))) (map meant xs) s) (drop_more vs at d l)
    ∙ element_more k w arrow t (first + at) (numbers_from (first + at + 1) (count - (at + 1)))
    (meant (get_or vs at d)) (map meant (drop (at + 1) vs)) s
    ∙ ap (λ (n : ℕ). next (element k w arrow t (first + at) (meant (get_or vs at d)) s)
    (write_elements k w arrow t (numbers_from n (count - (at + 1)))
    (map meant (drop (at + 1) vs)))) (add_assoc first at 1)

wires_none : (k : Context) (w : Where) (arrow : Arrow) (t : Target) (ps : List ℕ) (s : State)
    → write_elements k w arrow t ps [] s ≡ Ok s
wires_none k w arrow t [] s = refl
wires_none k w arrow t (p ∷ ps) s = refl

pub wires_end : (k : Context) (w : Where) (arrow : Arrow) (t : Target) (first at count : ℕ)
    (vs : List CodeValue) (s : State) → (count ≤ at) ⊎ (length vs ≤ at)
    → write_elements k w arrow t (numbers_from (first + at) (count - at))
    (map meant (drop at vs)) s ≡ Ok s
wires_end k w arrow t first at count vs s (inl h) =
    let none : count - at ≡ 0 = omega arith in
    ap (λ (n : ℕ). write_elements k w arrow t (numbers_from (first + at) n)
    (map meant (drop at vs)) s) none
wires_end k w arrow t first at count vs s (inr h) =
    ap (λ (xs : List CodeValue). write_elements k w arrow t
    (numbers_from (first + at) (count - at)) (map meant xs) s) (drop_all at vs h)
    ∙ wires_none k w arrow t (numbers_from (first + at) (count - at)) s

last_step : (k : Context) (w : Where) (arrow : Arrow) (t : Target) (ps : List ℕ)
    (m : Tried State) → next m (write_elements k w arrow t ps []) ≡ m
last_step k w arrow t ps (Ok s) = wires_none k w arrow t ps s
last_step k w arrow t ps (Err e) = refl

pub wires_one : (k : Context) (w : Where) (arrow : Arrow) (t : Target) (first count : ℕ)
    (v : Value) (s : State) → 0 < count
    → write_elements k w arrow t (numbers_from first count) (v ∷ []) s
    ≡ element k w arrow t first v s
wires_one k w arrow t first count v s h =
    let some : count ≡ suc (count - 1) = omega arith in
    ap (λ (n : ℕ). write_elements k w arrow t (numbers_from first n) (v ∷ []) s) some
    ∙ element_more k w arrow t first (numbers_from (first + 1) (count - 1)) v [] s
    ∙ last_step k w arrow t (numbers_from (first + 1) (count - 1))
    (element k w arrow t first v s)

-- a turn of the loop
pub wires_begin : (k : Context) (w : Where) (arrow : Arrow) (t : Target) (first count : ℕ)
    (vs : List CodeValue) (s : State)
    → write_elements k w arrow t (numbers_from first count) (map meant vs) s
    ≡ write_elements k w arrow t (numbers_from (first + 0) (count - 0)) (map meant (drop 0 vs)) s
wires_begin k w arrow t first count vs s =
    let a : first ≡ first + 0 = omega arith in
    let b : count ≡ count - 0 = omega arith in
    ap (λ (n : ℕ). write_elements k w arrow t (numbers_from n count) (map meant vs) s) a
    ∙ ap (λ (n : ℕ). write_elements k w arrow t
    (numbers_from (first + 0) n) (map meant vs) s) b

module _ (k : Context) (w : Where) (arrow : Arrow) (t : Target) (first at count place : ℕ)
    (vs : List CodeValue) (v : CodeValue) (whole : Tried State) (s : State) where
  goes_on_with : at < count → at < length vs → place ≡ first + at → v ≡ get_or vs at v
      → whole ≡ write_elements k w arrow t (numbers_from (first + at) (count - at))
      (map meant (drop at vs)) s
      → whole ≡ next (element k w arrow t place (meant v) s)
      (write_elements k w arrow t (numbers_from (first + (at + 1)) (count - (at + 1)))
      (map meant (drop (at + 1) vs)))
  goes_on_with h l p is left =
      let same : element k w arrow t (first + at) (meant (get_or vs at v)) s
      ≡ element k w arrow t place (meant v) s =
      ap (λ (x : CodeValue). element k w arrow t (first + at) (meant x) s) (sym is)
      ∙ ap (λ (n : ℕ). element k w arrow t n (meant v) s) (sym p) in
      left ∙ wires_more k w arrow t first at count vs v s h l
      ∙ ap (λ (z : Tried State). next z (write_elements k w arrow t
      (numbers_from (first + (at + 1)) (count - (at + 1))) (map meant (drop (at + 1) vs)))) same

  pub wires_step : (others : List CodeValue) (x : CodeValue) (after : State) → at < count
      → at < length vs → others ≡ set vs at x → place ≡ first + at
      → v ≡ get_or vs at v
      → whole ≡ write_elements k w arrow t (numbers_from (first + at) (count - at))
      (map meant (drop at vs)) s
      → element k w arrow t place (meant v) s ≡ Ok after
      → whole ≡ write_elements k w arrow t (numbers_from (first + (at + 1)) (count - (at + 1)))
      (map meant (drop (at + 1) others)) after
  wires_step others x after h l o p is left went =
      let later : at < at + 1 = omega arith in
      goes_on_with h l p is left
      ∙ ap (λ (z : Tried State). next z (write_elements k w arrow t
      (numbers_from (first + (at + 1)) (count - (at + 1))) (map meant (drop (at + 1) vs)))) went
      ∙ sym (ap (λ (xs : List CodeValue). write_elements k w arrow t
      (numbers_from (first + (at + 1)) (count - (at + 1))) (map meant (drop (at + 1) xs)) after) o
      ∙ ap (λ (xs : List CodeValue). write_elements k w arrow t
      (numbers_from (first + (at + 1)) (count - (at + 1))) (map meant xs) after)
      (drop-set-lt (at + 1) vs at x later))

  pub wires_stop : (e : Fault) → at < count → at < length vs → place ≡ first + at
      → v ≡ get_or vs at v
      → whole ≡ write_elements k w arrow t (numbers_from (first + at) (count - at))
      (map meant (drop at vs)) s
      → IsRefusal e (element k w arrow t place (meant v) s) → IsRefusal e whole
  wires_stop e h l p is left refuses =
      subst (λ (m : Tried State). IsRefusal e m) (sym (goes_on_with h l p is left))
      (exits e (element k w arrow t place (meant v) s) _ refuses)

-- the elements that the meaning writes, by the code's run
pub run_places : (k : Context) (w : Where) (arrow : Arrow) (t : CodeTarget) (x : Target)
    (vs : List Value) (s : State) (f : CodeFrame) (c : Counts) → s.frame ≡ frame_of f c
    → IsFound (frame_of f c) t x → (first count : ℕ) → (run : ℕ × ℕ)
    → run ≡ run_of t.reach.part → run.0 ≡ first → run.1 ≡ count
    → write_elements k w arrow x x.reach.places vs s
    ≡ write_elements k w arrow (target_by t x.reach) (numbers_from first count) vs s
run_places k w arrow t x vs s f c e found first count run is a b =
    let here : IsFound s.frame t x = subst (λ z. IsFound z t x) (sym e) found in
    places_are k w arrow t x vs s here (λ y there. marks_of f c t.part t.number y
    (subst (λ z. entry_at (signals_of t.part z) t.number ≡ Some y) e there))
    ∙ ap (λ (r : ℕ × ℕ). write_elements k w arrow x (numbers_from r.0 r.1) vs s) (sym is)
    ∙ ap (λ (n : ℕ). write_elements k w arrow x (numbers_from n run.1) vs s) a
    ∙ ap (λ (n : ℕ). write_elements k w arrow x (numbers_from first n) vs s) b
    ∙ ap (λ (y : Target). write_elements k w arrow y (numbers_from first count) vs s)
    here.target.same
