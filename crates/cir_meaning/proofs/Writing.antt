-- The write of a signal's elements, at compile time and with the numbers of a run.
use Rattle.std.proofs.Common.{◌≡◌, ◌≢◌, ◌<◌, ◌⊎◌, inl, inr, ℕ, zero, suc, ◌+◌, Bool, true, false}
use Rattle.std.proofs.Common.{not, List, [], ◌∷◌, length, Option, Some, None, is_some, slice_get}
use Rattle.std.proofs.Common.{slice_set, unwrap_or, refl, sym, ap, subst, arith, ◌∙◌}
use Rattle.cir_ast.specs.declared.operators.Arrow.{Arrow}
use Rattle.cir_ast.specs.declared.operators.Arrow.TheVariants.{Assign as AssignArrow}
use Rattle.cir_ast.specs.declared.operators.Arrow.TheVariants.{Constrain as ConstrainArrow}
use Rattle.cir_ast.specs.declared.operators.Direction.{Direction}
use Rattle.cir_ast.specs.declared.refusal.Kind.TheVariants.{ReadBeforeWrite, SecondWrite}
use Rattle.cir_lc.specs.Number.{signal}
use Rattle.cir_meaning.specs.Tried.{Where}
use Rattle.cir_meaning.specs.Limits.{Counts}
use Rattle.cir_meaning.specs.Values.{Value, Linear, Parts, difference_of, parts_of}
use Rattle.cir_meaning.specs.Frame.{SignalEntry, Signals, Part, Frame, State, Context, is_written}
use Rattle.cir_meaning.specs.Frame.{put_at, entry_at}
use Rattle.cir_meaning.specs.Writing.{Target, signals_of, part_signals, with_part_signals}
use Rattle.cir_meaning.specs.Writing.{with_signals, marked, write_element, appended, constrained_by}
use Rattle.cir_meaning.specs.Writing.{write_elements}
use Rattle.cir_meaning.specs.Run.{Wires, put_wire, put_wires}
use Rattle.cir_meaning.proofs.Good.{OnGood, good_ok, good_bad, good_next, good_weaker}
use Rattle.cir_meaning.proofs.Good.{good_needed_as, good_found_as}
use Rattle.cir_meaning.proofs.Pairs.{good_both}
use Rattle.cir_meaning.proofs.Marking.{MarksOf, KeepsWires, put_entry, mark_wire, keeps_put}
use Rattle.cir_meaning.proofs.Marking.{wire_new}
use Rattle.std.specs.Prelude.{⊤}

pub get_set : {A : Type 0} (xs : List A) (j : ℕ) (p q : A) → slice_get xs j ≡ Some p
    → slice_get (slice_set xs j q) j ≡ Some q
get_set [] j p q h = cc
get_set (x ∷ xs) zero p q h = refl
get_set (x ∷ xs) (suc j) p q h = get_set xs j p q h

no_entry : (n : ℕ) (e : SignalEntry) → entry_at [] n ≡ Some e → ⊥
no_entry n e h = cc

part_put : (j n : ℕ) (e : SignalEntry) (signals : Signals) (f : Frame) (o : Option Part)
    → slice_get f.parts j ≡ o → entry_at (part_signals o) n ≡ Some e
    → part_signals (slice_get (with_part_signals j signals o f).parts j) ≡ signals
part_put j n e signals f None h there = absurd (no_entry n e there)
part_put j n e signals f (Some p) h there =
    ap part_signals (get_set f.parts j p (record p { signals = signals }) h)

-- the signals that were put are there
pub signals_put : (part : Option ℕ) (n : ℕ) (e : SignalEntry) (signals : Signals) (f : Frame)
    → entry_at (signals_of part f) n ≡ Some e
    → signals_of part (with_signals part signals f) ≡ signals
signals_put None n e signals f there = refl
signals_put (Some j) n e signals f there = part_put j n e signals f (slice_get f.parts j) refl there

pub signals_added : (part : Option ℕ) (f : Frame) (c : Counts)
    → signals_of part (record f { added = c }) ≡ signals_of part f
signals_added None f c = refl
signals_added (Some j) f c = refl

pub unwritten : (o : Option Bool) → not (unwrap_or o true) ≡ true → o ≡ Some false
unwritten None h = cc
unwritten (Some true) h = cc
unwritten (Some false) h = refl

not_some : (o : Option ℕ) → is_some o ≡ false → o ≡ None
not_some None h = refl
not_some (Some x) h = cc

-- a constraint leaves the signals
appended_signals : (k : Context) (w : Where) (part : Option ℕ) (x y : Value) (s : State)
    (o : Option Parts)
    → OnGood (λ s1. signals_of part s1.frame ≡ signals_of part s.frame) (appended k w x y s o)
appended_signals k w part x y s None =
    good_bad (λ s1. signals_of part s1.frame ≡ signals_of part s.frame) _
appended_signals k w part x y s (Some p) =
    good_ok (λ s1. signals_of part s1.frame ≡ signals_of part s.frame) _
    (signals_added part s.frame _)

pub constrained_signals : (k : Context) (w : Where) (part : Option ℕ) (arrow : Arrow) (x y : Value)
    (s : State)
    → OnGood (λ s1. signals_of part s1.frame ≡ signals_of part s.frame)
    (constrained_by k w arrow x y s)
constrained_signals k w part AssignArrow x y s =
    good_ok (λ s1. signals_of part s1.frame ≡ signals_of part s.frame) s refl
constrained_signals k w part ConstrainArrow x y s =
    appended_signals k w part x y s (parts_of (difference_of x y))

-- each number stands where it was put
abbrev pub Placed : Wires → ℕ → List ℕ → List ℕ → Type 0
Placed new n [] values = ⊤
Placed new n (place ∷ places) [] = ⊤
Placed new n (place ∷ places) (value ∷ values) =
    (new n place ≡ Some value) × Placed new n places values

rest_length : (vs : List Value) (values : List ℕ) → suc (length values) ≡ suc (length vs)
    → length values ≡ length vs
rest_length vs values e = omega arith

module _ (test : Direction → Bool) (t : Target) where
  -- the written signal is one that the test takes
  abbrev pub Tested : Signals → Type 0
  Tested signals = (e : SignalEntry) → entry_at signals t.number ≡ Some e → test e.direction ≡ true

  pub record Marked (wires new : Wires) (s : State) : Type 0 where
    pub marks : MarksOf test (signals_of t.part s.frame) new
    pub keeps : KeepsWires wires new
    pub tested : Tested (signals_of t.part s.frame)

  element_marked : (w : Where) (place value : ℕ) (s : State) (wires : Wires)
      → MarksOf test (signals_of t.part s.frame) wires → Tested (signals_of t.part s.frame)
      → OnGood (λ x. Marked wires (put_wire t.number place value wires) x.1)
      (write_element w t place s)
  element_marked w place value s wires marks tested =
      good_found_as (λ x. Marked wires (put_wire t.number place value wires) x.1) w ReadBeforeWrite
      (entry_at (signals_of t.part s.frame) t.number) _ (λ e there.
      good_needed_as (λ x. Marked wires (put_wire t.number place value wires) x.1)
      (not (is_written e place)) w SecondWrite _ (λ free.
      let now : signals_of t.part (with_signals t.part (put_at t.number (marked e place)
      (signals_of t.part s.frame)) s.frame) ≡ put_at t.number (marked e place)
      (signals_of t.part s.frame) =
      signals_put t.part t.number e (put_at t.number (marked e place) (signals_of t.part s.frame))
      s.frame there in
      let none : wires t.number place ≡ None = not_some (wires t.number place)
      (marks t.number e there (tested e there) place false
      (unwritten (slice_get e.written place) free)) in
      good_ok (λ x. Marked wires (put_wire t.number place value wires) x.1) _ record {
        marks =
            subst (λ signals. MarksOf test signals (put_wire t.number place value wires)) (sym now)
            (mark_wire test t.number place value e (signals_of t.part s.frame) wires there marks);
        keeps = keeps_put t.number place value wires none;
        tested =
            subst Tested (sym now) (λ d here. same_direction e d (tested e there)
            (put_entry t.number t.number (marked e place) d (signals_of t.part s.frame) here));
      }))
    where
      same_direction : (e d : SignalEntry) → test e.direction ≡ true
          → ((t.number ≡ t.number) × (marked e place ≡ d)) ⊎
          ((t.number ≢ t.number) × (entry_at (signals_of t.part s.frame) t.number ≡ Some d)) →
          test d.direction ≡ true
      same_direction e d h (inl i) = subst (λ a. test a.direction ≡ true) i.1 h
      same_direction e d h (inr i) = absurd (i.0 refl)

  keeps_both : (a b c : Wires) → KeepsWires a b → KeepsWires b c → KeepsWires a c
  keeps_both a b c h g n p x e = g n p x (h n p x e)

  -- all elements, each with its number
  pub elements_marked : (k : Context) (w : Where) (arrow : Arrow) (places : List ℕ)
      (vs : List Value) (values : List ℕ) (s : State) (wires : Wires)
      → length values ≡ length vs → MarksOf test (signals_of t.part s.frame) wires → Tested
      (signals_of t.part s.frame)
      → OnGood (λ s1. Marked wires (put_wires t.number places values wires) s1)
      (write_elements k w arrow t places vs s)
  elements_marked k w arrow [] vs values s wires same marks tested =
      good_ok (λ s1. Marked wires (put_wires t.number [] values wires) s1) s
      record { marks = marks; keeps = λ n p x e. e; tested = tested }
  elements_marked k w arrow (place ∷ places) [] [] s wires same marks tested =
      good_ok (λ s1. Marked wires wires s1) s record {
        marks = marks;
        keeps = λ n p x e. e;
        tested = tested;
      }
  elements_marked k w arrow (place ∷ places) [] (m ∷ ms) s wires same marks tested = cc
  elements_marked k w arrow (place ∷ places) (v ∷ vs) [] s wires same marks tested = cc
  elements_marked k w arrow (place ∷ places) (v ∷ vs) (value ∷ values) s wires same marks tested =
      good_next (λ x. Marked wires (put_wire t.number place value wires) x.1)
      (λ s1. Marked wires (put_wires t.number places values
      (put_wire t.number place value wires)) s1)
      (write_element w t place s) _ (element_marked w place value s wires marks tested) (λ x p.
      good_next (λ s2. signals_of t.part s2.frame ≡ signals_of t.part x.1.frame)
      (λ s1. Marked wires (put_wires t.number places values
      (put_wire t.number place value wires)) s1)
      (constrained_by k w arrow (Linear (signal (x.0.first + place))) v x.1) _
      (constrained_signals k w t.part arrow (Linear (signal (x.0.first + place))) v x.1)
      (λ s2 g.
      good_weaker (λ s3. Marked (put_wire t.number place value wires)
      (put_wires t.number places values (put_wire t.number place value wires)) s3)
      (λ s3. Marked wires (put_wires t.number places values (put_wire t.number place value wires))
      s3) (write_elements k w arrow t places vs s2)
      (elements_marked k w arrow places vs values s2 (put_wire t.number place value wires)
      (rest_same vs values same)
      (subst (λ signals. MarksOf test signals (put_wire t.number place value wires)) (sym g)
      p.marks) (subst Tested (sym g) p.tested))
      (λ s3 q. record {
        marks = q.marks;
        keeps = keeps_both wires
            (put_wire t.number place value wires) (put_wires t.number places values
            (put_wire t.number place value wires)) p.keeps q.keeps;
        tested = q.tested;
      })))
    where
      rest_same : (vs : List Value) (values : List ℕ) → suc (length values) ≡ suc (length vs)
          → length values ≡ length vs
      rest_same vs values e = omega arith

  pub elements_placed : (k : Context) (w : Where) (arrow : Arrow) (places : List ℕ)
      (vs : List Value) (values : List ℕ) (s : State) (wires : Wires)
      → length values ≡ length vs → MarksOf test (signals_of t.part s.frame) wires
      → Tested (signals_of t.part s.frame)
      → OnGood (λ s1. Placed (put_wires t.number places values wires) t.number places values)
      (write_elements k w arrow t places vs s)
  elements_placed k w arrow [] vs values s wires same marks tested =
      good_ok (λ s1. Placed wires t.number [] values) s tt
  elements_placed k w arrow (place ∷ places) [] [] s wires same marks tested =
      good_ok (λ s1. Placed wires t.number (place ∷ places) []) s tt
  elements_placed k w arrow (place ∷ places) [] (m ∷ ms) s wires same marks tested = cc
  elements_placed k w arrow (place ∷ places) (v ∷ vs) [] s wires same marks tested = cc
  elements_placed k w arrow (place ∷ places) (v ∷ vs) (value ∷ values) s wires same marks tested =
      good_next (λ x. Marked wires (put_wire t.number place value wires) x.1)
      (λ s1. Placed (put_wires t.number places values (put_wire t.number place value wires))
      t.number (place ∷ places) (value ∷ values))
      (write_element w t place s) _ (element_marked w place value s wires marks tested) (λ x p.
      good_next (λ s2. signals_of t.part s2.frame ≡ signals_of t.part x.1.frame)
      (λ s1. Placed (put_wires t.number places values (put_wire t.number place value wires))
      t.number (place ∷ places) (value ∷ values))
      (constrained_by k w arrow (Linear (signal (x.0.first + place))) v x.1) _
      (constrained_signals k w t.part arrow (Linear (signal (x.0.first + place))) v x.1)
      (λ s2 g.
      good_weaker (λ s3. Marked (put_wire t.number place value wires)
      (put_wires t.number places values (put_wire t.number place value wires)) s3
      × Placed (put_wires t.number places values (put_wire t.number place value wires)) t.number
      places values)
      (λ s3. Placed (put_wires t.number places values (put_wire t.number place value wires))
      t.number (place ∷ places) (value ∷ values)) (write_elements k w arrow t places vs s2)
      (good_both (λ s3. Marked (put_wire t.number place value wires)
      (put_wires t.number places values (put_wire t.number place value wires)) s3)
      (λ s3. Placed (put_wires t.number places values (put_wire t.number place value wires))
      t.number places values) (write_elements k w arrow t places vs s2)
      (elements_marked k w arrow places vs values s2 (put_wire t.number place value wires)
      (rest_length vs values same)
      (subst (λ signals. MarksOf test signals (put_wire t.number place value wires)) (sym g)
      p.marks) (subst Tested (sym g) p.tested))
      (elements_placed k w arrow places vs values s2 (put_wire t.number place value wires)
      (rest_length vs values same)
      (subst (λ signals. MarksOf test signals (put_wire t.number place value wires)) (sym g)
      p.marks) (subst Tested (sym g) p.tested)))
      (λ s3 z. (
        z.0.keeps t.number place value
            (wire_new t.number place value t.number place wires refl refl),
        z.1,
      ))))

-- the places that are written are the signal's
abbrev pub AllBelow : ℕ → List ℕ → List ℕ → Type 0
AllBelow count [] values = ⊤
AllBelow count (place ∷ places) [] = ⊤
AllBelow count (place ∷ places) (value ∷ values) = (place < count) × AllBelow count places values

abbrev Counted : ℕ → ℕ → Signals → Type 0
Counted count n signals =
    (e : SignalEntry) → entry_at signals n ≡ Some e → length e.written ≡ count

set_length : (xs : List Bool) (k : ℕ) (b : Bool) → length (slice_set xs k b) ≡ length xs
set_length [] k b = refl
set_length (x ∷ xs) zero b = refl
set_length (x ∷ xs) (suc k) b = ap (λ (n : ℕ). suc n) (set_length xs k b)

get_below : {A : Type 0} (xs : List A) (i : ℕ) (x : A) → slice_get xs i ≡ Some x → i < length xs
get_below [] i x e = cc
get_below (y ∷ ys) zero x e = omega arith
get_below (y ∷ ys) (suc i) x e =
    let less : i < length ys = get_below ys i x e in omega arith

element_below : (t : Target) (count : ℕ) (w : Where) (place : ℕ) (s : State)
    → Counted count t.number (signals_of t.part s.frame)
    → OnGood (λ x. (place < count) × Counted count t.number (signals_of t.part x.1.frame))
    (write_element w t place s)
element_below t count w place s counts =
    good_found_as (λ x. (place < count) × Counted count t.number (signals_of t.part x.1.frame)) w
    ReadBeforeWrite (entry_at (signals_of t.part s.frame) t.number) _ (λ e there.
    good_needed_as (λ x. (place < count) × Counted count t.number (signals_of t.part x.1.frame))
    (not (is_written e place)) w SecondWrite _ (λ free.
    let now : signals_of t.part (with_signals t.part (put_at t.number (marked e place)
    (signals_of t.part s.frame)) s.frame) ≡ put_at t.number (marked e place)
    (signals_of t.part s.frame) =
    signals_put t.part t.number e (put_at t.number (marked e place) (signals_of t.part s.frame))
    s.frame there in
    good_ok (λ x. (place < count) × Counted count t.number (signals_of t.part x.1.frame)) _ (
      subst (λ (n : ℕ). place < n) (counts e there)
          (get_below e.written place false (unwritten (slice_get e.written place) free)),
      subst (Counted count t.number) (sym now) (λ d here.
          of_entry e there d
          (put_entry t.number t.number (marked e place) d (signals_of t.part s.frame) here)),
    )))
  where
    of_entry : (e : SignalEntry) → entry_at (signals_of t.part s.frame) t.number ≡ Some e
        → (d : SignalEntry)
        → ((t.number ≡ t.number) × (marked e place ≡ d)) ⊎
        ((t.number ≢ t.number) × (entry_at (signals_of t.part s.frame) t.number ≡ Some d))
        → length d.written ≡ count
    of_entry e there d (inl i) =
        subst (λ x. length x.written ≡ count) i.1 (set_length e.written place true ∙ counts e there)
    of_entry e there d (inr i) = absurd (i.0 refl)

pub elements_below : (t : Target) (count : ℕ) (k : Context) (w : Where) (arrow : Arrow)
    (places : List ℕ) (vs : List Value) (values : List ℕ) (s : State)
    → length values ≡ length vs → Counted count t.number (signals_of t.part s.frame)
    → OnGood (λ s1. AllBelow count places values) (write_elements k w arrow t places vs s)
elements_below t count k w arrow [] vs values s same counts =
    good_ok (λ s1. AllBelow count [] values) s tt
elements_below t count k w arrow (place ∷ places) [] [] s same counts =
    good_ok (λ s1. AllBelow count (place ∷ places) []) s tt
elements_below t count k w arrow (place ∷ places) [] (m ∷ ms) s same counts = cc
elements_below t count k w arrow (place ∷ places) (v ∷ vs) [] s same counts = cc
elements_below t count k w arrow (place ∷ places) (v ∷ vs) (value ∷ values) s same counts =
    good_next (λ x. (place < count) × Counted count t.number (signals_of t.part x.1.frame))
    (λ s1. AllBelow count (place ∷ places) (value ∷ values)) (write_element w t place s) _
    (element_below t count w place s counts) (λ x p.
    good_next (λ s2. signals_of t.part s2.frame ≡ signals_of t.part x.1.frame)
    (λ s1. AllBelow count (place ∷ places) (value ∷ values))
    (constrained_by k w arrow (Linear (signal (x.0.first + place))) v x.1) _
    (constrained_signals k w t.part arrow (Linear (signal (x.0.first + place))) v x.1) (λ s2 g.
    good_weaker (λ s3. AllBelow count places values)
    (λ s3. AllBelow count (place ∷ places) (value ∷ values))
    (write_elements k w arrow t places vs s2)
    (elements_below t count k w arrow places vs values s2 (rest_length vs values same)
    (subst (Counted count t.number) (sym g) p.1)) (λ s3 q. (p.0, q))))
