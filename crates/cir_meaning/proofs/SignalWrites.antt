-- The state behind a write of signals: other signals in one place, and more equations.
use Rattle.std.proofs.Common.{◌≡◌, ◌≢◌, ◌⊎◌, inl, inr, ℕ, zero, suc, ◌+◌, Bool, true, false, not}
use Rattle.std.proofs.Common.{◌&&◌, cond, nat_eq, List, [], ◌∷◌, ◌++◌, length, Option, Some, None}
use Rattle.std.proofs.Common.{refl, sym, ap, subst, ◌∙◌, slice_get, slice_set}
use Rattle.std.specs.Prelude.{⊤}
use Rattle.std.specs.List.{AllByRecursion, list_all}
use Rattle.std.proofs.lemmas.List.{append_assoc}
use Rattle.std.proofs.lemmas.Bool.{eqb-true, eq-eqb}
use Rattle.cir_ast.specs.declared.operators.Arrow.{Arrow}
use Rattle.cir_ast.specs.declared.operators.Arrow.TheVariants.{Assign as AssignArrow}
use Rattle.cir_ast.specs.declared.operators.Arrow.TheVariants.{Constrain as ConstrainArrow}
use Rattle.cir_ast.specs.declared.refusal.Kind.TheVariants.{ReadBeforeWrite, SecondWrite}
use Rattle.cir_lc.specs.Number.{Assignment, signal}
use Rattle.cir_meaning.specs.Tried.{Where}
use Rattle.cir_meaning.specs.Limits.{Counts}
use Rattle.cir_meaning.specs.Source.{Equation, IsEqualAt}
use Rattle.cir_meaning.specs.Values.{Value, Linear, number_of}
use Rattle.cir_meaning.specs.Frame.{SignalEntry, Signals, Part, Frame, State, Context, is_input}
use Rattle.cir_meaning.specs.Frame.{is_written, is_all_written, is_fed, put_at, entry_at}
use Rattle.cir_meaning.specs.Writing.{Target, signals_of, with_part_signals, with_signals, marked}
use Rattle.cir_meaning.specs.Writing.{write_element, constrained, constrained_by, write_elements}
use Rattle.cir_meaning.proofs.Good.{OnGood, good_ok, good_next, good_needed_as, good_found_as}
use Rattle.cir_meaning.proofs.Good.{good_weaker}
use Rattle.cir_meaning.proofs.Reaching.{and_true}
use Rattle.cir_meaning.proofs.Rows.{all_append}
use Rattle.cir_meaning.proofs.Meaning.{Means, means_in}
use Rattle.cir_meaning.proofs.Same.{Rows}
use Rattle.cir_meaning.proofs.Marking.{put_entry}
use Rattle.cir_meaning.proofs.Writing.{get_set, signals_put, signals_added}
use Rattle.cir_meaning.proofs.Standing.{SameEntry, SameShapes}
use Rattle.cir_meaning.proofs.VariableRuns.{with_added}
use Rattle.cir_meaning.proofs.StepRuns.{with_equations}
use Rattle.cir_meaning.proofs.EqualRuns.{Constrains, constrained_adds, equation_holds}

-- the same signals, whatever is written
pub same_itself : (e : SignalEntry) → SameEntry e e
same_itself e = (refl, refl, refl)

pub shapes_itself : (xs : Signals) → SameShapes xs xs
shapes_itself xs n e h = (e, h, same_itself e)

pub shapes_then : (xs ys zs : Signals) → SameShapes xs ys → SameShapes ys zs → SameShapes xs zs
shapes_then xs ys zs h g n e there =
    let one : (d : SignalEntry) × (entry_at ys n ≡ Some d) × SameEntry e d = h n e there in
    let two : (d : SignalEntry) × (entry_at zs n ≡ Some d) × SameEntry one.0 d =
    g n one.0 one.1 in (
      two.0,
      two.1,
      (one.2.0 ∙ two.2.0, one.2.1 ∙ two.2.1, one.2.2 ∙ two.2.2),
    )

set_length : (xs : List Bool) (k : ℕ) (b : Bool) → length (slice_set xs k b) ≡ length xs
set_length [] k b = refl
set_length (x ∷ xs) zero b = refl
set_length (x ∷ xs) (suc k) b = ap (λ (n : ℕ). suc n) (set_length xs k b)

same_marked : (e : SignalEntry) (place : ℕ) → SameEntry e (marked e place)
same_marked e place = (refl, refl, sym (set_length e.written place true))

pub put_there : (n m : ℕ) (a e : SignalEntry) (xs : Signals) → n ≢ m → entry_at xs m ≡ Some e
    → entry_at (put_at n a xs) m ≡ Some e
put_there zero zero a e xs ne h = absurd (ne refl)
put_there zero (suc m) a e [] ne h = h
put_there zero (suc m) a e (x ∷ xs) ne h = h
put_there (suc n) zero a e [] ne h = cc
put_there (suc n) zero a e (x ∷ xs) ne h = h
put_there (suc n) (suc m) a e [] ne h =
    put_there n m a e [] (λ s. ne (ap (λ (k : ℕ). suc k) s)) (no_more m e h)
  where
    no_more : (m : ℕ) (e : SignalEntry) → entry_at [] (suc m) ≡ Some e → entry_at [] m ≡ Some e
    no_more m e h = cc
put_there (suc n) (suc m) a e (x ∷ xs) ne h =
    put_there n m a e xs (λ s. ne (ap (λ (k : ℕ). suc k) s)) h

pub put_here : (n : ℕ) (a : SignalEntry) (xs : Signals) → entry_at (put_at n a xs) n ≡ Some a
put_here zero a [] = refl
put_here zero a (x ∷ xs) = refl
put_here (suc n) a [] = put_here n a []
put_here (suc n) a (x ∷ xs) = put_here n a xs

equal_or_not : (n m : ℕ) → (n ≡ m) ⊎ (n ≢ m)
equal_or_not n m = at (nat_eq n m) refl
  where
    at : (b : Bool) → nat_eq n m ≡ b → (n ≡ m) ⊎ (n ≢ m)
    at true e = inl (eqb-true n m e)
    at false e = inr (λ s. let yes : nat_eq n m ≡ true = eq-eqb n m s in cc)

pub shapes_put : (n place : ℕ) (e : SignalEntry) (xs : Signals) → entry_at xs n ≡ Some e
    → SameShapes xs (put_at n (marked e place) xs)
shapes_put n place e xs there m d here = at (equal_or_not n m)
  where
    at : (n ≡ m) ⊎ (n ≢ m)
        → (x : SignalEntry) × (entry_at (put_at n (marked e place) xs) m ≡ Some x) × SameEntry d x
    at (inl s) =
        let found : entry_at xs n ≡ Some d = ap (entry_at xs) s ∙ here in
        let same : e ≡ d = let both : Some e ≡ Some d = sym there ∙ found in cc in (
          marked e place,
          ap (entry_at (put_at n (marked e place) xs)) (sym s) ∙ put_here n (marked e place) xs,
          subst (λ a. SameEntry a (marked e place)) same (same_marked e place),
        )
    at (inr ne) = (d, put_there n m (marked e place) d xs ne here, same_itself d)

pub shapes_put_back : (n place : ℕ) (e : SignalEntry) (xs : Signals) → entry_at xs n ≡ Some e
    → SameShapes (put_at n (marked e place) xs) xs
shapes_put_back n place e xs there m d here = at (put_entry n m (marked e place) d xs here)
  where
    at : ((n ≡ m) × (marked e place ≡ d)) ⊎ ((n ≢ m) × (entry_at xs m ≡ Some d))
        → (x : SignalEntry) × (entry_at xs m ≡ Some x) × SameEntry d x
    at (inl i) = (
      e,
      ap (entry_at xs) (sym i.0) ∙ there,
      subst (λ a. SameEntry a e) i.1 (refl, refl, set_length e.written place true),
    )
    at (inr i) = (d, i.1, same_itself d)

-- inputs that are written stay so
set_all : (xs : List Bool) (k : ℕ) → list_all (λ b. b) xs ≡ true
    → list_all (λ b. b) (slice_set xs k true) ≡ true
set_all [] k h = h
set_all (x ∷ xs) zero h = (and_true x _ h).1
set_all (x ∷ xs) (suc k) h =
    let both : (x ≡ true) × (list_all (λ b. b) xs ≡ true) = and_true x _ h in
    ap (λ (b : Bool). b && list_all (λ b. b) (slice_set xs k true)) both.0 ∙ set_all xs k both.1

fed_entry : (input : Bool) (e : SignalEntry) (place : ℕ)
    → cond input (is_all_written e) true ≡ true
    → cond input (is_all_written (marked e place)) true ≡ true
fed_entry true e place h = set_all e.written place h
fed_entry false e place h = refl

fed_put : (n place : ℕ) (e : SignalEntry) (xs : Signals) → entry_at xs n ≡ Some e
    → is_fed xs ≡ true → is_fed (put_at n (marked e place) xs) ≡ true
fed_put n place e [] there h = cc
fed_put zero place e (None ∷ xs) there h = cc
fed_put zero place e (Some d ∷ xs) there h =
    let same : d ≡ e = cc in
    let both : (cond (is_input d.direction) (is_all_written d) true ≡ true)
    × (is_fed xs ≡ true) = and_true _ (is_fed xs) h in
    ap (λ (b : Bool). b && is_fed xs) (fed_entry (is_input e.direction) e place
    (subst (λ x. cond (is_input x.direction) (is_all_written x) true ≡ true) same both.0))
    ∙ both.1
fed_put (suc n) place e (None ∷ xs) there h = fed_put n place e xs there h
fed_put (suc n) place e (Some d ∷ xs) there h =
    let both : (cond (is_input d.direction) (is_all_written d) true ≡ true)
    × (is_fed xs ≡ true) = and_true _ (is_fed xs) h in
    ap (λ (b : Bool). b && is_fed (put_at n (marked e place) xs)) both.0
    ∙ fed_put n place e xs there both.1

-- the state: the signals of the body or of a part, and more equations
abbrev pub wrote : State → Option ℕ → Signals → List Equation → (added counts : Counts) → State
wrote f part signals es a c = record {
  frame = record (with_signals part signals f.frame) { added = a };
  world = record (f.world) { equations = f.world.equations ++ es; counts = c };
}

set_again : {A : Type 0} (xs : List A) (j : ℕ) (x y : A)
    → slice_set (slice_set xs j x) j y ≡ slice_set xs j y
set_again [] j x y = refl
set_again (z ∷ zs) zero x y = refl
set_again (z ∷ zs) (suc j) x y = ap (λ ys. z ∷ ys) (set_again zs j x y)

signals_again : (part : Option ℕ) (first second : Signals) (f : Frame) (a : Counts)
    → with_signals part second (record (with_signals part first f) { added = a })
    ≡ record (with_signals part second f) { added = a }
signals_again None first second f a = refl
signals_again (Some j) first second f a = at (slice_get f.parts j) refl
  where
    at : (o : Option Part) → slice_get f.parts j ≡ o
        → with_part_signals j second
        (slice_get (record (with_part_signals j first o f) { added = a }).parts j)
        (record (with_part_signals j first o f) { added = a })
        ≡ record (with_part_signals j second o f) { added = a }
    at None e = ap (λ (o : Option Part). with_part_signals j second o (record f { added = a })) e
    at (Some p) e =
        ap (λ (o : Option Part). with_part_signals j second o (record f {
          parts = slice_set f.parts j (record p { signals = first });
          added = a;
        })) (get_set f.parts j p (record p { signals = first }) e)
        ∙ ap (λ (ps : List Part). record f { parts = ps; added = a })
        (set_again f.parts j (record p { signals = first }) (record p { signals = second }))

-- an assignment has the numbers that are written, from a signal's first number on
abbrev pub AllAt : Assignment → (first : ℕ) → List ℕ → List ℕ → Type 0
AllAt v first [] values = ⊤
AllAt v first (place ∷ places) [] = ⊤
AllAt v first (place ∷ places) (value ∷ values) =
    (v.at (first + place) ≡ value) × AllAt v first places values

pub record Wrote (C : Assignment → Type 0) (t : Target) (f s : State) : Type 0 where
  pub signals : Signals
  pub equations : List Equation
  pub added : Counts
  pub counts : Counts
  pub is : s ≡ wrote f t.part signals equations added counts
  pub now : signals_of t.part s.frame ≡ signals
  pub shapes : SameShapes (signals_of t.part f.frame) signals
  pub shapes_back : SameShapes signals (signals_of t.part f.frame)
  pub fed : is_fed (signals_of t.part f.frame) ≡ true → is_fed signals ≡ true
  pub holds : (v : Assignment) → C v → AllByRecursion (IsEqualAt v) equations

module _ (C E : Assignment → Type 0) (inside : (v : Assignment) → C v → E v) (k : Context)
    (w : Where) (arrow : Arrow) (t : Target) (f : State) (first : ℕ)
    (firsts : (e : SignalEntry) → entry_at (signals_of t.part f.frame) t.number ≡ Some e
    → e.first ≡ first) where
  -- the entry that is written, and its first number
  first_of_entry : (s : State) → Wrote C t f s → (e : SignalEntry)
      → entry_at (signals_of t.part s.frame) t.number ≡ Some e → e.first ≡ first
  first_of_entry s h e there =
      let old : (d : SignalEntry) × (entry_at (signals_of t.part f.frame) t.number ≡ Some d)
      × SameEntry e d = h.shapes_back t.number e (ap (λ (xs : Signals). entry_at xs t.number)
      (sym h.now) ∙ there) in
      old.2.1 ∙ firsts old.0 old.1

  abbrev FirstIs : SignalEntry × State → Type 0
  FirstIs x = Wrote C t f x.1 × (x.0.first ≡ first)

  element_wrote : (place : ℕ) (s : State) → Wrote C t f s
      → OnGood FirstIs (write_element w t place s)
  element_wrote place s h =
      good_found_as FirstIs w ReadBeforeWrite (entry_at (signals_of t.part s.frame) t.number) _
      (λ e there.
      good_needed_as FirstIs (not (is_written e place)) w SecondWrite _ (λ free.
      let in_old : entry_at h.signals t.number ≡ Some e = ap (λ (xs : Signals).
      entry_at xs t.number) (sym h.now) ∙ there in
      good_ok FirstIs _ (
        record {
          signals = put_at t.number (marked e place) (signals_of t.part s.frame);
          equations = h.equations;
          added = h.added;
          counts = h.counts;
          is = ap (λ (u : State). record u {
            frame = with_signals t.part (put_at t.number (marked e place)
                (signals_of t.part s.frame)) u.frame;
          }) h.is ∙ ap
              (λ (x : Frame). record (wrote f t.part h.signals h.equations h.added h.counts)
              { frame = x }) (signals_again t.part h.signals
              (put_at t.number (marked e place) (signals_of t.part s.frame)) f.frame h.added);
          now = signals_put t.part t.number e (put_at t.number (marked e place)
              (signals_of t.part s.frame)) s.frame there;
          shapes = shapes_then (signals_of t.part f.frame) h.signals
              (put_at t.number (marked e place) (signals_of t.part s.frame)) h.shapes
              (subst (λ xs. SameShapes h.signals (put_at t.number (marked e place) xs)) (sym h.now)
              (shapes_put t.number place e h.signals in_old));
          shapes_back = shapes_then (put_at t.number (marked e place) (signals_of t.part s.frame))
              h.signals (signals_of t.part f.frame)
              (subst (λ xs. SameShapes (put_at t.number (marked e place) xs) h.signals) (sym h.now)
              (shapes_put_back t.number place e h.signals in_old)) h.shapes_back;
          fed = λ before. fed_put t.number place e (signals_of t.part s.frame) there
              (ap is_fed h.now ∙ h.fed before);
          holds = h.holds;
        },
        first_of_entry s h e there,
      )))

  constraint_wrote : (number : ℕ) (y : Value) (n : ℕ) (s : State)
      → ((v : Assignment) → C v → v.at number ≡ n) → Means E y n → Wrote C t f s
      → OnGood (Wrote C t f) (constrained_by k w arrow (Linear (signal number)) y s)
  unfolding signal
  constraint_wrote number y n s mx my h = at arrow
    where
      at : (a : Arrow)
          → OnGood (Wrote C t f) (constrained_by k w a (Linear (signal number)) y s)
      at AssignArrow = good_ok (Wrote C t f) s h
      at ConstrainArrow =
          good_weaker (Constrains (Linear (signal number)) y s) (Wrote C t f)
          (constrained k w (Linear (signal number)) y s)
          (constrained_adds k w (Linear (signal number)) y s) (λ u c. record {
            signals = h.signals;
            equations = h.equations ++ record {
              left = number_of (Linear (signal number));
              right = number_of y;
              parts = c.parts;
            } ∷ [];
            added = c.adds.0;
            counts = h.counts;
            is = c.adds.1 ∙ ap (λ (z : State). with_added (with_equations z (record {
              left = number_of (Linear (signal number));
              right = number_of y;
              parts = c.parts;
            } ∷ [])) c.adds.0) h.is
                ∙ ap (λ (es : List Equation). record (wrote f t.part h.signals h.equations
                c.adds.0 h.counts) {
                  world = record (f.world) { equations = es; counts = h.counts };
                }) (append_assoc f.world.equations h.equations (record {
                  left = number_of (Linear (signal number));
                  right = number_of y;
                  parts = c.parts;
                } ∷ []));
            now = ap (λ (z : State). signals_of t.part z.frame) c.adds.1
                ∙ signals_added t.part s.frame c.adds.0 ∙ h.now;
            shapes = h.shapes;
            shapes_back = h.shapes_back;
            fed = h.fed;
            holds = λ v cv. all_append (IsEqualAt v) h.equations _ (h.holds v cv) (
              equation_holds C (Linear (signal number)) y n n c.parts c.told mx
                  (means_in E C y n inside my) refl v cv,
              tt,
            );
          })

  -- all elements
  pub elements_wrote : (places : List ℕ) (vs : List Value) (values : List ℕ) (s : State)
      → ((v : Assignment) → C v → AllAt v first places values) → Rows E vs values
      → Wrote C t f s → OnGood (Wrote C t f) (write_elements k w arrow t places vs s)
  elements_wrote [] vs values s at rows h = good_ok (Wrote C t f) s h
  elements_wrote (place ∷ places) [] values s at rows h = good_ok (Wrote C t f) s h
  elements_wrote (place ∷ places) (v ∷ vs) [] s at rows h = absurd rows
  elements_wrote (place ∷ places) (y ∷ vs) (value ∷ values) s at rows h =
      good_next FirstIs (Wrote C t f) (write_element w t place s) _ (element_wrote place s h)
      (λ x p.
      good_next (Wrote C t f) (Wrote C t f)
      (constrained_by k w arrow (Linear (signal (x.0.first + place))) y x.1) _
      (constraint_wrote (x.0.first + place) y value x.1
      (λ v cv. ap (λ (n : ℕ). v.at (n + place)) p.1 ∙ (at v cv).0) rows.0 p.0)
      (λ s2 h2. elements_wrote places vs values s2 (λ v cv. (at v cv).1) rows.1 h2))
