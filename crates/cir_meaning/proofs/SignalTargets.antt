-- The target of an assignment to signals in a run, and what is written there.
use Rattle.std.proofs.Common.{◌≡◌, ℕ, zero, suc, ◌+◌, Bool, true, false, not, List, [], ◌∷◌, ◌++◌}
use Rattle.std.proofs.Common.{Option, Some, None, is_some, refl, sym, ap, subst, ◌∙◌, slice_get}
use Rattle.std.proofs.Common.{slice_set, arith, length}
use Rattle.std.proofs.lemmas.List.{append-nil}
use Rattle.cir_ast.specs.declared.program.Meant.{Meant}
use Rattle.cir_ast.specs.declared.program.Meant.TheVariants as meant
use Rattle.cir_ast.specs.declared.operators.Arrow.{Arrow}
use Rattle.cir_ast.specs.declared.operators.Direction.{Direction}
use Rattle.cir_ast.specs.declared.refusal.Kind.TheVariants.{WrongKind, UnknownIndex}
use Rattle.cir_ast.specs.declared.refusal.Kind.TheVariants.{ReadBeforeWrite, ShapeDiffers}
use Rattle.cir_ast.specs.Tree.{Expr, Accessors, done, index, member}
use Rattle.cir_lc.specs.Number.{Assignment}
use Rattle.cir_meaning.specs.Tried.{Where, next}
use Rattle.cir_meaning.specs.Places.{all_known}
use Rattle.cir_meaning.specs.Limits.{Counts}
use Rattle.cir_meaning.specs.Arrays.{Whole, reach, same_dims}
use Rattle.cir_meaning.specs.Source.{Equation}
use Rattle.cir_meaning.specs.Frame.{SignalEntry, Signals, Part, State, Context, entry_at, is_input}
use Rattle.cir_meaning.specs.Frame.{is_inner}
use Rattle.cir_meaning.specs.Reading.{find_signal, told_signal, named_signal, part_at}
use Rattle.cir_meaning.specs.Evaluate.{value_in}
use Rattle.cir_meaning.specs.Writing.{Target, signals_of, part_signals, with_part_signals, targeted}
use Rattle.cir_meaning.specs.Writing.{target_at, target_in, SignalAssignment, signal_assignment}
use Rattle.cir_meaning.specs.Writing.{write_signal}
use Rattle.cir_meaning.specs.Costs.{Cost}
use Rattle.cir_meaning.specs.Simple as simple
use Rattle.cir_meaning.specs.Run.{Wires, put_wires}
use Rattle.cir_meaning.proofs.Good.{OnGood, good_ok, good_bad, good_next, good_on, good_needed}
use Rattle.cir_meaning.proofs.Good.{good_needed_as, good_found_as, good_weaker}
use Rattle.cir_meaning.proofs.Pairs.{good_both}
use Rattle.cir_meaning.proofs.Likes.{CallKeeps, Like, value_like}
use Rattle.cir_meaning.proofs.Same.{Rows, rows_count}
use Rattle.cir_meaning.proofs.Marking.{MarksOf, KeepsWires}
use Rattle.cir_meaning.proofs.Writing.{Marked, Placed, Tested, AllBelow, elements_marked}
use Rattle.cir_meaning.proofs.Writing.{elements_placed, elements_below, signals_added}
use Rattle.cir_meaning.proofs.Holds.{found_entry}
use Rattle.cir_meaning.proofs.Standing.{changed}
use Rattle.cir_meaning.proofs.VariableRuns.{like_changed, with_added, IsAdded, stepped_adds}
use Rattle.cir_meaning.proofs.VariableRuns.{indices_like}
use Rattle.cir_meaning.proofs.SignalWrites.{wrote, AllAt, Wrote, elements_wrote, shapes_itself}

-- what is written: a signal that is there, and an input if it is a component's
pub record TargetIs (f : State) (t : Target) : Type 0 where
  pub entry : SignalEntry
  pub there : entry_at (signals_of t.part f.frame) t.number ≡ Some entry
  pub input : (j : ℕ) → t.part ≡ Some j → is_input entry.direction ≡ true

abbrev pub TargetLike : State → Target × State → Type 0
TargetLike f x = Like f x.1 × TargetIs f x.0

signals_like : (part : Option ℕ) (f s : State) → Like f s
    → signals_of part s.frame ≡ signals_of part f.frame
signals_like None f s l = l.1
signals_like (Some j) f s l = ap (λ (ps : List Part). part_signals (slice_get ps j)) l.3

targeted_is : (w : Where) (part : Option ℕ) (n : ℕ) (e : SignalEntry) (os : List (Option ℕ))
    → OnGood (λ t. (t.part ≡ part) × (t.number ≡ n)) (targeted w part n e os)
targeted_is w part n e os =
    good_needed (λ t. (t.part ≡ part) × (t.number ≡ n)) (is_some (all_known os)) w UnknownIndex _
    (good_on (λ t. (t.part ≡ part) × (t.number ≡ n)) (reach w false Whole e.dims os) _
    (λ r. good_ok (λ t. (t.part ≡ part) × (t.number ≡ n)) _ (refl, refl)))

named_is : (w : Where) (name : List ℕ) (signals : Signals)
    → OnGood (λ x. entry_at signals x.0 ≡ Some x.1) (named_signal w name signals)
named_is w name signals =
    at (find_signal (λ e. not (is_inner e.direction)) name 0 signals) refl
  where
    at : (o : Option (ℕ × SignalEntry))
        → find_signal (λ e. not (is_inner e.direction)) name 0 signals ≡ o
        → OnGood (λ x. entry_at signals x.0 ≡ Some x.1)
        (told_signal w (is_some (find_signal (λ e. is_inner e.direction) name 0 signals)) o)
    at None e = good_bad (λ x. entry_at signals x.0 ≡ Some x.1) _
    at (Some x) e =
        let place : (i : ℕ) × (x.0 ≡ 0 + i) × (entry_at signals i ≡ Some x.1) = found_entry
        (λ a. not (is_inner a.direction)) name 0 signals x e in
        let number : 0 + place.0 ≡ place.0 = omega arith in
        good_ok (λ x. entry_at signals x.0 ≡ Some x.1) x
        (ap (λ (a : ℕ). entry_at signals a) (place.1 ∙ number) ∙ place.2)

module _ (k : Context) (keeps : CallKeeps k.call) (f : State) (w : Where) where
  is_target : (part : Option ℕ) (n : ℕ) (e : SignalEntry) (t : Target)
      → (t.part ≡ part) × (t.number ≡ n) → entry_at (signals_of part f.frame) n ≡ Some e
      → ((j : ℕ) → part ≡ Some j → is_input e.direction ≡ true) → TargetIs f t
  is_target part n e t is there input = record {
    entry = e;
    there = ap (λ (o : Option ℕ). entry_at (signals_of o f.frame) t.number) is.0
        ∙ ap (λ (m : ℕ). entry_at (signals_of part f.frame) m) is.1 ∙ there;
    input = λ j s. input j (sym is.0 ∙ s);
  }

  component_target : (n : ℕ) (os : List (Option ℕ)) (accessors : Accessors Meant) (s : State)
      → Like f s → OnGood (TargetLike f) (target_at k w n os accessors s)
  component_target n os done s l = good_bad (TargetLike f) _
  component_target n os (index e rest) s l = good_bad (TargetLike f) _
  component_target n os (member name rest) s l =
      good_on (TargetLike f) (part_at w false n os s.frame) _ (λ j.
      good_next (λ x. entry_at (signals_of j s.frame) x.0 ≡ Some x.1) (TargetLike f)
      (named_signal w name (signals_of j s.frame)) _ (named_is w name (signals_of j s.frame))
      (λ x there.
      good_needed_as (TargetLike f) (is_input x.1.direction) w WrongKind _ (λ input.
      indices_like k keeps f w (TargetLike f) [] rest s _ l (λ inner more s1 l1.
      good_next (λ t. (t.part ≡ j) × (t.number ≡ x.0)) (TargetLike f)
      (targeted w j x.0 x.1 inner) _ (targeted_is w j x.0 x.1 inner) (λ t is.
      good_ok (TargetLike f) (t, s1) (
        l1,
        is_target j x.0 x.1 t is
            (ap (λ (xs : Signals). entry_at xs x.0) (sym (signals_like j f s l)) ∙ there)
            (λ i e. input),
      ))))))

  pub target_like : (m : Meant) (accessors : Accessors Meant) (s : State) → Like f s
      → OnGood (TargetLike f) (target_in k w m accessors s)
  target_like (meant.Signal direction n) accessors s l =
      indices_like k keeps f w (TargetLike f) [] accessors s _ l (λ os rest s1 l1.
      good_found_as (TargetLike f) w ReadBeforeWrite (entry_at s1.frame.signals n) _ (λ e there.
      good_next (λ t. (t.part ≡ None) × (t.number ≡ n)) (TargetLike f) (targeted w None n e os) _
      (targeted_is w None n e os) (λ t is.
      good_ok (TargetLike f) (t, s1) (
        l1,
        is_target None n e t is
            (ap (λ (xs : Signals). entry_at xs n) (sym l1.1) ∙ there) (λ j s2. cc),
      ))))
  target_like (meant.Component n) accessors s l =
      indices_like k keeps f w (TargetLike f) [] accessors s _ l
      (λ os rest s1 l1. component_target n os rest s1 l1)
  target_like meant.Other accessors s l = good_bad (TargetLike f) _
  target_like (meant.Variable n) accessors s l = good_bad (TargetLike f) _
  target_like (meant.Template n) accessors s l = good_bad (TargetLike f) _
  target_like (meant.Function n) accessors s l = good_bad (TargetLike f) _

  abbrev pub SignalLike : SignalAssignment → Type 0
  SignalLike a = Like f a.state × TargetIs f a.target

  pub assignment_target : (m : Meant) (accessors : Accessors Meant) (e : Expr Meant) (s : State)
      → Like f s → OnGood SignalLike (signal_assignment k w m accessors e s)
  assignment_target m accessors e s l =
      good_next (λ x. Like f x.1) SignalLike (value_in k w false Whole e s) _
      (value_like f k keeps w false Whole e s l) (λ x p.
      good_next (TargetLike f) SignalLike (target_in k w m accessors x.1) _
      (target_like m accessors x.1 p) (λ y g.
      good_needed SignalLike (same_dims y.0.reach.left x.0.dims) w ShapeDiffers _
      (good_ok SignalLike _ g)))

wired_adds : (k : Context) (w : Where) (cost : Cost) (places : List ℕ) (s : State)
    → OnGood (IsAdded s) (simple.wired k w cost places s)
wired_adds k w cost [] s = good_ok (IsAdded s) s (s.frame.added, refl)
wired_adds k w cost (place ∷ places) s = stepped_adds k w cost 0 s

-- the signals of a part are put back as they are
set_itself : {A : Type 0} (xs : List A) (j : ℕ) (x : A) → slice_get xs j ≡ Some x
    → slice_set xs j x ≡ xs
set_itself [] j x e = refl
set_itself (y ∷ ys) zero x e = let same : x ≡ y = cc in ap (λ z. z ∷ ys) same
set_itself (y ∷ ys) (suc j) x e = ap (λ zs. y ∷ zs) (set_itself ys j x e)

own_nothing : (f : State) (a c : Counts)
    → changed f f.frame.variables a c ≡ wrote f None f.frame.signals [] a c
own_nothing f a c =
    ap (λ (es : List Equation). record {
      frame = record (f.frame) { added = a };
      world = record (f.world) { equations = es; counts = c };
    }) (sym (append-nil f.world.equations))

wrote_nothing : (f : State) (part : Option ℕ) (a c : Counts)
    → changed f f.frame.variables a c ≡ wrote f part (signals_of part f.frame) [] a c
wrote_nothing f None a c = own_nothing f a c
wrote_nothing f (Some j) a c =
    own_nothing f a c ∙ at (slice_get f.frame.parts j) refl
  where
    at : (o : Option Part) → slice_get f.frame.parts j ≡ o
        → wrote f None f.frame.signals [] a c ≡ record {
          frame = record (with_part_signals j (part_signals o) o f.frame) { added = a };
          world = record (f.world) { equations = f.world.equations ++ []; counts = c };
        }
    at None e = refl
    at (Some p) e =
        ap (λ (ps : List Part). record {
          frame = record (f.frame) { parts = ps; added = a };
          world = record (f.world) { equations = f.world.equations ++ []; counts = c };
        }) (sym (set_itself f.frame.parts j p e))

-- what a write leaves
pub record Written (C : Assignment → Type 0) (test : Direction → Bool) (t : Target)
    (values : List ℕ) (wires : Wires) (f s : State) : Type 0 where
  pub wrote : Wrote C t f s
  pub marks : MarksOf test wrote.signals (put_wires t.number t.reach.places values wires)
  pub keeps : KeepsWires wires (put_wires t.number t.reach.places values wires)
  pub placed : Placed (put_wires t.number t.reach.places values wires) t.number t.reach.places
      values
  pub inside : (e : SignalEntry) → entry_at (signals_of t.part f.frame) t.number ≡ Some e
      → AllBelow (length e.written) t.reach.places values

abbrev pub Condition : (Assignment → Type 0) → (first : ℕ) → List ℕ → List ℕ → Assignment → Type 0
Condition E first places values v = E v × AllAt v first places values

wrote_added : (C : Assignment → Type 0) (t : Target) (f s u : State) (h : Wrote C t f s)
    → IsAdded s u
    → (g : Wrote C t f u) × (g.signals ≡ h.signals)
wrote_added C t f s u h i = (
  record {
    signals = h.signals;
    equations = h.equations;
    added = i.0;
    counts = h.counts;
    is = i.1 ∙ ap (λ (z : State). with_added z i.0) h.is;
    now = ap (λ (z : State). signals_of t.part z.frame) i.1 ∙ signals_added t.part s.frame i.0
        ∙ h.now;
    shapes = h.shapes;
    shapes_back = h.shapes_back;
    fed = h.fed;
    holds = h.holds;
  },
  refl,
)

pub written_good : (E : Assignment → Type 0) (test : Direction → Bool) (k : Context) (w : Where)
    (arrow : Arrow) (cost : Cost) (f : State) (a : SignalAssignment) (values : List ℕ)
    (wires : Wires) → Like f a.state → (is : TargetIs f a.target)
    → test is.entry.direction ≡ true
    → MarksOf test (signals_of a.target.part f.frame) wires → Rows E a.value.items values
    → OnGood (Written (Condition E is.entry.first a.target.reach.places values) test a.target
    values wires f)
    (next (write_signal k w arrow a) (simple.wired k w cost a.target.reach.places))
written_good E test k w arrow cost f a values wires l is tested marks rows =
    good_next (λ s. Wrote C t f s × (Marked test t wires new s
    × (Placed new t.number places values × AllBelow (length is.entry.written) places values)))
    (Written C test t values wires f) (write_signal k w arrow a) _
    (good_both (Wrote C t f) (λ s. Marked test t wires new s
    × (Placed new t.number places values × AllBelow (length is.entry.written) places values))
    (write_signal k w arrow a)
    (elements_wrote C E (λ v cv. cv.0) k w arrow t f is.entry.first firsts places a.value.items
    values a.state (λ v cv. cv.1) rows start)
    (good_both (Marked test t wires new)
    (λ s. Placed new t.number places values × AllBelow (length is.entry.written) places values)
    (write_signal k w arrow a)
    (elements_marked test t k w arrow places a.value.items values a.state wires
    (rows_count E a.value.items values rows) marks_a tested_a)
    (good_both (λ s. Placed new t.number places values)
    (λ s. AllBelow (length is.entry.written) places values) (write_signal k w arrow a)
    (elements_placed test t k w arrow places a.value.items values a.state wires
    (rows_count E a.value.items values rows) marks_a tested_a)
    (elements_below t (length is.entry.written) k w arrow places a.value.items values a.state
    (rows_count E a.value.items values rows) counted_a))))
    (λ s h.
    good_weaker (IsAdded s) (Written C test t values wires f) (simple.wired k w cost places s)
    (wired_adds k w cost places s) (λ u i.
    let after : (g : Wrote C t f u) × (g.signals ≡ h.0.signals) = wrote_added C t f s u h.0 i in
    record {
      wrote = after.0;
      marks = subst (λ xs. MarksOf test xs new) (sym after.1) (subst (λ xs. MarksOf test xs new)
          h.0.now h.1.0.marks);
      keeps = h.1.0.keeps;
      placed = h.1.1.0;
      inside = λ e there. subst (λ (x : SignalEntry). AllBelow (length x.written) places values)
          (entry_is e there) h.1.1.1;
    }))
  where
    t : Target
    t = a.target

    places : List ℕ
    places = a.target.reach.places

    new : Wires
    new = put_wires a.target.number a.target.reach.places values wires

    C : Assignment → Type 0
    C = Condition E is.entry.first a.target.reach.places values

    firsts : (e : SignalEntry) → entry_at (signals_of a.target.part f.frame) a.target.number
        ≡ Some e → e.first ≡ is.entry.first
    firsts e there =
        let both : Some e ≡ Some is.entry = sym there ∙ is.there in
        let same : e ≡ is.entry = cc in
        ap (λ (x : SignalEntry). x.first) same

    marks_a : MarksOf test (signals_of a.target.part a.state.frame) wires
    marks_a =
        subst (λ xs. MarksOf test xs wires) (sym (signals_like a.target.part f a.state l)) marks

    entry_is : (e : SignalEntry) → entry_at (signals_of a.target.part f.frame) a.target.number
        ≡ Some e → is.entry ≡ e
    entry_is e there = let both : Some is.entry ≡ Some e = sym is.there ∙ there in cc

    counted_a : (e : SignalEntry)
        → entry_at (signals_of a.target.part a.state.frame) a.target.number ≡ Some e
        → length e.written ≡ length is.entry.written
    counted_a e there =
        let in_f : entry_at (signals_of a.target.part f.frame) a.target.number ≡ Some e =
        ap (λ (xs : Signals). entry_at xs a.target.number) (sym (signals_like a.target.part f
        a.state l)) ∙ there in
        ap (λ (x : SignalEntry). length x.written) (sym (entry_is e in_f))

    tested_a : Tested test a.target (signals_of a.target.part a.state.frame)
    tested_a e there =
        let in_f : entry_at (signals_of a.target.part f.frame) a.target.number ≡ Some e =
        ap (λ (xs : Signals). entry_at xs a.target.number) (sym (signals_like a.target.part f
        a.state l)) ∙ there in
        let both : Some is.entry ≡ Some e = sym is.there ∙ in_f in
        let same : is.entry ≡ e = cc in
        subst (λ x. test x.direction ≡ true) same tested

    start : Wrote (Condition E is.entry.first a.target.reach.places values) a.target f a.state
    start = record {
      signals = signals_of a.target.part f.frame;
      equations = [];
      added = a.state.frame.added;
      counts = a.state.world.counts;
      is = like_changed f a.state l ∙ wrote_nothing f a.target.part a.state.frame.added
          a.state.world.counts;
      now = signals_like a.target.part f a.state l;
      shapes = shapes_itself (signals_of a.target.part f.frame);
      shapes_back = shapes_itself (signals_of a.target.part f.frame);
      fed = λ e. e;
      holds = λ v cv. tt;
    }
