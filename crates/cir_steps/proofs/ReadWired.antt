-- A write of signals is a step that reads what is there already, and behind the write of a
-- component's last input so do the component's steps.
use Rattle.std.proofs.Common.{◌≡◌, ◌≢◌, ◌⊎◌, inl, inr, ℕ, zero, suc, ◌+◌, ◌<◌, ◌≤◌, Bool, true}
use Rattle.std.proofs.Common.{false, cond, List, [], ◌∷◌, ◌++◌, map, length, Option, Some, None, Ok}
use Rattle.std.proofs.Common.{refl, sym, ap, subst, ◌∙◌, arith, slice_get, slice_set, is_some}
use Rattle.std.proofs.Common.{nat_eq}
use Rattle.std.specs.Prelude.{◌&&◌, not}
use Rattle.std.specs.List.{list_all}
use Rattle.std.proofs.lemmas.Bool.{eqb-true}
use Rattle.cir_ast.specs.declared.program.Meant.{Meant}
use Rattle.cir_ast.specs.declared.program.Meant.TheVariants as meant
use Rattle.cir_ast.specs.declared.operators.Arrow.{Arrow}
use Rattle.cir_ast.specs.declared.operators.Arrow.TheVariants as arrow
use Rattle.cir_ast.specs.declared.refusal.Kind.{Kind}
use Rattle.cir_ast.specs.declared.refusal.Kind.TheVariants.{ReadBeforeWrite, SecondWrite, WrongKind}
use Rattle.cir_ast.specs.declared.refusal.Kind.TheVariants.{ShapeDiffers}
use Rattle.cir_ast.specs.Tree.{Expr, Accessors, done, index, member}
use Rattle.cir_meaning.specs.Tried.{Where, Tried, next, needed}
use Rattle.cir_meaning.specs.Arrays.{Datum, Scalar, Whole, the_item, same_dims}
use Rattle.cir_meaning.specs.Values.{Value, Parts, parts_of, difference_of, known_number}
use Rattle.cir_meaning.specs.Frame.{SignalEntry, Signals, Part, Sizes, State, Context, is_input}
use Rattle.cir_meaning.specs.Frame.{is_fed, is_written, is_all_written, entry_at, put_at, adding}
use Rattle.cir_meaning.specs.Reading.{part_at, named_signal}
use Rattle.cir_meaning.specs.Evaluate.{value_in, indices_in}
use Rattle.cir_meaning.specs.Writing.{Target, signals_of, targeted, target_at, target_in, marked}
use Rattle.cir_meaning.specs.Writing.{write_element, appended, constrained_by, write_elements}
use Rattle.cir_meaning.specs.Writing.{SignalAssignment, signal_assignment}
use Rattle.cir_meaning.specs.Simple.{wired}
use Rattle.cir_meaning.specs.Functions.{function_fault, function_elements}
use Rattle.cir_meaning.specs.Costs.{Cost, cost_of, indices_cost}
use Rattle.cir_meaning.specs.Steps.{unless_faulty, with_step, value_cost}
use Rattle.cir_meaning.specs.Run.{Wires, RunPart, settled, put_wire, put_wires}
use Rattle.cir_meaning.specs.RunBodies.{port_tables}
use Rattle.cir_meaning.proofs.Good.{OnGood, good_ok, good_bad, good_next, good_is, good_found_as}
use Rattle.cir_meaning.proofs.Good.{good_needed}
use Rattle.cir_meaning.proofs.Reaching.{and_true}
use Rattle.cir_meaning.proofs.Likes.{CallKeeps, Like, like_itself, value_like}
use Rattle.cir_meaning.proofs.KnownCalls.{CallBoth}
use Rattle.cir_meaning.proofs.Weights.{cover_entries, cover_tables, cover_join}
use Rattle.cir_meaning.proofs.NumberPlaces.{Roomy}
use Rattle.cir_meaning.proofs.Marking.{put_entry}
use Rattle.cir_meaning.proofs.Writing.{signals_put, signals_added}
use Rattle.cir_meaning.proofs.ScanPoints.{next_to, needed_to}
use Rattle.cir_steps.specs.Step.{Step}
use Rattle.cir_steps.specs.Making.{written_elements}
use Rattle.cir_steps.specs.Written.{times}
use Rattle.cir_steps.specs.Places.{HasFewMembers, IsWiredPlace}
use Rattle.cir_steps.proofs.Wiring.{marks_at, flag}
use Rattle.cir_steps.proofs.ReadCells.{In, in_first, in_rest, Behind, behind_weaker, Given}
use Rattle.cir_steps.proofs.ReadLeaves.{Reads, both_reads, value_told, none_left}

-- the elements that are written
pub in_map : (f : ℕ → ℕ) (i : ℕ) (xs : List ℕ) → In i xs → In (f i) (map f xs)
in_map f i [] h = absurd (omega arith)
in_map f i (x ∷ xs) h = at (nat_eq x i) refl h (in_map f i xs)
  where
    at : (b : Bool) → nat_eq x i ≡ b → 1 ≤ cond b 1 0 + times i xs
        → (In i xs → In (f i) (map f xs)) → In (f i) (f x ∷ map f xs)
    at true e g go =
        subst (λ (y : ℕ). In (f i) (f y ∷ map f xs)) (sym (eqb-true x i e))
        (in_first (f i) (map f xs))
    at false e g go = in_rest (f i) (f x) (map f xs) (go (omega arith))

pub put_marks : (n : ℕ) (places : List ℕ) (vs : List Value) (wires : Wires) (m i : ℕ)
    → is_some (put_wires n places (map (λ v. settled v 0) vs) wires m i) ≡ true
    → (is_some (wires m i) ≡ true) ⊎ ((n ≡ m) × In i (written_elements places vs))
put_marks n [] vs wires m i h = inl h
put_marks n (p ∷ ps) [] wires m i h = inl h
put_marks n (p ∷ ps) (v ∷ vs) wires m i h =
    at (put_marks n ps vs (put_wire n p (settled v 0) wires) m i h)
  where
    one : (a b : Bool) → nat_eq n m ≡ a → nat_eq p i ≡ b
        → is_some (cond (a && b) (Some (settled v 0)) (wires m i)) ≡ true
        → (is_some (wires m i) ≡ true) ⊎ ((n ≡ m) × In i (p ∷ written_elements ps vs))
    one true true e g s =
        inr (
          eqb-true n m e,
          subst (λ (j : ℕ). In i (j ∷ written_elements ps vs))
              (sym (eqb-true p i g)) (in_first i (written_elements ps vs)),
        )
    one true false e g s = inl s
    one false b e g s = inl s

    at : (is_some (put_wire n p (settled v 0) wires m i) ≡ true)
        ⊎ ((n ≡ m) × In i (written_elements ps vs))
        → (is_some (wires m i) ≡ true) ⊎ ((n ≡ m) × In i (p ∷ written_elements ps vs))
    at (inl s) = one (nat_eq n m) (nat_eq p i) refl refl s
    at (inr s) = inr (s.0, in_rest i p (written_elements ps vs) s.1)

pub mark_there : (o : Option SignalEntry) (i : ℕ) → is_some (marks_at o i) ≡ true
    → (e : SignalEntry) × (o ≡ Some e) × (slice_get e.written i ≡ Some true)
mark_there None i h = cc
mark_there (Some e) i h = (e, refl, at (slice_get e.written i) h)
  where
    at : (o : Option Bool) → is_some (flag o) ≡ true → o ≡ Some true
    at (Some true) g = refl
    at (Some false) g = cc
    at None g = cc

-- all inputs of a component that is fed are written
fed_all : (xs : Signals) → is_fed xs ≡ true → (n : ℕ) (e : SignalEntry) → entry_at xs n ≡ Some e
    → is_input e.direction ≡ true → is_all_written e ≡ true
fed_all [] h n e there input = cc
fed_all (None ∷ xs) h zero e there input = cc
fed_all (None ∷ xs) h (suc n) e there input = fed_all xs h n e there input
fed_all (Some d ∷ xs) h zero e there input =
    let two : (cond (is_input d.direction) (is_all_written d) true ≡ true) × (is_fed xs ≡ true) =
    and_true (cond (is_input d.direction) (is_all_written d) true) (is_fed xs) h in
    let same : d ≡ e = cc in
    let is : cond (is_input e.direction) (is_all_written e) true ≡ true =
    subst (λ (a : SignalEntry). cond (is_input a.direction) (is_all_written a) true ≡ true) same
    two.0 in
    sym (ap (λ (b : Bool). cond b (is_all_written e) true) input) ∙ is
fed_all (Some d ∷ xs) h (suc n) e there input =
    let two : (cond (is_input d.direction) (is_all_written d) true ≡ true) × (is_fed xs ≡ true) =
    and_true (cond (is_input d.direction) (is_all_written d) true) (is_fed xs) h in
    fed_all xs two.1 n e there input

pub all_mark : (bs : List Bool) (i : ℕ) → list_all (λ b. b) bs ≡ true → i < length bs
    → slice_get bs i ≡ Some true
all_mark [] i h less = absurd (omega arith)
all_mark (b ∷ bs) zero h less = ap (λ (a : Bool). Some a) (and_true b _ h).0
all_mark (b ∷ bs) (suc i) h less = all_mark bs i (and_true b _ h).1 (omega arith)

-- so its steps read what is there
pub fed_behind : (G : ℕ → Type 0) (before : List ℕ) (xs : Signals) (wires : Wires)
    (steps : List Step)
    → ((n : ℕ) (e : SignalEntry) → entry_at xs n ≡ Some e → (i c : ℕ) → i < length e.written
    → wires n i ≡ Some c → is_input e.direction ≡ true → slice_get e.written i ≡ Some true
    → In c before)
    → is_fed xs ≡ true → Behind (Given xs wires) [] steps → Behind G before steps
fed_behind G before xs wires steps inputs fed h =
    behind_weaker (Given xs wires) G [] before steps at h
  where
    at : (c : ℕ) → Given xs wires c ⊎ In c [] → G c ⊎ In c before
    at c (inl (n, e, there, input, i, less, own)) =
        inr (inputs n e there i c less own input
        (all_mark e.written i (fed_all xs fed n e there input) less))
    at c (inr i) = absurd (omega arith)

-- what marks leave as it is, a write leaves as it is
abbrev pub Entries : (SignalEntry → Type 0) → Signals → Type 0
Entries P xs = (n : ℕ) (e : SignalEntry) → entry_at xs n ≡ Some e → P e

module _ (P : SignalEntry → Type 0) (marks : (e : SignalEntry) (i : ℕ) → P e → P (marked e i))
    (k : Context) (w : Where) (t : Target) where
  abbrev Keeps : State → Type 0
  Keeps s = Entries P (signals_of t.part s.frame)

  element_keeps : (place : ℕ) (s : State) → Keeps s
      → OnGood (λ x. Keeps x.1) (write_element w t place s)
  element_keeps place s h =
      good_found_as (λ x. Keeps x.1) w ReadBeforeWrite
      (entry_at (signals_of t.part s.frame) t.number) _ (λ e there.
      good_needed (λ x. Keeps x.1) (not (is_written e place)) w SecondWrite _
      (good_ok (λ x. Keeps x.1) _
      (subst (Entries P) (sym (signals_put t.part t.number e
      (put_at t.number (marked e place) (signals_of t.part s.frame)) s.frame there))
      (λ m d at_m. at e there m d
      (put_entry t.number m (marked e place) d (signals_of t.part s.frame) at_m)))))
    where
      at : (e : SignalEntry) → entry_at (signals_of t.part s.frame) t.number ≡ Some e → (m : ℕ)
          (d : SignalEntry) → ((t.number ≡ m) × (marked e place ≡ d)) ⊎ ((t.number ≢ m)
          × (entry_at (signals_of t.part s.frame) m ≡ Some d)) → P d
      at e there m d (inl same) = subst P same.1 (marks e place (h t.number e there))
      at e there m d (inr old) = h m d old.1

  constrained_keeps : (a : Arrow) (x y : Value) (s : State) → Keeps s
      → OnGood Keeps (constrained_by k w a x y s)
  constrained_keeps arrow.Assign x y s h = good_ok Keeps s h
  constrained_keeps arrow.Constrain x y s h = at (parts_of (difference_of x y))
    where
      at : (o : Option Parts) → OnGood Keeps (appended k w x y s o)
      at None = good_bad Keeps _
      at (Some c) =
          good_ok Keeps _ (subst (Entries P) (sym (signals_added t.part s.frame _)) h)

  pub elements_keep : (a : Arrow) (places : List ℕ) (vs : List Value) (s : State) → Keeps s
      → OnGood Keeps (write_elements k w a t places vs s)
  elements_keep a [] vs s h = good_ok Keeps s h
  elements_keep a (place ∷ places) [] s h = good_ok Keeps s h
  elements_keep a (place ∷ places) (v ∷ vs) s h =
      good_next (λ x. Keeps x.1) Keeps (write_element w t place s) _ (element_keeps place s h)
      (λ x g. good_next Keeps Keeps (constrained_by k w a _ v x.1) _
      (constrained_keeps a _ v x.1 g) (λ s2 i. elements_keep a places vs s2 i))

  pub wired_keeps : (cost : Cost) (places : List ℕ) (s : State) → Keeps s
      → OnGood Keeps (wired k w cost places s)
  wired_keeps cost [] s h = good_ok Keeps s h
  wired_keeps cost (place ∷ places) s h = at (function_fault k.program cost.calls)
    where
      at : (o : Option Kind) → OnGood Keeps (unless_faulty w o (Ok (adding (with_step cost 0
          (function_elements k.program cost.calls)) s)))
      at None =
          good_ok Keeps _ (subst (Entries P) (sym (signals_added t.part s.frame _)) h)
      at (Some kind) = good_bad Keeps _

-- numbers are those that they were
pub cover_set : (m : ℕ) (ps : List Part) (rs : List RunPart) (j : ℕ) (p : Part) (xs : Signals)
    → slice_get ps j ≡ Some p → cover_entries m xs ≡ cover_entries m p.signals
    → cover_tables m (port_tables (slice_set ps j (record p { signals = xs })) rs)
    ≡ cover_tables m (port_tables ps rs)
cover_set m [] rs j p xs there same = refl
cover_set m (q ∷ ps) [] zero p xs there same = refl
cover_set m (q ∷ ps) [] (suc j) p xs there same = refl
cover_set m (q ∷ ps) (r ∷ rs) zero p xs there same =
    let is : q ≡ p = cc in
    ap (λ (n : ℕ). n + cover_tables m (r.inside ++ port_tables ps rs))
    (same ∙ ap (λ (a : Part). cover_entries m a.signals) (sym is))
cover_set m (q ∷ ps) (r ∷ rs) (suc j) p xs there same =
    let rest : cover_tables m (port_tables (slice_set ps j (record p { signals = xs })) rs)
    ≡ cover_tables m (port_tables ps rs) = cover_set m ps rs j p xs there same in
    let new : cover_tables m (r.inside ++ port_tables (slice_set ps j (record p { signals = xs }))
    rs) ≡ cover_tables m r.inside
    + cover_tables m (port_tables (slice_set ps j (record p { signals = xs })) rs) =
    cover_join m r.inside _ in
    let old : cover_tables m (r.inside ++ port_tables ps rs)
    ≡ cover_tables m r.inside + cover_tables m (port_tables ps rs) =
    cover_join m r.inside (port_tables ps rs) in
    omega arith

-- what an assignment to signals reads
module _ (size : ℕ) (final : Sizes) (room : Roomy size final) (k : Context)
    (twice : CallBoth k.call) (keeps : CallKeeps k.call) (w : Where) (f : State) where
  abbrev There : Cost → Type 0
  There cost = Reads size final room k twice keeps w f cost

  few_left : (n : ℕ) (accessors : Accessors Meant) → HasFewMembers accessors
      → (os : List (Option ℕ)) (s : State) (a : Target × State) → Like f s
      → indices_in k w false os accessors s (target_at k w n) ≡ Ok a
      → There (indices_cost k w false accessors f)
  few_left n done h os s a l ex = cc
  few_left n (index e rest) h os s a l ex =
      let y : (y : Datum × State) × (value_in k w false Scalar e s ≡ Ok y)
      × (indices_in k w false (os ++ known_number (the_item y.0) ∷ []) rest y.1
      (target_at k w n) ≡ Ok a) =
      next_to (value_in k w false Scalar e s)
      (λ y. indices_in k w false (os ++ known_number (the_item y.0) ∷ []) rest y.1
      (target_at k w n)) a ex in
      both_reads size final room k twice keeps w f (cost_of k w false e f)
      (indices_cost k w false rest f)
      (value_told size final room k twice keeps w f false Scalar e s y.0 l y.1)
      (few_left n rest h (os ++ known_number (the_item y.0.0) ∷ []) y.0.1 a
      (good_is (λ z. Like f z.1) (value_in k w false Scalar e s) y.0 y.1
      (value_like f k keeps w false Scalar e s l)) y.2)
  few_left n (member name rest) h os s a l ex =
      let b : (j : Option ℕ) × (part_at w false n os s.frame ≡ Ok j) × (named j ≡ Ok a) =
      next_to (part_at w false n os s.frame) named a ex in
      let c : (x : ℕ × SignalEntry)
      × (named_signal w name (signals_of b.0 s.frame) ≡ Ok x) × (tested b.0 x ≡ Ok a) =
      next_to (named_signal w name (signals_of b.0 s.frame)) (tested b.0) a b.2 in
      let d : (is_input c.0.1.direction ≡ true) × (inner b.0 c.0 ≡ Ok a) =
      needed_to (is_input c.0.1.direction) w WrongKind (inner b.0 c.0) a c.2 in
      (none_left size final room k twice keeps w rest h false [] f s
      (λ os more_rest s1. next (targeted w b.0 c.0.0 c.0.1 os) (λ t. Ok (t, s1))) a l d.1).0
    where
      inner : Option ℕ → ℕ × SignalEntry → Tried (Target × State)
      inner j x =
          indices_in k w false [] rest s (λ os more_rest s1.
          next (targeted w j x.0 x.1 os) (λ t. Ok (t, s1)))

      tested : Option ℕ → ℕ × SignalEntry → Tried (Target × State)
      tested j x = needed (is_input x.1.direction) w WrongKind (inner j x)

      named : Option ℕ → Tried (Target × State)
      named j = next (named_signal w name (signals_of j s.frame)) (tested j)

  target_told : (m : Meant) (accessors : Accessors Meant) (s : State) (a : Target × State)
      → IsWiredPlace m accessors → Like f s → target_in k w m accessors s ≡ Ok a
      → There (indices_cost k w false accessors f)
  target_told (meant.Signal direction n) accessors s a h l ex =
      (none_left size final room k twice keeps w accessors h false [] f s _ a l ex).0
  target_told (meant.Component n) accessors s a h l ex = few_left n accessors h [] s a l ex
  target_told meant.Other accessors s a h l ex = cc
  target_told (meant.Variable n) accessors s a h l ex = cc
  target_told (meant.Template n) accessors s a h l ex = cc
  target_told (meant.Function n) accessors s a h l ex = cc

  pub signal_told : (m : Meant) (accessors : Accessors Meant) (e : Expr Meant)
      (b : SignalAssignment) → IsWiredPlace m accessors
      → signal_assignment k w m accessors e f ≡ Ok b → There (value_cost k w accessors e f)
  signal_told m accessors e b h ex =
      let y : (y : Datum × State) × (value_in k w false Whole e f ≡ Ok y) × (rest y ≡ Ok b) =
      next_to (value_in k w false Whole e f) rest b ex in
      let t : (t : Target × State) × (target_in k w m accessors y.0.1 ≡ Ok t)
      × (last y.0 t ≡ Ok b) = next_to (target_in k w m accessors y.0.1) (last y.0) b y.2 in
      both_reads size final room k twice keeps w f (cost_of k w false e f)
      (indices_cost k w false accessors f)
      (value_told size final room k twice keeps w f false Whole e f y.0 (like_itself f) y.1)
      (target_told m accessors y.0.1 t.0 h
      (good_is (λ z. Like f z.1) (value_in k w false Whole e f) y.0 y.1
      (value_like f k keeps w false Whole e f (like_itself f))) t.1)
    where
      last : Datum × State → Target × State → Tried SignalAssignment
      last y t =
          needed (same_dims t.0.reach.left y.0.dims) w ShapeDiffers
          (Ok record { value = y.0; target = t.0; state = t.1 })

      rest : Datum × State → Tried SignalAssignment
      rest y = next (target_in k w m accessors y.1) (last y)
