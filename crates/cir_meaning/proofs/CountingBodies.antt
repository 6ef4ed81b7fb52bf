-- In a program that compiles there are no more signals, constraints and terms than the limits.
use Rattle.std.specs.Prelude.{⊤, nat_le, sum_by, ◌-◌}
use Rattle.std.proofs.Common.{◌≡◌, ℕ, zero, suc, ◌+◌, ◌*◌, ◌≤◌, Bool, true, false, cond, List, []}
use Rattle.std.proofs.Common.{◌∷◌, ◌++◌, length, Option, Ok, refl, sym, subst, ◌∙◌, slice_get}
use Rattle.std.proofs.Common.{codes, arith, length-append}
use Rattle.std.specs.List.{AllByRecursion}
use Rattle.std.proofs.lemmas.Bool.{leb-true}
use Rattle.std.proofs.lemmas.List.Sums.{sum_by-append}
use Rattle.cir_ast.specs.declared.program.Meant.{Meant}
use Rattle.cir_ast.specs.declared.program.Meant.TheVariants as meant
use Rattle.cir_ast.specs.declared.operators.Direction.{Direction}
use Rattle.cir_ast.specs.declared.refusal.Kind.TheVariants.{WrongKind}
use Rattle.cir_ast.specs.Program.{Program, Main, Function}
use Rattle.cir_meaning.specs.Tried.{Where, found}
use Rattle.cir_meaning.specs.Limits.{Counts, nothing, Limited, limits, standing, tested, plus}
use Rattle.cir_meaning.specs.Limits.{with_array, is_too_large, count_sum}
use Rattle.cir_meaning.specs.Places.{elements}
use Rattle.cir_meaning.specs.Arrays.{Datum}
use Rattle.cir_meaning.specs.Source.{Equation, terms_of, all_terms}
use Rattle.cir_meaning.specs.Dependence.{IsFew}
use Rattle.cir_meaning.specs.Frame.{Signals, Group, Row, World, State, Caller, Maker, Context, at}
use Rattle.cir_meaning.specs.Frame.{begun, settle}
use Rattle.cir_meaning.specs.Evaluate.{arguments_in}
use Rattle.cir_meaning.specs.Statement.{Flow, Going, Returned, exec_all}
use Rattle.cir_meaning.specs.Bodies.{numbered_others, all_written, all_fed, ended, ended_flow}
use Rattle.cir_meaning.specs.Bodies.{template_context, template_state, exec_template, answer_of}
use Rattle.cir_meaning.specs.Bodies.{counted_in, emptied, function_context, exec_function, call_at}
use Rattle.cir_meaning.specs.Bodies.{most_open, make_at}
use Rattle.cir_meaning.specs.Declaring.{with_row}
use Rattle.cir_meaning.proofs.Pairs.{good_both}
use Rattle.cir_meaning.specs.Compile.{main_group, main_context, main_state, empty_world, exec_main}
use Rattle.cir_meaning.proofs.Good.{OnGood, good_ok, good_bad, good_next, good_on, good_is}
use Rattle.cir_meaning.proofs.Good.{good_weaker, OnSome'}
use Rattle.cir_meaning.proofs.KnownCalls.{calls_keep}
use Rattle.cir_meaning.proofs.ValueKeepings.{arguments_kept}
use Rattle.cir_meaning.proofs.Keepings.{FlowIs}
use Rattle.cir_meaning.proofs.DependingValues.{either_as}
use Rattle.cir_meaning.proofs.Counting.{Measure, signals_added, constraint_added, IsCounted, Kept}
use Rattle.cir_meaning.proofs.Counting.{Done, Gone, Grows, CallsCount, MakeCounts, BodyCounts}
use Rattle.cir_meaning.proofs.Counting.{exec_all_counts, known_counts, settle_counts, gone, apart}
use Rattle.cir_meaning.proofs.Counting.{together}

module _ (numbers : ℕ) (m : Measure numbers) where
  -- an amount that stays
  more : (y low c d : ℕ) → standing c ≤ d → standing y ≤ standing (low + c)
      → standing y ≤ standing (low + d)
  more y low c d l h = omega arith

  abbrev staying : ℕ → Measure numbers
  staying y = record {
    count = m.count;
    amount = λ w. y;
    plus_is = m.plus_is;
    none = m.none;
    array = m.array;
    statement = m.statement;
    step = m.step;
    same = λ w c. refl;
    instances = λ w paths. refl;
    more_signals = m.more_signals;
    more_constraints = m.more_constraints;
    row = λ k direction name dims w c low h.
        more y low (m.count c) (m.count (signals_added dims c)) (m.more_signals dims c) h;
    equation = λ a b p w c low h.
        more y low (m.count c) (m.count (constraint_added numbers p c)) (m.more_constraints p c) h;
  }

  grows_by : (c d z : ℕ) → z ≡ 0 → standing c ≤ standing (0 + d + z) → standing c ≤ d
  grows_by c d z e h = omega arith

  grows_to : (c d : ℕ) → standing c ≤ standing (0 + d) → standing c ≤ d
  grows_to c d h = omega arith

  begins_at : (low c z : ℕ) (x : ℕ) → z ≡ 0 → standing x ≤ standing (low + c)
      → standing x ≤ standing (low + c + z)
  begins_at low c z x e h = omega arith

  itself : (c z : ℕ) → z ≡ 0 → standing c ≤ standing (0 + c + z)
  itself c z e = omega arith

  -- a function counts more
  answer_grows : (world : World) (f : Flow)
      → FlowIs (Done numbers (staying (m.count world.counts)) 0)
      (Gone numbers (staying (m.count world.counts)) 0) f
      → standing (m.count world.counts) ≤ m.count (counted_in world (answer_of f)).1.counts
  answer_grows world (Going s) h =
      grows_by (m.count world.counts) (m.count s.world.counts) (m.count s.frame.added) h.1 h.0
  answer_grows world (Returned d after) h =
      grows_to (m.count world.counts) (m.count after.counts) h

  function_body : (p : Program) (size : ℕ) → 4 * size ≡ numbers → (call : Caller)
      → CallsCount numbers m call → (w : Where) (f : Function) (y : ℕ)
      → BodyCounts numbers (staying y) (function_context p size call w f)
  function_body p size same call c w f y =
      record { same = same; calls = record { keeps = c.keeps; grows = c.grows }; makes = tt }

  function_grows : (p : Program) (size : ℕ) → 4 * size ≡ numbers → (call : Caller)
      → CallsCount numbers m call → (w : Where) (n : ℕ) (ds : List Datum) (world : World)
      → OnGood (λ x. Grows numbers m world x.1) (exec_function p size call w n ds world)
  function_grows p size same call c w n ds world =
      good_on (λ x. Grows numbers m world x.1) (found w WrongKind (slice_get p.functions n)) _
      (λ f.
      let y : ℕ = m.count world.counts in
      good_next (FlowIs (Done numbers (staying y) 0) (Gone numbers (staying y) 0))
      (λ x. Grows numbers m world x.1)
      (exec_all (function_context p size call w f) f.body record {
        frame = begun ds (f.variables - length ds) 0 0;
        world = emptied world;
      }) _
      (exec_all_counts numbers (staying y) 0 (function_context p size call w f)
      (function_body p size same call c w f y) f.body record {
        frame = begun ds (f.variables - length ds) 0 0;
        world = emptied world;
      } (itself y (m.count nothing) m.none, m.none))
      (λ flow q. good_ok (λ x. Grows numbers m world x.1) (counted_in world (answer_of flow))
      (answer_grows world flow q)))

  calls_grow : (p : Program) (size : ℕ) → 4 * size ≡ numbers → (room : ℕ)
      → CallsCount numbers m (call_at p size room)
  calls_grow p size same zero =
      record { keeps = calls_keep p size 0; grows = λ w n ds world. good_bad _ _ }
  calls_grow p size same (suc room) = record {
    keeps = calls_keep p size (suc room);
    grows = λ w n ds world.
        function_grows p size same (call_at p size room) (calls_grow p size same room) w n ds
        world;
  }

  -- a template counts what it makes
  abbrev Counted : ℕ → World → Type 0
  Counted low w = standing (m.amount w) ≤ standing (low + m.count w.counts)

  ended_counts : (low : ℕ) (k : Context) (s : State) → Done numbers m low s
      → OnGood (λ x. Counted low x.1) (ended k s)
  ended_counts low k s h =
      good_on (λ x. Counted low x.1) (all_written k s.frame.signals) _ (λ u.
      good_on (λ x. Counted low x.1) (all_fed k s.frame.parts) _ (λ v.
      good_ok (λ x. Counted low x.1) (s.frame.signals, s.world) (gone numbers m low s h)))

  ended_flow_counts : (low : ℕ) (k : Context) (f : Flow)
      → FlowIs (Done numbers m low) (Gone numbers m low) f
      → OnGood (λ x. Counted low x.1) (ended_flow k f)
  ended_flow_counts low k (Going s) h = ended_counts low k s h
  ended_flow_counts low k (Returned d after) h = good_ok (λ x. Counted low x.1) ([], after) h

  template_counts : (p : Program) (size : ℕ) → 4 * size ≡ numbers → (call : Caller)
      → CallsCount numbers m call → (make : Option Maker) → OnSome' (MakeCounts numbers m) make
      → (group : Direction → List ℕ → Group)
      → MakeCounts numbers m (exec_template p size call make group)
  template_counts p size same call c make makes group w n ds path world low h =
      good_on (λ x. Counted low x.1) (found w WrongKind (slice_get p.templates n)) _ (λ t.
      let k : Context = template_context p size call make group t path world in
      let s : State = template_state t ds path world in
      good_next (FlowIs (Done numbers m low) (Gone numbers m low)) (λ x. Counted low x.1)
      (exec_all k t.body s) _
      (exec_all_counts numbers m low k record { same = same; calls = c; makes = makes } t.body s
      (begun_counts low world (world.instances ++ path ∷ []) h, m.none))
      (ended_flow_counts low k))
    where
      begun_counts : (low : ℕ) (world : World) (paths : List (List ℕ)) → Counted low world
          → IsCounted numbers m low (record world { instances = paths }) nothing
      begun_counts low world paths h =
          subst (λ (n : ℕ). standing n ≤ standing (low + m.count world.counts + m.count nothing))
          (sym (m.instances world paths))
          (begins_at low (m.count world.counts) (m.count nothing) (m.amount world) m.none h)

  makes_count : (p : Program) (size : ℕ) → 4 * size ≡ numbers → (room : ℕ)
      → OnSome' (MakeCounts numbers m) (make_at p size room)
  makes_count p size same zero = tt
  makes_count p size same (suc room) =
      template_counts p size same (call_at p size most_open) (calls_grow p size same most_open)
      (make_at p size room) (makes_count p size same room) numbered_others

  -- main
  module _ (most : ℕ) (small : most ≤ 8388608) (empty : m.amount empty_world ≡ 0)
      (limited : (w : Where) (c : Counts)
      → OnGood (λ d. m.count (record d { elements = 0 }) ≤ most) (tested limits w c)) where
    Within : World → Type 0
    Within w = m.amount w ≤ most

    few : (x c z : ℕ) → standing x ≤ standing (0 + c + z) → z ≡ 0 → c ≤ most → x ≤ most
    few x c z h e l = omega (arith, small)

    settled : (w : Where) (s : State) → Kept numbers m 0 s
        → OnGood (λ t. m.amount t.world ≤ most) (settle w s)
    settled w s g =
        good_weaker (λ t. Done numbers m 0 t × (m.count t.world.counts ≤ most))
        (λ t. m.amount t.world ≤ most) (settle w s)
        (good_both (Done numbers m 0) (λ t. m.count t.world.counts ≤ most) (settle w s)
        (settle_counts numbers m 0 w s g)
        (good_next (λ d. m.count (record d { elements = 0 }) ≤ most)
        (λ t. m.count t.world.counts ≤ most) (tested limits w (plus s.world.counts s.frame.added)) _
        (limited w (plus s.world.counts s.frame.added))
        (λ d l. good_ok (λ t. m.count t.world.counts ≤ most) _ l)))
        (λ t p. few (m.amount t.world) (m.count t.world.counts) (m.count t.frame.added) p.0.0
        p.0.1 p.1)

    begun_main : Kept numbers m 0 main_state
    begun_main =
        subst (λ (n : ℕ). standing n ≤ standing (0 + m.count main_state.world.counts
        + m.count main_state.frame.added)) (sym empty) (omega arith)

    pub main_counts : (p : Program) (size : ℕ) → 4 * size ≡ numbers → (main : Main) (t : Meant)
        → OnGood (λ x. m.amount x.1 ≤ most) (exec_main p size main t)
    main_counts p size same main (meant.Template t) =
        let k : Context = main_context p size main in
        let c : CallsCount numbers m (call_at p size most_open) = calls_grow p size same most_open
        in
        let body : BodyCounts numbers m k = record { same = same; calls = c; makes = tt } in
        good_next (λ x. Kept numbers m 0 x.1) (λ x. m.amount x.1 ≤ most)
        (arguments_in k (at k main.spot) main.arguments main_state) _
        (arguments_kept k (Kept numbers m 0) (known_counts numbers m 0 k body)
        (at k main.spot) main.arguments main_state begun_main)
        (λ x g.
        let a : ℕ = m.count x.1.frame.added in
        good_next (λ y. Counted (0 + a) y.1) (λ y. m.amount y.1 ≤ most)
        (exec_template p size (call_at p size most_open) (make_at p size 255)
        (main_group main.public_names) (at k main.spot) t x.0 (codes "main") x.1.world) _
        (template_counts p size same (call_at p size most_open) c (make_at p size 255)
        (makes_count p size same 255) (main_group main.public_names) (at k main.spot) t x.0
        (codes "main") x.1.world (0 + a)
        (apart 0 (m.count x.1.world.counts) a (m.amount x.1.world) g))
        (λ y r. good_next (λ s. m.amount s.world ≤ most) (λ y. m.amount y.1 ≤ most)
        (settle (at k main.spot) record { frame = x.1.frame; world = y.1 }) _
        (settled (at k main.spot) record { frame = x.1.frame; world = y.1 }
        (together 0 (m.count y.1.counts) a (m.amount y.1) r))
        (λ s f. good_ok (λ y. m.amount y.1 ≤ most) (y.0, s.world) f)))
    main_counts p size same main meant.Other = good_bad (λ x. m.amount x.1 ≤ most) _
    main_counts p size same main (meant.Variable n) = good_bad (λ x. m.amount x.1 ≤ most) _
    main_counts p size same main (meant.Signal direction n) =
        good_bad (λ x. m.amount x.1 ≤ most) _
    main_counts p size same main (meant.Component n) = good_bad (λ x. m.amount x.1 ≤ most) _
    main_counts p size same main (meant.Function n) = good_bad (λ x. m.amount x.1 ≤ most) _

-- limits that are passed
passes : (ls : List Limited) (w : Where) (c : Counts)
    → OnGood (λ d. (d ≡ c) × AllByRecursion (λ l. l.count c ≤ l.most) ls) (tested ls w c)
passes [] w c = good_ok (λ d. (d ≡ c) × ⊤) c (refl, tt)
passes (l ∷ ls) w c =
    either_as (OnGood (λ d. (d ≡ c) × AllByRecursion (λ l. l.count c ≤ l.most) (l ∷ ls)))
    (nat_le (l.count c) l.most) (tested ls w c) _
    (λ t. good_weaker (λ d. (d ≡ c) × AllByRecursion (λ l. l.count c ≤ l.most) ls)
    (λ d. (d ≡ c) × AllByRecursion (λ l. l.count c ≤ l.most) (l ∷ ls)) (tested ls w c)
    (passes ls w c) (λ d p. (p.0, (leb-true (l.count c) l.most t, p.1))))
    (good_bad (λ d. (d ≡ c) × AllByRecursion (λ l. l.count c ≤ l.most) (l ∷ ls)) _)

-- the three counts
cond_same : (count : Counts → ℕ) (b : Bool) (x y : Counts) → count x ≡ count y
    → count (cond b x y) ≡ count y
cond_same count true x y e = e
cond_same count false x y e = refl

array_signals : (dims : List ℕ) (c : Counts) → (with_array dims c).signals ≡ c.signals
array_signals dims c = cond_same (λ c. c.signals) (is_too_large dims) _ c refl

array_constraints : (dims : List ℕ) (c : Counts) → (with_array dims c).constraints ≡ c.constraints
array_constraints dims c = cond_same (λ c. c.constraints) (is_too_large dims) _ c refl

array_terms : (dims : List ℕ) (c : Counts) → (with_array dims c).terms ≡ c.terms
array_terms dims c = cond_same (λ c. c.terms) (is_too_large dims) _ c refl

abbrev pub all_signals : World → ℕ
all_signals w = sum_by (λ r. elements r.dims) w.rows

abbrev with_signals : List ℕ → Counts → Counts
with_signals dims c = record c {
  signals = count_sum c.signals (elements dims);
  cells = count_sum c.cells (elements dims);
}

more_by : (y n low c d : ℕ) → d ≡ standing (c + n) → standing y ≤ standing (low + c)
    → standing (y + n) ≤ standing (low + d)
more_by y n low c d e h = omega arith

stays : (y low c d : ℕ) → d ≡ c → standing y ≤ standing (low + c) → standing y ≤ standing (low + d)
stays y low c d e h = omega arith

at_least : (c d n : ℕ) → d ≡ standing (c + n) → standing c ≤ d
at_least c d n e = omega arith

abbrev signals_measure : (numbers : ℕ) → Measure numbers
signals_measure numbers = record {
  count = λ c. c.signals;
  amount = all_signals;
  plus_is = λ c d. refl;
  none = refl;
  array = array_signals;
  statement = λ c. refl;
  step = λ cost cells many c. refl;
  same = λ w c. refl;
  instances = λ w paths. refl;
  more_signals = λ dims c.
      at_least c.signals (signals_added dims c).signals (elements dims)
      (array_signals dims (with_signals dims c));
  more_constraints = λ p c. omega arith;
  row = λ k direction name dims w c low h.
      let r : Row = record {
        group = k.group direction name;
        instance = k.instance;
        name = name;
        dims = dims;
      } in
      let one : sum_by (λ (r : Row). elements r.dims) (r ∷ []) ≡ elements dims = omega arith in
      let all : all_signals (with_row k direction name dims w) ≡ all_signals w + elements dims =
      sum_by-append (λ (r : Row). elements r.dims) w.rows (r ∷ []) ∙ omega (arith, one) in
      subst (λ (n : ℕ). standing n ≤ standing (low + (signals_added dims c).signals)) (sym all)
      (more_by (all_signals w) (elements dims) low c.signals (signals_added dims c).signals
      (array_signals dims (with_signals dims c)) h);
  equation = λ x y p w c low h. h;
}

abbrev constraints_measure : (numbers : ℕ) → Measure numbers
constraints_measure numbers = record {
  count = λ c. c.constraints;
  amount = λ w. length w.equations;
  plus_is = λ c d. refl;
  none = refl;
  array = array_constraints;
  statement = λ c. refl;
  step = λ cost cells many c. refl;
  same = λ w c. refl;
  instances = λ w paths. refl;
  more_signals = λ dims c.
      omega (arith, array_constraints dims (with_signals dims c));
  more_constraints = λ p c. omega arith;
  row = λ k direction name dims w c low h.
      stays (length w.equations) low c.constraints (signals_added dims c).constraints
      (array_constraints dims (with_signals dims c)) h;
  equation = λ x y p w c low h.
      subst (λ (n : ℕ). standing n ≤ standing (low + (constraint_added numbers p c).constraints))
      (sym (length-append w.equations _ ∙ omega arith))
      (more_by (length w.equations) 1 low c.constraints
      (constraint_added numbers p c).constraints refl h);
}

abbrev terms_measure : (numbers : ℕ) → Measure numbers
terms_measure numbers = record {
  count = λ c. c.terms;
  amount = λ w. all_terms numbers w.equations;
  plus_is = λ c d. refl;
  none = refl;
  array = array_terms;
  statement = λ c. refl;
  step = λ cost cells many c. refl;
  same = λ w c. refl;
  instances = λ w paths. refl;
  more_signals = λ dims c. omega (arith, array_terms dims (with_signals dims c));
  more_constraints = λ p c.
      at_least c.terms (constraint_added numbers p c).terms (terms_of numbers p) refl;
  row = λ k direction name dims w c low h.
      stays (all_terms numbers w.equations) low c.terms (signals_added dims c).terms
      (array_terms dims (with_signals dims c)) h;
  equation = λ x y p w c low h.
      subst (λ (n : ℕ). standing n ≤ standing (low + (constraint_added numbers p c).terms))
      (sym (sum_by-append (λ (e : Equation). terms_of numbers e.parts) w.equations _
      ∙ omega arith))
      (more_by (all_terms numbers w.equations) (terms_of numbers p) low c.terms
      (constraint_added numbers p c).terms refl h);
}

-- what a program has that compiles
pub few_signals : (p : Program) (size : ℕ) (main : Main) (t : Meant)
    → OnGood (λ x. all_signals x.1 ≤ 1048575) (exec_main p size main t)
few_signals p size main t =
    main_counts (4 * size) (signals_measure (4 * size)) 1048575 (omega arith) refl
    (λ w c. good_weaker _ (λ d. d.signals ≤ 1048575) (tested limits w c) (passes limits w c)
    (λ d q. subst (λ (e : Counts). e.signals ≤ 1048575) (sym q.0) q.1.0))
    p size refl main t

pub few_constraints : (p : Program) (size : ℕ) (main : Main) (t : Meant)
    → OnGood (λ x. length x.1.equations ≤ 1048576) (exec_main p size main t)
few_constraints p size main t =
    main_counts (4 * size) (constraints_measure (4 * size)) 1048576 (omega arith) refl
    (λ w c. good_weaker _ (λ d. d.constraints ≤ 1048576) (tested limits w c) (passes limits w c)
    (λ d q. subst (λ (e : Counts). e.constraints ≤ 1048576) (sym q.0) q.1.1.0))
    p size refl main t

pub few_terms : (p : Program) (size : ℕ) (main : Main) (t : Meant)
    → OnGood (λ x. all_terms (4 * size) x.1.equations ≤ 8388608) (exec_main p size main t)
few_terms p size main t =
    main_counts (4 * size) (terms_measure (4 * size)) 8388608 (omega arith) refl
    (λ w c. good_weaker _ (λ d. d.terms ≤ 8388608) (tested limits w c) (passes limits w c)
    (λ d q. subst (λ (e : Counts). e.terms ≤ 8388608) (sym q.0) q.1.1.1.0))
    p size refl main t

pub all_few : (p : Program) (size : ℕ) (main : Main) (t : Meant) (signals : Signals) (w : World)
    → exec_main p size main t ≡ Ok (signals, w) → IsFew size w
all_few p size main t signals w e = record {
  signals = good_is (λ x. all_signals x.1 ≤ 1048575) (exec_main p size main t) (signals, w) e
      (few_signals p size main t);
  constraints = good_is (λ x. length x.1.equations ≤ 1048576) (exec_main p size main t)
      (signals, w) e (few_constraints p size main t);
  terms = good_is (λ x. all_terms (4 * size) x.1.equations ≤ 8388608) (exec_main p size main t)
      (signals, w) e (few_terms p size main t);
}
