-- What a scan has evaluated has its value in the state behind the scan too, where a step's cost
-- counts what it reads.
use Rattle.std.proofs.Common.{◌≡◌, ℕ, ◌<◌, ◌≤◌, true, List, [], ◌∷◌, ◌++◌, Option, Some, None}
use Rattle.std.proofs.Common.{Ok, refl, sym, ap, subst, ◌∙◌, arith, slice_get}
use Rattle.std.specs.Prelude.{unwrap_or, flat_map, ◌||◌}
use Rattle.std.proofs.lemmas.Bool.{eq-eqb}
use Rattle.std.specs.List.{AllByRecursion}
use Rattle.cir_ast.specs.declared.program.Spot.{Spot}
use Rattle.cir_ast.specs.declared.program.Meant.{Meant}
use Rattle.cir_ast.specs.declared.program.Meant.TheVariants as meant
use Rattle.cir_ast.specs.declared.refusal.Kind.TheVariants.{UnknownIndex, ShapeDiffers}
use Rattle.cir_ast.specs.Tree.{Expr, Exprs, none, more, Accessors, done, index, member, Variable}
use Rattle.cir_ast.specs.Tree.{Assign, Set, Compound, Left, Increment, Decrement, First, FirstVars}
use Rattle.cir_ast.specs.Tree.{FirstAssign, Simple, Vars, Signals, Declared, Created, Assigned}
use Rattle.cir_ast.specs.Tree.{Constrain, Right, TargetLeft, TargetRight, Alone, Statement, Block}
use Rattle.cir_ast.specs.Tree.{If, IfElse, While, For, Return, Assert, Log, Ended, Statements}
use Rattle.cir_ast.specs.Tree.{empty, then_more}
use Rattle.cir_meaning.specs.Scoped.{Scope, IsSeen, AreCallsMeant, AreAllMeant, AreIndicesMeant}
use Rattle.cir_meaning.specs.Scoped.{IsSetMeant, IsAssignMeant, with_variable, IsOptionMeant}
use Rattle.cir_meaning.specs.Scoped.{IsVariableScoped, AreVariablesScoped, with_variables, closed}
use Rattle.cir_meaning.specs.Scoped.{IsFirstScoped, behind_first, behind, behind_all, IsScoped}
use Rattle.cir_meaning.specs.Scoped.{AreScoped, IsSimpleScoped, behind_simple}
use Rattle.cir_meaning.specs.Tried.{Where, Tried, next, needed, found}
use Rattle.cir_meaning.specs.Limits.{nothing}
use Rattle.cir_meaning.specs.Arrays.{Datum, Want, Scalar, Whole, reach, single, the_item, same_dims}
use Rattle.cir_meaning.specs.Values.{Known, known_number}
use Rattle.cir_meaning.specs.Frame.{Signals as Entries, Part, ComponentEntry, World, State, Context}
use Rattle.cir_meaning.specs.Frame.{variable_at, uncounted}
use Rattle.cir_meaning.specs.Evaluate.{value_in, dims_in, indices_in, known_at}
use Rattle.cir_meaning.specs.Writing.{plain}
use Rattle.cir_meaning.specs.Simple as simple
use Rattle.cir_meaning.specs.Scan.{scan_test, scan_set, scan_assign, scan_value, scan_declared}
use Rattle.cir_meaning.specs.Scan.{scan_meant, scan_variable, scan_first, scan_simple, scan}
use Rattle.cir_meaning.specs.Scan.{scan_all}
use Rattle.cir_meaning.specs.Texts.{Wanted, wanted, list_of, indices_of, numbers_wanted}
use Rattle.cir_meaning.specs.Texts.{value_wanted, variable_wanted, assign_wanted, first_wanted}
use Rattle.cir_meaning.specs.Texts.{simple_wanted, wanted_in, all_wanted}
use Rattle.cir_meaning.proofs.Good.{OnGood, good_is}
use Rattle.cir_meaning.proofs.Rows.{all_append}
use Rattle.cir_meaning.proofs.Likes.{CallKeeps, Like, like_itself, value_like}
use Rattle.cir_meaning.proofs.Twins.{nothing_below, counted_as}
use Rattle.cir_meaning.proofs.ValueTwins as twins
use Rattle.cir_meaning.proofs.ValueTwins.{value_twin}
use Rattle.cir_meaning.proofs.FunctionTwins.{wide_itself}
use Rattle.cir_meaning.proofs.KnownCalls.{CallBoth, both_twin}
use Rattle.cir_meaning.proofs.ValueKeepings.{Valued}
use Rattle.cir_meaning.proofs.Scans.{like_valued, test_kept, plain_kept, value_kept, variable_kept}
use Rattle.cir_meaning.proofs.Scans.{variables_kept, first_kept, scan_kept, scan_all_kept}
use Rattle.cir_meaning.proofs.Fading.{Rest, rest_like}
use Rattle.cir_meaning.proofs.PartWrites.{get_other}
use Rattle.cir_meaning.proofs.Varied.{varied, Varied, value_varied}
use Rattle.cir_meaning.proofs.ScopeLaws.{grows_variables, grows, grows_all, set_meant, IsSound}
use Rattle.cir_meaning.proofs.ScopeLaws.{sound_variable, sound_first, sound_closed, sound}
use Rattle.cir_meaning.proofs.ScopeLaws.{later_one, later_variables, later_first, later, later_all}
use Rattle.cir_meaning.proofs.ScanPoints.{next_to, twin_to}
use Rattle.cir_steps.specs.Places.{HasNoMember, IsSetPlace, IsAssignPlace, IsFirstPlace}
use Rattle.cir_steps.specs.Places.{IsSimplePlace, HasPlaces, AllHavePlaces}

module _ (k : Context) (twice : CallBoth k.call) (keeps : CallKeeps k.call) (w : Where)
    (functions : ℕ) (s : State) (Good : Expr Meant → Type 0)
    (tells : (want : Want) (e : Expr Meant) (x : Datum × State)
    → value_in k w true want e (uncounted s) ≡ Ok x → Good e) where
  abbrev pub AllGood : List Wanted → Type 0
  AllGood xs = AllByRecursion (λ x. Good x.expr) xs

  -- variables that are declared already are as they are behind the scan
  abbrev pub Final : Scope → State → Type 0
  Final scope t =
      (n : ℕ) → n < scope.variables → variable_at t.frame n ≡ variable_at s.frame n

  record Point (scope : Scope) (t : State) : Type 0 where
    sound : IsSound functions scope
    rest : Rest s t
    final : Final scope t

  point_like : (scope : Scope) (t u : State) → Like t u → Point scope t → Point scope u
  point_like scope t u l h = record {
    sound = h.sound;
    rest = rest_like s t u l h.rest;
    final = λ n less.
        ap (λ (vs : List Datum). unwrap_or (slice_get vs n) (single (Known 0))) l.0
        ∙ h.final n less;
  }

  moved : (scope : Scope) (t : State) → Rest s t
      → varied scope s.frame.variables (counted_as t nothing nothing) ≡ uncounted s
  moved scope t h =
      ap (λ (x : Entries). whole x t.frame.components t.frame.parts t.world) h.0
      ∙ ap (λ (x : List (Option ComponentEntry)). whole s.frame.signals x t.frame.parts t.world) h.1
      ∙ ap (λ (x : List Part). whole s.frame.signals s.frame.components x t.world) h.2
      ∙ ap (λ (v : World). whole s.frame.signals s.frame.components s.frame.parts v) h.3
    where
      whole : Entries → List (Option ComponentEntry) → List Part → World → State
      whole signals components parts world = record {
        frame = record {
          variables = s.frame.variables;
          signals = signals;
          components = components;
          parts = parts;
          added = nothing;
        };
        world = record world { counts = nothing };
      }

  value_there : (scope : Scope) (t : State) (want : Want) (e : Expr Meant) (x : Datum × State)
      → Point scope t → AreCallsMeant scope e → value_in k w true want e t ≡ Ok x → Good e
  value_there scope t want e x point te ex =
      let first : (y : Datum × State)
      × (value_in k w true want e (counted_as t nothing nothing) ≡ Ok y) × twins.Answers x y =
      twin_to twins.Answers (value_in k w true want e t)
      (value_in k w true want e (counted_as t nothing nothing)) x
      (value_twin k (both_twin k.call twice) w true true want want e t nothing nothing refl
      (wide_itself want) (nothing_below t.frame.added) (nothing_below t.world.counts)) ex in
      let second : (z : Datum × State)
      × (value_in k w true want e (varied scope s.frame.variables (counted_as t nothing nothing))
      ≡ Ok z) × Varied scope s.frame.variables first.0 z =
      twin_to (Varied scope s.frame.variables)
      (value_in k w true want e (counted_as t nothing nothing))
      (value_in k w true want e (varied scope s.frame.variables (counted_as t nothing nothing)))
      first.0
      (value_varied scope s.frame.variables k w true want e (counted_as t nothing nothing) te
      (λ n seen. sym (point.final n (point.sound.below n seen)))) first.1 in
      tells want e second.0
      (subst (λ u. value_in k w true want e u ≡ Ok second.0) (moved scope t point.rest) second.1)

  evaluated : (scope : Scope) (t : State) (want : Want) (e : Expr Meant) (x : Datum × State)
      → Point scope t → value_in k w true want e t ≡ Ok x → Point scope x.1
  evaluated scope t want e x point ex =
      point_like scope t x.1
      (good_is (λ y. Like t y.1) (value_in k w true want e t) x ex
      (value_like t k keeps w true want e t (like_itself t))) point

  test_told : (scope : Scope) (e : Expr Meant) (t t1 : State) → Point scope t
      → AreCallsMeant scope e → scan_test k w e t ≡ Ok t1 → Good e × Point scope t1
  test_told scope e t t1 point te ex =
      let a : (x : Datum × State) × (value_in k w true Scalar e t ≡ Ok x) × (last x ≡ Ok t1) =
      next_to (value_in k w true Scalar e t) last t1 ex in
      let same : a.0.1 ≡ t1 = cc in (
        value_there scope t Scalar e a.0 point te a.1,
        subst (Point scope) same (evaluated scope t Scalar e a.0 point a.1),
      )
    where
      last : Datum × State → Tried State
      last x = Ok x.1

  dims_last : (scope : Scope) (n : ℕ) (z y : List ℕ × State)
      → ◌≡◌ {A = Tried (List ℕ × State)} (Ok (n ∷ z.0, z.1)) (Ok y) → Point scope z.1
      → Point scope y.1
  dims_last scope n z y e point = let same : z.1 ≡ y.1 = cc in subst (Point scope) same point

  dims_told : (scope : Scope) (es : Exprs Meant) (t : State) (y : List ℕ × State)
      → Point scope t → AreAllMeant scope es → dims_in k w true es t ≡ Ok y
      → AllGood (numbers_wanted (list_of es)) × Point scope y.1
  dims_told scope none t y point te ex =
      let same : t ≡ y.1 = cc in (tt, subst (Point scope) same point)
  dims_told scope (more e es) t y point te ex =
      let a : (x : Datum × State) × (value_in k w true Scalar e t ≡ Ok x)
      × (known_at w (known_number (the_item x.0)) (λ n. next (dims_in k w true es x.1)
      (λ (ns, s2). Ok (n ∷ ns, s2))) ≡ Ok y) = next_to (value_in k w true Scalar e t)
      (λ x. known_at w (known_number (the_item x.0)) (λ n. next (dims_in k w true es x.1)
      (λ (ns, s2). Ok (n ∷ ns, s2)))) y ex in
      let b : (n : ℕ) × (found w UnknownIndex (known_number (the_item a.0.0)) ≡ Ok n)
      × (next (dims_in k w true es a.0.1) (λ (ns, s2). Ok (n ∷ ns, s2)) ≡ Ok y) =
      next_to (found w UnknownIndex (known_number (the_item a.0.0)))
      (λ n. next (dims_in k w true es a.0.1) (λ (ns, s2). Ok (n ∷ ns, s2))) y a.2 in
      let c : (z : List ℕ × State) × (dims_in k w true es a.0.1 ≡ Ok z)
      × (more_dims b.0 z ≡ Ok y) = next_to (dims_in k w true es a.0.1) (more_dims b.0) y b.2 in
      let rest : AllGood (numbers_wanted (list_of es)) × Point scope c.0.1 =
      dims_told scope es a.0.1 c.0 (evaluated scope t Scalar e a.0 point a.1) te.1 c.1 in (
        (value_there scope t Scalar e a.0 point te.0 a.1, rest.0),
        dims_last scope b.0 c.0 y c.2 rest.1,
      )
    where
      more_dims : ℕ → List ℕ × State → Tried (List ℕ × State)
      more_dims n z = Ok (n ∷ z.0, z.1)

  indices_told : {A : Type 0} (scope : Scope) (accessors : Accessors Meant) (os : List (Option ℕ))
      (t : State) (go : List (Option ℕ) → Accessors Meant → State → Tried A) (a : A)
      → HasNoMember accessors → Point scope t → AreIndicesMeant scope accessors
      → indices_in k w true os accessors t go ≡ Ok a
      → AllGood (numbers_wanted (indices_of accessors))
  indices_told scope done os t go a h point te ex = tt
  indices_told scope (member name rest) os t go a h point te ex = absurd h
  indices_told scope (index e rest) os t go a h point te ex =
      let y : (x : Datum × State) × (value_in k w true Scalar e t ≡ Ok x)
      × (indices_in k w true (os ++ known_number (the_item x.0) ∷ []) rest x.1 go ≡ Ok a) =
      next_to (value_in k w true Scalar e t)
      (λ x. indices_in k w true (os ++ known_number (the_item x.0) ∷ []) rest x.1 go) a ex in (
        value_there scope t Scalar e y.0 point te.0 y.1,
        indices_told scope rest (os ++ known_number (the_item y.0.0) ∷ []) y.0.1 go a h
            (evaluated scope t Scalar e y.0 point y.1) te.1 y.2,
      )

  set_told : (scope : Scope) (m : Meant) (accessors : Accessors Meant) (e : Expr Meant)
      (t t1 : State) → IsSetPlace m accessors → Point scope t → IsSetMeant scope m accessors e
      → scan_set k w m accessors e t ≡ Ok t1
      → AllGood (wanted Whole e ++ numbers_wanted (indices_of accessors))
  set_told scope (meant.Variable n) accessors e t t1 h point te ex =
      let a : (x : Datum × State) × (value_in k w true Whole e t ≡ Ok x)
      × (indices_in k w true [] accessors x.1 (put x) ≡ Ok t1) =
      next_to (value_in k w true Whole e t) (λ x. indices_in k w true [] accessors x.1 (put x)) t1
      ex in (
        value_there scope t Whole e a.0 point te.2 a.1,
        indices_told scope accessors [] a.0.1 (put a.0) t1 h
            (evaluated scope t Whole e a.0 point a.1) te.1 a.2,
      )
    where
      put : Datum × State → List (Option ℕ) → Accessors Meant → State → Tried State
      put x indices rest s2 =
          next (reach w true Whole (variable_at s2.frame n).dims indices)
          (λ r. needed (same_dims r.left x.0.dims) w ShapeDiffers (Ok s2))
  set_told scope meant.Other accessors e t t1 h point te ex = cc
  set_told scope (meant.Signal direction n) accessors e t t1 h point te ex = cc
  set_told scope (meant.Component n) accessors e t t1 h point te ex = cc
  set_told scope (meant.Template n) accessors e t t1 h point te ex = cc
  set_told scope (meant.Function n) accessors e t t1 h point te ex = cc

  assign_told : (scope : Scope) (a : Assign Meant) (t t1 : State) → IsAssignPlace a
      → Point scope t → IsAssignMeant scope a → scan_assign k w a t ≡ Ok t1
      → AllGood (assign_wanted a)
  assign_told scope (Set name m accessors e) t t1 h point te ex =
      set_told scope m accessors e t t1 h point te ex
  assign_told scope (Compound name m accessors op e) t t1 h point te ex =
      set_told scope m accessors _ t t1 h point
      (set_meant scope m accessors _ te.0 te.1 ((te.0, te.1), te.2)) ex
  assign_told scope (Left name m accessors arrow e) t t1 h point te ex = cc
  assign_told scope (Increment name m accessors) t t1 h point te ex =
      set_told scope m accessors _ t t1 h point
      (set_meant scope m accessors _ te.0 te.1 ((te.0, te.1), tt)) ex
  assign_told scope (Decrement name m accessors) t t1 h point te ex =
      set_told scope m accessors _ t t1 h point
      (set_meant scope m accessors _ te.0 te.1 ((te.0, te.1), tt)) ex

  -- through a part of a scan
  abbrev Part' : (State → Tried State) → ℕ → Type 1
  Part' go least =
      (Q : State → Type 0) → ((f u : State) → Like f u → Q f → Q u)
      → ((n : ℕ) (dims : List ℕ) (u : State) → least ≤ n → Q u → Q (scan_declared n dims u))
      → (u : State) → Q u → OnGood Q (go u)

  rest_behind : (go : State → Tried State) (least : ℕ) → Part' go least → (t t1 : State)
      → go t ≡ Ok t1 → Rest s t → Rest s t1
  rest_behind go least part t t1 ex h =
      good_is (Rest s) (go t) t1 ex (part (Rest s) (rest_like s) (λ n dims u le g. g) t h)

  final_before : (go : State → Tried State) (least : ℕ) → Part' go least → (scope after : Scope)
      (t t1 : State) → go t ≡ Ok t1 → scope.variables ≤ least
      → scope.variables ≤ after.variables → Final after t1 → Final scope t
  final_before go least part scope after t t1 ex le grown h n less =
      sym (good_is (Kept (variable_at t.frame n)) (go t) t1 ex
      (part (Kept (variable_at t.frame n))
      (λ f u l g. ap (λ (vs : List Datum). unwrap_or (slice_get vs n) (single (Known 0))) l.0 ∙ g)
      (λ m dims u low g. ap (λ (o : Option Datum). unwrap_or o (single (Known 0)))
      (get_other u.frame.variables m n _
      (λ e. absurd (let same : m ≡ n = e in omega arith))) ∙ g) t refl))
      ∙ h n (omega arith)
    where
      Kept : Datum → State → Type 0
      Kept d u = variable_at u.frame n ≡ d

  valued : (Q : State → Type 0) → ((f u : State) → Like f u → Q f → Q u) → Valued k Q true
  valued Q like = like_valued k keeps Q like true

  test_part : (scope : Scope) (c : Expr Meant) → Part' (scan_test k w c) scope.variables
  test_part scope c Q like declare u h =
      test_kept k Q (valued Q like) (λ n. scope.variables ≤ n) declare w c u h

  assign_part : (scope : Scope) (a : Assign Meant) → Part' (scan_assign k w a) scope.variables
  assign_part scope a Q like declare u h =
      plain_kept k Q (valued Q like) (λ n. scope.variables ≤ n) declare w (plain a) u h

  variables_part : (scope : Scope) (vs : List (Variable Meant)) → AreVariablesScoped scope vs
      → Part' (simple.each (scan_variable k w) vs) scope.variables
  variables_part scope vs is Q like declare u h =
      variables_kept k Q (valued Q like) (λ n. scope.variables ≤ n) declare w vs
      (later_variables scope vs is) u h

  variable_part : (scope : Scope) (v : Variable Meant) → IsVariableScoped scope v
      → Part' (scan_variable k w v) scope.variables
  variable_part scope v is Q like declare u h =
      variable_kept k Q (valued Q like) (λ n. scope.variables ≤ n) declare w v
      (later_one scope v.meant is.0) u h

  first_part : (scope : Scope) (f : First Meant) → IsFirstScoped scope f
      → Part' (scan_first k w f) scope.variables
  first_part scope f is Q like declare u h =
      first_kept k Q (valued Q like) (λ n. scope.variables ≤ n) declare w f
      (later_first scope f is) u h

  statement_part : (scope : Scope) (a : Statement Spot Meant) → IsScoped scope a
      → Part' (scan k w a) scope.variables
  statement_part scope a is Q like declare u h =
      scan_kept k Q (valued Q like) (λ n. scope.variables ≤ n) declare w a (later scope a is) u h

  statements_part : (scope : Scope) (ss : Statements Spot Meant) → AreScoped scope ss
      → Part' (scan_all k w ss) scope.variables
  statements_part scope ss is Q like declare u h =
      scan_all_kept k Q (valued Q like) (λ n. scope.variables ≤ n) declare w ss
      (later_all scope ss is) u h

  -- declarations
  value_told : (scope : Scope) (m : Meant) (value : Option (Expr Meant)) (t t1 : State)
      → Point scope t → IsSeen scope m → IsSetPlace m done → IsOptionMeant scope value
      → scan_value k w m value t ≡ Ok t1 → AllGood (value_wanted value)
  value_told scope m None t t1 point seen place te ex = tt
  value_told scope m (Some e) t t1 point seen place te ex =
      ((set_told scope m done e t t1 place point (set_meant scope m done e seen tt te) ex).0, tt)

  variable_told : (scope : Scope) (v : Variable Meant) (t t1 : State) → Point scope t
      → IsVariableScoped scope v → scan_variable k w v t ≡ Ok t1
      → Final (with_variable scope) t1 → AllGood (variable_wanted v)
  variable_told scope v t t1 point is ex ends =
      let go : next (dims_in k w true v.dimensions t) (λ (dims, s1).
      scan_value k w (meant.Variable scope.variables) v.value
      (scan_declared scope.variables dims s1)) ≡ Ok t1 =
      subst (λ m. scan_meant w m (λ n. next (dims_in k w true v.dimensions t) (λ (dims, s1).
      scan_value k w m v.value (scan_declared n dims s1))) ≡ Ok t1) is.0 ex in
      let a : (y : List ℕ × State) × (dims_in k w true v.dimensions t ≡ Ok y)
      × (put y ≡ Ok t1) = next_to (dims_in k w true v.dimensions t) put t1 go in
      let dims : AllGood (numbers_wanted (list_of v.dimensions)) × Point scope a.0.1 =
      dims_told scope v.dimensions t a.0 point is.1 a.1 in
      all_append (λ x. Good x.expr) (numbers_wanted (list_of v.dimensions)) (value_wanted v.value)
      dims.0
      (value_told (with_variable scope) (meant.Variable scope.variables) v.value
      (scan_declared scope.variables a.0.0 a.0.1) t1 record {
        sound = sound_variable functions scope point.sound;
        rest = dims.1.rest;
        final = final_before (scan_value k w (meant.Variable scope.variables) v.value)
            (with_variable scope).variables (value_part a.0) (with_variable scope)
            (with_variable scope) (scan_declared scope.variables a.0.0 a.0.1) t1 a.2
            (omega arith) (omega arith) ends;
      } seen tt is.2 a.2)
    where
      put : List ℕ × State → Tried State
      put y =
          scan_value k w (meant.Variable scope.variables) v.value
          (scan_declared scope.variables y.0 y.1)

      value_part : List ℕ × State
          → Part' (scan_value k w (meant.Variable scope.variables) v.value)
          (with_variable scope).variables
      value_part y Q like declare u h =
          value_kept k Q (valued Q like) (λ n. (with_variable scope).variables ≤ n) declare w
          (meant.Variable scope.variables) v.value u h

      seen : (with_variable scope).seen scope.variables ≡ true
      seen = subst (λ b. (b || scope.seen scope.variables) ≡ true)
          (sym (eq-eqb scope.variables scope.variables refl)) refl

  variables_told : (scope : Scope) (vs : List (Variable Meant)) (t t1 : State) → Point scope t
      → AreVariablesScoped scope vs → simple.each (scan_variable k w) vs t ≡ Ok t1
      → Final (with_variables scope vs) t1 → AllGood (flat_map variable_wanted vs)
  variables_told scope [] t t1 point is ex ends = tt
  variables_told scope (v ∷ vs) t t1 point is ex ends =
      let a : (t2 : State) × (scan_variable k w v t ≡ Ok t2)
      × (simple.each (scan_variable k w) vs t2 ≡ Ok t1) =
      next_to (scan_variable k w v t) (simple.each (scan_variable k w) vs) t1 ex in
      let grown : (with_variable scope).variables ≤ (with_variables (with_variable scope)
      vs).variables = (grows_variables (with_variable scope) vs).variables in
      let middle : Final (with_variable scope) a.0 =
      final_before (simple.each (scan_variable k w) vs) (with_variable scope).variables
      (variables_part (with_variable scope) vs is.1) (with_variable scope)
      (with_variables (with_variable scope) vs) a.0 t1 a.2 (omega arith) grown ends in
      all_append (λ x. Good x.expr) (variable_wanted v) (flat_map variable_wanted vs)
      (variable_told scope v t a.0 point is.0 a.1 middle)
      (variables_told (with_variable scope) vs a.0 t1 record {
        sound = sound_variable functions scope point.sound;
        rest = rest_behind (scan_variable k w v) scope.variables (variable_part scope v is.0) t a.0
            a.1 point.rest;
        final = middle;
      } is.1 a.2 ends)

  first_told : (scope : Scope) (f : First Meant) (t t1 : State) → IsFirstPlace f → Point scope t
      → IsFirstScoped scope f → scan_first k w f t ≡ Ok t1 → Final (behind_first scope f) t1
      → AllGood (first_wanted f)
  first_told scope (FirstVars vs) t t1 h point is ex ends =
      variables_told scope vs t t1 point is ex ends
  first_told scope (FirstAssign a) t t1 h point is ex ends = assign_told scope a t t1 h point is ex

  simple_told : (scope : Scope) (x : Simple Meant) (t t1 : State) → Point scope t
      → IsSimpleScoped scope x → IsSimplePlace x → scan_simple k w x t ≡ Ok t1
      → Final (behind_simple scope x) t1 → AllGood (simple_wanted x)
  simple_told scope (Vars vs) t t1 point is h ex ends =
      variables_told scope vs t t1 point is ex ends
  simple_told scope (Assigned a) t t1 point is h ex ends =
      assign_told scope a t t1 h point is ex
  simple_told scope (Signals direction ds) t t1 point is h ex ends = cc
  simple_told scope (Declared cs) t t1 point is h ex ends = cc
  simple_told scope (Created name m e) t t1 point is h ex ends = cc
  simple_told scope (Constrain a b) t t1 point is h ex ends = cc
  simple_told scope (Right e arrow name m accessors) t t1 point is h ex ends = cc
  simple_told scope (TargetLeft target arrow source) t t1 point is h ex ends = cc
  simple_told scope (TargetRight source arrow target) t t1 point is h ex ends = cc
  simple_told scope (Alone parallel name m arguments inputs) t t1 point is h ex ends = cc

  starts : (scope : Scope) (a : Statement Spot Meant) (t t1 : State) → IsSound functions scope
      → Rest s t → IsScoped scope a → scan k w a t ≡ Ok t1 → Final (behind scope a) t1
      → Point scope t
  starts scope a t t1 sounds rest is ex ends =
      let grown : scope.variables ≤ (behind scope a).variables = (grows scope a).variables in
      record {
        sound = sounds;
        rest = rest;
        final = final_before (scan k w a) scope.variables (statement_part scope a is) scope
            (behind scope a) t t1 ex (omega arith) grown ends;
      }

  mutual
    pub statement_told : (scope : Scope) (a : Statement Spot Meant) (t t1 : State)
        → IsSound functions scope → Rest s t → IsScoped scope a → HasPlaces a
        → scan k w a t ≡ Ok t1 → Final (behind scope a) t1 → AllGood (wanted_in a)
    statement_told scope (Block spot ss) t t1 sounds rest is h ex ends =
        statements_told scope ss t t1 sounds rest is h ex ends
    statement_told scope (If spot c a) t t1 sounds rest is h ex ends =
        let one : (t2 : State) × (scan_test k w c t ≡ Ok t2) × (scan k w a t2 ≡ Ok t1) =
        next_to (scan_test k w c t) (scan k w a) t1 ex in
        let test : Good c × Point scope one.0 =
        test_told scope c t one.0 (starts scope (If spot c a) t t1 sounds rest is ex ends) is.0
        one.1 in
        (test.0, statement_told scope a one.0 t1 sounds test.1.rest is.1 h one.2 ends)
    statement_told scope (IfElse spot c a b) t t1 sounds rest is h ex ends =
        let between : Scope = closed scope (behind scope a) in
        let one : (t2 : State) × (scan_test k w c t ≡ Ok t2)
        × (next (scan k w a t2) (scan k w b) ≡ Ok t1) =
        next_to (scan_test k w c t) (λ s1. next (scan k w a s1) (scan k w b)) t1 ex in
        let two : (t3 : State) × (scan k w a one.0 ≡ Ok t3) × (scan k w b t3 ≡ Ok t1) =
        next_to (scan k w a one.0) (scan k w b) t1 one.2 in
        let test : Good c × Point scope one.0 =
        test_told scope c t one.0 (starts scope (IfElse spot c a b) t t1 sounds rest is ex ends)
        is.0 one.1 in
        let grown : between.variables ≤ (behind between b).variables =
        (grows between b).variables in
        let middle : Final between two.0 =
        final_before (scan k w b) between.variables (statement_part between b is.2) between
        (behind between b) two.0 t1 two.2 (omega arith) grown ends in (
          test.0,
          all_append (λ x. Good x.expr) (wanted_in a) (wanted_in b)
              (statement_told scope a one.0 two.0 sounds test.1.rest is.1 h.0 two.1 middle)
              (statement_told between b two.0 t1
              (sound_closed functions scope (behind scope a) (grows scope a) sounds)
              (rest_behind (scan k w a) scope.variables (statement_part scope a is.1) one.0 two.0
              two.1 test.1.rest) is.2 h.1 two.2 ends),
        )
    statement_told scope (While spot c a) t t1 sounds rest is h ex ends =
        let one : (t2 : State) × (scan_test k w c t ≡ Ok t2) × (scan k w a t2 ≡ Ok t1) =
        next_to (scan_test k w c t) (scan k w a) t1 ex in
        let test : Good c × Point scope one.0 =
        test_told scope c t one.0 (starts scope (While spot c a) t t1 sounds rest is ex ends) is.0
        one.1 in
        (test.0, statement_told scope a one.0 t1 sounds test.1.rest is.1 h one.2 ends)
    statement_told scope (For spot first_spot f c step_spot a body) t t1 sounds rest is h ex ends =
        let inside : Scope = behind_first scope f in
        let after : Scope = behind inside body in
        let one : (t2 : State) × (scan_first k w f t ≡ Ok t2)
        × (next (scan_test k w c t2) (λ t3. next (scan k w body t3) (scan_assign k w a)) ≡ Ok t1) =
        next_to (scan_first k w f t)
        (λ t2. next (scan_test k w c t2) (λ t3. next (scan k w body t3) (scan_assign k w a))) t1 ex
        in
        let two : (t3 : State) × (scan_test k w c one.0 ≡ Ok t3)
        × (next (scan k w body t3) (scan_assign k w a) ≡ Ok t1) =
        next_to (scan_test k w c one.0) (λ t3. next (scan k w body t3) (scan_assign k w a)) t1
        one.2 in
        let three : (t4 : State) × (scan k w body two.0 ≡ Ok t4) × (scan_assign k w a t4 ≡ Ok t1) =
        next_to (scan k w body two.0) (scan_assign k w a) t1 two.2 in
        let grown : inside.variables ≤ after.variables = (grows inside body).variables in
        let sounds_in : IsSound functions inside = sound_first functions scope f sounds in
        let ends_three : Final after three.0 =
        final_before (scan_assign k w a) after.variables (assign_part after a) after after three.0
        t1 three.2 (omega arith) (omega arith) ends in
        let ends_two : Final inside two.0 =
        final_before (scan k w body) inside.variables (statement_part inside body is.2) inside
        after two.0 three.0 three.1 (omega arith) grown ends_three in
        let ends_one : Final inside one.0 =
        final_before (scan_test k w c) inside.variables (test_part inside c) inside inside one.0
        two.0 two.1 (omega arith) (omega arith) ends_two in
        let rest_one : Rest s one.0 =
        rest_behind (scan_first k w f) scope.variables (first_part scope f is.0) t one.0 one.1 rest
        in
        let test : Good c × Point inside two.0 =
        test_told inside c one.0 two.0
        record { sound = sounds_in; rest = rest_one; final = ends_one } is.1 two.1 in
        let rest_three : Rest s three.0 =
        rest_behind (scan k w body) inside.variables (statement_part inside body is.2) two.0
        three.0 three.1 test.1.rest in
        all_append (λ x. Good x.expr) (first_wanted f) _
        (first_told scope f t one.0 h.0
        (starts scope (For spot first_spot f c step_spot a body) t t1 sounds rest is ex ends) is.0
        one.1 ends_one) (
          test.0,
          all_append (λ x. Good x.expr) (wanted_in body) (assign_wanted a)
              (statement_told inside body two.0 three.0 sounds_in test.1.rest is.2 h.2 three.1
              ends_three)
              (assign_told after a three.0 t1 h.1
              record {
                sound = sound functions inside body sounds_in;
                rest = rest_three;
                final = ends_three;
              } is.3 three.2),
        )
    statement_told scope (Return spot e) t t1 sounds rest is h ex ends = absurd is
    statement_told scope (Assert spot e) t t1 sounds rest is h ex ends = (
      (test_told scope e t t1 (starts scope (Assert spot e) t t1 sounds rest is ex ends) is
          ex).0,
      tt,
    )
    statement_told scope (Log spot arguments) t t1 sounds rest is h ex ends = cc
    statement_told scope (Ended spot x) t t1 sounds rest is h ex ends =
        simple_told scope x t t1 (starts scope (Ended spot x) t t1 sounds rest is ex ends) is h ex
        ends

    statements_told : (scope : Scope) (ss : Statements Spot Meant) (t t1 : State)
        → IsSound functions scope → Rest s t → AreScoped scope ss → AllHavePlaces ss
        → scan_all k w ss t ≡ Ok t1 → Final (behind_all scope ss) t1 → AllGood (all_wanted ss)
    statements_told scope empty t t1 sounds rest is h ex ends = tt
    statements_told scope (then_more a more_ss) t t1 sounds rest is h ex ends =
        let one : (t2 : State) × (scan k w a t ≡ Ok t2) × (scan_all k w more_ss t2 ≡ Ok t1) =
        next_to (scan k w a t) (scan_all k w more_ss) t1 ex in
        let grown : (behind scope a).variables ≤ (behind_all (behind scope a) more_ss).variables =
        (grows_all (behind scope a) more_ss).variables in
        let middle : Final (behind scope a) one.0 =
        final_before (scan_all k w more_ss) (behind scope a).variables
        (statements_part (behind scope a) more_ss is.1) (behind scope a)
        (behind_all (behind scope a) more_ss) one.0 t1 one.2 (omega arith) grown ends in
        all_append (λ x. Good x.expr) (wanted_in a) (all_wanted more_ss)
        (statement_told scope a t one.0 sounds rest is.0 h.0 one.1 middle)
        (statements_told (behind scope a) more_ss one.0 t1 (sound functions scope a sounds)
        (rest_behind (scan k w a) scope.variables (statement_part scope a is.0) t one.0 one.1 rest)
        is.1 h.1 one.2 ends)
