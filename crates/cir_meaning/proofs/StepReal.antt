-- A step under an unknown condition misses no value, statement by statement.
use Rattle.std.proofs.Common.{◌≡◌, ℕ, zero, suc, ◌≤◌, ◌<◌, Bool, true, false, List, [], ◌∷◌, Ok}
use Rattle.std.proofs.Common.{refl, sym, subst, arith}
use Rattle.std.specs.Prelude.{⊤, ◌==◌, nat_lt}
use Rattle.std.proofs.lemmas.Bool.{ltb-true, ltb-false}
use Rattle.cir_ast.specs.declared.program.Spot.{Spot}
use Rattle.cir_ast.specs.declared.program.Meant.{Meant}
use Rattle.cir_ast.specs.declared.program.Meant.TheVariants as meant
use Rattle.cir_ast.specs.Tree.{Expr, Variable, Assign, Set, Compound, Left, Increment, Decrement}
use Rattle.cir_ast.specs.Tree.{First, FirstVars, FirstAssign, Simple, Vars, Signals, Declared}
use Rattle.cir_ast.specs.Tree.{Created, Assigned, Constrain, Right, TargetLeft, TargetRight, Alone}
use Rattle.cir_ast.specs.Tree.{Statement, Statements}
use Rattle.cir_lc.specs.Number.{Assignment}
use Rattle.cir_meaning.specs.Scoped.{Scope, IsAssignMeant, with_variable, IsVariableScoped}
use Rattle.cir_meaning.specs.Scoped.{AreVariablesScoped, with_variables, IsFirstScoped}
use Rattle.cir_meaning.specs.Scoped.{behind_first, IsSimpleScoped, behind_simple, IsScoped}
use Rattle.cir_meaning.specs.Scoped.{AreScoped}
use Rattle.cir_meaning.specs.Tried.{Where, Tried, next}
use Rattle.cir_meaning.specs.Frame.{State, Context, variable_at, uncounted}
use Rattle.cir_meaning.specs.Evaluate.{dims_in}
use Rattle.cir_meaning.specs.Writing.{plain}
use Rattle.cir_meaning.specs.Simple as simple
use Rattle.cir_meaning.specs.Unknown.{variable_of, assign_writes, first_writes, simple_writes}
use Rattle.cir_meaning.specs.Unknown.{writes}
use Rattle.cir_meaning.specs.Scan.{scan_test, scan_assign, scan_value, scan_declared, scan_meant}
use Rattle.cir_meaning.specs.Scan.{scan_variable, scan_first, scan_simple, scan, scan_all}
use Rattle.cir_meaning.specs.RunValues.{Ran, Environment, Store, stored, number_in, dims_numbers}
use Rattle.cir_meaning.specs.RunValues.{gives, the_number, fuel_spent}
use Rattle.cir_meaning.specs.RunStatements.{StepFlow, StepGoing, StepReturned, step_goes}
use Rattle.cir_meaning.specs.RunStatements.{step_going, step_assign, step_value, declared}
use Rattle.cir_meaning.specs.RunStatements.{step_variable, step_variables, step_first, step_simple}
use Rattle.cir_meaning.specs.RunStatements.{step_turns}
use Rattle.cir_meaning.proofs.Good.{OnGood}
use Rattle.cir_meaning.proofs.Likes.{CallKeeps, Like}
use Rattle.cir_meaning.proofs.FineValues.{FineContext, Fine}
use Rattle.cir_meaning.proofs.Same.{Same}
use Rattle.cir_meaning.proofs.Sound.{Fitting}
use Rattle.cir_meaning.proofs.KnownCalls.{CallBoth}
use Rattle.cir_meaning.proofs.RunFree.{NoMiss, Any, no_ok, no_stop, no_next, no_if, no_weaker}
use Rattle.cir_meaning.proofs.ValueKeepings.{Valued}
use Rattle.cir_meaning.proofs.Scans.{may_one, like_valued, test_kept, plain_kept, variable_kept}
use Rattle.cir_meaning.proofs.Scans.{variables_kept, first_kept, scan_kept, scan_all_kept}
use Rattle.cir_meaning.proofs.ScopeLaws.{Grows, grows_itself, grows_variable, grows_variables}
use Rattle.cir_meaning.proofs.ScopeLaws.{IsSound, sound_variable, set_meant, later_one}
use Rattle.cir_meaning.proofs.ScopeLaws.{later_variables, later_first, later, later_all}
use Rattle.cir_meaning.proofs.ScanPoints.{next_to, Stay, Final, Point, Has, Dims, dims_real, Fades}
use Rattle.cir_meaning.proofs.ScanPoints.{set_real}
use Rattle.cir_meaning.proofs.StepScans.{no_spend, Declares, Assigns, part_stays, part_final}
use Rattle.cir_meaning.proofs.StepScans.{Declared', new_declares, new_has, value_real}

module _ (E : Assignment → Type 0) (k : Context) (fine : FineContext k) (both : CallBoth k.call)
    (keeps : CallKeeps k.call) (w : Where) (functions : ℕ) (s : State) (finely : Fine s)
    (env : Environment)
    (fit : (scope : Scope) (store : Store) → scope.functions ≡ functions
    → ((n : ℕ) → scope.seen n ≡ true → Same E (variable_at s.frame n) (stored store n))
    → Fitting E k w scope (uncounted s) env store) (base : ℕ) where
  abbrev Stays : State → Type 0
  Stays = Stay E k fine both keeps w functions s finely env fit

  abbrev Ends : Scope → State → Type 0
  Ends = Final E k fine both keeps w functions s finely env fit

  abbrev At : Scope → State → Type 0
  At = Point E k fine both keeps w functions s finely env fit

  abbrev Numbered : Scope → Store → Type 0
  Numbered = Has E k fine both keeps w functions s finely env fit

  abbrev Fading : ℕ → Type 0
  Fading = Fades E k fine both keeps w functions s finely env fit

  abbrev Told : Scope → Type 0
  Told = Declares E k fine both keeps w functions s finely env fit base

  abbrev Writes : List ℕ → Type 0
  Writes = Assigns E k fine both keeps w functions s finely env fit base

  abbrev Made : Scope → Scope → State → State → (Store → ℕ → Ran Store) → Type 0
  Made = Declared' E k fine both keeps w functions s finely env fit base

  -- a part of a scan keeps what evaluation and later declarations keep
  abbrev pub Part : (State → Tried State) → ℕ → Type 1
  Part scan_part least =
      (Q : State → Type 0) → ((f s : State) → Like f s → Q f → Q s)
      → ((n : ℕ) (dims : List ℕ) (s : State) → least ≤ n → Q s → Q (scan_declared n dims s))
      → (s : State) → Q s → OnGood Q (scan_part s)

  pub stays_behind : (scan_part : State → Tried State) (least : ℕ) → Part scan_part least
      → (t t1 : State) → scan_part t ≡ Ok t1 → Stays t → Stays t1
  stays_behind scan_part least part =
      part_stays E k fine both keeps w functions s finely env fit base scan_part least part

  pub ends_before : (scan_part : State → Tried State) (scope after : Scope)
      → Part scan_part scope.variables → (t t1 : State) → scan_part t ≡ Ok t1
      → Grows scope after → Ends after t1 → Ends scope t
  ends_before scan_part scope after part t t1 ex g h =
      part_final E k fine both keeps w functions s finely env fit base scan_part scope.variables
      part scope after t t1 ex (omega arith) g.variables h

  valued : (Q : State → Type 0) → ((f s : State) → Like f s → Q f → Q s) → Valued k Q true
  valued Q like = like_valued k keeps Q like true

  variable_part : (scope : Scope) (v : Variable Meant) → IsVariableScoped scope v
      → Part (scan_variable k w v) scope.variables
  variable_part scope v is Q like declare u h =
      variable_kept k Q (valued Q like) (λ n. scope.variables ≤ n) declare w v
      (later_one scope v.meant is.0) u h

  pub variables_part : (scope : Scope) (vs : List (Variable Meant)) → AreVariablesScoped scope vs
      → Part (simple.each (scan_variable k w) vs) scope.variables
  variables_part scope vs is Q like declare u h =
      variables_kept k Q (valued Q like) (λ n. scope.variables ≤ n) declare w vs
      (later_variables scope vs is) u h

  pub assign_part : (scope : Scope) (a : Assign Meant) → Part (scan_assign k w a) scope.variables
  assign_part scope a Q like declare u h =
      plain_kept k Q (valued Q like) (λ n. scope.variables ≤ n) declare w (plain a) u h

  pub test_part : (scope : Scope) (c : Expr Meant) → Part (scan_test k w c) scope.variables
  test_part scope c Q like declare u h =
      test_kept k Q (valued Q like) (λ n. scope.variables ≤ n) declare w c u h

  pub first_part : (scope : Scope) (f : First Meant) → IsFirstScoped scope f
      → Part (scan_first k w f) scope.variables
  first_part scope f is Q like declare u h =
      first_kept k Q (valued Q like) (λ n. scope.variables ≤ n) declare w f
      (later_first scope f is) u h

  pub statement_part : (scope : Scope) (a : Statement Spot Meant) → IsScoped scope a
      → Part (scan k w a) scope.variables
  statement_part scope a is Q like declare u h =
      scan_kept k Q (valued Q like) (λ n. scope.variables ≤ n) declare w a (later scope a is) u h

  pub statements_part : (scope : Scope) (ss : Statements Spot Meant) → AreScoped scope ss
      → Part (scan_all k w ss) scope.variables
  statements_part scope ss is Q like declare u h =
      scan_all_kept k Q (valued Q like) (λ n. scope.variables ≤ n) declare w ss
      (later_all scope ss is) u h

  -- declarations of variables
  variable_real : (scope : Scope) (v : Variable Meant) (t t1 : State) → IsSound functions scope
      → Stays t → IsVariableScoped scope v → scan_variable k w v t ≡ Ok t1
      → Ends (with_variable scope) t1 → Told scope
      → Made scope (with_variable scope) t t1 (step_variable env v)
  variable_real scope v t t1 sounds stays is ex ends told =
      let point : At scope t = record {
        sound = sounds;
        stay = stays;
        final = ends_before (scan_variable k w v) scope (with_variable scope)
            (variable_part scope v is) t t1 ex (grows_variable scope) ends;
      } in
      let a : (y : List ℕ × State) × (dims_in k w true v.dimensions t ≡ Ok y)
      × (scan_value k w (meant.Variable scope.variables) v.value
      (scan_declared scope.variables y.0 y.1) ≡ Ok t1) =
      next_to (dims_in k w true v.dimensions t)
      (λ y. scan_value k w (meant.Variable scope.variables) v.value
      (scan_declared scope.variables y.0 y.1)) t1
      (subst (λ m. scan_meant w m (λ n. next (dims_in k w true v.dimensions t) (λ y.
      scan_value k w m v.value (scan_declared n y.0 y.1))) ≡ Ok t1) is.0 ex) in
      let dims : Dims E k fine both keeps w functions s finely env fit scope v.dimensions a.0 =
      dims_real E k fine both keeps w functions s finely env fit scope v.dimensions t a.0 point is.1
      a.1 in record {
        point = point;
        stays = stays_behind (scan_variable k w v) scope.variables (variable_part scope v is) t t1
            ex stays;
        declares = new_declares E k fine both keeps w functions s finely env fit base scope sounds
            v.value v.dimensions is.2 t1 ends told a.0 dims a.2;
        real = λ store u has. subst (λ m. NoMiss (λ y. Numbered (with_variable scope) y.0)
            (next (dims_numbers' v store u) (λ z. step_value env m v.value (declared m z.0 store)
            z.1))) (sym is.0)
            (no_next (λ z. z.0 ≡ a.0.0) (λ y. Numbered (with_variable scope) y.0)
            (dims_numbers' v store u) _ (dims.numbers store u has) (λ z e.
            value_real E k fine both keeps w functions s finely env fit base scope sounds v.value
            v.dimensions is.2 t1 ends told a.0 dims a.2 v.value is.2 a.2
            (declared (meant.Variable scope.variables) z.0 store) z.1
            (subst (λ ds. Numbered (with_variable scope)
            (declared (meant.Variable scope.variables) ds store)) (sym e)
            (new_has E k fine both keeps w functions s finely env fit base scope sounds v.value
            v.dimensions is.2 t1 ends told a.0 dims a.2 store has))));
      }
    where
      dims_numbers' : Variable Meant → Store → ℕ → Ran (List ℕ)
      dims_numbers' v store u = dims_numbers env store v.dimensions u

  variables_real : (scope : Scope) (vs : List (Variable Meant)) (t t1 : State)
      → IsSound functions scope → Stays t → AreVariablesScoped scope vs
      → simple.each (scan_variable k w) vs t ≡ Ok t1 → Ends (with_variables scope vs) t1
      → Told scope → Made scope (with_variables scope vs) t t1 (step_variables env vs)
  variables_real scope [] t t1 sounds stays is ex ends told =
      let same : t ≡ t1 = cc in record {
        point = record {
          sound = sounds;
          stay = stays;
          final = subst (Ends scope) (sym same) ends;
        };
        stays = subst Stays same stays;
        declares = told;
        real = λ store u has. no_ok (λ y. Numbered scope y.0) (store, u) has;
      }
  variables_real scope (v ∷ vs) t t1 sounds stays is ex ends told =
      let a : (t2 : State) × (scan_variable k w v t ≡ Ok t2)
      × (simple.each (scan_variable k w) vs t2 ≡ Ok t1) =
      next_to (scan_variable k w v t) (simple.each (scan_variable k w) vs) t1 ex in
      let one : Made scope (with_variable scope) t a.0 (step_variable env v) =
      variable_real scope v t a.0 sounds stays is.0 a.1
      (ends_before (simple.each (scan_variable k w) vs) (with_variable scope)
      (with_variables (with_variable scope) vs)
      (variables_part (with_variable scope) vs is.1) a.0 t1 a.2
      (grows_variables (with_variable scope) vs) ends) told in
      let rest : Made (with_variable scope) (with_variables (with_variable scope) vs) a.0 t1
      (step_variables env vs) =
      variables_real (with_variable scope) vs a.0 t1 (sound_variable functions scope sounds)
      one.stays is.1 a.2 ends one.declares in record {
        point = one.point;
        stays = rest.stays;
        declares = rest.declares;
        real = λ store u has.
            no_next (λ y. Numbered (with_variable scope) y.0)
            (λ y. Numbered (with_variables (with_variable scope) vs) y.0)
            (step_variable env v store u) _ (one.real store u has)
            (λ y p. rest.real y.0 y.1 p);
      }

  -- assignments
  fades_of : (scope : Scope) (m : Meant) → Told scope → Writes (variable_of m) → (n : ℕ)
      → m ≡ meant.Variable n → scope.seen n ≡ true → Fading n
  fades_of scope m told writes n same seen = at (nat_lt n base) refl
    where
      at : (b : Bool) → nat_lt n base ≡ b → Fading n
      at true e = may_one (λ i. i < base → Fading i) m n same writes (ltb-true n base e)
      at false e = told n seen (ltb-false n base e)

  pub assign_real : (scope : Scope) (a : Assign Meant) (t t1 : State) → At scope t
      → IsAssignMeant scope a → Told scope → Writes (assign_writes a)
      → scan_assign k w a t ≡ Ok t1 → (store : Store) (u : ℕ) → Numbered scope store
      → NoMiss (λ y. Numbered scope y.0) (step_assign env a store u)
  assign_real scope (Set name m accessors e) t t1 point is told writes ex =
      set_real E k fine both keeps w functions s finely env fit scope m accessors e t t1 point is
      (fades_of scope m told writes) ex
  assign_real scope (Compound name m accessors op e) t t1 point is told writes ex =
      set_real E k fine both keeps w functions s finely env fit scope m accessors _ t t1 point
      (set_meant scope m accessors _ is.0 is.1 ((is.0, is.1), is.2)) (fades_of scope m told writes)
      ex
  assign_real scope (Increment name m accessors) t t1 point is told writes ex =
      set_real E k fine both keeps w functions s finely env fit scope m accessors _ t t1 point
      (set_meant scope m accessors _ is.0 is.1 ((is.0, is.1), tt)) (fades_of scope m told writes) ex
  assign_real scope (Decrement name m accessors) t t1 point is told writes ex =
      set_real E k fine both keeps w functions s finely env fit scope m accessors _ t t1 point
      (set_meant scope m accessors _ is.0 is.1 ((is.0, is.1), tt)) (fades_of scope m told writes) ex
  assign_real scope (Left name m accessors arrow e) t t1 point is told writes ex = cc

  pub first_real : (scope : Scope) (f : First Meant) (t t1 : State) → IsSound functions scope
      → Stays t → IsFirstScoped scope f → scan_first k w f t ≡ Ok t1
      → Ends (behind_first scope f) t1 → Told scope → Writes (first_writes f)
      → Made scope (behind_first scope f) t t1 (step_first env f)
  first_real scope (FirstVars vs) t t1 sounds stays is ex ends told writes =
      variables_real scope vs t t1 sounds stays is ex ends told
  first_real scope (FirstAssign a) t t1 sounds stays is ex ends told writes =
      let point : At scope t = record {
        sound = sounds;
        stay = stays;
        final = ends_before (scan_assign k w a) scope scope (assign_part scope a) t t1 ex
            (grows_itself scope) ends;
      } in record {
        point = point;
        stays = stays_behind (scan_assign k w a) scope.variables (assign_part scope a) t t1 ex
            stays;
        declares = told;
        real = assign_real scope a t t1 point is told writes ex;
      }

  -- a statement goes on, with the numbers of what is in scope
  abbrev pub Flowing : Scope → StepFlow → Type 0
  Flowing scope (StepGoing store) = Numbered scope store
  Flowing scope (StepReturned d) = ⊤

  abbrev pub Flows : Scope → StepFlow × ℕ → Type 0
  Flows scope y = Flowing scope y.0

  abbrev pub Goes : Scope → Scope → (Store → ℕ → Ran StepFlow) → Type 0
  Goes scope after run =
      (store : Store) (u : ℕ) → Numbered scope store → NoMiss (Flows after) (run store u)

  pub numbered_less : (scope after : Scope) → Grows scope after → (store : Store)
      → Numbered after store → Numbered scope store
  numbered_less scope after g store h = (h.0, λ n seen. h.1 n (g.seen n seen))

  pub flow_less : (scope after : Scope) → Grows scope after → (m : Ran StepFlow)
      → NoMiss (Flows after) m → NoMiss (Flows scope) m
  flow_less scope after g m h = no_weaker (Flows after) (Flows scope) m (λ y p. at y.0 p) h
    where
      at : (f : StepFlow) → Flowing after f → Flowing scope f
      at (StepGoing store) p = numbered_less scope after g store p
      at (StepReturned d) p = tt

  pub going_real : (scope after : Scope) (f : StepFlow) (u : ℕ) (go : Store → ℕ → Ran StepFlow)
      → Flowing scope f → Goes scope after go → NoMiss (Flows after) (step_going f u go)
  going_real scope after (StepGoing store) u go p h = h store u p
  going_real scope after (StepReturned d) u go p h =
      no_ok (Flows after) (StepReturned d, u) tt

  pub goes_real : (scope : Scope) (m : Ran Store) → NoMiss (λ y. Numbered scope y.0) m
      → NoMiss (Flows scope) (step_goes m)
  goes_real scope m h =
      no_next (λ y. Numbered scope y.0) (Flows scope) m _ h
      (λ y p. no_ok (Flows scope) (StepGoing y.0, y.1) p)

  pub turns_real : (scope : Scope) (c : Expr Meant) (body : Store → ℕ → Ran StepFlow)
      → ((store : Store) (u : ℕ) → Numbered scope store → NoMiss Any (number_in env store c u))
      → Goes scope scope body → (most : ℕ)
      → Goes scope scope (step_turns most env c body)
  turns_real scope c body test h zero store u has = no_stop (Flows scope) fuel_spent (λ no. cc)
  turns_real scope c body test h (suc most) store u has =
      no_next Any (Flows scope) (number_in env store c u) _ (test store u has) (λ y p.
      no_if (Flows scope) (the_number y.0 == 0) (gives (StepGoing store) y.1) _
      (no_ok (Flows scope) (StepGoing store, y.1) has)
      (no_spend (Flows scope) y.1 _ (λ u2.
      no_next (Flows scope) (Flows scope) (body store u2) _ (h store u2 has) (λ z q.
      going_real scope scope z.0 z.1 (step_turns most env c body) q
      (turns_real scope c body test h most)))))

  pub record Steps (scope after : Scope) (run : Store → ℕ → Ran StepFlow) : Type 0 where
    pub declares : Told after
    pub real : Goes scope after run

  pub simple_real : (scope : Scope) (x : Simple Meant) (t t1 : State) → IsSound functions scope
      → Stays t → IsSimpleScoped scope x → scan_simple k w x t ≡ Ok t1
      → Ends (behind_simple scope x) t1 → Told scope → Writes (simple_writes x)
      → Steps scope (behind_simple scope x) (λ store u. step_goes (step_simple env x store u))
  simple_real scope (Vars vs) t t1 sounds stays is ex ends told writes =
      let made : Made scope (with_variables scope vs) t t1 (step_variables env vs) =
      variables_real scope vs t t1 sounds stays is ex ends told in record {
        declares = made.declares;
        real = λ store u has. goes_real (with_variables scope vs) (step_variables env vs store u)
            (made.real store u has);
      }
  simple_real scope (Assigned a) t t1 sounds stays is ex ends told writes =
      let point : At scope t = record {
        sound = sounds;
        stay = stays;
        final = ends_before (scan_assign k w a) scope scope (assign_part scope a) t t1 ex
            (grows_itself scope) ends;
      } in record {
        declares = told;
        real = λ store u has. goes_real scope (step_assign env a store u)
            (assign_real scope a t t1 point is told writes ex store u has);
      }
  simple_real scope (Signals d xs) t t1 sounds stays is ex ends told ws = cc
  simple_real scope (Declared cs) t t1 sounds stays is ex ends told ws = cc
  simple_real scope (Created name m e) t t1 sounds stays is ex ends told ws = cc
  simple_real scope (Constrain a b) t t1 sounds stays is ex ends told ws = cc
  simple_real scope (Right e arrow name m accessors) t t1 sounds stays is ex ends told ws = cc
  simple_real scope (TargetLeft target arrow source) t t1 sounds stays is ex ends told ws = cc
  simple_real scope (TargetRight source arrow target) t t1 sounds stays is ex ends told ws = cc
  simple_real scope (Alone parallel name m arguments inputs) t t1 sounds stays is ex ends told ws =
      cc
