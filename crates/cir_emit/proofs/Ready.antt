-- A statement is ready to be scanned where its names have homes, are in scope, and stand in places.
use Rattle.std.proofs.Common.{◌≡◌, ℕ, ◌+◌, ◌<◌, ◌≤◌, Bool, true, false, cond, List, [], ◌∷◌, ◌++◌}
use Rattle.std.proofs.Common.{Option, Some, None, refl, sym, ap, subst, ◌∙◌, arith, filter}
use Rattle.std.specs.Prelude.{◌==◌, ◌||◌, not}
use Rattle.std.specs.List.{AllByRecursion, list_any}
use Rattle.std.proofs.lemmas.Bool.{ne_eqb, eqb-true}
use Rattle.cir_ast.specs.declared.program.Spot.{Spot}
use Rattle.cir_ast.specs.declared.program.Meant.{Meant}
use Rattle.cir_ast.specs.declared.program.Meant.TheVariants as meant
use Rattle.cir_ast.specs.Tree.{Expr, Accessors, Variable as Declared, Assign, Set, Compound, Left}
use Rattle.cir_ast.specs.Tree.{Increment, Decrement, First, FirstVars, FirstAssign, Simple, Vars}
use Rattle.cir_ast.specs.Tree.{Assigned, Signals, Declared as DeclaredComponents, Created}
use Rattle.cir_ast.specs.Tree.{Constrain, Right as RightArrow, TargetLeft, TargetRight, Alone}
use Rattle.cir_ast.specs.Tree.{Statement, Block, If, IfElse, While, For, Return, Assert, Log, Ended}
use Rattle.cir_ast.specs.Tree.{Statements, empty, then_more}
use Rattle.cir_meaning.specs.Scoped.{Scope as Names, IsSetMeant, IsAssignMeant, IsSeen}
use Rattle.cir_meaning.specs.Scoped.{with_variable as with_name, with_variables, IsVariableScoped}
use Rattle.cir_meaning.specs.Scoped.{AreVariablesScoped, IsFirstScoped, behind_first}
use Rattle.cir_meaning.specs.Scoped.{IsSimpleScoped, behind_simple, closed, behind, behind_all}
use Rattle.cir_meaning.specs.Scoped.{IsScoped, AreScoped}
use Rattle.cir_meaning.specs.Unknown.{variable_of, assign_writes, first_writes, simple_writes}
use Rattle.cir_meaning.specs.Unknown.{writes, all_writes, vars_declare, first_declares}
use Rattle.cir_meaning.specs.Unknown.{simple_declares, declares, all_declares, outer_assigned}
use Rattle.cir_meaning.specs.Writing.{plain}
use Rattle.cir_meaning.specs.Texts.{list_of}
use Rattle.cir_meaning.proofs.Rows.{all_append}
use Rattle.cir_meaning.proofs.ScopeLaws.{IsSound, sound_first, sound_closed, sound, grows_variables}
use Rattle.cir_meaning.proofs.ScopeLaws.{grows, grows_all}
use Rattle.cir_steps.specs.Places.{IsSetPlace, IsAssignPlace, IsFirstPlace, IsSimplePlace}
use Rattle.cir_steps.specs.Places.{HasPlaces, AllHavePlaces}
use Rattle.cir_steps.proofs.SimDecided.{all_rising}
use Rattle.wit_lower.specs.Homes.{Name, Variable, Home, Homes, Scope, Ground, with_variable, find}
use Rattle.wit_lower.specs.Statements.{known_dims, declared_scope, variable_scope, variables_scope}
use Rattle.wit_lower.specs.Statements.{first_scope, scope_behind}
use Rattle.wit_lower.proofs.Listed.{In, in_front, in_back, in_one}
use Rattle.cir_emit.specs.Sourced.{HasAll, SetHas, PlainHas, ValueHas, VariablesHave, FirstHas}
use Rattle.cir_emit.specs.Sourced.{SimpleHas, StatementHas, StatementsHave}
use Rattle.cir_emit.proofs.Scanned.{SetReady, PlainReady, ValueReady, DeclaredReady, VariablesReady}
use Rattle.cir_emit.proofs.Scanned.{FirstReady, SimpleReady, StatementReady, StatementsReady}

-- the variables that a statement assigns are in scope
abbrev AllLess : ℕ → List ℕ → Type 0
AllLess most ns = AllByRecursion (λ n. n < most) ns

all_more : (a b : ℕ) → a ≤ b → (ns : List ℕ) → AllLess a ns → AllLess b ns
all_more a b le [] h = tt
all_more a b le (n ∷ ns) h = (omega (arith, h.0, le), all_more a b le ns h.1)

module _ (functions : ℕ) where
  meant_less : (scope : Names) (m : Meant) → IsSound functions scope → IsSeen scope m
      → AllLess scope.variables (variable_of m)
  meant_less scope (meant.Variable n) sounds is = (sounds.below n is, tt)
  meant_less scope meant.Other sounds is = tt
  meant_less scope (meant.Signal d n) sounds is = tt
  meant_less scope (meant.Component n) sounds is = tt
  meant_less scope (meant.Template n) sounds is = tt
  meant_less scope (meant.Function n) sounds is = tt

  set_less : (scope : Names) (m : Meant) (accessors : Accessors Meant) (e : Expr Meant)
      → IsSound functions scope → IsSetMeant scope m accessors e
      → AllLess scope.variables (variable_of m)
  set_less scope (meant.Variable n) accessors e sounds is = (sounds.below n is.0, tt)
  set_less scope meant.Other accessors e sounds is = tt
  set_less scope (meant.Signal d n) accessors e sounds is = tt
  set_less scope (meant.Component n) accessors e sounds is = tt
  set_less scope (meant.Template n) accessors e sounds is = tt
  set_less scope (meant.Function n) accessors e sounds is = tt

  assign_less : (scope : Names) (a : Assign Meant) → IsSound functions scope
      → IsAssignMeant scope a → AllLess scope.variables (assign_writes a)
  assign_less scope (Set name m accessors e) sounds is = set_less scope m accessors e sounds is
  assign_less scope (Compound name m accessors o e) sounds is = meant_less scope m sounds is.0
  assign_less scope (Left name m accessors arrow e) sounds is = tt
  assign_less scope (Increment name m accessors) sounds is = meant_less scope m sounds is.0
  assign_less scope (Decrement name m accessors) sounds is = meant_less scope m sounds is.0

  first_less : (scope : Names) (f : First Meant) → IsSound functions scope
      → IsFirstScoped scope f → AllLess (behind_first scope f).variables (first_writes f)
  first_less scope (FirstVars vs) sounds is = tt
  first_less scope (FirstAssign a) sounds is = assign_less scope a sounds is

  simple_less : (scope : Names) (x : Simple Meant) → IsSound functions scope
      → IsSimpleScoped scope x → AllLess (behind_simple scope x).variables (simple_writes x)
  simple_less scope (Assigned a) sounds is = assign_less scope a sounds is
  simple_less scope (Vars vs) sounds is = tt
  simple_less scope (Signals d ds) sounds is = tt
  simple_less scope (DeclaredComponents cs) sounds is = tt
  simple_less scope (Created name m e) sounds is = tt
  simple_less scope (Constrain x y) sounds is = tt
  simple_less scope (RightArrow e arrow name m accessors) sounds is = tt
  simple_less scope (TargetLeft x arrow y) sounds is = tt
  simple_less scope (TargetRight y arrow x) sounds is = tt
  simple_less scope (Alone parallel name m arguments inputs) sounds is = tt

  mutual
    writes_less : (a : Statement Spot Meant) (scope : Names) → IsSound functions scope
        → IsScoped scope a → AllLess (behind scope a).variables (writes a)
    writes_less (Block spot ss) scope sounds is = all_less ss scope sounds is
    writes_less (If spot c a) scope sounds is = writes_less a scope sounds is.1
    writes_less (IfElse spot c a b) scope sounds is =
        let between : Names = closed scope (behind scope a) in
        all_append (λ n. n < (behind between b).variables) (writes a) (writes b)
        (all_more (behind scope a).variables (behind between b).variables
        (grows between b).variables (writes a) (writes_less a scope sounds is.1))
        (writes_less b between
        (sound_closed functions scope (behind scope a) (grows scope a) sounds) is.2)
    writes_less (While spot c a) scope sounds is = writes_less a scope sounds is.1
    writes_less (For spot first_spot f c step_spot a body) scope sounds is =
        let inside : Names = behind_first scope f in
        let after : Names = behind inside body in
        let sounds_inside : IsSound functions inside = sound_first functions scope f sounds in
        all_append (λ n. n < after.variables) (first_writes f) (assign_writes a ++ writes body)
        (all_more inside.variables after.variables (grows inside body).variables (first_writes f)
        (first_less scope f sounds is.0))
        (all_append (λ n. n < after.variables) (assign_writes a) (writes body)
        (assign_less after a (sound functions inside body sounds_inside) is.3)
        (writes_less body inside sounds_inside is.2))
    writes_less (Return spot e) scope sounds is = tt
    writes_less (Assert spot e) scope sounds is = tt
    writes_less (Log spot arguments) scope sounds is = tt
    writes_less (Ended spot x) scope sounds is = simple_less scope x sounds is

    all_less : (ss : Statements Spot Meant) (scope : Names) → IsSound functions scope
        → AreScoped scope ss → AllLess (behind_all scope ss).variables (all_writes ss)
    all_less empty scope sounds is = tt
    all_less (then_more a rest) scope sounds is =
        all_append (λ n. n < (behind_all (behind scope a) rest).variables) (writes a)
        (all_writes rest)
        (all_more (behind scope a).variables (behind_all (behind scope a) rest).variables
        (grows_all (behind scope a) rest).variables (writes a)
        (writes_less a scope sounds is.0))
        (all_less rest (behind scope a) (sound functions scope a sounds) is.1)

  kept_less : (test : ℕ → Bool) (most : ℕ) (ns : List ℕ) → AllLess most ns
      → AllLess most (filter test ns)
  kept_less test most [] h = tt
  kept_less test most (n ∷ ns) h = at (test n) (kept_less test most ns h.1)
    where
      at : (b : Bool) → AllLess most (filter test ns)
          → AllLess most (cond b (n ∷ filter test ns) (filter test ns))
      at true g = (h.0, g)
      at false g = g

  in_less : (most n : ℕ) (ns : List ℕ) → AllLess most ns → In n ns → n < most
  in_less most n [] h i = cc
  in_less most n (m ∷ ms) h i = at (m == n) refl i (in_less most n ms h.1)
    where
      at : (b : Bool) → (m == n) ≡ b → (b || list_any (λ k. k == n) ms) ≡ true
          → (In n ms → n < most) → n < most
      at true e j g = let same : m ≡ n = eqb-true m n e in omega (arith, h.0, same)
      at false e j g = g j

  pub outer_less : (a : Statement Spot Meant) (scope : Names) → IsSound functions scope
      → IsScoped scope a → (n : ℕ) → In n (outer_assigned a) → n < (behind scope a).variables
  outer_less a scope sounds is n i =
      in_less (behind scope a).variables n (outer_assigned a)
      (all_rising (λ n. n < (behind scope a).variables)
      (filter (λ n. not (list_any (λ m. m == n) (declares a))) (writes a))
      (kept_less (λ n. not (list_any (λ m. m == n) (declares a))) (behind scope a).variables
      (writes a) (writes_less a scope sounds is))) i

-- a statement whose expressions hold; `all` are the variables that the whole of it declares
module _ (There : Name → Type 0) (functions : ℕ) (g : Ground) (count : ℕ)
    (there : (n : ℕ) → n < count → There (Variable n)) (free : ℕ → Type 0)
    (may : (n : ℕ) → n < count → free n) (all : List ℕ) where
  abbrev pub Held : Homes → Expr Meant → Type 0
  Held homes e = HasAll There g homes e

  -- none of these from a number on has a home
  abbrev pub Clear : ℕ → Homes → Type 0
  Clear least homes = (n : ℕ) → In n all → least ≤ n → find (Variable n) homes ≡ None

  abbrev Are : List ℕ → Type 0
  Are ns = (n : ℕ) → In n ns → In n all

  front : (xs ys : List ℕ) → Are (xs ++ ys) → Are xs
  front xs ys are n i = are n (in_front n xs ys i)

  back : (xs ys : List ℕ) → Are (xs ++ ys) → Are ys
  back xs ys are n i = are n (in_back n xs ys i)

  clear_more : (a b : ℕ) (homes : Homes) → a ≤ b → Clear a homes → Clear b homes
  clear_more a b homes le h n i l = h n i (omega (arith, le, l))

  clear_variable : (n : ℕ) (dims : List ℕ) (c : Scope) → Clear n c.homes
      → Clear (n + 1) (with_variable n dims c).homes
  clear_variable n dims c h m i le =
      ap (λ b. cond b (Some record { base = c.top; dims = dims }) (find (Variable m) c.homes))
      (ne_eqb m n (λ e. let same : m ≡ n = e in omega (arith, le, same))) ∙
      h m i (omega (arith, le))

  clear_declared : (scope : Names) (c : Scope) (v : Declared Meant) → IsVariableScoped scope v
      → Clear scope.variables c.homes
      → Clear (with_name scope).variables (variable_scope g c v).homes
  clear_declared scope c v is h =
      subst (λ m. Clear (with_name scope).variables (declared_scope g c v m).homes) (sym is.0)
      (clear_variable scope.variables (known_dims g v) c h)

  clear_variables : (vs : List (Declared Meant)) (scope : Names) (c : Scope)
      → AreVariablesScoped scope vs → Clear scope.variables c.homes
      → Clear (with_variables scope vs).variables (variables_scope g c vs).homes
  clear_variables [] scope c is h = h
  clear_variables (v ∷ vs) scope c is h =
      clear_variables vs (with_name scope) (variable_scope g c v) is.1
      (clear_declared scope c v is.0 h)

  clear_first : (f : First Meant) (scope : Names) (c : Scope) → IsFirstScoped scope f
      → Clear scope.variables c.homes
      → Clear (behind_first scope f).variables (first_scope g c f).homes
  clear_first (FirstVars vs) scope c is h = clear_variables vs scope c is h
  clear_first (FirstAssign a) scope c is h = h

  clear_behind : (x : Statement Spot Meant) (scope : Names) (c : Scope) → IsScoped scope x
      → Clear scope.variables c.homes
      → Clear (behind scope x).variables (scope_behind g c x).homes
  clear_behind (Ended spot (Vars vs)) scope c is h = clear_variables vs scope c is h
  clear_behind (Ended spot (Assigned a)) scope c is h = h
  clear_behind (Ended spot (Signals d ds)) scope c is h =
      clear_more scope.variables (behind scope (Ended spot (Signals d ds))).variables c.homes
      (grows scope (Ended spot (Signals d ds))).variables h
  clear_behind (Ended spot (DeclaredComponents cs)) scope c is h = h
  clear_behind (Ended spot (Created name m e)) scope c is h = h
  clear_behind (Ended spot (Constrain x y)) scope c is h = h
  clear_behind (Ended spot (RightArrow e arrow name m accessors)) scope c is h = h
  clear_behind (Ended spot (TargetLeft x arrow y)) scope c is h = h
  clear_behind (Ended spot (TargetRight y arrow x)) scope c is h = h
  clear_behind (Ended spot (Alone parallel name m arguments inputs)) scope c is h = h
  clear_behind (Block spot ss) scope c is h =
      clear_more scope.variables (behind scope (Block spot ss)).variables c.homes
      (grows scope (Block spot ss)).variables h
  clear_behind (If spot e x) scope c is h =
      clear_more scope.variables (behind scope (If spot e x)).variables c.homes
      (grows scope (If spot e x)).variables h
  clear_behind (IfElse spot e x y) scope c is h =
      clear_more scope.variables (behind scope (IfElse spot e x y)).variables c.homes
      (grows scope (IfElse spot e x y)).variables h
  clear_behind (While spot e x) scope c is h =
      clear_more scope.variables (behind scope (While spot e x)).variables c.homes
      (grows scope (While spot e x)).variables h
  clear_behind (For spot first_spot f e step_spot x body) scope c is h =
      clear_more scope.variables
      (behind scope (For spot first_spot f e step_spot x body)).variables c.homes
      (grows scope (For spot first_spot f e step_spot x body)).variables h
  clear_behind (Return spot e) scope c is h = h
  clear_behind (Assert spot e) scope c is h = h
  clear_behind (Log spot arguments) scope c is h = h

  -- assignments
  seen_ready : (scope : Names) (m : Meant) (accessors : Accessors Meant) (e : Expr Meant)
      (homes : Homes) → IsSound functions scope → scope.variables ≤ count
      → SetHas There g homes m accessors e → IsSeen scope m → IsSetPlace m accessors
      → SetReady Held g free homes m accessors e
  seen_ready scope (meant.Variable n) accessors e homes sounds le has is place =
      let less : n < count = omega (arith, sounds.below n is, le) in
      let home : (h : Home) × (find (Variable n) homes ≡ Some h) = has.0 (there n less) in
      record {
        home = home.0;
        found = home.1;
        may = may n less;
        are = place;
        indices = has.1;
        value = has.2;
      }
  seen_ready scope meant.Other accessors e homes sounds le has is place = tt
  seen_ready scope (meant.Signal d n) accessors e homes sounds le has is place = tt
  seen_ready scope (meant.Component n) accessors e homes sounds le has is place = tt
  seen_ready scope (meant.Template n) accessors e homes sounds le has is place = tt
  seen_ready scope (meant.Function n) accessors e homes sounds le has is place = tt

  set_ready : (scope : Names) (homes : Homes) (m : Meant) (accessors : Accessors Meant)
      (e : Expr Meant) → IsSound functions scope → scope.variables ≤ count
      → SetHas There g homes m accessors e → IsSetMeant scope m accessors e
      → IsSetPlace m accessors → SetReady Held g free homes m accessors e
  set_ready scope homes (meant.Variable n) accessors e sounds le has is place =
      seen_ready scope (meant.Variable n) accessors e homes sounds le has is.0 place
  set_ready scope homes meant.Other accessors e sounds le has is place = tt
  set_ready scope homes (meant.Signal d n) accessors e sounds le has is place = tt
  set_ready scope homes (meant.Component n) accessors e sounds le has is place = tt
  set_ready scope homes (meant.Template n) accessors e sounds le has is place = tt
  set_ready scope homes (meant.Function n) accessors e sounds le has is place = tt

  plain_ready : (scope : Names) (homes : Homes) (a : Assign Meant) → IsSound functions scope
      → scope.variables ≤ count → PlainHas There g homes (plain a) → IsAssignMeant scope a
      → IsAssignPlace a → PlainReady Held g free homes (plain a)
  plain_ready scope homes (Set name m accessors e) sounds le has is place =
      set_ready scope homes m accessors e sounds le has is place
  plain_ready scope homes (Compound name m accessors o e) sounds le has is place =
      seen_ready scope m accessors _ homes sounds le has is.0 place
  plain_ready scope homes (Left name m accessors arrow e) sounds le has is place = tt
  plain_ready scope homes (Increment name m accessors) sounds le has is place =
      seen_ready scope m accessors _ homes sounds le has is.0 place
  plain_ready scope homes (Decrement name m accessors) sounds le has is place =
      seen_ready scope m accessors _ homes sounds le has is.0 place

  -- declarations
  value_ready : (scope : Names) (homes : Homes) (n : ℕ) (o : Option (Expr Meant)) → n < count
      → ValueHas There g homes (meant.Variable n) o
      → ValueReady Held g free homes (meant.Variable n) o
  value_ready scope homes n None less has = tt
  value_ready scope homes n (Some e) less has =
      let home : (h : Home) × (find (Variable n) homes ≡ Some h) = has.0 (there n less) in
      record {
        home = home.0;
        found = home.1;
        may = may n less;
        are = tt;
        indices = has.1;
        value = has.2;
      }

  declared_ready : (scope : Names) (c : Scope) (v : Declared Meant) (m : Meant) → v.meant ≡ m
      → m ≡ meant.Variable scope.variables → scope.variables < count → Are (variable_of m)
      → Clear scope.variables c.homes
      → AllByRecursion (HasAll There g c.homes) (list_of v.dimensions)
      → ValueHas There g (declared_scope g c v m).homes m v.value
      → DeclaredReady Held g free c v m
  declared_ready scope c v (meant.Variable n) em e less are clear dims value =
      let same : n ≡ scope.variables = variable_is n scope.variables e in record {
        dims = dims;
        fresh = clear n (are n (in_one n)) (omega (arith, same));
        may = may n (omega (arith, same, less));
        value = subst (λ m. ValueReady Held g free (with_variable n (known_dims g v) c).homes m
            v.value) (sym em)
            (value_ready scope (with_variable n (known_dims g v) c).homes n v.value
            (omega (arith, same, less)) value);
      }
    where
      variable_is : (a b : ℕ) → meant.Variable a ≡ meant.Variable b → a ≡ b
      variable_is a b e = cc
  declared_ready scope c v meant.Other em e less are clear dims value = tt
  declared_ready scope c v (meant.Signal d n) em e less are clear dims value = tt
  declared_ready scope c v (meant.Component n) em e less are clear dims value = tt
  declared_ready scope c v (meant.Template n) em e less are clear dims value = tt
  declared_ready scope c v (meant.Function n) em e less are clear dims value = tt

  variables_ready : (vs : List (Declared Meant)) (scope : Names) (c : Scope)
      → AreVariablesScoped scope vs → (with_variables scope vs).variables ≤ count
      → Are (vars_declare vs) → Clear scope.variables c.homes → VariablesHave There g c vs
      → VariablesReady Held g free c vs
  variables_ready [] scope c is le are clear has = tt
  variables_ready (v ∷ vs) scope c is le are clear has = (
    declared_ready scope c v v.meant refl is.0.0
        (omega (arith, le, (grows_variables (with_name scope) vs).variables))
        (front (variable_of v.meant) (vars_declare vs) are) clear has.0.0 has.0.1,
    variables_ready vs (with_name scope) (variable_scope g c v) is.1 le
        (back (variable_of v.meant) (vars_declare vs) are) (clear_declared scope c v is.0 clear)
        has.1,
  )

  first_ready : (f : First Meant) (scope : Names) (c : Scope) → IsSound functions scope
      → IsFirstScoped scope f → IsFirstPlace f → (behind_first scope f).variables ≤ count
      → Are (first_declares f) → Clear scope.variables c.homes → FirstHas There g c f
      → FirstReady Held g free c f
  first_ready (FirstVars vs) scope c sounds is place le are clear has =
      variables_ready vs scope c is le are clear has
  first_ready (FirstAssign a) scope c sounds is place le are clear has =
      plain_ready scope c.homes a sounds le has is place

  simple_ready : (x : Simple Meant) (scope : Names) (c : Scope) → IsSound functions scope
      → IsSimpleScoped scope x → IsSimplePlace x → (behind_simple scope x).variables ≤ count
      → Are (simple_declares x) → Clear scope.variables c.homes → SimpleHas There g c x
      → SimpleReady Held g free c x
  simple_ready (Vars vs) scope c sounds is place le are clear has =
      variables_ready vs scope c is le are clear has
  simple_ready (Assigned a) scope c sounds is place le are clear has =
      plain_ready scope c.homes a sounds le has is place
  simple_ready (Signals d ds) scope c sounds is place le are clear has = tt
  simple_ready (DeclaredComponents cs) scope c sounds is place le are clear has = tt
  simple_ready (Created name m e) scope c sounds is place le are clear has = tt
  simple_ready (Constrain x y) scope c sounds is place le are clear has = tt
  simple_ready (RightArrow e arrow name m accessors) scope c sounds is place le are clear has = tt
  simple_ready (TargetLeft x arrow y) scope c sounds is place le are clear has = tt
  simple_ready (TargetRight y arrow x) scope c sounds is place le are clear has = tt
  simple_ready (Alone parallel name m arguments inputs) scope c sounds is place le are clear has =
      tt

  mutual
    pub statement_ready : (x : Statement Spot Meant) (scope : Names) (c : Scope)
        → IsSound functions scope → IsScoped scope x → HasPlaces x
        → (behind scope x).variables ≤ count → Are (declares x) → Clear scope.variables c.homes
        → StatementHas There g c x → StatementReady Held g free c x
    statement_ready (Block spot ss) scope c sounds is place le are clear has =
        statements_ready ss scope c sounds is place le are clear has
    statement_ready (If spot e x) scope c sounds is place le are clear has =
        (has.0, statement_ready x scope c sounds is.1 place le are clear has.1)
    statement_ready (IfElse spot e x y) scope c sounds is place le are clear has =
        let between : Names = closed scope (behind scope x) in (
          has.0,
          statement_ready x scope c sounds is.1 place.0
              (omega (arith, le, (grows between y).variables))
              (front (declares x) (declares y) are) clear has.1,
          statement_ready y between c
              (sound_closed functions scope (behind scope x) (grows scope x) sounds) is.2 place.1 le
              (back (declares x) (declares y) are)
              (clear_more scope.variables between.variables c.homes (grows scope x).variables clear)
              has.2,
        )
    statement_ready (While spot e x) scope c sounds is place le are clear has =
        (has.0, statement_ready x scope c sounds is.1 place le are clear has.1)
    statement_ready (For spot first_spot f e step_spot x body) scope c sounds is place le are clear
        has =
        let inside : Names = behind_first scope f in
        let after : Names = behind inside body in
        let sounds_inside : IsSound functions inside = sound_first functions scope f sounds in
        let le_inside : inside.variables ≤ count =
        omega (arith, le, (grows inside body).variables) in (
          first_ready f scope c sounds is.0 place.0 le_inside
              (front (first_declares f) (declares body) are) clear has.0,
          has.1,
          statement_ready body inside (first_scope g c f) sounds_inside is.2 place.2 le
              (back (first_declares f) (declares body) are) (clear_first f scope c is.0 clear)
              has.2,
          plain_ready after (scope_behind g (first_scope g c f) body).homes x
              (sound functions inside body sounds_inside) le has.3 is.3 place.1,
        )
    statement_ready (Return spot e) scope c sounds is place le are clear has = tt
    statement_ready (Assert spot e) scope c sounds is place le are clear has = has
    statement_ready (Log spot arguments) scope c sounds is place le are clear has = tt
    statement_ready (Ended spot x) scope c sounds is place le are clear has =
        simple_ready x scope c sounds is place le are clear has

    statements_ready : (ss : Statements Spot Meant) (scope : Names) (c : Scope)
        → IsSound functions scope → AreScoped scope ss → AllHavePlaces ss
        → (behind_all scope ss).variables ≤ count → Are (all_declares ss)
        → Clear scope.variables c.homes → StatementsHave There g c ss
        → StatementsReady Held g free c ss
    statements_ready empty scope c sounds is place le are clear has = tt
    statements_ready (then_more x rest) scope c sounds is place le are clear has = (
      statement_ready x scope c sounds is.0 place.0
          (omega (arith, le, (grows_all (behind scope x) rest).variables))
          (front (declares x) (all_declares rest) are) clear has.0,
      statements_ready rest (behind scope x) (scope_behind g c x) (sound functions scope x sounds)
          is.1 place.1 le (back (declares x) (all_declares rest) are)
          (clear_behind x scope c is.0 clear) has.1,
    )
