-- A statement does what its sources let it do: variables that it assigns or declares are whole.
use Rattle.std.proofs.Common.{◌≡◌, ℕ, zero, suc, ◌<◌, Bool, true, false, cond, List, [], ◌∷◌, ◌++◌}
use Rattle.std.proofs.Common.{length, map, flat_map, Option, Some, None, Ok, Err, refl, sym, ap}
use Rattle.std.proofs.Common.{ap₂, subst, ◌∙◌, length-set, inl, ◌⊎◌}
use Rattle.std.specs.Prelude.{slice_set, unwrap_or, ◌==◌}
use Rattle.std.specs.List.{AllByRecursion}
use Rattle.cir_ast.specs.declared.program.Spot.{Spot}
use Rattle.cir_ast.specs.declared.program.Meant.{Meant}
use Rattle.cir_ast.specs.declared.program.Meant.TheVariants as meant
use Rattle.cir_ast.specs.Tree.{Expr, Exprs, none, more, Accessors, done, Variable as Declared}
use Rattle.cir_ast.specs.Tree.{Assign, Set, Compound, Left, Increment, Decrement, First, FirstVars}
use Rattle.cir_ast.specs.Tree.{FirstAssign, Simple, Vars, Signals, Declared as DeclaredComponents}
use Rattle.cir_ast.specs.Tree.{Created, Assigned, Constrain, Right, TargetLeft, TargetRight, Alone}
use Rattle.cir_ast.specs.Tree.{Statement, Block, If, IfElse, While, For, Return, Assert, Log, Ended}
use Rattle.cir_ast.specs.Tree.{Statements, empty, then_more}
use Rattle.cir_meaning.specs.Tried.{next}
use Rattle.cir_meaning.specs.Places.{places_of}
use Rattle.cir_meaning.specs.Arrays.{filled}
use Rattle.cir_meaning.specs.Texts.{Wanted, list_of, indices_of, numbers_wanted, value_wanted}
use Rattle.cir_meaning.specs.Texts.{variable_wanted, plain_wanted, assign_wanted, first_wanted}
use Rattle.cir_meaning.specs.Texts.{simple_wanted, wanted_in, all_wanted}
use Rattle.cir_meaning.specs.Writing.{plain}
use Rattle.cir_meaning.specs.RunValues.{Ran, Numbers, Environment, Store, stored, gives, number_in}
use Rattle.cir_meaning.specs.RunValues.{dims_numbers, the_number, assert_fails}
use Rattle.cir_meaning.specs.RunStatements.{StepFlow, StepGoing, StepReturned, step_goes}
use Rattle.cir_meaning.specs.RunStatements.{step_going, spend, step_set, step_plain, step_assign}
use Rattle.cir_meaning.specs.RunStatements.{step_value, declared, step_variable, step_variables}
use Rattle.cir_meaning.specs.RunStatements.{step_first, step_simple, step_turns, step_statement}
use Rattle.cir_meaning.specs.RunStatements.{step_statements}
use Rattle.wit_lower.specs.Homes.{Variable, same_name, Home, Homes, Scope, Ground, find}
use Rattle.wit_lower.specs.Statements.{known_dims, declared_scope, variable_scope, variables_scope}
use Rattle.wit_lower.specs.Statements.{first_scope, simple_scope, scope_behind}
use Rattle.wit_lower.specs.Fits.{PlaceSetFits, PlainFits, DimsFit, ValueFits, DeclaredFits}
use Rattle.wit_lower.specs.Fits.{VariablesFit, FirstFits, SimpleFits, StatementFits, StatementsFit}
use Rattle.wit_lower.specs.Fits.{TestFits}
use Rattle.wit_lower.proofs.Shows.{KnownAt}
use Rattle.wit_lower.proofs.Names.{same_name_is}
use Rattle.cir_emit.specs.Reads.{Reading, expr_reads}
use Rattle.cir_emit.proofs.Lists.{all_front, all_back, all_mapped, both}
use Rattle.cir_emit.proofs.Arrays.{SameNumbers}
use Rattle.cir_emit.proofs.Values.{Alike, Shared, SameStores, Outer, IsWhole, expr_same}
use Rattle.cir_emit.proofs.Values.{number_same}
use Rattle.cir_emit.proofs.Stores.{Twin, twin_next, twin_from, twin_number, with_part, twin_set}
use Rattle.cir_emit.proofs.Stores.{stores_set, part_set, filled_same, stores_new, stores_outer}

pub twin_weaker : {A B : Type 0} (R S : A → B → Type 0) (m : Ran A) (n : Ran B) → Twin R m n
    → ((a : A) (b : B) → R a b → S a b) → Twin S m n
twin_weaker R S (Ok x) (Ok y) (r, e) h = (h x.0 y.0 r, e)
twin_weaker R S (Ok x) (Err t) r h = absurd r
twin_weaker R S (Err s) (Ok y) r h = absurd r
twin_weaker R S (Err s) (Err t) e h = e

twin_cond : {A B : Type 0} (S : A → B → Type 0) (b : Bool) (p r : Ran A) (q t : Ran B)
    → Twin S p q → Twin S r t → Twin S (cond b p r) (cond b q t)
twin_cond S true p r q t h k = h
twin_cond S false p r q t h k = k

twin_spent : {A B : Type 0} (S : A → B → Type 0) (u : ℕ) (f : ℕ → Ran A) (k : ℕ → Ran B)
    → ((v : ℕ) → Twin S (f v) (k v)) → Twin S (spend u f) (spend u k)
twin_spent S zero f k h = refl
twin_spent S (suc u) f k h = h u

given_list : (ns : List ℕ) (v : ℕ) (x : List ℕ × ℕ)
    → ◌≡◌ {A = Ran (List ℕ)} (gives ns v) (Ok x) → x.0 ≡ ns
given_list ns v x e = let same : (ns, v) ≡ x = cc in ap (λ y. y.0) (sym same)

-- names and homes of a scope
outer_new : (Whole : ℕ → Type 0) (first homes : Homes) (n : ℕ) (h : Home) → Whole n
    → Outer Whole first homes
    → Outer Whole first (record { name = Variable n; home = h } ∷ homes)
outer_new Whole first homes n h w outer x j ej = at (same_name x (Variable n)) refl ej
  where
    at : (b : Bool) → same_name x (Variable n) ≡ b → cond b (Some h) (find x homes) ≡ Some j
        → IsWhole Whole x ⊎ (find x first ≡ Some j)
    at true e ej = inl (subst (IsWhole Whole) (sym (same_name_is x (Variable n) e)) w)
    at false e ej = outer x j ej

module _ (g : Ground) (first : Homes) (Loaded : Reading → Type 0) (Whole : ℕ → Type 0)
    (one two : Environment) (alike : Alike g first Loaded one two) (fixed : Store → Type 0)
    (free : ℕ → Type 0) (known : (store : Store) → fixed store → KnownAt g one store)
    (stays : (store : Store) (n : ℕ) (d : Numbers) → free n → fixed store
    → fixed (slice_set store n d))
    (room : (store : Store) (n : ℕ) → free n → fixed store → n < length store)
    (whole : (n : ℕ) → free n → Whole n) where
  pub record Pair (homes : Homes) (a b : Store) : Type 0 where
    pub stays_fixed : fixed a
    pub sizes : length a ≡ length b
    pub same : SameStores Loaded Whole homes a b

  abbrev Covered : Expr Meant → Type 0
  Covered e = AllByRecursion Loaded (expr_reads g first e)

  abbrev AllCovered : List Wanted → Type 0
  AllCovered ws = AllByRecursion (λ w. Covered w.expr) ws

  abbrev IsOuter : Homes → Type 0
  IsOuter homes = Outer Whole first homes

  test_same : (homes : Homes) → IsOuter homes → (a b : Store) → Pair homes a b → (e : Expr Meant)
      (u : ℕ) → TestFits g homes e → Covered e → number_in one a e u ≡ number_in two b e u
  test_same homes outer a b pair e u fits covered =
      expr_same g first Loaded Whole one two alike homes outer a b pair.same
      (known a pair.stays_fixed) e u fits.0 covered

  new_pair : (homes : Homes) (a b : Store) (n : ℕ) (h : Home) (d e : Numbers) → free n
      → Pair homes a b → SameNumbers (Shared Loaded Whole n) h.dims d e
      → Pair (record { name = Variable n; home = h } ∷ homes) (slice_set a n d) (slice_set b n e)
  new_pair homes a b n h d e may pair new = record {
    stays_fixed = stays a n d may pair.stays_fixed;
    sizes = length-set a n d ∙ pair.sizes ∙ sym (length-set b n e);
    same = stores_new Loaded Whole homes a b n h d e pair.same
        (room a n may pair.stays_fixed) pair.sizes new;
  }

  old_pair : (homes : Homes) (a b : Store) (n : ℕ) (h : Home) → find (Variable n) homes ≡ None
      → Pair (record { name = Variable n; home = h } ∷ homes) a b → Pair homes a b
  old_pair homes a b n h fresh pair = record {
    stays_fixed = pair.stays_fixed;
    sizes = pair.sizes;
    same = stores_outer Loaded Whole homes a b n h fresh pair.same;
  }

  -- assignments
  set_pair : (homes : Homes) → IsOuter homes → (m : Meant) (accessors : Accessors Meant)
      (e : Expr Meant) (a b : Store) (u : ℕ) → PlaceSetFits free g homes m accessors e → Covered e
      → AllByRecursion Covered (indices_of accessors) → Pair homes a b
      → Twin (Pair homes) (step_set one m accessors e a u) (step_set two m accessors e b u)
  set_pair homes outer (meant.Variable n) accessors e a b u fits covered others pair =
      twin_set g first Loaded Whole one two alike homes outer a b pair.same
      (known a pair.stays_fixed) (Pair homes) n fits.home accessors e u fits.found fits.value
      fits.indices covered others
      (λ x is ex agree inside.
      let places : List ℕ = places_of fits.home.dims (map Some is) in
      let d : Numbers = with_part (stored a n) places x.0 in
      let d' : Numbers = with_part (stored b n) places x.0 in record {
        stays_fixed = stays a n d fits.may pair.stays_fixed;
        sizes = length-set a n d ∙ pair.sizes ∙ sym (length-set b n d');
        same = stores_set Loaded Whole homes a b n fits.home d d' pair.same
            (room a n fits.may pair.stays_fixed) pair.sizes fits.found
            (part_set Loaded Whole n fits.home.dims (stored a n) (stored b n) places x.0
            (whole n fits.may) (pair.same n fits.home fits.found));
      })
  set_pair homes outer meant.Other accessors e a b u fits covered others pair = absurd fits
  set_pair homes outer (meant.Signal d n) accessors e a b u fits covered others pair = absurd fits
  set_pair homes outer (meant.Component n) accessors e a b u fits covered others pair = absurd fits
  set_pair homes outer (meant.Template n) accessors e a b u fits covered others pair = absurd fits
  set_pair homes outer (meant.Function n) accessors e a b u fits covered others pair = absurd fits

  plain_pair : (homes : Homes) → IsOuter homes → (x : Assign Meant) (a b : Store) (u : ℕ)
      → PlainFits free g homes x → AllCovered (plain_wanted x) → Pair homes a b
      → Twin (Pair homes) (step_plain one x a u) (step_plain two x b u)
  plain_pair homes outer (Set name m accessors e) a b u fits covered pair =
      set_pair homes outer m accessors e a b u fits covered.0
      (all_mapped (λ w. Covered w.expr) _ (indices_of accessors) covered.1) pair
  plain_pair homes outer (Compound name m accessors o e) a b u fits covered pair = absurd fits
  plain_pair homes outer (Left name m accessors arrow e) a b u fits covered pair = absurd fits
  plain_pair homes outer (Increment name m accessors) a b u fits covered pair = absurd fits
  plain_pair homes outer (Decrement name m accessors) a b u fits covered pair = absurd fits

  value_pair : (homes : Homes) → IsOuter homes → (m : Meant) (o : Option (Expr Meant))
      (a b : Store) (u : ℕ) → ValueFits free g homes m o → AllCovered (value_wanted o)
      → Pair homes a b → Twin (Pair homes) (step_value one m o a u) (step_value two m o b u)
  value_pair homes outer m None a b u fits covered pair = (pair, refl)
  value_pair homes outer m (Some e) a b u fits covered pair =
      set_pair homes outer m done e a b u fits covered.0 tt pair

  -- declarations
  dims_same : (homes : Homes) → IsOuter homes → (es : Exprs Meant) (a b : Store) (u : ℕ)
      → DimsFit g homes es → AllByRecursion Covered (list_of es) → Pair homes a b
      → dims_numbers one a es u ≡ dims_numbers two b es u
  dims_same homes outer none a b u fits covered pair = refl
  dims_same homes outer (more e es) a b u (fe, fk, fs) covered pair =
      number_same (number_in one a e u) (number_in two b e u)
      (λ n v. next (dims_numbers one a es v) (λ x. gives (n ∷ x.0) x.1))
      (λ n v. next (dims_numbers two b es v) (λ x. gives (n ∷ x.0) x.1))
      (test_same homes outer a b pair e u fe covered.0)
      (λ x ex. ap (λ m. next m (λ y. gives (the_number x.0 ∷ y.0) y.1))
      (dims_same homes outer es a b x.1 fs covered.1 pair))

  dims_are : (homes : Homes) (es : Exprs Meant) (a : Store) (u : ℕ) (x : List ℕ × ℕ)
      → KnownAt g one a → DimsFit g homes es → dims_numbers one a es u ≡ Ok x
      → x.0 ≡ map (λ e. unwrap_or (g.known e) 0) (list_of es)
  dims_are homes none a u x k fits e =
      let same : ([], u) ≡ x = cc in ap (λ y. y.0) (sym same)
  dims_are homes (more e es) a u x k (fe, fk, fs) ran =
      let r = both (number_in one a e u)
      (λ y. next (dims_numbers one a es y.1) (λ z. gives (the_number y.0 ∷ z.0) z.1)) x ran in
      let t = both (dims_numbers one a es r.first.1)
      (λ z. gives (the_number r.first.0 ∷ z.0) z.1) x r.rest in
      given_list (the_number r.first.0 ∷ t.first.0) t.first.1 x t.rest ∙
      ap₂ (λ n ns. n ∷ ns)
      (k e fk.value u r.first fk.told r.is ∙ sym (ap (λ o. unwrap_or o 0) fk.told))
      (dims_are homes es a r.first.1 t.first k fs t.is)

  outer_declared : (s : Scope) (v : Declared Meant) (m : Meant) → DeclaredFits free g s v m
      → IsOuter s.homes → IsOuter (declared_scope g s v m).homes
  outer_declared s v (meant.Variable n) fits outer =
      outer_new Whole first s.homes n _ (whole n fits.may) outer
  outer_declared s v meant.Other fits outer = absurd fits
  outer_declared s v (meant.Signal d n) fits outer = absurd fits
  outer_declared s v (meant.Component n) fits outer = absurd fits
  outer_declared s v (meant.Template n) fits outer = absurd fits
  outer_declared s v (meant.Function n) fits outer = absurd fits

  leave_declared : (s : Scope) (v : Declared Meant) (m : Meant) (a b : Store)
      → DeclaredFits free g s v m → Pair (declared_scope g s v m).homes a b → Pair s.homes a b
  leave_declared s v (meant.Variable n) a b fits pair = old_pair s.homes a b n _ fits.fresh pair
  leave_declared s v meant.Other a b fits pair = absurd fits
  leave_declared s v (meant.Signal d n) a b fits pair = absurd fits
  leave_declared s v (meant.Component n) a b fits pair = absurd fits
  leave_declared s v (meant.Template n) a b fits pair = absurd fits
  leave_declared s v (meant.Function n) a b fits pair = absurd fits

  declared_pair : (s : Scope) → IsOuter s.homes → (v : Declared Meant) (m : Meant) (a b : Store)
      (u : ℕ) → v.meant ≡ m → DeclaredFits free g s v m → AllCovered (variable_wanted v)
      → Pair s.homes a b
      → Twin (Pair (declared_scope g s v m).homes)
      (next (dims_numbers one a v.dimensions u)
      (λ x. step_value one m v.value (declared m x.0 a) x.1))
      (next (dims_numbers two b v.dimensions u)
      (λ x. step_value two m v.value (declared m x.0 b) x.1))
  declared_pair s outer v (meant.Variable n) a b u em fits covered pair =
      let m : Meant = meant.Variable n in
      let h : Home = record { base = s.top; dims = known_dims g v } in
      let dims : List (Expr Meant) = list_of v.dimensions in
      twin_from (Pair (declared_scope g s v m).homes) (dims_numbers one a v.dimensions u)
      (dims_numbers two b v.dimensions u)
      (λ x. step_value one m v.value (declared m x.0 a) x.1)
      (λ x. step_value two m v.value (declared m x.0 b) x.1)
      (dims_same s.homes outer v.dimensions a b u fits.dims
      (all_mapped (λ w. Covered w.expr) _ dims
      (all_front (λ w. Covered w.expr) (numbers_wanted dims) (value_wanted v.value) covered)) pair)
      (λ x ex.
      let is : x.0 ≡ h.dims =
      dims_are s.homes v.dimensions a u x (known a pair.stays_fixed) fits.dims ex in
      value_pair (declared_scope g s v m).homes (outer_declared s v m fits outer) m v.value
      (declared m x.0 a) (declared m x.0 b) x.1
      (subst (λ z. ValueFits free g (declared_scope g s v m).homes z v.value) em fits.value)
      (all_back (λ w. Covered w.expr) (numbers_wanted dims) (value_wanted v.value) covered)
      (new_pair s.homes a b n h (filled x.0 0) (filled x.0 0) fits.may pair
      (subst (λ ds. SameNumbers (Shared Loaded Whole n) h.dims (filled ds 0) (filled ds 0)) (sym is)
      (filled_same Loaded Whole n h.dims))))
  declared_pair s outer v meant.Other a b u em fits covered pair = absurd fits
  declared_pair s outer v (meant.Signal d n) a b u em fits covered pair = absurd fits
  declared_pair s outer v (meant.Component n) a b u em fits covered pair = absurd fits
  declared_pair s outer v (meant.Template n) a b u em fits covered pair = absurd fits
  declared_pair s outer v (meant.Function n) a b u em fits covered pair = absurd fits

  outer_variables : (vs : List (Declared Meant)) (s : Scope) → VariablesFit free g s vs
      → IsOuter s.homes → IsOuter (variables_scope g s vs).homes
  outer_variables [] s fits outer = outer
  outer_variables (v ∷ vs) s (fv, fs) outer =
      outer_variables vs (variable_scope g s v) fs (outer_declared s v v.meant fv outer)

  leave_variables : (vs : List (Declared Meant)) (s : Scope) (a b : Store)
      → VariablesFit free g s vs → Pair (variables_scope g s vs).homes a b → Pair s.homes a b
  leave_variables [] s a b fits pair = pair
  leave_variables (v ∷ vs) s a b (fv, fs) pair =
      leave_declared s v v.meant a b fv (leave_variables vs (variable_scope g s v) a b fs pair)

  variables_pair : (vs : List (Declared Meant)) (s : Scope) → IsOuter s.homes → (a b : Store)
      (u : ℕ) → VariablesFit free g s vs → AllCovered (flat_map variable_wanted vs)
      → Pair s.homes a b
      → Twin (Pair (variables_scope g s vs).homes) (step_variables one vs a u)
      (step_variables two vs b u)
  variables_pair [] s outer a b u fits covered pair = (pair, refl)
  variables_pair (v ∷ vs) s outer a b u (fv, fs) covered pair =
      let inner : Scope = variable_scope g s v in
      twin_next (Pair inner.homes) (Pair (variables_scope g inner vs).homes)
      (step_variable one v a u) (step_variable two v b u)
      (λ x. step_variables one vs x.0 x.1) (λ x. step_variables two vs x.0 x.1)
      (declared_pair s outer v v.meant a b u refl fv
      (all_front (λ w. Covered w.expr) (variable_wanted v) (flat_map variable_wanted vs) covered)
      pair)
      (λ c d w ec p. variables_pair vs inner (outer_declared s v v.meant fv outer) c d w fs
      (all_back (λ w. Covered w.expr) (variable_wanted v) (flat_map variable_wanted vs) covered) p)

  outer_first : (x : First Meant) (s : Scope) → FirstFits free g s x → IsOuter s.homes
      → IsOuter (first_scope g s x).homes
  outer_first (FirstVars vs) s fits outer = outer_variables vs s fits outer
  outer_first (FirstAssign a) s fits outer = outer

  leave_first : (x : First Meant) (s : Scope) (a b : Store) → FirstFits free g s x
      → Pair (first_scope g s x).homes a b → Pair s.homes a b
  leave_first (FirstVars vs) s a b fits pair = leave_variables vs s a b fits pair
  leave_first (FirstAssign x) s a b fits pair = pair

  first_pair : (x : First Meant) (s : Scope) → IsOuter s.homes → (a b : Store) (u : ℕ)
      → FirstFits free g s x → AllCovered (first_wanted x) → Pair s.homes a b
      → Twin (Pair (first_scope g s x).homes) (step_first one x a u) (step_first two x b u)
  first_pair (FirstVars vs) s outer a b u fits covered pair =
      variables_pair vs s outer a b u fits covered pair
  first_pair (FirstAssign x) s outer a b u fits covered pair =
      plain_pair s.homes outer (plain x) a b u fits covered pair

  simple_pair : (x : Simple Meant) (s : Scope) → IsOuter s.homes → (a b : Store) (u : ℕ)
      → SimpleFits free g s x → AllCovered (simple_wanted x) → Pair s.homes a b
      → Twin (Pair (simple_scope g s x).homes) (step_simple one x a u) (step_simple two x b u)
  simple_pair (Vars vs) s outer a b u fits covered pair =
      variables_pair vs s outer a b u fits covered pair
  simple_pair (Assigned x) s outer a b u fits covered pair =
      plain_pair s.homes outer (plain x) a b u fits covered pair
  simple_pair (Signals d ds) s outer a b u fits covered pair = absurd fits
  simple_pair (DeclaredComponents cs) s outer a b u fits covered pair = absurd fits
  simple_pair (Created name m e) s outer a b u fits covered pair = absurd fits
  simple_pair (Constrain x y) s outer a b u fits covered pair = absurd fits
  simple_pair (Right e arrow name m accessors) s outer a b u fits covered pair = absurd fits
  simple_pair (TargetLeft t arrow x) s outer a b u fits covered pair = absurd fits
  simple_pair (TargetRight x arrow t) s outer a b u fits covered pair = absurd fits
  simple_pair (Alone parallel name m arguments inputs) s outer a b u fits covered pair = absurd fits

  outer_behind : (a : Statement Spot Meant) (s : Scope) → StatementFits free ⊥ g s a
      → IsOuter s.homes → IsOuter (scope_behind g s a).homes
  outer_behind (Ended spot (Vars vs)) s fits outer = outer_variables vs s fits outer
  outer_behind (Ended spot (Assigned x)) s fits outer = outer
  outer_behind (Ended spot (Signals d ds)) s fits outer = absurd fits
  outer_behind (Ended spot (DeclaredComponents cs)) s fits outer = absurd fits
  outer_behind (Ended spot (Created name m e)) s fits outer = absurd fits
  outer_behind (Ended spot (Constrain x y)) s fits outer = absurd fits
  outer_behind (Ended spot (Right e arrow name m accessors)) s fits outer = absurd fits
  outer_behind (Ended spot (TargetLeft t arrow x)) s fits outer = absurd fits
  outer_behind (Ended spot (TargetRight x arrow t)) s fits outer = absurd fits
  outer_behind (Ended spot (Alone parallel name m arguments inputs)) s fits outer = absurd fits
  outer_behind (Block spot ss) s fits outer = outer
  outer_behind (If spot c a) s fits outer = outer
  outer_behind (IfElse spot c a b) s fits outer = outer
  outer_behind (While spot c a) s fits outer = outer
  outer_behind (For spot first_spot f c step_spot a body) s fits outer = outer
  outer_behind (Return spot e) s fits outer = outer
  outer_behind (Assert spot e) s fits outer = outer
  outer_behind (Log spot arguments) s fits outer = outer

  -- two flows
  abbrev pub FlowPair : Homes → StepFlow → StepFlow → Type 0
  FlowPair homes (StepGoing a) (StepGoing b) = Pair homes a b
  FlowPair homes (StepGoing a) (StepReturned e) = ⊥
  FlowPair homes (StepReturned d) b = ⊥

  leave_behind : (a : Statement Spot Meant) (s : Scope) (x y : StepFlow)
      → StatementFits free ⊥ g s a → FlowPair (scope_behind g s a).homes x y
      → FlowPair s.homes x y
  leave_behind (Ended spot (Vars vs)) s (StepGoing a) (StepGoing b) fits pair =
      leave_variables vs s a b fits pair
  leave_behind (Ended spot (Vars vs)) s (StepGoing a) (StepReturned e) fits pair = absurd pair
  leave_behind (Ended spot (Vars vs)) s (StepReturned d) y fits pair = absurd pair
  leave_behind (Ended spot (Assigned z)) s x y fits pair = pair
  leave_behind (Ended spot (Signals d ds)) s x y fits pair = pair
  leave_behind (Ended spot (DeclaredComponents cs)) s x y fits pair = pair
  leave_behind (Ended spot (Created name m e)) s x y fits pair = pair
  leave_behind (Ended spot (Constrain z w)) s x y fits pair = pair
  leave_behind (Ended spot (Right e arrow name m accessors)) s x y fits pair = pair
  leave_behind (Ended spot (TargetLeft t arrow z)) s x y fits pair = pair
  leave_behind (Ended spot (TargetRight z arrow t)) s x y fits pair = pair
  leave_behind (Ended spot (Alone parallel name m arguments inputs)) s x y fits pair = pair
  leave_behind (Block spot ss) s x y fits pair = pair
  leave_behind (If spot c a) s x y fits pair = pair
  leave_behind (IfElse spot c a b) s x y fits pair = pair
  leave_behind (While spot c a) s x y fits pair = pair
  leave_behind (For spot first_spot f c step_spot a body) s x y fits pair = pair
  leave_behind (Return spot e) s x y fits pair = pair
  leave_behind (Assert spot e) s x y fits pair = pair
  leave_behind (Log spot arguments) s x y fits pair = pair

  twin_going : (S : StepFlow → StepFlow → Type 0) (homes : Homes) (x y : StepFlow)
      (u : ℕ) (f k : Store → ℕ → Ran StepFlow) → FlowPair homes x y
      → ((a b : Store) → Pair homes a b → Twin S (f a u) (k b u))
      → Twin S (step_going x u f) (step_going y u k)
  twin_going S homes (StepGoing a) (StepGoing b) u f k pair h = h a b pair
  twin_going S homes (StepGoing a) (StepReturned e) u f k pair h = absurd pair
  twin_going S homes (StepReturned d) y u f k pair h = absurd pair

  -- a loop
  turns_pair : (most : ℕ) (homes : Homes) (c : Expr Meant) (f k : Store → ℕ → Ran StepFlow)
      (a b : Store) (u : ℕ)
      → ((x y : Store) (v : ℕ) → Pair homes x y → number_in one x c v ≡ number_in two y c v)
      → ((x y : Store) (v : ℕ) → Pair homes x y → Twin (FlowPair homes) (f x v) (k y v))
      → Pair homes a b
      → Twin (FlowPair homes) (step_turns most one c f a u) (step_turns most two c k b u)
  turns_pair zero homes c f k a b u test turn pair = refl
  turns_pair (suc most) homes c f k a b u test turn pair =
      twin_number (FlowPair homes) (number_in one a c u) (number_in two b c u)
      (λ m v. cond (m == 0) (gives (StepGoing a) v) (spend v (λ w. next (f a w)
      (λ x. step_going x.0 x.1 (step_turns most one c f)))))
      (λ m v. cond (m == 0) (gives (StepGoing b) v) (spend v (λ w. next (k b w)
      (λ x. step_going x.0 x.1 (step_turns most two c k)))))
      (test a b u pair)
      (λ x ex. twin_cond (FlowPair homes) (the_number x.0 == 0) _ _ _ _ (pair, refl)
      (twin_spent (FlowPair homes) x.1 _ _
      (λ w. twin_next (FlowPair homes) (FlowPair homes) (f a w) (k b w)
      (λ y. step_going y.0 y.1 (step_turns most one c f))
      (λ y. step_going y.0 y.1 (step_turns most two c k)) (turn a b w pair)
      (λ p q z ep flow. twin_going (FlowPair homes) homes p q z (step_turns most one c f)
      (step_turns most two c k) flow
      (λ a1 b1 pair1. turns_pair most homes c f k a1 b1 z test turn pair1)))))

  goes_pair : (homes : Homes) (m n : Ran Store) → Twin (Pair homes) m n
      → Twin (FlowPair homes) (step_goes m) (step_goes n)
  goes_pair homes m n h =
      twin_next (Pair homes) (FlowPair homes) m n (λ x. gives (StepGoing x.0) x.1)
      (λ x. gives (StepGoing x.0) x.1) h (λ a b u e pair. (pair, refl))

  leave_flow : (f : First Meant) (s : Scope) (x y : StepFlow) → FirstFits free g s f
      → FlowPair (first_scope g s f).homes x y → FlowPair s.homes x y
  leave_flow f s (StepGoing a) (StepGoing b) fits pair = leave_first f s a b fits pair
  leave_flow f s (StepGoing a) (StepReturned e) fits pair = absurd pair
  leave_flow f s (StepReturned d) y fits pair = absurd pair

  -- behind a statement its own declarations are left
  pub inner_of : (a : Statement Spot Meant) (s : Scope) (m n : Ran StepFlow)
      → StatementFits free ⊥ g s a → Twin (FlowPair (scope_behind g s a).homes) m n
      → Twin (FlowPair s.homes) m n
  inner_of a s m n fits h =
      twin_weaker (FlowPair (scope_behind g s a).homes) (FlowPair s.homes) m n h
      (λ p q flow. leave_behind a s p q fits flow)

  mutual
    pub statement_pair : (a : Statement Spot Meant) (s : Scope) → IsOuter s.homes
        → (x y : Store) (u : ℕ) → StatementFits free ⊥ g s a → AllCovered (wanted_in a)
        → Pair s.homes x y
        → Twin (FlowPair (scope_behind g s a).homes) (step_statement one a x u)
        (step_statement two a y u)
    statement_pair (Block spot ss) s outer x y u fits covered pair =
        statements_pair ss s outer x y u fits covered pair
    statement_pair (If spot c a) s outer x y u (fc, fa) covered pair =
        twin_number (FlowPair s.homes) (number_in one x c u) (number_in two y c u)
        (λ m v. cond (m == 0) (gives (StepGoing x) v) (step_statement one a x v))
        (λ m v. cond (m == 0) (gives (StepGoing y) v) (step_statement two a y v))
        (test_same s.homes outer x y pair c u fc covered.0)
        (λ z ez. twin_cond (FlowPair s.homes) (the_number z.0 == 0) _ _ _ _ (pair, refl)
        (inner_of a s (step_statement one a x z.1) (step_statement two a y z.1) fa
        (statement_pair a s outer x y z.1 fa covered.1 pair)))
    statement_pair (IfElse spot c a b) s outer x y u (fc, fa, fb) covered pair =
        twin_number (FlowPair s.homes) (number_in one x c u) (number_in two y c u)
        (λ m v. cond (m == 0) (step_statement one b x v) (step_statement one a x v))
        (λ m v. cond (m == 0) (step_statement two b y v) (step_statement two a y v))
        (test_same s.homes outer x y pair c u fc covered.0)
        (λ z ez. twin_cond (FlowPair s.homes) (the_number z.0 == 0) _ _ _ _
        (inner_of b s (step_statement one b x z.1) (step_statement two b y z.1) fb
        (statement_pair b s outer x y z.1 fb
        (all_back (λ w. Covered w.expr) (wanted_in a) (wanted_in b) covered.1) pair))
        (inner_of a s (step_statement one a x z.1) (step_statement two a y z.1) fa
        (statement_pair a s outer x y z.1 fa
        (all_front (λ w. Covered w.expr) (wanted_in a) (wanted_in b) covered.1) pair)))
    statement_pair (While spot c a) s outer x y u (fc, fa) covered pair =
        turns_pair (suc u) s.homes c (step_statement one a) (step_statement two a) x y u
        (λ p q v pair1. test_same s.homes outer p q pair1 c v fc covered.0)
        (λ p q v pair1. inner_of a s (step_statement one a p v) (step_statement two a q v) fa
        (statement_pair a s outer p q v fa covered.1 pair1)) pair
    statement_pair (For spot first_spot f c step_spot a body) s outer x y u (ff, fc, fb, fa) covered
        pair =
        let inner : Scope = first_scope g s f in
        let firsts : List Wanted = first_wanted f in
        let after : List Wanted = wanted_in body ++ assign_wanted a in
        let rest = all_back (λ w. Covered w.expr) firsts _ covered in
        let last : Scope = scope_behind g inner body in
        let out : IsOuter inner.homes = outer_first f s ff outer in
        twin_next (Pair inner.homes) (FlowPair s.homes) (step_first one f x u)
        (step_first two f y u)
        (λ z. step_turns (suc z.1) one c (λ p v. next (step_statement one body p v)
        (λ w. step_going w.0 w.1 (λ p1 v1. step_goes (step_assign one a p1 v1)))) z.0 z.1)
        (λ z. step_turns (suc z.1) two c (λ p v. next (step_statement two body p v)
        (λ w. step_going w.0 w.1 (λ p1 v1. step_goes (step_assign two a p1 v1)))) z.0 z.1)
        (first_pair f s outer x y u ff (all_front (λ w. Covered w.expr) firsts _ covered) pair)
        (λ p q v ep pair1.
        twin_weaker (FlowPair inner.homes) (FlowPair s.homes) _ _
        (turns_pair (suc v) inner.homes c _ _ p q v
        (λ p1 q1 v1 pair2. test_same inner.homes out p1 q1 pair2 c v1 fc rest.0)
        (λ p1 q1 v1 pair2. twin_next (FlowPair last.homes) (FlowPair inner.homes)
        (step_statement one body p1 v1) (step_statement two body q1 v1)
        (λ w. step_going w.0 w.1 (λ p1 v1. step_goes (step_assign one a p1 v1)))
        (λ w. step_going w.0 w.1 (λ p1 v1. step_goes (step_assign two a p1 v1)))
        (statement_pair body inner out p1 q1 v1 fb
        (all_front (λ w. Covered w.expr) (wanted_in body) (assign_wanted a) rest.1) pair2)
        (λ w1 w2 v2 ew flow. inner_of body inner _ _ fb
        (twin_going (FlowPair last.homes) last.homes w1 w2 v2
        (λ p1 v1. step_goes (step_assign one a p1 v1))
        (λ p1 v1. step_goes (step_assign two a p1 v1)) flow
        (λ p3 q3 pair3. goes_pair last.homes (step_assign one a p3 v2) (step_assign two a q3 v2)
        (plain_pair last.homes (outer_behind body inner fb out) (plain a) p3 q3 v2 fa
        (all_back (λ w. Covered w.expr) (wanted_in body) (assign_wanted a) rest.1) pair3)))))
        pair1)
        (λ w1 w2 flow. leave_flow f s w1 w2 ff flow))
    statement_pair (Return spot e) s outer x y u fits covered pair = absurd fits.0
    statement_pair (Assert spot e) s outer x y u fits covered pair =
        twin_number (FlowPair s.homes) (number_in one x e u) (number_in two y e u)
        (λ m v. cond (m == 0) (Err assert_fails) (gives (StepGoing x) v))
        (λ m v. cond (m == 0) (Err assert_fails) (gives (StepGoing y) v))
        (test_same s.homes outer x y pair e u fits covered.0)
        (λ z ez. twin_cond (FlowPair s.homes) (the_number z.0 == 0) _ _ _ _ refl (pair, refl))
    statement_pair (Log spot arguments) s outer x y u fits covered pair = absurd fits
    statement_pair (Ended spot z) s outer x y u fits covered pair =
        goes_pair (simple_scope g s z).homes (step_simple one z x u) (step_simple two z y u)
        (simple_pair z s outer x y u fits covered pair)

    statements_pair : (ss : Statements Spot Meant) (s : Scope) → IsOuter s.homes
        → (x y : Store) (u : ℕ) → StatementsFit free ⊥ g s ss → AllCovered (all_wanted ss)
        → Pair s.homes x y
        → Twin (FlowPair s.homes) (step_statements one ss x u) (step_statements two ss y u)
    statements_pair empty s outer x y u fits covered pair = (pair, refl)
    statements_pair (then_more a rest) s outer x y u (fa, fr) covered pair =
        let behind : Scope = scope_behind g s a in
        twin_next (FlowPair behind.homes) (FlowPair s.homes) (step_statement one a x u)
        (step_statement two a y u) (λ z. step_going z.0 z.1 (step_statements one rest))
        (λ z. step_going z.0 z.1 (step_statements two rest))
        (statement_pair a s outer x y u fa
        (all_front (λ w. Covered w.expr) (wanted_in a) (all_wanted rest) covered) pair)
        (λ p q v ep flow. twin_going (FlowPair s.homes) behind.homes p q v
        (step_statements one rest) (step_statements two rest) flow
        (λ x1 y1 pair1. twin_weaker (FlowPair behind.homes) (FlowPair s.homes)
        (step_statements one rest x1 v) (step_statements two rest y1 v)
        (statements_pair rest behind (outer_behind a s fa outer) x1 y1 v fr
        (all_back (λ w. Covered w.expr) (wanted_in a) (all_wanted rest) covered) pair1)
        (λ p1 q1 flow1. leave_behind a s p1 q1 fa flow1)))
