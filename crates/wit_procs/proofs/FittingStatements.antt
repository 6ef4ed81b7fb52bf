-- A body that keeps the rules fits: what it names has a home, shapes fit, calls are in the table.
use Rattle.std.proofs.Common.{◌≡◌, ◌∙◌, ℕ, ◌+◌, ◌<◌, ◌≤◌, List, [], ◌∷◌, ◌++◌, length, drop, refl}
use Rattle.std.proofs.Common.{ap, sym, subst, arith}
use Rattle.std.specs.Prelude.{◌==◌, Bool, true, false, ◌||◌, if◌then◌else◌, map, flat_map, Option}
use Rattle.std.specs.Prelude.{Some, None, is_some, is_none, unwrap_or}
use Rattle.std.specs.List.{AllByRecursion}
use Rattle.std.proofs.lemmas.Bool.{or_left, eqb-true, eq-eqb, ne_eqb}
use Rattle.cir_ast.specs.declared.program.Spot.{Spot}
use Rattle.cir_ast.specs.declared.program.Meant.{Meant}
use Rattle.cir_ast.specs.declared.program.Meant.TheVariants as meant
use Rattle.cir_ast.specs.Tree.{Expr, Exprs, none, more, Accessors, done, index, member}
use Rattle.cir_ast.specs.Tree.{Variable as Declared, Assign, Set, Compound, Left, Increment}
use Rattle.cir_ast.specs.Tree.{Decrement, First, FirstVars, FirstAssign, Simple, Vars, Signals}
use Rattle.cir_ast.specs.Tree.{Declared as Components, Created, Assigned, Constrain, Right}
use Rattle.cir_ast.specs.Tree.{TargetLeft, TargetRight, Alone, Statement, Block, If, IfElse, While}
use Rattle.cir_ast.specs.Tree.{For, Return, Assert, Log, Ended, Statements, empty, then_more}
use Rattle.cir_meaning.specs.Arrays.{Scalar, Whole}
use Rattle.cir_meaning.specs.Costs.{Made}
use Rattle.cir_meaning.specs.Functions as F
use Rattle.cir_meaning.specs.Reached.{indices_count, is_misplaced}
use Rattle.cir_meaning.specs.Scoped as S
use Rattle.cir_meaning.specs.Scoped.{AreCallsMeant, AreAllMeant, AreIndicesMeant, IsAssignMeant}
use Rattle.cir_meaning.specs.Scoped.{IsOptionMeant, IsVariableScoped, AreVariablesScoped}
use Rattle.cir_meaning.specs.Scoped.{IsFirstScoped, IsSimpleScoped, with_variables, behind_first}
use Rattle.cir_meaning.specs.Scoped.{behind_simple, closed, behind, behind_all}
use Rattle.cir_meaning.specs.SignalFree.{IsFreeExpr, AreFree, AreFreeIndices, IsFreeAssign}
use Rattle.cir_meaning.specs.SignalFree.{IsFreeOption, IsFreeVariable, IsFreeFirst, IsFreeSimple}
use Rattle.cir_meaning.specs.SignalFree.{IsFree, AreFreeStatements}
use Rattle.cir_meaning.specs.Texts.{Wanted, list_of, indices_of, numbers_wanted, value_wanted}
use Rattle.cir_meaning.specs.Texts.{variable_wanted, plain_wanted, assign_wanted, first_wanted}
use Rattle.cir_meaning.specs.Texts.{simple_wanted, wanted_in, all_wanted, returned_in, all_returned}
use Rattle.cir_meaning.specs.Texts.{first_variables, simple_variables, variables_in, all_variables}
use Rattle.cir_meaning.specs.Texts.{simple_assigns, first_assigns, assigns_in, all_assigns}
use Rattle.cir_meaning.specs.Texts.{calls_of, literal_number}
use Rattle.cir_meaning.specs.Writing.{plain}
use Rattle.wit_lower.specs.Homes as L
use Rattle.wit_lower.specs.Homes.{Variable, Homes, Ground, find}
use Rattle.wit_lower.specs.Procedures.{function_ground}
use Rattle.wit_lower.specs.Statements.{known_dims, declared_scope, variable_scope, variables_scope}
use Rattle.wit_lower.specs.Statements.{first_scope, scope_behind}
use Rattle.wit_lower.specs.Fits.{IsKnown, TestFits, IndicesFit, SetFits, PlaceSetFits, PlainFits}
use Rattle.wit_lower.specs.Fits.{AssignFits, DimsFit, ValueFits, DeclaredFits, VariablesFit}
use Rattle.wit_lower.specs.Fits.{FirstFits, SimpleFits, StatementFits, StatementsFit}
use Rattle.cir_scope.specs.Runnable.{MayRun, AllMayRun}
use Rattle.cir_meaning.specs.Limits.{is_too_large}
use Rattle.wit_procs.proofs.Given.{all_front, all_back, of_variable, is_given, both_are}
use Rattle.wit_procs.proofs.Given.{Left as Part, left_is}
use Rattle.wit_procs.proofs.FittingExprs.{HasDims, HaveCalls, IsFit, number_fit, fits_expr}

-- ---- how many variables are declared
variables_grow : (vs : List (Declared Meant)) (s : S.Scope)
    → s.variables ≤ (with_variables s vs).variables
variables_grow [] s = omega arith
variables_grow (v ∷ vs) s = omega (arith, variables_grow vs (S.with_variable s))

first_grows : (f : First Meant) (s : S.Scope) → s.variables ≤ (behind_first s f).variables
first_grows (FirstVars vs) s = variables_grow vs s
first_grows (FirstAssign a) s = omega arith

simple_grows : (functions : ℕ) (x : Simple Meant) (s : S.Scope) → IsFreeSimple functions x
    → s.variables ≤ (behind_simple s x).variables
simple_grows functions (Vars vs) s f = variables_grow vs s
simple_grows functions (Signals d xs) s f = absurd f
simple_grows functions (Components cs) s f = absurd f
simple_grows functions (Created name m e) s f = absurd f
simple_grows functions (Assigned a) s f = omega arith
simple_grows functions (Constrain a b) s f = absurd f
simple_grows functions (Right e arrow name m accessors) s f = absurd f
simple_grows functions (TargetLeft target arrow source) s f = absurd f
simple_grows functions (TargetRight source arrow target) s f = absurd f
simple_grows functions (Alone parallel name m arguments inputs) s f = absurd f

mutual
  grows : (functions : ℕ) (x : Statement Spot Meant) (s : S.Scope) → IsFree functions x
      → s.variables ≤ (behind s x).variables
  grows functions (Block spot ss) s f = all_grow functions ss s f
  grows functions (If spot c a) s f = grows functions a s f.1
  grows functions (IfElse spot c a b) s f =
      omega (arith, grows functions a s f.1, grows functions b (closed s (behind s a)) f.2)
  grows functions (While spot c a) s f = grows functions a s f.1
  grows functions (For spot first_spot first c step_spot a body) s f =
      omega (arith, first_grows first s, grows functions body (behind_first s first) f.3)
  grows functions (Return spot e) s f = omega arith
  grows functions (Assert spot e) s f = omega arith
  grows functions (Log spot arguments) s f = absurd f
  grows functions (Ended spot x) s f = simple_grows functions x s f

  all_grow : (functions : ℕ) (xs : Statements Spot Meant) (s : S.Scope)
      → AreFreeStatements functions xs → s.variables ≤ (behind_all s xs).variables
  all_grow functions empty s f = omega arith
  all_grow functions (then_more x xs) s f =
      omega (arith, grows functions x s f.0, all_grow functions xs (behind s x) f.1)

-- ---- a compound assignment is a plain one
plain_free : (functions : ℕ) (x : Assign Meant) → IsFreeAssign functions x
    → IsFreeAssign functions (plain x)
plain_free functions (Set name m accessors e) f = f
plain_free functions (Compound name m accessors op e) f = (f.0, f.1, ((f.0, f.1), f.2))
plain_free functions (Left name m accessors arrow e) f = absurd f
plain_free functions (Increment name m accessors) f = (f.0, f.1, ((f.0, f.1), tt))
plain_free functions (Decrement name m accessors) f = (f.0, f.1, ((f.0, f.1), tt))

plain_meant : (functions : ℕ) (s : S.Scope) (x : Assign Meant) → IsFreeAssign functions x
    → IsAssignMeant s x → IsAssignMeant s (plain x)
plain_meant functions s (Set name m accessors e) f h = h
plain_meant functions s (Compound name m accessors op e) f h =
    of_variable
    (λ m. IsAssignMeant s (Compound name m accessors op e)
    → IsAssignMeant s (plain (Compound name m accessors op e)))
    (λ n h. (h.0, h.1, ((h.0, h.1), h.2))) m f.0 h
plain_meant functions s (Left name m accessors arrow e) f h = absurd f
plain_meant functions s (Increment name m accessors) f h =
    of_variable
    (λ m. IsAssignMeant s (Increment name m accessors)
    → IsAssignMeant s (plain (Increment name m accessors)))
    (λ n h. (h.0, h.1, ((h.0, h.1), tt))) m f.0 h
plain_meant functions s (Decrement name m accessors) f h =
    of_variable
    (λ m. IsAssignMeant s (Decrement name m accessors)
    → IsAssignMeant s (plain (Decrement name m accessors)))
    (λ n h. (h.0, h.1, ((h.0, h.1), tt))) m f.0 h

known_number : (o : Option ℕ) → is_none o ≡ false → IsKnown o
known_number None h = cc
known_number (Some n) h = record { value = n; told = refl }

module _ (functions : ℕ) (keys : List Made) (dims : ℕ → List ℕ) (total : ℕ)
    (small : (n : ℕ) → is_too_large (dims n) ≡ false) where
  abbrev g : Ground
  g = function_ground keys

  abbrev Free : ℕ → Type 0
  Free n = n < total

  -- what the rules tell of an expression, an assignment, a variable, and of what is returned
  pub record IsWantedFit (x : Wanted) : Type 0 where
    pub shape : is_some (F.shape_in dims x.want x.expr) ≡ true
    pub placed : is_misplaced x.want x.expr ≡ false
    pub calls : HaveCalls functions keys dims (calls_of x.expr)

  abbrev pub IsAssignFit : Assign Meant → Type 0
  IsAssignFit a = F.assign_fits dims a ≡ true

  abbrev pub IsWritten : Expr Meant → Type 0
  IsWritten e = is_none (literal_number e) ≡ false

  pub record IsVariableFit (v : Declared Meant) : Type 0 where
    pub value : F.value_fits dims v v.value ≡ true
    pub written : AllByRecursion IsWritten (list_of v.dimensions)
    pub size : (n : ℕ) → v.meant ≡ meant.Variable n
        → dims n ≡ map (λ e. unwrap_or (literal_number e) 0) (list_of v.dimensions)

  abbrev pub IsNumber : Expr Meant → Type 0
  IsNumber e = (d : List ℕ) → F.shape_in dims Whole e ≡ Some d → d ≡ []

  -- ---- what is in scope has a home
  pub record Agrees (s : S.Scope) (homes : Homes) : Type 0 where
    pub each : (n : ℕ) → s.seen n ≡ true → HasDims homes n (dims n)
    pub fresh : (n : ℕ) → s.variables ≤ n → find (Variable n) homes ≡ None
    pub below : (n : ℕ) → s.seen n ≡ true → n < s.variables

  agrees_closed : (s r : S.Scope) (homes : Homes) → Agrees s homes → s.variables ≤ r.variables
      → Agrees (closed s r) homes
  agrees_closed s r homes a le = record {
    each = a.each;
    fresh = λ n more. a.fresh n (omega (arith, le, more));
    below = λ n seen. omega (arith, le, a.below n seen);
  }

  pub agrees_variable : (s : S.Scope) (sc : L.Scope) (ds : List ℕ) → Agrees s sc.homes
      → dims s.variables ≡ ds
      → Agrees (S.with_variable s) (L.with_variable s.variables ds sc).homes
  agrees_variable s sc ds a size = record {
    each = λ n h. each n (n == s.variables) refl h;
    fresh = λ n more. ap (λ b. choose n b)
        (ne_eqb n s.variables (λ e. absurd (omega (arith, e, more))))
        ∙ a.fresh n (omega (arith, more));
    below = λ n h. below n (n == s.variables) refl h;
  }
    where
      choose : (n : ℕ) → Bool → Option L.Home
      choose n b =
          if b then Some record { base = sc.top; dims = ds } else find (Variable n) sc.homes

      each : (n : ℕ) (b : Bool) → (n == s.variables) ≡ b → (b || s.seen n) ≡ true
          → HasDims (L.with_variable s.variables ds sc).homes n (dims n)
      each n true e h = record {
        home = record { base = sc.top; dims = ds };
        found = ap (λ b. choose n b) e;
        is = sym size ∙ ap dims (sym (eqb-true n s.variables e));
      }
      each n false e h =
          let old : HasDims sc.homes n (dims n) = a.each n h in
          record { home = old.home; found = ap (λ b. choose n b) e ∙ old.found; is = old.is }

      below : (n : ℕ) (b : Bool) → (n == s.variables) ≡ b → (b || s.seen n) ≡ true
          → n < s.variables + 1
      below n true e h = omega (arith, eqb-true n s.variables e)
      below n false e h = omega (arith, a.below n h)

  -- ---- expressions
  test_fit : (s : S.Scope) (homes : Homes) → Agrees s homes → (e : Expr Meant)
      → AreCallsMeant s e → IsFreeExpr functions e
      → IsWantedFit record { want = Scalar; expr = e } → TestFits g homes e
  test_fit s homes a e m f w =
      let o = is_given (F.shape_in dims Scalar e) w.shape in
      number_fit functions keys dims s homes a.each e o.shape o.is
      (fits_expr functions keys dims s homes a.each Scalar e o.shape m f o.is w.placed w.calls)

  indices_fit : (s : S.Scope) (homes : Homes) → Agrees s homes → (accessors : Accessors Meant)
      → AreIndicesMeant s accessors → AreFreeIndices functions accessors
      → AllByRecursion IsWantedFit (numbers_wanted (indices_of accessors))
      → IndicesFit g homes accessors
  indices_fit s homes a done m f w = tt
  indices_fit s homes a (index e rest) m f w =
      (test_fit s homes a e m.0 f.0 w.0, indices_fit s homes a rest m.1 f.1 w.1)
  indices_fit s homes a (member name rest) m f w = absurd f

  -- ---- assignments
  set_fit : (s : S.Scope) (homes : Homes) → Agrees s homes → (n : ℕ)
      (accessors : Accessors Meant) (e : Expr Meant) → s.seen n ≡ true
      → AreIndicesMeant s accessors → AreCallsMeant s e → AreFreeIndices functions accessors
      → IsFreeExpr functions e → IsWantedFit record { want = Whole; expr = e }
      → AllByRecursion IsWantedFit (numbers_wanted (indices_of accessors))
      → F.same_shape (F.place_shape dims (meant.Variable n) (indices_count accessors))
      (F.shape_in dims Whole e) ≡ true → n < total → SetFits Free g homes n accessors e
  set_fit s homes a n accessors e seen mi me fi fe w ws same may =
      let count : ℕ = indices_count accessors in
      let both = both_are (F.place_shape dims (meant.Variable n) count)
      (F.shape_in dims Whole e) same in
      let part : Part (dims n) count both.shape = left_is dims n count both.shape both.first in
      let home : HasDims homes n (dims n) = a.each n seen in
      let fit : IsFit functions keys dims s homes a.each e both.shape =
      fits_expr functions keys dims s homes a.each Whole e both.shape me fe both.second w.placed
      w.calls in
      record {
        home = home.home;
        found = home.found;
        value = fit.0;
        indices = indices_fit s homes a accessors mi fi ws;
        rank = omega (arith, part.rank, ap length home.is);
        shape = fit.1 ∙ part.is ∙ ap (drop count) (sym home.is);
        may = may;
      }

  plain_fit : (s : S.Scope) (homes : Homes) → Agrees s homes → s.variables ≤ total
      → (x : Assign Meant) → IsAssignMeant s x → IsFreeAssign functions x
      → AllByRecursion IsWantedFit (plain_wanted x) → IsAssignFit x → PlainFits Free g homes x
  plain_fit s homes a le (Set name m accessors e) h f w q =
      of_variable
      (λ m. IsAssignMeant s (Set name m accessors e) → IsAssignFit (Set name m accessors e)
      → PlaceSetFits Free g homes m accessors e)
      (λ n h q. set_fit s homes a n accessors e h.0 h.1 h.2 f.1 f.2 w.0 w.1 q
      (omega (arith, le, a.below n h.0)))
      m f.0 h q
  plain_fit s homes a le (Compound name m accessors op e) h f w q = cc
  plain_fit s homes a le (Left name m accessors arrow e) h f w q = cc
  plain_fit s homes a le (Increment name m accessors) h f w q = cc
  plain_fit s homes a le (Decrement name m accessors) h f w q = cc

  assign_fit : (s : S.Scope) (homes : Homes) → Agrees s homes → s.variables ≤ total
      → (x : Assign Meant) → IsAssignMeant s x → IsFreeAssign functions x
      → AllByRecursion IsWantedFit (assign_wanted x) → IsAssignFit (plain x)
      → AssignFits Free g homes x
  assign_fit s homes a le x h f w q =
      plain_fit s homes a le (plain x) (plain_meant functions s x f h) (plain_free functions x f)
      w q

  -- ---- declarations
  dims_fit : (s : S.Scope) (homes : Homes) → Agrees s homes → (es : Exprs Meant)
      → AreAllMeant s es → AreFree functions es
      → AllByRecursion IsWantedFit (numbers_wanted (list_of es))
      → AllByRecursion IsWritten (list_of es) → DimsFit g homes es
  dims_fit s homes a none m f w l = tt
  dims_fit s homes a (more e es) m f w l = (
    test_fit s homes a e m.0 f.0 w.0,
    known_number (literal_number e) l.0,
    dims_fit s homes a es m.1 f.1 w.1 l.1,
  )

  value_fit : (s : S.Scope) (homes : Homes) → Agrees s homes → (n : ℕ) (v : Declared Meant)
      (o : Option (Expr Meant)) → s.seen n ≡ true → n < total → v.meant ≡ meant.Variable n
      → IsOptionMeant s o → IsFreeOption functions o
      → AllByRecursion IsWantedFit (value_wanted o) → F.value_fits dims v o ≡ true
      → ValueFits Free g homes v.meant o
  value_fit s homes a n v None seen may is m f w q = tt
  value_fit s homes a n v (Some e) seen may is m f w q =
      subst (λ x. PlaceSetFits Free g homes x done e) (sym is)
      (set_fit s homes a n done e seen tt m tt f w.0 tt
      (subst (λ x. F.same_shape (F.place_shape dims x 0) (F.shape_in dims Whole e) ≡ true) is q)
      may)

  variable_fit : (s : S.Scope) (sc : L.Scope) → Agrees s sc.homes → s.variables + 1 ≤ total
      → (v : Declared Meant) → IsVariableScoped s v → IsFreeVariable functions v
      → AllByRecursion IsWantedFit (variable_wanted v) → IsVariableFit v
      → DeclaredFits Free g sc v v.meant
  variable_fit s sc a le v m f w q =
      let n : ℕ = s.variables in
      let ds : List ℕ = known_dims g v in
      let size : dims n ≡ ds = q.size n m.0 in
      subst (λ x. DeclaredFits Free g sc v x) (sym m.0) record {
        dims = dims_fit s sc.homes a v.dimensions m.1 f.1
            (all_front IsWantedFit (numbers_wanted (list_of v.dimensions))
            (value_wanted v.value) w)
            q.written;
        fresh = a.fresh n (omega arith);
        small = subst (λ x. is_too_large x ≡ false) size (small n);
        may = omega (arith, le);
        value = value_fit (S.with_variable s) (L.with_variable n ds sc).homes
            (agrees_variable s sc ds a size) n v v.value
            (or_left (n == n) (s.seen n) (eq-eqb n n refl))
            (omega (arith, le)) m.0 m.2 f.2
            (all_back IsWantedFit (numbers_wanted (list_of v.dimensions))
            (value_wanted v.value) w)
            q.value;
      }

  variables_fit : (vs : List (Declared Meant)) (s : S.Scope) (sc : L.Scope)
      → Agrees s sc.homes → (with_variables s vs).variables ≤ total → AreVariablesScoped s vs
      → AllByRecursion (IsFreeVariable functions) vs
      → AllByRecursion IsWantedFit (flat_map variable_wanted vs)
      → AllByRecursion IsVariableFit vs
      → VariablesFit Free g sc vs × Agrees (with_variables s vs) (variables_scope g sc vs).homes
  variables_fit [] s sc a le m f w q = (tt, a)
  variables_fit (v ∷ vs) s sc a le m f w q =
      let more : s.variables + 1 ≤ (with_variables (S.with_variable s) vs).variables =
      variables_grow vs (S.with_variable s) in
      let scope_is : variable_scope g sc v ≡ L.with_variable s.variables (known_dims g v) sc =
      ap (declared_scope g sc v) m.0.0 in
      let next : Agrees (S.with_variable s) (variable_scope g sc v).homes =
      subst (λ z. Agrees (S.with_variable s) z.homes) (sym scope_is)
      (agrees_variable s sc (known_dims g v) a (q.0.size s.variables m.0.0)) in
      let rest = variables_fit vs (S.with_variable s) (variable_scope g sc v) next le m.1 f.1
      (all_back IsWantedFit (variable_wanted v) (flat_map variable_wanted vs) w) q.1 in (
        (
          variable_fit s sc a (omega (arith, more, le)) v m.0 f.0
              (all_front IsWantedFit (variable_wanted v) (flat_map variable_wanted vs) w) q.0,
          rest.0,
        ),
        rest.1,
      )

  -- ---- statements
  first_fit : (x : First Meant) (s : S.Scope) (sc : L.Scope) → Agrees s sc.homes
      → (behind_first s x).variables ≤ total → IsFirstScoped s x → IsFreeFirst functions x
      → AllByRecursion IsWantedFit (first_wanted x)
      → AllByRecursion IsAssignFit (first_assigns x)
      → AllByRecursion IsVariableFit (first_variables x)
      → FirstFits Free g sc x × Agrees (behind_first s x) (first_scope g sc x).homes
  first_fit (FirstVars vs) s sc a le m f w q v = variables_fit vs s sc a le m f w v
  first_fit (FirstAssign x) s sc a le m f w q v = (assign_fit s sc.homes a le x m f w q.0, a)

  simple_fit : (spot : Spot) (x : Simple Meant) (s : S.Scope) (sc : L.Scope)
      → Agrees s sc.homes → (behind_simple s x).variables ≤ total → IsSimpleScoped s x
      → IsFreeSimple functions x → AllByRecursion IsWantedFit (simple_wanted x)
      → AllByRecursion IsAssignFit (simple_assigns x)
      → AllByRecursion IsVariableFit (simple_variables x)
      → SimpleFits Free g sc x
      × Agrees (behind_simple s x) (scope_behind g sc (Ended spot x)).homes
  simple_fit spot (Vars vs) s sc a le m f w q v = variables_fit vs s sc a le m f w v
  simple_fit spot (Signals d xs) s sc a le m f w q v = absurd f
  simple_fit spot (Components cs) s sc a le m f w q v = absurd f
  simple_fit spot (Created name x e) s sc a le m f w q v = absurd f
  simple_fit spot (Assigned x) s sc a le m f w q v =
      (assign_fit s sc.homes a le x m f w q.0, a)
  simple_fit spot (Constrain x y) s sc a le m f w q v = absurd f
  simple_fit spot (Right e arrow name x accessors) s sc a le m f w q v = absurd f
  simple_fit spot (TargetLeft target arrow source) s sc a le m f w q v = absurd f
  simple_fit spot (TargetRight source arrow target) s sc a le m f w q v = absurd f
  simple_fit spot (Alone parallel name x arguments inputs) s sc a le m f w q v = absurd f

  mutual
    statement_fit : (x : Statement Spot Meant) (s : S.Scope) (sc : L.Scope)
        → Agrees s sc.homes → (behind s x).variables ≤ total → MayRun s x → IsFree functions x
        → AllByRecursion IsWantedFit (wanted_in x)
        → AllByRecursion IsAssignFit (assigns_in x)
        → AllByRecursion IsVariableFit (variables_in x)
        → AllByRecursion IsNumber (returned_in x)
        → StatementFits Free (Unit {0}) g sc x
        × Agrees (behind s x) (scope_behind g sc x).homes
    statement_fit (Block spot ss) s sc a le m f w q v r = (
      statements_fit ss s sc a le m f w q v r,
      agrees_closed s (behind_all s ss) sc.homes a (all_grow functions ss s f),
    )
    statement_fit (If spot c x) s sc a le m f w q v r = (
      (
        test_fit s sc.homes a c m.0 f.0 w.0,
        (statement_fit x s sc a le m.1 f.1 w.1 q v r).0,
      ),
      agrees_closed s (behind s x) sc.homes a (grows functions x s f.1),
    )
    statement_fit (IfElse spot c x y) s sc a le m f w q v r =
        let middle : S.Scope = closed s (behind s x) in
        let first_more = grows functions x s f.1 in
        let second_more = grows functions y middle f.2 in
        let between : Agrees middle sc.homes =
        agrees_closed s (behind s x) sc.homes a first_more in (
          (
            test_fit s sc.homes a c m.0 f.0 w.0,
            (statement_fit x s sc a (omega (arith, second_more, le)) m.1 f.1
                (all_front IsWantedFit (wanted_in x) (wanted_in y) w.1)
                (all_front IsAssignFit (assigns_in x) (assigns_in y) q)
                (all_front IsVariableFit (variables_in x) (variables_in y) v)
                (all_front IsNumber (returned_in x) (returned_in y) r)).0,
            (statement_fit y middle sc between le m.2 f.2
                (all_back IsWantedFit (wanted_in x) (wanted_in y) w.1)
                (all_back IsAssignFit (assigns_in x) (assigns_in y) q)
                (all_back IsVariableFit (variables_in x) (variables_in y) v)
                (all_back IsNumber (returned_in x) (returned_in y) r)).0,
          ),
          agrees_closed s (behind middle y) sc.homes a (omega (arith, first_more, second_more)),
        )
    statement_fit (While spot c x) s sc a le m f w q v r = (
      (
        test_fit s sc.homes a c m.0 f.0 w.0,
        (statement_fit x s sc a le m.1 f.1 w.1 q v r).0,
      ),
      agrees_closed s (behind s x) sc.homes a (grows functions x s f.1),
    )
    statement_fit (For spot first_spot x c step_spot y body) s sc a le m f w q v r =
        let inner : S.Scope = behind_first s x in
        let scope : L.Scope = first_scope g sc x in
        let first_more = first_grows x s in
        let body_more = grows functions body inner f.3 in
        let behind_w = all_back IsWantedFit (first_wanted x)
        (record { want = Scalar; expr = c } ∷ (wanted_in body ++ assign_wanted y)) w in
        let behind_q = all_back IsAssignFit (first_assigns x)
        (assigns_in body ++ plain y ∷ []) q in
        let head = first_fit x s sc a (omega (arith, body_more, le)) m.0 f.0
        (all_front IsWantedFit (first_wanted x)
        (record { want = Scalar; expr = c } ∷ (wanted_in body ++ assign_wanted y)) w)
        (all_front IsAssignFit (first_assigns x) (assigns_in body ++ plain y ∷ []) q)
        (all_front IsVariableFit (first_variables x) (variables_in body) v) in
        let turn = statement_fit body inner scope head.1 le m.2 f.3
        (all_front IsWantedFit (wanted_in body) (assign_wanted y) behind_w.1)
        (all_front IsAssignFit (assigns_in body) (plain y ∷ []) behind_q)
        (all_back IsVariableFit (first_variables x) (variables_in body) v) r in (
          (
            head.0,
            test_fit inner scope.homes head.1 c m.1 f.1 behind_w.0,
            turn.0,
            assign_fit (behind inner body) (scope_behind g scope body).homes turn.1 le y m.3 f.2
                (all_back IsWantedFit (wanted_in body) (assign_wanted y) behind_w.1)
                (all_back IsAssignFit (assigns_in body) (plain y ∷ []) behind_q).0,
          ),
          agrees_closed s (behind inner body) sc.homes a (omega (arith, first_more, body_more)),
        )
    statement_fit (Return spot e) s sc a le m f w q v r =
        let o = is_given (F.shape_in dims Whole e) w.0.shape in
        let number : o.shape ≡ [] = r.0 o.shape o.is in
        let fit : IsFit functions keys dims s sc.homes a.each e o.shape =
        fits_expr functions keys dims s sc.homes a.each Whole e o.shape m f o.is w.0.placed
        w.0.calls in
        ((tt, (fit.0, fit.1 ∙ number)), a)
    statement_fit (Assert spot e) s sc a le m f w q v r =
        (test_fit s sc.homes a e m f w.0, a)
    statement_fit (Log spot arguments) s sc a le m f w q v r = absurd f
    statement_fit (Ended spot x) s sc a le m f w q v r =
        simple_fit spot x s sc a le m f w q v

    pub statements_fit : (xs : Statements Spot Meant) (s : S.Scope) (sc : L.Scope)
        → Agrees s sc.homes → (behind_all s xs).variables ≤ total → AllMayRun s xs
        → AreFreeStatements functions xs
        → AllByRecursion IsWantedFit (all_wanted xs)
        → AllByRecursion IsAssignFit (all_assigns xs)
        → AllByRecursion IsVariableFit (all_variables xs)
        → AllByRecursion IsNumber (all_returned xs)
        → StatementsFit Free (Unit {0}) g sc xs
    statements_fit empty s sc a le m f w q v r = tt
    statements_fit (then_more x xs) s sc a le m f w q v r =
        let more = all_grow functions xs (behind s x) f.1 in
        let one = statement_fit x s sc a (omega (arith, more, le)) m.0 f.0
        (all_front IsWantedFit (wanted_in x) (all_wanted xs) w)
        (all_front IsAssignFit (assigns_in x) (all_assigns xs) q)
        (all_front IsVariableFit (variables_in x) (all_variables xs) v)
        (all_front IsNumber (returned_in x) (all_returned xs) r) in (
          one.0,
          statements_fit xs (behind s x) (scope_behind g sc x) one.1 le m.1 f.1
              (all_back IsWantedFit (wanted_in x) (all_wanted xs) w)
              (all_back IsAssignFit (assigns_in x) (all_assigns xs) q)
              (all_back IsVariableFit (variables_in x) (all_variables xs) v)
              (all_back IsNumber (returned_in x) (all_returned xs) r),
        )
