-- A statement assigns and declares no variables but those that it lists.
use Rattle.std.proofs.Common.{◌≡◌, ℕ, Bool, true, false, List, [], ◌∷◌, ◌++◌, Option, Some, None}
use Rattle.std.proofs.Common.{refl, sym, subst}
use Rattle.std.specs.Prelude.{◌==◌, ◌||◌}
use Rattle.std.specs.List.{list_any}
use Rattle.std.proofs.lemmas.Bool.{eq-eqb, or_left, or_right}
use Rattle.cir_ast.specs.declared.program.Spot.{Spot}
use Rattle.cir_ast.specs.declared.program.Meant.{Meant}
use Rattle.cir_ast.specs.declared.program.Meant.TheVariants as meant
use Rattle.cir_ast.specs.Tree.{Expr, Accessors, done, Variable as Declared, Assign, Set, Compound}
use Rattle.cir_ast.specs.Tree.{Left, Increment, Decrement, First, FirstVars, FirstAssign, Simple}
use Rattle.cir_ast.specs.Tree.{Vars, Signals, Declared as DeclaredComponents, Created, Assigned}
use Rattle.cir_ast.specs.Tree.{Constrain, Right, TargetLeft, TargetRight, Alone, Statement, Block}
use Rattle.cir_ast.specs.Tree.{If, IfElse, While, For, Return, Assert, Log, Ended, Statements}
use Rattle.cir_ast.specs.Tree.{empty, then_more}
use Rattle.cir_meaning.specs.Unknown.{variable_of, assign_writes, first_writes, simple_writes}
use Rattle.cir_meaning.specs.Unknown.{writes, all_writes, vars_declare, first_declares}
use Rattle.cir_meaning.specs.Unknown.{simple_declares, declares, all_declares}
use Rattle.wit_lower.specs.Homes.{Homes, Scope, Ground}
use Rattle.wit_lower.specs.Known.{changes}
use Rattle.wit_lower.specs.Fits.{PlaceSetFits, AssignFits, ValueFits, DeclaredFits, VariablesFit}
use Rattle.wit_lower.specs.Fits.{FirstFits, SimpleFits, StatementFits, StatementsFit}
use Rattle.wit_lower.specs.Statements.{variable_scope, first_scope, scope_behind}

abbrev pub In : ℕ → List ℕ → Type 0
In n xs = list_any (λ m. m == n) xs ≡ true

pub in_front : (n : ℕ) (xs ys : List ℕ) → In n xs → In n (xs ++ ys)
in_front n [] ys e = cc
in_front n (x ∷ xs) ys e = at (λ h. in_front n xs ys h) (x == n) e
  where
    at : (In n xs → In n (xs ++ ys)) → (b : Bool) → (b || list_any (λ m. m == n) xs) ≡ true
        → (b || list_any (λ m. m == n) (xs ++ ys)) ≡ true
    at rest true h = refl
    at rest false h = rest h

pub in_back : (n : ℕ) (xs ys : List ℕ) → In n ys → In n (xs ++ ys)
in_back n [] ys e = e
in_back n (x ∷ xs) ys e = or_right (x == n) (list_any (λ m. m == n) (xs ++ ys)) (in_back n xs ys e)

pub in_one : (n : ℕ) → In n (n ∷ [])
in_one n = or_left (n == n) false (eq-eqb n n refl)

-- all of a list is listed
abbrev pub Are : List ℕ → List ℕ → Type 0
Are xs all = (n : ℕ) → In n xs → In n all

front : (xs ys all : List ℕ) → Are (xs ++ ys) all → Are xs all
front xs ys all are n e = are n (in_front n xs ys e)

back : (xs ys all : List ℕ) → Are (xs ++ ys) all → Are ys all
back xs ys all are n e = are n (in_back n xs ys e)

module _ (free : ℕ → Type 0) (Ends : Type 0) (g : Ground) (all : List ℕ) where
  abbrev Free : ℕ → Type 0
  Free n = free n × In n all

  set_listed : (homes : Homes) (m : Meant) (accessors : Accessors Meant) (e : Expr Meant)
      → Are (variable_of m) all → PlaceSetFits free g homes m accessors e
      → PlaceSetFits Free g homes m accessors e
  set_listed homes (meant.Variable n) accessors e are fits = record {
    home = fits.home;
    found = fits.found;
    value = fits.value;
    indices = fits.indices;
    rank = fits.rank;
    shape = fits.shape;
    may = (fits.may, are n (in_one n));
  }
  set_listed homes meant.Other accessors e are fits = absurd fits
  set_listed homes (meant.Signal d n) accessors e are fits = absurd fits
  set_listed homes (meant.Component n) accessors e are fits = absurd fits
  set_listed homes (meant.Template n) accessors e are fits = absurd fits
  set_listed homes (meant.Function n) accessors e are fits = absurd fits

  assign_listed : (homes : Homes) (a : Assign Meant) → Are (assign_writes a) all
      → AssignFits free g homes a → AssignFits Free g homes a
  assign_listed homes (Set name m accessors e) are fits = set_listed homes m accessors e are fits
  assign_listed homes (Compound name m accessors o e) are fits =
      set_listed homes m accessors _ are fits
  assign_listed homes (Left name m accessors arrow e) are fits = absurd fits
  assign_listed homes (Increment name m accessors) are fits =
      set_listed homes m accessors _ are fits
  assign_listed homes (Decrement name m accessors) are fits =
      set_listed homes m accessors _ are fits

  value_listed : (homes : Homes) (m : Meant) (value : Option (Expr Meant))
      → Are (variable_of m) all → ValueFits free g homes m value → ValueFits Free g homes m value
  value_listed homes m None are fits = tt
  value_listed homes m (Some e) are fits = set_listed homes m done e are fits

  declared_listed : (s : Scope) (v : Declared Meant) (m : Meant) → v.meant ≡ m
      → Are (variable_of v.meant) all → DeclaredFits free g s v m → DeclaredFits Free g s v m
  declared_listed s v (meant.Variable n) same are fits = record {
    dims = fits.dims;
    fresh = fits.fresh;
    small = fits.small;
    may = (
      fits.may,
      are n (subst (λ z. In n (variable_of z)) (sym same) (in_one n)),
    );
    value = value_listed _ v.meant v.value are fits.value;
  }
  declared_listed s v meant.Other same are fits = absurd fits
  declared_listed s v (meant.Signal d n) same are fits = absurd fits
  declared_listed s v (meant.Component n) same are fits = absurd fits
  declared_listed s v (meant.Template n) same are fits = absurd fits
  declared_listed s v (meant.Function n) same are fits = absurd fits

  variables_listed : (s : Scope) (vs : List (Declared Meant)) → Are (vars_declare vs) all
      → VariablesFit free g s vs → VariablesFit Free g s vs
  variables_listed s [] are fits = tt
  variables_listed s (v ∷ vs) are (fits, rest) = (
    declared_listed s v v.meant refl (front (variable_of v.meant) (vars_declare vs) all are) fits,
    variables_listed (variable_scope g s v) vs
        (back (variable_of v.meant) (vars_declare vs) all are) rest,
  )

  first_listed : (s : Scope) (x : First Meant) → Are (first_writes x) all
      → Are (first_declares x) all → FirstFits free g s x → FirstFits Free g s x
  first_listed s (FirstVars vs) w d fits = variables_listed s vs d fits
  first_listed s (FirstAssign a) w d fits = assign_listed s.homes a w fits

  simple_listed : (s : Scope) (x : Simple Meant) → Are (simple_writes x) all
      → Are (simple_declares x) all → SimpleFits free g s x → SimpleFits Free g s x
  simple_listed s (Vars vs) w d fits = variables_listed s vs d fits
  simple_listed s (Assigned a) w d fits = assign_listed s.homes a w fits
  simple_listed s (Signals direction ds) w d fits = absurd fits
  simple_listed s (DeclaredComponents cs) w d fits = absurd fits
  simple_listed s (Created name m e) w d fits = absurd fits
  simple_listed s (Constrain a b) w d fits = absurd fits
  simple_listed s (Right e arrow name m accessors) w d fits = absurd fits
  simple_listed s (TargetLeft t arrow x) w d fits = absurd fits
  simple_listed s (TargetRight x arrow t) w d fits = absurd fits
  simple_listed s (Alone parallel name m arguments inputs) w d fits = absurd fits

  mutual
    pub statement_listed : (s : Scope) (a : Statement Spot Meant) → Are (writes a) all
        → Are (declares a) all → StatementFits free Ends g s a → StatementFits Free Ends g s a
    statement_listed s (Block spot ss) w d fits = statements_listed s ss w d fits
    statement_listed s (If spot c a) w d (fc, fa) = (fc, statement_listed s a w d fa)
    statement_listed s (IfElse spot c a b) w d (fc, fa, fb) = (
      fc,
      statement_listed s a (front (writes a) (writes b) all w)
          (front (declares a) (declares b) all d) fa,
      statement_listed s b (back (writes a) (writes b) all w)
          (back (declares a) (declares b) all d) fb,
    )
    statement_listed s (While spot c a) w d (fc, fa) = (fc, statement_listed s a w d fa)
    statement_listed s (For spot first_spot x c step_spot a body) w d (fx, fc, fb, fa) =
        let more : Are (assign_writes a ++ writes body) all =
        back (first_writes x) (assign_writes a ++ writes body) all w in (
          first_listed s x (front (first_writes x) (assign_writes a ++ writes body) all w)
              (front (first_declares x) (declares body) all d) fx,
          fc,
          statement_listed (first_scope g s x) body (back (assign_writes a) (writes body) all more)
              (back (first_declares x) (declares body) all d) fb,
          assign_listed (scope_behind g (first_scope g s x) body).homes a
              (front (assign_writes a) (writes body) all more) fa,
        )
    statement_listed s (Return spot e) w d fits = fits
    statement_listed s (Assert spot e) w d fits = fits
    statement_listed s (Log spot arguments) w d fits = absurd fits
    statement_listed s (Ended spot x) w d fits = simple_listed s x w d fits

    statements_listed : (s : Scope) (ss : Statements Spot Meant) → Are (all_writes ss) all
        → Are (all_declares ss) all → StatementsFit free Ends g s ss
        → StatementsFit Free Ends g s ss
    statements_listed s empty w d fits = tt
    statements_listed s (then_more a rest) w d (fa, fr) = (
      statement_listed s a (front (writes a) (all_writes rest) all w)
          (front (declares a) (all_declares rest) all d) fa,
      statements_listed (scope_behind g s a) rest (back (writes a) (all_writes rest) all w)
          (back (declares a) (all_declares rest) all d) fr,
    )

-- an assignment, or a statement that may read what it has changed
module _ (P : Statement Spot Meant → Type 0)
    (assigns : (spot : Spot) (a : Assign Meant) → P (Ended spot (Assigned a)))
    (others : (a : Statement Spot Meant) → changes a ≡ writes a ++ declares a → P a) where
  pub by_changes : (a : Statement Spot Meant) → P a
  by_changes (Block spot ss) = others (Block spot ss) refl
  by_changes (If spot c a) = others (If spot c a) refl
  by_changes (IfElse spot c a b) = others (IfElse spot c a b) refl
  by_changes (While spot c a) = others (While spot c a) refl
  by_changes (For spot first_spot x c step_spot a body) =
      others (For spot first_spot x c step_spot a body) refl
  by_changes (Return spot e) = others (Return spot e) refl
  by_changes (Assert spot e) = others (Assert spot e) refl
  by_changes (Log spot arguments) = others (Log spot arguments) refl
  by_changes (Ended spot (Assigned a)) = assigns spot a
  by_changes (Ended spot (Vars vs)) = others (Ended spot (Vars vs)) refl
  by_changes (Ended spot (Signals direction ds)) = others (Ended spot (Signals direction ds)) refl
  by_changes (Ended spot (DeclaredComponents cs)) =
      others (Ended spot (DeclaredComponents cs)) refl
  by_changes (Ended spot (Created name m e)) = others (Ended spot (Created name m e)) refl
  by_changes (Ended spot (Constrain a b)) = others (Ended spot (Constrain a b)) refl
  by_changes (Ended spot (Right e arrow name m accessors)) =
      others (Ended spot (Right e arrow name m accessors)) refl
  by_changes (Ended spot (TargetLeft t arrow x)) = others (Ended spot (TargetLeft t arrow x)) refl
  by_changes (Ended spot (TargetRight x arrow t)) = others (Ended spot (TargetRight x arrow t)) refl
  by_changes (Ended spot (Alone parallel name m arguments inputs)) =
      others (Ended spot (Alone parallel name m arguments inputs)) refl
