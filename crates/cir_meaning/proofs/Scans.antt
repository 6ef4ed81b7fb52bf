-- What each single step of a scan keeps, where it declares certain variables alone, the whole scan
-- keeps.
use Rattle.std.proofs.Common.{◌≡◌, ℕ, true, List, [], ◌∷◌, ◌++◌, Bool, false, Option, Some, None}
use Rattle.std.proofs.Common.{refl, sym, subst}
use Rattle.std.specs.Prelude.{⊤, ◌==◌, ◌||◌}
use Rattle.std.specs.List.{list_any}
use Rattle.std.proofs.lemmas.Bool.{eq-eqb}
use Rattle.cir_ast.specs.declared.program.Spot.{Spot}
use Rattle.cir_ast.specs.declared.program.Meant.{Meant}
use Rattle.cir_ast.specs.declared.program.Meant.TheVariants as meant
use Rattle.cir_ast.specs.declared.refusal.Kind.TheVariants.{ShapeDiffers}
use Rattle.cir_ast.specs.Tree.{Expr, Accessors, done, Variable, Assign, Set, Compound, Left}
use Rattle.cir_ast.specs.Tree.{Increment, Decrement, First, FirstVars, FirstAssign, Simple, Vars}
use Rattle.cir_ast.specs.Tree.{Signals, Declared, Created, Assigned, Constrain, Right, TargetLeft}
use Rattle.cir_ast.specs.Tree.{TargetRight, Alone, Statement, Block, If, IfElse, While, For, Return}
use Rattle.cir_ast.specs.Tree.{Assert, Log, Ended, Statements, empty, then_more}
use Rattle.cir_meaning.specs.Tried.{Where, Tried, next}
use Rattle.cir_meaning.specs.Arrays.{Whole, reach, same_dims}
use Rattle.cir_meaning.specs.Frame.{State, Context, variable_at}
use Rattle.cir_meaning.specs.Evaluate.{value_in, dims_in}
use Rattle.cir_meaning.specs.Writing.{plain}
use Rattle.cir_meaning.specs.Simple as simple
use Rattle.cir_meaning.specs.Unknown.{variable_of, vars_declare, first_declares, simple_declares}
use Rattle.cir_meaning.specs.Unknown.{declares, all_declares}
use Rattle.cir_meaning.specs.Scan.{scan_test, scan_set, scan_plain, scan_assign, scan_value}
use Rattle.cir_meaning.specs.Scan.{scan_declared, scan_meant, scan_variable, scan_first}
use Rattle.cir_meaning.specs.Scan.{scan_simple, scan, scan_all}
use Rattle.cir_meaning.proofs.Good.{OnGood, good_ok, good_bad, good_next, good_on, good_needed}
use Rattle.cir_meaning.proofs.Good.{good_weaker}
use Rattle.cir_meaning.proofs.ValueKeepings.{Valued, scalar_kept, dims_kept, indices_kept}
use Rattle.cir_meaning.proofs.Likes.{CallKeeps, Like, value_like, like_itself}

-- one of two lists
pub any_left : {A : Type 0} (test : A → Bool) (xs ys : List A) → list_any test xs ≡ true
    → list_any test (xs ++ ys) ≡ true
any_left test [] ys h = cc
any_left test (x ∷ xs) ys h = at (test x) h (any_left test xs ys)
  where
    at : (b : Bool) → (b || list_any test xs) ≡ true
        → (list_any test xs ≡ true → list_any test (xs ++ ys) ≡ true)
        → (b || list_any test (xs ++ ys)) ≡ true
    at true g i = refl
    at false g i = i g

pub any_right : {A : Type 0} (test : A → Bool) (xs ys : List A) → list_any test ys ≡ true
    → list_any test (xs ++ ys) ≡ true
any_right test [] ys h = h
any_right test (x ∷ xs) ys h = at (test x) (any_right test xs ys h)
  where
    at : (b : Bool) → list_any test (xs ++ ys) ≡ true → (b || list_any test (xs ++ ys)) ≡ true
    at true g = refl
    at false g = g

-- all of these numbers may be declared
abbrev pub AllMay : (ℕ → Type 0) → List ℕ → Type 0
AllMay May ns = (n : ℕ) → list_any (λ m. m == n) ns ≡ true → May n

pub may_left : (May : ℕ → Type 0) (xs ys : List ℕ) → AllMay May (xs ++ ys) → AllMay May xs
may_left May xs ys h n e = h n (any_left (λ m. m == n) xs ys e)

pub may_right : (May : ℕ → Type 0) (xs ys : List ℕ) → AllMay May (xs ++ ys) → AllMay May ys
may_right May xs ys h n e = h n (any_right (λ m. m == n) xs ys e)

pub may_any : (ns : List ℕ) → AllMay (λ n. ⊤) ns
may_any ns n e = tt

pub may_one : (May : ℕ → Type 0) (m : Meant) (n : ℕ) → m ≡ meant.Variable n
    → AllMay May (variable_of m) → May n
may_one May m n e h =
    h n (subst (λ x. list_any (λ i. i == n) (variable_of x) ≡ true) (sym e) (itself n))
  where
    itself : (n : ℕ) → ((n == n) || false) ≡ true
    itself n = subst (λ b. (b || false) ≡ true) (sym (eq-eqb n n refl)) refl

-- what evaluation keeps
pub like_valued : (k : Context) → CallKeeps k.call → (Q : State → Type 0)
    → ((f s : State) → Like f s → Q f → Q s) → (shaded : Bool) → Valued k Q shaded
like_valued k keeps Q like shaded w want e s h =
    good_weaker (λ x. Like s x.1) (λ x. Q x.1) (value_in k w shaded want e s)
    (value_like s k keeps w shaded want e s (like_itself s)) (λ x l. like s x.1 l h)

-- what evaluation and declarations keep is kept by a scan
module _ (k : Context) (Q : State → Type 0) (value : Valued k Q true) (May : ℕ → Type 0)
    (declare : (n : ℕ) (dims : List ℕ) (s : State) → May n → Q s → Q (scan_declared n dims s)) where
  abbrev pub Keeps : (State → Tried State) → Type 0
  Keeps go = (s : State) → Q s → OnGood Q (go s)

  then_kept : (m : Tried State) (go : State → Tried State) → OnGood Q m → Keeps go
      → OnGood Q (next m go)
  then_kept m go h g = good_next Q Q m go h g

  pub test_kept : (w : Where) (e : Expr Meant) → Keeps (scan_test k w e)
  test_kept w e s h =
      scalar_kept k Q true value Q w e s _ h (λ x s1 g. good_ok Q s1 g)

  pub set_kept : (w : Where) (m : Meant) (accessors : Accessors Meant) (e : Expr Meant)
      → Keeps (scan_set k w m accessors e)
  set_kept w (meant.Variable n) accessors e s h =
      good_next (λ x. Q x.1) Q (value_in k w true Whole e s) _ (value w Whole e s h) (λ x f.
      indices_kept k Q true value Q w [] accessors x.1 _ f (λ indices rest s2 g.
      good_on Q (reach w true Whole (variable_at s2.frame n).dims indices) _ (λ r.
      good_needed Q (same_dims r.left x.0.dims) w ShapeDiffers _
      (good_ok Q s2 g))))
  set_kept w meant.Other accessors e s h = good_bad Q _
  set_kept w (meant.Signal direction n) accessors e s h = good_bad Q _
  set_kept w (meant.Component n) accessors e s h = good_bad Q _
  set_kept w (meant.Template n) accessors e s h = good_bad Q _
  set_kept w (meant.Function n) accessors e s h = good_bad Q _

  pub plain_kept : (w : Where) (a : Assign Meant) → Keeps (scan_plain k w a)
  plain_kept w (Set name m accessors e) s h = set_kept w m accessors e s h
  plain_kept w (Left name m accessors arrow e) s h = good_bad Q _
  plain_kept w (Compound name m accessors op e) s h = good_bad Q _
  plain_kept w (Increment name m accessors) s h = good_bad Q _
  plain_kept w (Decrement name m accessors) s h = good_bad Q _

  pub value_kept : (w : Where) (m : Meant) (value : Option (Expr Meant))
      → Keeps (scan_value k w m value)
  value_kept w m None s h = good_ok Q s h
  value_kept w m (Some e) s h = set_kept w m done e s h

  meant_kept : (w : Where) (m : Meant) (go : ℕ → Tried State)
      → ((n : ℕ) → m ≡ meant.Variable n → OnGood Q (go n)) → OnGood Q (scan_meant w m go)
  meant_kept w (meant.Variable n) go h = h n refl
  meant_kept w meant.Other go h = good_bad Q _
  meant_kept w (meant.Signal direction n) go h = good_bad Q _
  meant_kept w (meant.Component n) go h = good_bad Q _
  meant_kept w (meant.Template n) go h = good_bad Q _
  meant_kept w (meant.Function n) go h = good_bad Q _

  pub variable_kept : (w : Where) (v : Variable Meant) → AllMay May (variable_of v.meant)
      → Keeps (scan_variable k w v)
  variable_kept w v may s h =
      meant_kept w v.meant _ (λ n is.
      good_next (λ x. Q x.1) Q (dims_in k w true v.dimensions s) _
      (dims_kept k Q true value w v.dimensions s h) (λ x f.
      value_kept w v.meant v.value (scan_declared n x.0 x.1)
      (declare n x.0 x.1 (may_one May v.meant n is may) f)))

  pub variables_kept : (w : Where) (vs : List (Variable Meant)) → AllMay May (vars_declare vs)
      → Keeps (simple.each (scan_variable k w) vs)
  variables_kept w [] may s f = good_ok Q s f
  variables_kept w (v ∷ vs) may s f =
      then_kept (scan_variable k w v s) (simple.each (scan_variable k w) vs)
      (variable_kept w v (may_left May (variable_of v.meant) (vars_declare vs) may) s f)
      (variables_kept w vs (may_right May (variable_of v.meant) (vars_declare vs) may))

  pub first_kept : (w : Where) (f : First Meant) → AllMay May (first_declares f)
      → Keeps (scan_first k w f)
  first_kept w (FirstVars vs) may s h = variables_kept w vs may s h
  first_kept w (FirstAssign a) may s h = plain_kept w (plain a) s h

  pub simple_kept : (w : Where) (x : Simple Meant) → AllMay May (simple_declares x)
      → Keeps (scan_simple k w x)
  simple_kept w (Vars vs) may s h = variables_kept w vs may s h
  simple_kept w (Assigned a) may s h = plain_kept w (plain a) s h
  simple_kept w (Signals direction ds) may s h = good_bad Q _
  simple_kept w (Declared cs) may s h = good_bad Q _
  simple_kept w (Created name m e) may s h = good_bad Q _
  simple_kept w (Constrain a b) may s h = good_bad Q _
  simple_kept w (Right e arrow name m accessors) may s h = good_bad Q _
  simple_kept w (TargetLeft target arrow source) may s h = good_bad Q _
  simple_kept w (TargetRight source arrow target) may s h = good_bad Q _
  simple_kept w (Alone parallel name m arguments inputs) may s h = good_bad Q _

  mutual
    pub scan_kept : (w : Where) (a : Statement Spot Meant) → AllMay May (declares a)
        → Keeps (scan k w a)
    scan_kept w (Block spot ss) may s h = scan_all_kept w ss may s h
    scan_kept w (If spot c a) may s h =
        then_kept (scan_test k w c s) (scan k w a) (test_kept w c s h)
        (λ s1 f. scan_kept w a may s1 f)
    scan_kept w (IfElse spot c a b) may s h =
        then_kept (scan_test k w c s) _ (test_kept w c s h)
        (λ s1 f. then_kept (scan k w a s1) (scan k w b)
        (scan_kept w a (may_left May (declares a) (declares b) may) s1 f)
        (λ s2 g. scan_kept w b (may_right May (declares a) (declares b) may) s2 g))
    scan_kept w (While spot c a) may s h =
        then_kept (scan_test k w c s) (scan k w a) (test_kept w c s h)
        (λ s1 f. scan_kept w a may s1 f)
    scan_kept w (For spot first_spot first c step_spot a body) may s h =
        then_kept (scan_first k w first s) _
        (first_kept w first (may_left May (first_declares first) (declares body) may) s h)
        (λ s1 f.
        then_kept (scan_test k w c s1) _ (test_kept w c s1 f) (λ s2 g.
        then_kept (scan k w body s2) (scan_assign k w a)
        (scan_kept w body (may_right May (first_declares first) (declares body) may) s2 g)
        (λ s3 i. plain_kept w (plain a) s3 i)))
    scan_kept w (Return spot e) may s h = good_bad Q _
    scan_kept w (Assert spot e) may s h = test_kept w e s h
    scan_kept w (Log spot arguments) may s h = good_bad Q _
    scan_kept w (Ended spot x) may s h = simple_kept w x may s h

    pub scan_all_kept : (w : Where) (ss : Statements Spot Meant) → AllMay May (all_declares ss)
        → Keeps (scan_all k w ss)
    scan_all_kept w empty may s h = good_ok Q s h
    scan_all_kept w (then_more a rest) may s h =
        then_kept (scan k w a s) (scan_all k w rest)
        (scan_kept w a (may_left May (declares a) (all_declares rest) may) s h)
        (λ s1 f. scan_all_kept w rest (may_right May (declares a) (all_declares rest) may) s1 f)
