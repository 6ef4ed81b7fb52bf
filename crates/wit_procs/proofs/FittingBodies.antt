-- The body of a function that keeps the rules fits, behind its parameters.
use Rattle.std.proofs.Common.{◌≡◌, ◌∙◌, ℕ, zero, suc, ◌+◌, ◌-◌, ◌<◌, ◌≤◌, List, [], ◌∷◌, ◌++◌}
use Rattle.std.proofs.Common.{length, refl, ap, sym, subst, arith, length-append}
use Rattle.std.specs.Prelude.{◌==◌, Bool, true, false, not, ◌&&◌, ◌||◌, if◌then◌else◌, nat_lt, map}
use Rattle.std.specs.Prelude.{flat_map, Option, Some, None, is_some, is_none, unwrap_or, slice_get}
use Rattle.std.specs.Prelude.{option_map}
use Rattle.std.specs.List.{list_any, list_all, AllByRecursion}
use Rattle.std.proofs.lemmas.Bool.{or_parts, or_left, or_right, and_parts, eqb-true, eq-eqb, ne_eqb}
use Rattle.std.proofs.lemmas.Bool.{ltb-true, lt-ltb}
use Rattle.std.proofs.lemmas.List.{length-drop, length-map}
use Rattle.std.proofs.lemmas.Option.{slice_get-map, slice_get_past}
use Rattle.cir_ast.specs.declared.program.Spot.{Spot}
use Rattle.cir_ast.specs.declared.program.Meant.{Meant}
use Rattle.cir_ast.specs.declared.program.Meant.TheVariants as meant
use Rattle.cir_ast.specs.Program.{Function}
use Rattle.cir_ast.specs.Tree.{Expr, Number, Place, Call, Anonymous, Parentheses, Array, Unary}
use Rattle.cir_ast.specs.Tree.{Binary, Choice, none, more, Accessors, Variable as Declared, First}
use Rattle.cir_ast.specs.Tree.{FirstVars, FirstAssign, Simple, Vars, Signals}
use Rattle.cir_ast.specs.Tree.{Declared as Components, Created, Assigned, Constrain, Right}
use Rattle.cir_ast.specs.Tree.{TargetLeft, TargetRight, Alone, Statement, Block, If, IfElse, While}
use Rattle.cir_ast.specs.Tree.{For, Return, Assert, Log, Ended, Statements, empty, then_more}
use Rattle.cir_meaning.specs.Arrays.{Want, Scalar, Whole}
use Rattle.cir_meaning.specs.Costs.{Made}
use Rattle.cir_meaning.specs.Functions as F
use Rattle.cir_meaning.specs.Limits.{is_too_large}
use Rattle.cir_meaning.specs.Reached.{declaration_of, indices_count, rank_of, variable_rank}
use Rattle.cir_meaning.specs.Reached.{is_misplaced}
use Rattle.cir_meaning.specs.Scoped as S
use Rattle.cir_meaning.specs.Scoped.{AreVariablesScoped, IsFirstScoped, IsSimpleScoped}
use Rattle.cir_meaning.specs.Scoped.{with_variables, behind_first, behind_simple, closed, behind}
use Rattle.cir_meaning.specs.Scoped.{behind_all}
use Rattle.cir_meaning.specs.SignalFree.{IsFreeSimple, IsFree, AreFreeStatements}
use Rattle.cir_meaning.specs.Texts.{Wanted, list_of, calls_of, first_variables, simple_variables}
use Rattle.cir_meaning.specs.Texts.{variables_in, all_wanted, all_variables, all_returned}
use Rattle.cir_meaning.specs.Texts.{all_assigns, calls_in, literal_number}
use Rattle.cir_meaning.specs.Unknown.{variable_of}
use Rattle.wit_lower.specs.Homes as L
use Rattle.wit_lower.specs.Homes.{Homes}
use Rattle.wit_lower.specs.Procedures.{function_ground, arguments_scope, no_scope, AreSmall}
use Rattle.wit_lower.specs.Fits.{StatementsFit}
use Rattle.wit_procs.specs.Rules.{written_dims, is_small, is_plain, KeepsRules}
use Rattle.cir_scope.specs.Runnable.{MayRun, AllMayRun, body_scope, IsRunnable}
use Rattle.wit_procs.proofs.Given.{given_by, elements_given, EachShape, Literal, literal_given}
use Rattle.wit_procs.proofs.Given.{Left, left_is, fitting_is, number_shape, same_given}
use Rattle.wit_procs.proofs.FittingExprs.{HasCall, HaveCalls}
use Rattle.wit_procs.proofs.FittingStatements.{IsWantedFit, IsVariableFit, IsNumber, Agrees}
use Rattle.wit_procs.proofs.FittingStatements.{agrees_variable, statements_fit}

-- ---- declarations have numbers in a row
abbrev Numbered : ℕ → List (Declared Meant) → Type 0
Numbered k [] = Unit {0}
Numbered k (v ∷ vs) = (v.meant ≡ meant.Variable k) × Numbered (k + 1) vs

numbered_both : (k n : ℕ) (xs ys : List (Declared Meant)) → Numbered k xs → n ≡ k + length xs
    → Numbered n ys → Numbered k (xs ++ ys)
numbered_both k n [] ys h e rest =
    let same : n ≡ k = omega (arith, e) in subst (λ i. Numbered i ys) same rest
numbered_both k n (x ∷ xs) ys h e rest =
    (h.0, numbered_both (k + 1) n xs ys h.1 (omega (arith, e)) rest)

-- from a scope on, as many as it is behind them
record Counts (s after : S.Scope) (vs : List (Declared Meant)) : Type 0 where
  row : Numbered s.variables vs
  count : after.variables ≡ s.variables + length vs

no_more : (s : S.Scope) → Counts s s []
no_more s = record { row = tt; count = omega arith }

both : (s between after : S.Scope) (xs ys : List (Declared Meant)) → Counts s between xs
    → Counts between after ys → Counts s after (xs ++ ys)
both s between after xs ys h rest = record {
  row = numbered_both s.variables between.variables xs ys h.row h.count rest.row;
  count = omega (arith, h.count, rest.count, length-append xs ys);
}

vars_count : (vs : List (Declared Meant)) (s : S.Scope) → AreVariablesScoped s vs
    → Counts s (with_variables s vs) vs
vars_count [] s m = no_more s
vars_count (v ∷ vs) s m =
    let rest : Counts (S.with_variable s) (with_variables s (v ∷ vs)) vs =
    vars_count vs (S.with_variable s) m.1 in
    record { row = (m.0.0, rest.row); count = omega (arith, rest.count) }

first_counts : (f : First Meant) (s : S.Scope) → IsFirstScoped s f
    → Counts s (behind_first s f) (first_variables f)
first_counts (FirstVars vs) s m = vars_count vs s m
first_counts (FirstAssign a) s m = no_more s

simple_counts : (functions : ℕ) (x : Simple Meant) (s : S.Scope) → IsSimpleScoped s x
    → IsFreeSimple functions x → Counts s (behind_simple s x) (simple_variables x)
simple_counts functions (Vars vs) s m f = vars_count vs s m
simple_counts functions (Signals d xs) s m f = absurd f
simple_counts functions (Components cs) s m f = absurd f
simple_counts functions (Created name x e) s m f = absurd f
simple_counts functions (Assigned a) s m f = no_more s
simple_counts functions (Constrain a b) s m f = absurd f
simple_counts functions (Right e arrow name x accessors) s m f = absurd f
simple_counts functions (TargetLeft target arrow source) s m f = absurd f
simple_counts functions (TargetRight source arrow target) s m f = absurd f
simple_counts functions (Alone parallel name x arguments inputs) s m f = absurd f

left_block : (s around r : S.Scope) (vs : List (Declared Meant)) → Counts s r vs
    → Counts s (closed around r) vs
left_block s around r vs h = record { row = h.row; count = h.count }

from_block : (s around after : S.Scope) (vs : List (Declared Meant))
    → Counts (closed around s) after vs → Counts s after vs
from_block s around after vs h = record { row = h.row; count = h.count }

mutual
  counts : (functions : ℕ) (x : Statement Spot Meant) (s : S.Scope) → MayRun s x
      → IsFree functions x → Counts s (behind s x) (variables_in x)
  counts functions (Block spot ss) s m f =
      left_block s s (behind_all s ss) (all_variables ss) (all_count functions ss s m f)
  counts functions (If spot c a) s m f =
      left_block s s (behind s a) (variables_in a) (counts functions a s m.1 f.1)
  counts functions (IfElse spot c a b) s m f =
      let middle : S.Scope = closed s (behind s a) in
      left_block s s (behind middle b) (variables_in a ++ variables_in b)
      (both s (behind s a) (behind middle b) (variables_in a) (variables_in b)
      (counts functions a s m.1 f.1)
      (from_block (behind s a) s (behind middle b) (variables_in b)
      (counts functions b middle m.2 f.2)))
  counts functions (While spot c a) s m f =
      left_block s s (behind s a) (variables_in a) (counts functions a s m.1 f.1)
  counts functions (For spot first_spot first c step_spot a body) s m f =
      let inner : S.Scope = behind_first s first in
      left_block s s (behind inner body) (first_variables first ++ variables_in body)
      (both s inner (behind inner body) (first_variables first) (variables_in body)
      (first_counts first s m.0) (counts functions body inner m.2 f.3))
  counts functions (Return spot e) s m f = no_more s
  counts functions (Assert spot e) s m f = no_more s
  counts functions (Log spot arguments) s m f = absurd f
  counts functions (Ended spot x) s m f = simple_counts functions x s m f

  all_count : (functions : ℕ) (xs : Statements Spot Meant) (s : S.Scope) → AllMayRun s xs
      → AreFreeStatements functions xs → Counts s (behind_all s xs) (all_variables xs)
  all_count functions empty s m f = no_more s
  all_count functions (then_more x xs) s m f =
      both s (behind s x) (behind_all (behind s x) xs) (variables_in x) (all_variables xs)
      (counts functions x s m.0 f.0) (all_count functions xs (behind s x) m.1 f.1)

-- ---- so each is found by its number
abbrev IsDeclared : (ℕ → List (Expr Meant)) → Declared Meant → Type 0
IsDeclared found v =
    (n : ℕ) → v.meant ≡ meant.Variable n → found n ≡ list_of v.dimensions

abbrev variable_number : Meant → ℕ
variable_number (meant.Variable n) = n
variable_number _ = 0

are_declared : (found : ℕ → List (Expr Meant)) (k : ℕ) (vs : List (Declared Meant))
    → Numbered k vs → ((n : ℕ) → k ≤ n → found n ≡ declaration_of n vs)
    → AllByRecursion (IsDeclared found) vs
are_declared found k [] h same = tt
are_declared found k (v ∷ vs) h same = (
  λ n e.
      let is : n ≡ k = ap variable_number (sym e ∙ h.0) in
      same n (omega (arith, is)) ∙ chosen n (n == n) (eq-eqb n n refl)
      (ap (λ m. list_any (λ i. i == n) (variable_of m)) e),
  are_declared found (k + 1) vs h.1 (λ n le. same n (omega (arith, le))
      ∙ passed n (ne_eqb k n (λ e. absurd (omega (arith, e, le))))
      (ap (λ m. list_any (λ i. i == n) (variable_of m)) h.0)),
)
  where
    pick : (n : ℕ) → Bool → List (Expr Meant)
    pick n b = if b then list_of v.dimensions else declaration_of n vs

    chosen : (n : ℕ) (b : Bool) → b ≡ true
        → list_any (λ i. i == n) (variable_of v.meant) ≡ (b || false)
        → declaration_of n (v ∷ vs) ≡ list_of v.dimensions
    chosen n b t e = ap (λ c. pick n c) (e ∙ or_left b false t)

    passed : (n : ℕ) → (k == n) ≡ false
        → list_any (λ i. i == n) (variable_of v.meant) ≡ ((k == n) || false)
        → declaration_of n (v ∷ vs) ≡ declaration_of n vs
    passed n t e = ap (λ c. pick n c) (e ∙ ap (λ b. b || false) t)

-- ---- a rank is the number of dimensions
no_place : (dims : ℕ → List ℕ) (want : Want) (m : Meant) (accessors : Accessors Meant)
    (d : List ℕ) → F.place_shape dims m (indices_count accessors) ≡ None
    → F.with_shape (F.index_shapes dims accessors) (λ u. F.with_shape
    (F.place_shape dims m (indices_count accessors)) (F.if_fits want)) ≡ Some d → 0 ≡ length d
no_place dims want m accessors d is h =
    let one = given_by (F.index_shapes dims accessors)
    (λ u. F.with_shape (F.place_shape dims m (indices_count accessors)) (F.if_fits want)) d h in
    let two = given_by (F.place_shape dims m (indices_count accessors)) (F.if_fits want) d
    one.rest in
    absurd (never two.shape (sym is ∙ two.is))
  where
    never : (x : List ℕ) → None ≡ Some x → ⊥
    never x e = cc

rank_is : (dims : ℕ → List ℕ) (ranks : ℕ → ℕ) → ((n : ℕ) → ranks n ≡ length (dims n))
    → (want : Want) (e : Expr Meant) (d : List ℕ) → F.shape_in dims want e ≡ Some d
    → rank_of ranks e ≡ length d
rank_is dims ranks r want (Number n) d h = ap length (same_given [] d h)
rank_is dims ranks r want (Place name meant.Other accessors) d h =
    no_place dims want meant.Other accessors d refl h
rank_is dims ranks r want (Place name (meant.Variable n) accessors) d h =
    let count : ℕ = indices_count accessors in
    let one = given_by (F.index_shapes dims accessors)
    (λ u. F.with_shape (F.place_shape dims (meant.Variable n) count) (F.if_fits want)) d h in
    let two = given_by (F.place_shape dims (meant.Variable n) count) (F.if_fits want) d
    one.rest in
    let left : Left (dims n) count two.shape = left_is dims n count two.shape two.is in
    ap (λ k. k - count) (r n) ∙ sym (length-drop count (dims n)) ∙ ap length (sym left.is)
    ∙ ap length (fitting_is want two.shape d two.rest)
rank_is dims ranks r want (Place name (meant.Signal x n) accessors) d h =
    no_place dims want (meant.Signal x n) accessors d refl h
rank_is dims ranks r want (Place name (meant.Component n) accessors) d h =
    no_place dims want (meant.Component n) accessors d refl h
rank_is dims ranks r want (Place name (meant.Template n) accessors) d h =
    no_place dims want (meant.Template n) accessors d refl h
rank_is dims ranks r want (Place name (meant.Function n) accessors) d h =
    no_place dims want (meant.Function n) accessors d refl h
rank_is dims ranks r want (Call parallel name m arguments) d h =
    let one = given_by (F.shapes_fit dims arguments) (λ u. Some []) d h in
    ap length (same_given [] d one.rest)
rank_is dims ranks r want (Anonymous parallel name m arguments inputs) d h = cc
rank_is dims ranks r want (Parentheses e) d h = rank_is dims ranks r want e d h
rank_is dims ranks r want (Array none) d h = cc
rank_is dims ranks r want (Array (more e es)) d h =
    let one = elements_given dims (more e es)
    (λ shapes. F.with_shape (F.literal_shape shapes) (F.if_fits want)) d h in
    let literal : Literal one.shapes d = literal_given want one.shapes d one.rest in
    let each : EachShape dims (more e es) (literal.first ∷ literal.others) =
    subst (EachShape dims (more e es)) literal.are one.each in
    omega (
      arith,
      rank_is dims ranks r Whole e literal.first each.0,
      ap length literal.is,
    )
rank_is dims ranks r want (Unary op a) d h = ap length (sym (number_shape dims a d h))
rank_is dims ranks r want (Binary op a b) d h =
    let one = given_by (F.shape_in dims Scalar a) (λ u. F.shape_in dims Scalar b) d h in
    ap length (sym (number_shape dims b d one.rest))
rank_is dims ranks r want (Choice c a b) d h =
    let one = given_by (F.shape_in dims Scalar c)
    (λ u. F.with_shape (F.shape_in dims Scalar a) (λ v. F.shape_in dims Scalar b)) d h in
    let two = given_by (F.shape_in dims Scalar a) (λ v. F.shape_in dims Scalar b) d one.rest in
    ap length (sym (number_shape dims b d two.rest))

-- ---- facts of each one of a list
pub all_true : {A : Type 0} (test : A → Bool) (xs : List A) → list_all test xs ≡ true
    → AllByRecursion (λ x. test x ≡ true) xs
all_true test [] h = tt
all_true test (x ∷ xs) h =
    let parts = and_parts (test x) (list_all test xs) h in
    (parts.0, all_true test xs parts.1)

none_true : {A : Type 0} (test : A → Bool) (xs : List A) → list_any test xs ≡ false
    → AllByRecursion (λ x. test x ≡ false) xs
none_true test [] h = tt
none_true test (x ∷ xs) h =
    let parts = or_parts (test x) (list_any test xs) h in
    (parts.0, none_true test xs parts.1)

none_written : (vs : List (Declared Meant))
    → list_any (λ v. list_any (λ e. is_none (literal_number e)) (list_of v.dimensions)) vs ≡ false
    → AllByRecursion
    (λ v. AllByRecursion (λ e. is_none (literal_number e) ≡ false) (list_of v.dimensions)) vs
none_written [] h = tt
none_written (v ∷ vs) h =
    let parts = or_parts (list_any (λ e. is_none (literal_number e)) (list_of v.dimensions))
    (list_any (λ v. list_any (λ e. is_none (literal_number e)) (list_of v.dimensions)) vs) h in (
      none_true (λ e. is_none (literal_number e)) (list_of v.dimensions) parts.0,
      none_written vs parts.1,
    )

calls_front : {A : Type 0} (P : A → Type 0) (xs ys : List A) → AllByRecursion P (xs ++ ys)
    → AllByRecursion P xs × AllByRecursion P ys
calls_front P [] ys h = (tt, h)
calls_front P (x ∷ xs) ys h =
    let rest = calls_front P xs ys h.1 in ((h.0, rest.0), rest.1)

-- ---- what the tests of arrays tell
abbrev IsSmall : List ℕ → Type 0
IsSmall dims = is_too_large dims ≡ false

record IsPlain (f : Function) (shapes : List (List ℕ)) : Type 0 where
  filled : length shapes ≡ length f.parameters
  given : AllByRecursion IsSmall shapes
  declared : AllByRecursion (λ v. IsSmall (written_dims v)) (all_variables f.body)

not_true : (b : Bool) → not b ≡ true → b ≡ false
not_true true h = cc
not_true false h = refl

all_small : {A : Type 0} (of : A → List ℕ) (xs : List A)
    → list_all (λ x. is_small (of x)) xs ≡ true
    → AllByRecursion (λ x. IsSmall (of x)) xs
all_small of [] h = tt
all_small of (x ∷ xs) h =
    let parts = and_parts (is_small (of x)) (list_all (λ x. is_small (of x)) xs) h in
    (not_true (is_too_large (of x)) parts.0, all_small of xs parts.1)

are_plain : (f : Function) (shapes : List (List ℕ)) → is_plain f shapes ≡ true
    → IsPlain f shapes
are_plain f shapes h =
    let both = and_parts (length shapes == length f.parameters)
    (list_all is_small shapes
    && list_all (λ v. is_small (written_dims v)) (all_variables f.body)) h in
    let arrays = and_parts (list_all is_small shapes)
    (list_all (λ v. is_small (written_dims v)) (all_variables f.body)) both.1 in
    record {
      filled = eqb-true (length shapes) (length f.parameters) both.0;
      given = all_small (λ d. d) shapes arrays.0;
      declared = all_small written_dims (all_variables f.body) arrays.1;
    }

module _ (functions : ℕ) (keys : List Made) (f : Function) (shapes : List (List ℕ))
    (rules : KeepsRules f shapes) (plain : IsPlain f shapes) where
  abbrev vs : List (Declared Meant)
  vs = all_variables f.body

  abbrev dims : ℕ → List ℕ
  dims = F.variable_dims shapes vs

  small : (n : ℕ) → IsSmall (dims n)
  small n = at shapes plain.given n
    where
      declared : (ws : List (Declared Meant))
          → AllByRecursion (λ v. IsSmall (written_dims v)) ws → (n : ℕ)
          → IsSmall (map (λ e. unwrap_or (literal_number e) 0) (declaration_of n ws))
      declared [] h n = refl
      declared (w ∷ ws) h n =
          pick (list_any (λ m. m == n) (variable_of w.meant)) h.0 (declared ws h.1 n)
        where
          pick : (b : Bool) → IsSmall (written_dims w)
              → IsSmall (map (λ e. unwrap_or (literal_number e) 0) (declaration_of n ws))
              → IsSmall (map (λ e. unwrap_or (literal_number e) 0)
              (if b then list_of w.dimensions else declaration_of n ws))
          pick true x y = x
          pick false x y = y

      at : (ds : List (List ℕ)) → AllByRecursion IsSmall ds → (i : ℕ)
          → IsSmall (unwrap_or (slice_get ds i)
          (map (λ e. unwrap_or (literal_number e) 0) (declaration_of n vs)))
      at [] h i = declared vs plain.declared n
      at (d ∷ ds) h zero = h.0
      at (d ∷ ds) h (suc i) = at ds h.1 i

  abbrev total : ℕ
  total = f.variables

  -- ---- the parameters have homes
  widened : (k : ℕ) (homes : Homes)
      → Agrees functions keys dims total small (S.with_variable (body_scope functions k)) homes
      → Agrees functions keys dims total small (body_scope functions (k + 1)) homes
  widened k homes a = record {
    each = λ n h. a.each n (seen n (n == k) refl (ltb-true n (k + 1) h));
    fresh = a.fresh;
    below = λ n h. ltb-true n (k + 1) h;
  }
    where
      seen : (n : ℕ) (b : Bool) → (n == k) ≡ b → n < k + 1 → ((n == k) || nat_lt n k) ≡ true
      seen n true e lt = or_left (n == k) (nat_lt n k) e
      seen n false e lt =
          or_right (n == k) (nat_lt n k)
          (lt-ltb n k (other (n == k) e))
        where
          other : (b : Bool) → (n == k) ≡ false → n < k
          other b e = at (λ same. differs (sym e ∙ eq-eqb n k same))
            where
              differs : false ≡ true → ⊥
              differs x = cc

              at : (n ≡ k → ⊥) → n < k
              at never = omega (arith, lt, never)

  parameters : (ds : List (List ℕ)) (k : ℕ) (sc : L.Scope)
      → Agrees functions keys dims total small (body_scope functions k) sc.homes
      → ((i : ℕ) (d : List ℕ) → slice_get ds i ≡ Some d → dims (k + i) ≡ d)
      → Agrees functions keys dims total small (body_scope functions (k + length ds))
      (arguments_scope k ds sc).homes
  parameters [] k sc a same =
      let e : k ≡ k + 0 = omega arith in
      subst (λ n. Agrees functions keys dims total small (body_scope functions n) sc.homes) e a
  parameters (d ∷ ds) k sc a same =
      let here : k + 0 ≡ k = omega arith in
      let size : dims k ≡ d = ap dims (sym here) ∙ same 0 d refl in
      let e : k + 1 + length ds ≡ k + suc (length ds) = omega arith in
      subst (λ n. Agrees functions keys dims total small (body_scope functions n)
      (arguments_scope (k + 1) ds (L.with_variable k d sc)).homes) e
      (parameters ds (k + 1) (L.with_variable k d sc)
      (widened k (L.with_variable k d sc).homes
      (agrees_variable functions keys dims total small (body_scope functions k) sc d a size))
      (λ i x h.
      let on : k + 1 + i ≡ k + suc i = omega arith in ap dims on ∙ same (suc i) x h))

  nothing_seen : Agrees functions keys dims total small (body_scope functions 0) no_scope.homes
  nothing_seen = record {
    each = λ n h. absurd (below n h);
    fresh = λ n le. refl;
    below = λ n h. absurd (below n h);
  }
    where
      below : (n : ℕ) → nat_lt n 0 ≡ true → ⊥
      below n h = let lt : n < 0 = ltb-true n 0 h in omega (arith, lt)

  given_dims : (i : ℕ) (d : List ℕ) → slice_get shapes i ≡ Some d → dims (0 + i) ≡ d
  given_dims i d h =
      let here : 0 + i ≡ i = omega arith in
      ap dims here ∙ ap (λ o. unwrap_or o
      (map (λ e. unwrap_or (literal_number e) 0) (declaration_of i vs))) h

  -- ---- what the rules tell, of each one
  wanted_fit : (xs : List Wanted)
      → AllByRecursion (λ x. is_some (F.shape_in dims x.want x.expr) ≡ true) xs
      → AllByRecursion (λ x. is_misplaced x.want x.expr ≡ false) xs
      → HaveCalls functions keys dims (flat_map (λ x. calls_of x.expr) xs)
      → AllByRecursion (IsWantedFit functions keys dims total small) xs
  wanted_fit [] a b c = tt
  wanted_fit (x ∷ xs) a b c =
      let calls = calls_front (HasCall functions keys dims) (calls_of x.expr)
      (flat_map (λ x. calls_of x.expr) xs) c in (
        record { shape = a.0; placed = b.0; calls = calls.0 },
        wanted_fit xs a.1 b.1 calls.1,
      )

  numbered_past : (k : ℕ) (ws : List (Declared Meant)) → Numbered k ws → length shapes ≤ k
      → AllByRecursion (λ v. F.value_fits dims v v.value ≡ true) ws
      → AllByRecursion (λ v. AllByRecursion
      (λ e. is_none (literal_number e) ≡ false) (list_of v.dimensions)) ws
      → AllByRecursion (IsDeclared (λ n. declaration_of n vs)) ws
      → AllByRecursion (IsVariableFit functions keys dims total small) ws
  numbered_past k [] row le a b c = tt
  numbered_past k (w ∷ ws) row le a b c = (
    record {
      value = a.0;
      written = b.0;
      size = λ n e.
          let is : n ≡ k = ap variable_number (sym e ∙ row.0) in
          ap (λ o. unwrap_or o
          (map (λ x. unwrap_or (literal_number x) 0) (declaration_of n vs)))
          (slice_get_past shapes n (omega (arith, le, is)))
          ∙ ap (map (λ x. unwrap_or (literal_number x) 0)) (c.0 n e);
    },
    numbered_past (k + 1) ws row.1 (omega (arith, le)) a.1 b.1 c.1,
  )

  ranks_are : (n : ℕ) → variable_rank (map length shapes) vs n ≡ length (dims n)
  ranks_are n =
      ap (λ o. unwrap_or o (length (declaration_of n vs))) (slice_get-map length shapes n)
      ∙ at (slice_get shapes n)
    where
      at : (o : Option (List ℕ)) → unwrap_or (option_map length o) (length (declaration_of n vs))
          ≡ length (unwrap_or o
          (map (λ e. unwrap_or (literal_number e) 0) (declaration_of n vs)))
      at None = sym (length-map (declaration_of n vs) (λ e. unwrap_or (literal_number e) 0))
      at (Some d) = refl

  are_numbers : (es : List (Expr Meant))
      → AllByRecursion
      (λ e. not (rank_of (variable_rank (map length shapes) vs) e == 0) ≡ false) es
      → AllByRecursion (IsNumber functions keys dims total small) es
  are_numbers [] h = tt
  are_numbers (e ∷ es) h = (
    λ d shape.
        let rank : rank_of (variable_rank (map length shapes) vs) e ≡ length d =
        rank_is dims (variable_rank (map length shapes) vs) ranks_are Whole e d shape in
        let none : rank_of (variable_rank (map length shapes) vs) e ≡ 0 =
        eqb-true (rank_of (variable_rank (map length shapes) vs) e) 0
        (not_not (rank_of (variable_rank (map length shapes) vs) e == 0) h.0) in
        no_length d (sym rank ∙ none),
    are_numbers es h.1,
  )
    where
      not_not : (b : Bool) → not b ≡ false → b ≡ true
      not_not true h = refl
      not_not false h = cc

      no_length : (d : List ℕ) → length d ≡ 0 → d ≡ []
      no_length [] h = refl
      no_length (x ∷ d) h = absurd (omega (arith, h))

  plain_body_fits : IsRunnable functions f → AreFreeStatements functions f.body
      → length shapes ≡ length f.parameters
      → HaveCalls functions keys dims (calls_in f.body)
      → StatementsFit (λ n. n < f.variables) (Unit {0}) (function_ground keys)
      (arguments_scope 0 shapes no_scope) f.body
  plain_body_fits runs free filled calls =
      let parts = and_parts
      (list_all (λ x. is_some (F.shape_in dims x.want x.expr)) (all_wanted f.body))
      (list_all (F.assign_fits dims) (all_assigns f.body)
      && list_all (λ v. F.value_fits dims v v.value) (all_variables f.body)) rules.fit in
      let more_parts = and_parts (list_all (F.assign_fits dims) (all_assigns f.body))
      (list_all (λ v. F.value_fits dims v v.value) (all_variables f.body)) parts.1 in
      let parameter_count : 0 + length shapes ≡ length f.parameters = omega (arith, filled) in
      let start : Agrees functions keys dims total small
      (body_scope functions (length f.parameters)) (arguments_scope 0 shapes no_scope).homes =
      subst (λ n. Agrees functions keys dims total small (body_scope functions n)
      (arguments_scope 0 shapes no_scope).homes) parameter_count
      (parameters shapes 0 no_scope nothing_seen given_dims) in
      let row : Counts (body_scope functions (length f.parameters))
      (behind_all (body_scope functions (length f.parameters)) f.body) vs =
      all_count functions f.body (body_scope functions (length f.parameters)) runs.scoped free in
      statements_fit functions keys dims total small f.body
      (body_scope functions (length f.parameters)) (arguments_scope 0 shapes no_scope) start
      (omega (arith, runs.counted)) runs.scoped free
      (wanted_fit (all_wanted f.body)
      (all_true (λ x. is_some (F.shape_in dims x.want x.expr)) (all_wanted f.body) parts.0)
      (none_true (λ x. is_misplaced x.want x.expr) (all_wanted f.body) rules.placed) calls)
      (all_true (F.assign_fits dims) (all_assigns f.body) more_parts.0)
      (numbered_past (length f.parameters) vs row.row (omega (arith, filled))
      (all_true (λ v. F.value_fits dims v v.value) vs more_parts.1)
      (none_written vs rules.written)
      (are_declared (λ n. declaration_of n vs) (length f.parameters) vs row.row
      (λ n le. refl)))
      (are_numbers (all_returned f.body)
      (none_true (λ e. not (rank_of (variable_rank (map length shapes) vs) e == 0))
      (all_returned f.body) rules.numbers))

pub body_fits : (functions : ℕ) (keys : List Made) (f : Function) (shapes : List (List ℕ))
    → KeepsRules f shapes → is_plain f shapes ≡ true → IsRunnable functions f
    → AreFreeStatements functions f.body
    → HaveCalls functions keys (F.variable_dims shapes (all_variables f.body)) (calls_in f.body)
    → StatementsFit (λ n. n < f.variables) (Unit {0}) (function_ground keys)
    (arguments_scope 0 shapes no_scope) f.body
body_fits functions keys f shapes rules plain runs free calls =
    plain_body_fits functions keys f shapes rules (are_plain f shapes plain) runs free
    (are_plain f shapes plain).filled calls

-- and no argument is too large
pub arguments_small : (f : Function) (shapes : List (List ℕ)) → is_plain f shapes ≡ true
    → AreSmall shapes
arguments_small f shapes plain = each shapes (are_plain f shapes plain).given
  where
    each : (ds : List (List ℕ)) → AllByRecursion IsSmall ds → AreSmall ds
    each [] h = tt
    each (d ∷ ds) h = (h.0, each ds h.1)
