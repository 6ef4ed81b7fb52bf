-- Statements that are only scanned.
use Rattle.std.proofs.Common.{◌≡◌, ◌∙◌, ℕ, ◌+◌, ◌<◌, ◌≤◌, Bool, true, false, List, [], length}
use Rattle.std.proofs.Common.{get_or, drop, map, Ok, Err, ap, sym, refl}
use Rattle.std.proofs.lemmas.List.{drop_all, drop_more}
use Rattle.std.specs.Prelude.{Option}
use Rattle.cir_ast.specs.declared.program.Spot.{Spot}
use Rattle.cir_ast.specs.declared.program.Meant.{Meant}
use Rattle.cir_ast.specs.declared.program.Meant.TheVariants as meant
use Rattle.cir_ast.specs.declared.refusal.Kind.TheVariants.{ShapeDiffers, WrongKind}
use Rattle.cir_ast.specs.declared.marked.Accessor.{Accessor as CodeAccessor}
use Rattle.cir_ast.specs.declared.marked.Statement.{Statement as CodeStatement}
use Rattle.cir_ast.specs.declared.marked.StatementForm.{StatementForm as CodeForm}
use Rattle.cir_ast.specs.declared.marked.DeclaredVariable.{DeclaredVariable as CodeVariable}
use Rattle.cir_ast.specs.declared.marked.Expr.{Expr as CodeExpr}
use Rattle.cir_ast.specs.Tree.{Expr, Accessors, Assign, Set, Statement, as_accessors, as_statements}
use Rattle.cir_ast.specs.Tree.{bare_exprs, bare_form, bare_statement, bare_value, bare_variable}
use Rattle.cir_ast.specs.Tree.{Binary, Number, Parentheses, bare}
use Rattle.cir_meaning.specs.Tried.{Where, Tried, next, refused, needed}
use Rattle.cir_meaning.specs.Arrays.{Datum, Whole, Reach, reach, same_dims}
use Rattle.cir_meaning.specs.Frame.{State, Context, variable_at}
use Rattle.cir_meaning.specs.Evaluate.{dims_in, indices_in, value_in}
use Rattle.cir_meaning.specs.Writing.{VariableAssignment, plain}
use Rattle.cir_meaning.specs.Scan.{scan, scan_all, scan_declared, scan_meant, scan_set, scan_plain}
use Rattle.cir_meaning.specs.Scan.{scan_assign, scan_test, scan_value, scan_variable}
use Rattle.cir_meaning.specs.Simple.{each}
use Rattle.cir_meaning.specs.Simple as S
use Rattle.cir_meaning.specs.Statement.{loop_of}
use Rattle.cir_assign.specs.declared.assigning.Given.{Given}
use Rattle.cir_assign.specs.declared.assigning.Given.TheVariants as given
use Rattle.cir_assign.specs.declared.assigning.Placed.{Placed}
use Rattle.cir_assign.specs.Given.{IsArrow, IsPlaced, IsPlaceOf, given_by, written_by}
use Rattle.cir_assign.specs.declared.assigning.Assignment.{Assignment}
use Rattle.cir_assign.specs.Assigns.{IsAssignment, assignment_in}
use Rattle.cir_assign.proofs.Indexed.{indices_first}
use Rattle.cir_evaluate.specs.Parts.{indexed}
use Rattle.cir_meaning.specs.Operators.{compound_of}
use Rattle.cir_ast.specs.declared.operators.Binary.TheVariants as binary
use Rattle.cir_arrays.specs.declared.stop.Fault.{Fault}
use Rattle.cir_arrays.specs.Stopped.{IsRefusal}
use Rattle.cir_arrays.proofs.Exits.{exits}
use Rattle.cir_frame.specs.declared.world.World.{World}
use Rattle.cir_evaluate.specs.Within.{Kept, kept_of}
use Rattle.cir_execute.proofs.Going.{ends_ok, refusal}

-- ---- an assignment by its place
plain_written : (name : List ℕ) (m : Meant) (accessors : List (CodeAccessor Meant)) (g : Given)
    → IsPlaceOf name m accessors g
    → plain (written_by name m accessors g) ≡ Set name m (as_accessors accessors) (given_by g)
plain_written name m accessors (given.Plain e) is = refl
plain_written name m accessors (given.Compound op place e) is =
    ap (λ (x : Expr Meant). Set name m (as_accessors accessors)
    (Binary (compound_of op) x (Parentheses (bare e.now)))) (sym is)
plain_written name m accessors (given.Increment place) is =
    ap (λ (x : Expr Meant). Set name m (as_accessors accessors)
    (Binary binary.Add x (Number 1))) (sym is)
plain_written name m accessors (given.Decrement place) is =
    ap (λ (x : Expr Meant). Set name m (as_accessors accessors)
    (Binary binary.Sub x (Number 1))) (sym is)

pub plain_placed : (a : Assign Meant) (p : Placed) (h : IsPlaced a p)
    → plain a ≡ Set h.name p.meant (as_accessors p.accessors.now) (given_by p.given)
plain_placed a p h =
    ap plain h.written ∙ plain_written h.name p.meant p.accessors.now p.given h.place

module _ (k : Context) (w : Where) where
  pub scan_placed : (a : Assign Meant) (p : Placed) (s : State) → IsPlaced a p
      → scan_assign k w a s
      ≡ scan_set k w p.meant (as_accessors p.accessors.now) (given_by p.given) s
  scan_placed a p s h =
      ap (λ (b : Assign Meant). scan_plain k w b s) (plain_placed a p h)

  pub scan_arrow : (a : Assign Meant) (s : State) → IsArrow a
      → scan_assign k w a s ≡ refused w WrongKind
  scan_arrow a s h = ap (λ (b : Assign Meant). scan_plain k w (plain b) s) h.written

  -- what is assigned, and then the state behind it
  abbrev fit : Datum → State → Reach → Tried State
  fit d s r = needed (same_dims r.left d.dims) w ShapeDiffers (Ok s)

  abbrev assign : Datum → State → Reach → Tried VariableAssignment
  assign d s r =
      needed (same_dims r.left d.dims) w ShapeDiffers
      (Ok record { value = d; reach = r; state = s })

  abbrev behind : VariableAssignment → Tried State
  behind a = Ok a.state

  abbrev reached : List (Option ℕ) → ℕ → State → Tried Reach
  reached indices n s = reach w true Whole (variable_at s.frame n).dims indices

  abbrev fitting : Datum → ℕ → List (Option ℕ) → Accessors Meant → State → Tried State
  fitting d n indices rest s = next (reached indices n s) (fit d s)

  abbrev assigning : Datum → ℕ → List (Option ℕ) → Accessors Meant → State
      → Tried VariableAssignment
  assigning d n indices rest s = next (reached indices n s) (assign d s)

  fits_or_not : (b : Bool) (x : VariableAssignment)
      → needed b w ShapeDiffers (behind x) ≡ next (needed b w ShapeDiffers (Ok x)) behind
  fits_or_not true x = refl
  fits_or_not false x = refl

  fitting_is : (d : Datum) (s : State) (m : Tried Reach)
      → next m (fit d s) ≡ next (next m (assign d s)) behind
  fitting_is d s (Ok r) =
      fits_or_not (same_dims r.left d.dims) record { value = d; reach = r; state = s }
  fitting_is d s (Err e) = refl

  module _ (n : ℕ) (accessors : Accessors Meant) where
    inner : (d : Datum) (m : Tried (List (Option ℕ) × (Accessors Meant × State)))
        → next m (λ (is, (rest, s)). fitting d n is rest s)
        ≡ next (next m (λ (is, (rest, s)). assigning d n is rest s)) behind
    inner d (Ok (is, (rest, s))) = fitting_is d s (reached is n s)
    inner d (Err e) = refl

    abbrev fit_in : Datum × State → Tried State
    fit_in (d, s1) = indices_in k w true [] accessors s1 (fitting d n)

    abbrev assign_in : Datum × State → Tried VariableAssignment
    assign_in (d, s1) = indices_in k w true [] accessors s1 (assigning d n)

    outer : (m : Tried (Datum × State)) → next m fit_in ≡ next (next m assign_in) behind
    outer (Ok (d, s1)) =
        indices_first k w true [] accessors s1 (fitting d n)
        ∙ inner d (indices_in k w true [] accessors s1 indexed)
        ∙ ap (λ (m : Tried VariableAssignment). next m behind)
        (sym (indices_first k w true [] accessors s1 (assigning d n)))
    outer (Err e) = refl

    pub scan_set_is : (e : Expr Meant) (s : State)
        → scan_set k w (meant.Variable n) accessors e s
        ≡ next (assignment_in k w true n accessors e s) behind
    scan_set_is e s = outer (value_in k w true Whole e s)

  -- the loop that is left of a `for`, as a statement
  pub scan_loop_is : (spot step_spot : Spot) (c : Expr Meant) (body : Statement Spot Meant)
      (a : Assign Meant) (s : State) → scan k w (loop_of spot c body step_spot a) s
      ≡ next (scan_test k w c s) (λ s1. next (scan k w body s1) (scan_assign k w a))
  scan_loop_is spot step_spot c body a s = at (scan_test k w c s)
    where
      inner : (m : Tried State)
          → next m (λ s2. next (scan_assign k w a s2) (λ s3. Ok s3)) ≡ next m (scan_assign k w a)
      inner (Ok s2) = ends_ok (scan_assign k w a s2)
      inner (Err e) = refl

      at : (m : Tried State)
          → next m (λ s1. next (scan k w body s1)
          (λ s2. next (scan_assign k w a s2) (λ s3. Ok s3)))
          ≡ next m (λ s1. next (scan k w body s1) (scan_assign k w a))
      at (Ok s1) = inner (scan k w body s1)
      at (Err e) = refl

-- ---- statements in turn
abbrev pub scan_from : Context → Where → List (CodeStatement Spot Meant) → ℕ → State → Tried State
scan_from k w xs i s = scan_all k w (as_statements (map bare_statement (drop i xs))) s

pub scan_first_from : (k : Context) (w : Where) (xs : List (CodeStatement Spot Meant)) (i : ℕ)
    (x : CodeStatement Spot Meant) (s : State) → i < length xs → x ≡ get_or xs i x
    → scan_from k w xs i s ≡ next (scan k w (bare_statement x) s) (scan_from k w xs (i + 1))
scan_first_from k w xs i x s h is =
    ap (λ ys. scan_all k w (as_statements (map bare_statement ys)) s) (drop_more xs i x h)
    ∙ ap (λ y. next (scan k w (bare_statement y) s) (scan_from k w xs (i + 1))) (sym is)

pub scan_end : (k : Context) (w : Where) (xs : List (CodeStatement Spot Meant)) (i : ℕ) (s : State)
    → length xs ≤ i → scan_from k w xs i s ≡ Ok s
scan_end k w xs i s h =
    ap (λ ys. scan_all k w (as_statements (map bare_statement ys)) s) (drop_all i xs h)

-- ---- items in turn
abbrev pub each_from : {A B : Type 0} → (B → State → Tried State) → (A → B) → List A → ℕ → State
    → Tried State
each_from go view xs i s = each go (map view (drop i xs)) s

pub each_first : {A B : Type 0} (go : B → State → Tried State) (view : A → B) (xs : List A) (i : ℕ)
    (x : A) (s : State) → i < length xs → x ≡ get_or xs i x
    → each_from go view xs i s ≡ next (go (view x) s) (each_from go view xs (i + 1))
each_first go view xs i x s h is =
    ap (λ ys. each go (map view ys) s) (drop_more xs i x h)
    ∙ ap (λ y. next (go (view y) s) (each_from go view xs (i + 1))) (sym is)

pub each_end : {A B : Type 0} (go : B → State → Tried State) (view : A → B) (xs : List A) (i : ℕ)
    (s : State) → length xs ≤ i → each_from go view xs i s ≡ Ok s
each_end go view xs i s h = ap (λ ys. each go (map view ys) s) (drop_all i xs h)

pub kept_constraints : (new old : World) → kept_of new ≡ kept_of old
    → new.constraints.items ≡ old.constraints.items
kept_constraints new old h = ap (λ (x : Kept). x.constraints) h

module _ (k : Context) (w : Where) (shaded : Bool) (m : Meant) (n : ℕ) (accessors : Accessors Meant)
    (e : Expr Meant) (s : State) where
  to_set : shaded ≡ true → m ≡ meant.Variable n → scan_set k w m accessors e s
      ≡ next (assignment_in k w shaded n accessors e s) (λ a. Ok a.state)
  to_set dark is =
      ap (λ v. scan_set k w v accessors e s) is ∙ scan_set_is k w n accessors e s
      ∙ ap (λ b. next (assignment_in k w b n accessors e s) (λ a. Ok a.state)) (sym dark)

  pub scan_set_at : (f : Fault) → shaded ≡ true → m ≡ meant.Variable n
      → IsRefusal f (assignment_in k w shaded n accessors e s)
      → IsRefusal f (scan_set k w m accessors e s)
  scan_set_at f dark is h =
      refusal f _ _ (to_set dark is)
      (exits f (assignment_in k w shaded n accessors e s) (λ a. Ok a.state) h)

  pub scan_set_told : (s1 : State) (a : Assignment) → shaded ≡ true → m ≡ meant.Variable n
      → (x : VariableAssignment) × (assignment_in k w shaded n accessors e s ≡ Ok x)
      × IsAssignment n s1 a x → scan_set k w m accessors e s ≡ Ok s1
  scan_set_told s1 a dark is h =
      to_set dark is ∙ ap (λ x. next x (λ a. Ok a.state)) h.1
      ∙ ap (λ (z : State). Ok z) h.2.state

-- ---- a variable that is declared
module _ (k : Context) (w : Where) (shaded : Bool) (v : CodeVariable Meant) (n : ℕ)
    (es : List (CodeExpr Meant)) (s : State) where
  to_dims : v.meant ≡ meant.Variable n → es ≡ v.dimensions → shaded ≡ true
      → scan_variable k w (bare_variable v) s
      ≡ next (dims_in k w shaded (bare_exprs es) s) (λ (dims, s1). scan_value k w v.meant
      (bare_value v.value) (scan_declared n dims s1))
  to_dims is it dark =
      ap (λ m. scan_meant w m (λ n. next (dims_in k w true (bare_exprs v.dimensions) s)
      (λ (dims, s1). scan_value k w v.meant (bare_value v.value) (scan_declared n dims s1)))) is
      ∙ ap (λ b. next (dims_in k w b (bare_exprs v.dimensions) s)
      (λ (dims, s1). scan_value k w v.meant (bare_value v.value) (scan_declared n dims s1)))
      (sym dark)
      ∙ ap (λ ds. next (dims_in k w shaded (bare_exprs ds) s)
      (λ (dims, s1). scan_value k w v.meant (bare_value v.value) (scan_declared n dims s1)))
      (sym it)

  pub variable_stops : (f : Fault) → v.meant ≡ meant.Variable n → es ≡ v.dimensions
      → shaded ≡ true → IsRefusal f (dims_in k w shaded (bare_exprs es) s)
      → IsRefusal f (scan_variable k w (bare_variable v) s)
  variable_stops f is it dark h =
      refusal f _ _ (to_dims is it dark) (exits f (dims_in k w shaded (bare_exprs es) s) _ h)

  pub variable_goes : (s1 : State) (dims : List ℕ) → v.meant ≡ meant.Variable n
      → es ≡ v.dimensions → shaded ≡ true
      → dims_in k w shaded (bare_exprs es) s ≡ Ok (dims, s1)
      → scan_variable k w (bare_variable v) s
      ≡ scan_value k w v.meant (bare_value v.value) (scan_declared n dims s1)
  variable_goes s1 dims is it dark h =
      to_dims is it dark
      ∙ ap (λ m. next m (λ (dims, s1). scan_value k w v.meant (bare_value v.value)
      (scan_declared n dims s1))) h

-- by a statement's form
pub scanned_at : (k : Context) (w : Where) (a : CodeStatement Spot Meant)
    (f : CodeForm Spot Meant) (s : State) → a.form ≡ f
    → scan k w (bare_statement a) s ≡ scan k w (bare_form a.spot f) s
scanned_at k w a f s is = ap (λ f. scan k w (bare_form a.spot f) s) is

-- what an assignment by its place executes
pub assign_placed : (k : Context) (w : Where) (a : Assign Meant) (p : Placed) (s : State)
    (h : IsPlaced a p) → S.assign k w a s
    ≡ S.set k w (written_by h.name p.meant p.accessors.now p.given) p.meant
    (as_accessors p.accessors.now) (given_by p.given) s
assign_placed k w a p s h =
    ap (λ b. S.assigned k w a b s) (plain_placed a p h)
    ∙ ap (λ b. S.set k w b p.meant (as_accessors p.accessors.now) (given_by p.given) s) h.written
