-- The body of a function that is used as it may be has variables and calls of functions alone.
use Rattle.std.proofs.Common.{◌≡◌, ℕ, List, [], ◌∷◌, Ok, length}
use Rattle.std.specs.Prelude.{⊤}
use Rattle.std.specs.List.{AllByRecursion}
use Rattle.cir_ast.specs.declared.operators.Direction.{Direction}
use Rattle.cir_ast.specs.declared.operators.Direction.TheVariants as direction
use Rattle.cir_ast.specs.declared.program.Spot.{Spot}
use Rattle.cir_ast.specs.declared.program.Meant.{Meant}
use Rattle.cir_ast.specs.declared.program.Meant.TheVariants as meant
use Rattle.cir_ast.specs.Tree.{Variable, First, FirstVars, FirstAssign, Simple, Vars, Signals}
use Rattle.cir_ast.specs.Tree.{Declared, Created, Assigned, Constrain, Right, TargetLeft}
use Rattle.cir_ast.specs.Tree.{TargetRight, Alone, Statement, Block, If, IfElse, While, For, Return}
use Rattle.cir_ast.specs.Tree.{Assert, Log, Ended, Statements, empty, then_more}
use Rattle.cir_ast.specs.Shape.{Each as EachShaped, IsShapedVariable, IsShapedFirst, IsShapedSimple}
use Rattle.cir_ast.specs.Shape.{IsShapedStatement, AreShapedStatements}
use Rattle.cir_resolve.specs.Steps.{behind, made, in_turn}
use Rattle.cir_resolve.specs.Scope.{State, read_at, entered, within, declared}
use Rattle.cir_resolve.specs.Naming.{named_expr, named_exprs, named_value, named_accessors}
use Rattle.cir_resolve.specs.Naming.{named_assign, named_variable, named_signal, named_component}
use Rattle.cir_resolve.specs.Naming.{named_first, named_simple, named_statement, named_statements}
use Rattle.cir_checks.specs.declared.positions.Position.TheVariants.{InFunction}
use Rattle.cir_checks.specs.Heads.{Table}
use Rattle.cir_checks.specs.Uses.{members}
use Rattle.cir_checks.specs.Checked.{Each, IsVariable as IsUsedVariable, MayDeclareSignal, IsSimple}
use Rattle.cir_checks.specs.Checked.{IsHead, IsStatement, AreStatements}
use Rattle.cir_meaning.specs.SignalFree.{IsVariable, IsFreeVariable, IsFreeFirst, IsFreeSimple}
use Rattle.cir_meaning.specs.SignalFree.{IsFree, AreFreeStatements}
use Rattle.cir_scope.proofs.Given.{OnGiven, given_behind, given_made, given_within, given_declared}
use Rattle.cir_scope.proofs.Given.{given_any}
use Rattle.cir_scope.proofs.FreeNames.{IsFreeState, free_read, free_variable, free_entered}
use Rattle.cir_scope.proofs.FreeNames.{free_left, not_driven}
use Rattle.cir_scope.proofs.FreeExprs.{free_expr, free_exprs, free_option, free_assign}

no_signal : (d : Direction) → MayDeclareSignal InFunction d → ⊥
no_signal direction.Inner h = h
no_signal direction.Input h = cc
no_signal direction.Output h = cc

-- From a state with no signal in it, what is used as it may be is free of them, and there is none
-- behind it. The state behind a part counts only where the part is used as it may be.
abbrev Frees : {A : Type 0} → (IsUsed IsFreeOne : A → Type 0) → State → A → State → Type 0
Frees IsUsed IsFreeOne st a after =
    IsFreeState st → IsUsed a → IsFreeOne a × IsFreeState after

module _ (t : Table) (functions : ℕ) (all : functions ≡ length t.functions) where
  abbrev VariableFits : State → Variable Meant → State → Type 0
  VariableFits st = Frees (IsUsedVariable t InFunction) (IsFreeVariable functions) st

  given_variable : {N : Type 0} (spot : Spot) (st : State) (v : Variable N) → IsShapedVariable v
      → OnGiven (VariableFits st) (named_variable spot st v)
  given_variable spot st v f =
      given_behind (λ m after. IsFreeState st → IsVariable m × IsFreeState after)
      (VariableFits st) (declared spot st v.name (meant.Variable st.variables))
      (λ m after.
      Ok (
        record {
          name = v.name;
          meant = m;
          dimensions = named_exprs st v.dimensions;
          value = named_value after v.value;
        },
        after,
      ))
      (given_declared (λ m after. IsFreeState st → IsVariable m × IsFreeState after) spot st
      v.name (meant.Variable st.variables)
      (λ s. (tt, free_variable st st.variables v.name s)))
      (λ m after d. λ s h. (
        (
          (d s).0,
          free_exprs t functions all st s v.dimensions f.0 h.0,
          free_option t functions all after (d s).1 v.value f.1 h.1,
        ),
        (d s).1,
      ))

  abbrev VariablesFit : State → List (Variable Meant) → State → Type 0
  VariablesFit st = Frees (Each (IsUsedVariable t InFunction))
      (AllByRecursion (IsFreeVariable functions)) st

  given_variables : {N : Type 0} (spot : Spot) (st : State) (vs : List (Variable N))
      → EachShaped IsShapedVariable vs
      → OnGiven (VariablesFit st) (in_turn (named_variable spot) st vs)
  given_variables spot st [] f = λ s h. (tt, s)
  given_variables spot st (v ∷ vs) f =
      given_behind (VariableFits st) (VariablesFit st) (named_variable spot st v)
      (λ w y. made (λ ws. w ∷ ws) (in_turn (named_variable spot) y vs))
      (given_variable spot st v f.0)
      (λ w y g. given_made (VariablesFit y) (VariablesFit st) (λ ws. w ∷ ws)
      (in_turn (named_variable spot) y vs) (given_variables spot y vs f.1)
      (λ ws x k. λ s h.
      let one = g s h.0 in
      let rest = k one.1 h.1 in
      ((one.0, rest.0), rest.1)))

  abbrev SimpleFits : State → Simple Meant → State → Type 0
  SimpleFits st = Frees (IsSimple t InFunction) (IsFreeSimple functions) st

  given_simple : {N : Type 0} (spot : Spot) (st : State) (x : Simple N) → IsShapedSimple x
      → OnGiven (SimpleFits st) (named_simple spot st x)
  given_simple spot st (Vars vs) f =
      given_made (VariablesFit st) (SimpleFits st) Vars (in_turn (named_variable spot) st vs)
      (given_variables spot st vs f.1) (λ ws after g. g)
  given_simple spot st (Signals d xs) f =
      given_made (λ ws after. ⊤) (SimpleFits st) (Signals d)
      (in_turn (named_signal spot d) st xs) (given_any (in_turn (named_signal spot d) st xs))
      (λ ws after g. λ s h. absurd (no_signal d h.0))
  given_simple spot st (Declared cs) f =
      given_made (λ ds after. ⊤) (SimpleFits st) Declared (in_turn (named_component spot) st cs)
      (given_any (in_turn (named_component spot) st cs)) (λ ds after g. λ s h. absurd h.0)
  given_simple spot st (Created name m e) f =
      given_behind (λ n after. ⊤) (SimpleFits st)
      (declared spot st name (meant.Component st.components))
      (λ n after. Ok (Created name n (named_expr after e), after))
      (given_any (declared spot st name (meant.Component st.components)))
      (λ n after g. λ s h. absurd h.0)
  given_simple spot st (Assigned x) f =
      λ s h. (free_assign t functions all st s x f h, s)
  given_simple spot st (Constrain e g) f = λ s h. absurd h.0
  given_simple spot st (Right e arrow name m accessors) f =
      λ s h. absurd (not_driven (read_at st name) (members (named_accessors st accessors))
      (free_read st s name) h.1.0)
  given_simple spot st (TargetLeft target arrow source) f = λ s h. absurd h.0
  given_simple spot st (TargetRight source arrow target) f = λ s h. absurd h.0
  given_simple spot st (Alone parallel name m arguments inputs) f = λ s h. absurd h.0

  abbrev FirstFits : State → First Meant → State → Type 0
  FirstFits st = Frees (IsHead t InFunction) (IsFreeFirst functions) st

  given_first : {N : Type 0} (spot : Spot) (st : State) (x : First N) → IsShapedFirst x
      → OnGiven (FirstFits st) (named_first spot st x)
  given_first spot st (FirstVars vs) f =
      given_made (VariablesFit st) (FirstFits st) FirstVars (in_turn (named_variable spot) st vs)
      (given_variables spot st vs f.1) (λ ws after g. g)
  given_first spot st (FirstAssign x) f = λ s h. (free_assign t functions all st s x f h, s)

  abbrev pub StatementFits : State → Statement Spot Meant → State → Type 0
  StatementFits st = Frees (IsStatement t InFunction) (IsFree functions) st

  abbrev pub StatementsFit : State → Statements Spot Meant → State → Type 0
  StatementsFit st = Frees (AreStatements t InFunction) (AreFreeStatements functions) st

  -- a part that is a block of its own, from what its statement gives and leaves
  part_fits : {N : Type 0} (st : State) (x : Statement Spot N)
      → OnGiven (StatementFits (entered st)) (named_statement (entered st) x)
      → OnGiven (StatementFits st) (within st (λ inner. named_statement inner x))
  part_fits st x so =
      given_within (StatementFits (entered st)) (StatementFits st) st
      (λ inner. named_statement inner x) so
      (λ y after f. λ s h.
      let g = f (free_entered st s) h in (g.0, free_left st after s g.1))

  -- of a `for`: the state behind its head, too
  abbrev LoopFits : State → State → Statement Spot Meant → State → Type 0
  LoopFits st head = Frees (IsStatement t InFunction)
      (λ x. IsFree functions x × IsFreeState head) st

  mutual
    pub given_statement : {N : Type 0} (st : State) (x : Statement Spot N) → IsShapedStatement x
        → OnGiven (StatementFits st) (named_statement st x)
    given_statement st (Block spot ss) f =
        given_made (StatementsFit st) (StatementFits st) (Block spot)
        (within st (λ inner. named_statements inner ss))
        (given_within (StatementsFit (entered st)) (StatementsFit st) st
        (λ inner. named_statements inner ss) (given_statements (entered st) ss f)
        (λ xs after g. λ s h.
        let k = g (free_entered st s) h in (k.0, free_left st after s k.1)))
        (λ xs after g. g)
    given_statement st (If spot c x) f =
        given_made (StatementFits st) (StatementFits st) (If spot (named_expr st c))
        (within st (λ inner. named_statement inner x))
        (part_fits st x (given_statement (entered st) x f.1))
        (λ y after g. λ s h.
        let k = g s h.1 in ((free_expr t functions all st s 1 c f.0 h.0, k.0), k.1))
    given_statement st (IfElse spot c x y) f =
        given_behind (StatementFits st) (StatementFits st)
        (within st (λ inner. named_statement inner x))
        (λ x' after. made (IfElse spot (named_expr st c) x')
        (within after (λ inner. named_statement inner y)))
        (part_fits st x (given_statement (entered st) x f.2))
        (λ x' after g. given_made (StatementFits after) (StatementFits st)
        (IfElse spot (named_expr st c) x') (within after (λ inner. named_statement inner y))
        (part_fits after y (given_statement (entered after) y f.3))
        (λ y' end k. λ s h.
        let one = g s h.1 in
        let other = k one.1 h.2 in
        ((free_expr t functions all st s 1 c f.0 h.0, one.0, other.0), other.1)))
    given_statement st (While spot c x) f =
        given_made (StatementFits st) (StatementFits st) (While spot (named_expr st c))
        (within st (λ inner. named_statement inner x))
        (part_fits st x (given_statement (entered st) x f.1))
        (λ y after g. λ s h.
        let k = g s h.1 in ((free_expr t functions all st s 1 c f.0 h.0, k.0), k.1))
    given_statement st (For spot first_spot first c step_spot x body) f =
        given_within (StatementFits st) (StatementFits st) st
        (λ head. behind (named_first first_spot head first) (λ first' after.
        within after (λ inner. behind (named_statement inner body) (λ y end.
        Ok (
          For spot first_spot first' (named_expr after c) step_spot (named_assign end x) y,
          end,
        )))))
        (given_behind (FirstFits (entered st)) (StatementFits st)
        (named_first first_spot (entered st) first)
        (λ first' after. within after (λ inner. behind (named_statement inner body) (λ y end.
        Ok (
          For spot first_spot first' (named_expr after c) step_spot (named_assign end x) y,
          end,
        ))))
        (given_first first_spot (entered st) first f.0)
        (λ first' after g. given_within (LoopFits st after) (StatementFits st) after
        (λ inner. behind (named_statement inner body) (λ y end.
        Ok (
          For spot first_spot first' (named_expr after c) step_spot (named_assign end x) y,
          end,
        )))
        (given_behind (StatementFits (entered after)) (LoopFits st after)
        (named_statement (entered after) body)
        (λ y end.
        Ok (For spot first_spot first' (named_expr after c) step_spot (named_assign end x) y, end))
        (given_statement (entered after) body f.3)
        (λ y end k. λ s h.
        let start = g (free_entered st s) h.0 in
        let rest = k (free_entered after start.1) h.3 in (
          (
            (
              start.0,
              free_expr t functions all after start.1 1 c f.1 h.1,
              free_assign t functions all end rest.1 x f.2 h.2,
              rest.0,
            ),
            start.1,
          ),
          rest.1,
        )))
        (λ y end k. λ s h. let r = k s h in (r.0.0, free_left after end r.0.1 r.1))))
        (λ y end k. λ s h. let r = k s h in (r.0, free_left st end s r.1))
    given_statement st (Return spot e) f =
        λ s h. (free_expr t functions all st s 1 e f h.1, s)
    given_statement st (Assert spot e) f =
        λ s h. (free_expr t functions all st s 1 e f h, s)
    given_statement st (Log spot arguments) f = λ s h. absurd h.0
    given_statement st (Ended spot x) f =
        given_made (SimpleFits st) (StatementFits st) (Ended spot) (named_simple spot st x)
        (given_simple spot st x f) (λ y after g. g)

    pub given_statements : {N : Type 0} (st : State) (xs : Statements Spot N)
        → AreShapedStatements xs → OnGiven (StatementsFit st) (named_statements st xs)
    given_statements st empty f = λ s h. (tt, s)
    given_statements st (then_more x xs) f =
        given_behind (StatementFits st) (StatementsFit st) (named_statement st x)
        (λ y after. made (then_more y) (named_statements after xs))
        (given_statement st x f.0)
        (λ y after g. given_made (StatementsFit after) (StatementsFit st) (then_more y)
        (named_statements after xs) (given_statements after xs f.1)
        (λ ys end k. λ s h.
        let one = g s h.0 in
        let rest = k one.1 h.1 in
        ((one.0, rest.0), rest.1)))
