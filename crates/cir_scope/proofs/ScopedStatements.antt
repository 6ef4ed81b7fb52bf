-- In a body whose names are used as they may be, each statement is in the scope that those before
-- it leave.
use Rattle.std.proofs.Common.{◌≡◌, Ok, refl, subst}
use Rattle.cir_ast.specs.declared.program.Spot.{Spot}
use Rattle.cir_ast.specs.declared.program.Meant.{Meant}
use Rattle.cir_ast.specs.declared.program.Meant.TheVariants as meant
use Rattle.cir_ast.specs.Tree.{First, FirstVars, FirstAssign, Simple, Vars, Signals, Declared}
use Rattle.cir_ast.specs.Tree.{Created, Assigned, Constrain, Right, TargetLeft, TargetRight, Alone}
use Rattle.cir_ast.specs.Tree.{Statement, Block, If, IfElse, While, For, Return, Assert, Log, Ended}
use Rattle.cir_ast.specs.Tree.{Statements, empty, then_more}
use Rattle.cir_resolve.specs.Steps.{made, in_turn, behind as and_then}
use Rattle.cir_resolve.specs.Scope.{State, entered, left, within, declared}
use Rattle.cir_resolve.specs.Naming.{named_expr, named_assign, named_variable, named_signal}
use Rattle.cir_resolve.specs.Naming.{named_component, named_target, named_first, named_simple}
use Rattle.cir_resolve.specs.Naming.{named_statement, named_statements}
use Rattle.cir_checks.specs.declared.positions.Position.{Position}
use Rattle.cir_checks.specs.Heads.{Table}
use Rattle.cir_checks.specs.Statements.{inside, in_loop, value_room, other_room}
use Rattle.cir_checks.specs.Checked.{IsSimple, IsHead, IsStatement, AreStatements}
use Rattle.cir_meaning.specs.Scoped.{Scope, IsSimpleScoped, behind_simple, IsFirstScoped}
use Rattle.cir_meaning.specs.Scoped.{behind_first, closed, behind, behind_all}
use Rattle.cir_scope.proofs.Given.{OnGiven, given_behind, given_made, given_within, given_declared}
use Rattle.cir_scope.proofs.Agreement.{Agrees, agrees_component, agrees_entered, agrees_left}
use Rattle.cir_scope.proofs.ScopedExprs.{meant_expr, meant_inputs, meant_assign, meant_arguments}
use Rattle.cir_scope.proofs.ScopedExprs.{meant_source}
use Rattle.cir_scope.proofs.ScopedDeclarations.{VariablesFit, given_variables, SignalsFit}
use Rattle.cir_scope.proofs.ScopedDeclarations.{given_signals, given_components}
use Rattle.cir_scope.specs.Runnable.{MayRun, AllMayRun}

abbrev SimpleFits : Table → Position → Scope → Simple Meant → State → Type 0
SimpleFits t p s x after =
    (IsSimple t p x → IsSimpleScoped s x) × Agrees t (behind_simple s x) after

given_simple : {N : Type 0} (t : Table) (p : Position) (spot : Spot) (s : Scope) (st : State)
    → Agrees t s st → (x : Simple N) → OnGiven (SimpleFits t p s) (named_simple spot st x)
given_simple t p spot s st a (Vars vs) =
    given_made (VariablesFit t p s) (SimpleFits t p s) Vars (in_turn (named_variable spot) st vs)
    (given_variables t p spot s st a vs) (λ ws after f. f)
given_simple t p spot s st a (Signals d xs) =
    given_made (SignalsFit t p d s) (SimpleFits t p s) (Signals d)
    (in_turn (named_signal spot d) st xs)
    (given_signals t p spot d s st a xs) (λ ws after f. (λ h. f.0 h.1, f.1))
given_simple t p spot s st a (Declared cs) =
    given_made (λ ds after. Agrees t s after) (SimpleFits t p s) Declared
    (in_turn (named_component spot) st cs)
    (given_components t spot s st a cs) (λ ds after e. (λ h. tt, e))
given_simple t p spot s st a (Created name m e) =
    given_behind (λ n after. Agrees t s after) (SimpleFits t p s)
    (declared spot st name (meant.Component st.components))
    (λ n after. Ok (Created name n (named_expr after e), after))
    (given_declared (λ n after. Agrees t s after) spot st name (meant.Component st.components)
    (agrees_component t s st st.components name a))
    (λ n after f. (λ h. tt, f))
given_simple t p spot s st a (Assigned x) = (λ h. meant_assign t s st a p x h, a)
given_simple t p spot s st a (Constrain e f) = (
  λ h. (meant_expr t s st a (value_room p) e h.1, meant_expr t s st a (value_room p) f h.2),
  a,
)
given_simple t p spot s st a (Right e arrow name m accessors) =
    (λ h. meant_expr t s st a (value_room p) e h.0, a)
given_simple t p spot s st a (TargetLeft target arrow source) =
    (λ h. meant_source t s st a p (named_target st target) source h.3, a)
given_simple t p spot s st a (TargetRight source arrow target) =
    (λ h. meant_source t s st a p (named_target st target) source h.3, a)
given_simple t p spot s st a (Alone parallel name m arguments inputs) =
    (λ h. meant_inputs t s st a h.1.2.0 (value_room p) inputs h.1.2.2, a)

abbrev FirstFits : Table → Position → Scope → First Meant → State → Type 0
FirstFits t p s f after = (IsHead t p f → IsFirstScoped s f) × Agrees t (behind_first s f) after

given_first : {N : Type 0} (t : Table) (p : Position) (spot : Spot) (s : Scope) (st : State)
    → Agrees t s st → (f : First N) → OnGiven (FirstFits t p s) (named_first spot st f)
given_first t p spot s st a (FirstVars vs) =
    given_made (VariablesFit t p s) (FirstFits t p s) FirstVars
    (in_turn (named_variable spot) st vs)
    (given_variables t p spot s st a vs) (λ ws after f. f)
given_first t p spot s st a (FirstAssign x) = (λ h. meant_assign t s st a p x h, a)

abbrev pub StatementFits : Table → Position → Scope → Statement Spot Meant → State → Type 0
StatementFits t p s x after =
    (IsStatement t p x → MayRun s x) × Agrees t (behind s x) after

abbrev pub StatementsFit : Table → Position → Scope → Statements Spot Meant → State → Type 0
StatementsFit t p s xs after =
    (AreStatements t p xs → AllMayRun s xs) × Agrees t (behind_all s xs) after

-- a part that is a block of its own
abbrev PartFits : Table → Position → Scope → Statement Spot Meant → State → Type 0
PartFits t p s x after =
    (IsStatement t p x → MayRun s x) × Agrees t (closed s (behind s x)) after

-- from what its statement gives and leaves
part_fits : {N : Type 0} (t : Table) (p : Position) (s : Scope) (st : State) (x : Statement Spot N)
    → Agrees t s st → OnGiven (StatementFits t p s) (named_statement (entered st) x)
    → OnGiven (PartFits t p s) (within st (λ inner. named_statement inner x))
part_fits t p s st x a so =
    given_within (StatementFits t p s) (PartFits t p s) st (λ inner. named_statement inner x) so
    (λ y after f. (f.0, agrees_left t s (behind s y) st after a f.1))

abbrev BlockFits : Table → Position → Scope → Statements Spot Meant → State → Type 0
BlockFits t p s xs after =
    (AreStatements t p xs → AllMayRun s xs) × Agrees t (closed s (behind_all s xs)) after

-- of a `for`: its state at the end of a block in it, and the scope behind all of it
abbrev LoopFits : Table → Position → Scope → (Scope → Scope) → Statement Spot Meant → State
    → Type 0
LoopFits t p s around x end =
    (IsStatement t p x → MayRun s x)
    × ((r : Scope) × Agrees t r end × (closed s (around r) ≡ behind s x))

mutual
  pub given_statement : {N : Type 0} (t : Table) (p : Position) (s : Scope) (st : State)
      → Agrees t s st → (x : Statement Spot N)
      → OnGiven (StatementFits t p s) (named_statement st x)
  given_statement t p s st a (Block spot ss) =
      given_made (BlockFits t (inside p) s) (StatementFits t p s) (Block spot)
      (within st (λ inner. named_statements inner ss))
      (given_within (StatementsFit t (inside p) s) (BlockFits t (inside p) s) st
      (λ inner. named_statements inner ss)
      (given_statements t (inside p) s (entered st)
      (agrees_entered t s st a) ss)
      (λ xs after f. (f.0, agrees_left t s (behind_all s xs) st after a f.1)))
      (λ xs after f. f)
  given_statement t p s st a (If spot c x) =
      given_made (PartFits t (inside p) s) (StatementFits t p s) (If spot (named_expr st c))
      (within st (λ inner. named_statement inner x))
      (part_fits t (inside p) s st x a
      (given_statement t (inside p) s (entered st)
      (agrees_entered t s st a) x))
      (λ y after f. (λ h. (meant_expr t s st a (other_room p) c h.0, f.0 h.1), f.1))
  given_statement t p s st a (IfElse spot c x y) =
      given_behind (PartFits t (inside p) s) (StatementFits t p s)
      (within st (λ inner. named_statement inner x))
      (λ x' after. made (IfElse spot (named_expr st c) x')
      (within after (λ inner. named_statement inner y)))
      (part_fits t (inside p) s st x a
      (given_statement t (inside p) s (entered st)
      (agrees_entered t s st a) x))
      (λ x' after f. given_made (PartFits t (inside p) (closed s (behind s x')))
      (StatementFits t p s) (IfElse spot (named_expr st c) x')
      (within after (λ inner. named_statement inner y))
      (part_fits t (inside p) (closed s (behind s x')) after y f.1
      (given_statement t (inside p) (closed s (behind s x')) (entered after)
      (agrees_entered t (closed s (behind s x')) after f.1) y))
      (λ y' end g. (
        λ h. (meant_expr t s st a (other_room p) c h.0, f.0 h.1, g.0 h.2),
        g.1,
      )))
  given_statement t p s st a (While spot c x) =
      given_made (PartFits t (in_loop p) s) (StatementFits t p s) (While spot (named_expr st c))
      (within st (λ inner. named_statement inner x))
      (part_fits t (in_loop p) s st x a
      (given_statement t (in_loop p) s (entered st)
      (agrees_entered t s st a) x))
      (λ y after f. (
        λ h. (meant_expr t s st a (other_room p) c h.0, f.0 h.1),
        f.1,
      ))
  given_statement t p s st a (For spot first_spot f c step_spot x body) =
      given_within (LoopFits t p s (λ r. r)) (StatementFits t p s) st
      (λ head. and_then (named_first first_spot head f) (λ f' after.
      within after (λ inner. and_then (named_statement inner body) (λ y end.
      Ok (For spot first_spot f' (named_expr after c) step_spot (named_assign end x) y, end)))))
      (given_behind (FirstFits t p s) (LoopFits t p s (λ r. r))
      (named_first first_spot (entered st) f)
      (λ f' after. within after (λ inner. and_then (named_statement inner body) (λ y end.
      Ok (For spot first_spot f' (named_expr after c) step_spot (named_assign end x) y, end))))
      (given_first t p first_spot s (entered st) (agrees_entered t s st a) f)
      (λ f' after g. given_within (LoopFits t p s (closed (behind_first s f')))
      (LoopFits t p s (λ r. r)) after
      (λ inner. and_then (named_statement inner body) (λ y end.
      Ok (For spot first_spot f' (named_expr after c) step_spot (named_assign end x) y, end)))
      (given_behind (StatementFits t (in_loop p) (behind_first s f'))
      (LoopFits t p s (closed (behind_first s f')))
      (named_statement (entered after) body)
      (λ y end.
      Ok (For spot first_spot f' (named_expr after c) step_spot (named_assign end x) y, end))
      (given_statement t (in_loop p) (behind_first s f') (entered after)
      (agrees_entered t (behind_first s f') after g.1) body)
      (λ y end k. (
        λ h. (
          g.0 h.0,
          meant_expr t (behind_first s f') after g.1 (other_room p) c h.1,
          k.0 h.3,
          meant_assign t (behind (behind_first s f') y) end k.1 p x h.2,
        ),
        (behind (behind_first s f') y, k.1, refl),
      )))
      (λ y end k. (
        k.0,
        (
          closed (behind_first s f') k.1.0,
          agrees_left t (behind_first s f') k.1.0 after end g.1 k.1.1,
          k.1.2,
        ),
      ))))
      (λ y end k. (
        k.0,
        subst (λ r. Agrees t r (left st end)) k.1.2 (agrees_left t s k.1.0 st end a k.1.1),
      ))
  given_statement t p s st a (Return spot e) =
      (λ h. meant_expr t s st a (other_room p) e h.1, a)
  given_statement t p s st a (Assert spot e) =
      (λ h. meant_expr t s st a (other_room p) e h, a)
  given_statement t p s st a (Log spot arguments) =
      (λ h. meant_arguments t s st a p arguments h.1, a)
  given_statement t p s st a (Ended spot x) =
      given_made (SimpleFits t p s) (StatementFits t p s) (Ended spot) (named_simple spot st x)
      (given_simple t p spot s st a x) (λ y after f. f)

  pub given_statements : {N : Type 0} (t : Table) (p : Position) (s : Scope) (st : State)
      → Agrees t s st → (xs : Statements Spot N)
      → OnGiven (StatementsFit t p s) (named_statements st xs)
  given_statements t p s st a empty = (λ h. tt, a)
  given_statements t p s st a (then_more x xs) =
      given_behind (StatementFits t p s) (StatementsFit t p s) (named_statement st x)
      (λ y after. made (then_more y) (named_statements after xs))
      (given_statement t p s st a x)
      (λ y after f. given_made (StatementsFit t p (behind s y)) (StatementsFit t p s)
      (then_more y) (named_statements after xs)
      (given_statements t p (behind s y) after f.1 xs)
      (λ ys end g. (λ h. (f.0 h.0, g.0 h.1), g.1)))
