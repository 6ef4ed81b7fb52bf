-- The code of statements is well formed, and so is that of a step.
use Rattle.std.proofs.Common.{◌≡◌, ℕ, zero, suc, ◌+◌, List, [], ◌∷◌, ◌++◌, length, Option, Some}
use Rattle.std.proofs.Common.{None, refl, sym, subst, arith}
use Rattle.wit_code.specs.declared.code.Op.{Op}
use Rattle.wit_code.specs.declared.code.Op.TheVariants as op
use Rattle.wit_code.specs.declared.code.Stands.{Stands}
use Rattle.wit_code.specs.declared.code.Stands.TheVariants.{InStep}
use Rattle.wit_code.specs.Code.{StandsInProc}
use Rattle.cir_ast.specs.declared.program.Spot.{Spot}
use Rattle.cir_ast.specs.declared.program.Meant.{Meant}
use Rattle.cir_ast.specs.declared.program.Meant.TheVariants as meant
use Rattle.cir_ast.specs.Tree.{Expr, Exprs, none, more, Accessors, done, Variable as Declared}
use Rattle.cir_ast.specs.Tree.{Assign, Set, Compound, Left, Increment, Decrement, First, FirstVars}
use Rattle.cir_ast.specs.Tree.{FirstAssign, Simple, Vars, Signals, Declared as DeclaredComponents}
use Rattle.cir_ast.specs.Tree.{Created, Assigned, Constrain, Right, TargetLeft, TargetRight, Alone}
use Rattle.cir_ast.specs.Tree.{Statement, Block, If, IfElse, While, For, Return, Assert, Log, Ended}
use Rattle.cir_ast.specs.Tree.{Statements, empty, then_more}
use Rattle.cir_meaning.specs.Writing.{plain}
use Rattle.cir_meaning.specs.Reached.{indices_count}
use Rattle.wit_lower.specs.Homes.{Variable, Home, Homes, Scope, Ground, Named, find, home_of}
use Rattle.wit_lower.specs.Homes.{slots_of}
use Rattle.wit_lower.specs.Pieces.{Code, unless_zero, either, turned, zeros, write_code}
use Rattle.wit_lower.specs.Values.{size_of, expr_code, indices_code}
use Rattle.wit_lower.specs.Statements.{set_code, plain_code, assign_code, dims_code, known_dims}
use Rattle.wit_lower.specs.Statements.{declared_scope, variable_scope, value_code, variable_code}
use Rattle.wit_lower.specs.Statements.{variables_code, first_scope, first_code, simple_code}
use Rattle.wit_lower.specs.Statements.{scope_behind, test_code, statement_code, statements_code}
use Rattle.wit_lower.specs.Fits.{Fits, IndicesFit, PlaceSetFits, PlainFits, DimsFit, ValueFits}
use Rattle.wit_lower.specs.Fits.{DeclaredFits, VariablesFit, FirstFits, SimpleFits, StatementFits}
use Rattle.wit_lower.specs.Fits.{StatementsFit}
use Rattle.wit_lower.specs.Sources.{Input, Constant, Cell, Source, Sources, scope_of, cells_read}
use Rattle.wit_lower.specs.Sources.{load_code, source_code, sources_code}
use Rattle.wit_lower.specs.Tasks.{Element, Task, Gives, Equal, Logs, Executes, writes, logs_code}
use Rattle.wit_lower.specs.Tasks.{target_code, targets_code, task_code, step_body}
use Rattle.wit_lower.specs.Steps.{AllTests, TaskFits, IsInput, SourcesFit}
use Rattle.wit_lower.proofs.Does.{HasAt, has_front, has_back, has_itself}
use Rattle.wit_lower.proofs.Pieces.{turn_at, test_at}
use Rattle.wit_lower.proofs.CellsRead.{IsRead, AreRead, all_read, place_less}
use Rattle.wit_lower.proofs.Formed.{Formed, formed_append, zeros_formed, write_formed}
use Rattle.wit_lower.proofs.Formed.{unless_formed, either_formed, turned_formed, expr_formed}
use Rattle.wit_lower.proofs.Formed.{indices_formed}

module _ (stands : Stands) (body : List Op) (g : Ground) (free : ℕ → Type 0) (Ends : Type 0)
    (ends : Ends → StandsInProc stands) where
  abbrev IsFormed : (place : ℕ) → Code → Type 0
  IsFormed place code = Formed g.keys stands body place code

  set_is : (s : Scope) (m : Meant) (accessors : Accessors Meant) (e : Expr Meant) (p : ℕ)
      → Fits g s.homes e → IndicesFit g s.homes accessors
      → HasAt body p (set_code g s p m accessors e)
      → IsFormed p (set_code g s p m accessors e)
  set_is s m accessors e p fe fi at =
      let size : ℕ = size_of g s.homes e in
      let one : Code = expr_code g s.homes s.top p e in
      let q : ℕ = p + length one in
      let two : Code = indices_code g s.homes (s.top + size) q accessors in
      let three : Code =
      write_code (home_of s.homes (Named m)) (s.top + size) (indices_count accessors) s.top size in
      let at1 : HasAt body q (two ++ three) = has_back body p one (two ++ three) at in
      formed_append g.keys stands body p one (two ++ three)
      (expr_formed stands body g s.homes e s.top p fe (has_front body p one (two ++ three) at))
      (formed_append g.keys stands body q two three
      (indices_formed stands body g s.homes accessors (s.top + size) q fi
      (has_front body q two three at1))
      (write_formed g.keys stands body (home_of s.homes (Named m)) (s.top + size)
      (indices_count accessors) s.top size (q + length two)))

  set_formed : (s : Scope) (m : Meant) (accessors : Accessors Meant) (e : Expr Meant) (p : ℕ)
      → PlaceSetFits free g s.homes m accessors e → HasAt body p (set_code g s p m accessors e)
      → IsFormed p (set_code g s p m accessors e)
  set_formed s (meant.Variable n) accessors e p fits at =
      set_is s (meant.Variable n) accessors e p fits.value fits.indices at
  set_formed s meant.Other accessors e p fits at = absurd fits
  set_formed s (meant.Signal d n) accessors e p fits at = absurd fits
  set_formed s (meant.Component n) accessors e p fits at = absurd fits
  set_formed s (meant.Template n) accessors e p fits at = absurd fits
  set_formed s (meant.Function n) accessors e p fits at = absurd fits

  plain_formed : (s : Scope) (a : Assign Meant) (p : ℕ) → PlainFits free g s.homes a
      → HasAt body p (plain_code g s p a) → IsFormed p (plain_code g s p a)
  plain_formed s (Set name m accessors e) p fits at = set_formed s m accessors e p fits at
  plain_formed s (Compound name m accessors o e) p fits at = absurd fits
  plain_formed s (Left name m accessors arrow e) p fits at = absurd fits
  plain_formed s (Increment name m accessors) p fits at = absurd fits
  plain_formed s (Decrement name m accessors) p fits at = absurd fits

  dims_formed : (s : Scope) (es : Exprs Meant) (p : ℕ) → DimsFit g s.homes es
      → HasAt body p (dims_code g s p es) → IsFormed p (dims_code g s p es)
  dims_formed s none p fits at = tt
  dims_formed s (more e es) p ((fe, se), known, fr) at =
      let one : Code = expr_code g s.homes s.top p e in
      let q : ℕ = p + length one in
      let two : Code = dims_code g s q es in
      formed_append g.keys stands body p one two
      (expr_formed stands body g s.homes e s.top p fe (has_front body p one two at))
      (dims_formed s es q fr (has_back body p one two at))

  value_formed : (s : Scope) (m : Meant) (value : Option (Expr Meant)) (p : ℕ)
      → ValueFits free g s.homes m value → HasAt body p (value_code g s p m value)
      → IsFormed p (value_code g s p m value)
  value_formed s m None p fits at = tt
  value_formed s m (Some e) p fits at = set_formed s m done e p fits at

  -- what a declaration asks of a variable
  record Parts (s : Scope) (v : Declared Meant) : Type 0 where
    pub dims : DimsFit g s.homes v.dimensions
    pub value : ValueFits free g (variable_scope g s v).homes v.meant v.value

  parts : (s : Scope) (v : Declared Meant) (m : Meant) → v.meant ≡ m → DeclaredFits free g s v m
      → Parts s v
  parts s v (meant.Variable n) same fits = record {
    dims = fits.dims;
    value = subst (λ z. ValueFits free g (declared_scope g s v z).homes v.meant v.value) (sym same)
        fits.value;
  }
  parts s v meant.Other same fits = absurd fits
  parts s v (meant.Signal d n) same fits = absurd fits
  parts s v (meant.Component n) same fits = absurd fits
  parts s v (meant.Template n) same fits = absurd fits
  parts s v (meant.Function n) same fits = absurd fits

  variable_formed : (s : Scope) (v : Declared Meant) (p : ℕ) → DeclaredFits free g s v v.meant
      → HasAt body p (variable_code g s p v) → IsFormed p (variable_code g s p v)
  variable_formed s v p fits at =
      let x : Parts s v = parts s v v.meant refl fits in
      let dims : Code = dims_code g s p v.dimensions in
      let zero_all : Code = zeros s.top (slots_of (known_dims g v)) in
      let one : Code = dims ++ zero_all in
      let q : ℕ = p + length one in
      let two : Code = value_code g (variable_scope g s v) q v.meant v.value in
      formed_append g.keys stands body p one two
      (formed_append g.keys stands body p dims zero_all
      (dims_formed s v.dimensions p x.dims
      (has_front body p dims zero_all (has_front body p one two at)))
      (zeros_formed g.keys stands body s.top (slots_of (known_dims g v)) (p + length dims)))
      (value_formed (variable_scope g s v) v.meant v.value q x.value (has_back body p one two at))

  variables_formed : (s : Scope) (vs : List (Declared Meant)) (p : ℕ) → VariablesFit free g s vs
      → HasAt body p (variables_code g s p vs) → IsFormed p (variables_code g s p vs)
  variables_formed s [] p fits at = tt
  variables_formed s (v ∷ vs) p (fv, fr) at =
      let one : Code = variable_code g s p v in
      let q : ℕ = p + length one in
      let two : Code = variables_code g (variable_scope g s v) q vs in
      formed_append g.keys stands body p one two
      (variable_formed s v p fv (has_front body p one two at))
      (variables_formed (variable_scope g s v) vs q fr (has_back body p one two at))

  first_formed : (s : Scope) (x : First Meant) (p : ℕ) → FirstFits free g s x
      → HasAt body p (first_code g s p x) → IsFormed p (first_code g s p x)
  first_formed s (FirstVars vs) p fits at = variables_formed s vs p fits at
  first_formed s (FirstAssign a) p fits at = plain_formed s (plain a) p fits at

  simple_formed : (s : Scope) (x : Simple Meant) (p : ℕ) → SimpleFits free g s x
      → HasAt body p (simple_code g s p x) → IsFormed p (simple_code g s p x)
  simple_formed s (Vars vs) p fits at = variables_formed s vs p fits at
  simple_formed s (Assigned a) p fits at = plain_formed s (plain a) p fits at
  simple_formed s (Signals direction ds) p fits at = absurd fits
  simple_formed s (DeclaredComponents cs) p fits at = absurd fits
  simple_formed s (Created name m e) p fits at = absurd fits
  simple_formed s (Constrain a b) p fits at = absurd fits
  simple_formed s (Right e arrow name m accessors) p fits at = absurd fits
  simple_formed s (TargetLeft t arrow x) p fits at = absurd fits
  simple_formed s (TargetRight x arrow t) p fits at = absurd fits
  simple_formed s (Alone parallel name m arguments inputs) p fits at = absurd fits

  mutual
    pub statement_formed : (a : Statement Spot Meant) (s : Scope) (p : ℕ)
        → StatementFits free Ends g s a → HasAt body p (statement_code g s p a)
        → IsFormed p (statement_code g s p a)
    statement_formed (Block spot ss) s p fits at = statements_formed ss s p fits at
    statement_formed (If spot c a) s p ((fc, sc), fa) at =
        let one : Code = test_code g s p c in
        let q : ℕ = p + length one in
        let piece : (ℕ → Code) = λ r. statement_code g s r a in
        let at1 : HasAt body q (unless_zero s.top q piece) =
        has_back body p one (unless_zero s.top q piece) at in
        formed_append g.keys stands body p one (unless_zero s.top q piece)
        (expr_formed stands body g s.homes c s.top p fc
        (has_front body p one (unless_zero s.top q piece) at))
        (unless_formed g.keys stands body s.top q piece at1
        (statement_formed a s (q + 1) fa at1.1))
    statement_formed (IfElse spot c a b) s p ((fc, sc), fa, fb) at =
        let one : Code = test_code g s p c in
        let q : ℕ = p + length one in
        let first : (ℕ → Code) = λ r. statement_code g s r a in
        let second : (ℕ → Code) = λ r. statement_code g s r b in
        let two : Code = first (q + 1) in
        let r : ℕ = q + 2 + length two in
        let on : q + 1 + length two + 1 ≡ r = omega arith in
        let last : Code = op.Jump (r + length (second r)) ∷ second r in
        let at1 : HasAt body q (either s.top q first second) =
        has_back body p one (either s.top q first second) at in
        formed_append g.keys stands body p one (either s.top q first second)
        (expr_formed stands body g s.homes c s.top p fc
        (has_front body p one (either s.top q first second) at))
        (either_formed g.keys stands body s.top q first second at1
        (statement_formed a s (q + 1) fa (has_front body (q + 1) two last at1.1))
        (statement_formed b s r fb (subst (λ x. HasAt body x (second r)) on
        (has_back body (q + 1) two last at1.1).1)))
    statement_formed (While spot c a) s p ((fc, sc), fa) at =
        let turn : Code = statement_code g s (p + 2) a in
        let test : Code = test_code g s (p + 2 + length turn) c in
        turned_formed g.keys stands body s.top p turn test at
        (statement_formed a s (p + 2) fa (turn_at body s.top p turn test at))
        (expr_formed stands body g s.homes c s.top (p + 2 + length turn) fc
        (test_at body s.top p turn test at))
    statement_formed (For spot first_spot x c step_spot a b) s p (fx, (fc, sc), fb, fa) at =
        let inner : Scope = first_scope g s x in
        let one : Code = first_code g s p x in
        let q : ℕ = p + length one in
        let two : Code = statement_code g inner (q + 2) b in
        let r : ℕ = q + 2 + length two in
        let last : Scope = scope_behind g inner b in
        let three : Code = assign_code g last r a in
        let turn : Code = two ++ three in
        let test : Code = test_code g inner (q + 2 + length turn) c in
        let loop : Code = turned inner.top q turn test in
        let at1 : HasAt body q loop = has_back body p one loop at in
        let at2 : HasAt body (q + 2) turn = turn_at body inner.top q turn test at1 in
        formed_append g.keys stands body p one loop
        (first_formed s x p fx (has_front body p one loop at))
        (turned_formed g.keys stands body inner.top q turn test at1
        (formed_append g.keys stands body (q + 2) two three
        (statement_formed b inner (q + 2) fb (has_front body (q + 2) two three at2))
        (plain_formed last (plain a) r fa (has_back body (q + 2) two three at2)))
        (expr_formed stands body g inner.homes c inner.top (q + 2 + length turn) fc
        (test_at body inner.top q turn test at1)))
    statement_formed (Return spot e) s p (returns, (fe, se)) at =
        let one : Code = expr_code g s.homes s.top p e in
        formed_append g.keys stands body p one (op.Return s.top ∷ [])
        (expr_formed stands body g s.homes e s.top p fe
        (has_front body p one (op.Return s.top ∷ []) at)) ((ends returns, tt), tt)
    statement_formed (Assert spot e) s p (fe, se) at =
        let one : Code = test_code g s p e in
        formed_append g.keys stands body p one (op.Assert s.top ∷ [])
        (expr_formed stands body g s.homes e s.top p fe
        (has_front body p one (op.Assert s.top ∷ []) at)) ((tt, tt), tt)
    statement_formed (Log spot arguments) s p fits at = absurd fits
    statement_formed (Ended spot x) s p fits at = simple_formed s x p fits at

    pub statements_formed : (ss : Statements Spot Meant) (s : Scope) (p : ℕ)
        → StatementsFit free Ends g s ss → HasAt body p (statements_code g s p ss)
        → IsFormed p (statements_code g s p ss)
    statements_formed empty s p fits at = tt
    statements_formed (then_more a rest) s p (fa, fr) at =
        let one : Code = statement_code g s p a in
        let q : ℕ = p + length one in
        let two : Code = statements_code g (scope_behind g s a) q rest in
        formed_append g.keys stands body p one two
        (statement_formed a s p fa (has_front body p one two at))
        (statements_formed rest (scope_behind g s a) q fr (has_back body p one two at))

-- a step
module _ (list : List Source) (body : List Op) (g : Ground) where
  abbrev reads : ℕ
  reads = length (cells_read list)

  abbrev StepFormed : (place : ℕ) → Code → Type 0
  StepFormed place code = Formed g.keys (InStep reads) body place code

  load_formed : (i : Input) (s p : ℕ) → IsInput i → IsRead (cells_read list) i
      → StepFormed p (load_code (cells_read list) i s ∷ [])
  load_formed (Constant v) s p number read = ((number, tt), tt)
  load_formed (Cell c) s p number read = ((place_less c (cells_read list) read, tt), tt)

  sources_formed : (homes : Homes) (xs : List Source) (p : ℕ) → SourcesFit homes xs
      → AreRead (cells_read list) xs → StepFormed p (sources_code (cells_read list) homes xs)
  sources_formed homes [] p fits read = tt
  sources_formed homes (x ∷ xs) p (fx, fits) (rx, read) =
      let one : Code = source_code (cells_read list) (find x.name homes) x in
      formed_append g.keys (InStep reads) body p one (sources_code (cells_read list) homes xs)
      (source (find x.name homes)) (sources_formed homes xs (p + length one) fits read)
    where
      source : (home : Option Home) → StepFormed p (source_code (cells_read list) home x)
      source None = tt
      source (Some h) = load_formed x.input (h.base + x.element) p fx.number rx

  writes_formed : (from n p : ℕ) → StepFormed p (writes from n)
  writes_formed from zero p = tt
  writes_formed from (suc n) p = ((tt, tt), writes_formed (from + 1) n (p + 1))

  logs_formed : (s : Scope) (es : List (Expr Meant)) (p : ℕ) → AllTests g s.homes es
      → HasAt body p (logs_code g s p es) → StepFormed p (logs_code g s p es)
  logs_formed s [] p fits at = tt
  logs_formed s (e ∷ es) p ((fe, se), fits) at =
      let value : Code = expr_code g s.homes s.top p e in
      let last : Code = op.Write s.top ∷ [] in
      let one : Code = value ++ last in
      let q : ℕ = p + length one in
      let two : Code = logs_code g s q es in
      formed_append g.keys (InStep reads) body p one two
      (formed_append g.keys (InStep reads) body p value last
      (expr_formed (InStep reads) body g s.homes e s.top p fe
      (has_front body p value last (has_front body p one two at))) ((tt, tt), tt))
      (logs_formed s es q fits (has_back body p one two at))

  targets_formed : (homes : Homes) (ts : List Element) (p : ℕ)
      → StepFormed p (targets_code homes ts)
  targets_formed homes [] p = tt
  targets_formed homes (t ∷ ts) p =
      let one : Code = target_code (find (Variable t.variable) homes) t in
      formed_append g.keys (InStep reads) body p one (targets_code homes ts)
      (target (find (Variable t.variable) homes)) (targets_formed homes ts (p + length one))
    where
      target : (home : Option Home) → StepFormed p (target_code home t)
      target None = tt
      target (Some h) = ((tt, tt), tt)

  task_formed : (free : ℕ → Type 0) (s : Scope) (task : Task) (p : ℕ) → TaskFits free g s task
      → HasAt body p (task_code g s p task) → StepFormed p (task_code g s p task)
  task_formed free s (Gives e) p fits at =
      let one : Code = expr_code g s.homes s.top p e in
      let two : Code = writes s.top (size_of g s.homes e) in
      formed_append g.keys (InStep reads) body p one two
      (expr_formed (InStep reads) body g s.homes e s.top p fits (has_front body p one two at))
      (writes_formed s.top (size_of g s.homes e) (p + length one))
  task_formed free s (Equal a b) p ((fa, sa), (fb, sb)) at =
      let one : Code = expr_code g s.homes s.top p a in
      let q : ℕ = p + length one in
      let two : Code = expr_code g s.homes (s.top + 1) q b in
      let last : Code = op.Check s.top (s.top + 1) ∷ [] in
      formed_append g.keys (InStep reads) body p one (two ++ last)
      (expr_formed (InStep reads) body g s.homes a s.top p fa
      (has_front body p one (two ++ last) at))
      (formed_append g.keys (InStep reads) body q two last
      (expr_formed (InStep reads) body g s.homes b (s.top + 1) q fb
      (has_front body q two last (has_back body p one (two ++ last) at))) ((tt, tt), tt))
  task_formed free s (Logs es) p fits at = logs_formed s es p fits at
  task_formed free s (Executes a targets) p (fits, targets_fit) at =
      let one : Code = statement_code g s p a in
      let two : Code = targets_code s.homes targets in
      formed_append g.keys (InStep reads) body p one two
      (statement_formed (InStep reads) body g free ⊥ (λ e. absurd e) a s p fits
      (has_front body p one two at)) (targets_formed s.homes targets (p + length one))

pub step_formed : (g : Ground) (free : ℕ → Type 0) (sources : Sources) (task : Task)
    → SourcesFit (scope_of sources).homes sources.list → TaskFits free g (scope_of sources) task
    → Formed g.keys (InStep (length (cells_read sources.list))) (step_body g sources task) 0
    (step_body g sources task)
step_formed g free sources task list fits =
    let s : Scope = scope_of sources in
    let one : Code = sources_code (cells_read sources.list) s.homes sources.list in
    let two : Code = task_code g s (0 + length one) task in
    let body : Code = one ++ two in
    formed_append g.keys (InStep (length (cells_read sources.list))) body 0 one two
    (sources_formed sources.list body g s.homes sources.list 0 list (all_read sources.list []))
    (task_formed sources.list body g free s task (0 + length one) fits
    (has_back body 0 one two (has_itself [] body)))
