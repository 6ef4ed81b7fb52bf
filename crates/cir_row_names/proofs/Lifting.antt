-- What is executed of a statement, once its anonymous components are lifted out of it, declares and
-- creates under names of the statement.
use Rattle.std.proofs.Common.{◌≡◌, ℕ, ◌-◌, ◌++◌, Bool, true, List, [], ◌∷◌}
use Rattle.std.specs.Prelude.{⊤}
use Rattle.std.specs.List.{AllByRecursion}
use Rattle.cir_ast.specs.declared.operators.Direction.TheVariants as direction
use Rattle.cir_ast.specs.declared.program.Meant.{Meant}
use Rattle.cir_ast.specs.Program.{Program}
use Rattle.cir_ast.specs.Tree.{Expr, Number, Place, Call, Anonymous, Parentheses, Array, Unary}
use Rattle.cir_ast.specs.Tree.{Binary, Choice, Exprs, none, more, Inputs, Listed, Named}
use Rattle.cir_ast.specs.Tree.{NamedInputs, unnamed, named, SignalValue, Nothing, Given, Signal}
use Rattle.cir_ast.specs.Tree.{Component, Set, Compound, Left, Increment, Decrement, Target}
use Rattle.cir_ast.specs.Tree.{Discard, Slots, Source, One, Values, Simple, Vars, Signals, Declared}
use Rattle.cir_ast.specs.Tree.{Created, Assigned, Constrain, Right, TargetLeft, TargetRight, Alone}
use Rattle.cir_tree_names.specs.Named.{IsNamed, AreNamed, AreInputs, AreGiven, IsNamedValue}
use Rattle.cir_tree_names.specs.Named.{IsNamedSignal, IsNamedComponent, IsNamedSource}
use Rattle.cir_tree_names.specs.Named.{IsNamedSimple}
use Rattle.cir_meaning.specs.Anonymous.{Lifted, same, then_lift, names_of, own_name, listed_writes}
use Rattle.cir_meaning.specs.Anonymous.{named_writes, input_writes, created, lift, lift_all}
use Rattle.cir_meaning.specs.Anonymous.{lift_inputs, lift_named, lift_values, lift_each}
use Rattle.cir_meaning.specs.Anonymous.{lift_source, lift_value, lift_simple}
use Rattle.cir_meaning.proofs.Rows.{all_append}
use Rattle.cir_row_names.specs.Rows.{IsLineText}
use Rattle.cir_row_names.proofs.Texts.{line_append, own_line}

-- the names under which a statement declares and creates
abbrev pub IsExecuted : (p : List ℕ → Bool) → Simple Meant → Type 0
IsExecuted p (Signals direction ds) = AllByRecursion (λ d. p d.name ≡ true) ds
IsExecuted p (Declared cs) = AllByRecursion (λ c. IsLineText c.name) cs
IsExecuted p (Created name m e) = IsLineText name
IsExecuted p _ = ⊤

module _ (p : List ℕ → Bool) (fits : (name : List ℕ) → p name ≡ true → IsLineText name)
    (program : Program) (first : ℕ) where
  abbrev AreExecuted : List (Simple Meant) → Type 0
  AreExecuted = AllByRecursion (IsExecuted p)

  -- what is executed before what is left
  abbrev Before : {A : Type 0} → Lifted A → Type 0
  Before l = AreExecuted l.before

  join : {A : Type 0} (l : Lifted A) (ys : List (Simple Meant)) → Before l → AreExecuted ys
      → AreExecuted (l.before ++ ys)
  join l ys h g = all_append (IsExecuted p) l.before ys h g

  alone : {A : Type 0} (l : Lifted A) → Before l → AreExecuted (l.before ++ [])
  alone l h = join l [] h tt

  listed_executed : (k n : ℕ) (names : List (List ℕ)) (es : Exprs Meant)
      → AreExecuted (listed_writes k n names es)
  listed_executed k n [] es = tt
  listed_executed k n (name ∷ names) none = tt
  listed_executed k n (name ∷ names) (more e es) = (tt, listed_executed k n names es)

  named_executed : (k n : ℕ) (is : NamedInputs Meant) → AreExecuted (named_writes k n is)
  named_executed k n unnamed = tt
  named_executed k n (named name arrow e is) = (tt, named_executed k n is)

  inputs_executed : (k n : ℕ) (m : Meant) (is : Inputs Meant)
      → AreExecuted (input_writes program k n m is)
  inputs_executed k n m (Listed es) =
      listed_executed k n (names_of direction.Input program m) es
  inputs_executed k n m (Named is) = named_executed k n is

  created_executed : (parallel : Bool) (name : List ℕ) (m : Meant) (arguments : Exprs Meant)
      (is : Inputs Meant) (n : ℕ) → p name ≡ true
      → Before (created program first parallel name m arguments is n)
  created_executed parallel name m arguments is n h = (
    line_append name (own_name (n - first)) (fits name h) (own_line (n - first)),
    inputs_executed (n - first) n m is,
  )

  mutual
    expr : (e : Expr Meant) (n : ℕ) → IsNamed p e → Before (lift program first e n)
    expr (Number i) n h = tt
    expr (Place name m accessors) n h = tt
    expr (Call parallel name m arguments) n h = tt
    expr (Anonymous parallel name m arguments is) n h =
        let l : Lifted (Inputs Meant) = lift_inputs program first is n in
        let c : Lifted (List (Expr Meant)) =
        created program first parallel name m arguments l.value l.next in
        join l (c.before ++ []) (inputs is n h.2)
        (alone c (created_executed parallel name m arguments l.value l.next h.0))
    expr (Parentheses e) n h = alone (lift program first e n) (expr e n h)
    expr (Array es) n h = alone (lift_all program first es n) (exprs es n h)
    expr (Unary op a) n h = alone (lift program first a n) (expr a n h)
    expr (Binary op a b) n h =
        let l : Lifted (Expr Meant) = lift program first a n in
        let r : Lifted (Expr Meant) = lift program first b l.next in
        join l (r.before ++ []) (expr a n h.0) (alone r (expr b l.next h.1))
    expr (Choice c a b) n h = alone (lift program first c n) (expr c n h.0)

    exprs : (es : Exprs Meant) (n : ℕ) → AreNamed p es → Before (lift_all program first es n)
    exprs none n h = tt
    exprs (more e es) n h =
        let l : Lifted (Expr Meant) = lift program first e n in
        let r : Lifted (Exprs Meant) = lift_all program first es l.next in
        join l (r.before ++ []) (expr e n h.0) (alone r (exprs es l.next h.1))

    inputs : (is : Inputs Meant) (n : ℕ) → AreInputs p is
        → Before (lift_inputs program first is n)
    inputs (Listed es) n h = alone (lift_all program first es n) (exprs es n h)
    inputs (Named is) n h = alone (lift_named program first is n) (given is n h)

    given : (is : NamedInputs Meant) (n : ℕ) → AreGiven p is
        → Before (lift_named program first is n)
    given unnamed n h = tt
    given (named name arrow e is) n h =
        let l : Lifted (Expr Meant) = lift program first e n in
        let r : Lifted (NamedInputs Meant) = lift_named program first is l.next in
        join l (r.before ++ []) (expr e n h.1) (alone r (given is l.next h.2))

  -- values of tuples
  one : (e : Expr Meant) (n : ℕ) → IsNamed p e
      → Before (then_lift (lift program first e n) (λ x n1. same (x ∷ []) n1))
  one e n h = alone (lift program first e n) (expr e n h)

  values : (e : Expr Meant) (n : ℕ) → IsNamed p e → Before (lift_values program first e n)
  values (Parentheses e) n h = values e n h
  values (Anonymous parallel name m arguments is) n h =
      let l : Lifted (Inputs Meant) = lift_inputs program first is n in
      let c : Lifted (List (Expr Meant)) =
      created program first parallel name m arguments l.value l.next in
      join l c.before (inputs is n h.2)
      (created_executed parallel name m arguments l.value l.next h.0)
  values (Number i) n h = one (Number i) n h
  values (Place name m accessors) n h = one (Place name m accessors) n h
  values (Call parallel name m arguments) n h = one (Call parallel name m arguments) n h
  values (Array es) n h = one (Array es) n h
  values (Unary op a) n h = one (Unary op a) n h
  values (Binary op a b) n h = one (Binary op a b) n h
  values (Choice c a b) n h = one (Choice c a b) n h

  each : {A : Type 0} (Q R : A → Type 0) (f : A → ℕ → Lifted A) (xs : List A) (n : ℕ)
      → ((x : A) (n : ℕ) → Q x → Before (f x n) × R (f x n).value) → AllByRecursion Q xs
      → Before (lift_each f xs n) × AllByRecursion R (lift_each f xs n).value
  each Q R f [] n go h = (tt, tt)
  each {A} Q R f (x ∷ xs) n go h =
      let l : Lifted A = f x n in
      let here : Before l × R l.value = go x n h.0 in
      let r : Lifted (List A) = lift_each f xs l.next in
      let others : Before r × AllByRecursion R r.value = each Q R f xs l.next go h.1 in
      (join l (r.before ++ []) here.0 (alone r others.0), (here.1, others.1))

  source : (target : Target Meant) (s : Source Meant) (n : ℕ) → IsNamedSource p s
      → Before (lift_source program first target s n)
  source target (Values es) n h =
      alone (lift_each (lift program first) es n)
      (each (IsNamed p) (λ e. ⊤) (lift program first) es n (λ e n1 g. (expr e n1 g, tt)) h).0
  source (Slots slots) (One e) n h = alone (lift_values program first e n) (values e n h)
  source Discard (One e) n h = alone (lift program first e n) (expr e n h)

  value : (v : SignalValue Meant) (n : ℕ) → IsNamedValue p v
      → Before (lift_value program first v n)
  value Nothing n h = tt
  value (Given arrow e) n h = alone (lift program first e n) (expr e n h)

  abbrev lift_signal : Signal Meant → ℕ → Lifted (Signal Meant)
  lift_signal s n =
      then_lift (lift_value program first s.value n) (λ v n1. same (record s { value = v }) n1)

  signal : (s : Signal Meant) (n : ℕ) → IsNamedSignal p s
      → Before (lift_signal s n) × (p (lift_signal s n).value.name ≡ true)
  signal s n h = (alone (lift_value program first s.value n) (value s.value n h.2), h.0)

  components : (cs : List (Component Meant)) → AllByRecursion (IsNamedComponent p) cs
      → AllByRecursion (λ c. IsLineText c.name) cs
  components [] h = tt
  components (c ∷ cs) h = (fits c.name h.0.0, components cs h.1)

  abbrev IsAllExecuted : Lifted (Simple Meant) → Type 0
  IsAllExecuted l = Before l × IsExecuted p l.value

  pub simple : (x : Simple Meant) (n : ℕ) → IsNamedSimple p x
      → IsAllExecuted (lift_simple program first x n)
  simple (Vars vs) n h = (tt, tt)
  simple (Signals d xs) n h =
      let l : Lifted (List (Signal Meant)) = lift_each lift_signal xs n in
      let all : Before l × AllByRecursion (λ (s : Signal Meant). p s.name ≡ true) l.value =
      each (IsNamedSignal p) (λ (s : Signal Meant). p s.name ≡ true) lift_signal xs n signal h in
      (alone l all.0, all.1)
  simple (Declared cs) n h = (tt, components cs h)
  simple (Created name m e) n h = (tt, fits name h.0)
  simple (Assigned (Left name m accessors arrow e)) n h =
      (alone (lift program first e n) (expr e n h.2), tt)
  simple (Assigned (Set name m accessors e)) n h = (tt, tt)
  simple (Assigned (Compound name m accessors op e)) n h = (tt, tt)
  simple (Assigned (Increment name m accessors)) n h = (tt, tt)
  simple (Assigned (Decrement name m accessors)) n h = (tt, tt)
  simple (Constrain a b) n h =
      let l : Lifted (Expr Meant) = lift program first a n in
      let r : Lifted (Expr Meant) = lift program first b l.next in
      (join l (r.before ++ []) (expr a n h.0) (alone r (expr b l.next h.1)), tt)
  simple (Right e arrow name m accessors) n h =
      (alone (lift program first e n) (expr e n h.0), tt)
  simple (TargetLeft target arrow s) n h =
      (alone (lift_source program first target s n) (source target s n h.1), tt)
  simple (TargetRight s arrow target) n h =
      (alone (lift_source program first target s n) (source target s n h.0), tt)
  simple (Alone parallel name m arguments is) n h =
      let l : Lifted (Inputs Meant) = lift_inputs program first is n in
      let c : Lifted (List (Expr Meant)) =
      created program first parallel name m arguments l.value l.next in (
        join l (c.before ++ []) (inputs is n h.2)
            (alone c (created_executed parallel name m arguments l.value l.next h.0)),
        tt,
      )
