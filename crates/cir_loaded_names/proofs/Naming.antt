-- Resolving the names of a tree leaves them as they are.
use Rattle.std.proofs.Common.{◌≡◌, ℕ, Bool, List, [], ◌∷◌, Option, Some, None, Ok}
use Rattle.std.specs.Prelude.{⊤, map}
use Rattle.std.specs.List.{AllByRecursion}
use Rattle.cir_ast.specs.declared.operators.Direction.{Direction}
use Rattle.cir_ast.specs.declared.program.Spot.{Spot}
use Rattle.cir_ast.specs.declared.program.Meant.{Meant}
use Rattle.cir_ast.specs.declared.program.Meant.TheVariants as meant
use Rattle.cir_ast.specs.Tree.{Expr, Number, Place, Call, Anonymous, Parentheses, Array, Unary}
use Rattle.cir_ast.specs.Tree.{Binary, Choice, Exprs, none, more, Accessors, done, index, member}
use Rattle.cir_ast.specs.Tree.{Inputs, Listed, Named, NamedInputs, unnamed, named, Variable}
use Rattle.cir_ast.specs.Tree.{SignalValue, Nothing, Given, Signal, Component, Assign, Set}
use Rattle.cir_ast.specs.Tree.{Compound, Left, Increment, Decrement, First, FirstVars, FirstAssign}
use Rattle.cir_ast.specs.Tree.{LogArgument, Words, LogValue, Slot, SlotPlace, SlotDiscard, Target}
use Rattle.cir_ast.specs.Tree.{Discard, Slots, Source, One, Values, Simple, Vars, Signals, Declared}
use Rattle.cir_ast.specs.Tree.{Created, Assigned, Constrain, Right, TargetLeft, TargetRight, Alone}
use Rattle.cir_ast.specs.Tree.{Statement, Block, If, IfElse, While, For, Return, Assert, Log, Ended}
use Rattle.cir_ast.specs.Tree.{Statements, empty, then_more}
use Rattle.cir_resolve.specs.Steps.{Step, behind, made, in_turn}
use Rattle.cir_resolve.specs.Scope.{State, Naming, entered, within, declared}
use Rattle.cir_resolve.specs.Naming.{named_expr, named_exprs, named_accessors, named_inputs}
use Rattle.cir_resolve.specs.Naming.{named_each, named_value, named_signal_value, named_variable}
use Rattle.cir_resolve.specs.Naming.{named_signal, named_component, named_assign, named_first}
use Rattle.cir_resolve.specs.Naming.{named_argument, named_slot, named_target, named_source}
use Rattle.cir_resolve.specs.Naming.{named_simple, named_statement, named_statements}
use Rattle.cir_scope.proofs.Given.{OnGiven, given_behind, given_made, given_within, given_any}
use Rattle.cir_tree_names.specs.Named.{IsNamed, AreNamed, AreAccessors, AreInputs, AreGiven}
use Rattle.cir_tree_names.specs.Named.{IsNamedOption, IsNamedVariable, IsNamedValue, IsNamedSignal}
use Rattle.cir_tree_names.specs.Named.{IsNamedComponent, IsNamedAssign, IsNamedFirst}
use Rattle.cir_tree_names.specs.Named.{IsNamedArgument, IsNamedSlot, IsNamedTarget, IsNamedSource}
use Rattle.cir_tree_names.specs.Named.{IsNamedSimple, IsNamedStatement, AreNamedStatements}

each_mapped : {A B : Type 0} (P : A → Type 0) (Q : B → Type 0) (f : A → B)
    → ((a : A) → P a → Q (f a)) → (xs : List A) → AllByRecursion P xs
    → AllByRecursion Q (map f xs)
each_mapped P Q f so [] h = tt
each_mapped P Q f so (x ∷ xs) h = (so x h.0, each_mapped P Q f so xs h.1)

-- what each of some steps gives, all of them give
turn : {X E A B : Type 0} (P : A → Type 0) (Q : B → Type 0) (step : X → A → Step X E B)
    → ((x : X) (a : A) → P a → OnGiven (λ b y. Q b) (step x a)) → (x : X) (xs : List A)
    → AllByRecursion P xs → OnGiven (λ bs y. AllByRecursion Q bs) (in_turn step x xs)
turn P Q step so x [] h = tt
turn P Q step so x (a ∷ rest) h =
    given_behind (λ b y. Q b) (λ bs y. AllByRecursion Q bs) (step x a)
    (λ b y. made (λ bs. b ∷ bs) (in_turn step y rest)) (so x a h.0)
    (λ b y q. given_made (λ bs z. AllByRecursion Q bs) (λ bs z. AllByRecursion Q bs)
    (λ bs. b ∷ bs) (in_turn step y rest) (turn P Q step so y rest h.1) (λ bs z r. (q, r)))

module _ (p : List ℕ → Bool) where
  mutual
    expr : {N : Type 0} (st : State) (e : Expr N) → IsNamed p e → IsNamed p (named_expr st e)
    expr st (Number n) h = tt
    expr st (Place name m xs) h = (h.0, accessors st xs h.1)
    expr st (Call parallel name m es) h = (h.0, exprs st es h.1)
    expr st (Anonymous parallel name m es is) h = (h.0, exprs st es h.1, inputs st is h.2)
    expr st (Parentheses e) h = expr st e h
    expr st (Array es) h = exprs st es h
    expr st (Unary op a) h = expr st a h
    expr st (Binary op a b) h = (expr st a h.0, expr st b h.1)
    expr st (Choice c a b) h = (expr st c h.0, expr st a h.1, expr st b h.2)

    exprs : {N : Type 0} (st : State) (es : Exprs N) → AreNamed p es
        → AreNamed p (named_exprs st es)
    exprs st none h = tt
    exprs st (more e es) h = (expr st e h.0, exprs st es h.1)

    accessors : {N : Type 0} (st : State) (xs : Accessors N) → AreAccessors p xs
        → AreAccessors p (named_accessors st xs)
    accessors st done h = tt
    accessors st (index e xs) h = (expr st e h.0, accessors st xs h.1)
    accessors st (member name xs) h = (h.0, accessors st xs h.1)

    inputs : {N : Type 0} (st : State) (is : Inputs N) → AreInputs p is
        → AreInputs p (named_inputs st is)
    inputs st (Listed es) h = exprs st es h
    inputs st (Named is) h = given st is h

    given : {N : Type 0} (st : State) (is : NamedInputs N) → AreGiven p is
        → AreGiven p (named_each st is)
    given st unnamed h = tt
    given st (named name arrow e is) h = (h.0, expr st e h.1, given st is h.2)

  option : {N : Type 0} (st : State) (o : Option (Expr N)) → IsNamedOption p o
      → IsNamedOption p (named_value st o)
  option st None h = tt
  option st (Some e) h = expr st e h

  value : {N : Type 0} (st : State) (v : SignalValue N) → IsNamedValue p v
      → IsNamedValue p (named_signal_value st v)
  value st Nothing h = tt
  value st (Given arrow e) h = expr st e h

  variable : {N : Type 0} (spot : Spot) (st : State) (v : Variable N) → IsNamedVariable p v
      → OnGiven (λ w after. IsNamedVariable p w) (named_variable spot st v)
  variable spot st v h =
      given_behind (λ m after. ⊤) (λ w after. IsNamedVariable p w)
      (declared spot st v.name (meant.Variable st.variables)) _
      (given_any (declared spot st v.name (meant.Variable st.variables)))
      (λ m after u. (h.0, exprs st v.dimensions h.1, option after v.value h.2))

  signal : {N : Type 0} (spot : Spot) (d : Direction) (st : State) (s : Signal N)
      → IsNamedSignal p s → OnGiven (λ w after. IsNamedSignal p w) (named_signal spot d st s)
  signal spot d st s h =
      given_behind (λ m after. ⊤) (λ w after. IsNamedSignal p w)
      (declared spot st s.name (meant.Signal d st.signals)) _
      (given_any (declared spot st s.name (meant.Signal d st.signals)))
      (λ m after u. (h.0, exprs st s.dimensions h.1, value after s.value h.2))

  component : {N : Type 0} (spot : Spot) (st : State) (c : Component N) → IsNamedComponent p c
      → OnGiven (λ w after. IsNamedComponent p w) (named_component spot st c)
  component spot st c h =
      given_behind (λ m after. ⊤) (λ w after. IsNamedComponent p w)
      (declared spot st c.name (meant.Component st.components)) _
      (given_any (declared spot st c.name (meant.Component st.components)))
      (λ m after u. (h.0, exprs st c.dimensions h.1))

  assign : {N : Type 0} (st : State) (a : Assign N) → IsNamedAssign p a
      → IsNamedAssign p (named_assign st a)
  assign st (Set name m xs e) h = (h.0, accessors st xs h.1, expr st e h.2)
  assign st (Compound name m xs op e) h = (h.0, accessors st xs h.1, expr st e h.2)
  assign st (Left name m xs arrow e) h = (h.0, accessors st xs h.1, expr st e h.2)
  assign st (Increment name m xs) h = (h.0, accessors st xs h.1)
  assign st (Decrement name m xs) h = (h.0, accessors st xs h.1)

  variables : {N : Type 0} (spot : Spot) (st : State) (vs : List (Variable N))
      → AllByRecursion (IsNamedVariable p) vs
      → OnGiven (λ ws after. AllByRecursion (IsNamedVariable p) ws)
      (in_turn (named_variable spot) st vs)
  variables spot =
      turn (IsNamedVariable p) (IsNamedVariable p) (named_variable spot) (variable spot)

  first : {N : Type 0} (spot : Spot) (st : State) (f : First N) → IsNamedFirst p f
      → OnGiven (λ g after. IsNamedFirst p g) (named_first spot st f)
  first spot st (FirstVars vs) h =
      given_made (λ ws after. AllByRecursion (IsNamedVariable p) ws)
      (λ g after. IsNamedFirst p g) FirstVars (in_turn (named_variable spot) st vs)
      (variables spot st vs h) (λ ws after g. g)
  first spot st (FirstAssign a) h = assign st a h

  argument : {N : Type 0} (st : State) (a : LogArgument N) → IsNamedArgument p a
      → IsNamedArgument p (named_argument st a)
  argument st (Words text) h = tt
  argument st (LogValue e) h = expr st e h

  slot : {N : Type 0} (st : State) (x : Slot N) → IsNamedSlot p x
      → IsNamedSlot p (named_slot st x)
  slot st (SlotPlace name m xs) h = (h.0, accessors st xs h.1)
  slot st SlotDiscard h = tt

  target : {N : Type 0} (st : State) (t : Target N) → IsNamedTarget p t
      → IsNamedTarget p (named_target st t)
  target st Discard h = tt
  target st (Slots xs) h =
      each_mapped (IsNamedSlot p) (IsNamedSlot p) (named_slot st) (slot st) xs h

  source : {N : Type 0} (st : State) (s : Source N) → IsNamedSource p s
      → IsNamedSource p (named_source st s)
  source st (One e) h = expr st e h
  source st (Values es) h =
      each_mapped (IsNamed p) (IsNamed p) (named_expr st) (expr st) es h

  simple : {N : Type 0} (spot : Spot) (st : State) (x : Simple N) → IsNamedSimple p x
      → OnGiven (λ y after. IsNamedSimple p y) (named_simple spot st x)
  simple spot st (Vars vs) h =
      given_made (λ ws after. AllByRecursion (IsNamedVariable p) ws)
      (λ y after. IsNamedSimple p y) Vars (in_turn (named_variable spot) st vs)
      (variables spot st vs h) (λ ws after g. g)
  simple spot st (Signals d xs) h =
      given_made (λ ws after. AllByRecursion (IsNamedSignal p) ws)
      (λ y after. IsNamedSimple p y) (Signals d) (in_turn (named_signal spot d) st xs)
      (turn (IsNamedSignal p) (IsNamedSignal p) (named_signal spot d) (signal spot d) st xs h)
      (λ ws after g. g)
  simple spot st (Declared cs) h =
      given_made (λ ws after. AllByRecursion (IsNamedComponent p) ws)
      (λ y after. IsNamedSimple p y) Declared (in_turn (named_component spot) st cs)
      (turn (IsNamedComponent p) (IsNamedComponent p) (named_component spot) (component spot) st
      cs h)
      (λ ws after g. g)
  simple spot st (Created name m e) h =
      given_behind (λ n after. ⊤) (λ y after. IsNamedSimple p y)
      (declared spot st name (meant.Component st.components)) _
      (given_any (declared spot st name (meant.Component st.components)))
      (λ n after u. (h.0, expr after e h.1))
  simple spot st (Assigned a) h = assign st a h
  simple spot st (Constrain a b) h = (expr st a h.0, expr st b h.1)
  simple spot st (Right e arrow name m xs) h = (expr st e h.0, h.1, accessors st xs h.2)
  simple spot st (TargetLeft t arrow s) h = (target st t h.0, source st s h.1)
  simple spot st (TargetRight s arrow t) h = (source st s h.0, target st t h.1)
  simple spot st (Alone parallel name m es is) h = (h.0, exprs st es h.1, inputs st is h.2)

  abbrev pub Fits : Statement Spot Meant → State → Type 0
  Fits a after = IsNamedStatement p a

  abbrev pub AllFit : Statements Spot Meant → State → Type 0
  AllFit ss after = AreNamedStatements p ss

  mutual
    statement : {N : Type 0} (st : State) (a : Statement Spot N) → IsNamedStatement p a
        → OnGiven Fits (named_statement st a)
    statement st (Block spot ss) h =
        given_made AllFit Fits (Block spot) (within st (λ inner. named_statements inner ss))
        (given_within AllFit AllFit st (λ inner. named_statements inner ss)
        (statements (entered st) ss h) (λ a x g. g)) (λ a x g. g)
    statement st (If spot c a) h =
        given_made Fits Fits (If spot (named_expr st c))
        (within st (λ inner. named_statement inner a))
        (given_within Fits Fits st (λ inner. named_statement inner a)
        (statement (entered st) a h.1) (λ b x g. g)) (λ b x g. (expr st c h.0, g))
    statement st (IfElse spot c a b) h =
        given_behind Fits Fits (within st (λ inner. named_statement inner a))
        (λ a' after. made (IfElse spot (named_expr st c) a')
        (within after (λ inner. named_statement inner b)))
        (given_within Fits Fits st (λ inner. named_statement inner a)
        (statement (entered st) a h.1) (λ x y g. g))
        (λ a' after f. given_made Fits Fits (IfElse spot (named_expr st c) a')
        (within after (λ inner. named_statement inner b))
        (given_within Fits Fits after (λ inner. named_statement inner b)
        (statement (entered after) b h.2) (λ x y g. g)) (λ b' y g. (expr st c h.0, f, g)))
    statement st (While spot c a) h =
        given_made Fits Fits (While spot (named_expr st c))
        (within st (λ inner. named_statement inner a))
        (given_within Fits Fits st (λ inner. named_statement inner a)
        (statement (entered st) a h.1) (λ b x g. g)) (λ b x g. (expr st c h.0, g))
    statement st (For spot first_spot f c step_spot a body) h =
        given_within Fits Fits st (λ head. behind (named_first first_spot head f) (λ f' after.
        within after (λ inner. behind (named_statement inner body) (λ s' end.
        Ok (
          For spot first_spot f' (named_expr after c) step_spot (named_assign end a) s',
          end,
        )))))
        (given_behind (λ f' after. IsNamedFirst p f') Fits
        (named_first first_spot (entered st) f) _ (first first_spot (entered st) f h.0)
        (λ f' after g.
        given_within Fits Fits after (λ inner. behind (named_statement inner body) (λ s' end.
        Ok (
          For spot first_spot f' (named_expr after c) step_spot (named_assign end a) s',
          end,
        )))
        (given_behind Fits Fits (named_statement (entered after) body) _
        (statement (entered after) body h.3)
        (λ s' end i. (g, expr after c h.1, assign end a h.2, i)))
        (λ x y i. i)))
        (λ x y i. i)
    statement st (Return spot e) h = expr st e h
    statement st (Assert spot e) h = expr st e h
    statement st (Log spot arguments) h =
        each_mapped (IsNamedArgument p) (IsNamedArgument p) (named_argument st) (argument st)
        arguments h
    statement st (Ended spot x) h =
        given_made (λ y after. IsNamedSimple p y) Fits (Ended spot) (named_simple spot st x)
        (simple spot st x h) (λ y after g. g)

    pub statements : {N : Type 0} (st : State) (ss : Statements Spot N)
        → AreNamedStatements p ss → OnGiven AllFit (named_statements st ss)
    statements st empty h = tt
    statements st (then_more a ss) h =
        given_behind Fits AllFit (named_statement st a)
        (λ a' after. made (then_more a') (named_statements after ss)) (statement st a h.0)
        (λ a' after f. given_made AllFit AllFit (then_more a') (named_statements after ss)
        (statements after ss h.1) (λ ss' y g. (f, g)))
