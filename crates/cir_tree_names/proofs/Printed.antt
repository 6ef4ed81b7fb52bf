-- Where each name among the tokens of a tree passes a test, each name in the tree does.
use Rattle.std.proofs.Common.{ℕ, Bool, List, [], ◌∷◌, ◌++◌, Option, Some, None}
use Rattle.std.specs.List.{AllByRecursion}
use Rattle.cir_token.specs.declared.token.TokenKind.{TokenKind}
use Rattle.cir_token.specs.declared.token.TokenKind.TheVariants as token
use Rattle.cir_token.specs.declared.token.Reserved.TheVariants as word
use Rattle.cir_token.specs.declared.token.Symbol.{Symbol}
use Rattle.cir_token.specs.declared.token.Symbol.TheVariants as symbol
use Rattle.cir_ast.specs.Tree.{Expr, Number, Place, Call, Anonymous, Parentheses, Array, Unary}
use Rattle.cir_ast.specs.Tree.{Binary, Choice, Exprs, none, more, Accessors, done, index, member}
use Rattle.cir_ast.specs.Tree.{Inputs, Listed, Named, NamedInputs, unnamed, named, Variable}
use Rattle.cir_ast.specs.Tree.{SignalValue, Nothing, Given, Signal, Component, Assign, Set}
use Rattle.cir_ast.specs.Tree.{Compound, Left, Increment, Decrement, First, FirstVars, FirstAssign}
use Rattle.cir_ast.specs.Tree.{LogArgument, Words, LogValue, Slot, SlotPlace, SlotDiscard, Target}
use Rattle.cir_ast.specs.Tree.{Discard, Slots, Source, One, Values, Simple, Vars, Signals, Declared}
use Rattle.cir_ast.specs.Tree.{Created, Assigned, Constrain, Right, TargetLeft, TargetRight, Alone}
use Rattle.cir_ast.specs.Tree.{Statement, Block, If, IfElse, While, For, Return, Assert, Log, Ended}
use Rattle.cir_ast.specs.Tree.{Statements, empty, then_more, Item, Pragma, Include, Template}
use Rattle.cir_ast.specs.Tree.{Function, Main, File}
use Rattle.cir_ast.specs.Print.{compound_symbol, parallel_tokens, left_symbol, right_symbol}
use Rattle.cir_ast.specs.Print.{enclosed, tokens_of, listed, listed_further, accessor_tokens}
use Rattle.cir_ast.specs.Print.{input_tokens, named_tokens, named_further, dimension_tokens}
use Rattle.cir_ast.specs.Print.{further_tokens, list_tokens, ended, name_tokens, value_tokens}
use Rattle.cir_ast.specs.Print.{variable_tokens, signal_value_tokens, signal_tokens}
use Rattle.cir_ast.specs.Print.{component_tokens, direction_tokens, vars_tokens, place_tokens}
use Rattle.cir_ast.specs.Print.{written_tokens, assign_tokens, first_tokens, argument_tokens}
use Rattle.cir_ast.specs.Print.{slot_tokens, target_tokens, source_tokens, simple_tokens}
use Rattle.cir_ast.specs.Print.{for_tokens}
use Rattle.cir_ast.specs.Print.{statement_tokens, statements_tokens, block_tokens, public_tokens}
use Rattle.cir_ast.specs.Print.{item_tokens, file_tokens}
use Rattle.cir_tree_names.specs.Named.{IsNamedToken, Passes, IsNamed, AreNamed, AreAccessors}
use Rattle.cir_tree_names.specs.Named.{AreInputs, AreGiven, IsNamedOption, IsNamedVariable}
use Rattle.cir_tree_names.specs.Named.{IsNamedValue, IsNamedSignal, IsNamedComponent, IsNamedAssign}
use Rattle.cir_tree_names.specs.Named.{IsNamedFirst, IsNamedArgument, IsNamedSlot, IsNamedTarget}
use Rattle.cir_tree_names.specs.Named.{IsNamedSource, IsNamedSimple, IsNamedStatement}
use Rattle.cir_tree_names.specs.Named.{AreNamedStatements, IsNamedItem}

module _ (p : List ℕ → Bool) where
  abbrev Tokens : List TokenKind → Type 0
  Tokens = AllByRecursion (IsNamedToken p)

  -- parts of a list of tokens
  front : (xs ys : List TokenKind) → Tokens (xs ++ ys) → Tokens xs
  front [] ys h = tt
  front (x ∷ xs) ys h = (h.0, front xs ys h.1)

  rest : (xs ys : List TokenKind) → Tokens (xs ++ ys) → Tokens ys
  rest [] ys h = h
  rest (x ∷ xs) ys h = rest xs ys h.1

  inside : (xs : List TokenKind) → Tokens (enclosed xs) → Tokens xs
  inside xs h = front xs (token.Symbol symbol.CloseParenthesis ∷ []) h.1

  before_end : (xs : List TokenKind) → Tokens (ended xs) → Tokens xs
  before_end xs h = front xs (token.Symbol symbol.Semicolon ∷ []) h

  -- behind a token that is no name
  behind : (xs : List TokenKind) (s : Symbol) (ys : List TokenKind)
      → Tokens (xs ++ token.Symbol s ∷ ys) → Tokens ys
  behind xs s ys h = (rest xs (token.Symbol s ∷ ys) h).1

  mutual
    expr : {N : Type 0} (e : Expr N) → Tokens (tokens_of e) → IsNamed p e
    expr (Number n) h = tt
    expr (Place name m accessors) h = (h.0, accessors_named accessors h.1)
    expr (Call parallel name m arguments) h =
        let r : Tokens (token.Name name ∷ enclosed (listed arguments)) =
        rest (parallel_tokens parallel) _ h in
        (r.0, exprs arguments (inside (listed arguments) r.1))
    expr (Anonymous parallel name m arguments given) h =
        let r : Tokens (token.Name name ∷ token.Symbol symbol.OpenParenthesis
        ∷ (listed arguments ++ token.Symbol symbol.CloseParenthesis
        ∷ enclosed (input_tokens given))) =
        rest (parallel_tokens parallel) _ h in (
          r.0,
          exprs arguments (front (listed arguments) _ r.1.1),
          inputs given (inside (input_tokens given)
              (behind (listed arguments) symbol.CloseParenthesis _ r.1.1)),
        )
    expr (Parentheses e) h = expr e (inside (tokens_of e) h)
    expr (Array es) h = exprs es (front (listed es) _ h.1)
    expr (Unary op a) h = expr a h.1
    expr (Binary op a b) h =
        (expr a (front (tokens_of a) _ h), expr b (rest (tokens_of a) _ h).1)
    expr (Choice c a b) h =
        let r : Tokens (tokens_of a ++ token.Symbol symbol.Colon ∷ tokens_of b) =
        behind (tokens_of c) symbol.Question _ h in (
          expr c (front (tokens_of c) _ h),
          expr a (front (tokens_of a) _ r),
          expr b (behind (tokens_of a) symbol.Colon _ r),
        )

    exprs : {N : Type 0} (es : Exprs N) → Tokens (listed es) → AreNamed p es
    exprs none h = tt
    exprs (more e es) h =
        (expr e (front (tokens_of e) _ h), further es (rest (tokens_of e) _ h))

    further : {N : Type 0} (es : Exprs N) → Tokens (listed_further es) → AreNamed p es
    further none h = tt
    further (more e es) h =
        (expr e (front (tokens_of e) _ h.1), further es (rest (tokens_of e) _ h.1))

    accessors_named : {N : Type 0} (xs : Accessors N) → Tokens (accessor_tokens xs)
        → AreAccessors p xs
    accessors_named done h = tt
    accessors_named (index e xs) h = (
      expr e (front (tokens_of e) _ h.1),
      accessors_named xs (behind (tokens_of e) symbol.CloseBracket _ h.1),
    )
    accessors_named (member name xs) h = (h.1.0, accessors_named xs h.1.1)

    inputs : {N : Type 0} (is : Inputs N) → Tokens (input_tokens is) → AreInputs p is
    inputs (Listed es) h = exprs es h
    inputs (Named is) h = given_first is h

    given_first : {N : Type 0} (is : NamedInputs N) → Tokens (named_tokens is) → AreGiven p is
    given_first unnamed h = tt
    given_first (named name arrow e is) h = (
      h.0,
      expr e (front (tokens_of e) _ h.1.1),
      given_further is (rest (tokens_of e) _ h.1.1),
    )

    given_further : {N : Type 0} (is : NamedInputs N) → Tokens (named_further is)
        → AreGiven p is
    given_further unnamed h = tt
    given_further (named name arrow e is) h = (
      h.1.0,
      expr e (front (tokens_of e) _ h.1.1.1),
      given_further is (rest (tokens_of e) _ h.1.1.1),
    )

  -- lists
  module _ {A : Type 0} (print : A → List TokenKind) (Q : A → Type 0)
      (each : (x : A) → Tokens (print x) → Q x) where
    more_of : (xs : List A) → Tokens (further_tokens print xs) → AllByRecursion Q xs
    more_of [] h = tt
    more_of (x ∷ xs) h =
        (each x (front (print x) _ h.1), more_of xs (rest (print x) _ h.1))

    all_of : (xs : List A) → Tokens (list_tokens print xs) → AllByRecursion Q xs
    all_of [] h = tt
    all_of (x ∷ xs) h = (each x (front (print x) _ h), more_of xs (rest (print x) _ h))

  names : (xs : List (List ℕ)) → Tokens (list_tokens name_tokens xs)
      → AllByRecursion (Passes p) xs
  names = all_of name_tokens (Passes p) (λ name h. h.0)

  -- declarations
  dimensions : {N : Type 0} (es : Exprs N) → Tokens (dimension_tokens es) → AreNamed p es
  dimensions none h = tt
  dimensions (more e es) h = (
    expr e (front (tokens_of e) _ h.1),
    dimensions es (behind (tokens_of e) symbol.CloseBracket _ h.1),
  )

  option : {N : Type 0} (o : Option (Expr N)) → Tokens (value_tokens o) → IsNamedOption p o
  option None h = tt
  option (Some e) h = expr e h.1

  variable : {N : Type 0} (v : Variable N) → Tokens (variable_tokens v) → IsNamedVariable p v
  variable v h = (
    h.0,
    dimensions v.dimensions (front (dimension_tokens v.dimensions) _ h.1),
    option v.value (rest (dimension_tokens v.dimensions) _ h.1),
  )

  value : {N : Type 0} (v : SignalValue N) → Tokens (signal_value_tokens v) → IsNamedValue p v
  value Nothing h = tt
  value (Given arrow e) h = expr e h.1

  signal : {N : Type 0} (s : Signal N) → Tokens (signal_tokens s) → IsNamedSignal p s
  signal s h = (
    h.0,
    dimensions s.dimensions (front (dimension_tokens s.dimensions) _ h.1),
    value s.value (rest (dimension_tokens s.dimensions) _ h.1),
  )

  component : {N : Type 0} (c : Component N) → Tokens (component_tokens c)
      → IsNamedComponent p c
  component c h = (h.0, dimensions c.dimensions h.1)

  variables : {N : Type 0} (vs : List (Variable N)) → Tokens (vars_tokens vs)
      → AllByRecursion (IsNamedVariable p) vs
  variables vs h = all_of variable_tokens (IsNamedVariable p) variable vs h.1

  -- assignments
  place : {N : Type 0} (name : List ℕ) (xs : Accessors N) → Tokens (place_tokens name xs)
      → Passes p name × AreAccessors p xs
  place name xs h = (h.0, accessors_named xs h.1)

  written : {N : Type 0} (name : List ℕ) (xs : Accessors N) (s : Symbol) (e : Expr N)
      → Tokens (written_tokens name xs s e) → Passes p name × AreAccessors p xs × IsNamed p e
  written name xs s e h =
      let one : Passes p name × AreAccessors p xs =
      place name xs (front (place_tokens name xs) _ h) in
      (one.0, one.1, expr e (behind (place_tokens name xs) s _ h))

  assign : {N : Type 0} (a : Assign N) → Tokens (assign_tokens a) → IsNamedAssign p a
  assign (Set name m xs e) h = written name xs symbol.Equal e h
  assign (Compound name m xs op e) h = written name xs (compound_symbol op) e h
  assign (Left name m xs arrow e) h = written name xs (left_symbol arrow) e h
  assign (Increment name m xs) h = place name xs (front (place_tokens name xs) _ h)
  assign (Decrement name m xs) h = place name xs (front (place_tokens name xs) _ h)

  first : {N : Type 0} (f : First N) → Tokens (first_tokens f) → IsNamedFirst p f
  first (FirstVars vs) h = variables vs h
  first (FirstAssign a) h = assign a h

  argument : {N : Type 0} (a : LogArgument N) → Tokens (argument_tokens a) → IsNamedArgument p a
  argument (Words text) h = tt
  argument (LogValue e) h = expr e h

  slot : {N : Type 0} (x : Slot N) → Tokens (slot_tokens x) → IsNamedSlot p x
  slot (SlotPlace name m xs) h = place name xs h
  slot SlotDiscard h = tt

  target : {N : Type 0} (t : Target N) → Tokens (target_tokens t) → IsNamedTarget p t
  target Discard h = tt
  target (Slots xs) h =
      all_of slot_tokens (IsNamedSlot p) slot xs (inside (list_tokens slot_tokens xs) h)

  source : {N : Type 0} (s : Source N) → Tokens (source_tokens s) → IsNamedSource p s
  source (One e) h = expr e h
  source (Values es) h =
      all_of tokens_of (IsNamed p) expr es (inside (list_tokens tokens_of es) h)

  simple : {N : Type 0} (x : Simple N) → Tokens (simple_tokens x) → IsNamedSimple p x
  simple (Vars vs) h = variables vs h
  simple (Signals d xs) h =
      all_of signal_tokens (IsNamedSignal p) signal xs (rest (direction_tokens d) _ h.1)
  simple (Declared cs) h = all_of component_tokens (IsNamedComponent p) component cs h.1
  simple (Created name m e) h = (h.1.0, expr e h.1.1.1)
  simple (Assigned a) h = assign a h
  simple (Constrain a b) h =
      (expr a (front (tokens_of a) _ h), expr b (behind (tokens_of a) symbol.Constrain _ h))
  simple (Right e arrow name m xs) h =
      let two : Passes p name × AreAccessors p xs =
      place name xs (behind (tokens_of e) (right_symbol arrow) _ h) in
      (expr e (front (tokens_of e) _ h), two.0, two.1)
  simple (TargetLeft t arrow s) h = (
    target t (front (target_tokens t) _ h),
    source s (behind (target_tokens t) (left_symbol arrow) _ h),
  )
  simple (TargetRight s arrow t) h = (
    source s (front (source_tokens s) _ h),
    target t (behind (source_tokens s) (right_symbol arrow) _ h),
  )
  simple (Alone parallel name m arguments given) h =
      expr (Anonymous parallel name m arguments given) h

  -- statements
  mutual
    statement : {S N : Type 0} (a : Statement S N) → Tokens (statement_tokens a)
        → IsNamedStatement p a
    statement (Block spot ss) h = statements ss (front (statements_tokens ss) _ h.1)
    statement (If spot c a) h = (
      expr c (inside (tokens_of c) (front (enclosed (tokens_of c)) _ h.1)),
      statement a (rest (enclosed (tokens_of c)) _ h.1),
    )
    statement (IfElse spot c a b) h =
        let r : Tokens (statement_tokens a ++ token.Reserved word.Else ∷ statement_tokens b) =
        rest (enclosed (tokens_of c)) _ h.1 in (
          expr c (inside (tokens_of c) (front (enclosed (tokens_of c)) _ h.1)),
          statement a (front (statement_tokens a) _ r),
          statement b (rest (statement_tokens a) _ r).1,
        )
    statement (While spot c a) h = (
      expr c (inside (tokens_of c) (front (enclosed (tokens_of c)) _ h.1)),
      statement a (rest (enclosed (tokens_of c)) _ h.1),
    )
    statement (For spot first_spot f c step_spot a body) h =
        let head : Tokens (for_tokens f c a) =
        inside (for_tokens f c a) (front (enclosed (for_tokens f c a)) _ h.1) in
        let behind_first : Tokens (ended (tokens_of c) ++ assign_tokens a) =
        rest (ended (first_tokens f)) _ head in (
          first f (before_end (first_tokens f) (front (ended (first_tokens f)) _ head)),
          expr c (before_end (tokens_of c) (front (ended (tokens_of c)) _ behind_first)),
          assign a (rest (ended (tokens_of c)) _ behind_first),
          statement body (rest (enclosed (for_tokens f c a)) _ h.1),
        )
    statement (Return spot e) h = expr e (before_end (tokens_of e) h.1)
    statement (Assert spot e) h =
        expr e (inside (tokens_of e) (before_end (enclosed (tokens_of e)) h.1))
    statement (Log spot arguments) h =
        all_of argument_tokens (IsNamedArgument p) argument arguments
        (inside (list_tokens argument_tokens arguments)
        (before_end (enclosed (list_tokens argument_tokens arguments)) h.1))
    statement (Ended spot x) h = simple x (before_end (simple_tokens x) h)

    statements : {S N : Type 0} (ss : Statements S N) → Tokens (statements_tokens ss)
        → AreNamedStatements p ss
    statements empty h = tt
    statements (then_more a ss) h =
        let one : IsNamedStatement p a = statement a (front (statement_tokens a) _ h) in
        (one, statements ss (rest (statement_tokens a) _ h))

  -- items
  block : {S N : Type 0} (ss : Statements S N) → Tokens (block_tokens ss)
      → AreNamedStatements p ss
  block ss h = statements ss (front (statements_tokens ss) _ h.1)

  public_names : (xs : List (List ℕ)) → Tokens (public_tokens xs)
      → AllByRecursion (Passes p) xs
  public_names [] h = tt
  public_names (x ∷ xs) h =
      names (x ∷ xs) (front (list_tokens name_tokens (x ∷ xs)) _ h.1.1.1)

  definition : {S N : Type 0} (name : List ℕ) (parameters : List (List ℕ)) (ss : Statements S N)
      → Tokens (token.Name name ∷ (enclosed (list_tokens name_tokens parameters)
      ++ block_tokens ss))
      → Passes p name × AllByRecursion (Passes p) parameters × AreNamedStatements p ss
  definition name parameters ss h = (
    h.0,
    names parameters (inside (list_tokens name_tokens parameters)
        (front (enclosed (list_tokens name_tokens parameters)) _ h.1)),
    block ss (rest (enclosed (list_tokens name_tokens parameters)) _ h.1),
  )

  item : {S N : Type 0} (i : Item S N) → Tokens (item_tokens i) → IsNamedItem p i
  item (Pragma spot major minor patch) h = tt
  item (Include spot name) h = tt
  item (Template spot parallel name parameters ss) h =
      definition name parameters ss (rest (parallel_tokens parallel) _ h.1)
  item (Function spot name parameters ss) h = definition name parameters ss h.1
  item (Main spot xs template m arguments) h =
      let r : Tokens (token.Symbol symbol.Equal ∷ token.Name template
      ∷ ended (enclosed (listed arguments))) = rest (public_tokens xs) _ h.1.1 in (
        public_names xs (front (public_tokens xs) _ h.1.1),
        r.1.0,
        exprs arguments
            (inside (listed arguments) (before_end (enclosed (listed arguments)) r.1.1)),
      )

  pub file : {S N : Type 0} (items : File S N) → Tokens (file_tokens items)
      → AllByRecursion (IsNamedItem p) items
  file [] h = tt
  file (i ∷ is) h = (item i (front (item_tokens i) _ h), file is (rest (item_tokens i) _ h))
