-- Anonymous components as components with a name: a simple statement that holds some is preceded by
-- statements that create each and write its inputs, and has in their places the outputs of these
-- components. They come in the order of their first tokens, an inner one before the one that holds
-- it.
use Rattle.std.specs.Prelude.{ℕ, ◌+◌, ◌-◌, Bool, true, false, if◌then◌else◌, List, [], ◌∷◌, ◌++◌}
use Rattle.std.specs.Prelude.{map, Option, Some, None, slice_get, slice_index_or, codes, decimal}
use Rattle.cir_ast.specs.declared.program.Spot.{Spot}
use Rattle.cir_ast.specs.declared.program.Meant.{Meant}
use Rattle.cir_ast.specs.declared.program.Meant.TheVariants as meant
use Rattle.cir_ast.specs.declared.operators.Arrow.{Arrow}
use Rattle.cir_ast.specs.declared.operators.Arrow.TheVariants.{Constrain as ConstrainArrow}
use Rattle.cir_ast.specs.declared.operators.Direction.{Direction}
use Rattle.cir_ast.specs.declared.operators.Direction.TheVariants.{Inner, Input, Output}
use Rattle.cir_ast.specs.Program.{Program}
use Rattle.cir_ast.specs.Tree.{Expr, Number, Place, Call, Anonymous, Parentheses, Array, Unary}
use Rattle.cir_ast.specs.Tree.{Binary, Choice, Exprs, none, more, done, member, Inputs, Listed}
use Rattle.cir_ast.specs.Tree.{Named, NamedInputs, unnamed, named, SignalValue, Nothing, Given}
use Rattle.cir_ast.specs.Tree.{Left, Target, Discard, Slots, Source, One, Values, Simple, Vars}
use Rattle.cir_ast.specs.Tree.{Signals, Declared, Created, Assigned, Constrain, Right, TargetLeft}
use Rattle.cir_ast.specs.Tree.{TargetRight, Alone, Statement, Ended, Statements, empty, then_more}

-- the names of this direction that a template declares in its outermost block, in order
abbrev pub is_same : Direction → Direction → Bool
is_same Inner Inner = true
is_same Input Input = true
is_same Output Output = true
is_same _ _ = false

abbrev pub declared_here : Direction → Statement Spot Meant → List (List ℕ)
declared_here d (Ended spot (Signals e signals)) =
    if is_same d e then map (λ s. s.name) signals else []
declared_here d _ = []

abbrev pub declared_in : Direction → Statements Spot Meant → List (List ℕ)
declared_in d empty = []
declared_in d (then_more s ss) = declared_here d s ++ declared_in d ss

abbrev pub names_of : Direction → Program → Meant → List (List ℕ)
names_of d p (meant.Template t) = of_template (slice_get p.templates t)
  where
    of_template : Option Rattle.cir_ast.specs.Program.Template → List (List ℕ)
    of_template None = []
    of_template (Some t) = declared_in d t.body
names_of d p _ = []

-- what has been replaced, the statements before it, and the number of the next component
pub record Lifted (A : Type 0) : Type 0 where
  pub before : List (Simple Meant)
  pub value : A
  pub next : ℕ

abbrev pub same : {A : Type 0} → A → ℕ → Lifted A
same a n = record { before = []; value = a; next = n }

-- one after the other
abbrev pub then_lift : {A B : Type 0} → Lifted A → (A → ℕ → Lifted B) → Lifted B
then_lift l go =
    let r : Lifted _ = go l.value l.next in record {
      before = l.before ++ r.before;
      value = r.value;
      next = r.next;
    }

-- component number n of the body, without a name, and its signals
abbrev pub own_name : ℕ → List ℕ
own_name k = codes "@" ++ decimal k

abbrev pub signal_of : (k n : ℕ) → List ℕ → Expr Meant
signal_of k n name = Place (own_name k) (meant.Component n) (member name done)

-- an input of it is written
abbrev pub input_write : (k n : ℕ) → List ℕ → Arrow → Expr Meant → Simple Meant
input_write k n name arrow e =
    Assigned (Left (own_name k) (meant.Component n) (member name done) arrow e)

-- listed inputs are written by `<==`, in order of declaration
abbrev pub listed_writes : (k n : ℕ) → List (List ℕ) → Exprs Meant → List (Simple Meant)
listed_writes k n [] es = []
listed_writes k n (name ∷ names) none = []
listed_writes k n (name ∷ names) (more e es) =
    input_write k n name ConstrainArrow e ∷ listed_writes k n names es

abbrev pub named_writes : (k n : ℕ) → NamedInputs Meant → List (Simple Meant)
named_writes k n unnamed = []
named_writes k n (named name arrow e is) = input_write k n name arrow e ∷ named_writes k n is

abbrev pub input_writes : Program → (k n : ℕ) → Meant → Inputs Meant → List (Simple Meant)
input_writes p k n t (Listed es) = listed_writes k n (names_of Input p t) es
input_writes p k n t (Named is) = named_writes k n is

-- the creation of T@k, then its inputs. `first` components of the body have names.
abbrev pub made_known : Program → (first n : ℕ) → Bool → List ℕ → Meant → Exprs Meant → Inputs Meant
    → List (Simple Meant)
made_known p first n parallel name t arguments inputs =
    Created (name ++ own_name (n - first)) (meant.Component n) (Call parallel name t arguments) ∷
    input_writes p (n - first) n t inputs

abbrev pub created : Program → (first : ℕ) → Bool → List ℕ → Meant → Exprs Meant → Inputs Meant → ℕ
    → Lifted (List (Expr Meant))
created p first parallel name t arguments inputs n = record {
  before = made_known p first n parallel name t arguments inputs;
  value = map (signal_of (n - first) n) (names_of Output p t);
  next = n + 1;
}

-- as a value it stands for its output
abbrev pub only : List (Expr Meant) → Expr Meant
only es = slice_index_or es 0 (Number 0)

-- an index, a dimension and an argument hold none; nor does what isn't always looked at
abbrev mutual
  pub lift : Program → (first : ℕ) → Expr Meant → ℕ → Lifted (Expr Meant)
  lift p first (Number i) n = same (Number i) n
  lift p first (Place name m accessors) n = same (Place name m accessors) n
  lift p first (Call parallel name m arguments) n = same (Call parallel name m arguments) n
  lift p first (Anonymous parallel name m arguments inputs) n =
      then_lift (lift_inputs p first inputs n) (λ is n1.
      then_lift (created p first parallel name m arguments is n1)
      (λ outputs n2. same (only outputs) n2))
  lift p first (Parentheses e) n = then_lift (lift p first e n) (λ x n1. same (Parentheses x) n1)
  lift p first (Array es) n = then_lift (lift_all p first es n) (λ xs n1. same (Array xs) n1)
  lift p first (Unary op a) n = then_lift (lift p first a n) (λ x n1. same (Unary op x) n1)
  lift p first (Binary op a b) n =
      then_lift (lift p first a n) (λ x n1. then_lift (lift p first b n1)
      (λ y n2. same (Binary op x y) n2))
  lift p first (Choice c a b) n = then_lift (lift p first c n) (λ x n1. same (Choice x a b) n1)

  pub lift_all : Program → ℕ → Exprs Meant → ℕ → Lifted (Exprs Meant)
  lift_all p first none n = same none n
  lift_all p first (more e es) n =
      then_lift (lift p first e n) (λ x n1. then_lift (lift_all p first es n1)
      (λ xs n2. same (more x xs) n2))

  pub lift_inputs : Program → ℕ → Inputs Meant → ℕ → Lifted (Inputs Meant)
  lift_inputs p first (Listed es) n =
      then_lift (lift_all p first es n) (λ xs n1. same (Listed xs) n1)
  lift_inputs p first (Named is) n =
      then_lift (lift_named p first is n) (λ xs n1. same (Named xs) n1)

  pub lift_named : Program → ℕ → NamedInputs Meant → ℕ → Lifted (NamedInputs Meant)
  lift_named p first unnamed n = same unnamed n
  lift_named p first (named name arrow e is) n =
      then_lift (lift p first e n) (λ x n1. then_lift (lift_named p first is n1)
      (λ xs n2. same (named name arrow x xs) n2))

-- one anonymous component as the value of a tuple or of `_` stands for all its outputs
abbrev pub lift_values : Program → ℕ → Expr Meant → ℕ → Lifted (List (Expr Meant))
lift_values p first (Parentheses e) n = lift_values p first e n
lift_values p first (Anonymous parallel name m arguments inputs) n =
    then_lift (lift_inputs p first inputs n) (λ is n1. created p first parallel name m arguments is
    n1)
lift_values p first e n = then_lift (lift p first e n) (λ x n1. same (x ∷ []) n1)

abbrev pub lift_each : {A : Type 0} → (A → ℕ → Lifted A) → List A → ℕ → Lifted (List A)
lift_each f [] n = same [] n
lift_each f (a ∷ as') n =
    then_lift (f a n) (λ x n1. then_lift (lift_each f as' n1) (λ xs n2. same (x ∷ xs) n2))

-- what `_` drops isn't read of an anonymous component
abbrev pub lift_source : Program → ℕ → Target Meant → Source Meant → ℕ → Lifted (Source Meant)
lift_source p first target (Values es) n =
    then_lift (lift_each (lift p first) es n) (λ xs n1. same (Values xs) n1)
lift_source p first (Slots slots) (One e) n =
    then_lift (lift_values p first e n) (λ xs n1. same (Values xs) n1)
lift_source p first Discard (One e) n =
    then_lift (lift p first e n) (λ x n1. same (Values (kept e x)) n1)
  where
    kept : Expr Meant → Expr Meant → List (Expr Meant)
    kept (Parentheses e) x = kept e x
    kept (Anonymous parallel name m arguments inputs) x = []
    kept _ x = x ∷ []

abbrev pub lift_value : Program → ℕ → SignalValue Meant → ℕ → Lifted (SignalValue Meant)
lift_value p first Nothing n = same Nothing n
lift_value p first (Given arrow e) n =
    then_lift (lift p first e n) (λ x n1. same (Given arrow x) n1)

-- `e ==> p` is `p <== e`, and so for `-->` and for tuples; an anonymous component alone leaves
-- nothing to do
abbrev pub lift_simple : Program → ℕ → Simple Meant → ℕ → Lifted (Simple Meant)
lift_simple p first (Vars vs) n = same (Vars vs) n
lift_simple p first (Signals d signals) n =
    then_lift (lift_each (λ s n1. then_lift (lift_value p first s.value n1)
    (λ v n2. same (record s { value = v }) n2)) signals n)
    (λ xs n1. same (Signals d xs) n1)
lift_simple p first (Declared cs) n = same (Declared cs) n
lift_simple p first (Created name m e) n = same (Created name m e) n
lift_simple p first (Assigned (Left name m accessors arrow e)) n =
    then_lift (lift p first e n) (λ x n1. same (Assigned (Left name m accessors arrow x)) n1)
lift_simple p first (Assigned a) n = same (Assigned a) n
lift_simple p first (Constrain a b) n =
    then_lift (lift p first a n) (λ x n1. then_lift (lift p first b n1)
    (λ y n2. same (Constrain x y) n2))
lift_simple p first (Right e arrow name m accessors) n =
    then_lift (lift p first e n) (λ x n1. same (Assigned (Left name m accessors arrow x)) n1)
lift_simple p first (TargetLeft target arrow source) n =
    then_lift (lift_source p first target source n) (λ x n1. same (TargetLeft target arrow x) n1)
lift_simple p first (TargetRight source arrow target) n =
    then_lift (lift_source p first target source n) (λ x n1. same (TargetLeft target arrow x) n1)
lift_simple p first (Alone parallel name m arguments inputs) n =
    then_lift (lift_inputs p first inputs n) (λ is n1.
    then_lift (created p first parallel name m arguments is n1)
    (λ outputs n2. same (TargetLeft Discard ConstrainArrow (Values [])) n2))
