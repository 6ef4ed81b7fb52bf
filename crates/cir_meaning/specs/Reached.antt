-- Functions that are called when the program runs: which are reached, that they return numbers,
-- that their dimensions are numbers as they are written, and that array literals stand where they
-- may.
use Rattle.std.specs.Prelude.{ℕ, zero, suc, ◌+◌, ◌-◌, ◌==◌, ◌^◌, Bool, true, false, not, ◌&&◌, ◌||◌}
use Rattle.std.specs.Prelude.{if◌then◌else◌, nat_le, List, [], ◌∷◌, ◌++◌, map, filter, flat_map}
use Rattle.std.specs.Prelude.{length, Option, Some, None, is_none, slice_get, unwrap_or, bytes_eq}
use Rattle.std.specs.List.{list_any, list_all}
use Rattle.cir_ast.specs.declared.program.Spot.{Spot}
use Rattle.cir_ast.specs.declared.program.Meant.{Meant}
use Rattle.cir_ast.specs.declared.program.Meant.TheVariants as meant
use Rattle.cir_ast.specs.Program.{Program, Function}
use Rattle.cir_ast.specs.Tree.{Expr, Number, Place, Call, Anonymous, Parentheses, Array, Unary}
use Rattle.cir_ast.specs.Tree.{Binary, Choice, Exprs, none, more, Accessors, done, index, member}
use Rattle.cir_ast.specs.Tree.{Variable, Statements, empty}
use Rattle.cir_meaning.specs.Arrays.{Want, Scalar, Whole}
use Rattle.cir_meaning.specs.Evaluate.{is_literal}
use Rattle.cir_meaning.specs.Unknown.{variable_of}
use Rattle.cir_meaning.specs.Costs.{Made}
use Rattle.cir_meaning.specs.Texts.{list_of, all_wanted, all_returned, all_variables, calls_in}
use Rattle.cir_meaning.specs.Texts.{literal_number}

abbrev pub body_of : Program → ℕ → Statements Spot Meant
body_of p f = of_function (slice_get p.functions f)
  where
    of_function : Option Function → Statements Spot Meant
    of_function None = empty
    of_function (Some f) = f.body

-- the dimensions of a variable: those of its argument, or those of its declaration
abbrev pub declaration_of : ℕ → List (Variable Meant) → List (Expr Meant)
declaration_of n [] = []
declaration_of n (v ∷ vs) =
    if list_any (λ m. m == n) (variable_of v.meant) then list_of v.dimensions else declaration_of n
    vs

-- a rank is a number of dimensions
abbrev pub variable_rank : List ℕ → List (Variable Meant) → ℕ → ℕ
variable_rank arguments vs n = unwrap_or (slice_get arguments n) (length (declaration_of n vs))

abbrev pub indices_count : Accessors Meant → ℕ
indices_count done = 0
indices_count (index e rest) = 1 + indices_count rest
indices_count (member name rest) = indices_count rest

-- a call counts as a number, since its function is looked at by itself
abbrev pub rank_of : (ℕ → ℕ) → Expr Meant → ℕ
rank_of ranks (Parentheses e) = rank_of ranks e
rank_of ranks (Place name (meant.Variable n) accessors) = ranks n - indices_count accessors
rank_of ranks (Array (more e es)) = 1 + rank_of ranks e
rank_of ranks _ = 0

-- a function with a number for each argument: its rank, or a number that stands for its shape
pub record RankedCall : Type 0 where
  pub function : ℕ
  pub ranks : List ℕ

abbrev pub same_call : RankedCall → RankedCall → Bool
same_call c d = (c.function == d.function) && bytes_eq c.ranks d.ranks

-- what is reached from calls, each once, round by round; `rounds` are more than a machine makes
abbrev pub new_ones : {A : Type 0} → (A → A → Bool) → List A → List A → List A
new_ones same known [] = []
new_ones same known (a ∷ as') =
    if list_any (same a) known then new_ones same known as' else a ∷ new_ones same (a ∷ known) as'

abbrev pub reached : {A : Type 0} → (rounds : ℕ) → (A → A → Bool) → (A → List A)
    → (known latest : List A) → List A
reached zero same calls known latest = known
reached (suc rounds) same calls known [] = known
reached (suc rounds) same calls known (a ∷ as') =
    let fresh : List _ = new_ones same known (flat_map calls (a ∷ as')) in reached rounds same calls
    (known ++ fresh) fresh

unfoldable pub rounds : ℕ
rounds = 2 ^ 64

abbrev pub all_reached : {A : Type 0} → (A → A → Bool) → (A → List A) → List A → List A
all_reached same calls first =
    let start : List _ = new_ones same [] first in reached rounds same calls start start

-- the first rule. Through a call with an array literal among its arguments, which breaks the third
-- rule, ranks above 300 aren't followed.
abbrev pub is_followed : (Expr Meant → ℕ) → List (Expr Meant) → Bool
is_followed rank es = not (list_any is_literal es) || list_all (λ e. nat_le (rank e) 300) es

abbrev pub ranked_calls : Program → RankedCall → List RankedCall
ranked_calls p c =
    let rank : Expr Meant → ℕ =
    rank_of (variable_rank c.ranks (all_variables (body_of p c.function))) in
    map (λ d. record { function = d.function; ranks = map rank d.arguments })
    (filter (λ d. is_followed rank d.arguments) (calls_in (body_of p c.function)))

abbrev pub returns_array : Program → RankedCall → Bool
returns_array p c =
    list_any (λ e. not (rank_of (variable_rank c.ranks (all_variables (body_of p c.function)))
    e == 0)) (all_returned (body_of p c.function))

abbrev pub has_run_array : Program → List Made → Bool
has_run_array p made =
    list_any (returns_array p) (all_reached same_call (ranked_calls p)
    (map (λ m. record { function = m.function; ranks = map length m.shapes }) made))

-- the second rule, over all functions that any call in the text reaches
abbrev pub functions_reached : Program → List Made → List ℕ
functions_reached p made =
    all_reached ◌==◌ (λ f. map (λ c. c.function) (calls_in (body_of p f)))
    (map (λ m. m.function) made)

abbrev pub has_run_dimension : Program → List Made → Bool
has_run_dimension p made =
    list_any (λ f. list_any (λ v. list_any (λ e. is_none (literal_number e)) (list_of v.dimensions))
    (all_variables (body_of p f)))
    (functions_reached p made)

-- the third rule: a literal stands as the whole value of an assignment or of `return`, or in
-- another literal
abbrev mutual
  pub is_misplaced : Want → Expr Meant → Bool
  is_misplaced want (Number n) = false
  is_misplaced want (Place name m accessors) = index_misplaced accessors
  is_misplaced want (Call parallel name m arguments) = argument_misplaced arguments
  is_misplaced want (Anonymous parallel name m arguments inputs) = false
  is_misplaced want (Parentheses e) = is_misplaced want e
  is_misplaced Scalar (Array elements) = true
  is_misplaced Whole (Array elements) = any_misplaced elements
  is_misplaced want (Unary op a) = is_misplaced Scalar a
  is_misplaced want (Binary op a b) = is_misplaced Scalar a || is_misplaced Scalar b
  is_misplaced want (Choice c a b) =
      is_misplaced Scalar c || (is_misplaced Scalar a || is_misplaced Scalar b)

  pub any_misplaced : Exprs Meant → Bool
  any_misplaced none = false
  any_misplaced (more e es) = is_misplaced Whole e || any_misplaced es

  pub argument_misplaced : Exprs Meant → Bool
  argument_misplaced none = false
  argument_misplaced (more e es) = is_literal e || (is_misplaced Whole e || argument_misplaced es)

  pub index_misplaced : Accessors Meant → Bool
  index_misplaced done = false
  index_misplaced (index e rest) = is_misplaced Scalar e || index_misplaced rest
  index_misplaced (member name rest) = index_misplaced rest

abbrev pub has_misplaced : Program → List Made → Bool
has_misplaced p made =
    list_any (λ f. list_any (λ x. is_misplaced x.want x.expr) (all_wanted (body_of p f)))
    (functions_reached p made)
