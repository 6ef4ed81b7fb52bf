-- The number of an expression when it runs. Names are read in an environment, and units are spent
-- on calls. A stop has the number that the witness machine gives it.
use Rattle.std.specs.Prelude.{ℕ, ◌%◌, Bool, true, false, not, if◌then◌else◌, ◌==◌, List, [], ◌∷◌}
use Rattle.std.specs.Prelude.{◌++◌, map, flat_map, length, Option, Some, None, Result, Ok, Err}
use Rattle.std.specs.Prelude.{slice_get, slice_index, unwrap_or}
use Rattle.gold_field.specs.declared.gold.TheConstants.{P}
use Rattle.gold_field.specs.Operators.{unary_of as number_by, binary_of}
use Rattle.cir_ast.specs.declared.program.Meant.{Meant}
use Rattle.cir_ast.specs.declared.program.Meant.TheVariants as meant
use Rattle.cir_ast.specs.Tree.{Expr, Number, Place, Call, Anonymous, Parentheses, Array, Unary}
use Rattle.cir_ast.specs.Tree.{Binary, Choice, Exprs, none, more, Accessors, done, index, member}
use Rattle.cir_meaning.specs.Tried.{next}
use Rattle.cir_meaning.specs.Places.{left_of, is_inside, places_of}
use Rattle.cir_meaning.specs.Arrays.{Shaped, single, made}
use Rattle.cir_meaning.specs.Values.{and_number, or_number}
use Rattle.cir_meaning.specs.Operators.{Operator, Strict, And, Or, operator_of, unary_of}

abbrev pub constraint_fails : ℕ
constraint_fails = 1

abbrev pub assert_fails : ℕ
assert_fails = 2

abbrev pub zero_divisor : ℕ
zero_divisor = 3

abbrev pub index_out : ℕ
index_out = 4

abbrev pub fuel_spent : ℕ
fuel_spent = 5

abbrev pub too_deep : ℕ
too_deep = 6

-- a value that isn't there; no accepted program reads one
abbrev pub missing : ℕ
missing = 0

-- an answer with the units that are left, or a stop
abbrev pub Ran : Type 0 → Type 0
Ran A = Result (A × ℕ) ℕ

abbrev pub Numbers : Type 0
Numbers = Shaped ℕ

-- what names mean besides variables: own signals by number, signals of components by the
-- component's number, its indices and the name; the calls that have their value already; and how
-- other calls are made
pub record Environment : Type 0 where
  pub signal : ℕ → Option (Shaped (Option ℕ))
  pub part : ℕ → List ℕ → List ℕ → Result (Shaped (Option ℕ)) ℕ
  pub known : Expr Meant → Option Numbers
  pub call : ℕ → List Numbers → ℕ → Ran Numbers

-- the variables by number
abbrev pub Store : Type 0
Store = List Numbers

abbrev pub stored : Store → ℕ → Numbers
stored store n = unwrap_or (slice_get store n) (single 0)

abbrev pub the_number : Numbers → ℕ
the_number d = slice_index d.items 0

abbrev pub gives : {A : Type 0} → A → ℕ → Ran A
gives a units = Ok (a, units)

-- a number that was wanted
abbrev pub number : {A : Type 0} → Ran Numbers → (ℕ → ℕ → Ran A) → Ran A
number m go = next m (λ (d, units). go (the_number d) units)

-- the part that indices mean; each is tested against its dimension
abbrev pub bounded : {A : Type 0} → List ℕ → List ℕ → (List ℕ → List ℕ → Result A ℕ) → Result A ℕ
bounded dims indices go =
    if is_inside dims (map Some indices) then go (unwrap_or (left_of dims (map Some indices)) [])
    (places_of dims (map Some indices)) else Err index_out

-- every number that is read must be there
abbrev pub all_there : List (Option ℕ) → Result (List ℕ) ℕ
all_there [] = Ok []
all_there (None ∷ rest) = Err missing
all_there (Some n ∷ rest) = next (all_there rest) (λ ns. Ok (n ∷ ns))

-- elements that were not made read as 0
abbrev pub option_at : List (Option ℕ) → ℕ → Option ℕ
option_at items k = unwrap_or (slice_get items k) (Some 0)

abbrev pub read_stored : Numbers → List ℕ → ℕ → Ran Numbers
read_stored d indices units =
    bounded d.dims indices (λ left places. gives (made left (map (slice_index d.items) places))
    units)

abbrev pub read_wired : Shaped (Option ℕ) → List ℕ → ℕ → Ran Numbers
read_wired d indices units =
    bounded d.dims indices (λ left places. next (all_there (map (option_at d.items) places))
    (λ items. gives (made left items) units))

-- what stands in front of indices
pub data RunRoot : Type 0 where
  RunNamed : Meant → RunRoot
  RunFound : Shaped (Option ℕ) → RunRoot

abbrev pub read_option : Option (Shaped (Option ℕ)) → List ℕ → ℕ → Ran Numbers
read_option None indices units = Err missing
read_option (Some d) indices units = read_wired d indices units

abbrev pub read_root : Environment → Store → RunRoot → List ℕ → ℕ → Ran Numbers
read_root env store (RunFound d) indices units = read_wired d indices units
read_root env store (RunNamed (meant.Variable n)) indices units =
    read_stored (stored store n) indices units
read_root env store (RunNamed (meant.Signal direction n)) indices units =
    read_option (env.signal n) indices units
read_root env store (RunNamed meant.Other) indices units = Err missing
read_root env store (RunNamed (meant.Component n)) indices units = Err missing
read_root env store (RunNamed (meant.Template n)) indices units = Err missing
read_root env store (RunNamed (meant.Function n)) indices units = Err missing

abbrev pub inner_root : Environment → RunRoot → List ℕ → List ℕ → Result (Shaped (Option ℕ)) ℕ
inner_root env (RunNamed (meant.Component n)) indices name = env.part n indices name
inner_root env _ indices name = Err missing

abbrev pub gathered_numbers : List Numbers → Numbers
gathered_numbers [] = single 0
gathered_numbers (d ∷ ds) = made (length (d ∷ ds) ∷ d.dims) (flat_map (λ e. e.items) (d ∷ ds))

abbrev pub call_function : Environment → Meant → List Numbers → ℕ → Ran Numbers
call_function env (meant.Function f) ds units = env.call f ds units
call_function env _ ds units = Err missing

-- a call that has its value isn't made
abbrev pub unless_known : Option Numbers → ℕ → Ran Numbers → Ran Numbers
unless_known (Some d) units call = gives d units
unless_known None units call = call

-- a zero divisor stops
abbrev pub unless_zero_divisor : Option ℕ → Result ℕ ℕ
unless_zero_divisor None = Err zero_divisor
unless_zero_divisor (Some n) = Ok n

-- the right operand of `&&` and `||` is evaluated where the left one doesn't decide
abbrev pub needs_right : Operator → ℕ → Bool
needs_right (Strict op) m = true
needs_right And m = not (m == 0)
needs_right Or m = m == 0

abbrev pub result_number : Operator → ℕ → ℕ → Result ℕ ℕ
result_number (Strict op) m n = unless_zero_divisor (binary_of op m n)
result_number And m n = Ok (and_number m n)
result_number Or m n = Ok (or_number m n)

abbrev pub when : Bool → ℕ → Ran Numbers → Ran Numbers
when true units m = m
when false units m = gives (single 0) units

abbrev mutual
  pub number_in : Environment → Store → Expr Meant → ℕ → Ran Numbers
  number_in env store (Number n) units = gives (single (n % P)) units
  number_in env store (Place name m accessors) units =
      place_in env store (RunNamed m) [] accessors units
  number_in env store (Call parallel name m arguments) units =
      unless_known (env.known (Call parallel name m arguments)) units
      (next (numbers_in env store arguments units) (λ (ds, u1). call_function env m ds u1))
  number_in env store (Anonymous parallel name m arguments inputs) units = Err missing
  number_in env store (Parentheses e) units = number_in env store e units
  number_in env store (Array elements) units =
      next (numbers_in env store elements units) (λ (ds, u1). gives (gathered_numbers ds) u1)
  number_in env store (Unary op a) units =
      number (number_in env store a units) (λ m u1. gives (single (number_by (unary_of op) m)) u1)
  number_in env store (Binary op a b) units =
      number (number_in env store a units) (λ m u1.
      number (when (needs_right (operator_of op) m) u1 (number_in env store b u1)) (λ n u2.
      next (result_number (operator_of op) m n) (λ x. gives (single x) u2)))
  number_in env store (Choice c a b) units =
      number (number_in env store c units) (λ m u1.
      number (if m == 0 then number_in env store b u1 else number_in env store a u1) (λ n u2.
      gives (single n) u2))

  pub numbers_in : Environment → Store → Exprs Meant → ℕ → Ran (List Numbers)
  numbers_in env store none units = gives [] units
  numbers_in env store (more e es) units =
      next (number_in env store e units) (λ (d, u1). next (numbers_in env store es u1)
      (λ (ds, u2). gives (d ∷ ds) u2))

  pub place_in : Environment → Store → RunRoot → List ℕ → Accessors Meant → ℕ → Ran Numbers
  place_in env store root indices done units = read_root env store root indices units
  place_in env store root indices (index e rest) units =
      number (number_in env store e units) (λ n u1. place_in env store root (indices ++ n ∷ []) rest
      u1)
  place_in env store root indices (member name rest) units =
      next (inner_root env root indices name) (λ d. place_in env store (RunFound d) [] rest units)

abbrev pub index_numbers : {A : Type 0} → Environment → Store → List ℕ → Accessors Meant → ℕ
    → (List ℕ → ℕ → Ran A) → Ran A
index_numbers env store indices done units go = go indices units
index_numbers env store indices (member name rest) units go = go indices units
index_numbers env store indices (index e rest) units go =
    number (number_in env store e units) (λ n u1. index_numbers env store (indices ++ n ∷ []) rest
    u1 go)

abbrev pub dims_numbers : Environment → Store → Exprs Meant → ℕ → Ran (List ℕ)
dims_numbers env store none units = gives [] units
dims_numbers env store (more e es) units =
    number (number_in env store e units) (λ n u1. next (dims_numbers env store es u1)
    (λ (ns, u2). gives (n ∷ ns) u2))
