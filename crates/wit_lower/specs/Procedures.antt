-- The table of procedures. A key is a function with the shapes of its arguments; the procedure of a
-- key has the key's place in the table.
use Rattle.std.specs.Prelude.{◌≡◌, ℕ, ◌+◌, ◌≤◌, ◌<◌, false, List, [], ◌∷◌, ◌++◌, length, max}
use Rattle.std.specs.Prelude.{sum_by, slice_get, unwrap_or, Option, Some, None}
use Rattle.wit_code.specs.declared.code.Proc.{Proc}
use Rattle.cir_ast.specs.Program.{Program, Function}
use Rattle.cir_meaning.specs.Costs.{Made}
use Rattle.cir_meaning.specs.Reached.{body_of}
use Rattle.cir_meaning.specs.Texts.{literal_number}
use Rattle.cir_meaning.specs.Limits.{is_too_large}
use Rattle.wit_lower.specs.Fits.{StatementsFit}
use Rattle.wit_lower.specs.Homes.{Scope, Ground, with_variable, slots_of}
use Rattle.wit_lower.specs.Pieces.{Code, most_named}
use Rattle.wit_lower.specs.Statements.{statements_code}

-- the arguments stand in a row from slot 0 on; argument n is variable n
abbrev pub arguments_scope : (n : ℕ) → List (List ℕ) → Scope → Scope
arguments_scope n [] s = s
arguments_scope n (dims ∷ rest) s = arguments_scope (n + 1) rest (with_variable n dims s)

abbrev pub no_scope : Scope
no_scope = record { homes = []; top = 0 }

-- in a function dimensions are numbers as they are written, and each call is made
abbrev pub function_ground : List Made → Ground
function_ground keys = record {
  keys = keys;
  known = literal_number;
  called = λ e. None;
  components = λ n. [];
}

abbrev pub params_of : Made → ℕ
params_of key = sum_by slots_of key.shapes

abbrev pub function_code : Program → List Made → Made → Code
function_code p keys key =
    statements_code (function_ground keys) (arguments_scope 0 key.shapes no_scope) 0
    (body_of p key.function)

abbrev pub params_at : List Made → ℕ → ℕ
params_at keys f = unwrap_or (params_at_key (slice_get keys f)) 0
  where
    params_at_key : Option Made → Option ℕ
    params_at_key None = None
    params_at_key (Some key) = Some (params_of key)

abbrev pub AreSmall : List (List ℕ) → Type 0
AreSmall [] = Unit {0}
AreSmall (dims ∷ rest) = (is_too_large dims ≡ false) × AreSmall rest

-- the procedure of a key: calls in it name the table as it stood when the procedure was made
pub record IsLowered (program : Program) (keys : List Made) (key : Made)
    (code : Proc) : Type 0 where
  pub then_keys : List Made
  pub later : List Made
  pub front : keys ≡ then_keys ++ later
  pub function : Function
  pub there : slice_get program.functions key.function ≡ Some function
  pub small : AreSmall key.shapes
  pub fits : StatementsFit (λ n. n < function.variables) (Unit {0}) (function_ground then_keys)
      (arguments_scope 0 key.shapes no_scope) function.body
  pub params : code.params ≡ params_of key
  pub body : code.body ≡ function_code program then_keys key
  pub slots : code.slots ≡ max code.params (most_named (params_at then_keys) code.body)

-- every key has its procedure
pub record HasProcedure (program : Program) (keys : List Made) (procs : List Proc) (n : ℕ)
    (key : Made) : Type 0 where
  pub code : Proc
  pub there : slice_get procs n ≡ Some code
  pub lowered : IsLowered program keys key code

pub record IsTable (program : Program) (keys : List Made) (procs : List Proc) : Type 0 where
  pub count : length procs ≤ length keys
  pub each : (n : ℕ) (key : Made) → slice_get keys n ≡ Some key
      → HasProcedure program keys procs n key
