-- What is promised of the table of procedures: it only grows, so that code that was made before
-- names the same procedures; and it has what its functions call.
use Rattle.std.specs.Prelude.{◌≡◌, ℕ, ◌≤◌, max, List, ◌++◌, length, Some, slice_get}
use Rattle.std.specs.List.{AllByRecursion}
use Rattle.wit_code.specs.declared.code.Proc.{Proc}
use Rattle.cir_ast.specs.Program.{Program}
use Rattle.cir_meaning.specs.Costs.{Made}
use Rattle.cir_meaning.specs.Functions.{shaped_calls}
use Rattle.wit_lower.specs.Fits.{HasKey}
use Rattle.wit_lower.specs.Pieces.{most_named}
use Rattle.wit_lower.specs.Procedures.{params_of, params_at, function_code}

pub record Grows (before after : List Made) : Type 0 where
  pub later : List Made
  pub is : after ≡ before ++ later

abbrev pub HaveKeys : List Made → List Made → Type 0
HaveKeys keys calls = AllByRecursion (HasKey keys) calls

-- the calls of each function from a place on are in the table
abbrev pub AreClosed : Program → (from : ℕ) → List Made → Type 0
AreClosed p from keys =
    (n : ℕ) (key : Made) → from ≤ n → slice_get keys n ≡ Some key
    → HaveKeys keys (shaped_calls p key)

-- the procedure of a key, which names its calls in this table
pub record IsMade (p : Program) (keys : List Made) (key : Made) (code : Proc) : Type 0 where
  pub params : code.params ≡ params_of key
  pub body : code.body ≡ function_code p keys key
  pub slots : code.slots ≡ max code.params (most_named (params_at keys) code.body)

pub record IsMadeAt (p : Program) (keys : List Made) (procs : List Proc) (n : ℕ)
    (key : Made) : Type 0 where
  pub code : Proc
  pub there : slice_get procs n ≡ Some code
  pub made : IsMade p keys key code

-- procedures that were there stay, and each key behind them has its own
pub record AreAdded (p : Program) (keys : List Made) (before after : List Proc) : Type 0 where
  pub count : length after ≡ length keys
  pub old : (n : ℕ) (code : Proc) → slice_get before n ≡ Some code
      → slice_get after n ≡ Some code
  pub made : (n : ℕ) (key : Made) → length before ≤ n → slice_get keys n ≡ Some key
      → IsMadeAt p keys after n key
