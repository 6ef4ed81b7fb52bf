-- What names mean, at a place in a definition.
use Rattle.std.specs.Prelude.{ℕ, ◌+◌, List, if◌then◌else◌, Option, Some, None, is_some, unwrap_or}
use Rattle.std.specs.Prelude.{Ok, Err}
use Rattle.std.specs.Option.{option_or}
use Rattle.std.specs.Map.{update}
use Rattle.std.specs.Str.{bytes_eq}
use Rattle.cir_ast.specs.declared.program.Spot.{Spot}
use Rattle.cir_ast.specs.declared.program.Meant.{Meant}
use Rattle.cir_ast.specs.declared.program.Meant.TheVariants.{Other, Variable, Signal, Component}
use Rattle.cir_resolve.specs.Steps.{Step}

abbrev pub Lookup : Type 0
Lookup = List ℕ → Option Meant

abbrev pub nothing : Lookup
nothing name = None

-- What the definitions' names mean; what the names mean that are declared so far in the blocks
-- around the innermost one; what those mean that are declared so far in the innermost one; and how
-- many variables, signals and components the definition declares so far.
pub record State : Type 0 where
  pub defined : Lookup
  pub outer : Lookup
  pub inner : Lookup
  pub variables : ℕ
  pub signals : ℕ
  pub components : ℕ

abbrev pub opening : Lookup → State
opening defined =
    record {
      defined = defined;
      outer = nothing;
      inner = nothing;
      variables = 0;
      signals = 0;
      components = 0;
    }

-- what is declared in the innermost block hides what is declared around it
abbrev pub in_scope : State → Lookup
in_scope st name = option_or (st.inner name) (st.outer name)

abbrev pub meaning : Option Meant → Meant
meaning found = unwrap_or found Other

-- a place's name is looked for among what is declared first
abbrev pub read_at : State → List ℕ → Meant
read_at st name = meaning (option_or (in_scope st name) (st.defined name))

-- and a called name among the definitions
abbrev pub called_at : State → List ℕ → Meant
called_at st name = meaning (option_or (st.defined name) (in_scope st name))

-- inside a block that opens
abbrev pub entered : State → State
entered st = record st { outer = in_scope st; inner = nothing }

-- behind a block that closes, from before it and from its end
abbrev pub left : State → State → State
left around st = record st { outer = around.outer; inner = around.inner }

-- what is named, and what is in scope behind it; or the place where a name is declared a second
-- time
abbrev pub Naming : Type 0 → Type 0
Naming A = Step State Spot A

-- a part that is a block of its own
abbrev pub closed : {A : Type 0} → State → Naming A → Naming A
closed around (Ok given) = Ok (given.0, left around given.1)
closed around (Err spot) = Err spot

abbrev pub within : {A : Type 0} → State → (State → Naming A) → Naming A
within st part = closed st (part (entered st))

-- one more declaration
abbrev pub counted : State → Meant → State
counted st (Variable n) = record st { variables = st.variables + 1 }
counted st (Signal direction n) = record st { signals = st.signals + 1 }
counted st (Component n) = record st { components = st.components + 1 }
counted st _ = st

abbrev pub with_name : State → List ℕ → Meant → State
with_name st name m = record st { inner = update bytes_eq st.inner name (Some m) }

-- a name is declared in the innermost block, which must not have it yet
abbrev pub declared : Spot → State → List ℕ → Meant → Naming Meant
declared spot st name m =
    if is_some (st.inner name) then Err spot else Ok (m, with_name (counted st m) name m)
