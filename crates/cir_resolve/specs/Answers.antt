-- What the code's tables stand for, and what its calls answer.
use Rattle.std.specs.Prelude.{◌≡◌, List, [], ◌∷◌, ◌++◌, fold, Option, Some, None, Result, Ok}
use Rattle.std.specs.Prelude.{Err, ⊤}
use Rattle.std.specs.Option.{option_or}
use Rattle.std.specs.Str.{bytes_eq}
use Rattle.std.specs.Map.{update}
use Rattle.std.specs.HashMap.{get_by}
use Rattle.cir_resolve.specs.declared.names.Named.{Named}
use Rattle.cir_resolve.specs.declared.names.Names.{Names as CodeNames}
use Rattle.cir_resolve.specs.declared.scope.Scopes.{Scopes}
use Rattle.cir_resolve.specs.declared.table.Numbers.{Numbers as CodeNumbers}
use Rattle.cir_resolve.specs.declared.stop.Stop.{Stop}
use Rattle.cir_resolve.specs.declared.stop.Stop.TheVariants.{Twice, OutOfMemory}
use Rattle.cir_resolve.specs.Steps.{Step}
use Rattle.cir_resolve.specs.Scope.{Lookup, nothing, State}
use Rattle.cir_resolve.specs.Definitions.{Numbers}

-- the newest last
abbrev pub newest_in : List Named → Lookup
newest_in few = fold (λ older n. update bytes_eq older n.name.items (Some n.meant)) nothing few

unfoldable pub names_in : CodeNames → Lookup
names_in names name =
    option_or (get_by (λ k. bytes_eq name k.items) names.many) (newest_in names.few.items name)

-- the names of a block hide those around it
abbrev pub hiding : Lookup → Lookup → Lookup
hiding around inner name = option_or (inner name) (around name)

-- the names of nested blocks, the outermost first
unfoldable pub nested : List CodeNames → Lookup
nested blocks = fold (λ around names. hiding around (names_in names)) nothing blocks

unfoldable pub state_of : Scopes → State
state_of s = record {
  defined = names_in s.defined.now;
  outer = nested s.outer.items;
  inner = names_in s.inner;
  variables = s.variables;
  signals = s.signals;
  components = s.components;
}

-- how many definitions the code has passed
abbrev pub numbers_of : CodeNumbers → Numbers
numbers_of n = record { templates = n.templates; functions = n.functions }

-- a block is open inside these scopes
pub record IsInside (around inner : Scopes) : Type 0 where
  pub outer : inner.outer.items ≡ around.outer.items ++ around.inner ∷ []

-- a call gives what the step gives and leaves its state, or stops where it stops; want of memory is
-- free
abbrev pub Gives : {X P A B : Type 0} → (A → B) → Result A (Stop P) → X → Step X P B → Type 0
Gives see (Ok a) x step = step ≡ Ok (see a, x)
Gives see (Err (Twice place)) x step = step ≡ Err place
Gives see (Err OutOfMemory) x step = ⊤

-- the same of what keeps no state
abbrev pub Answers : {P A B : Type 0} → (A → B) → Result A (Stop P) → Result B P → Type 0
Answers see (Ok a) given = given ≡ Ok (see a)
Answers see (Err (Twice place)) given = given ≡ Err place
Answers see (Err OutOfMemory) given = ⊤

abbrev pub listed : {A B : Type 0} → (A → B) → Option A → List B
listed see None = []
listed see (Some a) = see a ∷ []
