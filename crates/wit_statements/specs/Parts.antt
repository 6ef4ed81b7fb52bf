-- What stands behind the first part of a piece of code.
use Rattle.std.specs.Prelude.{ℕ, ◌+◌, List, ◌++◌, Option, Some, None}
use Rattle.cir_ast.specs.declared.program.Meant.{Meant}
use Rattle.cir_ast.specs.declared.program.Meant.TheVariants as meant
use Rattle.cir_ast.specs.declared.program.Spot.{Spot}
use Rattle.cir_ast.specs.Tree.{Accessors, Assign, Statement}
use Rattle.cir_meaning.specs.Reached.{indices_count}
use Rattle.wit_lower.specs.Homes.{Ground, Scope, Named, home_of, with_variable}
use Rattle.wit_lower.specs.Pieces.{Code, followed, write_code}
use Rattle.wit_lower.specs.Values.{indices_code}
use Rattle.wit_lower.specs.Statements.{scope_behind, statement_code, assign_code}

-- what an assignment has behind its value, which has so many numbers
abbrev pub write_behind : Ground → Scope → (place size : ℕ) → Meant → Accessors Meant → Code
write_behind g s place size m accessors =
    indices_code g s.homes (s.top + size) place accessors ++
    write_code (home_of s.homes (Named m)) (s.top + size) (indices_count accessors) s.top size

-- a variable, where the name is one
abbrev pub declared_as : Meant → List ℕ → Scope → Scope
declared_as (meant.Variable n) dims s = with_variable n dims s
declared_as _ dims s = s

-- the body of a loop, and behind it the step that a `for` has, in the scope behind the body
abbrev pub turn_code : Ground → Scope → (place : ℕ) → Statement Spot Meant
    → Option (Assign Meant) → Code
turn_code g s place a None = statement_code g s place a
turn_code g s place a (Some step) =
    followed place (statement_code g s place a) (λ p. assign_code g (scope_behind g s a) p step)
