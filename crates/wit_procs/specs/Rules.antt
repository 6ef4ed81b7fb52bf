-- What has to be told of a function with the shapes of its arguments, so that it has code.
use Rattle.std.specs.Prelude.{◌≡◌, ℕ, ◌==◌, Bool, true, false, not, ◌&&◌, List, map, length, Option}
use Rattle.std.specs.Prelude.{Some, None, is_none, unwrap_or, slice_get}
use Rattle.std.specs.List.{list_any, list_all}
use Rattle.cir_ast.specs.declared.program.Meant.{Meant}
use Rattle.cir_ast.specs.Program.{Program, Function}
use Rattle.cir_ast.specs.Tree.{Variable}
use Rattle.cir_meaning.specs.Costs.{Made}
use Rattle.cir_meaning.specs.Functions.{body_fits, variable_dims}
use Rattle.cir_meaning.specs.Limits.{is_too_large}
use Rattle.cir_meaning.specs.Reached.{is_misplaced, rank_of, variable_rank}
use Rattle.cir_meaning.specs.Texts.{list_of, all_wanted, all_variables, all_returned}
use Rattle.cir_meaning.specs.Texts.{literal_number}

-- the dimensions of a declaration, as they are written
abbrev pub written_dims : Variable Meant → List ℕ
written_dims v = map (λ e. unwrap_or (literal_number e) 0) (list_of v.dimensions)

abbrev pub is_small : List ℕ → Bool
is_small dims = not (is_too_large dims)

-- the parameters and the arrays of a function, by themselves
abbrev pub is_plain : Function → List (List ℕ) → Bool
is_plain f shapes =
    (length shapes == length f.parameters) && (list_all is_small shapes &&
    list_all (λ v. is_small (written_dims v)) (all_variables f.body))

abbrev pub is_found_plain : List (List ℕ) → Option Function → Bool
is_found_plain shapes None = false
is_found_plain shapes (Some f) = is_plain f shapes

abbrev pub is_key_plain : Program → Made → Bool
is_key_plain p key = is_found_plain key.shapes (slice_get p.functions key.function)

-- and what the rules tell
pub record KeepsRules (f : Function) (shapes : List (List ℕ)) : Type 0 where
  pub fit : body_fits (variable_dims shapes (all_variables f.body)) f.body ≡ true
  pub written : list_any
      (λ v. list_any (λ e. is_none (literal_number e)) (list_of v.dimensions))
      (all_variables f.body) ≡ false
  pub placed : list_any (λ x. is_misplaced x.want x.expr) (all_wanted f.body) ≡ false
  pub numbers : list_any
      (λ e. not (rank_of (variable_rank (map length shapes) (all_variables f.body)) e == 0))
      (all_returned f.body) ≡ false

-- what is told of a key
pub record MayBeMade (p : Program) (key : Made) : Type 0 where
  pub function : Function
  pub there : slice_get p.functions key.function ≡ Some function
  pub rules : KeepsRules function key.shapes
  pub plain : is_plain function key.shapes ≡ true

abbrev pub MayBeMadeAll : Program → List Made → Type 0
MayBeMadeAll p keys =
    (n : ℕ) (key : Made) → slice_get keys n ≡ Some key → MayBeMade p key
