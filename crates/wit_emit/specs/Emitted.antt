-- What stands behind the first part of a piece of code.
use Rattle.std.specs.Prelude.{ℕ, ◌+◌, [], ◌∷◌, ◌++◌, Option, Some, None}
use Rattle.wit_code.specs.declared.code.Op.TheVariants as op
use Rattle.cir_ast.specs.declared.program.Meant.{Meant}
use Rattle.cir_ast.specs.Tree.{Expr}
use Rattle.cir_meaning.specs.Operators.{Operator, Strict, And, Or}
use Rattle.wit_lower.specs.Homes.{Ground, Homes}
use Rattle.wit_lower.specs.Pieces.{Code, either, truth_code, unless_zero}
use Rattle.wit_lower.specs.Values.{expr_code}

abbrev pub truth_in : Ground → Homes → (top place : ℕ) → Expr Meant → Code
truth_in g homes top place b = expr_code g homes top place b ++ truth_code top

abbrev pub both_code : Ground → Homes → (top place : ℕ) → Operator → Expr Meant → Code
both_code g homes top place (Strict o) b =
    expr_code g homes (top + 1) place b ++ op.Bin o top top (top + 1) ∷ []
both_code g homes top place And b = unless_zero top place (λ q. truth_in g homes top q b)
both_code g homes top place Or b =
    either top place (λ q. op.Const top 1 ∷ []) (λ q. truth_in g homes top q b)

abbrev pub right_code : Ground → Homes → (top place : ℕ) → (decided : Option ℕ) → Operator
    → Expr Meant → Code
right_code g homes top place None o b = both_code g homes top place o b
right_code g homes top place (Some n) o b = op.Const top n ∷ []
