-- The calls that stand in an expression: all that its code may ask for a value.
use Rattle.std.specs.Prelude.{List, [], ◌∷◌, ◌++◌}
use Rattle.cir_ast.specs.declared.program.Meant.{Meant}
use Rattle.cir_ast.specs.Tree.{Expr, Number, Place, Call, Anonymous, Parentheses, Array, Unary}
use Rattle.cir_ast.specs.Tree.{Binary, Choice, Exprs, none, more, Accessors, done, index, member}

abbrev mutual
  pub asked : Expr Meant → List (Expr Meant)
  asked (Number n) = []
  asked (Place name m accessors) = place_asked accessors
  asked (Call parallel name m arguments) =
      Call parallel name m arguments ∷ all_asked arguments
  asked (Anonymous parallel name m arguments inputs) = []
  asked (Parentheses e) = asked e
  asked (Array elements) = all_asked elements
  asked (Unary o a) = asked a
  asked (Binary o a b) = asked a ++ asked b
  asked (Choice c a b) = asked c ++ (asked a ++ asked b)

  pub all_asked : Exprs Meant → List (Expr Meant)
  all_asked none = []
  all_asked (more e es) = asked e ++ all_asked es

  pub place_asked : Accessors Meant → List (Expr Meant)
  place_asked done = []
  place_asked (index e rest) = asked e ++ place_asked rest
  place_asked (member name rest) = place_asked rest
