-- What a simple statement means that holds no anonymous component: `e ==> p` is `p <== e`, and so
-- for `-->` and for tuples.
use Rattle.std.specs.Prelude.{List, [], ◌∷◌, Bool, true, false}
use Rattle.cir_ast.specs.declared.program.Meant.{Meant}
use Rattle.cir_ast.specs.Tree.{Expr, Parentheses, Anonymous, Source, One, Values, Simple, Assigned}
use Rattle.cir_ast.specs.Tree.{Left, Right, TargetLeft, TargetRight}

abbrev pub as_values : Source Meant → Source Meant
as_values (One e) = Values (e ∷ [])
as_values (Values es) = Values es

abbrev pub turned : Simple Meant → Simple Meant
turned (Right e arrow name m accessors) = Assigned (Left name m accessors arrow e)
turned (TargetLeft target arrow source) = TargetLeft target arrow (as_values source)
turned (TargetRight source arrow target) = TargetLeft target arrow (as_values source)
turned x = x

abbrev pub is_parentheses : Expr Meant → Bool
is_parentheses (Parentheses e) = true
is_parentheses e = false

-- what `_` reads of the value of e: nothing of an anonymous component
abbrev pub kept : Expr Meant → Expr Meant → List (Expr Meant)
kept (Parentheses e) x = kept e x
kept (Anonymous parallel name m arguments inputs) x = []
kept _ x = x ∷ []
