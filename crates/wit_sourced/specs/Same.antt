-- Whether two expressions are the same. Anonymous components aren't compared.
use Rattle.std.specs.Prelude.{ℕ, ◌==◌, ◌&&◌, Bool, true, false, not, List, bytes_eq}
use Rattle.cir_ast.specs.contracts.operators.BinaryPartialEq.TheImpl as binary_eq
use Rattle.cir_ast.specs.contracts.operators.UnaryPartialEq.TheImpl as unary_eq
use Rattle.cir_ast.specs.contracts.operators.DirectionPartialEq.TheImpl as direction_eq
use Rattle.cir_ast.specs.declared.program.Meant.{Meant}
use Rattle.cir_ast.specs.declared.program.Meant.TheVariants as meant
use Rattle.cir_ast.specs.Tree.{Expr, Number, Place, Call, Parentheses, Array, Unary}
use Rattle.cir_ast.specs.Tree.{Binary, Choice, Exprs, none, more, Accessors, done, index, member}

abbrev pub same_bool : Bool → Bool → Bool
same_bool true b = b
same_bool false b = not b

abbrev pub same_meant : Meant → Meant → Bool
same_meant meant.Other meant.Other = true
same_meant (meant.Variable n) (meant.Variable m) = n == m
same_meant (meant.Signal d n) (meant.Signal e m) = direction_eq.ghosts.eq d e && (n == m)
same_meant (meant.Component n) (meant.Component m) = n == m
same_meant (meant.Template n) (meant.Template m) = n == m
same_meant (meant.Function n) (meant.Function m) = n == m
same_meant _ _ = false

abbrev pub same_head : Bool → List ℕ → Meant → Bool → List ℕ → Meant → Bool
same_head p name m q other n = same_bool p q && (bytes_eq name other && same_meant m n)

abbrev mutual
  pub same_expr : Expr Meant → Expr Meant → Bool
  same_expr (Number n) (Number m) = n == m
  same_expr (Place name m x) (Place other n y) =
      bytes_eq name other && (same_meant m n && same_accessors x y)
  same_expr (Call p name m es) (Call q other n fs) =
      same_head p name m q other n && same_exprs es fs
  same_expr (Parentheses a) (Parentheses b) = same_expr a b
  same_expr (Array es) (Array fs) = same_exprs es fs
  same_expr (Unary o a) (Unary p b) = unary_eq.ghosts.eq o p && same_expr a b
  same_expr (Binary o a b) (Binary p c d) =
      binary_eq.ghosts.eq o p && (same_expr a c && same_expr b d)
  same_expr (Choice a b c) (Choice d e f) =
      same_expr a d && (same_expr b e && same_expr c f)
  same_expr _ _ = false

  pub same_exprs : Exprs Meant → Exprs Meant → Bool
  same_exprs none none = true
  same_exprs (more e es) (more f fs) = same_expr e f && same_exprs es fs
  same_exprs _ _ = false

  pub same_accessors : Accessors Meant → Accessors Meant → Bool
  same_accessors done done = true
  same_accessors (index e x) (index f y) = same_expr e f && same_accessors x y
  same_accessors (member name x) (member other y) =
      bytes_eq name other && same_accessors x y
  same_accessors _ _ = false

-- by their first ones
abbrev pub same_front : Accessors Meant → Accessors Meant → Bool
same_front (index e x) (index f y) = same_expr e f
same_front (member name x) (member other y) = bytes_eq name other
same_front _ _ = false
