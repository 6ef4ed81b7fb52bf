-- Expressions that are told the same are one; and what trees are that have lists in them.
use Rattle.std.proofs.Common.{◌≡◌, ◌≤◌, ℕ, suc, Bool, true, false, List, [], ◌∷◌, length, ap, refl}
use Rattle.std.proofs.Common.{arith}
use Rattle.std.specs.Prelude.{◌==◌, ◌&&◌, bytes_eq}
use Rattle.std.specs.Cmp.Lexicographic.{bytes_decides}
use Rattle.std.proofs.lemmas.Bool.{and_parts, eqb-true}
use denote.Enum.Bare.{same_true}
use Rattle.cir_ast.specs.contracts.operators.Binary.{the_type as binary_type}
use Rattle.cir_ast.specs.contracts.operators.BinaryPartialEq.TheImpl as binary_eq
use Rattle.cir_ast.specs.contracts.operators.Direction.{the_type as direction_type}
use Rattle.cir_ast.specs.contracts.operators.DirectionPartialEq.TheImpl as direction_eq
use Rattle.cir_ast.specs.contracts.operators.Unary.{the_type as unary_type}
use Rattle.cir_ast.specs.contracts.operators.UnaryPartialEq.TheImpl as unary_eq
use Rattle.cir_ast.specs.declared.marked.Accessor.{Accessor as CodeAccessor}
use Rattle.cir_ast.specs.declared.marked.Accessor.TheVariants as accessor
use Rattle.cir_ast.specs.declared.marked.Expr.{Expr as CodeExpr}
use Rattle.cir_ast.specs.declared.marked.Expr.TheVariants as expr
use Rattle.cir_ast.specs.declared.marked.Place.{Place as CodePlace}
use Rattle.cir_ast.specs.declared.program.Meant.{Meant}
use Rattle.cir_ast.specs.declared.program.Meant.TheVariants as meant
use Rattle.cir_ast.specs.Tree.{Expr, Number, Place, Call, Parentheses, Array, Unary, Binary, Choice}
use Rattle.cir_ast.specs.Tree.{Exprs, none, more, Accessors, done, index, member, as_accessors}
use Rattle.cir_ast.specs.Tree.{bare, bare_exprs}
use Rattle.cir_ast.proofs.Rows.{exprs_are, accessors_are}
use Rattle.wit_sourced.specs.Same.{same_bool, same_meant, same_head, same_expr, same_exprs}
use Rattle.wit_sourced.specs.Same.{same_accessors}

-- ---- trees
pub place_tree : (p : CodePlace Meant)
    → bare (expr.Place p) ≡ Place p.name p.meant (as_accessors p.accessors)
place_tree p = ap (Place p.name p.meant) (accessors_are Meant p.accessors)

pub call_tree : (parallel : Bool) (name : List ℕ) (m : Meant) (es : List (CodeExpr Meant))
    → bare (expr.Call parallel name m es) ≡ Call parallel name m (bare_exprs es)
call_tree parallel name m es = ap (Call parallel name m) (exprs_are Meant es)

pub array_tree : (es : List (CodeExpr Meant)) → bare (expr.Array es) ≡ Array (bare_exprs es)
array_tree es = ap Array (exprs_are Meant es)

pub ruleset trees = (place_tree, call_tree, array_tree)

-- ---- ends of rows
none_left : (n : ℕ) → 1 ≤ n → (n == 0) ≡ false
none_left n h = not_true (n == 0) (λ e. absurd (omega (arith, h, eqb-true n 0 e)))
  where
    not_true : (b : Bool) → (b ≡ true → ⊥) → b ≡ false
    not_true true never = absurd (never refl)
    not_true false never = refl

pub no_more : (es : List (CodeExpr Meant))
    → (length es == 0) ≡ same_exprs none (bare_exprs es)
no_more [] = refl
no_more (e ∷ es) = none_left (suc (length es)) (omega arith)

pub no_accessor : (xs : List (CodeAccessor Meant))
    → (length xs == 0) ≡ same_accessors done (as_accessors xs)
no_accessor [] = refl
no_accessor (accessor.Index e ∷ xs) = none_left (suc (length xs)) (omega arith)
no_accessor (accessor.Member name ∷ xs) = none_left (suc (length xs)) (omega arith)

pub one_accessor : (x : CodeAccessor Meant) (xs ys : List (CodeAccessor Meant)) → length ys ≡ 0
    → same_accessors (as_accessors (x ∷ xs)) (as_accessors ys) ≡ false
one_accessor (accessor.Index e) xs [] h = refl
one_accessor (accessor.Member name) xs [] h = refl
one_accessor x xs (y ∷ ys) h = absurd (omega (arith, h))

-- ---- what is told the same is one
bool_is : (p q : Bool) → same_bool p q ≡ true → p ≡ q
bool_is true true h = refl
bool_is true false h = cc
bool_is false true h = cc
bool_is false false h = refl

meant_is : (m n : Meant) → same_meant m n ≡ true → m ≡ n
meant_is meant.Other meant.Other h = refl
meant_is (meant.Variable a) (meant.Variable b) h = ap meant.Variable (eqb-true a b h)
meant_is (meant.Signal d a) (meant.Signal e b) h =
    let parts = and_parts (direction_eq.ghosts.eq d e) (a == b) h in λ i.
    meant.Signal (same_true direction_type tt d e parts.0 i) (eqb-true a b parts.1 i)
meant_is (meant.Component a) (meant.Component b) h = ap meant.Component (eqb-true a b h)
meant_is (meant.Template a) (meant.Template b) h = ap meant.Template (eqb-true a b h)
meant_is (meant.Function a) (meant.Function b) h = ap meant.Function (eqb-true a b h)
meant_is _ _ h = absurd (cc h)

mutual
  pub same_is : (a b : Expr Meant) → same_expr a b ≡ true → a ≡ b
  same_is (Number n) (Number m) h = ap Number (eqb-true n m h)
  same_is (Place name m x) (Place other n y) h =
      let one = and_parts (bytes_eq name other) (same_meant m n && same_accessors x y) h in
      let two = and_parts (same_meant m n) (same_accessors x y) one.1 in λ i.
      Place ((bytes_decides name other).0 one.0 i) (meant_is m n two.0 i)
      (accessors_same x y two.1 i)
  same_is (Call p name m es) (Call q other n fs) h =
      let one = and_parts (same_head p name m q other n) (same_exprs es fs) h in
      let two = and_parts (same_bool p q) (bytes_eq name other && same_meant m n) one.0 in
      let three = and_parts (bytes_eq name other) (same_meant m n) two.1 in λ i.
      Call (bool_is p q two.0 i) ((bytes_decides name other).0 three.0 i)
      (meant_is m n three.1 i) (all_same es fs one.1 i)
  same_is (Parentheses a) (Parentheses b) h = ap Parentheses (same_is a b h)
  same_is (Array es) (Array fs) h = ap Array (all_same es fs h)
  same_is (Unary o a) (Unary p b) h =
      let parts = and_parts (unary_eq.ghosts.eq o p) (same_expr a b) h in λ i.
      Unary (same_true unary_type tt o p parts.0 i) (same_is a b parts.1 i)
  same_is (Binary o a b) (Binary p c d) h =
      let parts = and_parts (binary_eq.ghosts.eq o p) (same_expr a c && same_expr b d) h in
      let sides = and_parts (same_expr a c) (same_expr b d) parts.1 in λ i.
      Binary (same_true binary_type tt o p parts.0 i) (same_is a c sides.0 i)
      (same_is b d sides.1 i)
  same_is (Choice a b c) (Choice d e f) h =
      let parts = and_parts (same_expr a d) (same_expr b e && same_expr c f) h in
      let sides = and_parts (same_expr b e) (same_expr c f) parts.1 in λ i.
      Choice (same_is a d parts.0 i) (same_is b e sides.0 i) (same_is c f sides.1 i)
  same_is _ _ h = absurd (cc h)

  all_same : (es fs : Exprs Meant) → same_exprs es fs ≡ true → es ≡ fs
  all_same none none h = refl
  all_same none (more f fs) h = absurd (cc h)
  all_same (more e es) none h = absurd (cc h)
  all_same (more e es) (more f fs) h =
      let parts = and_parts (same_expr e f) (same_exprs es fs) h in λ i.
      more (same_is e f parts.0 i) (all_same es fs parts.1 i)

  accessors_same : (x y : Accessors Meant) → same_accessors x y ≡ true → x ≡ y
  accessors_same done done h = refl
  accessors_same (index e x) (index f y) h =
      let parts = and_parts (same_expr e f) (same_accessors x y) h in λ i.
      index (same_is e f parts.0 i) (accessors_same x y parts.1 i)
  accessors_same (member name x) (member other y) h =
      let parts = and_parts (bytes_eq name other) (same_accessors x y) h in λ i.
      member ((bytes_decides name other).0 parts.0 i) (accessors_same x y parts.1 i)
  accessors_same _ _ h = absurd (cc h)
