-- What naming says of the lists in a tree.
use Rattle.std.proofs.Common.{◌≡◌, ◌∙◌, List, [], ◌∷◌, refl, ap, sym}
use Rattle.std.specs.Prelude.{map}
use Rattle.cir_ast.specs.declared.marked.Accessor.TheBlock as block
use Rattle.cir_ast.specs.declared.marked.Expr.{Expr as CodeExpr}
use Rattle.cir_ast.specs.declared.marked.Accessor.{Accessor as CodeAccessor}
use Rattle.cir_ast.specs.declared.marked.Accessor.TheVariants.{Index, Member}
use Rattle.cir_ast.specs.declared.marked.NamedInput.{NamedInput as CodeInput}
use Rattle.cir_ast.specs.declared.program.Meant.{Meant}
use Rattle.cir_ast.specs.Tree.{bare, bare_row, bare_exprs, bare_accessors, as_accessors, bare_named}
use Rattle.cir_ast.specs.Tree.{as_named, Accessors, NamedInputs}
use Rattle.cir_ast.proofs.Rows.{exprs_are, accessors_are, named_are}
use Rattle.cir_resolve.specs.Scope.{State}
use Rattle.cir_resolve.specs.Naming.{named_expr, named_exprs, named_accessors, named_each}

-- lists, from their elements
pub exprs_named : (st : State) (es fs : List (CodeExpr Meant))
    → map bare fs ≡ map (named_expr st) (map bare es)
    → bare_exprs fs ≡ named_exprs st (bare_exprs es)
exprs_named st [] [] h = refl
exprs_named st (e ∷ es) (f ∷ fs) h = let rest = exprs_named st es fs cc in cc
exprs_named st _ _ h = cc

abbrev pub one_accessor : CodeAccessor Meant → Accessors Meant
one_accessor a = as_accessors (a ∷ [])

pub accessors_named : (st : State) (xs ys : List (CodeAccessor Meant))
    → map one_accessor ys ≡ map (named_accessors st) (map one_accessor xs)
    → as_accessors ys ≡ named_accessors st (as_accessors xs)
accessors_named st [] [] h = refl
accessors_named st (Index e ∷ xs) (Index f ∷ ys) h = let rest = accessors_named st xs ys cc in cc
accessors_named st (Member n ∷ xs) (Member o ∷ ys) h = let rest = accessors_named st xs ys cc in cc
accessors_named st _ _ h = cc

abbrev pub one_input : CodeInput Meant → NamedInputs Meant
one_input i = as_named (i ∷ [])

pub inputs_named : (st : State) (is js : List (CodeInput Meant))
    → map one_input js ≡ map (named_each st) (map one_input is)
    → as_named js ≡ named_each st (as_named is)
inputs_named st [] [] h = refl
inputs_named st (i ∷ is) (j ∷ js) h = let rest = inputs_named st is js cc in cc
inputs_named st _ _ h = cc

-- lists as they stand in a tree
pub row_named : (st : State) (es fs : List (CodeExpr Meant))
    → bare_exprs fs ≡ named_exprs st (bare_exprs es)
    → bare_row (block.hidden-the_row-Expr-1 Meant fs)
    ≡ named_exprs st (bare_row (block.hidden-the_row-Expr-1 Meant es))
row_named st es fs h = exprs_are Meant fs ∙ h ∙ sym (ap (named_exprs st) (exprs_are Meant es))

pub accessor_row_named : (st : State) (xs ys : List (CodeAccessor Meant))
    → as_accessors ys ≡ named_accessors st (as_accessors xs)
    → bare_accessors (block.hidden-the_row-Accessor-0 Meant ys)
    ≡ named_accessors st (bare_accessors (block.hidden-the_row-Accessor-0 Meant xs))
accessor_row_named st xs ys h =
    accessors_are Meant ys ∙ h ∙ sym (ap (named_accessors st) (accessors_are Meant xs))

pub input_row_named : (st : State) (is js : List (CodeInput Meant))
    → as_named js ≡ named_each st (as_named is)
    → bare_named (block.hidden-the_row-NamedInput-2 Meant js)
    ≡ named_each st (bare_named (block.hidden-the_row-NamedInput-2 Meant is))
input_row_named st is js h =
    named_are Meant js ∙ h ∙ sym (ap (named_each st) (named_are Meant is))

pub ruleset rows = (row_named, accessor_row_named, input_row_named)
