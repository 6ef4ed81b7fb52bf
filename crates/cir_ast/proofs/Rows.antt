-- Lists inside a tree, as the lists that they are.
use Rattle.std.proofs.Common.{◌≡◌, ◌∙◌, ap, refl, sym, List, Box}
use Rattle.std.specs.Global.{Global}
use Rattle.std.specs.Prelude.{map}
use mathlib.Core.Former.{Count}
use Rattle.cir_ast.specs.declared.marked as code
use Rattle.cir_ast.specs.declared.marked.Expr.{Row_of-Expr, end_of-Expr, more_of-Expr}
use Rattle.cir_ast.specs.declared.marked.Expr.TheVariants as expr
use Rattle.cir_ast.specs.declared.marked.Accessor.TheVariants.{Index, Member}
use Rattle.cir_ast.specs.declared.marked.Accessor.TheBlock as block
use Rattle.cir_ast.specs.declared.marked.Place.{Row_of-Accessor, end_of-Accessor, more_of-Accessor}
use Rattle.cir_ast.specs.declared.marked.Inputs.{Row_of-NamedInput, end_of-NamedInput}
use Rattle.cir_ast.specs.declared.marked.Inputs.{more_of-NamedInput}
use Rattle.cir_ast.specs.declared.marked.Block.{Block', out-Block, outs-Block', Row_of-Statement}
use Rattle.cir_ast.specs.declared.marked.Block.{end_of-Statement, more_of-Statement}
use Rattle.cir_ast.specs.declared.marked.Block.{items-the_row-Statement}
use Rattle.cir_ast.specs.declared.marked.Block.{items_shown-the_row-Statement-0}
use Rattle.cir_ast.specs.declared.marked.StatementForm.TheViews.{roll-Block, out-roll-Block}
use Rattle.cir_ast.specs.Tree.{bare, bare_row, bare_exprs, bare_accessors, as_accessors, bare_named}
use Rattle.cir_ast.specs.Tree.{Anonymous as AnonymousTree, bare_anonymous, bare_inputs, as_named}
use Rattle.cir_ast.specs.Tree.{bare_form, bare_statement, bare_statement_row, bare_block}
use Rattle.cir_ast.specs.Tree.{as_statements, more, index, member, named, then_more}

row_is : {N : Type 0} (n : Count) (row : Row_of-Expr N n)
    → bare_row row ≡ bare_exprs (block.items-the_row-Expr N n row)
row_is n end_of-Expr = refl
row_is n (more_of-Expr e rest) = ap (more (bare e)) (row_is _ rest)

pub exprs_are : (N : Type 0) (es : List (code.Expr.Expr N))
    → bare_row (block.hidden-the_row-Expr-1 N es) ≡ bare_exprs es
exprs_are N es = row_is _ (block.hidden-the_row-Expr-1 N es)
    ∙ ap bare_exprs (block.items_hidden-the_row-Expr-1 N es)

pub anonymous_is : (N : Type 0) (component : Box (code.Anonymous.Anonymous N) Global)
    → bare (expr.Anonymous component) ≡ bare_anonymous component.value
anonymous_is N component =
    ap (λ es. AnonymousTree component.value.parallel component.value.name component.value.meant es
    (bare_inputs component.value.inputs)) (exprs_are N component.value.arguments)

accessor_row_is : {N : Type 0} (n : Count) (row : Row_of-Accessor N n)
    → bare_accessors row ≡ as_accessors (block.items-the_row-Accessor N n row)
accessor_row_is n end_of-Accessor = refl
accessor_row_is n (more_of-Accessor (Index e) rest) = ap (index (bare e)) (accessor_row_is _ rest)
accessor_row_is n (more_of-Accessor (Member name) rest) = ap (member name) (accessor_row_is _ rest)

pub accessors_are : (N : Type 0) (list : List (code.Accessor.Accessor N))
    → bare_accessors (block.hidden-the_row-Accessor-0 N list) ≡ as_accessors list
accessors_are N list = accessor_row_is _ (block.hidden-the_row-Accessor-0 N list)
    ∙ ap as_accessors (block.items_hidden-the_row-Accessor-0 N list)

named_row_is : {N : Type 0} (n : Count) (row : Row_of-NamedInput N n)
    → bare_named row ≡ as_named (block.items-the_row-NamedInput N n row)
named_row_is n end_of-NamedInput = refl
named_row_is n (more_of-NamedInput name arrow e rest) =
    ap (named name arrow (bare e)) (named_row_is _ rest)

pub named_are : (N : Type 0) (list : List (code.NamedInput.NamedInput N))
    → bare_named (block.hidden-the_row-NamedInput-2 N list) ≡ as_named list
named_are N list = named_row_is _ (block.hidden-the_row-NamedInput-2 N list)
    ∙ ap as_named (block.items_hidden-the_row-NamedInput-2 N list)

statement_row_is : {S N : Type 0} (n : Count) (row : Row_of-Statement S N n)
    → bare_statement_row row
    ≡ as_statements (map (bare_statement {S = S} {N = N}) (items-the_row-Statement S N n row))
statement_row_is n end_of-Statement = refl
statement_row_is n (more_of-Statement spot form rest) =
    ap (then_more (bare_form spot form)) (statement_row_is _ rest)

pub block_is : (S N : Type 0) (b : code.Block.Block S N)
    → bare_block b
    ≡ as_statements (map (bare_statement {S = S} {N = N}) (out-Block S N b).statements)
block_is S N (Block' n row) =
    statement_row_is _ row
    ∙ sym (ap (λ o. as_statements (map (bare_statement {S = S} {N = N}) o.statements))
    (outs-Block' n row)
    ∙ ap (λ (ss : List (code.Statement.Statement S N)). as_statements
    (map (bare_statement {S = S} {N = N}) ss)) (items_shown-the_row-Statement-0 S N n row))

pub statements_are : (S N : Type 0) (list : List (code.Statement.Statement S N))
    → bare_block (roll-Block S N record { statements = list })
    ≡ as_statements (map (bare_statement {S = S} {N = N}) list)
statements_are S N list =
    block_is S N (roll-Block S N record { statements = list })
    ∙ ap (λ b. as_statements (map (bare_statement {S = S} {N = N}) b.statements))
    (out-roll-Block S N record { statements = list })
