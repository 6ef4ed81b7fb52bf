-- Naming of a list of statements, as steps in turn.
use Rattle.std.proofs.Common.{◌≡◌, ◌∙◌, List, [], ◌∷◌, refl, ap, sym, arith}
use Rattle.cir_ast.specs.declared.program.Spot.{Spot}
use Rattle.cir_ast.specs.declared.program.Meant.{Meant}
use Rattle.std.specs.Prelude.{map}
use Rattle.cir_ast.specs.declared.marked.Block.{Block as CodeBlock, out-Block}
use Rattle.cir_ast.specs.declared.marked.Statement.{Statement as CodeStatement}
use Rattle.cir_ast.specs.Tree.{Statement, then_more, as_statements, bare_statement, bare_block}
use Rattle.cir_ast.proofs.Rows.{block_is}
use Rattle.cir_resolve.specs.Steps.{made, in_turn}
use Rattle.cir_resolve.specs.Scope.{State}
use Rattle.cir_resolve.specs.Naming.{named_statement, named_statements}

statements_in_turn : (st : State) (ss : List (Statement Spot Meant))
    → named_statements st (as_statements ss) ≡ made as_statements (in_turn named_statement st ss)
statements_in_turn st [] = refl
statements_in_turn st (s ∷ ss) =
    let others : (after : State) → named_statements after (as_statements ss)
    ≡ made as_statements (in_turn named_statement after ss) =
    λ after. statements_in_turn after ss in
    grind (arith, others)

-- a block, whose statements are these
pub block_named : (st : State) (b : CodeBlock Spot Meant) (ss : List (CodeStatement Spot Meant))
    → ss ≡ (out-Block Spot Meant b).statements
    → named_statements st (bare_block b)
    ≡ made as_statements (in_turn named_statement st (map bare_statement ss))
block_named st b ss are =
    ap (named_statements st) (block_is Spot Meant b
    ∙ ap (λ (list : List (CodeStatement Spot Meant)). as_statements (map bare_statement list))
    (sym are))
    ∙ statements_in_turn st (map bare_statement ss)
