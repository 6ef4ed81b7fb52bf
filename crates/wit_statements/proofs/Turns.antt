-- The turns of a loop with a step are those of a block of its body and the step.
use Rattle.std.proofs.Common.{◌≡◌, ℕ, ◌+◌, ◌++◌, Some, length, ap, append-nil, sym}
use Rattle.cir_ast.specs.declared.program.Meant.{Meant}
use Rattle.cir_ast.specs.declared.program.Spot.{Spot}
use Rattle.cir_ast.specs.Tree.{Assign, Assigned, Block, Ended, Statement, empty, then_more}
use Rattle.wit_lower.specs.Homes.{Ground, Scope}
use Rattle.wit_lower.specs.Pieces.{Code}
use Rattle.wit_lower.specs.Statements.{assign_code, scope_behind, statement_code}
use Rattle.wit_statements.specs.Parts.{turn_code}

block_turn : (g : Ground) (s : Scope) (spot step_spot : Spot) (body : Statement Spot Meant)
    (a : Assign Meant) (q : ℕ) → turn_code g s q body (Some a)
    ≡ statement_code g s q
    (Block spot (then_more body (then_more (Ended step_spot (Assigned a)) empty)))
block_turn g s spot step_spot body a q =
    let first : Code = statement_code g s q body in
    ap (λ (x : Code). first ++ x)
    (sym (append-nil (assign_code g (scope_behind g s body) (q + length first) a)))

pub block_turns : (g : Ground) (s : Scope) (spot step_spot : Spot) (body : Statement Spot Meant)
    (a : Assign Meant) → ◌≡◌ {A = ℕ → Code} (λ q. turn_code g s q body (Some a))
    (λ q. statement_code g s q
    (Block spot (then_more body (then_more (Ended step_spot (Assigned a)) empty))))
block_turns g s spot step_spot body a i q = block_turn g s spot step_spot body a q i
