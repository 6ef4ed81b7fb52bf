use Rattle.std.proofs.Common.{subst, sym}
use Rattle.std.specs.Prelude.{map}
use Rattle.std.proofs.lemmas.Result.{on_ok_weaker}
use Rattle.cir_ast.specs.Tree.{as_statements, bare_assign, bare_statement}
use Rattle.cir_ast.proofs.Rows.{block_is}
use Rattle.cir_emit.specs.Sourced as H
use Rattle.cir_meaning.specs.Writing.{plain}
use Rattle.wit_lower.specs.Homes as L
use Rattle.wit_emit.specs.Grounds.{ground_of}
use Rattle.wit_sourced.specs.Shown.{scope_of}
use Rattle.cir_has.proofs.statements.+statements.Goals as goal

pub has_block-returns-clause-has : goal.has_block-returns-clause-has
has_block-returns-clause-has g t c =
    let There = g.A.Arrays.there c.args.arrays.now in
    let ground = ground_of c.args.ground.now in
    let s = scope_of c.args.scope.now in
    subst (H.StatementsHave There ground s) (sym (block_is _ _ c.args.block.now))
    (subst (λ l. H.StatementsHave There ground s (as_statements (map bare_statement l)))
    c.as_slice.ensures c.in_ok-has_statements.ensures.has)

pub has_turn-returns-clause-step : goal.has_turn-returns-clause-step
has_turn-returns-clause-step g t c =
    let There = g.A.Arrays.there c.args.arrays.now in
    let ground = ground_of c.args.ground.now in
    on_ok_weaker c.has_assign.result (subst (λ (x : L.Scope). H.PlainHas There ground x.homes
    (plain (bare_assign c.args.step.now))) c.in_ok-has_statement.ensures.scope.shows)
    c.has_assign.ensures
