use Rattle.std.proofs.Common.{◌≡◌, ℕ, ◌+◌, ◌-◌, ◌∙◌, [], refl, ap, sym, length, arith}
use Rattle.std.proofs.lemmas.List.{map-append, length-map}
use Rattle.cir_expression.specs.Answers.{kinds}
use Rattle.cir_simple_statement.proofs.Steps.{exits}
use Rattle.cir_parse.specs.Reading.{statement, statements_by}
use Rattle.cir_parse.proofs.Steps.{statements_is, no_statement}
use Rattle.cir_parse.proofs.statements.+statements.Goals as goal

pub rest_of_block-loop-init : goal.rest_of_block-loop-init
rest_of_block-loop-init g t c =
    let read = statement (g.M.Marks.mark c.args.marks.now) c.args.room in
    let tokens = c.args.reader.now.rest.now in
    rw c.new-statements.ensures.items
    (ap (λ (n : ℕ). statements_by n read [] (kinds tokens))
    (omega (arith, length-map tokens (λ t. t.kind))))

pub rest_of_block-returns-then-begins : goal.rest_of_block-returns-then-begins
rest_of_block-returns-then-begins g t c =
    c.loop.invariant
    ∙ statements_is (length c.args.reader.now.rest.now - c.loop.counter)
    (length c.args.reader.now.rest.now - (c.loop.counter + 1)) _ _ _ (omega arith)
    ∙ rw (sym c.begins.ensures ∙ c.if-begins.true, c.skip.ensures) refl

pub rest_of_block-returns-in_err-statement : goal.rest_of_block-returns-in_err-statement
rest_of_block-returns-in_err-statement g t c =
    exits _ _ _ _ _ c.from_residual.ensures.1
    (no_statement _ (length c.args.reader.now.rest.now - c.loop.counter)
    _ _ _ _ (omega arith) c.loop.invariant
    (sym c.begins.ensures ∙ c.if-begins.false) c.in_err-statement.ensures)

pub rest_of_block-loop-preserved : goal.rest_of_block-loop-preserved
rest_of_block-loop-preserved g t c =
    rw (c.in_ok-add.ensures, map-append)
    (c.loop.invariant
    ∙ statements_is (length c.args.reader.now.rest.now - c.loop.counter)
    (length c.args.reader.now.rest.now - (c.loop.counter + 1)) _ _ _ (omega arith)
    ∙ rw (sym c.begins.ensures ∙ c.if-begins.false, c.in_ok-statement.ensures) refl)

pub rest_of_block-returns : goal.rest_of_block-returns
rest_of_block-returns g t c =
    let none : length c.args.reader.now.rest.now - c.loop.counter ≡ 0 = omega arith in
    c.loop.invariant ∙ rw none refl
