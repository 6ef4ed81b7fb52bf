use Rattle.std.proofs.Common.{arith, ap, sym, ◌∙◌, List, Ok}
use Rattle.std.specs.Prelude.{map}
use Rattle.cir_ast.specs.declared.program.Spot.{Spot}
use Rattle.cir_ast.specs.declared.program.Meant.{Meant}
use Rattle.cir_ast.specs.declared.marked.Statement.{Statement}
use Rattle.cir_ast.specs.Tree.{bare_statement, as_statements}
use Rattle.cir_resolve.specs.Steps.{made}
use Rattle.cir_resolve.specs.Naming.{named_statement}
use Rattle.cir_resolve.specs.Answers.{state_of}
use Rattle.cir_resolve.proofs.InTurn.{given_stop, given_all, stopped}
use Rattle.cir_resolve.proofs.Listing.{block_named}
use Rattle.cir_resolve.proofs.scope.Scopes.+statements.Goals as goal

pub statement-returns-in_err-for_loop-in-For-clause-named :
    goal.statement-returns-in_err-for_loop-in-For-clause-named
statement-returns-in_err-for_loop-in-For-clause-named t c =
    stopped (λ (u : Unit {0}). bare_statement c.args.statement.now) _ _ _ _ _ _ _
    c.from_residual-in_err-for_loop-in-For.ensures.1 c.in_err-for_loop-in-For.ensures.named
    (λ p stops.
    rw (c.in-For.is, ← c.deref_mut-in-For.ensures.value, ← c.deref_mut-in-For-2.ensures.value)
    (rw (← c.deref_mut-in-For-3.ensures.value, ← c.in-For.condition-is) stops))

pub statement-returns-in_ok-for_loop-in-For-clause-named :
    goal.statement-returns-in_ok-for_loop-in-For-clause-named
statement-returns-in_ok-for_loop-in-For-clause-named t c =
    rw (c.in-For.is, ← c.deref_mut-in-For.ensures.value, ← c.deref_mut-in-For-2.ensures.value)
    (rw (← c.deref_mut-in-For-3.ensures.value, ← c.in-For.condition-is)
    c.in_ok-for_loop-in-For.ensures.named)

pub body-returns-in_err-statement-clause-named : goal.body-returns-in_err-statement-clause-named
body-returns-in_err-statement-clause-named t c =
    stopped (λ (u : Unit {0}). bare_statement c.statement.new.statement) _ _ _ _ _ _ _
    c.from_residual.ensures.1 c.in_err-statement.ensures.named
    (λ p e.
    block_named (state_of c.args.self.now) c.args.block.now _ c.take_out-all.ensures
    ∙ ap (made as_statements)
    (given_stop bare_statement named_statement _ _ _ _ _ c.index_mut.result.now p
    c.loop-i.invariant.given (omega arith) c.index_mut.ensures.value e))

pub body-returns-clause-named : goal.body-returns-clause-named
body-returns-clause-named t c =
    block_named (state_of c.args.self.now) c.args.block.now _ c.take_out-all.ensures
    ∙ ap (made as_statements)
    (given_all bare_statement named_statement _ _ _ _ _ c.loop-i.invariant.given (omega arith))
    ∙ ap (λ b. Ok (b, state_of c.loop-i.self)) (sym (c.of-2.ensures
    ∙ ap (λ (ss : List (Statement Spot Meant)). as_statements (map bare_statement ss))
    c.of.ensures))
