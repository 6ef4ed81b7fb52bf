use Rattle.std.proofs.Common.{◌∙◌, ℕ, ◌+◌, [], ◌∷◌, ◌++◌, length, map, ap, sym, append-nil}
use Rattle.wit_code.specs.declared.code.Op.TheVariants as op
use Rattle.cir_ast.specs.Tree.{bare, bare_assign, bare_statement}
use Rattle.cir_meaning.specs.Statement.{loop_of}
use Rattle.std.specs.Prelude.{Some}
use Rattle.wit_lower.specs.Homes as L
use Rattle.wit_lower.specs.Pieces.{Code, turns}
use Rattle.wit_lower.specs.Statements as S
use Rattle.wit_lower.specs.Tasks as T
use Rattle.wit_lower.specs.Values as V
use Rattle.wit_statements.specs.Asked.{element_of}
use Rattle.wit_statements.specs.Parts as E
use Rattle.wit_sourced.specs.Shown.{scope_of}
use Rattle.wit_emit.specs.Grounds.{ground_of}
use Rattle.wit_emit.proofs.Chained.{then_ended, then_made}
use Rattle.wit_statements.proofs.Turns.{block_turns}
use Rattle.wit_statements.proofs.tasks.emit_task.Goals as goal

pub returns-in_ok-writes-in-Gives : goal.returns-in_ok-writes-in-Gives
returns-in_ok-writes-in-Gives c =
    let g = ground_of c.args.ground.now in
    let s = scope_of c.args.scope.now in
    let old = c.args.code.now in
    let e = bare c.in-Gives.e.now in
    rw c.in-Gives.is (then_ended old c.emit.new.code c.writes.new.code
    (V.expr_code g s.homes s.top (length old) e) (T.writes s.top (V.size_of g s.homes e))
    c.in_ok-emit-in-Gives.ensures
    (rw c.in_ok-size_of-in-Gives.ensures at c.in_ok-writes-in-Gives.ensures))

pub returns-in_ok-push-in-Equal : goal.returns-in_ok-push-in-Equal
returns-in_ok-push-in-Equal c =
    let g = ground_of c.args.ground.now in
    let s = scope_of c.args.scope.now in
    let old = c.args.code.now in
    let one = c.emit-in-Equal.new.code in
    let a = V.expr_code g s.homes s.top (length old) (bare c.in-Equal.a.now) in
    let b = V.expr_code g s.homes (s.top + 1) (length one) (bare c.in-Equal.b.now) in
    let last = op.Check s.top (s.top + 1) ∷ [] in
    rw c.in-Equal.is (then_made old one c.push.new.self a
    (λ p. V.expr_code g s.homes (s.top + 1) p (bare c.in-Equal.b.now) ++ last)
    c.in_ok-emit-in-Equal.ensures
    (then_ended one c.emit-in-Equal-2.new.code c.push.new.self b last
    (rw c.in_ok-next-in-Equal.ensures.ok at c.in_ok-emit-in-Equal-2.ensures)
    (rw c.in_ok-next-in-Equal.ensures.ok at c.in_ok-push-in-Equal.ensures.ok)))

pub returns-in_ok-emit_logs-in-Logs : goal.returns-in_ok-emit_logs-in-Logs
returns-in_ok-emit_logs-in-Logs c = rw c.in-Logs.is c.in_ok-emit_logs-in-Logs.ensures

pub returns-in_ok-push-in-Asserts : goal.returns-in_ok-push-in-Asserts
returns-in_ok-push-in-Asserts c =
    let g = ground_of c.args.ground.now in
    let s = scope_of c.args.scope.now in
    let old = c.args.code.now in
    let e = V.expr_code g s.homes s.top (length old) (bare c.in-Asserts.e.now) in
    let last = op.Assert s.top ∷ [] in
    rw c.in-Asserts.is (then_ended old c.push-in-Asserts.new.self c.push-in-Asserts.new.self
    (e ++ last) [] (then_ended old c.emit-in-Asserts.new.code c.push-in-Asserts.new.self e last
    c.in_ok-emit-in-Asserts.ensures c.in_ok-push-in-Asserts.ensures.ok)
    (sym (append-nil c.push-in-Asserts.new.self)))

pub returns-in_ok-emit_targets-in-Assigns : goal.returns-in_ok-emit_targets-in-Assigns
returns-in_ok-emit_targets-in-Assigns c =
    let g = ground_of c.args.ground.now in
    let s = scope_of c.args.scope.now in
    let old = c.args.code.now in
    rw c.in-Assigns.is (then_ended old c.emit_assign.new.code c.emit_targets.new.code
    (S.assign_code g s (length old) (bare_assign c.in-Assigns.a.now))
    (T.targets_code s.homes (map element_of c.in-Assigns.targets.now))
    c.in_ok-emit_assign-in-Assigns.ensures c.in_ok-emit_targets-in-Assigns.ensures)

pub returns-in_ok-emit_targets-in-Executes : goal.returns-in_ok-emit_targets-in-Executes
returns-in_ok-emit_targets-in-Executes c =
    let g = ground_of c.args.ground.now in
    let s = scope_of c.args.scope.now in
    let old = c.args.code.now in
    let one = c.emit_inner.new.code in
    let targets = map element_of c.in-Executes.targets.now in
    let a = bare_statement c.in-Executes.a.now in
    rw c.in-Executes.is (then_ended old one c.emit_targets-in-Executes.new.code
    (S.statement_code g s (length old) a) (T.targets_code s.homes targets)
    (c.in_ok-emit_inner-in-Executes.ensures.code
    ∙ ap (λ (x : L.Scope). old ++ S.statement_code g x (length old) a)
    c.in_ok-inner-in-Executes.ensures)
    c.in_ok-emit_targets-in-Executes.ensures)

pub returns-in_ok-emit_targets-in-Repeats : goal.returns-in_ok-emit_targets-in-Repeats
returns-in_ok-emit_targets-in-Repeats c =
    let g = ground_of c.args.ground.now in
    let s = scope_of c.args.scope.now in
    let old = c.args.code.now in
    let one = c.emit_turns.new.code in
    let step = c.in-Repeats.step.now in
    let test = bare c.in-Repeats.condition.now in
    let body = bare_statement c.in-Repeats.body.now in
    let a = bare_assign step.assign in
    let targets = map element_of c.in-Repeats.targets.now in
    rw c.in-Repeats.is (then_ended old one c.emit_targets-in-Repeats.new.code
    (S.statement_code g s (length old)
    (loop_of c.in-Repeats.field-0 test body step.spot a))
    (T.targets_code s.homes targets)
    (c.in_ok-emit_turns-in-Repeats.ensures.code
    ∙ ap (λ (x : L.Scope). old ++ turns x.top (length old)
    (λ q. E.turn_code g x q body (Some a)) (λ q. S.test_code g x q test))
    c.in_ok-inner-in-Repeats.ensures
    ∙ ap (λ (f : ℕ → Code). old ++ turns s.top (length old) f (λ q. S.test_code g s q test))
    (block_turns g s c.in-Repeats.field-0 step.spot body a))
    c.in_ok-emit_targets-in-Repeats.ensures)
