use Rattle.std.proofs.Common.{◌∙◌, ℕ, ◌+◌, [], ◌∷◌, ◌++◌, length, take, drop, ap, sym, refl}
use Rattle.std.proofs.Common.{append-nil}
use Rattle.std.specs.Prelude.{Some, map, option_map}
use Rattle.std.specs.Option.{option_copied}
use Rattle.std.proofs.lemmas.List.{at_drop_all}
use Rattle.wit_code.specs.declared.code.Op.TheVariants as op
use Rattle.cir_ast.specs.declared.marked.StatementForm.TheVariants as statement
use Rattle.cir_ast.specs.Tree.{Block, as_statements, bare, bare_assign, bare_block, bare_first}
use Rattle.cir_ast.specs.Tree.{bare_simple, bare_statement}
use Rattle.cir_ast.proofs.Rows.{block_is}
use Rattle.cir_arrays.proofs.Lists.{at_read}
use Rattle.wit_lower.specs.Homes as L
use Rattle.wit_lower.specs.Pieces as P
use Rattle.wit_lower.specs.Statements as S
use Rattle.wit_lower.specs.Values as V
use Rattle.wit_statements.specs.Parts as E
use Rattle.wit_sourced.specs.Shown.{scope_of}
use Rattle.wit_emit.specs.Grounds.{ground_of}
use Rattle.wit_emit.proofs.Chained.{chained, then_made, then_ended}
use Rattle.wit_emit.proofs.Ended.{either_ended, jump_within, other_within, turns_ended}
use Rattle.wit_emit.proofs.Ended.{turns_within, unless_ended}
use Rattle.wit_sourced.proofs.Left.{begins_then, behind_left, behind_same, dropped, left_then}
use Rattle.wit_sourced.proofs.Left.{shows_left}
use Rattle.wit_statements.proofs.Made.{form_behind, form_made}
use Rattle.wit_statements.proofs.statements.+statements.Goals as goal

-- ---- one statement behind the other
pub emit_statements-loop-statement-preserved : goal.emit_statements-loop-statement-preserved
emit_statements-loop-statement-preserved t c =
    let g = ground_of c.args.ground.now in
    let loop = c.loop-statement in
    let s = scope_of loop.scope in
    let list = c.args.statements.now in
    let x = c.statement-item.result in
    let rest = as_statements (map bare_statement (drop (loop.statement-index + 1) list)) in
    let behind = S.scope_behind g s (bare_statement x) in
    let made = c.in_ok-emit_statement.ensures in
    let new = c.emit_statement.new.code in
    let code = at_read (λ l. loop.code ++ S.statements_code g s (length loop.code)
    (as_statements (map bare_statement l))) list loop.statement-index x
    c.loop-statement-test.true c.statement-item.is in (
      ap (λ (y : L.Scope). new ++ S.statements_code g y (length new) rest) made.scope.shows
          ∙ ap (λ (k : P.Code). k ++ S.statements_code g behind (length k) rest) made.code
          ∙ chained loop.code (S.statement_code g s (length loop.code) (bare_statement x))
          (λ p. S.statements_code g behind p rest)
          ∙ sym code ∙ loop.invariant.0,
      begins_then c.args.scope.now.homes.items loop.scope.homes.items
          c.emit_statement.new.scope.homes.items loop.invariant.1 made.scope.begins,
    )

pub emit_statements-returns-clause-code : goal.emit_statements-returns-clause-code
emit_statements-returns-clause-code t c =
    let g = ground_of c.args.ground.now in
    let loop = c.loop-statement in
    sym (append-nil loop.code)
    ∙ sym (at_drop_all (λ l. loop.code ++ S.statements_code g (scope_of loop.scope)
    (length loop.code) (as_statements (map bare_statement l))) c.args.statements.now
    loop.statement-index c.loop-statement-test.false)
    ∙ loop.invariant.0

pub emit_statements-returns-clause-homes : goal.emit_statements-returns-clause-homes
emit_statements-returns-clause-homes t c = c.loop-statement.invariant.1

-- ---- what is declared in a block or a branch
pub emit_block-returns-clause-code : goal.emit_block-returns-clause-code
emit_block-returns-clause-code t c =
    let g = ground_of c.args.ground.now in
    let s = scope_of c.args.scope.now in
    let old = c.args.code.now in
    c.in_ok-emit_statements.ensures.code
    ∙ ap (λ l. old ++ S.statements_code g s (length old) (as_statements (map bare_statement l)))
    c.as_slice.ensures
    ∙ ap (λ ss. old ++ S.statements_code g s (length old) ss) (sym (block_is _ _ c.args.block.now))

pub emit_block-returns-clause-scope : goal.emit_block-returns-clause-scope
emit_block-returns-clause-scope t c =
    let old = c.args.scope.now in
    let new = c.emit_statements.new.scope in
    dropped old new c.leave.new.self c.in_ok-emit_statements.ensures.homes
    (c.leave.ensures.homes
    ∙ ap (λ (n : ℕ). take n new.homes.items) (c.len-count.ensures ∙ old.homes.ok.0))
    c.leave.ensures.top

pub emit_inner-returns-clause-code : goal.emit_inner-returns-clause-code
emit_inner-returns-clause-code t c = c.in_ok-emit_statement.ensures.code

pub emit_inner-returns-clause-scope : goal.emit_inner-returns-clause-scope
emit_inner-returns-clause-scope t c =
    let old = c.args.scope.now in
    let new = c.emit_statement.new.scope in
    dropped old new c.leave.new.self c.in_ok-emit_statement.ensures.scope.begins
    (c.leave.ensures.homes
    ∙ ap (λ (n : ℕ). take n new.homes.items) (c.len-count.ensures ∙ old.homes.ok.0))
    c.leave.ensures.top

-- ---- a loop
pub emit_turn-returns-in_default-clause-code : goal.emit_turn-returns-in_default-clause-code
emit_turn-returns-in_default-clause-code t c =
    rw c.in_default.is c.in_ok-emit_inner.ensures.code

pub emit_turn-returns-clause-code : goal.emit_turn-returns-clause-code
emit_turn-returns-clause-code t c =
    let g = ground_of c.args.ground.now in
    let s = scope_of c.args.scope.now in
    let old = c.args.code.now in
    let one = c.emit_statement.new.code in
    let body = bare_statement c.args.body.now in
    let step = bare_assign c.in-Some.step.now in
    rw c.in-Some.is (then_made old one c.emit_assign.new.code
    (S.statement_code g s (length old) body)
    (λ p. S.assign_code g (S.scope_behind g s body) p step) c.in_ok-emit_statement.ensures.code
    (c.in_ok-emit_assign.ensures
    ∙ ap (λ (x : L.Scope). one ++ S.assign_code g x (length one) step)
    c.in_ok-emit_statement.ensures.scope.shows))

pub emit_turn-returns-clause-scope : goal.emit_turn-returns-clause-scope
emit_turn-returns-clause-scope t c =
    let old = c.args.scope.now in
    let new = c.emit_statement.new.scope in
    dropped old new c.leave.new.self c.in_ok-emit_statement.ensures.scope.begins
    (c.leave.ensures.homes
    ∙ ap (λ (n : ℕ). take n new.homes.items) (c.len-count.ensures ∙ old.homes.ok.0))
    c.leave.ensures.top

pub emit_turns-end_jump-requires : goal.emit_turns-end_jump-requires
emit_turns-end_jump-requires t c =
    let g = ground_of c.args.ground.now in
    let s = scope_of c.args.scope.now in
    let begun = c.in_ok-jump.ensures in
    let one = c.begin_turns.new.code in
    turns_within c.args.code.now one c.emit_turn.new.code
    (E.turn_code g s (length one) (bare_statement c.args.body.now)
    (option_map bare_assign (option_copied c.args.step))) c.in_ok-jump.jump (op.Jump 0) op.Turn
    begun.place begun.code c.in_ok-emit_turn.ensures.code

pub emit_turns-returns-clause-code : goal.emit_turns-returns-clause-code
emit_turns-returns-clause-code t c =
    let g = ground_of c.args.ground.now in
    let s = scope_of c.args.scope.now in
    let begun = c.in_ok-jump.ensures in
    let three = c.end_jump.new.code in
    let test = bare c.args.condition.now in
    let left = c.in_ok-emit_turn.ensures.scope in
    c.in_ok-end_turns.ensures
    ∙ turns_ended c.args.code.now c.begin_turns.new.code c.emit_turn.new.code three
    c.emit.new.code s.top c.in_ok-jump.jump
    (λ q. E.turn_code g s q (bare_statement c.args.body.now)
    (option_map bare_assign (option_copied c.args.step)))
    (λ q. S.test_code g s q test) (op.Jump 0) begun.place begun.code
    c.in_ok-emit_turn.ensures.code c.in_ok-end_jump.ensures
    (c.in_ok-emit.ensures
    ∙ ap (λ (x : L.Scope). three ++ V.expr_code g x.homes s.top (length three) test)
    (shows_left c.args.scope.now c.emit_turn.new.scope left))

pub emit_turns-returns-clause-scope : goal.emit_turns-returns-clause-scope
emit_turns-returns-clause-scope t c = c.in_ok-emit_turn.ensures.scope

-- ---- a statement
pub emit_statement-returns-in_ok-emit_block-in-Block-clause-code :
    goal.emit_statement-returns-in_ok-emit_block-in-Block-clause-code
emit_statement-returns-in_ok-emit_block-in-Block-clause-code t c =
    let g = ground_of c.args.ground.now in
    let s = scope_of c.args.scope.now in
    form_made g s c.args.code.now c.emit_block.new.code
    (S.statement_code g s (length c.args.code.now)
    (Block c.args.statement.now.spot (bare_block c.in-Block.block))) c.args.statement.now
    (statement.Block c.in-Block.block) c.in-Block.is refl c.in_ok-emit_block-in-Block.ensures.code

pub emit_statement-returns-in_ok-emit_block-in-Block-clause-scope :
    goal.emit_statement-returns-in_ok-emit_block-in-Block-clause-scope
emit_statement-returns-in_ok-emit_block-in-Block-clause-scope t c =
    form_behind (ground_of c.args.ground.now) (scope_of c.args.scope.now) c.args.scope.now
    c.emit_block.new.scope c.args.statement.now (statement.Block c.in-Block.block) c.in-Block.is
    (behind_left c.args.scope.now c.emit_block.new.scope
    c.in_ok-emit_block-in-Block.ensures.scope)

pub emit_statement-end_jump_zero-requires : goal.emit_statement-end_jump_zero-requires
emit_statement-end_jump_zero-requires t c =
    let g = ground_of c.args.ground.now in
    let s = scope_of c.args.scope.now in
    let begun = c.in_ok-jump-in-If.ensures in
    let middle = c.begin_jump.new.code in
    jump_within c.emit.new.code middle c.emit_inner.new.code
    (S.statement_code g s (length middle) (bare_statement c.deref.result.now))
    c.in_ok-jump-in-If.jump (op.JumpZero s.top 0) begun.place begun.code
    c.in_ok-emit_inner-in-If.ensures.code

pub emit_statement-returns-in_ok-end_jump_zero-in-If-clause-code :
    goal.emit_statement-returns-in_ok-end_jump_zero-in-If-clause-code
emit_statement-returns-in_ok-end_jump_zero-in-If-clause-code t c =
    let g = ground_of c.args.ground.now in
    let s = scope_of c.args.scope.now in
    let old = c.args.code.now in
    let e = c.in-If in
    let test = S.test_code g s (length old) (bare e.condition) in
    let chosen = λ (q : ℕ). S.statement_code g s q (bare_statement e.chosen.value) in
    let begun = c.in_ok-jump-in-If.ensures in
    form_made g s old c.end_jump_zero.new.code
    (P.followed (length old) test (λ p. P.unless_zero s.top p chosen)) c.args.statement.now
    (statement.If e.condition e.chosen) e.is refl
    (then_made old c.emit.new.code c.end_jump_zero.new.code test
    (λ p. P.unless_zero s.top p chosen) c.in_ok-emit-in-If.ensures
    (c.in_ok-end_jump_zero-in-If.ensures
    ∙ unless_ended c.emit.new.code c.begin_jump.new.code c.emit_inner.new.code s.top
    c.in_ok-jump-in-If.jump chosen (op.JumpZero s.top 0) begun.place begun.code
    (rw c.deref.ensures at c.in_ok-emit_inner-in-If.ensures.code)))

pub emit_statement-returns-in_ok-end_jump_zero-in-If-clause-scope :
    goal.emit_statement-returns-in_ok-end_jump_zero-in-If-clause-scope
emit_statement-returns-in_ok-end_jump_zero-in-If-clause-scope t c =
    form_behind (ground_of c.args.ground.now) (scope_of c.args.scope.now) c.args.scope.now
    c.emit_inner.new.scope c.args.statement.now (statement.If c.in-If.condition c.in-If.chosen)
    c.in-If.is (behind_left c.args.scope.now c.emit_inner.new.scope
    c.in_ok-emit_inner-in-If.ensures.scope)

pub emit_statement-begin_other-requires : goal.emit_statement-begin_other-requires
emit_statement-begin_other-requires t c =
    let g = ground_of c.args.ground.now in
    let s = scope_of c.args.scope.now in
    let begun = c.in_ok-jump-in-IfElse.ensures in
    let middle = c.begin_jump-in-IfElse.new.code in
    jump_within c.emit-in-IfElse.new.code middle c.emit_inner-in-IfElse.new.code
    (S.statement_code g s (length middle) (bare_statement c.deref-in-IfElse.result.now))
    c.in_ok-jump-in-IfElse.jump (op.JumpZero s.top 0) begun.place begun.code
    c.in_ok-emit_inner-in-IfElse.ensures.code

pub emit_statement-end_jump-requires : goal.emit_statement-end_jump-requires
emit_statement-end_jump-requires t c =
    let g = ground_of c.args.ground.now in
    let begun = c.in_ok-last-in-IfElse.ensures in
    let one = c.emit_inner-in-IfElse.new.code in
    let two = c.begin_other.new.code in
    other_within one two c.emit_inner-in-IfElse-2.new.code
    (S.statement_code g (scope_of c.emit_inner-in-IfElse.new.scope) (length two)
    (bare_statement c.deref-in-IfElse-2.result.now)) c.in_ok-jump-in-IfElse.jump
    c.in_ok-last-in-IfElse.last (op.JumpZero c.args.scope.now.top 0)
    (op.JumpZero c.args.scope.now.top (length one + 1)) begun.place begun.code
    c.in_ok-emit_inner-in-IfElse-2.ensures.code

pub emit_statement-returns-in_ok-end_jump-in-IfElse-clause-code :
    goal.emit_statement-returns-in_ok-end_jump-in-IfElse-clause-code
emit_statement-returns-in_ok-end_jump-in-IfElse-clause-code t c =
    let g = ground_of c.args.ground.now in
    let s = scope_of c.args.scope.now in
    let old = c.args.code.now in
    let e = c.in-IfElse in
    let test = S.test_code g s (length old) (bare e.condition) in
    let chosen = λ (q : ℕ). S.statement_code g s q (bare_statement e.chosen.value) in
    let other = λ (q : ℕ). S.statement_code g s q (bare_statement e.other.value) in
    let begun = c.in_ok-jump-in-IfElse.ensures in
    let between = c.in_ok-last-in-IfElse.ensures in
    let two = c.begin_other.new.code in
    let left = c.in_ok-emit_inner-in-IfElse.ensures.scope in
    form_made g s old c.end_jump.new.code
    (P.followed (length old) test (λ p. P.either s.top p chosen other)) c.args.statement.now
    (statement.IfElse e.condition e.chosen e.other) e.is refl
    (then_made old c.emit-in-IfElse.new.code c.end_jump.new.code test
    (λ p. P.either s.top p chosen other) c.in_ok-emit-in-IfElse.ensures
    (c.in_ok-end_jump-in-IfElse.ensures
    ∙ either_ended c.emit-in-IfElse.new.code c.begin_jump-in-IfElse.new.code
    c.emit_inner-in-IfElse.new.code two c.emit_inner-in-IfElse-2.new.code s.top
    c.in_ok-jump-in-IfElse.jump c.in_ok-last-in-IfElse.last chosen other (op.JumpZero s.top 0)
    (op.JumpZero s.top 0) begun.place begun.code
    (rw c.deref-in-IfElse.ensures at c.in_ok-emit_inner-in-IfElse.ensures.code) between.place
    between.code
    ((rw c.deref-in-IfElse-2.ensures at c.in_ok-emit_inner-in-IfElse-2.ensures.code)
    ∙ ap (λ (x : L.Scope). two ++ S.statement_code g x (length two)
    (bare_statement e.other.value))
    (shows_left c.args.scope.now c.emit_inner-in-IfElse.new.scope left))))

pub emit_statement-returns-in_ok-end_jump-in-IfElse-clause-scope :
    goal.emit_statement-returns-in_ok-end_jump-in-IfElse-clause-scope
emit_statement-returns-in_ok-end_jump-in-IfElse-clause-scope t c =
    let old = c.args.scope.now in
    let middle = c.emit_inner-in-IfElse.new.scope in
    let new = c.emit_inner-in-IfElse-2.new.scope in
    form_behind (ground_of c.args.ground.now) (scope_of old) old new c.args.statement.now
    (statement.IfElse c.in-IfElse.condition c.in-IfElse.chosen c.in-IfElse.other) c.in-IfElse.is
    (behind_left old new (left_then old middle new c.in_ok-emit_inner-in-IfElse.ensures.scope
    c.in_ok-emit_inner-in-IfElse-2.ensures.scope))

pub emit_statement-returns-in_ok-emit_turns-in-While-clause-code :
    goal.emit_statement-returns-in_ok-emit_turns-in-While-clause-code
emit_statement-returns-in_ok-emit_turns-in-While-clause-code t c =
    let g = ground_of c.args.ground.now in
    let s = scope_of c.args.scope.now in
    let old = c.args.code.now in
    let e = c.in-While in
    form_made g s old c.emit_turns.new.code
    (P.turns s.top (length old) (λ q. S.statement_code g s q (bare_statement e.body.value))
    (λ q. S.test_code g s q (bare e.condition))) c.args.statement.now
    (statement.While e.condition e.body) e.is refl
    (rw c.deref-in-While.ensures at c.in_ok-emit_turns-in-While.ensures.code)

pub emit_statement-returns-in_ok-emit_turns-in-While-clause-scope :
    goal.emit_statement-returns-in_ok-emit_turns-in-While-clause-scope
emit_statement-returns-in_ok-emit_turns-in-While-clause-scope t c =
    form_behind (ground_of c.args.ground.now) (scope_of c.args.scope.now) c.args.scope.now
    c.emit_turns.new.scope c.args.statement.now
    (statement.While c.in-While.condition c.in-While.body) c.in-While.is
    (behind_left c.args.scope.now c.emit_turns.new.scope
    c.in_ok-emit_turns-in-While.ensures.scope)

pub emit_statement-returns-in_ok-emit_turns-in-For-clause-code :
    goal.emit_statement-returns-in_ok-emit_turns-in-For-clause-code
emit_statement-returns-in_ok-emit_turns-in-For-clause-code t c =
    let g = ground_of c.args.ground.now in
    let s = scope_of c.args.scope.now in
    let old = c.args.code.now in
    let e = c.in-For in
    let one = c.emit_first.new.code in
    let first = bare_first e.first.value.form in
    let turns = λ (x : L.Scope) (p : ℕ). P.turns x.top p
    (λ q. E.turn_code g x q (bare_statement e.body.value)
    (Some (bare_assign e.step.value.assign)))
    (λ q. S.test_code g x q (bare e.condition)) in
    let inner = S.first_scope g s first in
    form_made g s old c.emit_turns-in-For.new.code
    (P.followed (length old) (S.first_code g s (length old) first) (turns inner))
    c.args.statement.now (statement.For e.first e.condition e.step e.body) e.is refl
    (then_made old one c.emit_turns-in-For.new.code (S.first_code g s (length old) first)
    (turns inner) (rw c.deref-in-For.ensures at c.in_ok-emit_first-in-For.ensures.code)
    ((rw (c.deref-in-For-2.ensures, c.deref-in-For-3.ensures)
    at c.in_ok-emit_turns-in-For.ensures.code)
    ∙ ap (λ (x : L.Scope). one ++ turns x (length one))
    (rw c.deref-in-For.ensures at c.in_ok-emit_first-in-For.ensures.scope.shows)))

pub emit_statement-returns-in_ok-emit_turns-in-For-clause-scope :
    goal.emit_statement-returns-in_ok-emit_turns-in-For-clause-scope
emit_statement-returns-in_ok-emit_turns-in-For-clause-scope t c =
    let old = c.args.scope.now in
    let new = c.emit_turns-in-For.new.scope in
    let e = c.in-For in
    let n = length old.homes.items in
    form_behind (ground_of c.args.ground.now) (scope_of old) old c.leave.new.self
    c.args.statement.now (statement.For e.first e.condition e.step e.body) e.is
    (behind_left old c.leave.new.self (dropped old new c.leave.new.self
    (ap (λ hs. take n hs) c.in_ok-emit_turns-in-For.ensures.scope.homes
    ∙ c.in_ok-emit_first-in-For.ensures.scope.begins)
    (c.leave.ensures.homes
    ∙ ap (λ (k : ℕ). take k new.homes.items) (c.len-count.ensures ∙ old.homes.ok.0))
    c.leave.ensures.top))

pub emit_statement-returns-in_ok-push-in-Return-clause-code :
    goal.emit_statement-returns-in_ok-push-in-Return-clause-code
emit_statement-returns-in_ok-push-in-Return-clause-code t c =
    let g = ground_of c.args.ground.now in
    let s = scope_of c.args.scope.now in
    let old = c.args.code.now in
    let value = V.expr_code g s.homes s.top (length old) (bare c.in-Return.e) in
    form_made g s old c.push.new.self (value ++ op.Return s.top ∷ []) c.args.statement.now
    (statement.Return c.in-Return.e) c.in-Return.is refl
    (then_ended old c.emit-in-Return.new.code c.push.new.self value (op.Return s.top ∷ [])
    c.in_ok-emit-in-Return.ensures c.in_ok-push-in-Return.ensures.ok)

pub emit_statement-returns-in_ok-push-in-Return-clause-scope :
    goal.emit_statement-returns-in_ok-push-in-Return-clause-scope
emit_statement-returns-in_ok-push-in-Return-clause-scope t c =
    form_behind (ground_of c.args.ground.now) (scope_of c.args.scope.now) c.args.scope.now
    c.args.scope.now c.args.statement.now (statement.Return c.in-Return.e) c.in-Return.is
    (behind_same c.args.scope.now)

pub emit_statement-returns-in_ok-push-in-Assert-clause-code :
    goal.emit_statement-returns-in_ok-push-in-Assert-clause-code
emit_statement-returns-in_ok-push-in-Assert-clause-code t c =
    let g = ground_of c.args.ground.now in
    let s = scope_of c.args.scope.now in
    let old = c.args.code.now in
    let value = V.expr_code g s.homes s.top (length old) (bare c.in-Assert.e) in
    form_made g s old c.push-in-Assert.new.self (value ++ op.Assert s.top ∷ [])
    c.args.statement.now (statement.Assert c.in-Assert.e) c.in-Assert.is refl
    (then_ended old c.emit-in-Assert.new.code c.push-in-Assert.new.self value
    (op.Assert s.top ∷ []) c.in_ok-emit-in-Assert.ensures c.in_ok-push-in-Assert.ensures.ok)

pub emit_statement-returns-in_ok-push-in-Assert-clause-scope :
    goal.emit_statement-returns-in_ok-push-in-Assert-clause-scope
emit_statement-returns-in_ok-push-in-Assert-clause-scope t c =
    form_behind (ground_of c.args.ground.now) (scope_of c.args.scope.now) c.args.scope.now
    c.args.scope.now c.args.statement.now (statement.Assert c.in-Assert.e) c.in-Assert.is
    (behind_same c.args.scope.now)

pub emit_statement-returns-in-Log-clause-code : goal.emit_statement-returns-in-Log-clause-code
emit_statement-returns-in-Log-clause-code t c =
    form_made (ground_of c.args.ground.now) (scope_of c.args.scope.now) c.args.code.now
    c.args.code.now [] c.args.statement.now (statement.Log c.in-Log.field-0) c.in-Log.is refl
    (sym (append-nil c.args.code.now))

pub emit_statement-returns-in-Log-clause-scope : goal.emit_statement-returns-in-Log-clause-scope
emit_statement-returns-in-Log-clause-scope t c =
    form_behind (ground_of c.args.ground.now) (scope_of c.args.scope.now) c.args.scope.now
    c.args.scope.now c.args.statement.now (statement.Log c.in-Log.field-0) c.in-Log.is
    (behind_same c.args.scope.now)

pub emit_statement-returns-in_ok-emit_simple-in-Simple-clause-code :
    goal.emit_statement-returns-in_ok-emit_simple-in-Simple-clause-code
emit_statement-returns-in_ok-emit_simple-in-Simple-clause-code t c =
    let g = ground_of c.args.ground.now in
    let s = scope_of c.args.scope.now in
    let old = c.args.code.now in
    form_made g s old c.emit_simple.new.code
    (S.simple_code g s (length old) (bare_simple c.in-Simple.form)) c.args.statement.now
    (statement.Simple c.in-Simple.form) c.in-Simple.is refl
    c.in_ok-emit_simple-in-Simple.ensures.code

pub emit_statement-returns-in_ok-emit_simple-in-Simple-clause-scope :
    goal.emit_statement-returns-in_ok-emit_simple-in-Simple-clause-scope
emit_statement-returns-in_ok-emit_simple-in-Simple-clause-scope t c =
    form_behind (ground_of c.args.ground.now) (scope_of c.args.scope.now) c.args.scope.now
    c.emit_simple.new.scope c.args.statement.now (statement.Simple c.in-Simple.form)
    c.in-Simple.is c.in_ok-emit_simple-in-Simple.ensures.scope
