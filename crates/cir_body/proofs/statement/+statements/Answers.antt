use Rattle.std.proofs.Common.{◌∙◌, ◌+◌, ap, sym, refl, map, Result, Ok, Err}
use Rattle.cir_ast.specs.Tree.{Assigned, Log, as_statements, bare, bare_argument, bare_assign}
use Rattle.cir_ast.specs.Tree.{bare_first, bare_form, bare_statement}
use Rattle.cir_ast.proofs.Rows.{block_is}
use Rattle.cir_values.specs.declared.operators.Side.TheVariants.{First, Second, Both}
use Rattle.cir_meaning.specs.Tried.{Tried}
use Rattle.cir_meaning.specs.Frame.{at, counted}
use Rattle.cir_meaning.specs.Statement.{first_simple, most_turns}
use Rattle.cir_meaning.specs.Unknown.{fault_of}
use Rattle.cir_arrays.specs.declared.stop.Fault.{Fault}
use Rattle.cir_execute.specs.Rests.{rest_by, rest_fault}
use Rattle.cir_execute.proofs.Fors.{for_shown}
use Rattle.cir_steps.specs.Emission.{Emission, Emitted, quiet, then_emit}
use Rattle.cir_steps.specs.Emit.{emit_counted, emit_simple}
use Rattle.cir_steps.specs.Statements.{emit, emit_all, emit_assert, emit_log, emit_turns}
use Rattle.cir_steps.specs.Statements.{emit_undecided}
use Rattle.cir_make.specs.Emits.{go_on}
use Rattle.cir_make.specs.Means.{emitting_in}
use Rattle.cir_body.specs.Turns.{turn_of}
use Rattle.cir_make.proofs.Going.{emits_as, emits_exit, emits_next, emits_refused, quiet_is}
use Rattle.cir_make.proofs.Going.{rests_emit, rests_more, rests_then, with_world}
use Rattle.cir_body.proofs.Branching.{all_end, all_from, branch_stops, first_from}
use Rattle.cir_body.proofs.Executing.{branch_emits, counted_ends, counted_goes, counted_stops}
use Rattle.cir_body.proofs.Executing.{emits_form, left_at, step_emits}
use Rattle.cir_body.proofs.Turning.{turn_by, turn_ends, turn_goes, turn_stops, turn_told}
use Rattle.cir_body.proofs.Turning.{turns_begin, turns_end, looped}
use Rattle.cir_body.proofs.statement.+statements.Goals as goal

-- ---- statements in turn
pub execute_all-loop-statement-init : goal.execute_all-loop-statement-init
execute_all-loop-statement-init g t c = λ m d shows. (d, refl, shows)

pub execute_all-returns-in_err-execute : goal.execute_all-returns-in_err-execute
execute_all-returns-in_err-execute g t c = λ m d shows.
    let p = m.first in
    let q = emitting_in c.args.body.now m in
    let xs = c.args.statements.now in
    let i = c.loop-statement.statement-index in
    let a = c.statement-item.result in
    let j = c.execute.new.inside in
    let v = c.execute.new.whole in
    let r = c.from_residual.result in
    rests_emit p c.loop-statement.inside j c.loop-statement.whole v r _ (all_from q xs i)
    (c.loop-statement.invariant m d shows)
    (λ y here. emits_as p j v r _ _ (first_from q xs i a y c.loop-statement-test.true
    c.statement-item.is)
    (emits_exit p j v r _ y (emit q (bare_statement a)) (all_from q xs (i + 1))
    c.from_residual.ensures.1 (c.in_err-execute.ensures m y here)))

pub execute_all-loop-statement-preserved : goal.execute_all-loop-statement-preserved
execute_all-loop-statement-preserved g t c = λ m d shows.
    let p = m.first in
    let q = emitting_in c.args.body.now m in
    let xs = c.args.statements.now in
    let i = c.loop-statement.statement-index in
    let a = c.statement-item.result in
    let j = c.execute.new.inside in
    let v = c.execute.new.whole in
    rests_more p c.loop-statement.inside j c.loop-statement.whole v _ (all_from q xs i)
    (all_from q xs (i + 1)) (c.loop-statement.invariant m d shows)
    (λ y here.
    let z = rests_then p j v y (emit q (bare_statement a)) (all_from q xs (i + 1))
    (c.in_ok-execute.ensures m y here) in (
      z.0,
      first_from q xs i a y c.loop-statement-test.true c.statement-item.is ∙ z.1,
      z.2,
    ))

pub execute_all-returns : goal.execute_all-returns
execute_all-returns g t c = λ m d shows.
    let p = m.first in
    let q = emitting_in c.args.body.now m in
    let xs = c.args.statements.now in
    let i = c.loop-statement.statement-index in
    let j = c.loop-statement.inside in
    let v = c.loop-statement.whole in
    rests_emit p j j v v (Ok (tt {0})) _ (all_from q xs i) (c.loop-statement.invariant m d shows)
    (λ y here. (y, all_end q xs i y c.loop-statement-test.false ∙ quiet_is y, here))

-- ---- blocks
pub execute-returns-in_err-counted-in-Block : goal.execute-returns-in_err-counted-in-Block
execute-returns-in_err-counted-in-Block g t c = λ m d shows.
    let p = m.first in
    let q = emitting_in c.args.body.now m in
    let a = c.args.statement.now in
    let i = c.args.inside.now in
    let w = c.args.whole.now in
    emits_form q a _ d c.in-Block.is p i _ c.from_residual.result
    (counted_stops q a.spot p i w d shows i _ c.from_residual.result _ _ c.from_residual.ensures.1
    (c.in_err-counted-in-Block.ensures.value i.frame _))

pub execute-returns-in_ok-counted-in-Block : goal.execute-returns-in_ok-counted-in-Block
execute-returns-in_ok-counted-in-Block g t c = λ m d shows.
    let p = m.first in
    let q = emitting_in c.args.body.now m in
    let a = c.args.statement.now in
    let i = c.args.inside.now in
    let w = c.args.whole.now in
    let j = c.execute_all.new.inside in
    let v = c.execute_all.new.whole in
    let r = c.execute_all.result in
    let all : _ → Emission → Tried Emitted = λ xs.
    emit_all q (as_statements (map bare_statement xs)) in
    let block : _ → Tried Emitted = λ b.
    go_on d (λ x. then_emit (emit_counted q a.spot x) (emit_all q b)) in
    emits_form q a _ d c.in-Block.is p j v r
    (emits_as p j v r _ (block (as_statements (map bare_statement c.as_slice.result.now)))
    (ap block (block_is _ _ c.in-Block.block)
    ∙ ap (λ xs. block (as_statements (map bare_statement xs))) (sym c.as_slice.ensures))
    (counted_goes q a.spot p i w d shows c.counted.new.world j v r (all c.as_slice.result.now)
    (c.in_ok-counted-in-Block.ensures.value i.frame _) c.in_ok-counted-in-Block.ensures.keeps
    (λ y here. c.execute_all.ensures m y here)))

-- ---- branches
pub execute-returns-in_err-decide_branch-in-If : goal.execute-returns-in_err-decide_branch-in-If
execute-returns-in_err-decide_branch-in-If g t c = λ m d shows.
    let p = m.first in
    let q = emitting_in c.args.body.now m in
    let a = c.args.statement.now in
    let i = c.args.inside.now in
    let w = c.args.whole.now in
    let r = c.from_residual-in_err-decide_branch-in-If.result in
    emits_form q a _ d c.in-If.is p i _ r
    (branch_stops q a.spot (bare c.in-If.condition) _ _ _ p i i w _ d r _
    c.from_residual-in_err-decide_branch-in-If.ensures.1 shows
    (c.in_err-decide_branch-in-If.ensures.side m.means _))

pub execute-returns-in-First : goal.execute-returns-in-First
execute-returns-in-First g t c = λ m d shows.
    let p = m.first in
    let q = emitting_in c.args.body.now m in
    let a = c.args.statement.now in
    let i = c.args.inside.now in
    let w = c.args.whole.now in
    let j = c.execute.new.inside in
    let v = c.execute.new.whole in
    let r = c.execute.result in
    emits_form q a _ d c.in-If.is p j v r
    (branch_emits q a.spot (bare c.in-If.condition) _ _ _ p i w d c.decide_branch.new.world shows
    j v r _ First c.in-First.is (c.in_ok-decide_branch-in-If.ensures.side m.means _)
    (c.in_ok-decide_branch-in-If.ensures.constraints m.means)
    (λ y here. emits_as p j v r _ _
    (ap (λ x. go_on y (emit q (bare_statement x))) (sym c.deref.ensures))
    (c.execute.ensures m y here)))

pub execute-returns-in-Second : goal.execute-returns-in-Second
execute-returns-in-Second g t c = λ m d shows.
    let p = m.first in
    let q = emitting_in c.args.body.now m in
    let a = c.args.statement.now in
    let i = c.args.inside.now in
    let w = c.args.whole.now in
    emits_form q a _ d c.in-If.is p i _ (Ok (tt {0}))
    (branch_emits q a.spot (bare c.in-If.condition) _ _ _ p i w d c.decide_branch.new.world shows
    i _ (Ok (tt {0})) _ Second c.in-Second.is (c.in_ok-decide_branch-in-If.ensures.side m.means _)
    (c.in_ok-decide_branch-in-If.ensures.constraints m.means)
    (λ y here. (y, quiet_is y, here)))

pub execute-returns-in-Both : goal.execute-returns-in-Both
execute-returns-in-Both g t c = λ m d shows.
    let p = m.first in
    let q = emitting_in c.args.body.now m in
    let a = c.args.statement.now in
    let i = c.args.inside.now in
    let w = c.args.whole.now in
    let j = c.left.new.inside in
    let v = c.left.new.whole in
    let r = c.left.result in
    emits_form q a _ d c.in-If.is p j v r
    (branch_emits q a.spot (bare c.in-If.condition) _ _ _ p i w d c.decide_branch.new.world shows
    j v r _ Both c.in-Both.is (c.in_ok-decide_branch-in-If.ensures.side m.means _)
    (c.in_ok-decide_branch-in-If.ensures.constraints m.means)
    (λ y here. emits_as p j v r _ _ (left_at q a _ y c.in-If.is) (c.left.ensures m y here)))

pub execute-returns-in_err-decide_branch-in-IfElse :
    goal.execute-returns-in_err-decide_branch-in-IfElse
execute-returns-in_err-decide_branch-in-IfElse g t c = λ m d shows.
    let p = m.first in
    let q = emitting_in c.args.body.now m in
    let a = c.args.statement.now in
    let i = c.args.inside.now in
    let w = c.args.whole.now in
    let r = c.from_residual-in_err-decide_branch-in-IfElse.result in
    emits_form q a _ d c.in-IfElse.is p i _ r
    (branch_stops q a.spot (bare c.in-IfElse.condition) _ _ _ p i i w _ d r _
    c.from_residual-in_err-decide_branch-in-IfElse.ensures.1 shows
    (c.in_err-decide_branch-in-IfElse.ensures.side m.means _))

pub execute-returns-in-First-2 : goal.execute-returns-in-First-2
execute-returns-in-First-2 g t c = λ m d shows.
    let p = m.first in
    let q = emitting_in c.args.body.now m in
    let a = c.args.statement.now in
    let i = c.args.inside.now in
    let w = c.args.whole.now in
    let j = c.execute-in-First-2.new.inside in
    let v = c.execute-in-First-2.new.whole in
    let r = c.execute-in-First-2.result in
    emits_form q a _ d c.in-IfElse.is p j v r
    (branch_emits q a.spot (bare c.in-IfElse.condition) _ _ _ p i w d
    c.decide_branch-in-IfElse.new.world shows j v r _ First c.in-First-2.is
    (c.in_ok-decide_branch-in-IfElse.ensures.side m.means _)
    (c.in_ok-decide_branch-in-IfElse.ensures.constraints m.means)
    (λ y here. emits_as p j v r _ _
    (ap (λ x. go_on y (emit q (bare_statement x))) (sym c.deref-in-First-2.ensures))
    (c.execute-in-First-2.ensures m y here)))

pub execute-returns-in-Second-2 : goal.execute-returns-in-Second-2
execute-returns-in-Second-2 g t c = λ m d shows.
    let p = m.first in
    let q = emitting_in c.args.body.now m in
    let a = c.args.statement.now in
    let i = c.args.inside.now in
    let w = c.args.whole.now in
    let j = c.execute-in-Second-2.new.inside in
    let v = c.execute-in-Second-2.new.whole in
    let r = c.execute-in-Second-2.result in
    emits_form q a _ d c.in-IfElse.is p j v r
    (branch_emits q a.spot (bare c.in-IfElse.condition) _ _ _ p i w d
    c.decide_branch-in-IfElse.new.world shows j v r _ Second c.in-Second-2.is
    (c.in_ok-decide_branch-in-IfElse.ensures.side m.means _)
    (c.in_ok-decide_branch-in-IfElse.ensures.constraints m.means)
    (λ y here. emits_as p j v r _ _
    (ap (λ x. go_on y (emit q (bare_statement x))) (sym c.deref-in-Second-2.ensures))
    (c.execute-in-Second-2.ensures m y here)))

pub execute-returns-in-Both-2 : goal.execute-returns-in-Both-2
execute-returns-in-Both-2 g t c = λ m d shows.
    let p = m.first in
    let q = emitting_in c.args.body.now m in
    let a = c.args.statement.now in
    let i = c.args.inside.now in
    let w = c.args.whole.now in
    let j = c.left-in-Both-2.new.inside in
    let v = c.left-in-Both-2.new.whole in
    let r = c.left-in-Both-2.result in
    emits_form q a _ d c.in-IfElse.is p j v r
    (branch_emits q a.spot (bare c.in-IfElse.condition) _ _ _ p i w d
    c.decide_branch-in-IfElse.new.world shows j v r _ Both c.in-Both-2.is
    (c.in_ok-decide_branch-in-IfElse.ensures.side m.means _)
    (c.in_ok-decide_branch-in-IfElse.ensures.constraints m.means)
    (λ y here. emits_as p j v r _ _ (left_at q a _ y c.in-IfElse.is)
    (c.left-in-Both-2.ensures m y here)))

-- ---- loops
pub execute-returns-in_err-counted-in-While : goal.execute-returns-in_err-counted-in-While
execute-returns-in_err-counted-in-While g t c = λ m d shows.
    let p = m.first in
    let q = emitting_in c.args.body.now m in
    let a = c.args.statement.now in
    let i = c.args.inside.now in
    let w = c.args.whole.now in
    let r = c.from_residual-in_err-counted-in-While.result in
    emits_form q a _ d c.in-While.is p i _ r
    (counted_stops q a.spot p i w d shows i _ r _ _
    c.from_residual-in_err-counted-in-While.ensures.1
    (c.in_err-counted-in-While.ensures.value i.frame _))

pub execute-returns-in_ok-counted-in-While : goal.execute-returns-in_ok-counted-in-While
execute-returns-in_ok-counted-in-While g t c = λ m d shows.
    let p = m.first in
    let q = emitting_in c.args.body.now m in
    let a = c.args.statement.now in
    let i = c.args.inside.now in
    let w = c.args.whole.now in
    let j = c.turns.new.inside in
    let v = c.turns.new.whole in
    let r = c.turns.result in
    let left : _ → Emission → Tried Emitted = λ form.
    emit_undecided q a.spot (fault_of (bare_form a.spot form)) (bare_form a.spot form) in
    let all : _ → (Emission → Tried Emitted) → Emission → Tried Emitted = λ x rest.
    emit_turns most_turns q a.spot (bare c.in-While.condition) (emit q (bare_statement x)) rest in
    let loop : (Emission → Tried Emitted) → Tried Emitted = λ rest.
    go_on d (λ x. then_emit (emit_counted q a.spot x) rest) in
    let body = c.deref-in-While.result.now in
    emits_form q a _ d c.in-While.is p j v r
    (emits_as p j v r _ (loop (all body (left a.form)))
    (ap (λ form. loop (all c.in-While.repeated.value (left form))) (sym c.in-While.is)
    ∙ ap (λ x. loop (all x (left a.form))) (sym c.deref-in-While.ensures))
    (counted_goes q a.spot p i w d shows c.counted-in-While.new.world j v r
    (all body (left a.form)) (c.in_ok-counted-in-While.ensures.value i.frame _)
    c.in_ok-counted-in-While.ensures.keeps (λ y here. c.turns.ensures m y here)))

pub execute-returns-in_err-counted-in-For : goal.execute-returns-in_err-counted-in-For
execute-returns-in_err-counted-in-For g t c = λ m d shows.
    let p = m.first in
    let q = emitting_in c.args.body.now m in
    let a = c.args.statement.now in
    let i = c.args.inside.now in
    let w = c.args.whole.now in
    let r = c.from_residual-in_err-counted-in-For.result in
    emits_form q a _ d c.in-For.is p i _ r
    (counted_stops q a.spot p i w d shows i _ r _ _
    c.from_residual-in_err-counted-in-For.ensures.1
    (c.in_err-counted-in-For.ensures.value i.frame _))

pub execute-returns-in_err-begin-in-For : goal.execute-returns-in_err-begin-in-For
execute-returns-in_err-begin-in-For g t c = λ m d shows.
    let p = m.first in
    let q = emitting_in c.args.body.now m in
    let a = c.args.statement.now in
    let i = c.args.inside.now in
    let w = c.args.whole.now in
    let j = c.begin.new.inside in
    let v = c.begin.new.whole in
    let r = c.from_residual-in_err-begin-in-For.result in
    let begin = c.deref-in-For.result.now in
    let step = c.deref-step.result.now in
    let body = bare_statement c.deref-repeated.result.now in
    let last = bare_assign step.assign in
    let shown = for_shown a _ _ begin _ _ step _ c.deref-repeated.result.now c.in-For.is refl
    c.deref-in-For.ensures c.deref-step.ensures c.deref-repeated.ensures in
    let first : Emission → Tried Emitted =
    emit_simple q begin.spot (first_simple (bare_first begin.form)) in
    let behind : Emission → Tried Emitted = λ x. then_emit (emit_counted q a.spot x)
    (looped q a.spot (bare c.in-For.condition) body step.spot last) in
    emits_as p j v r _ _ (ap (λ u. go_on d (emit q u)) shown)
    (counted_goes q a.spot p i w d shows c.counted-in-For.new.world j v r
    (λ x. then_emit (first x) behind)
    (c.in_ok-counted-in-For.ensures.value i.frame _) c.in_ok-counted-in-For.ensures.keeps
    (λ y here. emits_exit p j v r _ y first behind
    c.from_residual-in_err-begin-in-For.ensures.1
    (c.in_err-begin-in-For.ensures m y here)))

pub execute-returns-in_err-counted-in-For-2 : goal.execute-returns-in_err-counted-in-For-2
execute-returns-in_err-counted-in-For-2 g t c = λ m d shows.
    let p = m.first in
    let q = emitting_in c.args.body.now m in
    let a = c.args.statement.now in
    let i = c.args.inside.now in
    let w = c.args.whole.now in
    let j = c.begin.new.inside in
    let v = c.begin.new.whole in
    let r = c.from_residual-in_err-counted-in-For-2.result in
    let begin = c.deref-in-For.result.now in
    let step = c.deref-step.result.now in
    let body = bare_statement c.deref-repeated.result.now in
    let last = bare_assign step.assign in
    let shown = for_shown a _ _ begin _ _ step _ c.deref-repeated.result.now c.in-For.is refl
    c.deref-in-For.ensures c.deref-step.ensures c.deref-repeated.ensures in
    let first : Emission → Tried Emitted =
    emit_simple q begin.spot (first_simple (bare_first begin.form)) in
    let loop : Emission → Tried Emitted =
    looped q a.spot (bare c.in-For.condition) body step.spot last in
    let behind : Emission → Tried Emitted = λ x. then_emit (emit_counted q a.spot x) loop in
    let u = with_world v c.counted-in-For-2.new.world in
    emits_as p j u r _ _ (ap (λ x. go_on d (emit q x)) shown)
    (counted_goes q a.spot p i w d shows c.counted-in-For.new.world j u r
    (λ x. then_emit (first x) behind)
    (c.in_ok-counted-in-For.ensures.value i.frame _) c.in_ok-counted-in-For.ensures.keeps
    (λ y here. emits_next p j j v u r y first behind (c.in_ok-begin-in-For.ensures m y here)
    (λ z there. counted_stops q a.spot p j v z there j u r _ loop
    c.from_residual-in_err-counted-in-For-2.ensures.1
    (c.in_err-counted-in-For-2.ensures.value j.frame _))))

pub execute-returns-in_ok-counted-in-For-2 : goal.execute-returns-in_ok-counted-in-For-2
execute-returns-in_ok-counted-in-For-2 g t c = λ m d shows.
    let p = m.first in
    let q = emitting_in c.args.body.now m in
    let a = c.args.statement.now in
    let i = c.args.inside.now in
    let w = c.args.whole.now in
    let f = c.begin.new.inside in
    let u = c.begin.new.whole in
    let j = c.turns-in-For.new.inside in
    let v = c.turns-in-For.new.whole in
    let r = c.turns-in-For.result in
    let begin = c.deref-in-For.result.now in
    let step = c.deref-step.result.now in
    let body = bare_statement c.deref-repeated.result.now in
    let last = bare_assign step.assign in
    let shown = for_shown a _ _ begin _ _ step _ c.deref-repeated.result.now c.in-For.is refl
    c.deref-in-For.ensures c.deref-step.ensures c.deref-repeated.ensures in
    let first : Emission → Tried Emitted =
    emit_simple q begin.spot (first_simple (bare_first begin.form)) in
    let loop : Emission → Tried Emitted =
    looped q a.spot (bare c.in-For.condition) body step.spot last in
    let behind : Emission → Tried Emitted = λ x1.
    then_emit (first x1) (λ x2. then_emit (emit_counted q a.spot x2) loop) in
    emits_as p j v r _ _ (ap (λ x. go_on d (emit q x)) shown)
    (counted_goes q a.spot p i w d shows c.counted-in-For.new.world j v r behind
    (c.in_ok-counted-in-For.ensures.value i.frame _) c.in_ok-counted-in-For.ensures.keeps
    (λ y here. emits_next p f j u v r y first _ (c.in_ok-begin-in-For.ensures m y here)
    (λ z there. counted_goes q a.spot p f u z there c.counted-in-For-2.new.world j v r
    loop (c.in_ok-counted-in-For-2.ensures.value f.frame _)
    c.in_ok-counted-in-For-2.ensures.keeps
    (λ x last. c.turns-in-For.ensures m x last))))

-- ---- the others
pub execute-returns-in-Return : goal.execute-returns-in-Return
execute-returns-in-Return g t c = λ m d shows.
    let p = m.first in
    let q = emitting_in c.args.body.now m in
    let a = c.args.statement.now in
    let refuses = rw c.here.ensures at c.refused.ensures in
    let r : Result (Unit {0}) Fault = Err c.refused.result in
    emits_form q a _ d c.in-Return.is p c.args.inside.now c.args.whole.now r refuses

pub execute-returns-in_err-assert-in-Assert : goal.execute-returns-in_err-assert-in-Assert
execute-returns-in_err-assert-in-Assert g t c = λ m d shows.
    let p = m.first in
    let q = emitting_in c.args.body.now m in
    let a = c.args.statement.now in
    let j = c.assert.new.inside in
    let v = c.assert.new.whole in
    let r = c.from_residual-in_err-assert-in-Assert.result in
    emits_form q a _ d c.in-Assert.is p j v r
    (emits_exit p j v r _ d
    (emit_assert q (at q.context a.spot) (bare c.in-Assert.condition)) (emit_counted q a.spot)
    c.from_residual-in_err-assert-in-Assert.ensures.1
    (c.in_err-assert-in-Assert.ensures m d shows))

pub execute-returns-in_ok-assert-in-Assert : goal.execute-returns-in_ok-assert-in-Assert
execute-returns-in_ok-assert-in-Assert g t c = λ m d shows.
    let p = m.first in
    let q = emitting_in c.args.body.now m in
    let a = c.args.statement.now in
    let j = c.assert.new.inside in
    let v = c.assert.new.whole in
    let r = c.counted-in-Assert.result in
    emits_form q a _ d c.in-Assert.is p j (with_world v c.counted-in-Assert.new.world) r
    (emits_next p j j v (with_world v c.counted-in-Assert.new.world) r d
    (emit_assert q (at q.context a.spot) (bare c.in-Assert.condition)) (emit_counted q a.spot)
    (c.in_ok-assert-in-Assert.ensures m d shows)
    (λ y here. counted_ends q a.spot p j v y here c.counted-in-Assert.new.world r
    (c.counted-in-Assert.ensures.value j.frame _) c.counted-in-Assert.ensures.keeps))

pub execute-returns-in_err-log-in-Log : goal.execute-returns-in_err-log-in-Log
execute-returns-in_err-log-in-Log g t c = λ m d shows.
    let p = m.first in
    let q = emitting_in c.args.body.now m in
    let a = c.args.statement.now in
    let j = c.log.new.inside in
    let v = c.log.new.whole in
    let r = c.from_residual-in_err-log-in-Log.result in
    emits_form q a _ d c.in-Log.is p j v r
    (emits_as p j v r _ _
    (ap (λ xs. go_on d (emit q (Log a.spot (map bare_argument xs))))
    (sym c.as_slice-in-Log.ensures))
    (emits_exit p j v r _ d
    (emit_log q (at q.context a.spot) (map bare_argument c.as_slice-in-Log.result.now))
    (emit_counted q a.spot) c.from_residual-in_err-log-in-Log.ensures.1
    (c.in_err-log-in-Log.ensures m d shows)))

pub execute-returns-in_ok-log-in-Log : goal.execute-returns-in_ok-log-in-Log
execute-returns-in_ok-log-in-Log g t c = λ m d shows.
    let p = m.first in
    let q = emitting_in c.args.body.now m in
    let a = c.args.statement.now in
    let j = c.log.new.inside in
    let v = c.log.new.whole in
    let r = c.counted-in-Log.result in
    let u = with_world v c.counted-in-Log.new.world in
    emits_form q a _ d c.in-Log.is p j u r
    (emits_as p j u r _ _
    (ap (λ xs. go_on d (emit q (Log a.spot (map bare_argument xs))))
    (sym c.as_slice-in-Log.ensures))
    (emits_next p j j v u r d
    (emit_log q (at q.context a.spot) (map bare_argument c.as_slice-in-Log.result.now))
    (emit_counted q a.spot) (c.in_ok-log-in-Log.ensures m d shows)
    (λ y here. counted_ends q a.spot p j v y here c.counted-in-Log.new.world r
    (c.counted-in-Log.ensures.value j.frame _) c.counted-in-Log.ensures.keeps)))

pub execute-returns-in-Simple : goal.execute-returns-in-Simple
execute-returns-in-Simple g t c = λ m d shows.
    emits_form (emitting_in c.args.body.now m) c.args.statement.now _ d c.in-Simple.is
    m.first c.simple.new.inside c.simple.new.whole c.simple.result
    (c.simple.ensures m d shows)

-- ---- the turns of a loop
pub turns-loop-turn-init : goal.turns-loop-turn-init
turns-loop-turn-init g t c = λ m d shows.
    let q = emitting_in c.args.body.now m in
    let spot = c.args.spot in
    turns_begin q spot (bare c.args.condition.now)
    (turn_of q spot (bare_statement c.args.repeated.now) c.args.step)
    (emit_undecided q spot (rest_fault c.args.rest.now) (rest_by spot c.args.rest.now))
    m.first c.args.inside.now c.args.whole.now d shows

pub turns-returns-in_err-decide : goal.turns-returns-in_err-decide
turns-returns-in_err-decide g t c = λ m d shows.
    let q = emitting_in c.args.body.now m in
    let spot = c.args.spot in
    turn_stops q spot (bare c.args.condition.now)
    (turn_of q spot (bare_statement c.args.repeated.now) c.args.step)
    (emit_undecided q spot (rest_fault c.args.rest.now) (rest_by spot c.args.rest.now))
    m.first c.loop-turn._turn c.loop-turn.inside c.loop-turn.inside
    c.loop-turn.whole _ _ c.from_residual.result _ c.loop-turn-test.true
    (c.loop-turn.invariant m d shows) c.from_residual.ensures.1
    (λ y. c.in_err-decide.ensures.side m.means _)

pub turns-returns-in_err-turn-in-First : goal.turns-returns-in_err-turn-in-First
turns-returns-in_err-turn-in-First g t c = λ m d shows.
    let p = m.first in
    let q = emitting_in c.args.body.now m in
    let spot = c.args.spot in
    let test = bare c.args.condition.now in
    let body = turn_of q spot (bare_statement c.args.repeated.now) c.args.step in
    let rest = emit_undecided q spot (rest_fault c.args.rest.now) (rest_by spot c.args.rest.now) in
    let k = c.loop-turn._turn in
    let i = c.loop-turn.inside in
    let w = c.loop-turn.whole in
    turn_ends q spot test body rest p k i c.turn.new.inside _ c.turn.new.whole _
    c.from_residual-in_err-turn-in-First.result _
    (turn_told q spot test body rest p k i w _ c.decide.new.world _ First c.in-First.is
    c.loop-turn-test.true (c.loop-turn.invariant m d shows)
    (λ y. c.in_ok-decide.ensures.side m.means _) (c.in_ok-decide.ensures.constraints m.means))
    c.from_residual-in_err-turn-in-First.ensures.1
    (λ y here. c.in_err-turn-in-First.ensures m y here)

pub turns-loop-turn-preserved : goal.turns-loop-turn-preserved
turns-loop-turn-preserved g t c = λ m d shows.
    let p = m.first in
    let q = emitting_in c.args.body.now m in
    let spot = c.args.spot in
    let test = bare c.args.condition.now in
    let body = turn_of q spot (bare_statement c.args.repeated.now) c.args.step in
    let rest = emit_undecided q spot (rest_fault c.args.rest.now) (rest_by spot c.args.rest.now) in
    let k = c.loop-turn._turn in
    let i = c.loop-turn.inside in
    let w = c.loop-turn.whole in
    turn_goes q spot test body rest p k i c.turn.new.inside _ c.turn.new.whole _
    (turn_told q spot test body rest p k i w _ c.decide.new.world _ First c.in-First.is
    c.loop-turn-test.true (c.loop-turn.invariant m d shows)
    (λ y. c.in_ok-decide.ensures.side m.means _) (c.in_ok-decide.ensures.constraints m.means))
    (λ y here. c.in_ok-turn-in-First.ensures m y here)

pub turns-returns-in-Second : goal.turns-returns-in-Second
turns-returns-in-Second g t c = λ m d shows.
    let p = m.first in
    let q = emitting_in c.args.body.now m in
    let spot = c.args.spot in
    let test = bare c.args.condition.now in
    let body = turn_of q spot (bare_statement c.args.repeated.now) c.args.step in
    let rest = emit_undecided q spot (rest_fault c.args.rest.now) (rest_by spot c.args.rest.now) in
    let i = c.loop-turn.inside in
    let told = turn_told q spot test body rest p c.loop-turn._turn i c.loop-turn.whole _
    c.decide.new.world _ Second c.in-Second.is c.loop-turn-test.true
    (c.loop-turn.invariant m d shows) (λ y. c.in_ok-decide.ensures.side m.means _)
    (c.in_ok-decide.ensures.constraints m.means) in
    rests_emit p i i _ _ (Ok (tt {0})) _ quiet told.2 (λ y here. (y, quiet_is y, here))

pub turns-returns-in-Both : goal.turns-returns-in-Both
turns-returns-in-Both g t c = λ m d shows.
    let p = m.first in
    let q = emitting_in c.args.body.now m in
    let spot = c.args.spot in
    let test = bare c.args.condition.now in
    let body = turn_of q spot (bare_statement c.args.repeated.now) c.args.step in
    let rest = emit_undecided q spot (rest_fault c.args.rest.now) (rest_by spot c.args.rest.now) in
    let i = c.loop-turn.inside in
    let told = turn_told q spot test body rest p c.loop-turn._turn i c.loop-turn.whole _
    c.decide.new.world _ Both c.in-Both.is c.loop-turn-test.true
    (c.loop-turn.invariant m d shows) (λ y. c.in_ok-decide.ensures.side m.means _)
    (c.in_ok-decide.ensures.constraints m.means) in
    rests_emit p i c.left.new.inside _ c.left.new.whole c.left.result _ rest told.2
    (λ y here. c.left.ensures m y here)

pub turns-returns : goal.turns-returns
turns-returns g t c = λ m d shows.
    let q = emitting_in c.args.body.now m in
    let spot = c.args.spot in
    turns_end q spot (bare c.args.condition.now)
    (turn_of q spot (bare_statement c.args.repeated.now) c.args.step)
    (emit_undecided q spot (rest_fault c.args.rest.now) (rest_by spot c.args.rest.now))
    m.first c.loop-turn._turn c.loop-turn.inside c.loop-turn.whole _
    c.too_many.result c.loop-turn-test.false (c.loop-turn.invariant m d shows) c.too_many.ensures

-- ---- a turn
pub turn-returns-in_err-counted : goal.turn-returns-in_err-counted
turn-returns-in_err-counted g t c = λ m d shows.
    let i = c.args.inside.now in
    counted_stops (emitting_in c.args.body.now m) c.args.spot m.first i
    c.args.whole.now d shows i _ c.from_residual.result _ _ c.from_residual.ensures.1
    (c.in_err-counted.ensures.value i.frame _)

pub turn-returns-in_default : goal.turn-returns-in_default
turn-returns-in_default g t c = λ m d shows.
    let p = m.first in
    let q = emitting_in c.args.body.now m in
    let body = bare_statement c.args.repeated.now in
    let i = c.args.inside.now in
    let j = c.execute.new.inside in
    let v = c.execute.new.whole in
    let r = c.execute.result in
    emits_as p j v r _ _
    (ap (λ z. go_on d (λ x. then_emit (emit_counted q c.args.spot x) (turn_of q c.args.spot body
    z))) c.in_default.is)
    (counted_goes q c.args.spot p i c.args.whole.now d shows c.counted.new.world j v r (emit q body)
    (c.in_ok-counted.ensures.value i.frame _) c.in_ok-counted.ensures.keeps
    (λ y here. c.execute.ensures m y here))

pub turn-returns-in_err-counted-2 : goal.turn-returns-in_err-counted-2
turn-returns-in_err-counted-2 g t c = λ m d shows.
    let p = m.first in
    let q = emitting_in c.args.body.now m in
    let spot = c.args.spot in
    let body = bare_statement c.args.repeated.now in
    let i = c.args.inside.now in
    let w = c.args.whole.now in
    let r = c.from_residual-in_err-counted-2.result in
    emits_as p i _ r _ _
    (ap (λ z. go_on d (λ x. then_emit (emit_counted q spot x) (turn_of q spot body z)))
    c.in-Some.is)
    (counted_goes q spot p i w d shows c.counted.new.world i _ r _
    (c.in_ok-counted.ensures.value i.frame _) c.in_ok-counted.ensures.keeps
    (λ y here. counted_stops q spot p i (with_world w c.counted.new.world) y here i _ r _ _
    c.from_residual-in_err-counted-2.ensures.1 (c.in_err-counted-2.ensures.value i.frame _)))

pub turn-returns-in_err-execute : goal.turn-returns-in_err-execute
turn-returns-in_err-execute g t c = λ m d shows.
    let p = m.first in
    let q = emitting_in c.args.body.now m in
    let body = bare_statement c.args.repeated.now in
    let step = emit_simple q c.in-Some.step.now.spot
    (Assigned (bare_assign c.in-Some.step.now.assign)) in
    let i = c.args.inside.now in
    let j = c.execute-2.new.inside in
    let v = c.execute-2.new.whole in
    let r = c.from_residual-in_err-execute.result in
    step_emits q c.args.spot body c.args.step _ c.in-Some.is p i
    c.args.whole.now d shows c.counted.new.world c.counted-2.new.world j v r
    (c.in_ok-counted.ensures.value i.frame _) c.in_ok-counted.ensures.keeps
    (λ y. c.in_ok-counted-2.ensures.value i.frame _) c.in_ok-counted-2.ensures.keeps
    (λ y here. emits_exit p j v r _ y (emit q body) step c.from_residual-in_err-execute.ensures.1
    (c.in_err-execute.ensures m y here))

pub turn-returns : goal.turn-returns
turn-returns g t c = λ m d shows.
    let p = m.first in
    let q = emitting_in c.args.body.now m in
    let body = bare_statement c.args.repeated.now in
    let step = emit_simple q c.in-Some.step.now.spot
    (Assigned (bare_assign c.in-Some.step.now.assign)) in
    let i = c.args.inside.now in
    let j = c.simple_assign.new.inside in
    let v = c.simple_assign.new.whole in
    let r = c.simple_assign.result in
    step_emits q c.args.spot body c.args.step _ c.in-Some.is p i
    c.args.whole.now d shows c.counted.new.world c.counted-2.new.world j v r
    (c.in_ok-counted.ensures.value i.frame _) c.in_ok-counted.ensures.keeps
    (λ y. c.in_ok-counted-2.ensures.value i.frame _) c.in_ok-counted-2.ensures.keeps
    (λ y here. emits_next p c.execute-2.new.inside j c.execute-2.new.whole v r y (emit q body)
    step
    (c.in_ok-execute.ensures m y here) (λ z there. c.simple_assign.ensures m z there))
