use Rattle.std.proofs.Common.{◌∙◌, ◌+◌, ap, sym, refl, map, Ok}
use Rattle.cir_ast.specs.Tree.{Log, as_statements, bare, bare_argument, bare_form, bare_statement}
use Rattle.cir_ast.proofs.Rows.{block_is}
use Rattle.cir_values.specs.declared.operators.Side.TheVariants.{First, Second, Both}
use Rattle.cir_meaning.specs.Tried.{Tried, next}
use Rattle.cir_meaning.specs.Frame.{State, at, counted}
use Rattle.cir_meaning.specs.Unknown.{fault_of}
use Rattle.cir_meaning.specs.Scan.{undecided}
use Rattle.cir_meaning.specs.Statement.{Flow, Going, exec, exec_all, goes, most_turns, turns}
use Rattle.cir_frame.specs.Shown.{state_of}
use Rattle.cir_create.specs.Makes.{context_in}
use Rattle.cir_assign.proofs.Stepping.{lists_kept}
use Rattle.cir_execute.specs.declared.statement.Flow.TheVariants as flow
use Rattle.cir_execute.specs.Rests.{turn_of}
use Rattle.cir_execute.proofs.Going.{counted_leads, counted_led, flows_at, flows_exit, flows_going}
use Rattle.cir_execute.proofs.Going.{flows_next, flows_refused}
use Rattle.cir_execute.proofs.Branching.{all_end, all_from, all_goes, all_refused, all_stops}
use Rattle.cir_execute.proofs.Branching.{flows_stop, rests_flow, rests_more}
use Rattle.cir_execute.proofs.Flowing.{flows_executed, else_flows, else_stops, err_stops, if_flows}
use Rattle.cir_execute.proofs.Flowing.{if_stops, left_at, step_flows, turn_ends, turn_goes}
use Rattle.cir_execute.proofs.Flowing.{turn_stops, turn_told, turns_begin, turns_end, unknown_by}
use Rattle.cir_execute.proofs.Flowing.{asserted_flows, for_flows}
use Rattle.cir_execute.proofs.statement.+statements.Goals as goal

-- ---- statements in turn
pub execute_all-loop-statement-init : goal.execute_all-loop-statement-init
execute_all-loop-statement-init g t c = λ m qs.
    (qs, refl, lists_kept qs c.args.world.now c.args.world.now refl)

pub execute_all-returns-in_err-execute : goal.execute_all-returns-in_err-execute
execute_all-returns-in_err-execute g t c = λ m qs.
    let k = context_in c.args.body.now m in
    let xs = c.args.statements.now in
    let i = c.loop-statement.statement-index in
    rests_flow qs c.args.world.now c.loop-statement.world c.execute.new.world c.loop-statement.frame
    c.execute.new.frame c.from_residual.result _ (all_from k xs i)
    (c.loop-statement.invariant m qs)
    (λ es. all_refused k xs i c.statement-item.result c.loop-statement.world c.execute.new.world
    c.loop-statement.frame c.execute.new.frame es c.from_residual.result _
    c.loop-statement-test.true c.statement-item.is c.from_residual.ensures.1
    (c.in_err-execute.ensures m es))

pub execute_all-returns-in-Returned : goal.execute_all-returns-in-Returned
execute_all-returns-in-Returned g t c = λ m qs.
    let k = context_in c.args.body.now m in
    let xs = c.args.statements.now in
    let i = c.loop-statement.statement-index in
    rests_flow qs c.args.world.now c.loop-statement.world c.execute.new.world c.loop-statement.frame
    c.execute.new.frame (Ok (flow.Returned c.in-Returned.d)) _ (all_from k xs i)
    (c.loop-statement.invariant m qs)
    (λ es. all_stops k xs i c.statement-item.result c.loop-statement.world c.execute.new.world
    c.loop-statement.frame c.execute.new.frame es (Ok (flow.Returned c.in-Returned.d))
    c.loop-statement-test.true c.statement-item.is tt
    (rw c.in-Returned.is at (c.in_ok-execute.ensures m es)))

pub execute_all-loop-statement-preserved : goal.execute_all-loop-statement-preserved
execute_all-loop-statement-preserved g t c = λ m qs.
    let k = context_in c.args.body.now m in
    let xs = c.args.statements.now in
    let i = c.loop-statement.statement-index in
    rests_more qs c.args.world.now c.loop-statement.world c.execute.new.world c.loop-statement.frame
    c.execute.new.frame _ (all_from k xs i) (all_from k xs (i + 1))
    (c.loop-statement.invariant m qs)
    (λ es. all_goes k xs i c.statement-item.result c.loop-statement.world c.execute.new.world
    c.loop-statement.frame c.execute.new.frame es c.loop-statement-test.true c.statement-item.is
    (rw c.in-Going.is at (c.in_ok-execute.ensures m es)))

pub execute_all-returns : goal.execute_all-returns
execute_all-returns g t c = λ m qs.
    let k = context_in c.args.body.now m in
    let xs = c.args.statements.now in
    let i = c.loop-statement.statement-index in
    let w = c.loop-statement.world in
    let f = c.loop-statement.frame in
    rests_flow qs c.args.world.now w w f f (Ok flow.Going) _ (all_from k xs i)
    (c.loop-statement.invariant m qs)
    (λ es. (
      es,
      all_end k xs i (state_of f w es) c.loop-statement-test.false,
      lists_kept es w w refl,
    ))

-- ---- blocks
pub execute-returns-in_err-counted-in-Block : goal.execute-returns-in_err-counted-in-Block
execute-returns-in_err-counted-in-Block g t c = λ m qs.
    let k = context_in c.args.body.now m in
    let f = c.args.frame.now in
    let w0 = c.args.world.now in
    flows_executed k c.args.statement.now _ qs w0 c.counted.new.world f f c.from_residual.result
    c.in-Block.is
    (flows_exit qs w0 c.counted.new.world f c.from_residual.result _ _ _ c.from_residual.ensures.1
    (c.in_err-counted-in-Block.ensures.value f qs))

pub execute-returns-in_ok-counted-in-Block : goal.execute-returns-in_ok-counted-in-Block
execute-returns-in_ok-counted-in-Block g t c = λ m qs.
    let k = context_in c.args.body.now m in
    let f = c.args.frame.now in
    let w0 = c.args.world.now in
    let w1 = c.counted.new.world in
    let w2 = c.execute_all.new.world in
    let f2 = c.execute_all.new.frame in
    let r = c.execute_all.result in
    let first = counted (at k c.args.statement.now.spot) (state_of f w0 qs) in
    let all = as_statements (map bare_statement c.as_slice.result.now) in
    flows_executed k c.args.statement.now _ qs w0 w2 f f2 r c.in-Block.is
    (flows_at qs w0 w2 f2 r _ (next first (exec_all k all))
    (ap (λ b. next first (exec_all k b)) (block_is _ _ c.in-Block.block)
    ∙ ap (λ xs. next first (exec_all k (as_statements (map bare_statement xs))))
    (sym c.as_slice.ensures))
    (flows_next qs w0 w1 w2 f f2 r first (exec_all k all)
    (counted_led qs w0 w1 f first (c.in_ok-counted-in-Block.ensures.value f qs)
    c.in_ok-counted-in-Block.ensures.keeps)
    (λ es. c.execute_all.ensures m es)))

-- ---- branches
pub execute-returns-in_err-decide_branch-in-If : goal.execute-returns-in_err-decide_branch-in-If
execute-returns-in_err-decide_branch-in-If g t c = λ m qs.
    let k = context_in c.args.body.now m in
    let a = c.args.statement.now in
    let f = c.args.frame.now in
    let w0 = c.args.world.now in
    let w1 = c.decide_branch.new.world in
    let r = c.from_residual-in_err-decide_branch-in-If.result in
    flows_executed k a _ qs w0 w1 f f r c.in-If.is
    (if_stops k a.spot (bare c.in-If.condition) (bare_statement c.in-If.chosen.value) qs w0 w1 w1
    f f r _ c.from_residual-in_err-decide_branch-in-If.ensures.1
    (c.in_err-decide_branch-in-If.ensures.side m.means qs))

pub execute-returns-in-First : goal.execute-returns-in-First
execute-returns-in-First g t c = λ m qs.
    let k = context_in c.args.body.now m in
    let a = c.args.statement.now in
    let f = c.args.frame.now in
    let w0 = c.args.world.now in
    let w1 = c.decide_branch.new.world in
    let w2 = c.execute.new.world in
    let f2 = c.execute.new.frame in
    let r = c.execute.result in
    flows_executed k a _ qs w0 w2 f f2 r c.in-If.is
    (if_flows k a.spot (bare c.in-If.condition) (bare_statement c.in-If.chosen.value) qs w0 w1 w2
    f f2 r _ First c.in-First.is (c.in_ok-decide_branch-in-If.ensures.side m.means qs)
    (c.in_ok-decide_branch-in-If.ensures.constraints m.means)
    (flows_at qs w1 w2 f2 r _ _
    (ap (λ x. exec k (bare_statement x) (state_of f w1 qs)) (sym c.deref.ensures))
    (c.execute.ensures m qs)))

pub execute-returns-in-Second : goal.execute-returns-in-Second
execute-returns-in-Second g t c = λ m qs.
    let k = context_in c.args.body.now m in
    let a = c.args.statement.now in
    let f = c.args.frame.now in
    let w0 = c.args.world.now in
    let w1 = c.decide_branch.new.world in
    flows_executed k a _ qs w0 w1 f f (Ok flow.Going) c.in-If.is
    (if_flows k a.spot (bare c.in-If.condition) (bare_statement c.in-If.chosen.value) qs w0 w1 w1
    f f (Ok flow.Going) _ Second c.in-Second.is
    (c.in_ok-decide_branch-in-If.ensures.side m.means qs)
    (c.in_ok-decide_branch-in-If.ensures.constraints m.means)
    (qs, refl, lists_kept qs w1 w1 refl))

pub execute-returns-in-Both : goal.execute-returns-in-Both
execute-returns-in-Both g t c = λ m qs.
    let k = context_in c.args.body.now m in
    let a = c.args.statement.now in
    let f = c.args.frame.now in
    let w0 = c.args.world.now in
    let w1 = c.decide_branch.new.world in
    let w2 = c.left.new.world in
    let f2 = c.left.new.frame in
    let r = c.left.result in
    flows_executed k a _ qs w0 w2 f f2 r c.in-If.is
    (if_flows k a.spot (bare c.in-If.condition) (bare_statement c.in-If.chosen.value) qs w0 w1 w2
    f f2 r _ Both c.in-Both.is (c.in_ok-decide_branch-in-If.ensures.side m.means qs)
    (c.in_ok-decide_branch-in-If.ensures.constraints m.means)
    (flows_at qs w1 w2 f2 r _ _ (left_at k a _ (state_of f w1 qs) c.in-If.is)
    (c.left.ensures m.means qs)))

pub execute-returns-in_err-decide_branch-in-IfElse :
    goal.execute-returns-in_err-decide_branch-in-IfElse
execute-returns-in_err-decide_branch-in-IfElse g t c = λ m qs.
    let k = context_in c.args.body.now m in
    let a = c.args.statement.now in
    let f = c.args.frame.now in
    let w0 = c.args.world.now in
    let w1 = c.decide_branch-in-IfElse.new.world in
    let r = c.from_residual-in_err-decide_branch-in-IfElse.result in
    flows_executed k a _ qs w0 w1 f f r c.in-IfElse.is
    (else_stops k a.spot (bare c.in-IfElse.condition) (bare_statement c.in-IfElse.chosen.value)
    (bare_statement c.in-IfElse.other.value) qs w0 w1 w1 f f r _
    c.from_residual-in_err-decide_branch-in-IfElse.ensures.1
    (c.in_err-decide_branch-in-IfElse.ensures.side m.means qs))

pub execute-returns-in-First-2 : goal.execute-returns-in-First-2
execute-returns-in-First-2 g t c = λ m qs.
    let k = context_in c.args.body.now m in
    let a = c.args.statement.now in
    let f = c.args.frame.now in
    let w0 = c.args.world.now in
    let w1 = c.decide_branch-in-IfElse.new.world in
    let w2 = c.execute-in-First-2.new.world in
    let f2 = c.execute-in-First-2.new.frame in
    let r = c.execute-in-First-2.result in
    flows_executed k a _ qs w0 w2 f f2 r c.in-IfElse.is
    (else_flows k a.spot (bare c.in-IfElse.condition) (bare_statement c.in-IfElse.chosen.value)
    (bare_statement c.in-IfElse.other.value) qs w0 w1 w2 f f2 r _ First c.in-First-2.is
    (c.in_ok-decide_branch-in-IfElse.ensures.side m.means qs)
    (c.in_ok-decide_branch-in-IfElse.ensures.constraints m.means)
    (flows_at qs w1 w2 f2 r _ _
    (ap (λ x. exec k (bare_statement x) (state_of f w1 qs))
    (sym c.deref-in-First-2.ensures))
    (c.execute-in-First-2.ensures m qs)))

pub execute-returns-in-Second-2 : goal.execute-returns-in-Second-2
execute-returns-in-Second-2 g t c = λ m qs.
    let k = context_in c.args.body.now m in
    let a = c.args.statement.now in
    let f = c.args.frame.now in
    let w0 = c.args.world.now in
    let w1 = c.decide_branch-in-IfElse.new.world in
    let w2 = c.execute-in-Second-2.new.world in
    let f2 = c.execute-in-Second-2.new.frame in
    let r = c.execute-in-Second-2.result in
    flows_executed k a _ qs w0 w2 f f2 r c.in-IfElse.is
    (else_flows k a.spot (bare c.in-IfElse.condition) (bare_statement c.in-IfElse.chosen.value)
    (bare_statement c.in-IfElse.other.value) qs w0 w1 w2 f f2 r _ Second c.in-Second-2.is
    (c.in_ok-decide_branch-in-IfElse.ensures.side m.means qs)
    (c.in_ok-decide_branch-in-IfElse.ensures.constraints m.means)
    (flows_at qs w1 w2 f2 r _ _
    (ap (λ x. exec k (bare_statement x) (state_of f w1 qs))
    (sym c.deref-in-Second-2.ensures))
    (c.execute-in-Second-2.ensures m qs)))

pub execute-returns-in-Both-2 : goal.execute-returns-in-Both-2
execute-returns-in-Both-2 g t c = λ m qs.
    let k = context_in c.args.body.now m in
    let a = c.args.statement.now in
    let f = c.args.frame.now in
    let w0 = c.args.world.now in
    let w1 = c.decide_branch-in-IfElse.new.world in
    let w2 = c.left-in-Both-2.new.world in
    let f2 = c.left-in-Both-2.new.frame in
    let r = c.left-in-Both-2.result in
    flows_executed k a _ qs w0 w2 f f2 r c.in-IfElse.is
    (else_flows k a.spot (bare c.in-IfElse.condition) (bare_statement c.in-IfElse.chosen.value)
    (bare_statement c.in-IfElse.other.value) qs w0 w1 w2 f f2 r _ Both c.in-Both-2.is
    (c.in_ok-decide_branch-in-IfElse.ensures.side m.means qs)
    (c.in_ok-decide_branch-in-IfElse.ensures.constraints m.means)
    (flows_at qs w1 w2 f2 r _ _ (left_at k a _ (state_of f w1 qs) c.in-IfElse.is)
    (c.left-in-Both-2.ensures m.means qs)))

-- ---- loops
pub execute-returns-in_err-counted-in-While : goal.execute-returns-in_err-counted-in-While
execute-returns-in_err-counted-in-While g t c = λ m qs.
    let k = context_in c.args.body.now m in
    let f = c.args.frame.now in
    let w0 = c.args.world.now in
    let w1 = c.counted-in-While.new.world in
    let r = c.from_residual-in_err-counted-in-While.result in
    flows_executed k c.args.statement.now _ qs w0 w1 f f r c.in-While.is
    (flows_exit qs w0 w1 f r _ _ _ c.from_residual-in_err-counted-in-While.ensures.1
    (c.in_err-counted-in-While.ensures.value f qs))

pub execute-returns-in_ok-counted-in-While : goal.execute-returns-in_ok-counted-in-While
execute-returns-in_ok-counted-in-While g t c = λ m qs.
    let k = context_in c.args.body.now m in
    let a = c.args.statement.now in
    let f = c.args.frame.now in
    let w0 = c.args.world.now in
    let w1 = c.counted-in-While.new.world in
    let w2 = c.turns.new.world in
    let f2 = c.turns.new.frame in
    let r = c.turns.result in
    let first = counted (at k a.spot) (state_of f w0 qs) in
    let left : _ → State → Tried Flow = λ form s. goes (undecided k a.spot
    (fault_of (bare_form a.spot form)) (bare_form a.spot form) s) in
    let all : _ → (State → Tried Flow) → State → Tried Flow = λ x rest.
    turns most_turns k a.spot (bare c.in-While.condition) (exec k (bare_statement x)) rest in
    let loop = all c.deref-in-While.result.now (left a.form) in
    flows_executed k a _ qs w0 w2 f f2 r c.in-While.is
    (flows_at qs w0 w2 f2 r _ (next first loop)
    (ap (λ form. next first (all c.in-While.repeated.value (left form))) (sym c.in-While.is)
    ∙ ap (λ x. next first (all x (left a.form))) (sym c.deref-in-While.ensures))
    (flows_next qs w0 w1 w2 f f2 r first loop
    (counted_led qs w0 w1 f first (c.in_ok-counted-in-While.ensures.value f qs)
    c.in_ok-counted-in-While.ensures.keeps)
    (λ es. c.turns.ensures m es)))

pub execute-returns-in_err-begin-in-For : goal.execute-returns-in_err-begin-in-For
execute-returns-in_err-begin-in-For g t c = λ m qs.
    let k = context_in c.args.body.now m in
    let a = c.args.statement.now in
    let w0 = c.args.world.now in
    let w1 = c.begin.new.world in
    let f1 = c.begin.new.frame in
    let r = c.from_residual-in_err-begin-in-For.result in
    for_flows k a _ c.deref-in-For.result.now _ _ _ _ _ _ qs w0 w1 c.args.frame.now f1 r
    c.in-For.is refl c.deref-in-For.ensures refl refl
    (flows_exit qs w0 w1 f1 r _ _ _ c.from_residual-in_err-begin-in-For.ensures.1
    (c.in_err-begin-in-For.ensures m qs))

pub execute-returns-in_ok-begin-in-For : goal.execute-returns-in_ok-begin-in-For
execute-returns-in_ok-begin-in-For g t c = λ m qs.
    let k = context_in c.args.body.now m in
    let a = c.args.statement.now in
    let w0 = c.args.world.now in
    let w1 = c.begin.new.world in
    let w2 = c.turns-in-For.new.world in
    let f1 = c.begin.new.frame in
    let f2 = c.turns-in-For.new.frame in
    let r = c.turns-in-For.result in
    for_flows k a _ c.deref-in-For.result.now _ c.deref-step.result.now c.deref-repeated.result.now
    _ _ _ qs w0 w2 c.args.frame.now f2 r c.in-For.is refl c.deref-in-For.ensures
    c.deref-step.ensures c.deref-repeated.ensures
    (flows_next qs w0 w1 w2 f1 f2 r _ _ (c.in_ok-begin-in-For.ensures m qs)
    (λ es. c.turns-in-For.ensures m es))

-- ---- the others
pub execute-returns-in-Return : goal.execute-returns-in-Return
execute-returns-in-Return g t c = λ m qs.
    let f = c.args.frame.now in
    flows_executed (context_in c.args.body.now m) c.args.statement.now _ qs c.args.world.now
    c.returned.new.world f f c.returned.result c.in-Return.is (c.returned.ensures m.means qs)

pub execute-returns-in_err-assert-in-Assert : goal.execute-returns-in_err-assert-in-Assert
execute-returns-in_err-assert-in-Assert g t c = λ m qs.
    let k = context_in c.args.body.now m in
    let a = c.args.statement.now in
    let f = c.args.frame.now in
    let w0 = c.args.world.now in
    let w1 = c.assert.new.world in
    let r = c.from_residual-in_err-assert-in-Assert.result in
    flows_executed k a _ qs w0 w1 f f r c.in-Assert.is
    (asserted_flows k a.spot (bare c.in-Assert.condition) qs w0 w1 f f r
    (flows_exit qs w0 w1 f r _ _ _ c.from_residual-in_err-assert-in-Assert.ensures.1
    (c.in_err-assert-in-Assert.ensures m.means qs)))

pub execute-returns-in_ok-assert-in-Assert : goal.execute-returns-in_ok-assert-in-Assert
execute-returns-in_ok-assert-in-Assert g t c = λ m qs.
    let k = context_in c.args.body.now m in
    let a = c.args.statement.now in
    let f = c.args.frame.now in
    let w0 = c.args.world.now in
    let w1 = c.assert.new.world in
    let w2 = c.counted-in-Assert.new.world in
    let r = c.ended.result in
    flows_executed k a _ qs w0 w2 f f r c.in-Assert.is
    (asserted_flows k a.spot (bare c.in-Assert.condition) qs w0 w2 f f r
    (flows_next qs w0 w1 w2 f f r _ _ (c.in_ok-assert-in-Assert.ensures m.means qs)
    (λ es. c.ended.ensures es w1 w2 f _
    (counted_leads es w1 w2 f c.counted-in-Assert.result _
    (c.counted-in-Assert.ensures.value f es) c.counted-in-Assert.ensures.keeps))))

pub execute-returns-in_err-log-in-Log : goal.execute-returns-in_err-log-in-Log
execute-returns-in_err-log-in-Log g t c = λ m qs.
    let k = context_in c.args.body.now m in
    let a = c.args.statement.now in
    let f = c.args.frame.now in
    let w0 = c.args.world.now in
    let w1 = c.log.new.world in
    let r = c.from_residual-in_err-log-in-Log.result in
    flows_executed k a _ qs w0 w1 f f r c.in-Log.is
    (flows_at qs w0 w1 f r _ (exec k (Log a.spot (map bare_argument c.as_slice-in-Log.result.now))
    (state_of f w0 qs))
    (ap (λ xs. exec k (Log a.spot (map bare_argument xs)) (state_of f w0 qs))
    (sym c.as_slice-in-Log.ensures))
    (flows_exit qs w0 w1 f r _ _ _ c.from_residual-in_err-log-in-Log.ensures.1
    (c.in_err-log-in-Log.ensures m.means qs)))

pub execute-returns-in_ok-log-in-Log : goal.execute-returns-in_ok-log-in-Log
execute-returns-in_ok-log-in-Log g t c = λ m qs.
    let k = context_in c.args.body.now m in
    let a = c.args.statement.now in
    let f = c.args.frame.now in
    let w0 = c.args.world.now in
    let w1 = c.log.new.world in
    let w2 = c.counted-in-Log.new.world in
    let r = c.ended-in-Log.result in
    flows_executed k a _ qs w0 w2 f f r c.in-Log.is
    (flows_at qs w0 w2 f r _ (exec k (Log a.spot (map bare_argument c.as_slice-in-Log.result.now))
    (state_of f w0 qs))
    (ap (λ xs. exec k (Log a.spot (map bare_argument xs)) (state_of f w0 qs))
    (sym c.as_slice-in-Log.ensures))
    (flows_next qs w0 w1 w2 f f r _ (λ s. goes (counted (at k a.spot) s))
    (c.in_ok-log-in-Log.ensures m.means qs)
    (λ es. c.ended-in-Log.ensures es w1 w2 f _
    (counted_leads es w1 w2 f c.counted-in-Log.result _
    (c.counted-in-Log.ensures.value f es) c.counted-in-Log.ensures.keeps))))

pub execute-returns-in-Simple : goal.execute-returns-in-Simple
execute-returns-in-Simple g t c = λ m qs.
    let w0 = c.args.world.now in
    let w1 = c.simple.new.world in
    let f1 = c.simple.new.frame in
    flows_executed (context_in c.args.body.now m) c.args.statement.now _ qs w0 w1
    c.args.frame.now f1 c.ended-in-Simple.result c.in-Simple.is
    (c.ended-in-Simple.ensures qs w0 w1 f1 _ (c.simple.ensures m qs))

-- ---- the turns of a loop
pub turns-loop-turn-init : goal.turns-loop-turn-init
turns-loop-turn-init g t c = λ m qs.
    let k = context_in c.args.body.now m in
    let spot = c.args.spot in
    turns_begin k spot (bare c.args.condition.now)
    (turn_of k spot (bare_statement c.args.repeated.now) c.args.step)
    (unknown_by k spot c.args.rest.now) qs c.args.world.now c.args.frame.now

pub turns-returns-in_err-decide : goal.turns-returns-in_err-decide
turns-returns-in_err-decide g t c = λ m qs.
    let k = context_in c.args.body.now m in
    let spot = c.args.spot in
    let f = c.loop-turn.frame in
    turn_stops k spot (bare c.args.condition.now)
    (turn_of k spot (bare_statement c.args.repeated.now) c.args.step)
    (unknown_by k spot c.args.rest.now) c.loop-turn._turn qs c.args.world.now c.loop-turn.world
    c.decide.new.world f f _ c.from_residual.result _ c.loop-turn-test.true
    (c.loop-turn.invariant m qs) c.from_residual.ensures.1
    (λ es. c.in_err-decide.ensures.side m.means es)

pub turns-returns-in_err-turn-in-First : goal.turns-returns-in_err-turn-in-First
turns-returns-in_err-turn-in-First g t c = λ m qs.
    let k = context_in c.args.body.now m in
    let spot = c.args.spot in
    let test = bare c.args.condition.now in
    let body = turn_of k spot (bare_statement c.args.repeated.now) c.args.step in
    let rest = unknown_by k spot c.args.rest.now in
    let i = c.loop-turn._turn in
    let f = c.loop-turn.frame in
    let w0 = c.args.world.now in
    let w2 = c.decide.new.world in
    let w3 = c.turn.new.world in
    let r = c.from_residual-in_err-turn-in-First.result in
    let is = c.from_residual-in_err-turn-in-First.ensures.1 in
    turn_ends k spot test body rest i qs w0 w2 w3 f c.turn.new.frame _ r (err_stops r _ is)
    (turn_told k spot test body rest i qs w0 c.loop-turn.world w2 f _ _ First c.in-First.is
    c.loop-turn-test.true (c.loop-turn.invariant m qs)
    (λ es. c.in_ok-decide.ensures.side m.means es) (c.in_ok-decide.ensures.constraints m.means))
    (λ es. flows_refused es w2 w3 c.turn.new.frame r _ _ is (c.in_err-turn-in-First.ensures m es))

pub turns-returns-in-Returned : goal.turns-returns-in-Returned
turns-returns-in-Returned g t c = λ m qs.
    let k = context_in c.args.body.now m in
    let spot = c.args.spot in
    let test = bare c.args.condition.now in
    let body = turn_of k spot (bare_statement c.args.repeated.now) c.args.step in
    let rest = unknown_by k spot c.args.rest.now in
    let i = c.loop-turn._turn in
    let f = c.loop-turn.frame in
    let w0 = c.args.world.now in
    let w2 = c.decide.new.world in
    turn_ends k spot test body rest i qs w0 w2 c.turn.new.world f c.turn.new.frame _
    (Ok (flow.Returned c.in-Returned.d)) tt
    (turn_told k spot test body rest i qs w0 c.loop-turn.world w2 f _ _ First c.in-First.is
    c.loop-turn-test.true (c.loop-turn.invariant m qs)
    (λ es. c.in_ok-decide.ensures.side m.means es) (c.in_ok-decide.ensures.constraints m.means))
    (λ es. rw c.in-Returned.is at (c.in_ok-turn-in-First.ensures m es))

pub turns-loop-turn-preserved : goal.turns-loop-turn-preserved
turns-loop-turn-preserved g t c = λ m qs.
    let k = context_in c.args.body.now m in
    let spot = c.args.spot in
    let test = bare c.args.condition.now in
    let body = turn_of k spot (bare_statement c.args.repeated.now) c.args.step in
    let rest = unknown_by k spot c.args.rest.now in
    let i = c.loop-turn._turn in
    let f = c.loop-turn.frame in
    let w0 = c.args.world.now in
    let w2 = c.decide.new.world in
    turn_goes k spot test body rest i qs w0 w2 c.turn.new.world f c.turn.new.frame _
    (turn_told k spot test body rest i qs w0 c.loop-turn.world w2 f _ _ First c.in-First.is
    c.loop-turn-test.true (c.loop-turn.invariant m qs)
    (λ es. c.in_ok-decide.ensures.side m.means es) (c.in_ok-decide.ensures.constraints m.means))
    (λ es. rw c.in-Going.is at (c.in_ok-turn-in-First.ensures m es))

pub turns-returns-in-Second : goal.turns-returns-in-Second
turns-returns-in-Second g t c = λ m qs.
    let k = context_in c.args.body.now m in
    let spot = c.args.spot in
    let test = bare c.args.condition.now in
    let body = turn_of k spot (bare_statement c.args.repeated.now) c.args.step in
    let rest = unknown_by k spot c.args.rest.now in
    let f = c.loop-turn.frame in
    let w0 = c.args.world.now in
    let w2 = c.decide.new.world in
    let told = turn_told k spot test body rest c.loop-turn._turn qs w0 c.loop-turn.world w2 f _ _
    Second c.in-Second.is c.loop-turn-test.true (c.loop-turn.invariant m qs)
    (λ es. c.in_ok-decide.ensures.side m.means es) (c.in_ok-decide.ensures.constraints m.means) in
    rests_flow qs w0 w2 w2 f f (Ok flow.Going) _ (λ s. Ok (Going s)) told.2
    (λ es. (es, refl, lists_kept es w2 w2 refl))

pub turns-returns-in-Both : goal.turns-returns-in-Both
turns-returns-in-Both g t c = λ m qs.
    let k = context_in c.args.body.now m in
    let spot = c.args.spot in
    let test = bare c.args.condition.now in
    let body = turn_of k spot (bare_statement c.args.repeated.now) c.args.step in
    let rest = unknown_by k spot c.args.rest.now in
    let f = c.loop-turn.frame in
    let w0 = c.args.world.now in
    let w2 = c.decide.new.world in
    let told = turn_told k spot test body rest c.loop-turn._turn qs w0 c.loop-turn.world w2 f _ _
    Both c.in-Both.is c.loop-turn-test.true (c.loop-turn.invariant m qs)
    (λ es. c.in_ok-decide.ensures.side m.means es) (c.in_ok-decide.ensures.constraints m.means) in
    rests_flow qs w0 w2 c.left.new.world f c.left.new.frame c.left.result _ rest told.2
    (λ es. c.left.ensures m.means es)

pub turns-returns : goal.turns-returns
turns-returns g t c = λ m qs.
    let k = context_in c.args.body.now m in
    let spot = c.args.spot in
    turns_end k spot (bare c.args.condition.now)
    (turn_of k spot (bare_statement c.args.repeated.now) c.args.step)
    (unknown_by k spot c.args.rest.now) c.loop-turn._turn qs c.args.world.now c.loop-turn.world
    c.loop-turn.frame _ c.too_many.result c.loop-turn-test.false (c.loop-turn.invariant m qs)
    c.too_many.ensures

-- ---- a turn
pub turn-returns-in_err-counted : goal.turn-returns-in_err-counted
turn-returns-in_err-counted g t c = λ m qs.
    flows_exit qs c.args.world.now c.counted.new.world c.args.frame.now c.from_residual.result _ _ _
    c.from_residual.ensures.1 (c.in_err-counted.ensures.value c.args.frame.now qs)

pub turn-returns-in_default : goal.turn-returns-in_default
turn-returns-in_default g t c = λ m qs.
    let k = context_in c.args.body.now m in
    let body = bare_statement c.args.repeated.now in
    let f = c.args.frame.now in
    let w0 = c.args.world.now in
    let w1 = c.counted.new.world in
    let w2 = c.execute.new.world in
    let f2 = c.execute.new.frame in
    let r = c.execute.result in
    let first = counted (at k c.args.spot) (state_of f w0 qs) in
    flows_at qs w0 w2 f2 r _ _ (ap (λ x. next first (turn_of k c.args.spot body x)) c.in_default.is)
    (flows_next qs w0 w1 w2 f f2 r first (exec k body)
    (counted_led qs w0 w1 f first (c.in_ok-counted.ensures.value f qs)
    c.in_ok-counted.ensures.keeps)
    (λ es. c.execute.ensures m es))

pub turn-returns-in_err-counted-2 : goal.turn-returns-in_err-counted-2
turn-returns-in_err-counted-2 g t c = λ m qs.
    let k = context_in c.args.body.now m in
    let body = bare_statement c.args.repeated.now in
    let f = c.args.frame.now in
    let w0 = c.args.world.now in
    let w1 = c.counted.new.world in
    let w2 = c.counted-2.new.world in
    let r = c.from_residual-in_err-counted-2.result in
    let first = counted (at k c.args.spot) (state_of f w0 qs) in
    flows_at qs w0 w2 f r _ _ (ap (λ x. next first (turn_of k c.args.spot body x)) c.in-Some.is)
    (flows_next qs w0 w1 w2 f f r first _
    (counted_led qs w0 w1 f first (c.in_ok-counted.ensures.value f qs)
    c.in_ok-counted.ensures.keeps)
    (λ es. flows_exit es w1 w2 f r _ _ _ c.from_residual-in_err-counted-2.ensures.1
    (c.in_err-counted-2.ensures.value f es)))

pub turn-returns-in_err-d : goal.turn-returns-in_err-d
turn-returns-in_err-d g t c = λ m qs.
    let k = context_in c.args.body.now m in
    let f = c.args.frame.now in
    let w0 = c.args.world.now in
    let w1 = c.counted.new.world in
    let w2 = c.counted-2.new.world in
    let w3 = c.execute-2.new.world in
    let f3 = c.execute-2.new.frame in
    let r = c.from_residual-in_err-d.result in
    let is = c.from_residual-in_err-d.ensures.1 in
    step_flows k c.args.spot (bare_statement c.args.repeated.now) c.args.step _ qs w0 w1 w2 w3 f f3
    r c.in-Some.is (c.in_ok-counted.ensures.value f qs) c.in_ok-counted.ensures.keeps
    (λ es. c.in_ok-counted-2.ensures.value f es) c.in_ok-counted-2.ensures.keeps
    (λ es. flows_exit es w2 w3 f3 r _ _ _ is (c.in_err-d.ensures m es))

pub turn-returns-in-Returned : goal.turn-returns-in-Returned
turn-returns-in-Returned g t c = λ m qs.
    let k = context_in c.args.body.now m in
    let f = c.args.frame.now in
    let w0 = c.args.world.now in
    let w1 = c.counted.new.world in
    let w2 = c.counted-2.new.world in
    let w3 = c.execute-2.new.world in
    let f3 = c.execute-2.new.frame in
    let r = Ok (flow.Returned c.in-Returned.d) in
    step_flows k c.args.spot (bare_statement c.args.repeated.now) c.args.step _ qs w0 w1 w2 w3 f f3
    r c.in-Some.is (c.in_ok-counted.ensures.value f qs) c.in_ok-counted.ensures.keeps
    (λ es. c.in_ok-counted-2.ensures.value f es) c.in_ok-counted-2.ensures.keeps
    (λ es. flows_stop es w2 w3 f3 r _ _ tt
    (rw c.in-Returned.is at (c.in_ok-d.ensures m es)))

pub turn-returns-in-Going : goal.turn-returns-in-Going
turn-returns-in-Going g t c = λ m qs.
    let k = context_in c.args.body.now m in
    let f = c.args.frame.now in
    let w0 = c.args.world.now in
    let w1 = c.counted.new.world in
    let w2 = c.counted-2.new.world in
    let w3 = c.execute-2.new.world in
    let f3 = c.execute-2.new.frame in
    let w4 = c.simple_assign.new.world in
    let f4 = c.simple_assign.new.frame in
    let r = c.ended.result in
    step_flows k c.args.spot (bare_statement c.args.repeated.now) c.args.step _ qs w0 w1 w2 w4 f f4
    r c.in-Some.is (c.in_ok-counted.ensures.value f qs) c.in_ok-counted.ensures.keeps
    (λ es. c.in_ok-counted-2.ensures.value f es) c.in_ok-counted-2.ensures.keeps
    (λ es. flows_going es w2 w3 w4 f3 f4 r _ _
    (rw c.in-Going.is at (c.in_ok-d.ensures m es))
    (λ fs. c.ended.ensures fs w3 w4 f4 _ (c.simple_assign.ensures m fs)))
