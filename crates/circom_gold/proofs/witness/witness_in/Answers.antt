use Rattle.std.proofs.Common.{refl, subst, sym}
use Rattle.std.proofs.lemmas.Result.{err_from_is_err_and}
use Rattle.out_io.specs.Faults.{Rose}
use Rattle.out_io.proofs.Rising.{rose_on}
use Rattle.circom_words.specs.Words.{meant_options}
use Rattle.circom_gold.specs.Source.{AreInputs}
use Rattle.circom_gold.proofs.Witnessing.{found, task, unsourced, unstarted}
use Rattle.circom_gold.proofs.witness.witness_in.Goals as goal

pub returns-in_err-coded-clause-step : goal.returns-in_err-coded-clause-step
returns-in_err-coded-clause-step g c =
    let p = err_from_is_err_and c.from_residual.result c.from_residual.ensures.1 in
    rw (p.1, p.2)
    (unsourced (g.S.Store.may_hold c.source_in.new.store) c.args.source.now c.args.input.now
    (meant_options c.args.options) c.args.running.fuel _ c.in_err-coded.field-0.0
    c.in_err-coded.ensures.step)

pub returns-in_err-start-clause-step : goal.returns-in_err-start-clause-step
returns-in_err-start-clause-step g c =
    let p = err_from_is_err_and c.from_residual-in_err-start.result
    c.from_residual-in_err-start.ensures.1 in
    rw (p.1, p.2)
    (unstarted (g.S.Store.may_hold c.start_in.new.store) c.args.source.now c.args.input.now
    (meant_options c.args.options) c.args.running.fuel
    (Rose (g.S.Store.faults c.args.store.now) (g.S.Store.faults c.start_in.new.store))
    c.args.options.level c.in_ok-coded.coded c.in_ok-coded.ensures.coded refl
    (g.S.Store.may_hold c.source_in.new.store) c.start_in.ensures.store.still
    c.in_ok-coded.ensures.step
    (Rose (g.S.Store.faults c.source_in.new.store) (g.S.Store.faults c.start_in.new.store))
    c.in_err-start.field-0.0
    (λ r. rose_on _ (g.S.Store.faults c.source_in.new.store) _ c.source_in.ensures.store.later r)
    (c.in_err-start.ensures.step c.args.source.now (meant_options c.args.options)))

pub witness_of-requires-clause-coded : goal.witness_of-requires-clause-coded
witness_of-requires-clause-coded g c = λ κs within.
    (c.args.options.level, c.in_ok-coded.ensures.coded)

pub witness_of-requires-clause-task : goal.witness_of-requires-clause-task
witness_of-requires-clause-task g c = λ κs within.
    task c.args.options.level c.in_ok-coded.coded c.in_ok-coded.ensures.coded
    c.as_slice.result.now
    (subst (AreInputs c.in_ok-coded.coded) (sym c.as_slice.ensures.value)
    c.in_ok-start.ensures.inputs)

pub returns-clause-step : goal.returns-clause-step
returns-clause-step g c =
    found (g.S.Store.may_hold c.start_in.new.store) c.args.source.now c.args.input.now
    (meant_options c.args.options) c.args.running.fuel
    (Rose (g.S.Store.faults c.args.store.now) (g.S.Store.faults c.start_in.new.store))
    c.args.options.level c.in_ok-coded.coded c.in_ok-coded.ensures.coded refl
    (g.S.Store.may_hold c.source_in.new.store) c.start_in.ensures.store.still
    c.in_ok-coded.ensures.step c.in_ok-start.start c.as_slice.result.now c.in_ok-ran.ran
    c.as_slice.ensures.value
    (c.in_ok-start.ensures.step c.args.source.now (meant_options c.args.options))
    c.in_ok-ran.ensures.run
