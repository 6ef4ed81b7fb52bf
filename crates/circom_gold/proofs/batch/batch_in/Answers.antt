use Rattle.std.proofs.Common.{refl}
use Rattle.std.proofs.lemmas.Result.{err_from_is_err_and}
use Rattle.out_io.specs.Faults.{Rose}
use Rattle.out_io.proofs.Rising.{rose_on}
use Rattle.circom_words.specs.Words.{meant_options}
use Rattle.circom_gold.proofs.Batching.{batch_found, unread_batch, unsourced_batch}
use Rattle.circom_gold.proofs.batch.batch_in.Goals as goal

pub returns-in_err-coded-clause-step : goal.returns-in_err-coded-clause-step
returns-in_err-coded-clause-step g c =
    let p = err_from_is_err_and c.from_residual.result c.from_residual.ensures.1 in
    rw (p.1, p.2)
    (unsourced_batch (g.S.Store.may_hold c.source_in.new.store) c.args.source.now
    c.args.inputs.now (meant_options c.args.options) c.args.running.fuel _
    c.in_err-coded.field-0.0 c.in_err-coded.ensures.step)

pub returns-in_err-text-clause-step : goal.returns-in_err-text-clause-step
returns-in_err-text-clause-step g c =
    let p = err_from_is_err_and c.from_residual-in_err-text.result
    c.from_residual-in_err-text.ensures.1 in
    rw (p.1, p.2)
    (unread_batch (g.S.Store.may_hold c.bytes_in.new.store) c.args.source.now
    c.args.inputs.now (meant_options c.args.options) c.args.running.fuel
    (Rose (g.S.Store.faults c.args.store.now) (g.S.Store.faults c.bytes_in.new.store))
    c.args.options.level c.in_ok-coded.coded c.in_ok-coded.ensures.coded refl
    (g.S.Store.may_hold c.source_in.new.store) c.bytes_in.ensures.store.still
    c.in_ok-coded.ensures.step
    (Rose (g.S.Store.faults c.source_in.new.store) (g.S.Store.faults c.bytes_in.new.store))
    c.in_err-text.field-0.0
    (λ r. rose_on _ (g.S.Store.faults c.source_in.new.store) _ c.source_in.ensures.store.later r)
    c.in_err-text.ensures.step)

pub batch_of-requires-clause-coded : goal.batch_of-requires-clause-coded
batch_of-requires-clause-coded g c = λ κs within.
    (c.args.options.level, c.in_ok-coded.ensures.coded)

pub returns-clause-step : goal.returns-clause-step
returns-clause-step g c =
    batch_found (g.S.Store.may_hold c.bytes_in.new.store) c.args.source.now c.args.inputs.now
    (meant_options c.args.options) c.args.running.fuel
    (Rose (g.S.Store.faults c.args.store.now) (g.S.Store.faults c.bytes_in.new.store))
    c.args.options.level c.in_ok-coded.coded c.in_ok-coded.ensures.coded refl
    (g.S.Store.may_hold c.source_in.new.store) c.bytes_in.ensures.store.still
    c.in_ok-coded.ensures.step c.in_ok-text.text.items c.batch_of.result
    c.in_ok-text.ensures.step
    (rw c.as_slice.ensures.value at c.batch_of.ensures.batches)
