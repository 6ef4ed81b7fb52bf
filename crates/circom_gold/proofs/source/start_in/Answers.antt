use Rattle.std.proofs.Common.{◌∙◌}
use Rattle.std.proofs.lemmas.Result.{err_from_is_err_and}
use Rattle.out_io.specs.Faults.{Rose}
use Rattle.circom_gold.proofs.Sourcing.{input_given, input_missing, input_read, input_unread}
use Rattle.circom_gold.proofs.source.start_in.Goals as goal

pub returns-in-Source-clause-step : goal.returns-in-Source-clause-step
returns-in-Source-clause-step g c = λ source options.
    input_read (g.S.Store.may_hold c.args.store.now) source options c.args.coded.now
    c.args.name.now c.utf8.name c.in-Source.ensures

pub returns-in_ok-from_slice-in-Missing-clause-step :
    goal.returns-in_ok-from_slice-in-Missing-clause-step
returns-in_ok-from_slice-in-Missing-clause-step g c = λ source options.
    input_missing (g.S.Store.may_hold c.args.store.now) source options c.args.coded.now
    c.args.name.now c.utf8.name _
    (c.in_ok-from_slice-in-Missing.ensures ∙ c.as_bytes.ensures.value) c.in-Missing.ensures

pub returns-in_err-bytes-in-Nothing-clause-step : goal.returns-in_err-bytes-in-Nothing-clause-step
returns-in_err-bytes-in-Nothing-clause-step g c = λ source options.
    let p = err_from_is_err_and c.from_residual-in_err-bytes-in-Nothing.result
    c.from_residual-in_err-bytes-in-Nothing.ensures.1 in
    rw (p.1, p.2)
    (input_unread (g.S.Store.may_hold c.bytes_in.new.store) source options c.args.coded.now
    c.args.name.now c.utf8.name
    (Rose (g.S.Store.faults c.args.store.now) (g.S.Store.faults c.bytes_in.new.store))
    c.in_err-bytes-in-Nothing.field-0.0 c.in_err-bytes-in-Nothing.ensures.step)

pub returns-in_ok-bytes-in-Nothing-clause-step : goal.returns-in_ok-bytes-in-Nothing-clause-step
returns-in_ok-bytes-in-Nothing-clause-step g c = λ source options.
    input_given (g.S.Store.may_hold c.bytes_in.new.store) source options c.args.coded.now
    c.args.name.now c.utf8.name
    (Rose (g.S.Store.faults c.args.store.now) (g.S.Store.faults c.bytes_in.new.store))
    c.in_ok-bytes-in-Nothing.bytes.items c.as_slice.result.now c.start_from.result
    c.as_slice.ensures.value c.in_ok-bytes-in-Nothing.ensures.step c.start_from.ensures
