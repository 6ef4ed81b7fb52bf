use Rattle.std.proofs.Common.{◌∙◌}
use Rattle.circom_files.proofs.Reading.{reads_none, reads_there}
use Rattle.out_io.specs.History.{found_of}
use Rattle.circom_files.proofs.Asking.{asks_one}
use Rattle.circom_files.proofs.inputs.bytes_in.Goals as goal

pub returns-in-Some-clause-step : goal.returns-in-Some-clause-step
returns-in-Some-clause-step g c = λ files may.
    reads_there files c.args.name.now c.in-Some.bytes
    (rw c.in-Some.is at (c.in_ok-bytes.ensures.there files may))

pub returns-in_ok-from_slice-in-None-clause-step : goal.returns-in_ok-from_slice-in-None-clause-step
returns-in_ok-from_slice-in-None-clause-step g c = λ files may.
    reads_none files c.args.name.now c.in_ok-from_slice-in-None.field-0
    (c.in_ok-from_slice-in-None.ensures ∙ c.as_bytes.ensures.value)
    (rw c.in-None.is at (c.in_ok-bytes.ensures.there files may))

pub returns-in_err-bytes-clause-asked : goal.returns-in_err-bytes-clause-asked
returns-in_err-bytes-clause-asked g c =
    asks_one c.args.name.now (found_of c.read.result) (g.S.Store.calls c.args.store.now)
    (g.S.Store.calls c.read.new.self) c.read.ensures.asked

pub returns-in-Some-clause-asked : goal.returns-in-Some-clause-asked
returns-in-Some-clause-asked g c =
    asks_one c.args.name.now (found_of c.read.result) (g.S.Store.calls c.args.store.now)
    (g.S.Store.calls c.read.new.self) c.read.ensures.asked

pub returns-in_ok-from_slice-in-None-clause-asked
    : goal.returns-in_ok-from_slice-in-None-clause-asked
returns-in_ok-from_slice-in-None-clause-asked g c =
    asks_one c.args.name.now (found_of c.read.result) (g.S.Store.calls c.args.store.now)
    (g.S.Store.calls c.read.new.self) c.read.ensures.asked

pub returns-in_err-from_slice-in-None-clause-asked
    : goal.returns-in_err-from_slice-in-None-clause-asked
returns-in_err-from_slice-in-None-clause-asked g c =
    asks_one c.args.name.now (found_of c.read.result) (g.S.Store.calls c.args.store.now)
    (g.S.Store.calls c.read.new.self) c.read.ensures.asked
