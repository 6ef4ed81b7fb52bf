use Rattle.std.proofs.Common.{◌≡◌, ◌∷◌, [], ◌∙◌, ℕ, None, Ok, Err, Vec, ap, sym}
use Rattle.std.specs.declared.alloc.Global.{Global}
use Rattle.std.proofs.lemmas.Result.{err_from_is_err_and}
use Rattle.out_io.specs.Faults.{Rose}
use Rattle.out_io.proofs.Rising.{rose_on}
use Rattle.circom_files.specs.Files.{bytes_in}
use Rattle.circom_files.specs.Proving.{witness_of}
use Rattle.circom_files.specs.Steps.{HeldWith}
use Rattle.circom_files.specs.declared.outcome.Witness.{Witness}
use Rattle.circom_files.proofs.Reading.{bad_first, bad_second, both_read, one_read, steps_later}
use Rattle.circom_files.proofs.Reading.{unread_first, unread_second, values_in, witness_is}
use Rattle.circom_files.proofs.Reading.{witness_with}
use Rattle.circom_files.proofs.Asking.{asks_both, asks_first}
use Rattle.circom_files.proofs.inputs.witness_with_text.Goals as goal

pub returns-in_err-bytes-clause-step : goal.returns-in_err-bytes-clause-step
returns-in_err-bytes-clause-step g c =
    let p = err_from_is_err_and c.from_residual.result c.from_residual.ensures.1 in
    rw (p.1, p.2)
    (unread_first (values_in c.args.wtns.now) witness_with
    (λ files. witness_of files c.args.r1cs.now c.args.wtns.now)
    (g.S.Store.may_hold c.bytes_in.new.store) c.args.r1cs.now c.args.wtns.now
    (witness_is c.args.r1cs.now c.args.wtns.now) _
    c.in_err-bytes.field-0.0 c.in_err-bytes.ensures.step)

pub returns-in_err-file-clause-step : goal.returns-in_err-file-clause-step
returns-in_err-file-clause-step g c =
    let p = err_from_is_err_and c.from_residual-in_err-file.result
    c.from_residual-in_err-file.ensures.1 in
    rw (p.1, p.2)
    (bad_first (values_in c.args.wtns.now) witness_with
    (λ files. witness_of files c.args.r1cs.now c.args.wtns.now)
    (g.S.Store.may_hold c.bytes_in.new.store) c.args.r1cs.now c.args.wtns.now
    (witness_is c.args.r1cs.now c.args.wtns.now) _
    c.in_ok-bytes.bytes.items c.in_ok-bytes.ensures.step c.as_slice.result.now
    c.as_slice.ensures.value c.in_err-file.field-0.0 c.in_err-file.ensures.step)

pub returns-in_err-text-clause-step : goal.returns-in_err-text-clause-step
returns-in_err-text-clause-step g c =
    let p = err_from_is_err_and c.from_residual-in_err-text.result
    c.from_residual-in_err-text.ensures.1 in
    let held = g.S.Store.may_hold c.bytes_after.new.store in
    rw (p.1, p.2)
    (unread_second (values_in c.args.wtns.now) witness_with
    (λ files. witness_of files c.args.r1cs.now c.args.wtns.now) held c.args.r1cs.now
    c.args.wtns.now (witness_is c.args.r1cs.now c.args.wtns.now)
    (Rose (g.S.Store.faults c.args.store.now) (g.S.Store.faults c.bytes_after.new.store))
    c.in_ok-bytes.bytes.items
    (λ files may. c.in_ok-bytes.ensures.step files (c.bytes_after.ensures.store.still files may))
    c.as_slice.result.now c.as_slice.ensures.value c.in_ok-file.file c.in_ok-file.ensures.step
    c.in_err-text.field-0.0
    (steps_later (λ (v : Vec ℕ Global). v.items)
    (HeldWith held record { name = c.args.r1cs; bytes = c.as_slice-2.result } None) held
    (λ files. bytes_in files c.args.wtns.now)
    (Rose (g.S.Store.faults c.bytes_in.new.store) (g.S.Store.faults c.bytes_after.new.store))
    (Rose (g.S.Store.faults c.args.store.now) (g.S.Store.faults c.bytes_after.new.store))
    (Err c.in_err-text.field-0.0)
    (one_read held record { name = c.args.r1cs; bytes = c.as_slice-2.result }
    c.in_ok-bytes.bytes.items c.as_slice-2.ensures.value
    (λ files may. c.in_ok-bytes.ensures.step files (c.bytes_after.ensures.store.still files may)))
    (λ rose. rose_on _ _ _ c.bytes_in.ensures.store.later rose) c.in_err-text.ensures.step))

pub returns-in_err-values-clause-step : goal.returns-in_err-values-clause-step
returns-in_err-values-clause-step g c =
    let p = err_from_is_err_and c.from_residual-in_err-values.result
    c.from_residual-in_err-values.ensures.1 in
    let held = g.S.Store.may_hold c.bytes_after.new.store in
    rw (p.1, p.2)
    (bad_second (values_in c.args.wtns.now) witness_with
    (λ files. witness_of files c.args.r1cs.now c.args.wtns.now) held c.args.r1cs.now
    c.args.wtns.now (witness_is c.args.r1cs.now c.args.wtns.now)
    (Rose (g.S.Store.faults c.args.store.now) (g.S.Store.faults c.bytes_after.new.store))
    c.in_ok-bytes.bytes.items
    (λ files may. c.in_ok-bytes.ensures.step files (c.bytes_after.ensures.store.still files may))
    c.as_slice.result.now c.as_slice.ensures.value c.in_ok-file.file c.in_ok-file.ensures.step
    c.in_ok-text.text.items
    (λ files may. c.in_ok-text.ensures.step files
    (one_read held record { name = c.args.r1cs; bytes = c.as_slice-2.result }
    c.in_ok-bytes.bytes.items c.as_slice-2.ensures.value
    (λ f m. c.in_ok-bytes.ensures.step f (c.bytes_after.ensures.store.still f m)) files may))
    c.as_slice-3.result.now c.as_slice-3.ensures.value (λ (v : Vec ℕ Global). v.items)
    c.in_err-values.field-0.0 c.in_err-values.ensures.step)

pub returns-clause-step : goal.returns-clause-step
returns-clause-step g c =
    let here : Witness =
    record { bytes = c.of.result; file = c.in_ok-file.file; values = c.of-2.result } in
    let there : Witness =
    record {
      bytes = c.in_ok-bytes.bytes.items;
      file = c.in_ok-file.file;
      values = c.in_ok-values.values.items;
    } in
    let made : here ≡ there =
    λ i. record {
      bytes = c.of.ensures i;
      file = c.in_ok-file.file;
      values = c.of-2.ensures i;
    } in
    let held = g.S.Store.may_hold c.bytes_after.new.store in
    both_read (values_in c.args.wtns.now) witness_with
    (λ files. witness_of files c.args.r1cs.now c.args.wtns.now) held c.args.r1cs.now
    c.args.wtns.now (witness_is c.args.r1cs.now c.args.wtns.now)
    (Rose (g.S.Store.faults c.args.store.now) (g.S.Store.faults c.bytes_after.new.store))
    c.in_ok-bytes.bytes.items
    (λ files may. c.in_ok-bytes.ensures.step files (c.bytes_after.ensures.store.still files may))
    c.as_slice.result.now c.as_slice.ensures.value c.in_ok-file.file c.in_ok-file.ensures.step
    c.in_ok-text.text.items
    (λ files may. c.in_ok-text.ensures.step files
    (one_read held record { name = c.args.r1cs; bytes = c.as_slice-2.result }
    c.in_ok-bytes.bytes.items c.as_slice-2.ensures.value
    (λ f m. c.in_ok-bytes.ensures.step f (c.bytes_after.ensures.store.still f m)) files may))
    c.as_slice-3.result.now c.as_slice-3.ensures.value c.in_ok-values.values.items here
    c.in_ok-values.ensures.step made

pub returns-clause-bytes : goal.returns-clause-bytes
returns-clause-bytes g c = λ files may.
    c.in_ok-bytes.ensures.step files (c.bytes_after.ensures.store.still files may)
    ∙ ap Ok (sym c.of.ensures)

pub returns-clause-text : goal.returns-clause-text
returns-clause-text g c = λ files may.
    c.in_ok-text.ensures.step files
    (one_read (g.S.Store.may_hold c.bytes_after.new.store)
    record { name = c.args.r1cs; bytes = c.as_slice-2.result } c.in_ok-bytes.bytes.items
    c.as_slice-2.ensures.value
    (λ f m. c.in_ok-bytes.ensures.step f (c.bytes_after.ensures.store.still f m)) files may)

pub returns-in_err-bytes-clause-asked : goal.returns-in_err-bytes-clause-asked
returns-in_err-bytes-clause-asked g c =
    asks_first (c.args.r1cs.now ∷ []) (c.args.wtns.now ∷ [])
    (g.S.Store.calls c.args.store.now) (g.S.Store.calls c.bytes_in.new.store)
    c.bytes_in.ensures.asked

pub returns-in_err-file-clause-asked : goal.returns-in_err-file-clause-asked
returns-in_err-file-clause-asked g c =
    asks_first (c.args.r1cs.now ∷ []) (c.args.wtns.now ∷ [])
    (g.S.Store.calls c.args.store.now) (g.S.Store.calls c.bytes_in.new.store)
    c.bytes_in.ensures.asked

pub returns-in_err-text-clause-asked : goal.returns-in_err-text-clause-asked
returns-in_err-text-clause-asked g c =
    asks_both (c.args.r1cs.now ∷ []) (c.args.wtns.now ∷ [])
    (g.S.Store.calls c.args.store.now) (g.S.Store.calls c.bytes_in.new.store)
    (g.S.Store.calls c.bytes_after.new.store) c.bytes_in.ensures.asked
    c.bytes_after.ensures.asked

pub returns-in_err-values-clause-asked : goal.returns-in_err-values-clause-asked
returns-in_err-values-clause-asked g c =
    asks_both (c.args.r1cs.now ∷ []) (c.args.wtns.now ∷ [])
    (g.S.Store.calls c.args.store.now) (g.S.Store.calls c.bytes_in.new.store)
    (g.S.Store.calls c.bytes_after.new.store) c.bytes_in.ensures.asked
    c.bytes_after.ensures.asked

pub returns-clause-asked : goal.returns-clause-asked
returns-clause-asked g c =
    asks_both (c.args.r1cs.now ∷ []) (c.args.wtns.now ∷ [])
    (g.S.Store.calls c.args.store.now) (g.S.Store.calls c.bytes_in.new.store)
    (g.S.Store.calls c.bytes_after.new.store) c.bytes_in.ensures.asked
    c.bytes_after.ensures.asked
