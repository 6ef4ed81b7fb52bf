use Rattle.std.proofs.Common.{◌≡◌, ◌∷◌, [], ℕ, Some, Err, Vec}
use Rattle.std.specs.declared.alloc.Global.{Global}
use Rattle.std.proofs.lemmas.Result.{err_from_is_err_and}
use Rattle.out_io.specs.Faults.{Rose}
use Rattle.out_io.proofs.Rising.{rose_on}
use Rattle.sym_file.specs.declared.line.SymLine.{SymLine}
use Rattle.circom_files.specs.Files.{bytes_in}
use Rattle.circom_files.specs.Steps.{HeldWith}
use Rattle.circom_named.specs.declared.described.Described.{Described}
use Rattle.circom_files.specs.declared.outcome.Witness.{Witness}
use Rattle.circom_named.proofs.Describing.{described_read, names_bad, names_unread, witness_unread}
use Rattle.circom_files.proofs.Reading.{steps_later, two_read}
use Rattle.circom_files.proofs.Asking.{asks_both, asks_first}
use Rattle.circom_named.proofs.named.described_in.Goals as goal

pub returns-in_err-witness-clause-step : goal.returns-in_err-witness-clause-step
returns-in_err-witness-clause-step g c =
    let p = err_from_is_err_and c.from_residual.result c.from_residual.ensures.1 in
    rw (p.1, p.2)
    (witness_unread (g.S.Store.may_hold c.witness_with_text.new.store) c.args.r1cs.now
    c.args.wtns.now c.args.names.now _ (λ (read : Witness × Vec ℕ Global). read.0)
    c.in_err-witness.field-0.0 c.in_err-witness.ensures.step)

pub returns-in_err-text-clause-step : goal.returns-in_err-text-clause-step
returns-in_err-text-clause-step g c =
    let p = err_from_is_err_and c.from_residual-in_err-text.result
    c.from_residual-in_err-text.ensures.1 in
    let held = g.S.Store.may_hold c.bytes_after.new.store in
    let back = c.bytes_after.ensures.store.still in
    let before = c.in_ok-witness.ensures in
    let known =
    two_read held record { name = c.args.r1cs; bytes = c.as_slice.result }
    c.in_ok-witness.witness.bytes c.as_slice.ensures
    (λ files may. before.bytes files (back files may))
    record { name = c.args.wtns; bytes = c.as_slice-2.result } c.in_ok-witness.values.items
    c.as_slice-2.ensures.value (λ files may. before.text files (back files may)) in
    rw (p.1, p.2)
    (names_unread held c.args.r1cs.now c.args.wtns.now c.args.names.now
    (Rose (g.S.Store.faults c.args.store.now) (g.S.Store.faults c.bytes_after.new.store))
    c.in_ok-witness.witness (λ files may. before.step files (back files may))
    c.in_err-text.field-0.0
    (steps_later (λ (v : Vec ℕ Global). v.items)
    (HeldWith held record { name = c.args.r1cs; bytes = c.as_slice.result }
    (Some record { name = c.args.wtns; bytes = c.as_slice-2.result })) held
    (λ files. bytes_in files c.args.names.now)
    (Rose (g.S.Store.faults c.witness_with_text.new.store)
    (g.S.Store.faults c.bytes_after.new.store))
    (Rose (g.S.Store.faults c.args.store.now) (g.S.Store.faults c.bytes_after.new.store))
    (Err c.in_err-text.field-0.0) known
    (λ rose. rose_on _ _ _ c.witness_with_text.ensures.store.later rose)
    c.in_err-text.ensures.step))

pub returns-in_err-lines-clause-step : goal.returns-in_err-lines-clause-step
returns-in_err-lines-clause-step g c =
    let p = err_from_is_err_and c.from_residual-in_err-lines.result
    c.from_residual-in_err-lines.ensures.1 in
    let held = g.S.Store.may_hold c.bytes_after.new.store in
    let back = c.bytes_after.ensures.store.still in
    let before = c.in_ok-witness.ensures in
    let known =
    two_read held record { name = c.args.r1cs; bytes = c.as_slice.result }
    c.in_ok-witness.witness.bytes c.as_slice.ensures
    (λ files may. before.bytes files (back files may))
    record { name = c.args.wtns; bytes = c.as_slice-2.result } c.in_ok-witness.values.items
    c.as_slice-2.ensures.value (λ files may. before.text files (back files may)) in
    rw (p.1, p.2)
    (names_bad held c.args.r1cs.now c.args.wtns.now c.args.names.now
    (Rose (g.S.Store.faults c.args.store.now) (g.S.Store.faults c.bytes_after.new.store))
    c.in_ok-witness.witness (λ files may. before.step files (back files may))
    c.in_ok-text.text.items
    (λ files may. c.in_ok-text.ensures.step files (known files may))
    c.as_slice-3.result.now c.as_slice-3.ensures.value (λ (v : Vec SymLine Global). v.items)
    c.in_err-lines.field-0.0 c.in_err-lines.ensures.step)

pub returns-clause-step : goal.returns-clause-step
returns-clause-step g c =
    let held = g.S.Store.may_hold c.bytes_after.new.store in
    let back = c.bytes_after.ensures.store.still in
    let before = c.in_ok-witness.ensures in
    let known =
    two_read held record { name = c.args.r1cs; bytes = c.as_slice.result }
    c.in_ok-witness.witness.bytes c.as_slice.ensures
    (λ files may. before.bytes files (back files may))
    record { name = c.args.wtns; bytes = c.as_slice-2.result } c.in_ok-witness.values.items
    c.as_slice-2.ensures.value (λ files may. before.text files (back files may)) in
    let here : Described =
    record { witness = c.in_ok-witness.witness; lines = c.of.result } in
    let whole : Described =
    record { witness = c.in_ok-witness.witness; lines = c.in_ok-lines.lines.items } in
    let made : here ≡ whole =
    λ i. record { witness = c.in_ok-witness.witness; lines = c.of.ensures i } in
    described_read held c.args.r1cs.now c.args.wtns.now c.args.names.now
    (Rose (g.S.Store.faults c.args.store.now) (g.S.Store.faults c.bytes_after.new.store))
    c.in_ok-witness.witness (λ files may. before.step files (back files may))
    c.in_ok-text.text.items
    (λ files may. c.in_ok-text.ensures.step files (known files may))
    c.as_slice-3.result.now c.as_slice-3.ensures.value c.in_ok-lines.lines.items here
    c.in_ok-lines.ensures.step made

pub returns-in_err-witness-clause-asked : goal.returns-in_err-witness-clause-asked
returns-in_err-witness-clause-asked g c =
    asks_first (c.args.r1cs.now ∷ c.args.wtns.now ∷ []) (c.args.names.now ∷ [])
    (g.S.Store.calls c.args.store.now) (g.S.Store.calls c.witness_with_text.new.store)
    c.witness_with_text.ensures.asked

pub returns-in_err-text-clause-asked : goal.returns-in_err-text-clause-asked
returns-in_err-text-clause-asked g c =
    asks_both (c.args.r1cs.now ∷ c.args.wtns.now ∷ []) (c.args.names.now ∷ [])
    (g.S.Store.calls c.args.store.now) (g.S.Store.calls c.witness_with_text.new.store)
    (g.S.Store.calls c.bytes_after.new.store) c.witness_with_text.ensures.asked
    c.bytes_after.ensures.asked

pub returns-in_err-lines-clause-asked : goal.returns-in_err-lines-clause-asked
returns-in_err-lines-clause-asked g c =
    asks_both (c.args.r1cs.now ∷ c.args.wtns.now ∷ []) (c.args.names.now ∷ [])
    (g.S.Store.calls c.args.store.now) (g.S.Store.calls c.witness_with_text.new.store)
    (g.S.Store.calls c.bytes_after.new.store) c.witness_with_text.ensures.asked
    c.bytes_after.ensures.asked

pub returns-clause-asked : goal.returns-clause-asked
returns-clause-asked g c =
    asks_both (c.args.r1cs.now ∷ c.args.wtns.now ∷ []) (c.args.names.now ∷ [])
    (g.S.Store.calls c.args.store.now) (g.S.Store.calls c.witness_with_text.new.store)
    (g.S.Store.calls c.bytes_after.new.store) c.witness_with_text.ensures.asked
    c.bytes_after.ensures.asked
