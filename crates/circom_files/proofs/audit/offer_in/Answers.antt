use Rattle.std.proofs.Common.{◌≡◌, ◌∷◌, [], ℕ, None, Some, Ok, Err, Vec}
use Rattle.std.specs.declared.alloc.Global.{Global}
use Rattle.std.proofs.lemmas.Result.{err_from_is_err_and}
use Rattle.out_io.specs.Faults.{Rose}
use Rattle.out_io.proofs.Rising.{rose_on}
use Rattle.circom_files.specs.Files.{bytes_in}
use Rattle.out_io.specs.Held.{OfAll}
use Rattle.circom_files.specs.Steps.{HeldWith}
use Rattle.circom_files.specs.declared.outcome.Offer.{Offer}
use Rattle.circom_files.proofs.Reading.{one_read, steps_later, two_read}
use Rattle.circom_files.proofs.Offering.{offer_bad_publics, offer_bad_r1cs, offer_read}
use Rattle.circom_files.proofs.Offering.{offer_unread, offer_unread_proof, offer_unread_publics}
use Rattle.circom_files.proofs.Asking.{asks_both, asks_first}
use Rattle.circom_files.proofs.audit.offer_in.Goals as goal

pub returns-in_err-bytes-clause-step : goal.returns-in_err-bytes-clause-step
returns-in_err-bytes-clause-step g c =
    let p = err_from_is_err_and c.from_residual.result
    c.from_residual.ensures.1 in
    rw (p.1, p.2)
    (offer_unread (g.S.Store.may_hold c.bytes_in.new.store) c.args.r1cs.now c.args.publics.now
    c.args.proof.now _ c.in_err-bytes.field-0.0 c.in_err-bytes.ensures.step)

pub returns-in_err-file-clause-step : goal.returns-in_err-file-clause-step
returns-in_err-file-clause-step g c =
    let p = err_from_is_err_and c.from_residual-in_err-file.result
    c.from_residual-in_err-file.ensures.1 in
    rw (p.1, p.2)
    (offer_bad_r1cs (g.S.Store.may_hold c.bytes_in.new.store) c.args.r1cs.now c.args.publics.now
    c.args.proof.now _ c.in_ok-bytes.bytes.items c.in_ok-bytes.ensures.step c.as_slice.result.now
    c.as_slice.ensures.value c.in_err-file.field-0.0 c.in_err-file.ensures.step)

pub returns-in_err-text-clause-step : goal.returns-in_err-text-clause-step
returns-in_err-text-clause-step g c =
    let p = err_from_is_err_and c.from_residual-in_err-text.result
    c.from_residual-in_err-text.ensures.1 in
    let held = g.S.Store.may_hold c.bytes_after.new.store in
    let there : OfAll held
    (λ files. bytes_in files c.args.r1cs.now ≡ Ok c.in_ok-bytes.bytes.items) =
    λ files may. c.in_ok-bytes.ensures.step files (c.bytes_after.ensures.store.still files may) in
    let known =
    one_read held record { name = c.args.r1cs; bytes = c.as_slice-2.result }
    c.in_ok-bytes.bytes.items c.as_slice-2.ensures.value there in
    rw (p.1, p.2)
    (offer_unread_publics held c.args.r1cs.now c.args.publics.now c.args.proof.now
    (Rose (g.S.Store.faults c.args.store.now) (g.S.Store.faults c.bytes_after.new.store))
    c.in_ok-bytes.bytes.items there c.as_slice.result.now c.as_slice.ensures.value
    c.in_ok-file.file c.in_ok-file.ensures.step c.in_err-text.field-0.0
    (steps_later (λ (v : Vec ℕ Global). v.items)
    (HeldWith held record { name = c.args.r1cs; bytes = c.as_slice-2.result } None) held
    (λ files. bytes_in files c.args.publics.now)
    (Rose (g.S.Store.faults c.bytes_in.new.store) (g.S.Store.faults c.bytes_after.new.store))
    (Rose (g.S.Store.faults c.args.store.now) (g.S.Store.faults c.bytes_after.new.store))
    (Err c.in_err-text.field-0.0) known
    (λ rose. rose_on _ _ _ c.bytes_in.ensures.store.later rose) c.in_err-text.ensures.step))

pub returns-in_err-values-clause-step : goal.returns-in_err-values-clause-step
returns-in_err-values-clause-step g c =
    let p = err_from_is_err_and c.from_residual-in_err-values.result
    c.from_residual-in_err-values.ensures.1 in
    let held = g.S.Store.may_hold c.bytes_after.new.store in
    let there : OfAll held
    (λ files. bytes_in files c.args.r1cs.now ≡ Ok c.in_ok-bytes.bytes.items) =
    λ files may. c.in_ok-bytes.ensures.step files (c.bytes_after.ensures.store.still files may) in
    let known =
    one_read held record { name = c.args.r1cs; bytes = c.as_slice-2.result }
    c.in_ok-bytes.bytes.items c.as_slice-2.ensures.value there in
    rw (p.1, p.2)
    (offer_bad_publics held c.args.r1cs.now c.args.publics.now c.args.proof.now
    (Rose (g.S.Store.faults c.args.store.now) (g.S.Store.faults c.bytes_after.new.store))
    c.in_ok-bytes.bytes.items there c.as_slice.result.now c.as_slice.ensures.value
    c.in_ok-file.file c.in_ok-file.ensures.step c.in_ok-text.text.items
    (λ files may. c.in_ok-text.ensures.step files (known files may)) c.as_slice-3.result.now
    c.as_slice-3.ensures.value c.in_err-values.field-0.0 c.in_err-values.ensures)

pub returns-in_err-offered-clause-step : goal.returns-in_err-offered-clause-step
returns-in_err-offered-clause-step g c =
    let p = err_from_is_err_and c.from_residual-in_err-offered.result
    c.from_residual-in_err-offered.ensures.1 in
    let held = g.S.Store.may_hold c.bytes_after-2.new.store in
    let middle = g.S.Store.may_hold c.bytes_after.new.store in
    let there : OfAll middle
    (λ files. bytes_in files c.args.r1cs.now ≡ Ok c.in_ok-bytes.bytes.items) =
    λ files may. c.in_ok-bytes.ensures.step files (c.bytes_after.ensures.store.still files may) in
    let first : OfAll held
    (λ files. bytes_in files c.args.r1cs.now ≡ Ok c.in_ok-bytes.bytes.items) =
    λ files may. there files (c.bytes_after-2.ensures.store.still files may) in
    let known =
    one_read middle record { name = c.args.r1cs; bytes = c.as_slice-2.result }
    c.in_ok-bytes.bytes.items c.as_slice-2.ensures.value there in
    let second : OfAll held
    (λ files. bytes_in files c.args.publics.now ≡ Ok c.in_ok-text.text.items) =
    λ files may.
    let before = c.bytes_after-2.ensures.store.still files may in
    c.in_ok-text.ensures.step files (known files before) in
    let both =
    two_read held record { name = c.args.r1cs; bytes = c.as_slice-2.result }
    c.in_ok-bytes.bytes.items c.as_slice-2.ensures.value first
    record { name = c.args.publics; bytes = c.as_slice-4.result } c.in_ok-text.text.items
    c.as_slice-4.ensures.value second in
    rw (p.1, p.2)
    (offer_unread_proof held c.args.r1cs.now c.args.publics.now c.args.proof.now
    (Rose (g.S.Store.faults c.args.store.now) (g.S.Store.faults c.bytes_after-2.new.store))
    c.in_ok-bytes.bytes.items first c.as_slice.result.now c.as_slice.ensures.value
    c.in_ok-file.file c.in_ok-file.ensures.step c.in_ok-text.text.items second
    c.as_slice-3.result.now c.as_slice-3.ensures.value c.in_ok-values.values.items
    c.in_ok-values.ensures c.in_err-offered.field-0.0
    (steps_later (λ (v : Vec ℕ Global). v.items)
    (HeldWith held record { name = c.args.r1cs; bytes = c.as_slice-2.result }
    (Some record { name = c.args.publics; bytes = c.as_slice-4.result })) held
    (λ files. bytes_in files c.args.proof.now)
    (Rose (g.S.Store.faults c.bytes_after.new.store) (g.S.Store.faults c.bytes_after-2.new.store))
    (Rose (g.S.Store.faults c.args.store.now) (g.S.Store.faults c.bytes_after-2.new.store))
    (Err c.in_err-offered.field-0.0) both
    (λ rose. rose_on _ _ _ c.bytes_in.ensures.store.later
    (rose_on _ _ _ c.bytes_after.ensures.store.later rose)) c.in_err-offered.ensures.step))

pub returns-clause-step : goal.returns-clause-step
returns-clause-step g c =
    let here : Offer =
    record {
      bytes = c.of.result;
      file = c.in_ok-file.file;
      publics = c.of-2.result;
      proof = c.of-3.result;
    } in
    let whole : Offer =
    record {
      bytes = c.in_ok-bytes.bytes.items;
      file = c.in_ok-file.file;
      publics = c.in_ok-values.values.items;
      proof = c.in_ok-offered.offered.items;
    } in
    let made : here ≡ whole =
    λ i. record {
      bytes = c.of.ensures i;
      file = c.in_ok-file.file;
      publics = c.of-2.ensures i;
      proof = c.of-3.ensures i;
    } in
    let held = g.S.Store.may_hold c.bytes_after-2.new.store in
    let middle = g.S.Store.may_hold c.bytes_after.new.store in
    let there : OfAll middle
    (λ files. bytes_in files c.args.r1cs.now ≡ Ok c.in_ok-bytes.bytes.items) =
    λ files may. c.in_ok-bytes.ensures.step files (c.bytes_after.ensures.store.still files may) in
    let first : OfAll held
    (λ files. bytes_in files c.args.r1cs.now ≡ Ok c.in_ok-bytes.bytes.items) =
    λ files may. there files (c.bytes_after-2.ensures.store.still files may) in
    let known =
    one_read middle record { name = c.args.r1cs; bytes = c.as_slice-2.result }
    c.in_ok-bytes.bytes.items c.as_slice-2.ensures.value there in
    let second : OfAll held
    (λ files. bytes_in files c.args.publics.now ≡ Ok c.in_ok-text.text.items) =
    λ files may.
    let before = c.bytes_after-2.ensures.store.still files may in
    c.in_ok-text.ensures.step files (known files before) in
    let both =
    two_read held record { name = c.args.r1cs; bytes = c.as_slice-2.result }
    c.in_ok-bytes.bytes.items c.as_slice-2.ensures.value first
    record { name = c.args.publics; bytes = c.as_slice-4.result } c.in_ok-text.text.items
    c.as_slice-4.ensures.value second in
    offer_read held c.args.r1cs.now c.args.publics.now c.args.proof.now
    (Rose (g.S.Store.faults c.args.store.now) (g.S.Store.faults c.bytes_after-2.new.store))
    c.in_ok-bytes.bytes.items first c.as_slice.result.now c.as_slice.ensures.value
    c.in_ok-file.file c.in_ok-file.ensures.step c.in_ok-text.text.items second
    c.as_slice-3.result.now c.as_slice-3.ensures.value c.in_ok-values.values.items
    c.in_ok-values.ensures c.in_ok-offered.offered.items here
    (λ files may. c.in_ok-offered.ensures.step files (both files may)) made

pub returns-in_err-bytes-clause-asked : goal.returns-in_err-bytes-clause-asked
returns-in_err-bytes-clause-asked g c =
    asks_first (c.args.r1cs.now ∷ []) (c.args.publics.now ∷ (c.args.proof.now ∷ []))
    (g.S.Store.calls c.args.store.now) (g.S.Store.calls c.bytes_in.new.store)
    c.bytes_in.ensures.asked

pub returns-in_err-file-clause-asked : goal.returns-in_err-file-clause-asked
returns-in_err-file-clause-asked g c =
    asks_first (c.args.r1cs.now ∷ []) (c.args.publics.now ∷ (c.args.proof.now ∷ []))
    (g.S.Store.calls c.args.store.now) (g.S.Store.calls c.bytes_in.new.store)
    c.bytes_in.ensures.asked

pub returns-in_err-text-clause-asked : goal.returns-in_err-text-clause-asked
returns-in_err-text-clause-asked g c =
    asks_first (c.args.r1cs.now ∷ (c.args.publics.now ∷ [])) (c.args.proof.now ∷ [])
    (g.S.Store.calls c.args.store.now) (g.S.Store.calls c.bytes_after.new.store)
    (asks_both (c.args.r1cs.now ∷ []) (c.args.publics.now ∷ [])
    (g.S.Store.calls c.args.store.now) (g.S.Store.calls c.bytes_in.new.store)
    (g.S.Store.calls c.bytes_after.new.store) c.bytes_in.ensures.asked
    c.bytes_after.ensures.asked)

pub returns-in_err-values-clause-asked : goal.returns-in_err-values-clause-asked
returns-in_err-values-clause-asked g c =
    asks_first (c.args.r1cs.now ∷ (c.args.publics.now ∷ [])) (c.args.proof.now ∷ [])
    (g.S.Store.calls c.args.store.now) (g.S.Store.calls c.bytes_after.new.store)
    (asks_both (c.args.r1cs.now ∷ []) (c.args.publics.now ∷ [])
    (g.S.Store.calls c.args.store.now) (g.S.Store.calls c.bytes_in.new.store)
    (g.S.Store.calls c.bytes_after.new.store) c.bytes_in.ensures.asked
    c.bytes_after.ensures.asked)

pub returns-in_err-offered-clause-asked : goal.returns-in_err-offered-clause-asked
returns-in_err-offered-clause-asked g c =
    asks_both (c.args.r1cs.now ∷ (c.args.publics.now ∷ [])) (c.args.proof.now ∷ [])
    (g.S.Store.calls c.args.store.now) (g.S.Store.calls c.bytes_after.new.store)
    (g.S.Store.calls c.bytes_after-2.new.store)
    (asks_both (c.args.r1cs.now ∷ []) (c.args.publics.now ∷ [])
    (g.S.Store.calls c.args.store.now) (g.S.Store.calls c.bytes_in.new.store)
    (g.S.Store.calls c.bytes_after.new.store) c.bytes_in.ensures.asked
    c.bytes_after.ensures.asked) c.bytes_after-2.ensures.asked

pub returns-clause-asked : goal.returns-clause-asked
returns-clause-asked g c =
    asks_both (c.args.r1cs.now ∷ (c.args.publics.now ∷ [])) (c.args.proof.now ∷ [])
    (g.S.Store.calls c.args.store.now) (g.S.Store.calls c.bytes_after.new.store)
    (g.S.Store.calls c.bytes_after-2.new.store)
    (asks_both (c.args.r1cs.now ∷ []) (c.args.publics.now ∷ [])
    (g.S.Store.calls c.args.store.now) (g.S.Store.calls c.bytes_in.new.store)
    (g.S.Store.calls c.bytes_after.new.store) c.bytes_in.ensures.asked
    c.bytes_after.ensures.asked) c.bytes_after-2.ensures.asked
