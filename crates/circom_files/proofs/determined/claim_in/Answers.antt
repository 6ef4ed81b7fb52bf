use Rattle.std.proofs.Common.{◌≡◌, ◌∷◌, [], ℕ, None, Err, Vec}
use Rattle.std.specs.declared.alloc.Global.{Global}
use Rattle.std.proofs.lemmas.Result.{err_from_is_err_and}
use Rattle.out_io.specs.Faults.{Rose}
use Rattle.out_io.proofs.Rising.{rose_on}
use Rattle.circom_files.specs.Files.{bytes_in}
use Rattle.cir_determined.specs.declared.rule.Rule.{Rule}
use Rattle.circom_files.specs.Determining.{claim_of}
use Rattle.circom_files.specs.Steps.{HeldWith}
use Rattle.circom_files.specs.declared.outcome.Claim.{Claim}
use Rattle.circom_files.proofs.Reading.{bad_first, bad_second, both_read, claim_is, claim_with}
use Rattle.circom_files.proofs.Reading.{one_read, rules_at, steps_later, unread_first}
use Rattle.circom_files.proofs.Reading.{unread_second}
use Rattle.circom_files.proofs.Asking.{asks_both, asks_first}
use Rattle.circom_files.proofs.determined.claim_in.Goals as goal

pub returns-in_err-bytes-clause-step : goal.returns-in_err-bytes-clause-step
returns-in_err-bytes-clause-step g c =
    let p = err_from_is_err_and c.from_residual.result c.from_residual.ensures.1 in
    rw (p.1, p.2)
    (unread_first (rules_at c.args.certificate.now) claim_with
    (λ files. claim_of files c.args.r1cs.now c.args.certificate.now)
    (g.S.Store.may_hold c.bytes_in.new.store) c.args.r1cs.now c.args.certificate.now
    (claim_is c.args.r1cs.now c.args.certificate.now) _
    c.in_err-bytes.field-0.0 c.in_err-bytes.ensures.step)

pub returns-in_err-file-clause-step : goal.returns-in_err-file-clause-step
returns-in_err-file-clause-step g c =
    let p = err_from_is_err_and c.from_residual-in_err-file.result
    c.from_residual-in_err-file.ensures.1 in
    rw (p.1, p.2)
    (bad_first (rules_at c.args.certificate.now) claim_with
    (λ files. claim_of files c.args.r1cs.now c.args.certificate.now)
    (g.S.Store.may_hold c.bytes_in.new.store) c.args.r1cs.now c.args.certificate.now
    (claim_is c.args.r1cs.now c.args.certificate.now) _
    c.in_ok-bytes.bytes.items c.in_ok-bytes.ensures.step c.as_slice.result.now
    c.as_slice.ensures.value c.in_err-file.field-0.0 c.in_err-file.ensures.step)

pub returns-in_err-text-clause-step : goal.returns-in_err-text-clause-step
returns-in_err-text-clause-step g c =
    let p = err_from_is_err_and c.from_residual-in_err-text.result
    c.from_residual-in_err-text.ensures.1 in
    let held = g.S.Store.may_hold c.bytes_after.new.store in
    rw (p.1, p.2)
    (unread_second (rules_at c.args.certificate.now) claim_with
    (λ files. claim_of files c.args.r1cs.now c.args.certificate.now) held c.args.r1cs.now
    c.args.certificate.now (claim_is c.args.r1cs.now c.args.certificate.now)
    (Rose (g.S.Store.faults c.args.store.now) (g.S.Store.faults c.bytes_after.new.store))
    c.in_ok-bytes.bytes.items
    (λ files may. c.in_ok-bytes.ensures.step files (c.bytes_after.ensures.store.still files may))
    c.as_slice.result.now c.as_slice.ensures.value c.in_ok-file.file c.in_ok-file.ensures.step
    c.in_err-text.field-0.0
    (steps_later (λ (v : Vec ℕ Global). v.items)
    (HeldWith held record { name = c.args.r1cs; bytes = c.as_slice-2.result } None) held
    (λ files. bytes_in files c.args.certificate.now)
    (Rose (g.S.Store.faults c.bytes_in.new.store) (g.S.Store.faults c.bytes_after.new.store))
    (Rose (g.S.Store.faults c.args.store.now) (g.S.Store.faults c.bytes_after.new.store))
    (Err c.in_err-text.field-0.0)
    (one_read held record { name = c.args.r1cs; bytes = c.as_slice-2.result }
    c.in_ok-bytes.bytes.items c.as_slice-2.ensures.value
    (λ files may. c.in_ok-bytes.ensures.step files (c.bytes_after.ensures.store.still files may)))
    (λ rose. rose_on _ _ _ c.bytes_in.ensures.store.later rose) c.in_err-text.ensures.step))

pub returns-in_err-rules-clause-step : goal.returns-in_err-rules-clause-step
returns-in_err-rules-clause-step g c =
    let p = err_from_is_err_and c.from_residual-in_err-rules.result
    c.from_residual-in_err-rules.ensures.1 in
    let held = g.S.Store.may_hold c.bytes_after.new.store in
    rw (p.1, p.2)
    (bad_second (rules_at c.args.certificate.now) claim_with
    (λ files. claim_of files c.args.r1cs.now c.args.certificate.now) held c.args.r1cs.now
    c.args.certificate.now (claim_is c.args.r1cs.now c.args.certificate.now)
    (Rose (g.S.Store.faults c.args.store.now) (g.S.Store.faults c.bytes_after.new.store))
    c.in_ok-bytes.bytes.items
    (λ files may. c.in_ok-bytes.ensures.step files (c.bytes_after.ensures.store.still files may))
    c.as_slice.result.now c.as_slice.ensures.value c.in_ok-file.file c.in_ok-file.ensures.step
    c.in_ok-text.text.items
    (λ files may. c.in_ok-text.ensures.step files
    (one_read held record { name = c.args.r1cs; bytes = c.as_slice-2.result }
    c.in_ok-bytes.bytes.items c.as_slice-2.ensures.value
    (λ f m. c.in_ok-bytes.ensures.step f (c.bytes_after.ensures.store.still f m)) files may))
    c.as_slice-3.result.now c.as_slice-3.ensures.value (λ (v : Vec Rule Global). v.items)
    c.in_err-rules.field-0.0 c.in_err-rules.ensures.step)

pub returns-clause-step : goal.returns-clause-step
returns-clause-step g c =
    let here : Claim =
    record { file = c.in_ok-file.file; rules = c.of.result } in
    let there : Claim =
    record { file = c.in_ok-file.file; rules = c.in_ok-rules.rules.items } in
    let made : here ≡ there =
    λ i. record { file = c.in_ok-file.file; rules = c.of.ensures i } in
    let held = g.S.Store.may_hold c.bytes_after.new.store in
    both_read (rules_at c.args.certificate.now) claim_with
    (λ files. claim_of files c.args.r1cs.now c.args.certificate.now) held c.args.r1cs.now
    c.args.certificate.now (claim_is c.args.r1cs.now c.args.certificate.now)
    (Rose (g.S.Store.faults c.args.store.now) (g.S.Store.faults c.bytes_after.new.store))
    c.in_ok-bytes.bytes.items
    (λ files may. c.in_ok-bytes.ensures.step files (c.bytes_after.ensures.store.still files may))
    c.as_slice.result.now c.as_slice.ensures.value c.in_ok-file.file c.in_ok-file.ensures.step
    c.in_ok-text.text.items
    (λ files may. c.in_ok-text.ensures.step files
    (one_read held record { name = c.args.r1cs; bytes = c.as_slice-2.result }
    c.in_ok-bytes.bytes.items c.as_slice-2.ensures.value
    (λ f m. c.in_ok-bytes.ensures.step f (c.bytes_after.ensures.store.still f m)) files may))
    c.as_slice-3.result.now c.as_slice-3.ensures.value c.in_ok-rules.rules.items here
    c.in_ok-rules.ensures.step made

pub returns-in_err-bytes-clause-asked : goal.returns-in_err-bytes-clause-asked
returns-in_err-bytes-clause-asked g c =
    asks_first (c.args.r1cs.now ∷ []) (c.args.certificate.now ∷ [])
    (g.S.Store.calls c.args.store.now) (g.S.Store.calls c.bytes_in.new.store)
    c.bytes_in.ensures.asked

pub returns-in_err-file-clause-asked : goal.returns-in_err-file-clause-asked
returns-in_err-file-clause-asked g c =
    asks_first (c.args.r1cs.now ∷ []) (c.args.certificate.now ∷ [])
    (g.S.Store.calls c.args.store.now) (g.S.Store.calls c.bytes_in.new.store)
    c.bytes_in.ensures.asked

pub returns-in_err-text-clause-asked : goal.returns-in_err-text-clause-asked
returns-in_err-text-clause-asked g c =
    asks_both (c.args.r1cs.now ∷ []) (c.args.certificate.now ∷ [])
    (g.S.Store.calls c.args.store.now) (g.S.Store.calls c.bytes_in.new.store)
    (g.S.Store.calls c.bytes_after.new.store) c.bytes_in.ensures.asked
    c.bytes_after.ensures.asked

pub returns-in_err-rules-clause-asked : goal.returns-in_err-rules-clause-asked
returns-in_err-rules-clause-asked g c =
    asks_both (c.args.r1cs.now ∷ []) (c.args.certificate.now ∷ [])
    (g.S.Store.calls c.args.store.now) (g.S.Store.calls c.bytes_in.new.store)
    (g.S.Store.calls c.bytes_after.new.store) c.bytes_in.ensures.asked
    c.bytes_after.ensures.asked

pub returns-clause-asked : goal.returns-clause-asked
returns-clause-asked g c =
    asks_both (c.args.r1cs.now ∷ []) (c.args.certificate.now ∷ [])
    (g.S.Store.calls c.args.store.now) (g.S.Store.calls c.bytes_in.new.store)
    (g.S.Store.calls c.bytes_after.new.store) c.bytes_in.ensures.asked
    c.bytes_after.ensures.asked
