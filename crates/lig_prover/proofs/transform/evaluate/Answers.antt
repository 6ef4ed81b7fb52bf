use Rattle.std.proofs.Common.{◌≡◌, ◌*◌, ◌%◌, ◌^◌, length, get_or, ap, ◌∙◌, arith}
use Rattle.std.proofs.lemmas.List.{get_or_past}
use Rattle.std.proofs.lemmas.Nat.{one_shl}
use Rattle.lig_prover.proofs.Coset.{evaluated, written_back}
use Rattle.lig_prover.proofs.transform.evaluate.Goals as goal

pub transform-requires-clause-whole : goal.transform-requires-clause-whole
transform-requires-clause-whole c =
    let small = c.args.coset.now.small in
    ap length c.deref_mut.ensures.value ∙ c.in_ok-values.ensures.places
    ∙ one_shl c.args.coset.now.log 64 (omega arith)

pub transform-requires-clause-zeros : goal.transform-requires-clause-zeros
transform-requires-clause-zeros c = λ i from low.
    ap (λ xs. get_or xs i 0) c.deref_mut.ensures.value
    ∙ c.in_ok-values.ensures.same.coefficient i ∙ get_or_past c.args.coefs.now i 0 from

pub returns : goal.returns
returns c =
    let e = c.args.coset.now.log in
    let small = c.args.coset.now.small in
    let all = c.in_ok-values.values.items in
    let after = c.transform.new.a in
    let lent = c.deref_mut.ensures.value in
    let shifted : (1 * 2 ^ e) % 2 ^ 64 ≡ 2 ^ e = one_shl e 64 (omega arith) in
    let size : length all ≡ 2 ^ e = c.in_ok-values.ensures.places ∙ shifted in
    let transform = rw lent at c.transform.ensures in
    written_back c.in_ok-values.values.len after all c.in_ok-values.values.ok.0
    (transform.same_length)
    ∙ evaluated e c.args.coefs.now all after size c.in_ok-values.ensures.same transform
