use Rattle.std.proofs.Common.{◌≡◌, ℕ, ◌*◌, List, length, Result, Ok, refl, ap, subst, ◌∙◌}
use Rattle.binary_format.specs.Reading.{Gives, repeated}
use Rattle.lig_layout.specs.declared.params.Params.{Params}
use Rattle.lig_proof.specs.declared.shared_proof.Proof2.{Proof2}
use Rattle.lig_proof.specs.Reading.{refused, head_of, next_value, next_hash}
use Rattle.lig_proof.specs.SharedProof.{opened_for}
use Rattle.lig_proof.specs.SharedReading.{proof2_of, rest_of}
use Rattle.lig_proof.proofs.shared_read.proof2_in.Goals as goal

-- where the rest begins, and which columns it has
reached : (p : Params) (r1cs_bytes publics bytes root polys opened r0 r1 r2 : List ℕ)
    (e1 e2 e3 : ℕ) (x : Unit {0})
    → e1 ≡ length bytes → e2 ≡ length bytes → e3 ≡ length bytes
    → head_of 2 bytes ≡ Ok (x, r0) → next_hash e1 r0 ≡ Ok (root, r1)
    → repeated (next_value e2) (18 * p.l) r1 ≡ Ok (polys, r2)
    → opened ≡ opened_for p r1cs_bytes publics root polys
    → rest_of p e3 opened root polys r2 ≡ proof2_of p r1cs_bytes publics bytes
unfolding proof2_of
reached p r1cs_bytes publics bytes root polys opened r0 r1 r2 e1 e2 e3 x is1 is2 is3 head at_root
    at_polys are =
    let Root : ℕ → Type 0 = λ e. next_hash e r0 ≡ Ok (root, r1) in
    let Polys : ℕ → Type 0 = λ e. repeated (next_value e) (18 * p.l) r1 ≡ Ok (polys, r2) in
    let a = subst Root is1 at_root in
    let b = subst Polys is2 at_polys in
    (λ i. rest_of p (is3 i) (are i) root polys r2) ∙ rw (head, a, b) refl

pub returns : goal.returns
returns c =
    let p = c.args.params.now in
    let r1cs_bytes = c.args.relation.now.bytes.now in
    let publics = c.args.publics.now in
    let root = c.in_ok-root.root in
    let e1 = c.read_head.ensures.end ∙ c.new-fields.ensures.end in
    let e2 = c.next_hash.ensures.end ∙ e1 in
    let e3 = c.next_values.ensures.end ∙ e2 in
    let opened = c.deref-2.ensures.value ∙ c.in_ok-opened.ensures.value
    ∙ ap (opened_for p r1cs_bytes publics root) c.deref.ensures.value in
    let At : Result Proof2 ℕ → Type 0 = λ r. Gives refused (λ x. x) c.rest_in.result r in
    subst At
    (reached p r1cs_bytes publics c.args.bytes.now root c.in_ok-polys.polys.items
    c.deref-2.result.now c.read_head.new.fields.rest.now c.next_hash.new.fields.rest.now
    c.next_values.new.fields.rest.now c.read_head.new.fields.end c.next_hash.new.fields.end
    c.next_values.new.fields.end c.in_ok-read_head.field-0 e1 e2 e3
    (rw c.new-fields.ensures.bytes at c.in_ok-read_head.ensures.read)
    c.in_ok-root.ensures.read c.in_ok-polys.ensures.read opened)
    c.rest_in.ensures
