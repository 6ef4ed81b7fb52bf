use Rattle.std.proofs.Common.{◌≡◌, List, ℕ, ap, ◌∙◌}
use Rattle.lig_layout.specs.declared.params.Params.{Params}
use Rattle.lig_proof.specs.SharedProof.{opened_once, opened_for}
use Rattle.lig_proof.specs.Transcript.{first_key, queries}
use Rattle.lig_proof.proofs.shared_read.opened_for.Goals as goal

due : (p : Params) (r1cs_bytes publics root polys first drawn once : List ℕ)
    → first ≡ first_key r1cs_bytes publics root
    → drawn ≡ queries p first polys → once ≡ opened_once p drawn
    → once ≡ opened_for p r1cs_bytes publics root polys
due p r1cs_bytes publics root polys first drawn once a b e =
    e ∙ ap (opened_once p) (b ∙ ap (λ key. queries p key polys) a)

pub returns-clause-value : goal.returns-clause-value
returns-clause-value c =
    due c.args.params.now c.args.relation.now.bytes.now c.args.publics.now c.args.root.now
    c.args.polys.now
    c.first_key-first.result c.in_ok-drawn.drawn.items c.in_ok-opened.opened.items
    c.first_key-first.ensures
    c.in_ok-drawn.ensures.columns (c.in_ok-opened.ensures.once
    ∙ ap (opened_once c.args.params.now) c.deref.ensures.value)
