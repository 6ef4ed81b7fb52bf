use Rattle.std.proofs.Common.{ℕ, ◌*◌, ◌↔◌, List, IsTrue, length, refl, ap, ◌∙◌}
use Rattle.lig_layout.specs.System.{equation_count, left_sides}
use Rattle.lig_proof.specs.Encoding.{InterpolateRows}
use Rattle.lig_proof.specs.Proving.{AreSystems}
use Rattle.lig_auditor.specs.Opened.{RowsAgree}
use Rattle.lig_auditor.proofs.Concluding.{lifted}
use Rattle.lig_auditor.proofs.Systems.{length-combined, system_row}
use Rattle.lig_auditor.proofs.system.system_agrees.Goals as goal

pub combine-requires-clause-numbers : goal.combine-requires-clause-numbers
combine-requires-clause-numbers g c =
    c.r_numbers.ensures.count (equation_count c.args.file.now) c.requires.numbers

pub rows_agree-requires-clause-whole : goal.rows_agree-requires-clause-whole
rows_agree-requires-clause-whole g c κs within =
    let p = c.args.opening.now.params.now in
    ap length (c.deref.ensures.value ∙ c.in_ok-values.ensures)
    ∙ length-combined (p.rows * p.l) c.r_numbers.result.now (left_sides p c.args.file.now)

pub returns : goal.returns
returns g c =
    let o = c.args.opening.now in
    let p = o.params.now in
    let f = c.args.file.now in
    let t = c.args.t in
    let n = equation_count f in
    let whole = c.deref.result.now in
    lifted (λ holds. (rows : ℕ → List ℕ) → InterpolateRows p whole rows
    → IsTrue holds ↔ RowsAgree o rows t)
    (λ holds. (system : ℕ → ℕ → List ℕ) → AreSystems f o.challenges.now system
    → IsTrue holds ↔ RowsAgree o (system t) t)
    c.rows_agree.result
    (λ holds says system are. says (system t)
    (system_row p f o.challenges.now t n c.r_numbers.result.now whole system
    c.requires.params refl (c.r_numbers.ensures.value n c.requires.numbers)
    (c.deref.ensures.value ∙ c.in_ok-values.ensures) are c.requires.repetition))
    c.rows_agree.ensures
