use Rattle.std.proofs.Common.{◌+◌, ◌*◌, ◌∷◌, [], drop}
use Rattle.lig_layout.specs.System.{coefficient}
use Rattle.lig_layout.proofs.Sums.{owes_less}
use Rattle.lig_layout.proofs.Forms.{term_split}
use Rattle.lig_layout.proofs.system.add_form.Goals as goal

pub loop-term-preserved : goal.loop-term-preserved
loop-term-preserved c =
    let form = c.args.form.now in
    let factor = c.args.factor in
    let i = c.loop-term.term-index in
    owes_less (λ place. factor * coefficient place (drop i form))
    (λ place. factor * coefficient place form)
    (λ place. factor * coefficient place (c.term-item.result ∷ []))
    (λ place. factor * coefficient place (drop (i + 1) form)) c.args.row.now c.loop-term.row
    c.add_term.new.row c.loop-term.invariant c.add_term.ensures
    (λ place. term_split factor place i form c.term-item.result c.loop-term-test.true
    c.term-item.is)
