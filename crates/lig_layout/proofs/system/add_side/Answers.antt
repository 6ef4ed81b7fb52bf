use Rattle.std.proofs.Common.{◌+◌, ◌*◌, ◌∷◌, [], ℕ, drop, length, arith, sym, refl}
use Rattle.gold_field.specs.declared.form.Term.{Term}
use Rattle.lig_layout.specs.Sides.{forms}
use Rattle.lig_layout.specs.System.{coefficient, combined_at, differences}
use Rattle.lig_layout.proofs.Sums.{owes_less}
use Rattle.lig_layout.proofs.Forms.{side_split}
use Rattle.lig_layout.proofs.Wired.{wired_at, form_below}
use Rattle.lig_layout.proofs.system.add_side.Goals as goal

pub add_form-requires-clause-within : goal.add_form-requires-clause-within
add_form-requires-clause-within c =
    form_below (length c.args.row.now) (length c.loop-k.row) c.args.side
    c.index-constraints-k.result c.form_of.result.now (sym c.loop-k.invariant.count)
    c.form_of.ensures
    (wired_at (length c.args.row.now) c.args.constraints.now c.loop-k.k c.index-constraints-k.result
    c.requires.below c.loop-k-test.true c.index-constraints-k.is)

pub loop-k-preserved : goal.loop-k-preserved
loop-k-preserved c =
    let r = c.args.r.now in
    let ks = c.args.constraints.now in
    let side = c.args.side in
    let start = c.args.start in
    let k = c.loop-k.k in
    let n = c.index-r-k.result in
    let form = c.form_of.result.now in
    let unknown : Term = record { signal = start + k; coef = c.neg.result } in
    let rest : ℕ
    → ℕ = λ place. combined_at place (drop (k + 1) r)
    (differences (start + (k + 1)) (forms side (drop (k + 1) ks))) in
    let g : ℕ → ℕ = λ place. combined_at place r (differences start (forms side ks)) in
    let first =
    owes_less
    (λ place. combined_at place (drop k r) (differences (start + k) (forms side (drop k ks)))) g
    (λ place. n * coefficient place form)
    (λ place. n * coefficient place (unknown ∷ []) + rest place) c.args.row.now c.loop-k.row
    c.add_form.new.row c.loop-k.invariant c.add_form.ensures
    (λ place. side_split place start k n side r ks c.index-constraints-k.result form c.neg.result
    (omega (arith, c.requires.numbers)) c.loop-k-test.true c.index-r-k.is
    c.index-constraints-k.is c.form_of.ensures c.neg.ensures) in
    owes_less (λ place. n * coefficient place (unknown ∷ []) + rest place) g
    (λ place. n * coefficient place (unknown ∷ [])) rest c.args.row.now c.add_form.new.row
    c.add_term.new.row first c.add_term.ensures (λ place. refl)
