use Rattle.std.proofs.Common.{◌≡◌, ◌*◌, ◌%◌, length, refl, ap, ◌∙◌, arith}
use Rattle.gold_field.specs.declared.gold.TheConstants.{P}
use Rattle.lig_prover.proofs.Coset.{interpolated, length-values_at}
use Rattle.lig_prover.proofs.transform.interpolate.Goals as goal

pub returns : goal.returns
returns c = λ e coefs fits is.
    let size = ap length is ∙ length-values_at e coefs in
    let unit : (7 * 2635249152773512046) % P ≡ 1 = refl in
    interpolated e c.from_wide.result coefs c.args.values.now c.intt.new.a
    c.scale_by_powers.new.a fits is
    (ap (λ y. 7 * y % P) c.from_wide.ensures ∙ unit)
    (c.scale_by_powers.auto.a ∙ c.intt.auto.a)
    (c.intt.ensures.undoes e size)
    (λ k l. c.scale_by_powers.ensures k (omega (arith, c.intt.auto.a)))
