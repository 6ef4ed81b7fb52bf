use Rattle.std.proofs.Common.{◌-◌, ℕ, length, take, sym, ap, subst, ◌∙◌, arith}
use Rattle.lig_proof.specs.ProofBytes.{AreValues}
use Rattle.lig_proof.proofs.Interpolants.{width_is}
use Rattle.lig_prover.proofs.Coset.{written_back}
use Rattle.lig_prover.proofs.Points.{half_points}
use Rattle.lig_prover.proofs.polynomials.coefficients_of.Goals as goal

pub interpolate-requires : goal.interpolate-requires
interpolate-requires c =
    let p = c.args.params.now in
    let depth = (width_is p c.requires.params).depth in
    record {
      log = p.depth - 1;
      small = omega arith;
      power = ap length c.deref_mut.ensures.value ∙ c.requires.each
          ∙ sym (half_points p c.requires.params);
    }

pub returns : goal.returns
returns c = λ coefs fits is.
    let p = c.args.params.now in
    let new = c.interpolate.new.values in
    let Fits : ℕ → Type 0 = λ n. AreValues n coefs in
    let made = c.interpolate.ensures (p.depth - 1) coefs
    (subst Fits (sym (half_points p c.requires.params)) fits)
    (c.deref_mut.ensures.value ∙ is) in
    c.truncate.ensures.items ∙ ap (take c.args.count)
    (written_back c.args.values.len new c.args.values.items c.args.values.ok.0
    (c.interpolate.auto.values ∙ ap length c.deref_mut.ensures.value) ∙ made)
