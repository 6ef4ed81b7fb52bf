use Rattle.std.proofs.Common.{◌≡◌, ◌-◌, ◌+◌, ◌*◌, ◌^◌, ◌%◌, ◌≤◌, ℕ, List, [], length, map, drop}
use Rattle.std.proofs.Common.{get_or, ap, subst, ◌∙◌, arith}
use Rattle.std.proofs.lemmas.List.{length-take-le, length-drop}
use Rattle.std.proofs.lemmas.List.Elements.{All-from_get_or}
use Rattle.std.proofs.lemmas.List.FromFn.{length-map-range_with_len}
use Rattle.lig_layout.specs.System.{combined, combined_at, left_sides, equation_count}
use Rattle.gold_field.specs.declared.gold.TheConstants.{P}
use Rattle.lig_proof.specs.Encoding.{InterpolateRows}
use Rattle.lig_proof.specs.ProofBytes.{AreValues}
use Rattle.lig_proof.specs.Sent.{linear_test}
use Rattle.lig_proof.proofs.Interpolants.{made_values}
use Rattle.lig_prover.specs.Matrix.{encoded_by, linear_value}
use Rattle.lig_prover.specs.Transform.{values_at}
use Rattle.lig_prover.proofs.Points.{half_points, linear_are, widened, widened_front}
use Rattle.lig_prover.proofs.Points.{widened_values, within_both}
use Rattle.lig_prover.proofs.polynomials.linear_test.Goals as goal

pub combine-requires-clause-numbers : goal.combine-requires-clause-numbers
combine-requires-clause-numbers g c =
    let n = equation_count c.args.file.now in
    let t = c.args.t in
    let r = c.args.challenges.now.r in
    let both = within_both t n c.requires.repetition in
    let whole = c.requires.numbers in
    ap length (c.r_numbers.ensures.value n whole)
    ∙ length-take-le n (drop (t * n) r) (omega (arith, length-drop (t * n) r, both, whole))

pub row_polynomials-requires-clause-whole : goal.row_polynomials-requires-clause-whole
row_polynomials-requires-clause-whole g c κs within =
    let p = c.args.params.now in
    ap length (c.deref.ensures.value ∙ c.in_ok-system.ensures)
    ∙ length-map-range_with_len (λ place. combined_at place c.r_numbers.result.now
    (left_sides p c.args.file.now) % P) 0 (p.rows * p.l)

pub evaluated-requires-clause-fits : goal.evaluated-requires-clause-fits
evaluated-requires-clause-fits g c κs within =
    let p = c.args.params.now in
    let rows = c.in_ok-rows.rows.items in
    let count = c.in_ok-rows.ensures.count in
    let half = half_points p c.requires.params in
    rw c.deref-2.ensures.value
    (All-from_get_or (λ coefs. length coefs ≤ 2 ^ (p.depth - 1)) rows []
    (λ k l. let degree = (c.in_ok-rows.ensures.rows k (omega (arith, count, l))).degree.count in
    omega (arith, degree, half)))

pub coefficients_of-requires-clause-each : goal.coefficients_of-requires-clause-each
coefficients_of-requires-clause-each g c =
    let p = c.args.params.now in
    ap length c.in_ok-values.ensures
    ∙ length-map-range_with_len (λ j.
    linear_value p c.args.codewords.now c.deref-3.result.now c.args.t
    (2 * j) j) 0 (4 * p.l)

pub returns : goal.returns
returns g c = λ polynomials are.
    let p = c.args.params.now in
    let f = c.args.file.now in
    let rows = c.in_ok-rows.rows.items in
    let system = λ (k : ℕ). get_or rows k [] in
    let n = equation_count f in
    let made = c.deref.ensures.value ∙ c.in_ok-system.ensures
    ∙ ap (λ r. combined (p.rows * p.l) r (left_sides p f))
    (c.r_numbers.ensures.value n c.requires.numbers) in
    let Rows : List ℕ → Type 0 = λ values. InterpolateRows p values system in
    let interpolate = subst Rows made c.in_ok-rows.ensures.rows in
    let test = linear_test p (encoded_by p polynomials) system c.args.t in
    let fits = made_values (3 * p.l) _ in
    let four : 3 * p.l + p.l ≡ 4 * p.l = omega arith in
    let Fits : ℕ → Type 0 = λ n. AreValues n (widened p test) in (
      system,
      interpolate,
      c.coefficients_of.ensures (widened p test)
          (subst Fits four (widened_values p (3 * p.l) test fits))
          (linear_are p polynomials c.args.codewords.now c.args.t c.requires.params are
          c.requires.repetition
          rows c.deref-3.result.now c.in_ok-values.values.items c.in_ok-rows.ensures.count
          (λ k l. (c.in_ok-rows.ensures.rows k l).degree)
          (c.deref-3.ensures.value ∙ c.in_ok-factors.ensures
          ∙ ap (λ rs. map (values_at (p.depth - 1)) rs) c.deref-2.ensures.value)
          c.in_ok-values.ensures)
          ∙ widened_front p (3 * p.l) test fits.count,
    )
