use Rattle.std.proofs.Common.{◌≤◌, ◌^◌, [], length, map, ap, ◌∙◌}
use Rattle.std.proofs.lemmas.List.Elements.{All-from_get_or}
use Rattle.lig_proof.proofs.TestValues.{encoded_has_degrees}
use Rattle.lig_prover.specs.Matrix.{encoded_by}
use Rattle.lig_prover.specs.Transform.{values_at}
use Rattle.lig_prover.proofs.Encodings.{vectors_fit}
use Rattle.lig_prover.proofs.Made.{all_fit}
use Rattle.lig_prover.proofs.proving.encode.Goals as goal

pub polynomials-requires-clause-fit : goal.polynomials-requires-clause-fit
polynomials-requires-clause-fit g c κs within =
    vectors_fit c.args.params.now c.args.file.now c.args.vectors.now c.requires.file
    c.requires.vectors

pub evaluated-requires-clause-fits : goal.evaluated-requires-clause-fits
evaluated-requires-clause-fits g c κs within =
    let p = c.args.params.now in
    let polys = c.in_ok-polynomials.polynomials.items in
    let degrees = encoded_has_degrees p c.args.vectors.now c.args.seed.now
    (encoded_by p polys) c.requires.params c.in_ok-polynomials.ensures.encoded in
    rw c.deref.ensures.value
    (All-from_get_or (λ coefs. length coefs ≤ 2 ^ p.depth) polys []
    (λ k l. all_fit p polys c.requires.params c.in_ok-polynomials.ensures.count degrees k l))

pub returns-clause-codewords : goal.returns-clause-codewords
returns-clause-codewords g c =
    let p = c.args.params.now in
    let polys = c.in_ok-polynomials.polynomials.items in
    record {
      count = c.in_ok-polynomials.ensures.count;
      degrees = encoded_has_degrees p c.args.vectors.now c.args.seed.now
          (encoded_by p polys) c.requires.params c.in_ok-polynomials.ensures.encoded;
      each = c.in_ok-codewords.ensures ∙ ap (map (values_at p.depth)) c.deref.ensures.value;
    }
