use Rattle.std.proofs.Common.{◌≡◌, ℕ, ◌<◌, Ok, length, get_or, ap, ◌∙◌, arith}
use Rattle.lig_proof.proofs.Collected.{at_first, placed_length}
use Rattle.lig_auditor.proofs.Matching.{at_columns, at_points}
use Rattle.lig_auditor.proofs.agreement.agrees.Goals as goal

pub has_values-requires : goal.has_values-requires
has_values-requires g c =
    let Post = λ (q : ℕ) (x : ℕ). g.F.Fn.post c.args.value (q, tt) (Ok x) in
    let many =
    placed_length Post 0 (length c.args.opening.now.columns.now) c.in_ok-values.values.items
    c.in_ok-values.ensures in
    omega (
      arith,
      ap length c.deref.ensures.value,
      many,
      c.requires.indices,
      c.requires.points.count,
    )

pub returns : goal.returns
returns g c = λ f is.
    let o = c.args.opening.now in
    let Post = λ (q : ℕ) (x : ℕ). g.F.Fn.post c.args.value (q, tt) (Ok x) in
    let values = c.in_ok-values.values.items in
    let value : (q : ℕ) → q < length o.columns.now → get_or c.deref.result.now q 0 ≡ f q =
    λ q low. ap (λ xs. get_or xs q 0) c.deref.ensures.value
    ∙ is q (get_or values q 0) low
    (at_first Post (length c.args.opening.now.columns.now) values 0 c.in_ok-values.ensures q low) in
    let points = c.args.points.now in
    let polynomial = c.args.polynomial.now in (
      λ e. at_columns o.params.now o.indices.now points c.deref.result.now polynomial
          (length o.columns.now) f c.requires.points c.requires.indices value
          (c.has_values.ensures.0 e),
      λ all. c.has_values.ensures.1
          (at_points o.params.now o.indices.now points c.deref.result.now polynomial
          (length o.columns.now) f c.requires.points c.requires.indices value all),
    )
