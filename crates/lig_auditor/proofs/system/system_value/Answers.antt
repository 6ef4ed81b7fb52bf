use Rattle.std.proofs.Common.{◌<◌, ◌≡◌, ℕ, List, length, refl, sym, ap, subst, ◌∙◌, arith}
use Rattle.lig_auditor.specs.Opened.{Weighs, point_of}
use Rattle.lig_auditor.proofs.Adding.{read}
use Rattle.lig_auditor.proofs.system.system_value.Goals as goal

pub combined_rows-requires-clause-count : goal.combined_rows-requires-clause-count
combined_rows-requires-clause-count c =
    ap length c.deref.ensures.value ∙ c.in_ok-weights.ensures.count

pub combined_rows-requires-clause-weighs : goal.combined_rows-requires-clause-weighs
combined_rows-requires-clause-weighs c =
    let o = c.args.opening.now in
    let p = o.params.now in
    let points = c.args.points.now in
    let q = c.args.q in
    let columns = c.requires.opening.indices in
    let count = c.requires.points.count in
    let within : q < length points = omega (arith, columns, count, c.requires.column) in
    let inside : q < length o.indices.now = omega (arith, columns, c.requires.column) in
    let point : c.index-points-q.result ≡ point_of o q =
    read points points q c.index-points-q.result refl within c.index-points-q.is
    ∙ c.requires.points.each q inside in
    let By : List ℕ → Type 0 = λ weights. Weighs p weights (point_of o q) in
    let At : ℕ → Type 0 = λ x. Weighs p c.in_ok-weights.weights.items x in
    subst By (sym c.deref.ensures.value) (subst At point c.in_ok-weights.ensures.weighs)
