use Rattle.std.proofs.Common.{◌≡◌, ℕ, List, length, get_or, sym, ap, subst}
use Rattle.std.proofs.Common.{◌∙◌, arith}
use Rattle.std.proofs.lemmas.List.{with_items_is}
use Rattle.gold_ntt.specs.Transform.{IsTransform}
use Rattle.lig_proof.specs.Points.{width_log}
use Rattle.lig_proof.proofs.Interpolants.{width_is}
use Rattle.lig_auditor.specs.Opened.{Weighs}
use Rattle.lig_auditor.proofs.Weights.{weighed}
use Rattle.lig_auditor.proofs.system.weights.Goals as goal

pub intt-requires : goal.intt-requires
intt-requires c =
    let width = width_is c.args.params.now c.requires in
    let depth = width.depth in
    let columns = width.columns in
    record {
      log = width_log c.args.params.now;
      small = omega arith;
      power = ap length c.deref_mut.ensures.value ∙ c.in_ok-weights.ensures.count ∙ width.power;
    }

pub returns-clause-count : goal.returns-clause-count
returns-clause-count c =
    let lent = ap length c.deref_mut.ensures.value in
    let new = c.intt.new.a in
    let long : length new ≡ length c.in_ok-weights.weights.items = c.intt.auto.a ∙ lent in
    let ok = c.in_ok-weights.weights.ok.0 in
    ap length (with_items_is c.in_ok-weights.weights new (omega (arith, long, ok))) ∙ long
    ∙ c.in_ok-weights.ensures.count

pub returns-clause-weighs : goal.returns-clause-weighs
returns-clause-weighs c =
    let p = c.args.params.now in
    let e = width_log p in
    let width = width_is p c.requires in
    let old = c.deref_mut.result.now in
    let new = c.intt.new.a in
    let lent = c.deref_mut.ensures.value in
    let count = c.in_ok-weights.ensures.count in
    let long : length new ≡ length c.in_ok-weights.weights.items = c.intt.auto.a ∙ ap length lent in
    let back : IsTransform e new old =
    c.intt.ensures.undone e (ap length lent ∙ count ∙ width.power) in
    let ok = c.in_ok-weights.weights.ok.0 in
    let same = with_items_is c.in_ok-weights.weights new (omega (arith, long, ok)) in
    let Is : List ℕ → Type 0 = λ xs. Weighs p xs c.args.x in
    subst Is (sym same) (λ row polynomial fits.
    weighed p c.args.x row polynomial new old c.requires (long ∙ count) back
    (λ i low. ap (λ xs. get_or xs i 0) lent ∙ c.in_ok-weights.ensures.each i low) fits)
