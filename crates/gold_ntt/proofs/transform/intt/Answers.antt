use Rattle.std.proofs.Common.{◌≡◌, ℕ, ◌*◌, ◌%◌, ◌^◌, ◌∙◌, sym, subst, arith, length}
use Rattle.gold_field.specs.declared.gold.TheConstants.{P}
use Rattle.gold_ntt.specs.Transform.{IsTransform, root_of}
use Rattle.gold_ntt.proofs.Transforms.{same_log, root_halves, inverse_halves, inverse_undone}
use Rattle.gold_ntt.proofs.Transforms.{inverse_undoes, unit_of, scale_of}
use Rattle.gold_ntt.proofs.transform.intt.Goals as goal

pub transform_at-requires-clause-root : goal.transform_at-requires-clause-root
transform_at-requires-clause-root c =
    let unit : (root_of c.log_of-log.result * c.pow.result) % P ≡ 1 =
    unit_of (length c.args.a.now) c.log_of-log.result c.root.result c.pow.result
    c.log_of-log.ensures.power (omega arith)
    c.root.ensures.value c.pow.ensures in
    inverse_halves (root_of c.log_of-log.result) c.pow.result c.log_of-log.result unit
    (root_halves c.log_of-log.result (omega arith))

pub returns-clause-undone : goal.returns-clause-undone
returns-clause-undone c = λ e size.
    let log : ℕ = c.log_of-log.result in
    let same : log ≡ e = same_log log e (sym c.log_of-log.ensures.power ∙ size) in
    let unit : (root_of log * c.pow.result) % P ≡ 1 =
    unit_of (length c.args.a.now) log c.root.result c.pow.result c.log_of-log.ensures.power
    (omega arith) c.root.ensures.value
    c.pow.ensures in
    let scale : (c.pow-2.result * 2 ^ log) % P ≡ 1 =
    scale_of c.from_wide-half.result c.pow-2.result log c.from_wide-half.ensures c.pow-2.ensures in
    let T : ℕ → Type 0 = λ y. IsTransform y c.scale.new.a c.args.a.now in
    subst T same
    (inverse_undone c.args.a.now c.transform_at.new.a c.scale.new.a log c.pow.result c.pow-2.result
    (omega arith)
    c.log_of-log.ensures.power (omega arith) unit scale c.transform_at.ensures.values
    c.transform_at.ensures.below
    (λ k low. c.scale.ensures k (omega arith)))

pub returns-clause-undoes : goal.returns-clause-undoes
returns-clause-undoes c = λ e size b transform.
    let log : ℕ = c.log_of-log.result in
    let same : log ≡ e = same_log log e (sym c.log_of-log.ensures.power ∙ size) in
    let unit : (root_of log * c.pow.result) % P ≡ 1 =
    unit_of (length c.args.a.now) log c.root.result c.pow.result c.log_of-log.ensures.power
    (omega arith) c.root.ensures.value
    c.pow.ensures in
    let scale : (c.pow-2.result * 2 ^ log) % P ≡ 1 =
    scale_of c.from_wide-half.result c.pow-2.result log c.from_wide-half.ensures c.pow-2.ensures in
    let T : ℕ → Type 0 = λ y. IsTransform y b c.args.a.now in
    inverse_undoes c.args.a.now c.transform_at.new.a c.scale.new.a log c.pow.result c.pow-2.result
    (omega arith)
    c.log_of-log.ensures.power unit scale c.transform_at.ensures.values
    (λ k low. c.scale.ensures k (omega arith)) b
    (subst T (sym same) transform)
