use Rattle.std.proofs.Common.{◌∷◌, [], None, refl}
use Rattle.cir_ast.specs.Tree.{bare}
use Rattle.cir_meaning.specs.Simple as X
use Rattle.cir_meaning.specs.Steps.{equal_cost}
use Rattle.cir_evaluate.specs.Within.{at_spot}
use Rattle.cir_steps.specs.Step.{Comparing}
use Rattle.cir_steps.specs.Emission.{known_in, step_of, with_state}
use Rattle.cir_make.specs.Means.{emitting_in}
use Rattle.cir_make.specs.Shows.{equations_in}
use Rattle.cir_make.proofs.Leading.{kept_state, led_emits, on_ok}
use Rattle.cir_write.proofs.comparing.equal.Goals as goal

pub returns : goal.returns
returns g c = λ m d shows.
    let k = (emitting_in c.args.body.now m).context in
    let w = at_spot c.args.body.now.context.now c.args.spot in
    let a = bare c.args.left.now in
    let b = bare c.args.right.now in
    let j = c.compare.new.inside in
    let v = c.compare.new.whole in
    let qs = equations_in d.state in
    led_emits m.first c.args.inside.now j c.args.whole.now v d (X.equal k w a b) with_state
    (λ s x. step_of k w (known_in x) (equal_cost k w a b (known_in x)) (Comparing a b) [] None x
    ∷ []) shows c.compare.result
    ((rw c.here-here.ensures at c.compare.ensures.leads) m.means qs refl) (λ s. refl)
    (on_ok c.compare.result _ _
    (λ kept es. kept_state m.first j.frame j.cells v.made d.state _ _ kept)
    ((rw c.here-here.ensures at c.compare.ensures.kept) m.means qs m.first d.state d.steps refl
    shows.state shows.kept))
