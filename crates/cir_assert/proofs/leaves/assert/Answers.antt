use Rattle.std.proofs.Common.{refl}
use Rattle.cir_ast.specs.Tree.{bare}
use Rattle.cir_evaluate.specs.Within.{at_spot}
use Rattle.cir_make.specs.Means.{emitting_in}
use Rattle.cir_make.specs.Shows.{equations_in}
use Rattle.cir_assert.proofs.Asserting.{assert_emits}
use Rattle.cir_assert.proofs.leaves.assert.Goals as goal

pub returns : goal.returns
returns g c = λ m d shows.
    let qs = equations_in d.state in
    assert_emits (emitting_in c.args.body.now m) (at_spot c.args.body.now.context.now c.args.spot)
    (bare c.args.condition.now) m.first c.args.inside.now c.asserted.new.inside c.args.whole.now
    c.asserted.new.whole d c.asserted.result shows
    ((rw c.here.ensures at c.asserted.ensures.leads) m.means qs refl)
    ((rw c.here.ensures at c.asserted.ensures.kept) m.means qs m.first d.state d.steps refl
    shows.state shows.kept)
