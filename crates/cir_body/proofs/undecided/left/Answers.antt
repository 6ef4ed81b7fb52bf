use Rattle.std.proofs.Common.{◌∷◌, [], refl}
use Rattle.cir_meaning.specs.Scan.{undecided}
use Rattle.cir_evaluate.specs.Within.{at_spot}
use Rattle.cir_execute.specs.Rests.{rest_by, rest_fault}
use Rattle.cir_make.specs.Means.{emitting_in}
use Rattle.cir_make.specs.Shows.{equations_in}
use Rattle.cir_make.proofs.Leading.{led_emits}
use Rattle.cir_body.specs.Undone.{left_behind, left_step}
use Rattle.cir_body.proofs.undecided.left.Goals as goal

pub returns : goal.returns
returns g c = λ m d shows.
    let k = (emitting_in c.args.body.now m).context in
    let spot = c.args.spot in
    let w = at_spot c.args.body.now.context.now spot in
    let fault = rest_fault c.args.rest.now in
    let a = rest_by spot c.args.rest.now in
    let qs = equations_in d.state in
    led_emits m.first c.args.inside.now c.leave.new.inside c.args.whole.now c.leave.new.whole d
    (undecided k spot fault a) (left_behind a) (λ s x. left_step k w a s x ∷ []) shows
    c.leave.result ((rw c.here-here.ensures at c.leave.ensures.leads) m.means qs) (λ s. refl)
    ((rw c.here-here.ensures at c.leave.ensures.kept) m.means qs m.first d.state d.steps refl
    shows.state shows.kept)
