use Rattle.std.proofs.Common.{refl}
use Rattle.cir_evaluate.specs.Within.{context_at, where_at}
use Rattle.cir_make.specs.Steps.{work_of}
use Rattle.cir_make.proofs.Growing.{kept_step}
use Rattle.cir_make.proofs.Placing.{here, known_at, stands_in}
use Rattle.cir_make.proofs.make.make_step.Goals as goal

pub returns-clause-made : goal.returns-clause-made
returns-clause-made g c = λ m qs f first x steps s cost line shaded line_is same behind kept.
    let k = context_at c.args.here.now m in
    let w = where_at c.args.here.now in
    let doing = c.args.step.doing in
    let frame = c.args.frame.now in
    let cells = c.args.cells.now in
    let made = c.args.made.now in
    let world = c.args.world.now in
    let befores = c.args.step.befores.now in
    let work = work_of c.args.here.now.spot doing in
    let targets = c.args.step.targets in
    let step = here first f frame cells made x steps befores world qs s k w cost work targets line
    same in
    kept_step first f cells c.push.new.self made
    record { next = made.next; keys = c.code_for.new.keys } x steps step _ refl
    c.in_ok-code.ensures.grows c.in_ok-push.ensures.items record {
      is = record { place = c.place_at-place.ensures; line = line_is };
      code = c.in_ok-code.ensures.code m qs step
          (known_at first f frame cells made x steps befores world qs s k w cost work targets line
          same)
          (stands_in first f frame cells made x steps befores world qs s k w cost work targets line
          same behind kept) refl refl;
    } kept
