use Rattle.std.proofs.Common.{◌≡◌, ◌∙◌, arith, length, ap}
use Rattle.std.specs.Prelude.{map}
use Rattle.std.proofs.lemmas.List.{length-map}
use Rattle.cir_ast.specs.Tree.{bare_exprs}
use Rattle.cir_meaning.specs.Costs.{Made}
use Rattle.cir_rules.specs.Shown.{made_of}
use Rattle.wit_lower.specs.Values as V
use Rattle.wit_emit.specs.Grounds.{ground_of}
use Rattle.wit_sourced.specs.Shown.{homes_of}
use Rattle.cir_has.proofs.Called.{key_has}
use Rattle.cir_has.proofs.values.has_key.Goals as goal

pub returns-then-place_of-len : goal.returns-then-place_of-len
returns-then-place_of-len c =
    let calls = c.args.ground.now.keys.now.calls.items in
    let keys = map made_of calls in
    let shapes = V.shapes_of (ground_of c.args.ground.now)
    (homes_of c.args.scope.now.homes.items) (bare_exprs c.args.arguments.now) in
    let f = c.in-Function.function in
    let key : Made = record { function = f; shapes = shapes } in
    let place : c.place_of.result ≡ V.number_of keys key =
    c.place_of.ensures
    ∙ ap (λ s. V.number_of keys record { function = f; shapes = s }) c.in_ok-shapes.ensures in
    key_has keys c.args.meant f shapes c.in-Function.is
    (omega (arith, place, c.if-place_of-len.true, c.len.ensures, length-map calls made_of))
