use Rattle.std.proofs.Common.{◌∙◌, ◌+◌, ◌∷◌, [], drop, ap}
use Rattle.std.specs.Prelude.{map, unwrap_or}
use Rattle.cir_ast.specs.Tree.{bare}
use Rattle.cir_meaning.specs.Arrays.{Whole}
use Rattle.cir_meaning.specs.Costs.{Made}
use Rattle.cir_meaning.specs.Functions.{same_made, shape_in}
use Rattle.cir_rules.specs.Queue.{with_new}
use Rattle.cir_texts.specs.Shown.{called_of}
use Rattle.cir_rules.specs.Shown.{made_of}
use Rattle.cir_rules.specs.Shaped.{dims_in, shaped}
use Rattle.cir_rules.proofs.Reaching.{walked}
use Rattle.cir_rules.proofs.Shaping.{map_bare}
use Rattle.cir_rules.proofs.shapes.Shapes.add_calls.Goals as goal

pub loop-inner-preserved : goal.loop-inner-preserved
loop-inner-preserved c =
    let known = map made_of c.loop-inner.known.calls.items in
    let dims = dims_in c.args.self.now in
    let x = c.inner-item.result in
    let next : Made = record {
      function = x.function;
      shapes = map (λ e. unwrap_or (shape_in dims Whole (bare e)) []) x.arguments.now;
    } in
    walked same_made (λ cs. shaped dims (map called_of cs)) c.args.calls.now
    c.loop-inner.inner-index x (next ∷ []) known _ _ c.loop-inner-test.true c.inner-item.is
    (ap (λ shapes. record { function = x.function; shapes = shapes }
    ∷ shaped dims (map called_of (drop (c.loop-inner.inner-index + 1) c.args.calls.now)))
    (map_bare (λ e. unwrap_or (shape_in dims Whole e) []) x.arguments.now))
    (c.in_ok-add.ensures ∙ ap (λ shapes. with_new same_made known
    (record { function = x.function; shapes = shapes } ∷ [])) c.in_ok-shapes.ensures)
    c.loop-inner.invariant
