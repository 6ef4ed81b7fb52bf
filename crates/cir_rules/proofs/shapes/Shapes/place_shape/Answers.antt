use Rattle.std.proofs.Common.{◌∙◌, ap, sym}
use Rattle.cir_meaning.specs.Functions as F
use Rattle.cir_rules.specs.Ranked.{list_in}
use Rattle.cir_rules.specs.Shaped.{dims_in, dropped}
use Rattle.cir_rules.proofs.Shaping.{gives, place_shape_is}
use Rattle.cir_rules.proofs.shapes.Shapes.place_shape.Goals as goal

pub returns-in_ok-variable_dims-in-Variable : goal.returns-in_ok-variable_dims-in-Variable
returns-in_ok-variable_dims-in-Variable c =
    let dims = dims_in c.args.self.now in
    gives c.left_of.result list_in _ _ c.left_of.ensures
    (ap (dropped c.args.count)
    (c.as_slice.ensures.value ∙ c.in_ok-variable_dims-in-Variable.ensures)
    ∙ sym (place_shape_is dims c.in-Variable.n c.args.count)
    ∙ ap (λ m. F.place_shape dims m c.args.count) (sym c.in-Variable.is))
