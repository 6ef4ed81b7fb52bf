use Rattle.std.proofs.Common.{◌≡◌, ◌∙◌, [], false, ap, sym, arith}
use Rattle.std.specs.Prelude.{is_some, Some, None, if◌then◌else◌}
use Rattle.cir_ast.specs.Tree.{bare}
use Rattle.cir_meaning.specs.Arrays.{Scalar}
use Rattle.cir_meaning.specs.Functions as F
use Rattle.cir_texts.specs.Shown.{wanted_of}
use Rattle.cir_rules.specs.Shaped.{dims_in}
use Rattle.cir_rules.proofs.Shaping.{list_none, number_list}
use Rattle.cir_rules.proofs.shapes.Shapes.wanted_shape.Goals as goal

pub returns-then-is_none : goal.returns-then-is_none
returns-then-is_none c =
    let dims = dims_in c.args.self.now in
    let w = c.in-Compound in
    let none : is_some c.in_ok-read_in-in-Compound.field-0 ≡ false =
    grind (arith, c.is_none.ensures, c.if-is_none.true) in
    sym (ap (λ x. F.shape_in dims (wanted_of x).want (wanted_of x).expr) w.is
    ∙ ap (λ o. F.with_shape o (λ u. F.shape_in dims Scalar (bare w.e.now)))
    (sym c.in_ok-read_in-in-Compound.ensures)
    ∙ list_none c.in_ok-read_in-in-Compound.field-0 _ none)

pub returns-in_ok-shape-in-Step : goal.returns-in_ok-shape-in-Step
returns-in_ok-shape-in-Step c =
    let dims = dims_in c.args.self.now in
    c.number_if.ensures ∙ ap (λ b. if b then Some [] else None) c.is_some.ensures
    ∙ sym (number_list c.in_ok-shape-in-Step.shape)
    ∙ ap (λ o. F.with_shape o (λ u. Some [])) c.in_ok-shape-in-Step.ensures
    ∙ ap (λ x. F.shape_in dims (wanted_of x).want (wanted_of x).expr) (sym c.in-Step.is)
