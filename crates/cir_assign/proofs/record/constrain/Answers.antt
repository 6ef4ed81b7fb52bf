use Rattle.std.proofs.Common.{◌≡◌, ◌∙◌, Some, ap, sym}
use Rattle.cir_values.specs.Meant.{meant, meant_parts}
use Rattle.cir_meaning.specs.Values.{difference_of, parts_of}
use Rattle.cir_meaning.specs.Source.{parts_from}
use Rattle.cir_evaluate.specs.Within.{where_at}
use Rattle.cir_assign.proofs.record.constrain.Goals as goal

pub returns-clause-equation : goal.returns-clause-equation
returns-clause-equation g c = λ k f qs size.
    let parts : parts_of (difference_of (meant c.args.x) (meant c.args.y))
    ≡ Some (parts_from c.in-Some.q) =
    ap parts_of (sym c.in_ok-difference.ensures.value)
    ∙ sym c.in_ok-q.ensures.value ∙ ap meant_parts c.in-Some.is in
    c.recorded.ensures.equation k (where_at c.args.here.now) (meant c.args.x) (meant c.args.y) f qs
    size parts
