use Rattle.std.proofs.Common.{◌≡◌, drop}
use Rattle.std.specs.Prelude.{map, is_some}
use Rattle.std.specs.List.{list_all}
use Rattle.cir_meaning.specs.Functions.{shape_in}
use Rattle.cir_texts.specs.Shown.{wanted_of}
use Rattle.cir_rules.specs.Shaped.{dims_in}
use Rattle.cir_rules.proofs.shapes.Shapes.do_wanted_fit.Given as goal

abbrev pub invariant-loop-each : goal.invariant-loop-each
invariant-loop-each l =
    list_all (λ x. is_some (shape_in (dims_in l.self) x.want x.expr))
    (map wanted_of (drop l.each-index l.wanted))
    ≡ list_all (λ x. is_some (shape_in (dims_in l.self) x.want x.expr)) (map wanted_of l.wanted)
