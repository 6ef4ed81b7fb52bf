use Rattle.std.proofs.Common.{◌∙◌, ap, map}
use Rattle.wit_sourced.specs.Loads.{shape_of}
use Rattle.cir_make.proofs.told.code_of.Goals as goal

pub returns-clause-code : goal.returns-clause-code
returns-clause-code c = λ of told are is targets.
    c.code_named.ensures.code of told are
    (ap (map shape_of) c.in_ok-named.ensures ∙ c.in_ok-shapes.ensures) is targets
