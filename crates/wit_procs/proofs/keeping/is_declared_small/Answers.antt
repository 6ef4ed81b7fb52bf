use Rattle.std.proofs.Common.{◌∙◌, map, ap}
use Rattle.std.specs.Prelude.{unwrap_or}
use Rattle.cir_ast.specs.Tree.{bare}
use Rattle.cir_meaning.specs.Texts.{literal_number}
use Rattle.wit_procs.specs.Rules.{is_small}
use Rattle.wit_procs.proofs.MadeKeys.{written_is}
use Rattle.wit_procs.proofs.keeping.is_declared_small.Goals as goal

pub returns : goal.returns
returns c =
    c.is_small.ensures
    ∙ ap is_small (c.as_slice-2.ensures.value ∙ c.in_ok-dims.ensures
    ∙ ap (map (λ e. unwrap_or (literal_number (bare e)) 0)) c.as_slice.ensures
    ∙ written_is c.args.variable.now.dimensions)
