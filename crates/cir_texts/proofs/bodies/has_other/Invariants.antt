use Rattle.std.proofs.Common.{◌≡◌, drop}
use Rattle.std.specs.Prelude.{is_none}
use Rattle.std.specs.List.{list_any}
use Rattle.cir_ast.specs.Tree.{bare_exprs}
use Rattle.cir_meaning.specs.Texts.{list_of, literal_number}
use Rattle.cir_texts.proofs.bodies.has_other.Given as goal

abbrev pub invariant-loop-e : goal.invariant-loop-e
invariant-loop-e l =
    list_any (λ e. is_none (literal_number e)) (list_of (bare_exprs (drop l.e-index l.dimensions)))
    ≡ list_any (λ e. is_none (literal_number e)) (list_of (bare_exprs l.dimensions))
