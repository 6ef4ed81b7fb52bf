use Rattle.std.proofs.Common.{refl, sym, ap, ◌∙◌}
use Rattle.cir_ast.specs.Tree.{bare_variable}
use Rattle.cir_ast.specs.Plain.{plain_variable}
use Rattle.cir_expression.specs.Combinators.{separated}
use Rattle.cir_simple_statement.specs.Reading.{variable}
use Rattle.cir_parse.specs.Reading.{first}
use Rattle.cir_simple_statement.proofs.Seen.{seen_map}
use Rattle.cir_parse.proofs.statements.first_form.Goals as goal

pub returns-in_ok-variables : goal.returns-in_ok-variables
unfolding first
returns-in_ok-variables g c =
    rw (
      sym c.begins_word.ensures ∙ c.if-begins_word.true,
      ap (separated (variable c.args.room)) (sym c.skip.ensures) ∙ c.in_ok-variables.ensures,
      seen_map plain_variable bare_variable c.tight.result c.in_ok-variables.variables.items
          c.tight.ensures,
    ) refl
