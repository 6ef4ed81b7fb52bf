use Rattle.std.proofs.Common.{ap, ◌∙◌}
use Rattle.cir_resolve.specs.Answers.{names_in, nested, hiding, state_of}
use Rattle.cir_resolve.proofs.Nesting.{nested_push}
use Rattle.cir_resolve.proofs.scope.Scopes.open.Goals as goal

pub returns-clause-state : goal.returns-clause-state
unfolding state_of
returns-clause-state c =
    cc (
      ap nested c.in_ok-push.ensures.items
          ∙ nested_push _ _
          ∙ ap (λ n. hiding (nested c.args.self.now.outer.items) (names_in n))
          c.replace-names.ensures.value,
      c.replace-names.ensures.after,
      c.new.ensures,
    )
