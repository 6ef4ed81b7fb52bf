use Rattle.std.proofs.Common.{sym, ◌∙◌}
use Rattle.cir_lc.proofs.Changes.{changed_by, none_changed}
use Rattle.cir_lc.proofs.change.changed.Goals as goal

pub returns-then-get-eq0-clause-value : goal.returns-then-get-eq0-clause-value
returns-then-get-eq0-clause-value c = λ by h.
    changed_by _ _ _ by _ _ c.requires c.coef-k.ensures h
    (none_changed _ _ c.args.swap.now _ (sym c.get.ensures.value ∙ c.if-get-eq0.true)
    c.in_ok-g.ensures)

pub returns-clause-value : goal.returns-clause-value
returns-clause-value c = λ by h.
    changed_by _ _ _ by _ _ c.requires c.coef-k.ensures h c.in_ok-g-2.ensures.value
