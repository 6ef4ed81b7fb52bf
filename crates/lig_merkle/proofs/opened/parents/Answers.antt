use Rattle.std.proofs.Common.{◌≡◌, eqb, ap, ◌∙◌}
use Rattle.std.specs.List.{dedup}
use Rattle.std.proofs.lemmas.List.Filters.{dedup_is}
use Rattle.lig_merkle.proofs.opened.parents.Goals as goal

pub returns : goal.returns
returns c = dedup_is _ _ _ c.dedup.ensures.filtered ∙ ap (λ xs. dedup eqb xs) c.in_ok-above.ensures
