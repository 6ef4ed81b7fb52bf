use Rattle.std.proofs.Common.{◌∙◌, length, ap, refl}
use Rattle.std.proofs.lemmas.List.Filters.{dedup_is}
use Rattle.std.proofs.lemmas.List.Kept.{IsStrictlySortedBy-dedup}
use Rattle.cir_cost.specs.contracts.reads.CellOrd.TheImpl.Laws.{total-law, matches_eq-law}
use Rattle.cir_cost.specs.contracts.reads.CellEq.TheImpl.Laws.{laws-law}
use Rattle.cir_cost.specs.contracts.reads.CellPartialEq.TheImpl.{eq-value}
use Rattle.cir_cost.specs.declared.reads.Cell.TheVariants.{Element, Wire}
use Rattle.cir_cost.proofs.Distinct.{IsSame, distinct_left}
use Rattle.cir_cost.proofs.steps.distinct.Goals as goal

cells_same : IsSame eq-value.it
cells_same (Element n k) (Element m j) = refl
cells_same (Element n k) (Wire j) = refl
cells_same (Wire k) (Element m j) = refl
cells_same (Wire k) (Wire j) = refl

pub returns : goal.returns
returns c =
    c.len.ensures ∙ c.dedup.new.self.ok.0 ∙ ap length (dedup_is _ _ _ c.dedup.ensures.filtered)
    ∙ distinct_left _ _ laws-law cells_same matches_eq-law _ _
    c.sort_unstable.ensures.permutation
    (IsStrictlySortedBy-dedup total-law matches_eq-law _ c.sort_unstable.ensures.sorted)
