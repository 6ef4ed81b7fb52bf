use Rattle.std.proofs.Common.{◌∙◌, ◌-◌, ap, sym}
use Rattle.cir_ast.specs.Tree.{as_accessors}
use Rattle.cir_meaning.specs.Reached.{indices_count}
use Rattle.cir_rules.specs.Ranked.{ranks_in}
use Rattle.cir_rules.proofs.Lists.{rank_place}
use Rattle.cir_rules.proofs.ranks.place_rank.Goals as goal

pub returns-in-Variable : goal.returns-in-Variable
returns-in-Variable c =
    let ranks = ranks_in c.args.ranks.now c.args.texts.now in
    c.saturating_sub.ensures ∙ ap (λ r. r - c.indices_count.result) c.variable_rank.ensures
    ∙ ap (λ k. ranks c.in-Variable.n - k) (c.indices_count.ensures
    ∙ ap (λ list. indices_count (as_accessors list)) c.as_slice.ensures)
    ∙ sym (rank_place ranks c.args.place.now c.in-Variable.n c.in-Variable.is)
