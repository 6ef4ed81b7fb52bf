use Rattle.std.proofs.Common.{◌≡◌, ◌∙◌, sym, subst, eqb, List, ℕ}
use Rattle.std.specs.List.{dedup, Contains}
use Rattle.std.specs.List.Sorted.{IsStrictlyIncreasing}
use Rattle.std.proofs.lemmas.List.Filters.{dedup_is}
use Rattle.std.proofs.lemmas.List.Sorted.{Contains-permutation}
use Rattle.std.proofs.lemmas.List.Kept.{Contains-dedup_nat}
use Rattle.std.proofs.lemmas.Map.Keys.{IsStrictlyIncreasing-dedup}
use Rattle.cir_simplify.proofs.state.places.Goals as goal

pub returns-clause-all : goal.returns-clause-all
returns-clause-all c = λ i h.
    let e : c.dedup.new.self.items ≡ dedup eqb c.sort_unstable.new.self.items =
    dedup_is eqb _ _ c.dedup.ensures.filtered in
    let first : Contains c.in_ok-places.places.items i =
    subst (λ (v : List ℕ). Contains v i)
    (sym (c.in_ok-places.ensures.items ∙ c.as_slice.ensures ∙ c.held_at.ensures)) h in
    subst (λ (v : List ℕ). Contains v i) (sym e)
    (Contains-dedup_nat _ i
    (Contains-permutation _ _ i c.sort_unstable.ensures.permutation first))

pub returns-clause-once : goal.returns-clause-once
returns-clause-once c =
    let e : c.dedup.new.self.items ≡ dedup eqb c.sort_unstable.new.self.items =
    dedup_is eqb _ _ c.dedup.ensures.filtered in
    subst IsStrictlyIncreasing (sym e) (IsStrictlyIncreasing-dedup _ c.sort_unstable.ensures.sorted)
