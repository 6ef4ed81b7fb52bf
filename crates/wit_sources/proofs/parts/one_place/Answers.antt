use Rattle.std.proofs.Common.{◌≡◌, ◌∙◌, List, ℕ, [], ◌∷◌, suc, true, length, drop, map, ap}
use Rattle.std.proofs.Common.{arith, cond, refl, sym}
use Rattle.std.specs.Prelude.{Option, Some}
use Rattle.std.proofs.lemmas.List.{drop_all}
use Rattle.cir_arrays.specs.Reached.{items_of, places_within}
use Rattle.cir_meaning.specs.Places.{is_inside as are_inside, places_of}
use Rattle.cir_emit.proofs.Reached.{one_place}
use Rattle.cir_emit.proofs.Tasks.{all_known_are}
use Rattle.wit_lower.specs.Homes.{offset}
use Rattle.wit_sources.proofs.parts.one_place.Goals as goal

map_long : (is : List ℕ) → length (map Some is) ≡ length is
map_long [] = refl
map_long (i ∷ is) = ap (λ n. suc n) (map_long is)

-- indices that are inside, one for each dimension
place_known : (dims ns : List ℕ) (indices : List (Option ℕ)) (k : ℕ) → indices ≡ map Some ns
    → length indices ≡ length dims → are_inside dims (map Some ns) ≡ true
    → k ≡ offset dims ns → places_within dims indices ≡ k ∷ []
place_known dims ns indices k is long inside at =
    let full : length ns ≡ length dims =
    sym (map_long ns) ∙ ap (λ (l : List (Option ℕ)). length l) (sym is) ∙ long in
    let none : drop (length ns) dims ≡ [] = drop_all (length ns) dims (omega (arith, full)) in
    ap (λ l. places_within dims l) is
    ∙ ap (λ b. cond b (places_of dims (map Some ns)) []) inside
    ∙ one_place dims ns full none ∙ ap (λ n. n ∷ []) (sym at)

pub returns : goal.returns
returns c =
    let ns = c.in-Some.known.items in
    let dims = c.args.dims.now in
    place_known dims ns c.args.indices.now c.in_ok-place.place
    (all_known_are c.args.indices.now ns
    (sym c.in_ok-known.ensures ∙ ap items_of c.in-Some.is))
    (omega arith)
    (sym (rw c.as_slice.ensures.value at c.is_inside.ensures) ∙ c.if-not-is_inside.false)
    (rw c.as_slice-2.ensures.value at c.in_ok-place.ensures)
