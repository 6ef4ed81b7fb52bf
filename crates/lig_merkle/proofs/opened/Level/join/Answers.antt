use Rattle.std.proofs.Common.{◌≡◌, ℕ, List, ◌+◌, ◌*◌, ◌/◌, ◌<◌, ◌^◌, ◌++◌, ◌∷◌, [], true, All, map}
use Rattle.std.proofs.Common.{take, get_or, length, subst, sym, ap, ◌∙◌, arith}
use Rattle.std.proofs.lemmas.List.{map_more, take_all}
use Rattle.lig_merkle.specs.Merkle.{node_hash}
use Rattle.lig_merkle.specs.Shared.{is_known, missing, parents, level_over, hash_at}
use Rattle.lig_merkle.proofs.Known.{child_found, known_at, parents_small}
use Rattle.lig_merkle.proofs.opened.Level.join.Goals as goal

-- the place above is one of those above the known places, and so both places under it have hashes
is_above : (known above : List ℕ) (i : ℕ) → i < length above → above ≡ parents known
    → is_known (parents known) (get_or above i 0) ≡ true
is_above known above i l e =
    known_at (parents known) i (get_or above i 0) (omega (arith, ap length e))
    (ap (λ xs. get_or xs i 0) (sym e))

child : (known beside above : List ℕ) (i place : ℕ) → i < length above → above ≡ parents known
    → beside ≡ missing known → place / 2 ≡ get_or above i 0 → is_known (known ++ beside) place
    ≡ true
child known beside above i place l e f half =
    ap (λ xs. is_known (known ++ xs) place) f
    ∙ child_found known (get_or above i 0) place (is_above known above i l e) half

small : (known above : List ℕ) (i : ℕ) → i < length above → above ≡ parents known
    → All (λ place. place < 2 ^ 63) known → get_or above i 0 < 2 ^ 62
small known above i l e h = let count : i < length (parents known) = omega (arith, ap length e)
    in subst (λ (xs : List ℕ). get_or xs i 0 < 2 ^ 62) (sym e) (parents_small known h i 0 count)

pub overflow_mul-place : goal.overflow_mul-place
overflow_mul-place c =
    let low =
    small c.args.self.now.known.now c.args.above.now c.loop-place.place-index
    c.loop-place-test.true c.requires.above c.requires.level.small in omega arith

pub hash_at-left-requires-clause-found : goal.hash_at-left-requires-clause-found
hash_at-left-requires-clause-found c =
    child c.args.self.now.known.now c.args.self.now.beside.now c.args.above.now
    c.loop-place.place-index (2 * get_or c.args.above.now c.loop-place.place-index 0)
    c.loop-place-test.true c.requires.above c.requires.level.beside (omega arith)

pub overflow_mul-place-in-loop-place : goal.overflow_mul-place-in-loop-place
overflow_mul-place-in-loop-place c =
    let low =
    small c.args.self.now.known.now c.args.above.now c.loop-place.place-index
    c.loop-place-test.true c.requires.above c.requires.level.small in omega arith

pub overflow_add-place : goal.overflow_add-place
overflow_add-place c =
    let low =
    small c.args.self.now.known.now c.args.above.now c.loop-place.place-index
    c.loop-place-test.true c.requires.above c.requires.level.small in omega arith

pub hash_at-right-requires-clause-found : goal.hash_at-right-requires-clause-found
hash_at-right-requires-clause-found c =
    child c.args.self.now.known.now c.args.self.now.beside.now c.args.above.now
    c.loop-place.place-index (2 * get_or c.args.above.now c.loop-place.place-index 0 + 1)
    c.loop-place-test.true c.requires.above c.requires.level.beside (omega arith)

pub loop-place-preserved : goal.loop-place-preserved
loop-place-preserved c =
    let self = c.args.self.now in
    let level = hash_at (self.known.now ++ self.beside.now) (self.hashes.now ++ self.nodes.now) in
    let so_far = map (level_over level) (take c.loop-place.place-index c.args.above.now) in
    let hash : c.node.result
    ≡ level_over level (get_or c.args.above.now c.loop-place.place-index 0) =
    c.node.ensures ∙ ap (λ x. node_hash x c.hash_at-right.result) c.hash_at-left.ensures
    ∙ ap (λ x. node_hash (level (2 * get_or c.args.above.now c.loop-place.place-index 0)) x)
    c.hash_at-right.ensures in
    c.in_ok-push.ensures.items ∙ ap (λ xs. xs ++ c.node.result ∷ []) c.loop-place.invariant
    ∙ ap (λ x. so_far ++ x ∷ []) hash
    ∙ sym (map_more (level_over level) c.args.above.now c.loop-place.place-index 0
    c.loop-place-test.true)

pub returns : goal.returns
returns c =
    let self = c.args.self.now in
    let places =
    λ (beside : List ℕ). λ (above : List ℕ). map
    (level_over (hash_at (self.known.now ++ beside) (self.hashes.now ++ self.nodes.now)))
    above in
    c.loop-place.invariant
    ∙ ap (λ xs. places self.beside.now xs)
    (take_all c.loop-place.place-index c.args.above.now c.loop-place-test.false)
    ∙ ap (λ xs. places xs c.args.above.now) c.requires.level.beside
    ∙ ap (λ xs. places (missing self.known.now) xs) c.requires.above
