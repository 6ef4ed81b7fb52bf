use Rattle.std.proofs.Common.{◌≡◌, ◌∙◌, sym, List, ℕ, [], ◌++◌, Result, subst}
use Rattle.std.proofs.lemmas.Bool.{both_ways}
use Rattle.lig_merkle.specs.Shared.{is_known}
use Rattle.lig_merkle.proofs.Known.{Found, Rises, rises, missing_rises, search_tells}
use Rattle.lig_merkle.proofs.Walk.{hash_found, hash_in_front, hash_behind, known_neither}
use Rattle.lig_merkle.proofs.opened.Level.hash_at.Goals as goal

pub returns-in-Ok : goal.returns-in-Ok
returns-in-Ok c =
    let level = c.args.self.now in
    let up = rises level.known.now c.requires.level.rising in
    let Is : Result ℕ ℕ → Type 0 = λ r. Found level.known.now c.args.place r in
    let found =
    subst Is c.in-Ok.is
    (search_tells level.known.now c.args.place c.binary_search.result
    c.binary_search.ensures.position up) in
    sym (hash_in_front level.known.now level.beside.now level.hashes.now level.nodes.now c.in-Ok.at
    c.args.place up found.0 c.requires.level.hashes found.1)

pub unreachable-requires : goal.unreachable-requires
unreachable-requires c =
    let level = c.args.self.now in
    let up = rises level.known.now c.requires.level.rising in
    let Rising : List ℕ → Type 0 = λ xs. Rises xs in
    let beside_up = subst Rising (sym c.requires.level.beside) (missing_rises level.known.now up) in
    let First : Result ℕ ℕ → Type 0 = λ r. Found level.known.now c.args.place r in
    let Second : Result ℕ ℕ → Type 0 = λ r. Found level.beside.now c.args.place r in
    let first =
    subst First c.in_default.is
    (search_tells level.known.now c.args.place c.binary_search.result
    c.binary_search.ensures.position up) in
    let second =
    subst Second c.in-Err.is
    (search_tells level.beside.now c.args.place c.binary_search-2.result
    c.binary_search-2.ensures.position beside_up) in
    both_ways (is_known (level.known.now ++ level.beside.now) c.args.place)
    (known_neither level.known.now level.beside.now c.args.place first second) c.requires.found

pub returns : goal.returns
returns c =
    let level = c.args.self.now in
    let up = rises level.known.now c.requires.level.rising in
    let Rising : List ℕ → Type 0 = λ xs. Rises xs in
    let beside_up = subst Rising (sym c.requires.level.beside) (missing_rises level.known.now up) in
    let First : Result ℕ ℕ → Type 0 = λ r. Found level.known.now c.args.place r in
    let Second : Result ℕ ℕ → Type 0 = λ r. Found level.beside.now c.args.place r in
    let first =
    subst First c.in_default.is
    (search_tells level.known.now c.args.place c.binary_search.result
    c.binary_search.ensures.position up) in
    let second =
    subst Second c.in-Ok-binary_search.is
    (search_tells level.beside.now c.args.place c.binary_search-2.result
    c.binary_search-2.ensures.position beside_up) in
    sym (hash_behind level.known.now level.beside.now level.hashes.now level.nodes.now c.args.place
    c.requires.level.hashes first
    ∙ hash_found level.beside.now level.nodes.now c.in-Ok-binary_search.at c.args.place beside_up
    second.0 c.requires.level.nodes second.1)
