-- How many cells are distinct: as many as stand in a list in which each stands once.
use Rattle.std.proofs.Common.{◌≡◌, ◌∙◌, ℕ, ◌+◌, ◌≤◌, List, [], ◌∷◌, length, ap, sym, refl, arith}
use Rattle.std.proofs.Common.{Contains}
use Rattle.std.specs.Prelude.{Bool, true, false, not, ◌&&◌, ◌||◌, ◌==◌, if◌then◌else◌, map, filter}
use Rattle.std.specs.Cmp.{IsEquivalence}
use Rattle.std.specs.List.{list_any, AllByRecursion, dedup}
use Rattle.std.specs.List.Sorted.{IsPermutation, IsStrictlySortedBy}
use Rattle.std.specs.declared.cmp.Ordering.{Ordering}
use Rattle.std.specs.declared.cmp.Ordering.TheVariants.{Less}
use Rattle.std.specs.Ordering.{eq_by_cmp, is_eq}
use Rattle.std.proofs.lemmas.Bool.{eq-eqb, eqb-true}
use Rattle.std.proofs.lemmas.List.Kept.{Contains-dedup, Contains-from_dedup}
use Rattle.std.proofs.lemmas.List.Sorted.{Contains-permutation, IsPermutation-sym}
use Rattle.std.proofs.lemmas.Map.Views.{Contains-from_any, list_any-from_Contains}
use Rattle.cir_meaning.specs.Costs.{Cell, Element, Wire}
use Rattle.cir_meaning.specs.Steps.{distinct, same_cell}
use Rattle.cir_cost.specs.declared.reads.Cell.{Cell as CodeCell}
use Rattle.cir_cost.specs.declared.reads.Cell.TheVariants as cell
use Rattle.cir_cost.specs.Adds.{cell_of}

both_true : (a b : Bool) → (a && b) ≡ true → (a ≡ true) × (b ≡ true)
both_true true true h = (refl, refl)
both_true true false h = absurd (cc)
both_true false b h = absurd (cc)

same_is : (c d : Cell) → same_cell c d ≡ true → c ≡ d
same_is (Element n k) (Element m j) h =
    let parts = both_true (n == m) (k == j) h in
    ap (λ x. Element x k) (eqb-true n m parts.0) ∙ ap (λ x. Element m x) (eqb-true k j parts.1)
same_is (Element n k) (Wire j) h = absurd (cc)
same_is (Wire k) (Element m j) h = absurd (cc)
same_is (Wire k) (Wire j) h = ap (λ x. Wire x) (eqb-true k j h)

same_itself : (c : Cell) → same_cell c c ≡ true
same_itself (Element n k) =
    ap (λ b. b && (k == k)) (eq-eqb n n refl) ∙ eq-eqb k k refl
same_itself (Wire k) = eq-eqb k k refl

abbrev pub has : Cell → List Cell → Bool
has c cs = list_any (same_cell c) cs

abbrev pub Inside : List Cell → List Cell → Type 0
Inside cs ds = (c : Cell) → has c cs ≡ true → has c ds ≡ true

abbrev without : Cell → List Cell → List Cell
without c ds = filter (λ d. not (same_cell c d)) ds

-- another cell stays
never_both : (b : Bool) → b ≡ true → b ≡ false → (x y : Bool) → x ≡ y
never_both true h k x y = absurd (cc)
never_both false h k x y = absurd (cc)

differ : (c d e : Cell) (b : Bool) → same_cell c d ≡ false → same_cell c e ≡ true
    → same_cell d e ≡ b → b ≡ false
differ c d e false no_c is_c told = refl
differ c d e true no_c is_c told =
    let is : c ≡ d = same_is c e is_c ∙ sym (same_is d e told) in
    never_both (same_cell c d) (ap (λ x. same_cell c x) (sym is) ∙ same_itself c) no_c true false

stays_at : (c d e : Cell) (ds : List Cell) (b : Bool) → same_cell c d ≡ false
    → same_cell c e ≡ b → has d (without c ds) ≡ has d ds
    → has d (if not b then e ∷ without c ds else without c ds) ≡ (same_cell d e || has d ds)
stays_at c d e ds false no_c told h = ap (λ x. same_cell d e || x) h
stays_at c d e ds true no_c told h =
    h ∙ ap (λ x. x || has d ds) (sym (differ c d e (same_cell d e) no_c told refl))

stays : (c d : Cell) (ds : List Cell) → same_cell c d ≡ false
    → has d (without c ds) ≡ has d ds
stays c d [] no_c = refl
stays c d (e ∷ ds) no_c = stays_at c d e ds (same_cell c e) no_c refl (stays c d ds no_c)

-- a cell that doesn't stand in the list isn't taken away
nothing_at : (c e : Cell) (ds : List Cell) (b : Bool) → (b || has c ds) ≡ false
    → (has c ds ≡ false → without c ds ≡ ds)
    → (if not b then e ∷ without c ds else without c ds) ≡ e ∷ ds
nothing_at c e ds true none h = absurd (cc)
nothing_at c e ds false none h = ap (λ x. e ∷ x) (h none)

nothing : (c : Cell) (ds : List Cell) → has c ds ≡ false → without c ds ≡ ds
nothing c [] none = refl
nothing c (e ∷ ds) none = nothing_at c e ds (same_cell c e) none (nothing c ds)

-- without it there is one fewer
here_at : (c : Cell) (ds : List Cell) (b : Bool) → has c ds ≡ b
    → (has c ds ≡ true → distinct ds ≡ 1 + distinct (without c ds))
    → (if b then distinct ds else 1 + distinct ds) ≡ 1 + distinct (without c ds)
here_at c ds true told h = h told
here_at c ds false told h = ap (λ x. 1 + distinct x) (sym (nothing c ds told))

later_at : (b : Bool) (n m : ℕ) → n ≡ 1 + m
    → (if b then n else 1 + n) ≡ 1 + (if b then m else 1 + m)
later_at true n m h = h
later_at false n m h = ap (λ x. 1 + x) h

fewer_at : (c e : Cell) (ds : List Cell) (b : Bool) → same_cell c e ≡ b
    → (b || has c ds) ≡ true → (has c ds ≡ true → distinct ds ≡ 1 + distinct (without c ds))
    → distinct (e ∷ ds)
    ≡ 1 + distinct (if not b then e ∷ without c ds else without c ds)
fewer_at c e ds true told found h =
    ap (λ x. distinct (x ∷ ds)) (sym (same_is c e told)) ∙ here_at c ds (has c ds) refl h
fewer_at c e ds false told found h =
    later_at (has e ds) (distinct ds) (distinct (without c ds)) (h found)
    ∙ ap (λ b. 1 + (if b then distinct (without c ds) else 1 + distinct (without c ds)))
    (sym (stays c e ds told))

one_fewer : (c : Cell) (ds : List Cell) → has c ds ≡ true
    → distinct ds ≡ 1 + distinct (without c ds)
one_fewer c [] found = absurd (cc)
one_fewer c (e ∷ ds) found = fewer_at c e ds (same_cell c e) refl found (one_fewer c ds)

-- what stands inside another list has no more
or_later : (a b : Bool) → b ≡ true → (a || b) ≡ true
or_later true b h = refl
or_later false b h = h

unlike : (c d : Cell) (cs : List Cell) (b : Bool) → has c cs ≡ false → has d cs ≡ true
    → same_cell c d ≡ b → b ≡ false
unlike c d cs false none found told = refl
unlike c d cs true none found told =
    never_both (has c cs) (ap (λ x. has x cs) (same_is c d told) ∙ found) none true false

no_more_at : (c : Cell) (cs ds : List Cell) (b : Bool) → has c cs ≡ b → Inside (c ∷ cs) ds
    → ((es : List Cell) → Inside cs es → distinct cs ≤ distinct es)
    → (if b then distinct cs else 1 + distinct cs) ≤ distinct ds
no_more_at c cs ds true told inside h =
    h ds (λ d found. inside d (or_later (same_cell d c) (has d cs) found))
no_more_at c cs ds false told inside h =
    let first : has c ds ≡ true = inside c (ap (λ b. b || has c cs) (same_itself c)) in
    let rest : distinct cs ≤ distinct (without c ds) = h (without c ds) (λ d found.
    stays c d ds (unlike c d cs (same_cell c d) told found refl)
    ∙ inside d (or_later (same_cell d c) (has d cs) found)) in
    let less : distinct ds ≡ 1 + distinct (without c ds) = one_fewer c ds first in
    omega arith

no_more : (cs ds : List Cell) → Inside cs ds → distinct cs ≤ distinct ds
no_more [] ds inside = omega arith
no_more (c ∷ cs) ds inside =
    no_more_at c cs ds (has c cs) refl inside (λ es. no_more cs es)

pub as_many : (cs ds : List Cell) → Inside cs ds → Inside ds cs → distinct cs ≡ distinct ds
as_many cs ds h k =
    let low : distinct cs ≤ distinct ds = no_more cs ds h in
    let high : distinct ds ≤ distinct cs = no_more ds cs k in
    omega arith

-- ---- the code's cells
abbrev pub IsSame : (CodeCell → CodeCell → Bool) → Type 0
IsSame eq = (x y : CodeCell) → eq x y ≡ same_cell (cell_of x) (cell_of y)

abbrev code_of : Cell → CodeCell
code_of (Element n k) = cell.Element n k
code_of (Wire k) = cell.Wire k

there : (c : Cell) → cell_of (code_of c) ≡ c
there (Element n k) = refl
there (Wire k) = refl

back : (x : CodeCell) → code_of (cell_of x) ≡ x
back (cell.Element n k) = refl
back (cell.Wire k) = refl

equal_is : (eq : CodeCell → CodeCell → Bool) → IsSame eq → (x y : CodeCell) → eq x y ≡ true
    → x ≡ y
equal_is eq same x y h =
    sym (back x) ∙ ap code_of (same_is (cell_of x) (cell_of y) (sym (same x y) ∙ h)) ∙ back y

has_code : (eq : CodeCell → CodeCell → Bool) → IsSame eq → (x : CodeCell) (ys : List CodeCell)
    → list_any (eq x) ys ≡ has (cell_of x) (map cell_of ys)
has_code eq same x [] = refl
has_code eq same x (y ∷ ys) =
    ap (λ b. b || list_any (eq x) ys) (same x y)
    ∙ ap (λ b. same_cell (cell_of x) (cell_of y) || b) (has_code eq same x ys)

has_there : (eq : CodeCell → CodeCell → Bool) → IsSame eq → (c : Cell) (ys : List CodeCell)
    → has c (map cell_of ys) ≡ list_any (eq (code_of c)) ys
has_there eq same c ys =
    ap (λ d. has d (map cell_of ys)) (sym (there c)) ∙ sym (has_code eq same (code_of c) ys)

inside_from : (eq : CodeCell → CodeCell → Bool) → IsEquivalence eq → IsSame eq
    → (xs ys : List CodeCell) → ((x : CodeCell) → Contains xs x → Contains ys x)
    → Inside (map cell_of xs) (map cell_of ys)
inside_from eq laws same xs ys h c found =
    let x : CodeCell = code_of c in
    has_there eq same c ys ∙ list_any-from_Contains laws x ys (h x
    (Contains-from_any (equal_is eq same) x xs (sym (has_there eq same c xs) ∙ found)))

unlike_all : (eq : CodeCell → CodeCell → Bool) (cmp : CodeCell → CodeCell → Ordering)
    → IsSame eq → ((x y : CodeCell) → eq x y ≡ eq_by_cmp cmp x y) → (x : CodeCell)
    (ys : List CodeCell) → AllByRecursion (λ y. cmp x y ≡ Less) ys
    → has (cell_of x) (map cell_of ys) ≡ false
unlike_all eq cmp same ties x [] h = refl
unlike_all eq cmp same ties x (y ∷ ys) h =
    ap (λ b. b || has (cell_of x) (map cell_of ys)) (sym (same x y) ∙ ties x y ∙ ap is_eq h.0)
    ∙ unlike_all eq cmp same ties x ys h.1

once : (eq : CodeCell → CodeCell → Bool) (cmp : CodeCell → CodeCell → Ordering) → IsSame eq
    → ((x y : CodeCell) → eq x y ≡ eq_by_cmp cmp x y) → (zs : List CodeCell)
    → IsStrictlySortedBy cmp zs → length zs ≡ distinct (map cell_of zs)
unfolding IsStrictlySortedBy
once eq cmp same ties [] h = refl
once eq cmp same ties (z ∷ zs) h =
    let rest : length zs ≡ distinct (map cell_of zs) = once eq cmp same ties zs h.1 in
    let first : distinct (map cell_of (z ∷ zs)) ≡ 1 + distinct (map cell_of zs) =
    ap (λ b. if b then distinct (map cell_of zs) else 1 + distinct (map cell_of zs))
    (unlike_all eq cmp same ties z zs h.0) in
    omega arith

-- as many as are left of them once they are sorted and each is kept once
pub distinct_left : (eq : CodeCell → CodeCell → Bool) (cmp : CodeCell → CodeCell → Ordering)
    → IsEquivalence eq → IsSame eq → ((x y : CodeCell) → eq x y ≡ eq_by_cmp cmp x y)
    → (xs ys : List CodeCell) → IsPermutation xs ys → IsStrictlySortedBy cmp (dedup eq ys)
    → length (dedup eq ys) ≡ distinct (map cell_of xs)
distinct_left eq cmp laws same ties xs ys moved strict =
    once eq cmp same ties (dedup eq ys) strict
    ∙ as_many (map cell_of (dedup eq ys)) (map cell_of xs)
    (inside_from eq laws same (dedup eq ys) xs (λ x h. Contains-permutation ys xs x
    (IsPermutation-sym xs ys moved) (Contains-from_dedup eq ys x h)))
    (inside_from eq laws same xs (dedup eq ys) (λ x h. Contains-dedup laws (equal_is eq same) ys x
    (Contains-permutation xs ys x moved h)))
