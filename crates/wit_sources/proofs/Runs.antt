-- Numbers in a row.
use Rattle.std.proofs.Common.{◌≡◌, ◌∙◌, ◌⊎◌, ℕ, zero, suc, ◌+◌, ◌<◌, ◌≤◌, Bool, true, false, refl}
use Rattle.std.proofs.Common.{ap, List, [], ◌∷◌, Option, Some, None, cond, length, map, drop, sym}
use Rattle.std.proofs.Common.{arith, inl, inr}
use Rattle.std.specs.Prelude.{◌==◌, ◌&&◌, ◌||◌, filter, is_some, nat_le, nat_lt, not, slice_get}
use Rattle.std.specs.List.{list_any}
use Rattle.std.proofs.lemmas.Bool.{and_from, and_parts, cases_lt, eq-eqb, eqb-true, le-leb}
use Rattle.std.proofs.lemmas.Bool.{leb-true, lt-ltb, ltb-true}
use Rattle.std.proofs.lemmas.List.{length-map}
use Rattle.cir_arrays.proofs.Indices.{too_many}
use Rattle.cir_arrays.proofs.Runs.{length_numbers}
use Rattle.cir_arrays.specs.Reached.{places_within}
use Rattle.cir_ast.specs.declared.marked.Place.{Place as CodePlace}
use Rattle.cir_ast.specs.declared.program.Meant.{Meant}
use Rattle.cir_ast.specs.declared.program.Meant.TheVariants as meant
use Rattle.cir_ast.specs.Tree.{Expr, Set, as_accessors, place_accessors}
use Rattle.cir_ast.proofs.Rows.{accessors_are}
use Rattle.cir_meaning.specs.Places.{all_known, elements, is_inside, numbers_from, places_of}
use Rattle.cir_meaning.specs.Texts.{indices_of}
use Rattle.wit_lower.specs.Homes as L
use Rattle.wit_lower.specs.Tasks as T
use Rattle.wit_lower.proofs.Places.{places_are}
use Rattle.cir_emit.specs.Reads as E
use Rattle.cir_emit.proofs.Tasks.{all_known_are}
use Rattle.wit_sources.specs.declared.kept.Run.{Run}
use Rattle.wit_sources.specs.Runs.{in_run}

both_ways : (a b : Bool) → (a ≡ true → b ≡ true) → (b ≡ true → a ≡ true) → a ≡ b
both_ways true true f g = refl
both_ways true false f g = sym (f refl)
both_ways false true f g = g refl
both_ways false false f g = refl

abbrev has : (f c e : ℕ) → Bool
has f c e = list_any (λ k. k == e) (numbers_from f c)

has_inside : (f c e : ℕ) → has f c e ≡ true → (f ≤ e) × (e < f + c)
has_inside f zero e h = cc
has_inside f (suc c) e h = at (f == e) refl h (has_inside (f + 1) c e)
  where
    at : (b : Bool) → (f == e) ≡ b → (b || has (f + 1) c e) ≡ true
        → (has (f + 1) c e ≡ true → (f + 1 ≤ e) × (e < f + 1 + c)) → (f ≤ e) × (e < f + suc c)
    at true eb h rest =
        let same : f ≡ e = eqb-true f e eb in (omega (arith, same), omega (arith, same))
    at false eb h rest =
        let r : (f + 1 ≤ e) × (e < f + 1 + c) = rest h in
        (omega (arith, r.0), omega (arith, r.1))

inside_has : (f c e : ℕ) → f ≤ e → e < f + c → has f c e ≡ true
inside_has f zero e low high = absurd (omega (arith, low, high))
inside_has f (suc c) e low high =
    at (f == e) refl (cases_lt f e) (λ l. inside_has (f + 1) c e l (omega (arith, high)))
  where
    at : (b : Bool) → (f == e) ≡ b → (f < e) ⊎ (e ≤ f) → (f + 1 ≤ e → has (f + 1) c e ≡ true)
        → (b || has (f + 1) c e) ≡ true
    at true eb order rest = refl
    at false eb (inl l) rest = rest (omega (arith, l))
    at false eb (inr l) rest =
        let same : f ≡ e = omega (arith, low, l) in
        let never : true ≡ false = sym (eq-eqb f e same) ∙ eb in
        cc

pub run_has : (f c e : ℕ)
    → list_any (λ k. k == e) (numbers_from f c) ≡ (nat_le f e && nat_lt e (f + c))
run_has f c e =
    both_ways (has f c e) (nat_le f e && nat_lt e (f + c))
    (λ h. and_from (nat_le f e) (nat_lt e (f + c)) (le-leb f e (has_inside f c e h).0)
    (lt-ltb e (f + c) (has_inside f c e h).1))
    (λ h. inside_has f c e (leb-true f e (and_parts (nat_le f e) (nat_lt e (f + c)) h).0)
    (ltb-true e (f + c) (and_parts (nat_le f e) (nat_lt e (f + c)) h).1))

-- the places that known indices mean, as the code finds them
row_is : (o c first : ℕ) → slice_get (numbers_from o c) 0 ≡ Some first → first ≡ o
row_is o zero first e = cc
row_is o (suc c) first e = cc

pub run_places : (dims : List ℕ) (ks : List (Option ℕ)) (places : List ℕ) (first e : ℕ)
    → is_some (all_known ks) ≡ true → places ≡ places_within dims ks
    → slice_get places 0 ≡ Some first
    → (nat_le first e && nat_lt e (first + length places))
    ≡ list_any (λ k. k == e) (places_of dims ks)
run_places dims ks places first e known is begins =
    at (all_known ks) refl known (inside (is_inside dims ks) is)
  where
    inside : (b : Bool) → places ≡ cond b (places_of dims ks) [] → places ≡ places_of dims ks
    inside true is = is
    inside false is =
        let none : None ≡ Some first = ap (λ (l : List ℕ). slice_get l 0) (sym is) ∙ begins in cc

    row : (o c : ℕ) → places ≡ numbers_from o c → places ≡ places_of dims ks
        → (nat_le first e && nat_lt e (first + length places))
        ≡ list_any (λ k. k == e) (places_of dims ks)
    row o c r same =
        let at_first : first ≡ o =
        row_is o c first (ap (λ (l : List ℕ). slice_get l 0) (sym r) ∙ begins) in
        let long : length places ≡ c = ap (λ (l : List ℕ). length l) r ∙ length_numbers o c in
        (λ i. nat_le (at_first i) e && nat_lt e (at_first i + long i)) ∙ sym (run_has o c e)
        ∙ ap (λ l. list_any (λ k. k == e) l) (sym r ∙ same)

    few : (is : List ℕ) → ks ≡ map Some is → places ≡ places_of dims ks
        → (length dims < length is) ⊎ (length is ≤ length dims)
        → (nat_le first e && nat_lt e (first + length places))
        ≡ list_any (λ k. k == e) (places_of dims ks)
    few is ek same (inl many) =
        let long : length (map Some is) ≡ length is = length-map is Some in
        let none : places ≡ [] =
        same ∙ ap (places_of dims) ek ∙ too_many dims (map Some is) (omega (arith, many, long)) in
        let never : None ≡ Some first =
        ap (λ (l : List ℕ). slice_get l 0) (sym none) ∙ begins in
        cc
    few is ek same (inr le) =
        row (L.offset dims is) (elements (drop (length is) dims))
        (same ∙ ap (places_of dims) ek ∙ places_are dims is le) same

    at : (o : Option (List ℕ)) → all_known ks ≡ o → is_some o ≡ true
        → places ≡ places_of dims ks
        → (nat_le first e && nat_lt e (first + length places))
        ≡ list_any (λ k. k == e) (places_of dims ks)
    at None eo known same = cc
    at (Some is) eo known same =
        few is (all_known_are ks is eo) same (cases_lt (length dims) (length is))

-- what an assignment to a variable surely writes
pub written_at : (g : L.Ground) (homes : L.Homes) (p : CodePlace Meant) (v : ℕ)
    (ks : List (Option ℕ)) → p.meant ≡ meant.Variable v
    → ks ≡ map g.known (indices_of (as_accessors p.accessors)) → (name : List ℕ)
    (e : Expr Meant) (t : T.Element)
    → E.is_written g homes (Set name p.meant (place_accessors p) e) t
    ≡ ((v == t.variable) && list_any (λ k. k == t.element)
    (E.sure_places (L.find (L.Variable v) homes) ks))
written_at g homes p v ks is known name e t =
    (λ i. E.is_written g homes (Set name (is i) (accessors_are Meant p.accessors i) e) t)
    ∙ ap (λ os. (v == t.variable) && list_any (λ k. k == t.element)
    (E.sure_places (L.find (L.Variable v) homes) os)) (sym known)

nothing_in : (b : Bool) → (b && false) ≡ false
nothing_in true = refl
nothing_in false = refl

pub unsure : (v : ℕ) (o : Option L.Home) (ks : List (Option ℕ)) (t : T.Element)
    → is_some (all_known ks) ≡ false
    → ((v == t.variable) && list_any (λ k. k == t.element) (E.sure_places o ks)) ≡ false
unsure v None ks t e = nothing_in (v == t.variable)
unsure v (Some h) ks t e =
    ap (λ b. (v == t.variable) && list_any (λ k. k == t.element) (cond b (places_of h.dims ks) []))
    e ∙ nothing_in (v == t.variable)

pub sure : (v : ℕ) (h : L.Home) (ks : List (Option ℕ)) (t : T.Element)
    → is_some (all_known ks) ≡ true
    → ((v == t.variable) && list_any (λ k. k == t.element) (E.sure_places (Some h) ks))
    ≡ ((v == t.variable) && list_any (λ k. k == t.element) (places_of h.dims ks))
sure v h ks t e =
    ap (λ b. (v == t.variable) && list_any (λ k. k == t.element) (cond b (places_of h.dims ks) []))
    e

-- the targets that are kept, with one more in front
abbrev pub kept_but : Option Run → List T.Element → List E.Reading
kept_but run targets = E.targets_kept (filter (λ t. not (in_run run t)) targets)

pub kept_one : (run : Option Run) (t : T.Element) (rest : List T.Element) → in_run run t ≡ false
    → kept_but run (t ∷ rest)
    ≡ record { name = L.Variable t.variable; element = t.element } ∷ kept_but run rest
kept_one run t rest e =
    ap (λ b. E.targets_kept (cond (not b) (t ∷ filter (λ u. not (in_run run u)) rest)
    (filter (λ u. not (in_run run u)) rest))) e

pub kept_other : (run : Option Run) (t : T.Element) (rest : List T.Element) → in_run run t ≡ true
    → kept_but run (t ∷ rest) ≡ kept_but run rest
kept_other run t rest e =
    ap (λ b. E.targets_kept (cond (not b) (t ∷ filter (λ u. not (in_run run u)) rest)
    (filter (λ u. not (in_run run u)) rest))) e

all_kept : (targets : List T.Element) → filter (λ t. not (in_run None t)) targets ≡ targets
all_kept [] = refl
all_kept (t ∷ targets) = ap (λ l. t ∷ l) (all_kept targets)

pub kept_all : (targets : List T.Element) → kept_but None targets ≡ E.targets_kept targets
kept_all targets = ap E.targets_kept (all_kept targets)
