-- What stands in a step's sources: its homes, and the elements that it gives.
use Rattle.std.proofs.Common.{◌≡◌, ℕ, zero, suc, ◌+◌, ◌<◌, ◌≤◌, Bool, true, false, List, [], ◌∷◌}
use Rattle.std.proofs.Common.{◌*◌, cond, flat_map, None, ◌++◌, length, map, Option, Some, refl, sym}
use Rattle.std.proofs.Common.{ap, subst, ◌∙◌, arith}
use Rattle.std.specs.Prelude.{◌==◌, filter, nat_lt}
use Rattle.std.specs.List.{AllByRecursion}
use Rattle.std.proofs.Math.Nat.{suc-mul, zero-mul}
use Rattle.std.proofs.lemmas.Bool.{or_left, or_right, eq-eqb, and_parts, ltb-true}
use Rattle.cir_meaning.specs.Limits.{is_too_large}
use Rattle.cir_meaning.specs.Places.{elements, is_inside, places_of, numbers_from}
use Rattle.cir_meaning.specs.Arrays.{Datum, Want, Reach}
use Rattle.cir_meaning.specs.Writing.{VariableAssignment}
use Rattle.cir_meaning.proofs.Rows.{all_append}
use Rattle.cir_meaning.specs.Values.{Value}
use Rattle.cir_meaning.specs.Frame.{State, variable_at}
use Rattle.cir_steps.specs.Step.{Source, Step, sources_of, variable_sources}
use Rattle.cir_steps.specs.Emission.{Emission, known_in}
use Rattle.cir_steps.specs.Making.{written_places, new_places, wanted_of}
use Rattle.wit_lower.specs.Homes.{Name, Variable, Home, Homes, find, slots_of}
use Rattle.wit_lower.specs.Sources.{Sources, scope_of}
use Rattle.wit_lower.specs.Tasks.{Element}
use Rattle.wit_lower.specs.Steps.{ShapesFit, TargetsFit}
use Rattle.wit_lower.proofs.Listed.{In}
use Rattle.wit_lower.proofs.Shown.{shapes_laid, shapes_below}
use Rattle.wit_lower.proofs.Shows.{lies}
use Rattle.cir_emit.specs.Lowered.{HasArray, source_input, sourced}
use Rattle.cir_emit.specs.Tasks.{elements_at, all_elements}
use Rattle.cir_emit.proofs.Lists.{map_long}
use Rattle.cir_emit.proofs.Reached.{Reaches}
use Rattle.cir_emit.proofs.Emitted.{Beside, sources_beside}

-- the homes of shapes that fit
pub home_small : (variables : ℕ) (sources : Sources) → ShapesFit variables sources.shapes
    → (y : Name) (h : Home) → find y (scope_of sources).homes ≡ Some h
    → is_too_large h.dims ≡ false
home_small variables sources fits y h e =
    (lies (scope_of sources).homes (scope_of sources).top y h
    (shapes_laid variables sources.shapes record { homes = []; top = 0 } fits tt) e).fits

pub home_below : (variables : ℕ) (sources : Sources) → ShapesFit variables sources.shapes
    → (n : ℕ) (h : Home) → find (Variable n) (scope_of sources).homes ≡ Some h → n < variables
home_below variables sources fits =
    shapes_below variables sources.shapes record { homes = []; top = 0 } fits (λ n h e. cc)

-- as many sources as values
sources_long : (vs : List Value) (xs : List Source) → length (sources_of vs xs) ≡ length vs
sources_long [] xs = refl
sources_long (v ∷ vs) [] = ap (λ n. suc n) (sources_long vs [])
sources_long (v ∷ vs) (x ∷ xs) = ap (λ n. suc n) (sources_long vs xs)

pub variables_long : (ds : List Datum) (xs : List (List Source))
    → length (variable_sources ds xs) ≡ length ds
variables_long [] xs = refl
variables_long (d ∷ ds) [] = ap (λ n. suc n) (variables_long ds [])
variables_long (d ∷ ds) (x ∷ xs) = ap (λ n. suc n) (variables_long ds xs)

-- a variable that has a home has all its elements
pub elements_are : (step : Step) (sources : Sources) (x : Emission)
    → step.variables ≡ variable_sources (known_in x).frame.variables x.sources
    → (n : ℕ) (h : Home) → HasArray step sources (Variable n) h
    → length (variable_at (known_in x).frame n).items ≡ slots_of h.dims
elements_are step sources x same n h a =
    let s : List _ = variable_sources (known_in x).frame.variables x.sources in
    let b : Beside (variable_at (known_in x).frame n) (sourced s n) =
    sources_beside (known_in x).frame.variables x.sources n in
    omega (
      arith,
      a.count,
      ap (λ d. length d.items) a.is,
      map_long source_input (sourced step.variables n).items,
      ap (λ v. length (sourced v n).items) same,
      ap (λ ys. length ys) b.items,
      sources_long (variable_at (known_in x).frame n).items b.others,
    )

-- the elements of variables that have homes
both_fit : (homes : Homes) (ts us : List Element) → TargetsFit homes ts → TargetsFit homes us
    → TargetsFit homes (ts ++ us)
both_fit homes [] us h g = g
both_fit homes (t ∷ ts) us h g = (h.0, both_fit homes ts us h.1 g)

row_fits : (homes : Homes) (n : ℕ) (h : Home) → find (Variable n) homes ≡ Some h
    → (count first : ℕ) → first + count ≤ slots_of h.dims
    → TargetsFit homes (elements_at n (numbers_from first count))
row_fits homes n h e zero first le = tt
row_fits homes n h e (suc count) first le = (
  record { home = h; found = e; within = omega (arith, le) },
  row_fits homes n h e count (first + 1) (omega (arith, le)),
)

pub wanted_fit : (homes : Homes) (s : State)
    → ((n : ℕ) (h : Home) → find (Variable n) homes ≡ Some h
    → length (variable_at s.frame n).items ≡ slots_of h.dims)
    → (ns : List ℕ) → ((n : ℕ) → In n ns → (h : Home) × (find (Variable n) homes ≡ Some h))
    → TargetsFit homes (all_elements (wanted_of ns s))
wanted_fit homes s long [] has = tt
wanted_fit homes s long (n ∷ ns) has =
    let h : (h : Home) × (find (Variable n) homes ≡ Some h) =
    has n (or_left (n == n) _ (eq-eqb n n refl)) in
    both_fit homes (elements_at n (numbers_from 0 (length (variable_at s.frame n).items)))
    (all_elements (wanted_of ns s))
    (row_fits homes n h.0 h.1 (length (variable_at s.frame n).items) 0
    (omega (arith, long n h.0 h.1)))
    (wanted_fit homes s long ns (λ m i. has m (or_right (n == m) _ i)))

-- the places that indices mean are places of the array
numbers_less : (first count most : ℕ) → first + count ≤ most
    → AllByRecursion (λ p. p < most) (numbers_from first count)
numbers_less first zero most h = tt
numbers_less first (suc count) most h =
    (omega (arith, h), numbers_less (first + 1) count most (omega (arith, h)))

row_less : (i d p n : ℕ) → i < d → p < n → i * n + p < d * n
row_less i zero p n l h = absurd (omega (arith, l))
row_less zero (suc d) p n l h = omega (arith, h, zero-mul n, suc-mul d n)
row_less (suc i) (suc d) p n l h =
    omega (arith, row_less i d p n (omega (arith, l)) h, suc-mul i n, suc-mul d n)

rows_less : (i d n : ℕ) (ps : List ℕ) → i < d → AllByRecursion (λ p. p < n) ps
    → AllByRecursion (λ p. p < d * n) (map (λ p. i * n + p) ps)
rows_less i d n [] l h = tt
rows_less i d n (p ∷ ps) l h = (row_less i d p n l h.0, rows_less i d n ps l h.1)

all_rows_less : (d n : ℕ) (ps is : List ℕ) → AllByRecursion (λ p. p < n) ps
    → AllByRecursion (λ i. i < d) is
    → AllByRecursion (λ p. p < d * n) (flat_map (λ i. map (λ p. i * n + p) ps) is)
all_rows_less d n ps [] h g = tt
all_rows_less d n ps (i ∷ is) h g =
    all_append (λ p. p < d * n) (map (λ p. i * n + p) ps) _ (rows_less i d n ps g.0 h)
    (all_rows_less d n ps is h g.1)

places_less : (dims : List ℕ) (os : List (Option ℕ)) → is_inside dims os ≡ true
    → AllByRecursion (λ p. p < elements dims) (places_of dims os)
places_less dims [] h = numbers_less 0 (elements dims) (elements dims) (omega arith)
places_less [] (o ∷ os) h = tt
places_less (d ∷ ds) (Some i ∷ os) h =
    let two : (nat_lt i d ≡ true) × (is_inside ds os ≡ true) = and_parts (nat_lt i d) _ h in
    rows_less i d (elements ds) (places_of ds os) (ltb-true i d two.0) (places_less ds os two.1)
places_less (d ∷ ds) (None ∷ os) h =
    all_rows_less d (elements ds) (places_of ds os) (numbers_from 0 d) (places_less ds os h)
    (numbers_less 0 d d (omega arith))

pub reach_less : (want : Want) (dims : List ℕ) (os : List (Option ℕ)) (r : Reach)
    → Reaches want dims os r → AllByRecursion (λ p. p < elements dims) r.places
reach_less want dims os r h = at (is_inside dims os) refl
  where
    at : (b : Bool) → is_inside dims os ≡ b → AllByRecursion (λ p. p < elements dims) r.places
    at true e =
        subst (AllByRecursion (λ p. p < elements dims)) (sym (h.places e)) (places_less dims os e)
    at false e = subst (AllByRecursion (λ p. p < elements dims)) (sym (h.outside e)) tt

filtered_less : (test : ℕ → Bool) (most : ℕ) (ps : List ℕ) → AllByRecursion (λ p. p < most) ps
    → AllByRecursion (λ p. p < most) (filter test ps)
filtered_less test most [] h = tt
filtered_less test most (p ∷ ps) h =
    at (test p) (filter test ps) (filtered_less test most ps h.1)
  where
    at : (b : Bool) (rest : List ℕ) → AllByRecursion (λ p. p < most) rest
        → AllByRecursion (λ p. p < most) (cond b (p ∷ rest) rest)
    at true rest g = (h.0, g)
    at false rest g = g

places_fit : (homes : Homes) (n : ℕ) (h : Home) → find (Variable n) homes ≡ Some h
    → (ps : List ℕ) → AllByRecursion (λ p. p < slots_of h.dims) ps
    → TargetsFit homes (elements_at n ps)
places_fit homes n h e [] l = tt
places_fit homes n h e (p ∷ ps) l =
    (record { home = h; found = e; within = l.0 }, places_fit homes n h e ps l.1)

-- the elements that an assignment gives
pub written_fit : (homes : Homes) (n : ℕ) (h : Home) (a : VariableAssignment)
    → find (Variable n) homes ≡ Some h → is_too_large h.dims ≡ false
    → (variable_at a.state.frame n).dims ≡ h.dims
    → length (variable_at a.state.frame n).items ≡ slots_of h.dims
    → AllByRecursion (λ p. p < elements (variable_at a.state.frame n).dims) a.reach.places
    → TargetsFit homes (elements_at n (new_places n a))
written_fit homes n h a e small dims long less =
    places_fit homes n h e (new_places n a)
    (filtered_less _ (slots_of h.dims) (written_places n a) (at a.reach.is_sure))
  where
    slots : elements (variable_at a.state.frame n).dims ≡ slots_of h.dims
    slots = ap elements dims ∙ ap (λ b. cond b 0 (elements h.dims)) (sym small)

    at : (b : Bool) → AllByRecursion (λ p. p < slots_of h.dims)
        (cond b a.reach.places (numbers_from 0 (length (variable_at a.state.frame n).items)))
    at true = subst (λ m. AllByRecursion (λ p. p < m) a.reach.places) slots less
    at false =
        numbers_less 0 (length (variable_at a.state.frame n).items) (slots_of h.dims)
        (omega (arith, long))
