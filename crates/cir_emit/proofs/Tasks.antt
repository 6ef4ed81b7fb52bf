-- A task gives the same where all that it may read is loaded.
use Rattle.std.proofs.Common.{◌≡◌, ℕ, zero, suc, ◌+◌, ◌<◌, ◌≤◌, max, Bool, true, false, cond, List}
use Rattle.std.proofs.Common.{[], ◌∷◌, length, map, drop, Option, Some, None, Ok, Err, refl, sym}
use Rattle.std.proofs.Common.{ap, ap₂, subst, ◌∙◌, arith, inl, inr, ◌⊎◌}
use Rattle.std.specs.Prelude.{slice_index, slice_set, is_some, fold, not, filter, ◌==◌}
use Rattle.std.specs.List.{AllByRecursion, list_any}
use Rattle.std.proofs.lemmas.Bool.{cases_lt, cases_eq, ltb-false, le-ltb, and_parts, eqb-true}
use Rattle.std.proofs.lemmas.List.{get_or_past}
use Rattle.cir_ast.specs.declared.program.Meant.{Meant}
use Rattle.cir_ast.specs.declared.program.Meant.TheVariants as meant
use Rattle.cir_ast.specs.Tree.{Expr, Accessors, done, index, member, Assign, Set, Compound, Left}
use Rattle.cir_ast.specs.Tree.{Increment, Decrement}
use Rattle.cir_meaning.specs.Tried.{next}
use Rattle.cir_meaning.specs.Limits.{is_too_large}
use Rattle.cir_meaning.specs.Places.{elements, is_inside, all_known, followed as known_first}
use Rattle.cir_meaning.specs.Places.{places_of}
use Rattle.cir_meaning.specs.Texts.{indices_of, plain_wanted}
use Rattle.cir_meaning.specs.Reached.{indices_count}
use Rattle.cir_meaning.specs.RunValues.{Ran, Numbers, Environment, Store, stored, gives, number}
use Rattle.cir_meaning.specs.RunValues.{number_in, the_number, constraint_fails, index_out}
use Rattle.cir_meaning.specs.RunStatements.{step_goes, step_plain}
use Rattle.cir_meaning.specs.RunBodies.{store_in}
use Rattle.wit_lower.specs.Homes.{Variable, Home, Homes, Ground, find, slots_of, offset}
use Rattle.wit_lower.specs.Tasks.{Element, numbers_wanted, element_in, done_by, Gives, Equal}
use Rattle.wit_lower.specs.Fits.{Fits, IndicesFit, PlainFits, SetFits, TestFits, AreLaid}
use Rattle.wit_lower.specs.Steps.{TargetFits, TargetsFit, AllTests}
use Rattle.wit_lower.proofs.Shows.{lies}
use Rattle.wit_lower.proofs.Parts.{slots_are}
use Rattle.wit_lower.proofs.Places.{checked, checked_is, checked_fits, places_are}
use Rattle.wit_lower.proofs.Exprs.{Agree, agree_all}
use Rattle.wit_lower.proofs.Scopes.{stored_same as stored_set, stored_other}
use Rattle.cir_emit.specs.Reads.{Reading, sure_places, is_written, targets_kept, kept, expr_reads}
use Rattle.cir_emit.proofs.Lists.{all_mapped, from_long}
use Rattle.cir_emit.proofs.Arrays.{SameNumbers}
use Rattle.cir_emit.proofs.Values.{Alike, Shared, SameStores, Outer, expr_same, number_same}
use Rattle.cir_emit.proofs.Values.{reading}
use Rattle.cir_emit.proofs.Shapes.{Shapely, HasShape, expr_shape}
use Rattle.cir_emit.proofs.Stores.{Twin, twin_set, with_part, put_at, put_there}

-- arrays that agree at all their elements
pub whole_same : (P : ℕ → Type 0) (dims : List ℕ) (a b : Numbers) → SameNumbers P dims a b
    → ((k : ℕ) → k < slots_of dims → P k) → (k : ℕ)
    → slice_index a.items k ≡ slice_index b.items k
whole_same P dims a b s all k =
    elim (cases_lt k (slots_of dims)) [
      | inl l ↦ s.each k (all k l)
      | inr l ↦
          get_or_past a.items k 0 (omega (arith, l, s.long)) ∙
          sym (get_or_past b.items k 0 (omega (arith, l, s.other_long)))
    ]

pub same_weaker : (P Q : ℕ → Type 0) (dims : List ℕ) (a b : Numbers) → SameNumbers P dims a b
    → ((k : ℕ) → Q k → slice_index a.items k ≡ slice_index b.items k) → SameNumbers Q dims a b
same_weaker P Q dims a b s each = record {
  first = s.first;
  second = s.second;
  long = s.long;
  other_long = s.other_long;
  each = each;
}

-- a part of an array that is not too large isn't
most_grows : (a b : ℕ) (xs : List ℕ) → a ≤ b → fold max a xs ≤ fold max b xs
most_grows a b [] le = le
most_grows a b (x ∷ xs) le = most_grows (max a x) (max b x) xs (omega (arith, le))

most_left : (c : ℕ) (dims : List ℕ) → fold max 0 (drop c dims) ≤ fold max 0 dims
most_left zero dims = omega arith
most_left (suc c) [] = omega arith
most_left (suc c) (d ∷ ds) =
    let more : fold max 0 ds ≤ fold max (max 0 d) ds = most_grows 0 (max 0 d) ds (omega arith) in
    omega (arith, most_left c ds, more)

left_small : (dims is : List ℕ) → length is ≤ length dims → is_inside dims (map Some is) ≡ true
    → is_too_large dims ≡ false → is_too_large (drop (length is) dims) ≡ false
left_small dims is le inside small =
    let h : max (elements dims) (fold max 0 dims) ≤ 1048576 =
    ltb-false 1048576 (max (elements dims) (fold max 0 dims)) small in
    let tested : checked dims is ≡ Ok (offset dims is) =
    checked_is dims is ∙ ap (λ b. cond b (Ok (offset dims is)) (Err index_out)) inside in
    let few : offset dims is + elements (drop (length is) dims) ≤ elements dims =
    checked_fits dims is (offset dims is) le tested in
    le-ltb 1048576
    (max (elements (drop (length is) dims)) (fold max 0 (drop (length is) dims)))
    (omega (arith, h, few, most_left (length is) dims))

-- indices that are all known are the known ones
pub all_known_are : (os : List (Option ℕ)) (ns : List ℕ) → all_known os ≡ Some ns → os ≡ map Some ns
all_known_are [] ns e = let same : [] ≡ ns = cc in ap (map Some) same
all_known_are (None ∷ os) ns e = cc
all_known_are (Some n ∷ os) ns e = at (all_known os) (λ ms x. all_known_are os ms x) refl e
  where
    at : (o : Option (List ℕ)) → ((ms : List ℕ) → all_known os ≡ Some ms → os ≡ map Some ms)
        → all_known os ≡ o → known_first n o ≡ Some ns → Some n ∷ os ≡ map Some ns
    at None h eo e = cc
    at (Some ms) h eo e =
        let same : n ∷ ms ≡ ns = cc in
        ap (λ xs. Some n ∷ xs) (h ms eo) ∙ ap (map Some) same

sure_are : (dims : List ℕ) (os : List (Option ℕ)) (is : List ℕ) (k : ℕ) → Agree os is
    → list_any (λ p. p == k) (cond (is_some (all_known os)) (places_of dims os) []) ≡ true
    → list_any (λ p. p == k) (places_of dims (map Some is)) ≡ true
sure_are dims os is k a h = at (all_known os) refl h
  where
    at : (o : Option (List ℕ)) → all_known os ≡ o
        → list_any (λ p. p == k) (cond (is_some o) (places_of dims os) []) ≡ true
        → list_any (λ p. p == k) (places_of dims (map Some is)) ≡ true
    at None e h = cc
    at (Some ns) e h =
        let same : os ≡ map Some is =
        all_known_are os ns e ∙ ap (map Some) (sym (agree_all os is ns a e)) in
        ap (λ xs. list_any (λ p. p == k) (places_of dims xs)) (sym same) ∙ h

agree_long : (os : List (Option ℕ)) (is : List ℕ) → Agree os is → length is ≡ length os
agree_long [] [] a = refl
agree_long [] (i ∷ is) a = absurd a
agree_long (o ∷ os) [] a = absurd a
agree_long (o ∷ os) (i ∷ is) a = ap (λ n. suc n) (agree_long os is a.1)

count_is : (g : Ground) (homes : Homes) (rest : Accessors Meant) → IndicesFit g homes rest
    → length (map g.known (indices_of rest)) ≡ indices_count rest
count_is g homes done fits = refl
count_is g homes (index e rest) (fe, fr) =
    let more : suc (indices_count rest) ≡ 1 + indices_count rest = omega arith in
    ap (λ n. suc n) (count_is g homes rest fr) ∙ more
count_is g homes (member name rest) fits = absurd fits

-- a target is loaded, or surely written
abbrev pub IsKept : (Reading → Type 0) → (Element → Bool) → List Element → Type 0
IsKept Loaded is_written targets =
    AllByRecursion (λ t. (is_written t ≡ true) ⊎ Loaded (reading (Variable t.variable) t.element))
    targets

pub kept_all : (Loaded : Reading → Type 0) (test : Element → Bool) (targets : List Element)
    → AllByRecursion Loaded (targets_kept (filter (λ t. not (test t)) targets))
    → IsKept Loaded test targets
kept_all Loaded test [] h = tt
kept_all Loaded test (t ∷ ts) h =
    at (λ rest. kept_all Loaded test ts rest) (test t) refl h
  where
    at : (AllByRecursion Loaded (targets_kept (filter (λ t. not (test t)) ts))
        → IsKept Loaded test ts) → (b : Bool) → test t ≡ b
        → AllByRecursion Loaded (targets_kept (cond (not b) (t ∷ filter (λ t. not (test t)) ts)
        (filter (λ t. not (test t)) ts)))
        → IsKept Loaded test (t ∷ ts)
    at later true e h = (inl e, later h)
    at later false e h = (inr h.0, later h.1)

abbrev tested : ℕ → ℕ → ℕ → Ran (Unit {0})
tested m n w = cond (m == n) (Ok (tt, w)) (Err constraint_fails)

module _ (g : Ground) (homes : Homes) (top : ℕ) (laid : AreLaid homes top) (Loaded : Reading
    → Type 0)
    (one two : Environment) (alike : Alike g homes Loaded one two) (store other : Store)
    (sizes : length store ≡ length other) (shapely : Shapely g homes one store)
    (stores : (n : ℕ) (h : Home) → find (Variable n) homes ≡ Some h
    → SameNumbers (λ k. Loaded (reading (Variable n) k)) h.dims (stored store n) (stored other n))
  where
    abbrev No : ℕ → Type 0
    No n = ⊥

    outer : Outer No homes homes
    outer x h e = inr e

    shared : SameStores Loaded No homes store other
    shared n h e =
        same_weaker (λ k. Loaded (reading (Variable n) k)) (Shared Loaded No n) h.dims
        (stored store n) (stored other n) (stores n h e)
        (λ k s. elim s [
          | inl w ↦ absurd w
          | inr l ↦ (stores n h e).each k l
        ])

    abbrev Covered : Expr Meant → Type 0
    Covered e = AllByRecursion Loaded (expr_reads g homes e)

    -- an assignment alone
    module _ (n : ℕ) (accessors : Accessors Meant) (e : Expr Meant) (free : ℕ → Type 0)
        (fits : SetFits free g homes n accessors e) (room : n < length store) where
      abbrev h : Home
      h = fits.home

      abbrev known : List (Option ℕ)
      known = map g.known (indices_of accessors)

      target_same : (t : Element) → TargetFits homes t
          → (is_written g homes (Set [] (meant.Variable n) accessors e) t ≡ true)
          ⊎ Loaded (reading (Variable t.variable) t.element)
          → (x : Numbers) (is : List ℕ) → HasShape (drop (indices_count accessors) h.dims) x
          → Agree known is → is_inside h.dims (map Some is) ≡ true
          → element_in (slice_set store n (with_part (stored store n)
          (places_of h.dims (map Some is)) x)) t
          ≡ element_in (slice_set other n (with_part (stored other n)
          (places_of h.dims (map Some is)) x)) t
      target_same t ft kept x is shape agree inside =
          elim (cases_eq t.variable n) [
            | inl same ↦
                ap (λ m. slice_index (stored (slice_set store n new) m).items t.element) same ∙
                ap (λ d. slice_index d.items t.element) (stored_set store n new room) ∙
                here same kept ∙
                sym (ap (λ m. slice_index (stored (slice_set other n new') m).items t.element) same
                ∙
                ap (λ d. slice_index d.items t.element)
                (stored_set other n new' (omega (arith, room, sizes))))
            | inr differ ↦
                ap (λ d. slice_index d.items t.element)
                (stored_other store n t.variable new differ) ∙ there differ kept ∙
                sym (ap (λ d. slice_index d.items t.element)
                (stored_other other n t.variable new' differ))
          ]
        where
          places : List ℕ
          places = places_of h.dims (map Some is)

          new : Numbers
          new = with_part (stored store n) places x

          new' : Numbers
          new' = with_part (stored other n) places x

          old : SameNumbers (λ k. Loaded (reading (Variable n) k)) h.dims (stored store n)
              (stored other n)
          old = stores n h fits.found

          long : length (stored store n).items ≡ length (stored other n).items
          long = old.long ∙ sym old.other_long

          count : length is ≡ indices_count accessors
          count = agree_long known is agree ∙ count_is g homes accessors fits.indices

          few : length places ≤ length x.items
          few =
              let rank : length is ≤ length h.dims = omega (arith, count, fits.rank) in
              let left : drop (length is) h.dims ≡ drop (indices_count accessors) h.dims =
              ap (λ c. drop c h.dims) count in
              let size : length places ≡ elements (drop (length is) h.dims) =
              ap length (places_are h.dims is rank)
              ∙ from_long _ (elements (drop (length is) h.dims)) in
              let small : is_too_large (drop (length is) h.dims) ≡ false =
              left_small h.dims is rank inside
              (lies homes top (Variable n) h laid fits.found).fits in
              let slots : slots_of (drop (length is) h.dims) ≡ elements (drop (length is) h.dims) =
              slots_are (drop (length is) h.dims) small in
              let same : slots_of (drop (length is) h.dims)
              ≡ slots_of (drop (indices_count accessors) h.dims) = ap slots_of left in
              omega (arith, size, slots, same, shape.long)

          here : t.variable ≡ n
              → (is_written g homes (Set [] (meant.Variable n) accessors e) t ≡ true)
              ⊎ Loaded (reading (Variable t.variable) t.element)
              → slice_index new.items t.element ≡ slice_index new'.items t.element
          here same (inr l) =
              put_at places x.items (stored store n).items (stored other n).items t.element long
              (old.each t.element (subst (λ m. Loaded (reading (Variable m) t.element)) same l))
          here same (inl w) =
              let two_parts = and_parts (n == t.variable) _ w in
              let sure : list_any (λ k. k == t.element)
              (cond (is_some (all_known known)) (places_of h.dims known) []) ≡ true =
              subst (λ o. list_any (λ k. k == t.element) (sure_places o known) ≡ true) fits.found
              two_parts.1 in
              let home : ft.home ≡ h =
              (let both_are : Some ft.home ≡ Some h =
              sym ft.found ∙ ap (λ m. find (Variable m) homes) same ∙ fits.found in cc) in
              let within : t.element < slots_of h.dims =
              subst (λ z. t.element < slots_of z.dims) home ft.within in
              put_there places x.items (stored store n).items (stored other n).items t.element long
              (omega (arith, within, old.long)) few (sure_are h.dims known is t.element agree sure)

          there : (t.variable ≡ n → ⊥)
              → (is_written g homes (Set [] (meant.Variable n) accessors e) t ≡ true)
              ⊎ Loaded (reading (Variable t.variable) t.element)
              → slice_index (stored store t.variable).items t.element
              ≡ slice_index (stored other t.variable).items t.element
          there differ (inr l) = (stores t.variable ft.home ft.found).each t.element l
          there differ (inl w) =
              absurd (differ (sym (eqb-true n t.variable (and_parts (n == t.variable) _ w).0)))

      targets_same : (targets : List Element) → TargetsFit homes targets
          → IsKept Loaded (is_written g homes (Set [] (meant.Variable n) accessors e)) targets
          → (x : Numbers) (is : List ℕ) → HasShape (drop (indices_count accessors) h.dims) x
          → Agree known is → is_inside h.dims (map Some is) ≡ true
          → map (element_in (slice_set store n (with_part (stored store n)
          (places_of h.dims (map Some is)) x))) targets
          ≡ map (element_in (slice_set other n (with_part (stored other n)
          (places_of h.dims (map Some is)) x))) targets
      targets_same [] ft kept x is shape agree inside = refl
      targets_same (t ∷ ts) (ft, fts) kept x is shape agree inside =
          ap₂ (λ y ys. y ∷ ys) (target_same t ft kept.0 x is shape agree inside)
          (targets_same ts fts kept.1 x is shape agree inside)

    expr_alike : (e : Expr Meant) (u : ℕ) → Fits g homes e → Covered e
        → number_in one store e u ≡ number_in two other e u
    expr_alike e u fits covered =
        expr_same g homes Loaded No one two alike homes outer store other shared shapely.known e u
        fits
        covered

    pub gives_same : (e : Expr Meant) (u : ℕ) → Fits g homes e → Covered e
        → done_by one store (Gives e) u ≡ done_by two other (Gives e) u
    gives_same e u fits covered =
        ap (λ m. next m (λ x. gives x.0.items x.1)) (expr_alike e u fits covered)

    pub equal_same : (a b : Expr Meant) (u : ℕ) → TestFits g homes a → TestFits g homes b
        → Covered a → Covered b → done_by one store (Equal a b) u ≡ done_by two other (Equal a b) u
    equal_same a b u fa fb ca cb =
        ap (λ m. next m (λ x. gives [] x.1))
        (number_same (number_in one store a u) (number_in two other a u)
        (λ m v. number (number_in one store b v) (λ n w. tested m n w))
        (λ m v. number (number_in two other b v) (λ n w. tested m n w))
        (expr_alike a u fa.0 ca)
        (λ x ex. ap (λ m. number m (λ n w. tested (the_number x.0) n w))
        (expr_alike b x.1 fb.0 cb)))

    pub lines_same : (es : List (Expr Meant)) (u : ℕ) → AllTests g homes es
        → AllByRecursion Covered es
        → numbers_wanted one store es u ≡ numbers_wanted two other es u
    lines_same [] u fits covered = refl
    lines_same (e ∷ es) u (fe, fs) covered =
        number_same (number_in one store e u) (number_in two other e u)
        (λ n v. next (numbers_wanted one store es v) (λ y. gives (n ∷ y.0) y.1))
        (λ n v. next (numbers_wanted two other es v) (λ y. gives (n ∷ y.0) y.1))
        (expr_alike e u fe.0 covered.0)
        (λ x ex. ap (λ m. next m (λ y. gives (the_number x.0 ∷ y.0) y.1))
        (lines_same es x.1 fs covered.1))

    goes_same : (targets : List Element) (m n : Ran Store)
        → Twin (λ s t. map (element_in s) targets ≡ map (element_in t) targets) m n
        → next (step_goes m) (λ x. gives (map (element_in (store_in x.0 store)) targets) x.1)
        ≡ next (step_goes n) (λ x. gives (map (element_in (store_in x.0 other)) targets) x.1)
    goes_same targets (Ok x) (Ok y) (s, e) = ap₂ (λ xs u. gives xs u) s e
    goes_same targets (Ok x) (Err t) h = absurd h
    goes_same targets (Err s) (Ok y) h = absurd h
    goes_same targets (Err s) (Err t) e = ap (λ x. Err x) e

    pub assign_same : (p : Assign Meant) (free : ℕ → Type 0) (targets : List Element) (u : ℕ)
        → ((n : ℕ) → free n → n < length store) → PlainFits free g homes p
        → AllByRecursion (λ w. Covered w.expr) (plain_wanted p) → TargetsFit homes targets
        → IsKept Loaded (is_written g homes p) targets
        → next (step_goes (step_plain one p store u))
        (λ x. gives (map (element_in (store_in x.0 store)) targets) x.1)
        ≡ next (step_goes (step_plain two p other u))
        (λ x. gives (map (element_in (store_in x.0 other)) targets) x.1)
    assign_same (Set name (meant.Variable n) accessors e) free targets u room fits covered ft kept =
        goes_same targets (step_plain one (Set name (meant.Variable n) accessors e) store u)
        (step_plain two (Set name (meant.Variable n) accessors e) other u)
        (twin_set g homes Loaded No one two alike homes outer store other shared shapely.known
        (λ s t. map (element_in s) targets ≡ map (element_in t) targets) n fits.home accessors e u
        fits.found fits.value fits.indices covered.0
        (all_mapped (λ w. Covered w.expr) _ (indices_of accessors) covered.1)
        (λ x is ex agree inside.
        targets_same n accessors e free fits (room n fits.may) targets ft kept x.0 is
        (subst (λ ds. HasShape ds x.0) fits.shape
        (expr_shape g homes one store shapely e u x fits.value ex)) agree inside))
    assign_same (Set name meant.Other accessors e) free targets u room fits covered ft kept =
        absurd fits
    assign_same (Set name (meant.Signal d n) accessors e) free targets u room fits covered ft kept =
        absurd fits
    assign_same (Set name (meant.Component n) accessors e) free targets u room fits covered ft
        kept =
        absurd fits
    assign_same (Set name (meant.Template n) accessors e) free targets u room fits covered ft kept =
        absurd fits
    assign_same (Set name (meant.Function n) accessors e) free targets u room fits covered ft kept =
        absurd fits
    assign_same (Compound name m accessors o e) free targets u room fits covered ft kept =
        absurd fits
    assign_same (Left name m accessors arrow e) free targets u room fits covered ft kept =
        absurd fits
    assign_same (Increment name m accessors) free targets u room fits covered ft kept = absurd fits
    assign_same (Decrement name m accessors) free targets u room fits covered ft kept = absurd fits
