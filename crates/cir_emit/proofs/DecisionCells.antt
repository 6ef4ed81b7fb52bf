-- What the step of an undecided statement counts as read, of its own variables as they stand before
-- it, tells which cells the step reads.
use Rattle.std.proofs.Common.{◌≡◌, ℕ, zero, suc, ◌+◌, ◌<◌, Bool, true, false, cond, List, [], ◌∷◌}
use Rattle.std.proofs.Common.{length, flat_map, Option, Some, None, refl, sym, ap, subst, ◌∙◌}
use Rattle.std.proofs.Common.{arith}
use Rattle.std.specs.Prelude.{slice_get, slice_index_or, filter, not, ◌==◌, ◌||◌}
use Rattle.std.specs.List.{AllByRecursion, list_any}
use Rattle.std.proofs.lemmas.Bool.{eqb-true}
use Rattle.cir_ast.specs.declared.program.Spot.{Spot}
use Rattle.cir_ast.specs.declared.program.Meant.{Meant}
use Rattle.cir_ast.specs.Tree.{Statement}
use Rattle.cir_meaning.specs.Tried.{Where}
use Rattle.cir_meaning.specs.Limits.{is_too_large}
use Rattle.cir_meaning.specs.Places.{elements, numbers_from}
use Rattle.cir_meaning.specs.Arrays.{item_at, is_known}
use Rattle.cir_meaning.specs.Values.{Value, Known, Linear, Quadratic, Opaque}
use Rattle.cir_meaning.specs.Costs.{Cell as Read, Element, unknown_at, cost_of}
use Rattle.cir_meaning.specs.Frame.{State, Context, Part, variable_at}
use Rattle.cir_meaning.specs.Run.{RunPart}
use Rattle.cir_meaning.specs.Steps.{is_outer, start_reads, undecided_cost}
use Rattle.cir_meaning.specs.Texts.{wanted_in}
use Rattle.cir_meaning.specs.Unknown.{writes, declares, outer_assigned}
use Rattle.cir_steps.specs.Step.{Constant, Cell, Work, LogPart, listed}
use Rattle.cir_steps.specs.Emission.{Emission, known_in, cells_in, cells_of, each_once, step_of}
use Rattle.cir_steps.proofs.ReadCells.{IsTabled}
use Rattle.wit_lower.specs.Homes.{Name, Variable, Home, Homes, find, slots_of}
use Rattle.wit_lower.specs.Sources.{Cell as CellInput, Sources, scope_of, input_of}
use Rattle.wit_lower.proofs.Listed.{In}
use Rattle.wit_lower.proofs.Parts.{slots_are}
use Rattle.cir_emit.specs.Lowered.{HasArray}
use Rattle.cir_emit.specs.Sourced.{AreSized}
use Rattle.cir_emit.proofs.Cells.{AreIn, IsCellRead, cells_counted, cells_led, element_cell}
use Rattle.cir_emit.proofs.Counted.{AreLed}
use Rattle.cir_emit.proofs.Emitted.{IsFrom, step_stands}
use Rattle.cir_emit.proofs.Forgotten.{in_rising, in_filter}
use Rattle.cir_emit.proofs.Lists.{all_front, all_back, all_number}
use Rattle.cir_emit.proofs.Sharpened.{unknown_all}
use Rattle.cir_emit.proofs.Values.{reading}

unfiltered : {A : Type 0} (P : A → Type 0) (test : A → Bool) (xs : List A)
    → AllByRecursion P (filter test xs) → AllByRecursion (λ x. test x ≡ true → P x) xs
unfiltered P test [] h = tt
unfiltered P test (x ∷ xs) h = by (test x) refl h (unfiltered P test xs)
  where
    by : (b : Bool) → test x ≡ b
        → AllByRecursion P (cond b (x ∷ filter test xs) (filter test xs))
        → (AllByRecursion P (filter test xs) → AllByRecursion (λ x. test x ≡ true → P x) xs)
        → (test x ≡ true → P x) × AllByRecursion (λ x. test x ≡ true → P x) xs
    by true e g go = ((λ t. g.0), go g.1)
    by false e g go = ((λ t. cc), go g)

get_less : {A : Type 0} (xs : List A) (k : ℕ) (a : A) → slice_get xs k ≡ Some a → k < length xs
get_less [] k a e = cc
get_less (x ∷ xs) zero a e = omega arith
get_less (x ∷ xs) (suc k) a e =
    let less : k < length xs = get_less xs k a e in omega (arith, less)

-- the variables that it may assign are read as they stand before it
start_told : (P : Read → Type 0) (s : State) (ns : List ℕ) (n p : ℕ) → In n ns
    → p < elements (variable_at s.frame n).dims
    → is_known (item_at (variable_at s.frame n).items p) ≡ false
    → AllByRecursion P (start_reads ns s) → P (Element n p)
start_told P s [] n p i less unknown h = cc
start_told P s (m ∷ ns) n p i less unknown h =
    at (m == n) refl i (λ j. start_told P s ns n p j less unknown (all_back P (own m) _ h))
  where
    own : ℕ → List Read
    own m =
        unknown_at m (variable_at s.frame m)
        (numbers_from 0 (elements (variable_at s.frame m).dims))

    Told : ℕ → Type 0
    Told q = is_known (item_at (variable_at s.frame n).items q) ≡ false → P (Element n q)

    at : (b : Bool) → (m == n) ≡ b → (b || list_any (λ j. j == n) ns) ≡ true
        → (In n ns → P (Element n p)) → P (Element n p)
    at true e j go =
        let all : AllByRecursion P (own n) =
        subst (λ i. AllByRecursion P (own i)) (eqb-true m n e) (all_front P (own m) _ h) in
        let same : 0 + p ≡ p = omega arith in
        subst Told same
        (all_number Told 0 (elements (variable_at s.frame n).dims) p less
        (unknown_all P n (variable_at s.frame n).items
        (numbers_from 0 (elements (variable_at s.frame n).dims)) all)) unknown
    at false e j go = go j

module _ (k : Context) (w : Where) (a : Statement Spot Meant) (work : Work) (targets : List ℕ)
    (line : Option (List LogPart)) (x : Emission) (sources : Sources) (s t : State)
    (changed : List ℕ) (from : IsFrom x s t changed (scope_of sources).homes)
    (arrays : (y : Name) (h : Home) → find y (scope_of sources).homes ≡ Some h
    → HasArray (step_of k w s (undecided_cost k w a (known_in x) s) work targets line x) sources y
    h)
    (components : AreSized
    (step_of k w s (undecided_cost k w a (known_in x) s) work targets line x) sources.components)
    (runs : (j : ℕ) (p : Part) → slice_get s.frame.parts j ≡ Some p
    → (r : RunPart) × (slice_get x.cells.parts j ≡ Some r))
    (small : (y : Name) (h : Home) → find y (scope_of sources).homes ≡ Some h
    → is_too_large h.dims ≡ false)
    (signals_are : (known_in x).frame.signals ≡ t.frame.signals)
    (parts_are : (known_in x).frame.parts ≡ t.frame.parts) (tabled : IsTabled x)
    (fresh : (n : ℕ) → In n (declares a) → find (Variable n) (scope_of sources).homes ≡ None)
  where
    abbrev homes : Homes
    homes = (scope_of sources).homes

    abbrev reads : List ℕ
    reads = flat_map (cells_of x) (each_once (undecided_cost k w a (known_in x) s).reads)

    abbrev IsReadAll : Read → Type 0
    IsReadAll c = AreIn reads (cells_of x c)

    -- of its own variables nothing is counted that a statement reads
    abbrev pub IsOuterRead : Read → Type 0
    IsOuterRead c = is_outer a c ≡ true → IsReadAll c

    abbrev wanted_reads : List Read
    wanted_reads = flat_map (λ z. (cost_of k w true z.expr s).reads) (wanted_in a)

    every : AllByRecursion IsReadAll (undecided_cost k w a (known_in x) s).reads
    every = cells_counted x (undecided_cost k w a (known_in x) s).reads

    starts : AllByRecursion IsReadAll (start_reads (outer_assigned a) (known_in x))
    starts =
        all_front IsReadAll (start_reads (outer_assigned a) (known_in x))
        (filter (is_outer a) wanted_reads) every

    pub wanted_counted : AllByRecursion IsOuterRead wanted_reads
    wanted_counted =
        unfiltered IsReadAll (is_outer a) wanted_reads
        (all_back IsReadAll (start_reads (outer_assigned a) (known_in x))
        (filter (is_outer a) wanted_reads) every)

    -- a variable that it neither declares nor may assign is an outer one
    outer_element : (n p : ℕ) (h : Home) → find (Variable n) homes ≡ Some h
        → list_any (λ m. m == n) (outer_assigned a) ≡ false → is_outer a (Element n p) ≡ true
    outer_element n p h found outside =
        at (list_any (λ m. m == n) (declares a)) refl (list_any (λ m. m == n) (writes a)) refl
      where
        at : (d : Bool) → list_any (λ m. m == n) (declares a) ≡ d → (v : Bool)
            → list_any (λ m. m == n) (writes a) ≡ v → not (list_any (λ m. m == n) (writes a)
            || list_any (λ m. m == n) (declares a)) ≡ true
        at true ed v ev = let there : None ≡ Some h = sym (fresh n ed) ∙ found in cc
        at false ed true ev =
            let inside : In n (outer_assigned a) =
            in_rising n _ (in_filter (λ m. not (list_any (λ j. j == m) (declares a))) n (writes a)
            ev (ap not ed)) in cc
        at false ed false ev =
            ap (λ b. not (b || list_any (λ m. m == n) (declares a))) ev ∙ ap not ed

    module _ (n : ℕ) (h : Home) (p c : ℕ) (found : find (Variable n) homes ≡ Some h)
        (given : input_of (Variable n) sources.list p ≡ Some (CellInput c)) where
      its : (is_known (item_at (variable_at (known_in x).frame n).items p) ≡ false)
          × (slice_index_or (listed x.sources n) p (Constant 0) ≡ Cell c)
      its =
          element_cell k w (undecided_cost k w a (known_in x) s) work targets line x sources s t
          changed from arrays components runs small signals_are parts_are tabled n h p c found given

      less : p < slots_of h.dims
      less =
          let z = arrays (Variable n) h found in
          let below : p < length z.array.items =
          get_less z.array.items p _ (z.each p (CellInput c) given) in omega (arith, below, z.count)

      unknown : is_known (item_at (variable_at t.frame n).items p) ≡ false
      unknown = by (item_at (variable_at t.frame n).items p) refl
        where
          by : (v : Value) → item_at (variable_at t.frame n).items p ≡ v → is_known v ≡ false
          by (Known m) e =
              let there : is_known (item_at (variable_at (known_in x).frame n).items p) ≡ true =
              ap is_known (from.known n h p m found less e).1 in
              sym there ∙ its.0
          by (Linear f) e = refl
          by (Quadratic f g q) e = refl
          by Opaque e = refl

      start_read : In n (outer_assigned a) → IsReadAll (Element n p)
      start_read i =
          let dims : (variable_at (known_in x).frame n).dims ≡ h.dims =
          sym (from.dims n) ∙
          (step_stands k w (undecided_cost k w a (known_in x) s) work targets line x sources s t
          changed from arrays components runs small).variable n h found in
          start_told IsReadAll (known_in x) (outer_assigned a) n p i
          (omega (arith, less, slots_are h.dims (small (Variable n) h found), ap elements dims))
          its.0 starts

      cell_read : IsReadAll (Element n p) → In c reads
      cell_read told = (subst (λ z. AreIn reads (cells_in z)) its.1 told).0

      element_read : (is_known (item_at (variable_at t.frame n).items p) ≡ false
          → IsOuterRead (Element n p)) → In c reads
      element_read told = cell_read (by (list_any (λ m. m == n) (outer_assigned a)) refl)
        where
          by : (b : Bool) → list_any (λ m. m == n) (outer_assigned a) ≡ b
              → IsReadAll (Element n p)
          by true e = start_read e
          by false e = told unknown (outer_element n p h found e)

    -- an outer variable that it may assign, whatever it keeps of it
    pub outer_read : (n p : ℕ) (h : Home) → find (Variable n) homes ≡ Some h
        → In n (outer_assigned a) → IsCellRead sources reads (reading (Variable n) p)
    outer_read n p h found i c given =
        cell_read n h p c found given (start_read n h p c found given i)

    pub decision_led : AreLed w t homes IsOuterRead (IsCellRead sources reads)
    decision_led =
        cells_led k w (undecided_cost k w a (known_in x) s) work targets line x sources s t changed
        from arrays components runs small signals_are parts_are tabled reads IsOuterRead
        (λ j told. told refl) (λ n h p found told c given. element_read n h p c found given told)
