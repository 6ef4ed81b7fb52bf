-- The frame shows what the step reads, once its sources are loaded.
use Rattle.std.proofs.Common.{◌≡◌, ℕ, zero, suc, ◌+◌, ◌<◌, ◌≤◌, Bool, true, false, cond, List, []}
use Rattle.std.proofs.Common.{◌∷◌, ◌++◌, length, map, replicate, Option, Some, None, Err, refl, sym}
use Rattle.std.proofs.Common.{ap, ap₂, subst, ◌∙◌, arith, length-set, inl, inr}
use Rattle.std.specs.Prelude.{slice_get, slice_index, slice_set, unwrap_or, ◌==◌, ◌&&◌}
use Rattle.std.proofs.lemmas.Bool.{and_parts, eqb-true, eqb-false}
use Rattle.std.proofs.lemmas.List.{length-replicate}
use Rattle.wit_code.specs.declared.code.Op.{Op}
use Rattle.cir_meaning.specs.Places.{is_inside, numbers_from}
use Rattle.cir_meaning.specs.Arrays.{single}
use Rattle.cir_meaning.specs.RunValues.{Ran, Numbers, Environment, Store, stored, option_at}
use Rattle.cir_meaning.specs.RunValues.{index_out}
use Rattle.cir_meaning.specs.RunBodies.{or_else}
use Rattle.wit_lower.specs.Homes.{Name, Variable, Signal, Port, same_name, Home, Homes, Scope}
use Rattle.wit_lower.specs.Homes.{Ground, find, slots_of, offset, row}
use Rattle.wit_lower.specs.Sources.{Shape, Input, Constant, Cell, Source, Sources, homes_from}
use Rattle.wit_lower.specs.Sources.{scope_of, load_code, source_code, sources_code, input_of}
use Rattle.wit_lower.specs.Sources.{number_at, number_from, read_as, read_at, signal_at, or_missing}
use Rattle.wit_lower.specs.Sources.{environment_of, all_numbers, store_of}
use Rattle.wit_lower.specs.Fits.{AreLaid}
use Rattle.wit_lower.specs.Steps.{IsBelow, ShapesFit, SourcesFit}
use Rattle.wit_lower.proofs.Does.{HasAt}
use Rattle.wit_lower.proofs.Frames.{set_same, set_other, row_index, row_length}
use Rattle.wit_lower.proofs.Spots.{IsWide}
use Rattle.wit_lower.proofs.Shows.{Carries, CarriesSome, CarriesFound, Held, Shows, KnownAt}
use Rattle.wit_lower.proofs.Names.{same_name_is, same_name_itself, apart}

-- the homes of shapes
pub shapes_laid : (variables : ℕ) (xs : List Shape) (s : Scope) → ShapesFit variables xs
    → AreLaid s.homes s.top → AreLaid (homes_from xs s).homes (homes_from xs s).top
shapes_laid variables [] s fits l = l
shapes_laid variables (x ∷ xs) s (small, below, fits) l =
    shapes_laid variables xs record {
      homes = record { name = x.name; home = record { base = s.top; dims = x.dims } } ∷ s.homes;
      top = s.top + slots_of x.dims;
    } fits (omega arith, small, l)

abbrev pub AreBelow : (variables : ℕ) → Homes → Type 0
AreBelow variables homes = (n : ℕ) (h : Home) → find (Variable n) homes ≡ Some h → n < variables

pub shapes_below : (variables : ℕ) (xs : List Shape) (s : Scope) → ShapesFit variables xs
    → AreBelow variables s.homes → AreBelow variables (homes_from xs s).homes
shapes_below variables [] s fits b = b
shapes_below variables (x ∷ xs) s (small, below, fits) b =
    shapes_below variables xs record {
      homes = record { name = x.name; home = home } ∷ s.homes;
      top = s.top + slots_of x.dims;
    } fits (λ n h e. at n h (same_name (Variable n) x.name) refl e)
  where
    home : Home
    home = record { base = s.top; dims = x.dims }

    at : (n : ℕ) (h : Home) (t : Bool) → same_name (Variable n) x.name ≡ t
        → cond t (Some home) (find (Variable n) s.homes) ≡ Some h → n < variables
    at n h true et e =
        subst (IsBelow variables) (sym (same_name_is (Variable n) x.name et)) below
    at n h false et e = b n h e

-- what stands in a frame once the sources are loaded
abbrev pub loaded_one : Option Home → Source → (cells : ℕ → ℕ) → (f : List ℕ) → List ℕ
loaded_one None x cells f = f
loaded_one (Some h) x cells f = slice_set f (h.base + x.element) (number_at cells x.input)

abbrev pub loaded : Homes → List Source → (cells : ℕ → ℕ) → (f : List ℕ) → List ℕ
loaded homes [] cells f = f
loaded homes (x ∷ xs) cells f =
    loaded homes xs cells (loaded_one (find x.name homes) x cells f)

-- each source has its slot in the frame
abbrev pub HaveSlots : Homes → (width : ℕ) → List Source → Type 0
HaveSlots homes width [] = Unit {0}
HaveSlots homes width (x ∷ xs) =
    ((h : Home) → find x.name homes ≡ Some h → h.base + x.element < width) ×
    HaveSlots homes width xs

pub have_slots : (params : ℕ → ℕ) (width : ℕ) (body : List Op) → IsWide params width body
    → (reads : List ℕ) (homes : Homes) (xs : List Source) (p : ℕ)
    → HasAt body p (sources_code reads homes xs) → HaveSlots homes width xs
have_slots params width body wide reads homes [] p at = tt
have_slots params width body wide reads homes (x ∷ xs) p at = (
  λ h e. here (find x.name homes) h e at,
  rest (find x.name homes) (λ q a. have_slots params width body wide reads homes xs q a) at,
)
  where
    loads : (i : Input) (s : ℕ) → slice_get body p ≡ Some (load_code reads i s) → s < width
    loads (Constant v) s e = let room : s + 1 ≤ width = wide p _ e in omega (arith, room)
    loads (Cell c) s e = let room : s + 1 ≤ width = wide p _ e in omega (arith, room)

    here : (o : Option Home) (h : Home) → o ≡ Some h
        → HasAt body p (source_code reads o x ++ sources_code reads homes xs)
        → h.base + x.element < width
    here None h e at = cc
    here (Some j) h e (first, at) =
        let same : j ≡ h = cc in
        subst (λ z. z.base + x.element < width) same (loads x.input (j.base + x.element) first)

    rest : (o : Option Home)
        → ((q : ℕ) → HasAt body q (sources_code reads homes xs) → HaveSlots homes width xs)
        → HasAt body p (source_code reads o x ++ sources_code reads homes xs)
        → HaveSlots homes width xs
    rest None others at = others p at
    rest (Some j) others (first, at) = others (p + 1) at

-- an element's slot has its number, or what was there
abbrev loaded_number : (cells : ℕ → ℕ) → Option Input → (old : ℕ) → ℕ
loaded_number cells None old = old
loaded_number cells (Some input) old = number_at cells input

module _ (homes : Homes) (top : ℕ) (laid : AreLaid homes top) (width : ℕ) (cells : ℕ → ℕ) where
  loaded_at : (xs : List Source) (f : List ℕ) → SourcesFit homes xs → HaveSlots homes width xs
      → length f ≡ width → (x : Name) (h : Home) → find x homes ≡ Some h → (k : ℕ)
      → k < slots_of h.dims
      → slice_index (loaded homes xs cells f) (h.base + k)
      ≡ loaded_number cells (input_of x xs k) (slice_index f (h.base + k))
  loaded_at [] f fits slots len x h ex k lk = refl
  loaded_at (y ∷ ys) f (fy, fits) (sy, slots) len x h ex k lk =
      ap (λ o. slice_index (loaded homes ys cells (loaded_one o y cells f)) (h.base + k)) fy.found ∙
      loaded_at ys f1 fits slots (length-set f slot v ∙ len) x h ex k lk ∙
      last (input_of x ys k)
    where
      slot : ℕ
      slot = fy.home.base + y.element

      v : ℕ
      v = number_at cells y.input

      f1 : List ℕ
      f1 = slice_set f slot v

      within : slot < length f
      within = let room : slot < width = sy fy.home fy.found in omega (arith, room, len)

      -- both names are the same, so both homes are
      one_home : x ≡ y.name → fy.home ≡ h
      one_home e =
          let there : find y.name homes ≡ Some h = subst (λ z. find z homes ≡ Some h) e ex in
          let same : Some fy.home ≡ Some h = sym fy.found ∙ there in
          cc

      written : same_name x y.name ≡ true → (k == y.element) ≡ true
          → slice_index f1 (h.base + k) ≡ v
      written en ek =
          let home : fy.home ≡ h = one_home (same_name_is x y.name en) in
          let at : slot ≡ h.base + k =
          ap₂ (λ z i. z.base + i) home (sym (eqb-true k y.element ek)) in
          ap (slice_index f1) (sym at) ∙ set_same f slot v within

      apart_from : (t : Bool) → same_name x y.name ≡ t → (t && (k == y.element)) ≡ false
          → h.base + k ≡ slot → ⊥
      apart_from true en e at =
          let home : fy.home ≡ h = one_home (same_name_is x y.name en) in
          let bases : fy.home.base ≡ h.base = ap (λ z. z.base) home in
          eqb-false k y.element e (omega (arith, at, bases))
      apart_from false en e at =
          elim (apart homes top x y.name h fy.home laid ex fy.found
          (λ same. differ (sym en ∙ ap (same_name x) (sym same) ∙ same_name_itself x))) [
            | inl a ↦ omega (arith, a, at, lk)
            | inr a ↦ let inside : y.element < slots_of fy.home.dims = fy.within in
                omega (arith, a, at, inside)
          ]
        where
          differ : false ≡ true → ⊥
          differ e = cc

      at_last : (b : Bool) → (same_name x y.name && (k == y.element)) ≡ b
          → slice_index f1 (h.base + k)
          ≡ loaded_number cells (cond b (Some y.input) None) (slice_index f (h.base + k))
      at_last true e =
          let parts : (same_name x y.name ≡ true) × ((k == y.element) ≡ true) =
          and_parts (same_name x y.name) (k == y.element) e in
          written parts.0 parts.1
      at_last false e =
          set_other f slot (h.base + k) v (apart_from (same_name x y.name) refl e)

      last : (o : Option Input) → loaded_number cells o (slice_index f1 (h.base + k))
          ≡ loaded_number cells (or_else o
          (cond (same_name x y.name && (k == y.element)) (Some y.input) None))
          (slice_index f (h.base + k))
      last (Some i) = refl
      last None = at_last (same_name x y.name && (k == y.element)) refl

zeros_at : (n k : ℕ) → slice_index (replicate n 0) k ≡ 0
zeros_at zero k = refl
zeros_at (suc n) zero = refl
zeros_at (suc n) (suc k) = zeros_at n k

pub get_map : {A : Type 0} (F : ℕ → A) (o m k : ℕ) → k < m
    → slice_get (map F (numbers_from o m)) k ≡ Some (F (o + k))
get_map F o zero k l = absurd (omega (arith, l))
get_map F o (suc m) zero l = let e : o ≡ o + 0 = omega arith in ap (λ i. Some (F i)) e
get_map F o (suc m) (suc k) l =
    let e : o + 1 + k ≡ o + suc k = omega arith in
    get_map F (o + 1) m k (omega (arith, l)) ∙ ap (λ i. Some (F i)) e

-- the variables with which a step begins
pub stored_is : (sources : Sources) (cells : ℕ → ℕ) (variables n : ℕ) → n < variables
    → stored (store_of sources cells variables) n
    ≡ all_numbers (signal_at sources cells (Variable n))
stored_is sources cells variables n l =
    let z : 0 + n ≡ n = omega arith in
    ap (λ o. unwrap_or o (single 0))
    (get_map (λ i. all_numbers (signal_at sources cells (Variable i))) 0 variables n l ∙
    ap (λ i. Some (all_numbers (signal_at sources cells (Variable i)))) z)

-- what the step reads, as its loaded frame shows it
module _ (sources : Sources) (cells : ℕ → ℕ) (call : ℕ → List Numbers → ℕ → Ran Numbers)
    (variables : ℕ) (shapes : ShapesFit variables sources.shapes)
    (fits : SourcesFit (scope_of sources).homes sources.list) (width : ℕ)
    (slots : HaveSlots (scope_of sources).homes width sources.list) where
  pub step_laid : AreLaid (scope_of sources).homes (scope_of sources).top
  step_laid = shapes_laid variables sources.shapes record { homes = []; top = 0 } shapes tt

  abbrev homes : Homes
  homes = (scope_of sources).homes

  abbrev frame : List ℕ
  frame = loaded (scope_of sources).homes sources.list cells (replicate width 0)

  abbrev env : Environment
  env = environment_of sources cells call

  abbrev store : Store
  store = store_of sources cells variables

  abbrev from : Name → ℕ → Option ℕ
  from x k = number_from cells (input_of x sources.list k)

  frame_at : (x : Name) (h : Home) → find x homes ≡ Some h → (k : ℕ) → k < slots_of h.dims
      → slice_index frame (h.base + k) ≡ loaded_number cells (input_of x sources.list k) 0
  frame_at x h ex k lk =
      loaded_at homes (scope_of sources).top step_laid width cells sources.list
      (replicate width 0) fits slots (length-replicate width 0) x h ex k lk ∙
      ap (loaded_number cells (input_of x sources.list k)) (zeros_at width (h.base + k))

  some_number : (o : Option Input) (n : ℕ) → number_from cells o ≡ Some n
      → loaded_number cells o 0 ≡ n
  some_number None n e = cc
  some_number (Some i) n e = cc

  any_number : (o : Option Input) → unwrap_or (number_from cells o) 0 ≡ loaded_number cells o 0
  any_number None = refl
  any_number (Some i) = refl

  frame_row : (x : Name) (h : Home) → find x homes ≡ Some h → (o m : ℕ) → o + m ≤ slots_of h.dims
      → map (λ e. unwrap_or e 0) (map (from x) (numbers_from o m)) ≡ row frame (h.base + o) m
  frame_row x h ex o zero le = refl
  frame_row x h ex o (suc m) le =
      let e : h.base + (o + 1) ≡ h.base + o + 1 = omega arith in
      ap₂ (λ n ns. n ∷ ns)
      (any_number (input_of x sources.list o) ∙ sym (frame_at x h ex o (omega (arith, le))))
      (frame_row x h ex (o + 1) m (omega (arith, le)) ∙ ap (λ b. row frame b m) e)

  carries : (x : Name) (h : Home) → find x homes ≡ Some h
      → Carries (read_as sources cells x h) h.dims (row frame h.base (slots_of h.dims))
  carries x h ex = record { dims' = refl; each = each }
    where
      size : ℕ
      size = slots_of h.dims

      each : (k n : ℕ) → k < length (row frame h.base size)
          → option_at (map (from x) (numbers_from 0 size)) k ≡ Some n
          → slice_index (row frame h.base size) k ≡ n
      each k n l e =
          let inside : k < size = omega (arith, l, row_length frame h.base size) in
          let z : 0 + k ≡ k = omega arith in
          let is : from x k ≡ Some n =
          sym (ap (λ o. unwrap_or o (Some 0)) (get_map (from x) 0 size k inside ∙
          ap (λ i. Some (from x i)) z)) ∙ e in
          row_index frame h.base size k inside ∙ frame_at x h ex k inside ∙
          some_number (input_of x sources.list k) n is

  each_held : (x : Name) (h : Home) → find x homes ≡ Some h
      → Held sources.components env store x h.dims (row frame h.base (slots_of h.dims))
  each_held (Variable n) h ex =
      let z : h.base + 0 ≡ h.base = omega arith in
      stored_is sources cells variables n
      (shapes_below variables sources.shapes record { homes = []; top = 0 } shapes (λ m j e. cc) n
      h ex) ∙
      ap (λ o. all_numbers (read_at sources cells (Variable n) o)) ex ∙
      ap (λ ns. record { dims = h.dims; items = ns })
      (frame_row (Variable n) h ex 0 (slots_of h.dims) (omega arith) ∙
      ap (λ b. row frame b (slots_of h.dims)) z)
  each_held (Signal n) h ex =
      subst (λ o. CarriesSome (read_at sources cells (Signal n) o) h.dims
      (row frame h.base (slots_of h.dims))) (sym ex) (carries (Signal n) h ex)
  each_held (Port n j name) h ex = λ indices inside at.
      subst (λ b. CarriesFound (cond b
      (or_missing (signal_at sources cells (Port n (offset (sources.components n) indices) name)))
      (Err index_out)) h.dims (row frame h.base (slots_of h.dims))) (sym inside)
      (subst (λ i. CarriesFound (or_missing (signal_at sources cells (Port n i name))) h.dims
      (row frame h.base (slots_of h.dims))) (sym at)
      (subst (λ o. CarriesFound (or_missing (read_at sources cells (Port n j name) o)) h.dims
      (row frame h.base (slots_of h.dims))) (sym ex) (carries (Port n j name) h ex)))

  pub step_shows : (g : Ground) → g.components ≡ sources.components → g.called ≡ sources.called
      → KnownAt g env store → Shows g env homes store frame
  step_shows g same valued known = record {
    each = λ x h ex. subst (λ c. Held c env store x h.dims (row frame h.base (slots_of h.dims)))
        (sym same) (each_held x h ex);
    outside = λ n indices name e. ap (λ b. cond b
        (or_missing (signal_at sources cells (Port n (offset (sources.components n) indices) name)))
        (Err index_out))
        (ap (λ c. is_inside (c n) (map Some indices)) (sym same) ∙ e);
    known = known;
    called = λ e. ap (λ c. c e) (sym valued);
  }
