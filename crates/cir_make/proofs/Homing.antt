-- The arrays of a step stand in the homes that its shapes have.
use Rattle.std.proofs.Common.{◌≡◌, ◌∙◌, ℕ, zero, suc, ◌+◌, ◌≤◌, ◌==◌, Bool, true, false, cond, List}
use Rattle.std.proofs.Common.{[], ◌∷◌, ◌++◌, map, length, Option, Some, None, Err, arith, refl, sym}
use Rattle.std.proofs.Common.{ap, subst, slice_get, slice_index}
use Rattle.std.specs.Prelude.{◌&&◌, not, option_map}
use Rattle.std.specs.List.{AllByRecursion}
use Rattle.std.proofs.lemmas.Bool.{and_parts, eqb-true, eq-eqb, ne_eqb}
use Rattle.cir_frame.specs.declared.frame.ComponentEntry.{ComponentEntry as Declared}
use Rattle.cir_frame.specs.declared.frame.Frame.{Frame}
use Rattle.cir_frame.specs.Shown.{component_of}
use Rattle.cir_meaning.specs.Frame.{ComponentEntry, Part, SignalEntry, State, entry_at, is_inner}
use Rattle.cir_meaning.specs.Reading.{find_signal}
use Rattle.cir_meaning.specs.Places.{is_inside, places_of}
use Rattle.cir_meaning.specs.Run.{RunPart, component_signal, found_port, part_signal, port_of}
use Rattle.cir_meaning.specs.RunBodies.{or_else}
use Rattle.cir_meaning.specs.RunValues.{index_out}
use Rattle.cir_steps.specs.Step as S
use Rattle.wit_lower.specs.Homes.{Home, Name, Scope, find, same_name, slots_of}
use Rattle.wit_lower.specs.Sources.{Input, Source, Sources, homes_from, input_of, scope_of}
use Rattle.wit_lower.specs.Steps.{ShapesFit}
use Rattle.wit_lower.proofs.Names.{same_name_is}
use Rattle.wit_sourced.specs.Loaded.{components_in}
use Rattle.wit_sourced.specs.Shown.{sought_name}
use Rattle.cir_emit.specs.Lowered.{HasArray, IsIn}
use Rattle.cir_emit.specs.Sourced.{AreSized}
use Rattle.cir_make.specs.declared.arrays.StepArray.{StepArray}
use Rattle.cir_make.specs.declared.cells.Cells.{Cells}
use Rattle.cir_make.specs.declared.make.Before.{Before}
use Rattle.cir_make.specs.Arrays.{AreArrays, IsArrayOf, IsSizedBy, StandsIn, found_input, input_in}
use Rattle.cir_make.specs.Arrays.{last_named, shape_by}

-- ---- the last of a name
abbrev dims_found : Option StepArray → Option (List ℕ)
dims_found o = option_map (λ a. a.dims.now) o

abbrev dims_homed : Option Home → Option (List ℕ)
dims_homed o = option_map (λ h. h.dims) o

last_homed : (arrays : List StepArray) (s : Scope) (f : Option StepArray) (x : Name)
    → dims_homed (find x s.homes) ≡ dims_found f
    → dims_homed (find x (homes_from (map shape_by arrays) s).homes)
    ≡ dims_found (last_named x arrays f)
last_homed [] s f x e = e
last_homed (a ∷ rest) s f x e =
    last_homed rest record {
      homes = record {
        name = sought_name a.name;
        home = record { base = s.top; dims = a.dims.now };
      } ∷ s.homes;
      top = s.top + slots_of a.dims.now;
    } (cond (same_name x (sought_name a.name)) (Some a) f) x (at (same_name x (sought_name a.name)))
  where
    at : (b : Bool) → dims_homed (cond b (Some record { base = s.top; dims = a.dims.now })
        (find x s.homes)) ≡ dims_found (cond b (Some a) f)
    at true = refl
    at false = e

record IsLast (P : StepArray → Type 0) (x : Name) (a : StepArray) : Type 0 where
  pub told : P a
  pub named : x ≡ sought_name a.name

last_told : (P : StepArray → Type 0) (arrays : List StepArray) (f : Option StepArray) (x : Name)
    (a : StepArray) → AllByRecursion P arrays
    → ((b : StepArray) → f ≡ Some b → IsLast P x b)
    → last_named x arrays f ≡ Some a → IsLast P x a
last_told P [] f x a all first e = first a e
last_told P (b ∷ rest) f x a all first e =
    last_told P rest (cond (same_name x (sought_name b.name)) (Some b) f) x a all.1
    (λ y h. at (same_name x (sought_name b.name)) refl y h) e
  where
    at : (t : Bool) → same_name x (sought_name b.name) ≡ t → (y : StepArray)
        → cond t (Some b) f ≡ Some y → IsLast P x y
    at true et y h =
        let same : b ≡ y = cc in
        subst (IsLast P x) same
        record { told = all.0; named = same_name_is x (sought_name b.name) et }
    at false et y h = first y h

-- ---- what the sources have of an element
input_found : (inputs : Name → ℕ → Option Input) (list : List Source) (x : Name) (k : ℕ)
    (i : Input) → AllByRecursion (λ s. inputs s.name s.element ≡ Some s.input) list
    → input_of x list k ≡ Some i → inputs x k ≡ Some i
input_found inputs [] x k i all e = cc
input_found inputs (s ∷ list) x k i all e =
    at (input_of x list k) (λ h. input_found inputs list x k i all.1 h)
    (same_name x s.name && (k == s.element)) refl e
  where
    at : (o : Option Input) → (o ≡ Some i → inputs x k ≡ Some i) → (b : Bool)
        → (same_name x s.name && (k == s.element)) ≡ b
        → or_else o (cond b (Some s.input) None) ≡ Some i → inputs x k ≡ Some i
    at (Some j) earlier b eb h = earlier h
    at None earlier true eb h =
        let parts : (same_name x s.name ≡ true) × ((k == s.element) ≡ true) =
        and_parts (same_name x s.name) (k == s.element) eb in
        ap (λ y. inputs y k) (same_name_is x s.name parts.0)
        ∙ ap (inputs s.name) (eqb-true k s.element parts.1) ∙ all.0 ∙ h
    at None earlier false eb h = cc

-- ---- each home has its array
module _ (step : S.Step) (sources : Sources) (arrays : List StepArray)
    (shapes : sources.shapes ≡ map shape_by arrays)
    (are : AllByRecursion (IsArrayOf step sources.components) arrays)
    (from : AllByRecursion (λ s. input_in arrays s.name s.element ≡ Some s.input) sources.list)
  where
    pub arrays_there : (x : Name) (h : Home) → find x (scope_of sources).homes ≡ Some h
        → HasArray step sources x h
    arrays_there x h e = at (last_named x arrays None) refl dims
      where
        dims : Some h.dims ≡ dims_found (last_named x arrays None)
        dims =
            ap dims_homed (sym e)
            ∙ ap (λ ss. dims_homed (find x (homes_from ss record { homes = []; top = 0 }).homes))
            shapes
            ∙ last_homed arrays record { homes = []; top = 0 } None x refl

        at : (o : Option StepArray) → last_named x arrays None ≡ o → Some h.dims ≡ dims_found o
            → HasArray step sources x h
        at None eo d = cc
        at (Some a) eo d =
            let same : h.dims ≡ a.dims.now = cc in
            let l = last_told (IsArrayOf step sources.components) arrays None x a are
            (λ b no. cc) eo in
            let t = l.told in record {
              array = t.array;
              is = subst (λ y. IsIn step sources.components y t.array) (sym l.named) t.is;
              dims = t.stands.dims ∙ sym same;
              count = t.stands.count ∙ ap slots_of (sym same);
              each = λ k i h.
                  t.stands.each k i (ap (λ o. found_input o k) (sym eo)
                  ∙ input_found (input_in arrays) sources.list x k i from h);
            }

pub shapes_fit : (step : S.Step) (components : ℕ → List ℕ) (arrays : List StepArray)
    → AllByRecursion (IsArrayOf step components) arrays
    → ShapesFit (length step.variables) (map shape_by arrays)
shapes_fit step components [] all = tt
shapes_fit step components (a ∷ rest) all =
    (all.0.stands.small, all.0.below, shapes_fit step components rest all.1)

-- ---- arrays of components
abbrev dims_at : Option Declared → List ℕ
dims_at None = []
dims_at (Some c) = c.dims.items

shown_at : (cs : List (Option Declared)) (n : ℕ)
    → entry_at (map (option_map component_of) cs) n ≡ option_map component_of (entry_at cs n)
shown_at [] n = refl
shown_at (None ∷ rest) zero = refl
shown_at (Some c ∷ rest) zero = refl
shown_at (o ∷ rest) (suc n) = shown_at rest n

components_at : (cs : List (Option Declared)) (n : ℕ)
    → components_in cs n ≡ dims_at (entry_at cs n)
components_at [] n = refl
components_at (None ∷ rest) zero = refl
components_at (Some c ∷ rest) zero = refl
components_at (o ∷ rest) (suc n) = components_at rest n

pub frame_sized : (f : Frame) → IsSizedBy f (components_in f.components.items)
frame_sized f = record {
  there = λ n c e.
      components_at f.components.items n ∙ some (entry_at f.components.items n) c
      (sym (shown_at f.components.items n) ∙ e);
  none = λ n e.
      components_at f.components.items n ∙ none (entry_at f.components.items n)
      (sym (shown_at f.components.items n) ∙ e);
}
  where
    some : (o : Option Declared) (c : ComponentEntry) → option_map component_of o ≡ Some c
        → dims_at o ≡ c.dims
    some None c e = cc
    some (Some d) c e =
        let same : component_of d ≡ c = cc in ap (λ (x : ComponentEntry). x.dims) same

    none : (o : Option Declared) → option_map component_of o ≡ None → dims_at o ≡ []
    none None e = refl
    none (Some d) e = cc

-- ---- which indices are outside
module _ (s : State) (parts : List RunPart) (name : List ℕ) where
  found_never : (r : RunPart) (o : Option (ℕ × SignalEntry))
      → found_port r.ports o ≡ Err index_out → ⊥
  found_never r None e = cc
  found_never r (Some x) e = cc

  port_never : (p : Option Part) (r : Option RunPart) → port_of name p r ≡ Err index_out → ⊥
  port_never None r e = cc
  port_never (Some p) None e = cc
  port_never (Some p) (Some r) e =
      found_never r (find_signal (λ e. not (is_inner e.direction)) name 0 p.signals) e

  part_never : (o : Option ℕ) → part_signal s parts name o ≡ Err index_out → ⊥
  part_never None e = cc
  part_never (Some j) e = port_never (slice_get s.frame.parts j) (slice_get parts j) e

  inside_never : (b : Bool) (o : Option ℕ)
      → cond b (part_signal s parts name o) (Err index_out) ≡ Err index_out → b ≡ false
  inside_never true o e = absurd (part_never o e)
  inside_never false o e = refl

  no_entry : (indices : List ℕ) → component_signal s parts None indices name ≡ Err index_out → ⊥
  no_entry indices e = cc

unsized : (indices : List ℕ) → is_inside [] (map Some indices) ≡ true
unsized [] = refl
unsized (i ∷ rest) = refl

pub are_sized : (f : Frame) (cells : Cells) (befores : List Before) (step : S.Step)
    (components : ℕ → List ℕ) → StandsIn f cells befores step → IsSizedBy f components
    → AreSized step components
are_sized f cells befores step components stands sized = record {
  outside = λ n indices name e.
      stands.part n indices name ∙ out n indices name (entry n) refl e;
  inside = λ n indices name e.
      within n indices name (entry n) refl (sym (stands.part n indices name) ∙ e);
}
  where
    entry : ℕ → Option ComponentEntry
    entry n = entry_at (map (option_map component_of) f.components.items) n

    out : (n : ℕ) (indices name : List ℕ) (o : Option ComponentEntry) → entry n ≡ o
        → is_inside (components n) (map Some indices) ≡ false
        → component_signal stands.state stands.parts o indices name ≡ Err index_out
    out n indices name None eo e =
        let no : true ≡ false = sym (unsized indices)
        ∙ ap (λ (ds : List ℕ). is_inside ds (map Some indices)) (sym (sized.none n eo)) ∙ e in cc
    out n indices name (Some c) eo e =
        ap (λ b. cond b (part_signal stands.state stands.parts name
        (entry_at c.parts (slice_index (places_of c.dims (map Some indices)) 0)))
        (Err index_out))
        (ap (λ (ds : List ℕ). is_inside ds (map Some indices)) (sym (sized.there n c eo)) ∙ e)

    within : (n : ℕ) (indices name : List ℕ) (o : Option ComponentEntry) → entry n ≡ o
        → component_signal stands.state stands.parts o indices name ≡ Err index_out
        → is_inside (components n) (map Some indices) ≡ false
    within n indices name None eo e =
        absurd (no_entry stands.state stands.parts name indices e)
    within n indices name (Some c) eo e =
        ap (λ (ds : List ℕ). is_inside ds (map Some indices)) (sized.there n c eo)
        ∙ inside_never stands.state stands.parts name
        (is_inside c.dims (map Some indices))
        (entry_at c.parts (slice_index (places_of c.dims (map Some indices)) 0)) e

-- ---- one more array
all_more : {A : Type 0} (P : A → Type 0) (xs : List A) (x : A) → AllByRecursion P xs → P x
    → AllByRecursion P (xs ++ x ∷ [])
all_more P [] x all p = (p, tt)
all_more P (y ∷ xs) x all p = (all.0, all_more P xs x all.1 p)

pub arrays_more : (f : Frame) (c : Cells) (befores : List Before) (arrays : List StepArray)
    (a : StepArray) → AreArrays f c befores arrays
    → ((step : S.Step) (components : ℕ → List ℕ) → StandsIn f c befores step
    → IsSizedBy f components → IsArrayOf step components a)
    → AreArrays f c befores (arrays ++ a ∷ [])
arrays_more f c befores arrays a are is step components stands sized =
    all_more (IsArrayOf step components) arrays a (are step components stands sized)
    (is step components stands sized)
