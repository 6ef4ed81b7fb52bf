-- What a step reads is what its sources have, at the elements that are loaded.
use Rattle.std.proofs.Common.{◌≡◌, ℕ, zero, suc, ◌+◌, ◌<◌, Bool, true, false, cond, List, [], ◌∷◌}
use Rattle.std.proofs.Common.{length, map, Option, Some, None, Result, Ok, Err, refl, sym, ap}
use Rattle.std.proofs.Common.{subst, ◌∙◌, arith}
use Rattle.std.specs.Prelude.{slice_get, slice_index, unwrap_or, ◌==◌, ◌&&◌}
use Rattle.std.specs.List.{AllByRecursion}
use Rattle.std.proofs.lemmas.Option.{slice_get_within, unwrap_or-slice_get}
use Rattle.cir_meaning.specs.Places.{is_inside, places_of, left_of, numbers_from}
use Rattle.cir_meaning.specs.Arrays.{Shaped, single, made}
use Rattle.cir_meaning.specs.Tried.{next}
use Rattle.cir_meaning.specs.RunValues.{Ran, Numbers, Environment, stored, option_at, all_there}
use Rattle.cir_meaning.specs.RunValues.{bounded, read_stored, read_wired, gives, index_out}
use Rattle.cir_meaning.specs.RunBodies.{or_else}
use Rattle.cir_meaning.specs.Costs.{Made}
use Rattle.cir_steps.specs.Step.{Source, Constant, Cell, Step}
use Rattle.cir_steps.specs.RunSteps.{Cells, in_cell, from, shaped_map, environment_at, store_at}
use Rattle.cir_steps.specs.RunSteps.{Calling, signal_numbers, part_numbers}
use Rattle.wit_lower.specs.Homes.{Name, Variable, Signal, Port, same_name, Home, Homes, find}
use Rattle.wit_lower.specs.Homes.{offset, slots_of}
use Rattle.wit_lower.specs.Sources.{Input, Constant as ConstantInput, Cell as CellInput}
use Rattle.wit_lower.specs.Sources.{Source as Given, Sources, scope_of, input_of, cells_read}
use Rattle.wit_lower.specs.Sources.{read_as, number_at, number_from, element_of, environment_of}
use Rattle.wit_lower.specs.Sources.{store_of, all_numbers, read_at, signal_at, or_missing}
use Rattle.wit_lower.proofs.Shown.{get_map, stored_is}
use Rattle.wit_lower.proofs.CellsRead.{IsRead, AreRead, all_read}
use Rattle.cir_emit.specs.Lowered.{source_input, cell_input, sourced, HasArray, IsLoaded}
use Rattle.cir_emit.specs.Lowered.{IsLoweredStep, HaveNumbers}
use Rattle.cir_emit.proofs.Lists.{all_weaker, map_same, Mapped, get_mapped, map_get, map_long}

-- two arrays of some dimensions that agree at some elements
pub record SameWires (P : ℕ → Type 0) (dims : List ℕ) (a b : Shaped (Option ℕ)) : Type 0 where
  pub first : a.dims ≡ dims
  pub second : b.dims ≡ dims
  pub each : (k : ℕ) → P k → option_at a.items k ≡ option_at b.items k

pub record WirePair (P : ℕ → Type 0) (dims : List ℕ) (a b : Option (Shaped (Option ℕ))) : Type 0
  where
    pub one : Shaped (Option ℕ)
    pub two : Shaped (Option ℕ)
    pub is_one : a ≡ Some one
    pub is_two : b ≡ Some two
    pub same : SameWires P dims one two

pub record PortPair (P : ℕ → Type 0) (dims : List ℕ) (a b : Result (Shaped (Option ℕ)) ℕ) : Type 0
  where
    pub one : Shaped (Option ℕ)
    pub two : Shaped (Option ℕ)
    pub is_one : a ≡ Ok one
    pub is_two : b ≡ Ok two
    pub same : SameWires P dims one two

pub record SameNumbers (P : ℕ → Type 0) (dims : List ℕ) (a b : Numbers) : Type 0 where
  pub first : a.dims ≡ dims
  pub second : b.dims ≡ dims
  pub long : length a.items ≡ slots_of dims
  pub other_long : length b.items ≡ slots_of dims
  pub each : (k : ℕ) → P k → slice_index a.items k ≡ slice_index b.items k

-- a part is read alike where they agree at its places
abbrev pub InPart : (ℕ → Type 0) → (dims is : List ℕ) → Type 0
InPart P dims is =
    is_inside dims (map Some is) ≡ true → AllByRecursion P (places_of dims (map Some is))

bounded_same : {A : Type 0} (dims is : List ℕ) (f g : List ℕ → List ℕ → Result A ℕ)
    → (is_inside dims (map Some is) ≡ true
    → (left : List ℕ) → f left (places_of dims (map Some is))
    ≡ g left (places_of dims (map Some is)))
    → bounded dims is f ≡ bounded dims is g
bounded_same dims is f g h = at (is_inside dims (map Some is)) h
  where
    at : (b : Bool) → (b ≡ true → (left : List ℕ)
        → f left (places_of dims (map Some is)) ≡ g left (places_of dims (map Some is)))
        → cond b (f (unwrap_or (left_of dims (map Some is)) []) (places_of dims (map Some is)))
        (Err index_out)
        ≡ cond b (g (unwrap_or (left_of dims (map Some is)) []) (places_of dims (map Some is)))
        (Err index_out)
    at true h = h refl (unwrap_or (left_of dims (map Some is)) [])
    at false h = refl

pub stored_same : (P : ℕ → Type 0) (dims : List ℕ) (a b : Numbers) (is : List ℕ) (u : ℕ)
    → SameNumbers P dims a b → InPart P dims is → read_stored a is u ≡ read_stored b is u
stored_same P dims a b is u s part =
    ap (λ ds. bounded ds is (λ left places. gives (made left (map (slice_index a.items) places)) u))
    s.first ∙
    bounded_same dims is (λ left places. gives (made left (map (slice_index a.items) places)) u)
    (λ left places. gives (made left (map (slice_index b.items) places)) u)
    (λ i left. ap (λ xs. gives (made left xs) u)
    (map_same (slice_index a.items) (slice_index b.items) (places_of dims (map Some is))
    (all_weaker P (λ k. slice_index a.items k ≡ slice_index b.items k)
    (places_of dims (map Some is)) s.each (part i)))) ∙
    ap (λ ds. bounded ds is (λ left places. gives (made left (map (slice_index b.items) places)) u))
    (sym s.second)

pub wired_same : (P : ℕ → Type 0) (dims : List ℕ) (a b : Shaped (Option ℕ)) (is : List ℕ) (u : ℕ)
    → SameWires P dims a b → InPart P dims is → read_wired a is u ≡ read_wired b is u
wired_same P dims a b is u s part =
    ap (λ ds. bounded ds is (go a)) s.first ∙
    bounded_same dims is (go a) (go b)
    (λ i left. ap (λ xs. next (all_there xs) (λ items. gives (made left items) u))
    (map_same (option_at a.items) (option_at b.items) (places_of dims (map Some is))
    (all_weaker P (λ k. option_at a.items k ≡ option_at b.items k)
    (places_of dims (map Some is)) s.each (part i)))) ∙
    ap (λ ds. bounded ds is (go b)) (sym s.second)
  where
    go : Shaped (Option ℕ) → List ℕ → List ℕ → Ran Numbers
    go d left places =
        next (all_there (map (option_at d.items) places)) (λ items. gives (made left items) u)

-- a cell that is a source is read
input_read : (reads : List ℕ) (xs : List Given) (x : Name) (k : ℕ) (i : Input) → AreRead reads xs
    → input_of x xs k ≡ Some i → IsRead reads i
input_read reads [] x k i h e = cc
input_read reads (y ∷ ys) x k i h e =
    at (input_of x ys k) (λ ex. input_read reads ys x k i h.1 ex)
    (same_name x y.name && (k == y.element)) e
  where
    at : (o : Option Input) → (o ≡ Some i → IsRead reads i) → (b : Bool)
        → or_else o (cond b (Some y.input) None) ≡ Some i → IsRead reads i
    at (Some j) h b e = h e
    at None rest true e = let same : y.input ≡ i = cc in subst (IsRead reads) same h.0
    at None h false e = cc

module _ (keys : List Made) (step : Step) (sources : Sources)
    (low : IsLoweredStep keys step sources) (call : Calling) (cells : Cells) (numbers : ℕ → ℕ)
    (have : HaveNumbers cells numbers (cells_read sources.list)) where
  abbrev first_env : Environment
  first_env = environment_of sources numbers call

  abbrev second_env : Environment
  second_env = environment_at call cells step.names

  abbrev homes : Homes
  homes = (scope_of sources).homes

  abbrev Loaded : Name → ℕ → Type 0
  Loaded x k = IsLoaded sources record { name = x; element = k }

  is_read : (x : Name) (k : ℕ) (i : Input) → input_of x sources.list k ≡ Some i
      → IsRead (cells_read sources.list) i
  is_read x k i e =
      input_read (cells_read sources.list) sources.list x k i (all_read sources.list []) e

  source_number : (s : Source) (i : Input) → source_input s ≡ Some i
      → IsRead (cells_read sources.list) i → from cells s ≡ number_at numbers i
  source_number (Constant k) (ConstantInput v) e h = cc
  source_number (Constant k) (CellInput c) e h = cc
  source_number (Cell c) (ConstantInput v) e h = cc
  source_number (Cell c) (CellInput d) e h =
      let same : c ≡ d = cc in
      ap (λ x. unwrap_or (cells x) 0) same ∙ ap (λ o. unwrap_or o 0) (have d h)

  cell_number : (o : Option ℕ) (i : Input) → cell_input o ≡ Some i
      → IsRead (cells_read sources.list) i → in_cell cells o ≡ Some (number_at numbers i)
  cell_number None i e h = cc
  cell_number (Some c) (ConstantInput v) e h = cc
  cell_number (Some c) (CellInput d) e h = let same : c ≡ d = cc in ap cells same ∙ have d h

  -- what the sources have of an element
  given_number : (x : Name) (h : Home) (k : ℕ) (i : Input) → k < slots_of h.dims
      → input_of x sources.list k ≡ Some i
      → slice_get (read_as sources numbers x h).items k ≡ Some (Some (number_at numbers i))
  given_number x h k i l e =
      let z : 0 + k ≡ k = omega arith in
      get_map (element_of numbers x sources.list) 0 (slots_of h.dims) k l ∙
      ap (λ j. Some (element_of numbers x sources.list j)) z
      ∙ ap (λ o. Some (number_from numbers o)) e

  wires_same : (x : Name) (h : Home) (a : HasArray step sources x h) (s : Shaped (Option ℕ))
      → a.array ≡ shaped_map cell_input s
      → SameWires (Loaded x) h.dims (read_as sources numbers x h) (shaped_map (in_cell cells) s)
  wires_same x h a s e = record {
    first = refl;
    second = ap (λ d. d.dims) (sym e) ∙ a.dims;
    each = λ k l.
        let got : slice_get a.array.items k ≡ Some (Some l.input) = a.each k l.input l.there in
        let within : k < slots_of h.dims =
        omega (arith, slice_get_within a.array.items k (Some l.input) got, a.count) in
        let m : Mapped cell_input s.items k (Some l.input) =
        get_mapped cell_input s.items k (Some l.input) (ap (λ d. slice_get d.items k) (sym e)
        ∙ got) in
        ap (λ o. unwrap_or o (Some 0)) (given_number x h k l.input within l.there) ∙
        sym (ap (λ o. unwrap_or o (Some 0)) (map_get (in_cell cells) s.items k m.item m.there) ∙
        cell_number m.item l.input m.is (is_read x k l.input l.there));
  }

  pub signals_same : (n : ℕ) (h : Home) → find (Signal n) homes ≡ Some h
      → WirePair (Loaded (Signal n)) h.dims (first_env.signal n) (second_env.signal n)
  signals_same n h e =
      let a : HasArray step sources (Signal n) h = low.arrays (Signal n) h e in record {
        one = read_as sources numbers (Signal n) h;
        two = shaped_map (in_cell cells) a.is.0;
        is_one = ap (read_at sources numbers (Signal n)) e;
        is_two = ap (signal_numbers cells) a.is.1;
        same = wires_same (Signal n) h a a.is.0 a.is.2;
      }

  pub ports_same : (n : ℕ) (indices name : List ℕ) (h : Home)
      → is_inside (sources.components n) (map Some indices) ≡ true
      → length indices ≡ length (sources.components n)
      → find (Port n (offset (sources.components n) indices) name) homes ≡ Some h
      → PortPair (Loaded (Port n (offset (sources.components n) indices) name)) h.dims
      (first_env.part n indices name) (second_env.part n indices name)
  ports_same n indices name h inside full e =
      let x : Name = Port n (offset (sources.components n) indices) name in
      let a : HasArray step sources x h = low.arrays x h e in
      let p : (s : Shaped (Option ℕ)) × (step.names.part n indices name ≡ Ok s)
      × (a.array ≡ shaped_map cell_input s) = a.is indices inside full refl in record {
        one = read_as sources numbers x h;
        two = shaped_map (in_cell cells) p.0;
        is_one = ap (λ b. cond b (or_missing (signal_at sources numbers x)) (Err index_out)) inside
            ∙
            ap (λ o. or_missing (read_at sources numbers x o)) e;
        is_two = ap (part_numbers cells) p.1;
        same = wires_same x h a p.0 p.2;
      }

  pub first_outside : (n : ℕ) (indices name : List ℕ)
      → is_inside (sources.components n) (map Some indices) ≡ false
      → first_env.part n indices name ≡ Err index_out
  first_outside n indices name e =
      ap (λ b. cond b (or_missing (signal_at sources numbers
      (Port n (offset (sources.components n) indices) name))) (Err index_out)) e

  pub second_outside : (n : ℕ) (indices name : List ℕ)
      → is_inside (sources.components n) (map Some indices) ≡ false
      → second_env.part n indices name ≡ Err index_out
  second_outside n indices name e = ap (part_numbers cells) (low.outside n indices name e)

  -- the variables with which the step begins
  pub variables_same : (variables n : ℕ) (h : Home) → n < variables
      → find (Variable n) homes ≡ Some h
      → SameNumbers (Loaded (Variable n)) h.dims (stored (store_of sources numbers variables) n)
      (stored (store_at cells step.variables) n)
  variables_same variables n h below e =
      subst (λ d. SameNumbers (Loaded (Variable n)) h.dims d
      (stored (store_at cells step.variables) n))
      (sym (stored_is sources numbers variables n below ∙
      ap (λ o. all_numbers (read_at sources numbers (Variable n) o)) e))
      (subst (SameNumbers (Loaded (Variable n)) h.dims one) (sym is_two) record {
        first = refl;
        second = ap (λ d. d.dims) (sym a.is) ∙ a.dims;
        long = map_long (λ o. unwrap_or o 0) (read_as sources numbers (Variable n) h).items ∙
            map_long (element_of numbers (Variable n) sources.list)
            (numbers_from 0 (slots_of h.dims)) ∙
            from_long 0 (slots_of h.dims);
        other_long = map_long (from cells) s.items ∙ sym (map_long source_input s.items) ∙
            ap (λ d. length d.items) (sym a.is) ∙ a.count;
        each = λ k l. each k l;
      })
    where
      a : HasArray step sources (Variable n) h
      a = low.arrays (Variable n) h e

      s : Shaped Source
      s = sourced step.variables n

      one : Numbers
      one = all_numbers (Some (read_as sources numbers (Variable n) h))

      from_long : (o m : ℕ) → length (numbers_from o m) ≡ m
      from_long o zero = refl
      from_long o (suc m) = ap (λ i. suc i) (from_long (o + 1) m)

      is_two : stored (store_at cells step.variables) n ≡ shaped_map (from cells) s
      is_two = at step.variables n
        where
          at : (xs : List (Shaped Source)) (m : ℕ)
              → unwrap_or (slice_get (map (shaped_map (from cells)) xs) m) (single 0)
              ≡ shaped_map (from cells) (unwrap_or (slice_get xs m) (single (Constant 0)))
          at [] m = refl
          at (x ∷ xs) zero = refl
          at (x ∷ xs) (suc m) = at xs m

      each : (k : ℕ) → Loaded (Variable n) k
          → slice_index one.items k ≡ slice_index (map (from cells) s.items) k
      each k l =
          let got : slice_get a.array.items k ≡ Some (Some l.input) = a.each k l.input l.there in
          let within : k < slots_of h.dims =
          omega (arith, slice_get_within a.array.items k (Some l.input) got, a.count) in
          let m : Mapped source_input s.items k (Some l.input) =
          get_mapped source_input s.items k (Some l.input)
          (ap (λ d. slice_get d.items k) (sym a.is) ∙ got) in
          sym (unwrap_or-slice_get one.items k 0) ∙
          ap (λ o. unwrap_or o 0) (map_get (λ o. unwrap_or o 0)
          (read_as sources numbers (Variable n) h).items k (Some (number_at numbers l.input))
          (given_number (Variable n) h k l.input within l.there)) ∙
          sym (source_number m.item l.input m.is (is_read (Variable n) k l.input l.there)) ∙
          sym (ap (λ o. unwrap_or o 0) (map_get (from cells) s.items k m.item m.there)) ∙
          unwrap_or-slice_get (map (from cells) s.items) k 0
