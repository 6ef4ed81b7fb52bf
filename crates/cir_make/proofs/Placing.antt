-- What the names of a step mean stands in the frame and the cells where the step is made.
use Rattle.std.proofs.Common.{◌≡◌, ◌∙◌, ℕ, suc, ◌<◌, Bool, true, false, cond, List, [], ◌∷◌, length}
use Rattle.std.proofs.Common.{map, Option, Some, None, Ok, Err, refl, sym, ap, subst, slice_get}
use Rattle.std.proofs.Common.{slice_index}
use Rattle.std.proofs.Common.{Bor}
use Rattle.std.specs.Option.{option_copied}
use Rattle.std.specs.Prelude.{IfNone, IfSome, IsFalse, is_some, not, option_map, slice_set}
use Rattle.std.proofs.lemmas.Bool.{lt-ltb}
use Rattle.std.proofs.lemmas.List.{length-map, length-set}
use Rattle.cir_arrays.specs.Shown.{datum_of}
use Rattle.cir_frame.specs.declared.frame.Frame.{Frame}
use Rattle.cir_frame.specs.declared.world.World.{World}
use Rattle.cir_frame.specs.Shown.{component_of, signals_of, state_of}
use Rattle.cir_meaning.specs.Arrays.{Datum, Shaped, Whole}
use Rattle.cir_meaning.specs.Costs.{Cost, Made as Key}
use Rattle.cir_meaning.specs.Evaluate.{value_in}
use Rattle.cir_meaning.specs.Frame.{ComponentEntry, Context, Part, SignalEntry, State, entry_at}
use Rattle.cir_meaning.specs.Frame.{is_inner, uncounted}
use Rattle.cir_meaning.specs.Places.{is_inside, places_of}
use Rattle.cir_meaning.specs.Reading.{find_signal}
use Rattle.cir_meaning.specs.Run.{RunPart, component_signal, entry_wires, found_port}
use Rattle.cir_meaning.specs.Run.{known_value, part_signal, port_of}
use Rattle.cir_meaning.specs.RunValues.{index_out}
use Rattle.cir_meaning.specs.Source.{Equation}
use Rattle.cir_meaning.specs.Tried.{Where}
use Rattle.cir_steps.specs.Emission.{Emission, known_in, step_of}
use Rattle.cir_steps.specs.Step as S
use Rattle.cir_steps.specs.Step.{LogPart, Step, Work, variable_sources}
use Rattle.cir_emit.specs.Sourced.{IsThere}
use Rattle.wit_lower.specs.Homes.{Name, Variable, Signal, Port}
use Rattle.cir_make.specs.declared.arrays.StepArray.{StepArray}
use Rattle.cir_make.specs.declared.cells.Cells.{Cells}
use Rattle.cir_make.specs.declared.make.Before.{Before}
use Rattle.cir_make.specs.declared.whole.Made.{Made}
use Rattle.cir_make.specs.Arrays.{AreArrays, AreArraysOf, IsSizedBy, StandsIn, is_part, part_at}
use Rattle.cir_make.specs.Arrays.{is_signal, is_there, values_in}
use Rattle.cir_make.specs.Shows.{AreSourced, IsKept}
use Rattle.cir_make.specs.Steps.{IsKnownAt, StandsBehind, put_before}
use Rattle.cir_make.proofs.Homing.{are_sized}
use Rattle.cir_make.proofs.PortCells.{one_place}

-- ---- a step that is made stands in the frame and the cells
module _ (first : List Key) (f frame : Frame) (c : Cells) (made : Made) (x : Emission)
    (steps : List Step) (befores : List Before) (w : World) (qs : List Equation) (s : State)
    (k : Context) (at : Where) (cost : Cost) (work : Work) (targets : List ℕ)
    (line : Option (List LogPart)) (same : uncounted s ≡ uncounted (state_of frame w qs)) where
  abbrev pub here : Step
  here = step_of k at s cost work targets line x

  pub stands_in : StandsBehind f x s befores → IsKept first f c made x steps
      → StandsIn frame c befores here
  stands_in behind kept = record {
    sources = x.sources;
    variables = ap (λ ds. variable_sources ds x.sources) values;
    sourced = subst (λ ds. AreSourced ds x.sources c.variables.items)
        (sym behind.shown ∙ values) kept.sources;
    own = x.cells.own;
    own_cells = kept.own;
    signal = λ n.
        ap (λ (z : State). entry_wires x.cells.own n (entry_at z.frame.signals n)) same;
    state = s;
    state_parts = ap (λ (z : State). z.frame.parts) same;
    parts = x.cells.parts;
    ports = kept.parts;
    part = λ n indices name.
        ap (λ (z : State). component_signal s x.cells.parts (entry_at z.frame.components n)
        indices name) same;
  }
    where
      values : (known_in x).frame.variables ≡ values_in frame befores
      values =
          behind.variables ∙ ap (λ (z : State). put_before befores z.frame.variables) same

  pub known_at : IsKnownAt k at (state_of frame w qs) here
  known_at e = ap (λ (z : State). known_value (value_in k at true Whole e z)) same

-- ---- what is there has an array
pub never_both : (b : Bool) → IsFalse b → b ≡ true → ⊥
never_both true h e = cc
never_both false h e = cc

pub none_there : {A B : Type 0} (f : A → B) (r : Option (Bor A)) (o : Option B)
    → option_map f (option_copied r) ≡ o → is_some r ≡ is_some o
none_there f None o e = ap is_some e
none_there f (Some a) o e = ap is_some e

pub both_there : {A B : Type 0} (f : A → B) (r : Option A) (o : Option B)
    → IfSome r (λ a. o ≡ Some (f a)) → IfNone r (o ≡ None) → is_some r ≡ is_some o
both_there f None o some none = ap is_some (sym none)
both_there f (Some a) o some none = ap is_some (sym some)

length_before : (bs : List Before) (ds : List Datum) → length (put_before bs ds) ≡ length ds
length_before [] ds = refl
length_before (b ∷ bs) ds =
    length_before bs (slice_set ds b.variable (datum_of b.value))
    ∙ length-set ds b.variable (datum_of b.value)

length_sources : (ds : List Datum) (xs : List (List S.Source))
    → length (variable_sources ds xs) ≡ length ds
length_sources [] xs = refl
length_sources (d ∷ ds) [] = ap (λ (n : ℕ). suc n) (length_sources ds [])
length_sources (d ∷ ds) (x ∷ xs) = ap (λ (n : ℕ). suc n) (length_sources ds xs)

module _ (f : Frame) (cells : Cells) (befores : List Before) (step : Step)
    (components : ℕ → List ℕ) (stands : StandsIn f cells befores step)
    (sized : IsSizedBy f components) where
  as_many : length step.variables ≡ length f.variables.items
  as_many =
      ap (λ (xs : List (Shaped S.Source)). length xs) stands.variables
      ∙ length_sources (values_in f befores) stands.sources
      ∙ length_before befores (map datum_of f.variables.items)
      ∙ length-map f.variables.items datum_of

  signal_there : (n : ℕ) (o : Option SignalEntry) (s : Shaped (Option ℕ))
      → entry_wires stands.own n o ≡ Some s → is_some o ≡ true
  signal_there n None s e = cc
  signal_there n (Some x) s e = refl

  found_there : (r : RunPart) (o : Option (ℕ × SignalEntry)) (s : Shaped (Option ℕ))
      → found_port r.ports o ≡ Ok s → is_some o ≡ true
  found_there r None s e = cc
  found_there r (Some x) s e = refl

  port_there : (name : List ℕ) (p : Option Part) (r : Option RunPart) (s : Shaped (Option ℕ))
      → port_of name p r ≡ Ok s → is_signal p name ≡ true
  port_there name None r s e = cc
  port_there name (Some p) None s e = cc
  port_there name (Some p) (Some r) s e =
      found_there r (find_signal (λ e. not (is_inner e.direction)) name 0 p.signals) s e

  part_there : (name : List ℕ) (o : Option ℕ) (s : Shaped (Option ℕ))
      → part_signal stands.state stands.parts name o ≡ Ok s
      → is_part stands.state.frame.parts o name ≡ true
  part_there name None s e = cc
  part_there name (Some j) s e =
      port_there name (slice_get stands.state.frame.parts j) (slice_get stands.parts j) s e

  component_there : (n element : ℕ) (indices name : List ℕ) (s : Shaped (Option ℕ))
      (o : Option ComponentEntry)
      → entry_at (map (option_map component_of) f.components.items) n ≡ o
      → is_inside (components n) (map Some indices) ≡ true
      → length indices ≡ length (components n)
      → slice_index (places_of (components n) (map Some indices)) 0 ≡ element
      → component_signal stands.state stands.parts o indices name ≡ Ok s
      → is_part stands.state.frame.parts (part_at o element) name ≡ true
  component_there n element indices name s None eo inside full at e = cc
  component_there n element indices name s (Some c) eo inside full at e =
      let same : components n ≡ c.dims = sized.there n c eo in
      let inside_c : is_inside c.dims (map Some indices) ≡ true =
      ap (λ (ds : List ℕ). is_inside ds (map Some indices)) (sym same) ∙ inside in
      let at_c : slice_index (places_of c.dims (map Some indices)) 0 ≡ element =
      ap (λ (ds : List ℕ). slice_index (places_of ds (map Some indices)) 0) (sym same) ∙ at in
      part_there name (entry_at c.parts element) s
      (ap (λ (k : ℕ). part_signal stands.state stands.parts name (entry_at c.parts k)) (sym at_c)
      ∙ ap (λ b. cond b (part_signal stands.state stands.parts name
      (entry_at c.parts (slice_index (places_of c.dims (map Some indices)) 0)))
      (Err index_out)) (sym inside_c) ∙ e)

  names_there : (x : Name) → IsThere step components x → is_there f x ≡ true
  names_there (Variable n) below =
      lt-ltb n (length f.variables.items) (subst (λ (l : ℕ). n < l) as_many below)
  names_there (Signal n) (s, is) =
      signal_there n (entry_at (signals_of f.signals.items) n) s (sym (stands.signal n) ∙ is)
  names_there (Port n element name) (indices, inside, full, at, s, is) =
      ap (λ ps. is_part ps (part_at (entry_at (map (option_map component_of) f.components.items) n)
      element) name) (sym stands.state_parts)
      ∙ component_there n element indices name s
      (entry_at (map (option_map component_of) f.components.items) n) refl inside full
      (one_place (components n) indices full ∙ at) (sym (stands.part n indices name) ∙ is)

  pub are_arrays : (arrays : List StepArray) → AreArrays f cells befores arrays
      → AreArraysOf f step components arrays
  are_arrays arrays are = record {
    each = are step components stands sized;
    sized = are_sized f cells befores step components stands sized;
    there = names_there;
  }
