-- An expression that is accepted when a program is compiled fits, where its names have homes and
-- its calls have keys; and a number that is known then is known of the step.
use Rattle.std.proofs.Common.{◌≡◌, ℕ, zero, suc, ◌%◌, ◌<◌, ◌≤◌, Bool, true, false, cond, List, []}
use Rattle.std.proofs.Common.{◌∷◌, ◌++◌, length, map, drop, Option, Some, None, Ok, refl, sym, ap}
use Rattle.std.proofs.Common.{ap₂, subst, ◌∙◌, arith, inr}
use Rattle.std.specs.Prelude.{slice_get, ◌==◌, ⊤, unwrap_or, ◌||◌}
use Rattle.std.specs.List.{AllByRecursion, list_any, list_all}
use Rattle.std.proofs.lemmas.Bool.{and_from, eq-eqb, ne_eqb}
use Rattle.gold_field.specs.declared.gold.TheConstants.{P}
use Rattle.cir_ast.specs.declared.program.Meant.{Meant}
use Rattle.cir_ast.specs.declared.program.Meant.TheVariants as meant
use Rattle.cir_ast.specs.declared.refusal.Kind.TheVariants.{ReadBeforeWrite, ShapeDiffers}
use Rattle.cir_ast.specs.Tree.{Expr, Number, Place, Call, Anonymous, Parentheses, Array, Unary}
use Rattle.cir_ast.specs.Tree.{Binary, Choice, Exprs, none, more, Accessors, done, index, member}
use Rattle.cir_meaning.specs.Tried.{Where, Tried, next, found}
use Rattle.cir_meaning.specs.Limits.{is_too_large}
use Rattle.cir_meaning.specs.Places.{elements, is_inside, all_known, places_of}
use Rattle.cir_meaning.specs.Arrays.{Datum, Want, Scalar, Whole, Reach, fits, reach, read_part}
use Rattle.cir_meaning.specs.Arrays.{single, item_at, the_item, same_dims}
use Rattle.cir_meaning.specs.Values.{Value, Known, Opaque, IsValue, Side, First, Second}
use Rattle.cir_meaning.specs.Values.{Both as Each, side_of, chosen, known_number, unary_result}
use Rattle.cir_meaning.specs.Operators.{Operator, operator_of, unary_of, left_tells, applied}
use Rattle.cir_meaning.specs.Operators.{shading, first_shading, second_shading}
use Rattle.cir_meaning.specs.Costs.{Made}
use Rattle.cir_ast.specs.declared.operators.Direction.{Direction}
use Rattle.cir_meaning.specs.Frame.{uncounted, SignalEntry, Part, ComponentEntry, State, Context}
use Rattle.cir_meaning.specs.Frame.{entry_at, variable_at, signal_item, is_input, is_fed}
use Rattle.cir_meaning.specs.Run.{known_value}
use Rattle.cir_meaning.proofs.KnownCalls.{CallBoth}
use Rattle.cir_ast.specs.declared.operators.Binary.{Binary as BinaryOp}
use Rattle.cir_emit.specs.Reads.{unless_skipped, sides, unless_called, Reading, part_of}
use Rattle.cir_emit.specs.Reads.{elements_of, named_part, Written, Reached, expr_reads, exprs_reads}
use Rattle.cir_emit.specs.Reads.{place_reads}
use Rattle.cir_emit.proofs.KnownOperators.{never_skips, skipped_told, Matches, side_matches, Tells}
use Rattle.cir_emit.proofs.KnownOperators.{unary_told, binary_told}
use Rattle.cir_emit.proofs.Reached.{good_const, IsSpot, good_itself, good_needs, good_found}
use Rattle.cir_emit.proofs.Reached.{Sharper, sharper_more, sharper_known, known_again, Reaches}
use Rattle.cir_emit.proofs.Reached.{reach_told, ReadsKnown, PartAt, part_told, one_place}
use Rattle.cir_meaning.specs.Evaluate.{value_in, all_in, read_in, looked_at, answered, gathered}
use Rattle.cir_meaning.specs.RunValues.{the_number, Numbers}
use Rattle.wit_lower.specs.Known.{called_known, one_known, constant_of, element_known}
use Rattle.wit_lower.specs.Known.{variable_known, number_known, place_known, choice_known}
use Rattle.wit_lower.specs.Values.{called_shape, shape_of, shapes_of, place_shape, part_shape}
use Rattle.cir_meaning.proofs.Good.{good_weaker, OnGood, good_ok, good_bad, good_next, good_on}
use Rattle.cir_meaning.proofs.Good.{good_needed}
use Rattle.cir_meaning.proofs.Sound.{Told as CallTold}
use Rattle.cir_meaning.proofs.Meaning.{Means}
use Rattle.cir_meaning.proofs.Same.{rows_at}
use Rattle.cir_meaning.proofs.CallsTold.{call_told}
use Rattle.cir_meaning.specs.Reading.{Origin, Stored, Wired, Lost as LostOrigin, Named as NamedRoot}
use Rattle.cir_meaning.specs.Reading.{Found as FoundRoot, read_origin, inner_origin, part_at}
use Rattle.cir_meaning.specs.Reading.{located, named_signal, is_readable}
use Rattle.wit_lower.specs.Homes.{Name, Variable, Signal, Port, Home, Homes, Ground, Front, Named}
use Rattle.wit_lower.specs.Homes.{Found, Lost, find, port_at, port_of, offset, slots_of}
use Rattle.wit_lower.specs.Sources.{Constant, Sources, scope_of, input_of}
use Rattle.wit_lower.specs.Pieces.{decided}
use Rattle.wit_lower.specs.Fits.{IsCalled, HaveShape, UnlessSkipped, Sides, UnlessCalled, Fits}
use Rattle.wit_lower.specs.Fits.{AllFit, PlaceFits, IsElement}
use Rattle.wit_lower.proofs.Parts.{slots_are}
use Rattle.cir_meaning.proofs.Pairs.{good_both}
use Rattle.cir_meaning.proofs.Likes.{CallKeeps, Like, value_like}
use Rattle.cir_meaning.proofs.FineValues.{FineContext, Fine, FineAnswer, value_fine, the_value}
use Rattle.cir_emit.specs.Lowered.{IsLoaded}
use Rattle.cir_emit.proofs.Lists.{all_front, all_back}
use Rattle.cir_emit.proofs.Values.{reading}
use Rattle.cir_emit.proofs.Standing.{is_called, call_wanted, have_shape, shapes_count, IsWired}
use Rattle.cir_emit.proofs.Standing.{IsStanding, Told, told_nothing, single_told, never_known}
use Rattle.cir_emit.proofs.Standing.{part_told_by, known_is, no_dims, no_shape, all_dropped}
use Rattle.cir_emit.specs.Sourced.{HasHome, PortHas, KeyHas, UnlessKnown, HasAll, EachHas, PlaceHas}
use Rattle.cir_emit.proofs.KnownNumbers.{known_are_numbers}
use Rattle.cir_emit.proofs.Outside.{dims_same, element_told}
use Rattle.cir_steps.proofs.Sized.{SizedCall}
use Rattle.cir_meaning.specs.Scoped.{Scope as Names, IsSeen, AreCallsMeant, AreAllMeant}
use Rattle.cir_meaning.specs.Scoped.{AreIndicesMeant}

module _ (k : Context) (keeps : CallKeeps k.call) (both : CallBoth k.call) (fine : FineContext k)
    (sized : SizedCall k.call) (w : Where) (f : State) (fine_f : Fine f) (keys : List Made)
    (sources : Sources) (changed : List ℕ) (homes : Homes) (There : Name → Type 0)
    (stands : IsStanding There w f sources changed homes) (scope : Names)
    (seen : (n : ℕ) → scope.seen n ≡ true → There (Variable n))
    (called_is : (e : Expr Meant) → AreCallsMeant scope e
    → sources.called e ≡ known_value (value_in k w true Whole e (uncounted f))) where
  abbrev g : Ground
  g = record {
    keys = keys;
    known = number_known sources changed;
    called = sources.called;
    components = sources.components;
  }

  abbrev first : Homes
  first = (scope_of sources).homes

  abbrev Loads : List Reading → Type 0
  Loads reads = AllByRecursion (IsLoaded sources) reads

  abbrev Tell : Expr Meant → ℕ → Type 0
  Tell e v = number_known sources changed e ≡ Some v

  abbrev Accepts : Want → Expr Meant → Datum × State → Type 0
  Accepts want e x = Fits g homes e × Told want (shape_of g homes e) (Tell e) x.0

  abbrev Steady : Datum × State → Type 0
  Steady x = Like f x.1 × FineAnswer x

  abbrev Both : Want → Expr Meant → Datum × State → Type 0
  Both want e x = Steady x × Accepts want e x

  steady : (shaded : Bool) (want : Want) (e : Expr Meant) (s : State) → Like f s → Fine s
      → OnGood Steady (value_in k w shaded want e s)
  steady shaded want e s l i =
      good_both (λ x. Like f x.1) FineAnswer (value_in k w shaded want e s)
      (value_like f k keeps w shaded want e s l) (value_fine k fine w shaded want e s i)

  with_steady : (shaded : Bool) (want : Want) (e : Expr Meant) (s : State) → Like f s → Fine s
      → OnGood (Accepts want e) (value_in k w shaded want e s)
      → OnGood (Both want e) (value_in k w shaded want e s)
  with_steady shaded want e s l i h =
      good_both Steady (Accepts want e) (value_in k w shaded want e s)
      (steady shaded want e s l i) h

  tells_it : (e : Expr Meant) (x : Datum × State) → Accepts Scalar e x
      → Tells (the_item x.0) (number_known sources changed e)
  tells_it e x a m is = a.1.tells m (no_dims (shape_of g homes e) (Tell e) x.0 a.1) is

  -- places
  abbrev PlaceTold : Want → Front → List (Option ℕ) → Accessors Meant → (ℕ → Type 0) → Datum
      → Type 0
  PlaceTold want front ks rest T d =
      PlaceFits g homes front ks rest × Told want (place_shape g homes front ks rest) T d

  abbrev PlaceAccepts : Want → Front → List (Option ℕ) → Accessors Meant → (ℕ → Type 0)
      → Datum × State → Type 0
  PlaceAccepts want front ks rest T x = PlaceTold want front ks rest T x.0

  -- the element of a variable that is read and known is a constant of the sources
  variable_tells : (n : ℕ) (h : Home) (dims : List ℕ) (os ks : List (Option ℕ)) (v : ℕ)
      → find (Variable n) homes ≡ Some h → dims ≡ h.dims → Sharper os ks
      → Loads (named_part first (Some (Variable n)) ks)
      → ReadsKnown dims os (item_at (variable_at f.frame n).items) v
      → place_known sources changed (meant.Variable n) ks done ≡ Some v
  variable_tells n h dims os ks v found same sharp covered r =
      ap (λ os. variable_known sources changed (meant.Variable n) (all_known os)) ks_are ∙
      ap (variable_known sources changed (meant.Variable n)) (known_again is) ∙
      ap (λ b. cond b None (element_known sources n (find (Variable n) first) is)) s.0 ∙
      ap (λ o. element_known sources n o is) s.1 ∙
      ap (λ b. cond b (constant_of (input_of (Variable n) sources.list o)) None)
      (and_from (length is == length h.dims) (is_inside h.dims (map Some is))
      (eq-eqb (length is) (length h.dims) full) inside) ∙
      ap constant_of (s.2 loaded)
    where
      is : List ℕ
      is = r.indices

      o : ℕ
      o = offset h.dims is

      ks_are : ks ≡ map Some is
      ks_are = sharper_known ks is (subst (λ xs. Sharper xs ks) r.os_are sharp)

      full : length is ≡ length h.dims
      full = r.full ∙ ap length same

      inside : is_inside h.dims (map Some is) ≡ true
      inside = ap (λ ds. is_inside ds (map Some is)) (sym same) ∙ r.inside

      none : drop (length is) h.dims ≡ []
      none = ap (λ c. drop c h.dims) full ∙ all_dropped h.dims

      below : o < slots_of h.dims
      below =
          let less : offset h.dims is < elements h.dims =
          subst (λ ds. offset ds is < elements ds) same r.below in
          omega (arith, less, slots_are h.dims (stands.small (Variable n) h found))

      s : (list_any (λ m. m == n) changed ≡ false) × (find (Variable n) first ≡ Some h)
          × (IsLoaded sources (reading (Variable n) o)
          → input_of (Variable n) sources.list o ≡ Some (Constant v))
      s = stands.known n h o v found below
          (ap (λ ds. item_at (variable_at f.frame n).items (offset ds is)) (sym same) ∙ r.item_is)

      loaded : IsLoaded sources (reading (Variable n) o)
      loaded =
          let at_home : Loads (part_of (Variable n) (Some h) (map Some is)) =
          subst (λ o. Loads (part_of (Variable n) o (map Some is))) s.1
          (subst (λ os. Loads (part_of (Variable n) (find (Variable n) first) os)) ks_are
          covered) in
          let part : Loads (elements_of (Variable n) (places_of h.dims (map Some is))) =
          subst (λ b. Loads (cond b (elements_of (Variable n) (places_of h.dims (map Some is))) []))
          inside at_home in
          (subst (λ ps. Loads (elements_of (Variable n) ps)) (one_place h.dims is full none) part).0

  variable_done : (n : ℕ) (shaded : Bool) (want : Want) (os ks : List (Option ℕ)) (s : State)
      → Like f s → Sharper os ks → (h : Home) × (find (Variable n) homes ≡ Some h)
      → Loads (named_part first (Some (Variable n)) ks)
      → OnGood (PlaceAccepts want (Named (meant.Variable n)) ks done
      (λ v. place_known sources changed (meant.Variable n) ks done ≡ Some v))
      (read_in k w shaded want (NamedRoot (meant.Variable n)) os done s)
  variable_done n shaded want os ks s l sharp end covered =
      subst (λ d. OnGood Q (next (read_origin w shaded want os (Stored d)) (λ d. Ok (d, s))))
      (sym same_variable)
      (good_next P Q (read_origin w shaded want os (Stored d)) _
      (good_next (Reaches want d.dims os) P (reach w shaded want d.dims os) _
      (reach_told w shaded want d.dims os) (λ r h. good_ok P _ (ended r h)))
      (λ d p. good_ok Q (d, s) p))
    where
      d : Datum
      d = variable_at f.frame n

      T : ℕ → Type 0
      T v = place_known sources changed (meant.Variable n) ks done ≡ Some v

      P : Datum → Type 0
      P = PlaceTold want (Named (meant.Variable n)) ks done T

      Q : Datum × State → Type 0
      Q = PlaceAccepts want (Named (meant.Variable n)) ks done T

      same_variable : variable_at s.frame n ≡ d
      same_variable = ap (λ vs. unwrap_or (slice_get vs n) (single (Known 0))) l.0

      ended : (r : Reach) → Reaches want d.dims os r → P (read_part r (item_at d.items))
      ended r h =
          let e : find (Variable n) homes ≡ Some end.0 = end.1 in
          let z = part_told_by want d.dims end.0.dims os ks r (item_at d.items) T h
          (stands.variable n end.0 e) sharp
          (λ v rk. variable_tells n end.0 d.dims os ks v e (stands.variable n end.0 e) sharp covered
          rk) in (
            record { at = end.0; found = e; rank = z.0 },
            subst (λ o. Told want (part_shape o (length ks)) T (read_part r (item_at d.items)))
                (sym e) z.1,
          )

  -- the elements of a signal are never known
  wired_end : (e : SignalEntry) (h : Home) (may : Bool) (shaded : Bool) (want : Want)
      (os ks : List (Option ℕ)) (T : ℕ → Type 0) → IsWired e h.dims
      → is_too_large h.dims ≡ false → Sharper os ks
      → OnGood (λ d. (length ks ≤ length h.dims) × Told want (drop (length ks) h.dims) T d)
      (read_origin w shaded want os (Wired may e))
  wired_end e h may shaded want os ks T wired small sharp =
      good_next (Reaches want e.dims os) P (reach w shaded want e.dims os) _
      (reach_told w shaded want e.dims os) (λ r re.
      good_needed P (is_readable may e os r.places) w ReadBeforeWrite _
      (good_ok P _
      (part_told_by want e.dims h.dims os ks r (signal_item e) T re wired.dims_are sharp
      (λ v rk. absurd (wired.unknown (offset e.dims rk.indices) v
      (let less : offset e.dims rk.indices < elements h.dims =
      subst (λ ds. offset e.dims rk.indices < elements ds) wired.dims_are rk.below in
      omega (arith, less, slots_are h.dims small)) rk.item_is)))))
    where
      P : Datum → Type 0
      P d = (length ks ≤ length h.dims) × Told want (drop (length ks) h.dims) T d

  signal_done : (direction : Direction) (n : ℕ) (shaded : Bool) (want : Want)
      (os ks : List (Option ℕ)) (s : State) (T : ℕ → Type 0) → Like f s → Sharper os ks
      → HasHome There homes (Signal n)
      → OnGood (PlaceAccepts want (Named (meant.Signal direction n)) ks done T)
      (read_in k w shaded want (NamedRoot (meant.Signal direction n)) os done s)
  signal_done direction n shaded want os ks s T l sharp has =
      subst (λ xs. OnGood Q (next (next (found w ReadBeforeWrite (entry_at xs n))
      (λ e. Ok (Wired true e)))
      (λ source. next (read_origin w shaded want os source) (λ d. Ok (d, s))))) (sym l.1)
      (by (entry_at f.frame.signals n) refl)
    where
      Q : Datum × State → Type 0
      Q = PlaceAccepts want (Named (meant.Signal direction n)) ks done T

      P : Datum → Type 0
      P = PlaceTold want (Named (meant.Signal direction n)) ks done T

      by : (o : Option SignalEntry) → entry_at f.frame.signals n ≡ o
          → OnGood Q (next (next (found w ReadBeforeWrite o) (λ e. Ok (Wired true e)))
          (λ source. next (read_origin w shaded want os source) (λ d. Ok (d, s))))
      by None eo = good_bad Q _
      by (Some e) eo =
          let end : (h : Home) × (find (Signal n) homes ≡ Some h) =
          has (stands.signal_there n e eo) in
          let found_at : find (Signal n) homes ≡ Some end.0 = end.1 in
          good_next (λ d. (length ks ≤ length end.0.dims)
          × Told want (drop (length ks) end.0.dims) T d) Q
          (read_origin w shaded want os (Wired true e)) _
          (wired_end e end.0 true shaded want os ks T (stands.signal n end.0 e found_at eo)
          (stands.small (Signal n) end.0 found_at) sharp)
          (λ d z. good_ok Q (d, s) (
            record { at = end.0; found = found_at; rank = z.0 },
            subst (λ o. Told want (part_shape o (length ks)) T d) (sym found_at) z.1,
          ))

  -- what is found already: the signal of a component, or nothing
  abbrev OriginOf : Origin → Front → Type 0
  OriginOf (Wired may e) (Found (Some h)) = IsWired e h.dims × (is_too_large h.dims ≡ false)
  OriginOf LostOrigin Lost = Unit {0}
  OriginOf source front = ⊥

  found_done : (source : Origin) (front : Front) (shaded : Bool) (want : Want)
      (os ks : List (Option ℕ)) (s : State) (T : ℕ → Type 0) → OriginOf source front
      → Sharper os ks
      → OnGood (PlaceAccepts want front ks done T)
      (read_in k w shaded want (FoundRoot source) os done s)
  found_done (Wired may e) (Found (Some h)) shaded want os ks s T is sharp =
      good_next (λ d. (length ks ≤ length h.dims) × Told want (drop (length ks) h.dims) T d)
      (PlaceAccepts want (Found (Some h)) ks done T) (read_origin w shaded want os (Wired may e)) _
      (wired_end e h may shaded want os ks T is.0 is.1 sharp)
      (λ d z. good_ok (PlaceAccepts want (Found (Some h)) ks done T) (d, s)
      (record { at = h; found = refl; rank = z.0 }, z.1))
  found_done LostOrigin Lost shaded want os ks s T is sharp =
      good_ok (PlaceAccepts want Lost ks done T) (single Opaque, s)
      (tt, single_told want T Opaque (λ v e. never_known e))
  found_done (Wired may e) (Named m) shaded want os ks s T is sharp = absurd is
  found_done (Wired may e) (Found None) shaded want os ks s T is sharp = absurd is
  found_done (Wired may e) Lost shaded want os ks s T is sharp = absurd is
  found_done LostOrigin (Named m) shaded want os ks s T is sharp = absurd is
  found_done LostOrigin (Found o) shaded want os ks s T is sharp = absurd is
  found_done (Stored d) front shaded want os ks s T is sharp = absurd is

  -- the signal of a component that known indices mean
  origin_told : (n : ℕ) (name : List ℕ) (shaded : Bool) (os ks : List (Option ℕ)) (s : State)
      → Like f s → Sharper os ks
      → PortHas There g homes (Named (meant.Component n)) ks name
      → OnGood (λ source. IsElement g (Named (meant.Component n)) ks
      × OriginOf source (port_of g homes (Named (meant.Component n)) ks name))
      (inner_origin w shaded (NamedRoot (meant.Component n)) os name s.frame)
  origin_told n name shaded os ks s l sharp has =
      good_next (PartAt n os s.frame) Q (part_at w shaded n os s.frame) _
      (part_told w shaded n os s.frame) (λ o p. spot o p.component p.indices
      (ap (λ xs. entry_at xs n) (sym l.2) ∙ p.is_component)
      (sharper_known ks p.indices (subst (λ xs. Sharper xs ks) p.os_are sharp)) p.spot)
    where
      front : Front
      front = port_of g homes (Named (meant.Component n)) ks name

      Q : Origin → Type 0
      Q source = IsElement g (Named (meant.Component n)) ks × OriginOf source front

      home : ComponentEntry → List ℕ → Option Home
      home c is = find (Port n (offset c.dims is) name) homes

      same : (c : ComponentEntry) (is : List ℕ) → entry_at f.frame.components n ≡ Some c
          → is_inside c.dims (map Some is) ≡ true → length is ≡ length c.dims
          → sources.components n ≡ c.dims
      same c is ec inside full =
          sym (dims_same c.dims (sources.components n) (λ js. sym (stands.component n c ec js)) is
          full inside)

      front_known : (is : List ℕ) → ks ≡ map Some is
          → front ≡ port_at homes n (sources.components n) name (Some is)
      front_known is ks_are =
          ap (λ os. port_at homes n (sources.components n) name (all_known os)) ks_are ∙
          ap (port_at homes n (sources.components n) name) (known_again is)

      homed : (c : ComponentEntry) (is : List ℕ) (j : ℕ) (p : Part) (x : ℕ × SignalEntry)
          → entry_at f.frame.components n ≡ Some c → ks ≡ map Some is
          → is_inside c.dims (map Some is) ≡ true
          → length is ≡ length c.dims → entry_at c.parts (offset c.dims is) ≡ Some j
          → slice_get f.frame.parts j ≡ Some p
          → named_signal w name p.signals ≡ Ok x → (o : Option Home) → home c is ≡ o
          → OriginOf (Wired (is_input x.1.direction || is_fed p.signals) x.1) (Found o)
      homed c is j p x ec ks_are inside full ej ep ex None eo =
          let there : There (Port n (offset c.dims is) name) =
          stands.port_there n c is name j p x ec inside full ej ep ex in
          let h : (h : Home) × (home c is ≡ Some h) =
          subst (λ ds. HasHome There homes (Port n (offset ds is) name)) (same c is ec inside full)
          (has is ks_are (ap (is_inside (sources.components n)) ks_are ∙
          ap (λ ds. is_inside ds (map Some is)) (same c is ec inside full) ∙ inside)) there in
          let no : None ≡ Some h.0 = sym eo ∙ h.1 in cc
      homed c is j p x ec ks_are inside full ej ep ex (Some h) eo = (
        stands.port n c is name h j p x ec inside full ej ep ex eo,
        stands.small (Port n (offset c.dims is) name) h eo,
      )

      spot : (o : Option ℕ) (c : ComponentEntry) (is : List ℕ)
          → entry_at f.frame.components n ≡ Some c → ks ≡ map Some is → IsSpot c os is o
          → OnGood Q (located w name o s.frame.parts)
      spot None c is ec ks_are outside =
          let nowhere : is_inside (sources.components n) (map Some is) ≡ false =
          stands.component n c ec is ∙ outside in
          good_ok Q LostOrigin (
            element_told g n ks is ks_are (λ inside.
                let never : true ≡ false = sym inside ∙ nowhere in cc),
            subst (OriginOf LostOrigin)
                (sym (front_known is ks_are ∙
                ap (λ t. cond t (Found (find (Port n (offset (sources.components n) is) name)
                homes)) Lost) nowhere)) tt,
          )
      spot (Some j) c is ec ks_are (inside, full, ej) =
          let there : front ≡ Found (home c is) =
          front_known is ks_are ∙
          ap (λ ds. port_at homes n ds name (Some is)) (same c is ec inside full) ∙
          ap (λ t. cond t (Found (home c is)) Lost) inside in
          good_found Q w ReadBeforeWrite (slice_get s.frame.parts j) _ (λ p ep.
          good_next (λ x. named_signal w name p.signals ≡ Ok x) Q (named_signal w name p.signals) _
          (good_itself (named_signal w name p.signals)) (λ x ex.
          good_ok Q (Wired (is_input x.1.direction || is_fed p.signals) x.1) (
            element_told g n ks is ks_are
                (λ there. full ∙ ap length (sym (same c is ec inside full))),
            subst (OriginOf (Wired (is_input x.1.direction || is_fed p.signals) x.1)) (sym there)
                (homed c is j p x ec ks_are inside full ej (ap (λ xs. slice_get xs j) (sym l.3)
                ∙ ep) ex (home c is) refl),
          )))

  -- operators
  binary_accepted : (o : BinaryOp) (a b : Expr Meant) (shaded : Bool) (want : Want)
      (x : Datum × State) → Steady x → Accepts Scalar a x
      → UnlessSkipped (decided (operator_of o) (g.known a)) (HasAll There g homes b)
      → Loads (unless_skipped (decided (operator_of o) (g.known a)) (expr_reads g first b))
      → ((dark : Bool) → HasAll There g homes b → Loads (expr_reads g first b)
      → OnGood (Accepts Scalar b) (value_in k w dark Scalar b x.1))
      → OnGood (Accepts want (Binary o a b))
      (looked_at (shading (left_tells (operator_of o) (the_item x.0)) shaded) x.1
      (λ dark. value_in k w dark Scalar b x.1) (λ y s2.
      next (applied w shaded (operator_of o) (the_item x.0) y) (λ v. answered v s2)))
  binary_accepted o a b shaded want x st acc stand covered deeper =
      at (decided op (g.known a)) refl stand covered
      (shading (left_tells op (the_item x.0)) shaded) refl
    where
      op : Operator
      op = operator_of o

      Q : Datum × State → Type 0
      Q = Accepts want (Binary o a b)

      left : Fits g homes a × (shape_of g homes a ≡ [])
      left = (acc.0, no_shape (shape_of g homes a) (Tell a) x.0 acc.1)

      value_left : IsValue (the_item x.0)
      value_left = the_value x.0 st.1.0

      -- the operator's result
      result : (y : Value) (s2 : State)
          → UnlessSkipped (decided op (g.known a)) (Fits g homes b × (shape_of g homes b ≡ []))
          → ((v : ℕ) → applied w shaded op (the_item x.0) y ≡ Ok (Known v)
          → Tell (Binary o a b) v)
          → OnGood Q (next (applied w shaded op (the_item x.0) y) (λ v. answered v s2))
      result y s2 right told =
          good_next (λ z. applied w shaded op (the_item x.0) y ≡ Ok z) Q
          (applied w shaded op (the_item x.0) y) _
          (good_itself (applied w shaded op (the_item x.0) y)) (λ z ez.
          good_ok Q (single z, s2) (
            (left, right),
            single_told want (Tell (Binary o a b)) z (λ v e. told v (ez ∙ ap (λ u. Ok u) e)),
          ))

      at : (d : Option ℕ) → decided op (g.known a) ≡ d → UnlessSkipped d (HasAll There g homes b)
          → Loads (unless_skipped d (expr_reads g first b)) → (sh : Option Bool)
          → shading (left_tells op (the_item x.0)) shaded ≡ sh
          → OnGood Q (looked_at sh x.1 (λ dark. value_in k w dark Scalar b x.1) (λ y s2.
          next (applied w shaded op (the_item x.0) y) (λ v. answered v s2)))
      at None ed stand covered None es =
          absurd (never_skips op (the_item x.0) (g.known a) shaded ed (tells_it a x acc) es)
      at None ed stand covered (Some dark) es =
          good_next (Both Scalar b) Q (value_in k w dark Scalar b x.1) _
          (with_steady dark Scalar b x.1 st.0 st.1.1 (deeper dark stand covered)) (λ y p.
          result (the_item y.0) y.1
          (subst (λ d. UnlessSkipped d (Fits g homes b × (shape_of g homes b ≡ []))) (sym ed)
          (p.1.0, no_shape (shape_of g homes b) (Tell b) y.0 p.1.1))
          (λ v e. binary_told w shaded op (the_item x.0) (the_item y.0) (g.known a) (g.known b) v
          value_left (tells_it a x acc) (inr (the_value y.0 p.0.1.0, tells_it b y p.1)) e))
      at (Some n) ed stand covered None es =
          result (Known 0) x.1
          (subst (λ d. UnlessSkipped d (Fits g homes b × (shape_of g homes b ≡ []))) (sym ed) tt)
          (λ v e. skipped_told w shaded op (the_item x.0) (Known 0) (g.known a) (g.known b) n v ed
          (tells_it a x acc) e)
      at (Some n) ed stand covered (Some dark) es =
          good_on Q (value_in k w dark Scalar b x.1) _ (λ y.
          result (the_item y.0) y.1
          (subst (λ d. UnlessSkipped d (Fits g homes b × (shape_of g homes b ≡ []))) (sym ed) tt)
          (λ v e. skipped_told w shaded op (the_item x.0) (the_item y.0) (g.known a) (g.known b) n v
          ed (tells_it a x acc) e))

  choice_accepted : (c a b : Expr Meant) (shaded : Bool) (want : Want) (x : Datum × State)
      → Steady x → Accepts Scalar c x
      → Sides (g.known c) (HasAll There g homes a) (HasAll There g homes b)
      → Loads (sides (g.known c) (expr_reads g first a) (expr_reads g first b))
      → ((dark : Bool) (s : State) → Like f s → Fine s → HasAll There g homes a
      → Loads (expr_reads g first a) → OnGood (Accepts Scalar a) (value_in k w dark Scalar a s))
      → ((dark : Bool) (s : State) → Like f s → Fine s → HasAll There g homes b
      → Loads (expr_reads g first b) → OnGood (Accepts Scalar b) (value_in k w dark Scalar b s))
      → OnGood (Accepts want (Choice c a b))
      (looked_at (first_shading (side_of (the_item x.0)) shaded) x.1
      (λ dark. value_in k w dark Scalar a x.1) (λ y s2.
      looked_at (second_shading (side_of (the_item x.0)) shaded) s2
      (λ dark. value_in k w dark Scalar b s2) (λ z s3.
      answered (chosen (side_of (the_item x.0)) y z) s3)))
  choice_accepted c a b shaded want x st acc stand covered deep deeper =
      at (g.known c) (side_of (the_item x.0)) refl
      (side_matches (the_item x.0) (g.known c) (tells_it c x acc)) stand covered
    where
      Q : Datum × State → Type 0
      Q = Accepts want (Choice c a b)

      SidesFit : Option ℕ → Type 0
      SidesFit t =
          Sides t (Fits g homes a × (shape_of g homes a ≡ []))
          (Fits g homes b × (shape_of g homes b ≡ []))

      answers : (z : Value) (s3 : State) (t : Option ℕ) → g.known c ≡ t → SidesFit t
          → ((v : ℕ) → z ≡ Known v → choice_known t (g.known a) (g.known b) ≡ Some v)
          → OnGood Q (answered z s3)
      answers z s3 t et fit told =
          good_ok Q (single z, s3) (
            (
              (acc.0, no_shape (shape_of g homes c) (Tell c) x.0 acc.1),
              subst SidesFit (sym et) fit,
            ),
            single_told want (Tell (Choice c a b)) z (λ v e.
                ap (λ o. choice_known o (g.known a) (g.known b)) et ∙ told v e),
          )

      fit_a : (y : Datum × State) → Accepts Scalar a y
          → Fits g homes a × (shape_of g homes a ≡ [])
      fit_a y p = (p.0, no_shape (shape_of g homes a) (Tell a) y.0 p.1)

      fit_b : (y : Datum × State) → Accepts Scalar b y
          → Fits g homes b × (shape_of g homes b ≡ [])
      fit_b y p = (p.0, no_shape (shape_of g homes b) (Tell b) y.0 p.1)

      at : (t : Option ℕ) (side : Side) → g.known c ≡ t → Matches t side
          → Sides t (HasAll There g homes a) (HasAll There g homes b)
          → Loads (sides t (expr_reads g first a) (expr_reads g first b))
          → OnGood Q (looked_at (first_shading side shaded) x.1
          (λ dark. value_in k w dark Scalar a x.1) (λ y s2.
          looked_at (second_shading side shaded) s2 (λ dark. value_in k w dark Scalar b s2)
          (λ z s3. answered (chosen side y z) s3)))
      at None First et m stand covered = absurd m
      at None Second et m stand covered = absurd m
      at None Each et m (sa, sb) covered =
          good_next (Both Scalar a) Q (value_in k w true Scalar a x.1) _
          (with_steady true Scalar a x.1 st.0 st.1.1 (deep true x.1 st.0 st.1.1 sa
          (all_front (IsLoaded sources) (expr_reads g first a) _ covered))) (λ y p.
          good_next (Both Scalar b) Q (value_in k w true Scalar b y.1) _
          (with_steady true Scalar b y.1 p.0.0 p.0.1.1 (deeper true y.1 p.0.0 p.0.1.1 sb
          (all_back (IsLoaded sources) (expr_reads g first a) _ covered))) (λ z q.
          answers Opaque z.1 None et (fit_a y p.1, fit_b z q.1) (λ v e. never_known e)))
      at (Some zero) First et m stand covered = absurd m
      at (Some zero) Second et m stand covered =
          good_next (Both Scalar b) Q (value_in k w shaded Scalar b x.1) _
          (with_steady shaded Scalar b x.1 st.0 st.1.1
          (deeper shaded x.1 st.0 st.1.1 stand covered))
          (λ z q. answers (the_item z.0) z.1 (Some zero) et (fit_b z q.1) (tells_it b z q.1))
      at (Some zero) Each et m stand covered =
          good_next Steady Q (value_in k w true Scalar a x.1) _
          (steady true Scalar a x.1 st.0 st.1.1) (λ y p.
          good_next (Both Scalar b) Q (value_in k w true Scalar b y.1) _
          (with_steady true Scalar b y.1 p.0 p.1.1 (deeper true y.1 p.0 p.1.1 stand covered))
          (λ z q. answers Opaque z.1 (Some zero) et (fit_b z q.1) (λ v e. never_known e)))
      at (Some (suc m1)) First et m stand covered =
          good_next (Both Scalar a) Q (value_in k w shaded Scalar a x.1) _
          (with_steady shaded Scalar a x.1 st.0 st.1.1 (deep shaded x.1 st.0 st.1.1 stand covered))
          (λ y p. answers (the_item y.0) y.1 (Some (suc m1)) et (fit_a y p.1) (λ v e.
          ap (λ t. cond t (g.known b) (g.known a)) (ne_eqb (suc m1) 0 (λ z. cc)) ∙
          tells_it a y p.1 v e))
      at (Some (suc m1)) Second et m stand covered = absurd m
      at (Some (suc m1)) Each et m stand covered =
          good_next (Both Scalar a) Q (value_in k w true Scalar a x.1) _
          (with_steady true Scalar a x.1 st.0 st.1.1 (deep true x.1 st.0 st.1.1 stand covered))
          (λ y p. good_on Q (value_in k w true Scalar b y.1) _ (λ z.
          answers Opaque z.1 (Some (suc m1)) et (fit_a y p.1) (λ v e. never_known e)))

  -- only of a call that is made the arguments fit
  arguments_fit : (A C : Type 0) (o : Option Numbers) (reads : List Reading)
      (m : Tried (Datum × State)) → UnlessKnown o A → Loads (unless_called o reads)
      → (A → Loads reads → OnGood (λ x. o ≡ None → C) m) → OnGood (λ x. o ≡ None → C) m
  arguments_fit A C None reads m stand covered h = h stand covered
  arguments_fit A C (Some d) reads m stand covered h = good_const (Some d ≡ None → C) m (λ e. cc)

  call_accepted : (parallel : Bool) (name : List ℕ) (m : Meant) (arguments : Exprs Meant)
      (want : Want) (o : Option Numbers) (d : Datum)
      → sources.called (Call parallel name m arguments) ≡ o
      → CallTold (λ v. ⊤) d o → fits want d.dims ≡ true
      → AreCallsMeant scope (Call parallel name m arguments)
      → UnlessKnown o (EachHas There g homes arguments
      × KeyHas g.keys m (shapes_of g homes arguments))
      → (o ≡ None → AllFit g homes arguments)
      → Fits g homes (Call parallel name m arguments)
      × Told want (shape_of g homes (Call parallel name m arguments))
      (Tell (Call parallel name m arguments)) d
  call_accepted parallel name m arguments want None d eo told wanted is stand fit = (
    subst (λ o. UnlessCalled o (AllFit g homes arguments
        × IsCalled g.keys m (shapes_of g homes arguments))) (sym eo)
        (fit refl, is_called scope.functions keys m (shapes_of g homes arguments) is.0 stand.1),
    record {
      wanted = wanted;
      shape = ap called_shape eo ∙ ap (λ e. e.dims) (sym told);
      tells = λ v e i. never_known (ap the_item (sym told) ∙ i);
    },
  )
  call_accepted parallel name m arguments want (Some ns) d eo told wanted is stand fit = (
    subst (λ o. UnlessCalled o (AllFit g homes arguments
        × IsCalled g.keys m (shapes_of g homes arguments))) (sym eo)
        (known_are_numbers k fine sized w f fine_f (Call parallel name m arguments) ns
        (sym (called_is (Call parallel name m arguments) is) ∙ eo)),
    record {
      wanted = wanted;
      shape = ap called_shape eo ∙ told.0;
      tells = λ v e i. ap called_known eo ∙
          ap (λ ds. one_known ds (the_number ns)) (told.0 ∙ e) ∙
          ap Some (sym (subst (λ x. Means (λ v. ⊤) x (the_number ns)) i
          (rows_at (λ v. ⊤) d.items ns.items 0 told.1)));
    },
  )

  -- literals
  abbrev AllAccepts : Exprs Meant → List Datum × State → Type 0
  AllAccepts es x = AllFit g homes es × (shapes_of g homes es ≡ map (λ d. d.dims) x.0)

  literal_accepted : (e : Expr Meant) (es : Exprs Meant) (ds : List Datum) (s : State)
      → AllAccepts (more e es) (ds, s)
      → OnGood (Accepts Whole (Array (more e es))) (gathered w ds s)
  literal_accepted e es [] s (fit, shapes) = cc
  literal_accepted e es (d ∷ ds) s (fit, shapes) =
      good_needs (Accepts Whole (Array (more e es)))
      (list_all (λ x. same_dims x.dims d.dims) ds) w ShapeDiffers _ (λ same.
      let one : shape_of g homes e ≡ d.dims = cc in
      let rest : shapes_of g homes es ≡ map (λ d. d.dims) ds = cc in
      good_ok (Accepts Whole (Array (more e es))) _ (
        (
          fit.0,
          fit.1,
          subst (λ xs. HaveShape g homes xs es) (sym one)
              (have_shape g homes d.dims es ds rest same),
        ),
        record {
          wanted = refl;
          shape = ap₂ (λ n xs. suc n ∷ xs) (shapes_count g homes es ds rest) one;
          tells = λ v none i. cc;
        },
      ))

  known_same : (m v : ℕ) → Known m ≡ Known v → Some m ≡ Some v
  known_same m v e = let same : m ≡ v = cc in ap Some same

  mutual
    pub expr_accepted : (e : Expr Meant) (shaded : Bool) (want : Want) (s : State) → Like f s
        → Fine s → HasAll There g homes e → AreCallsMeant scope e → Loads (expr_reads g first e)
        → OnGood (Accepts want e) (value_in k w shaded want e s)
    expr_accepted (Number n) shaded want s l i stand is covered =
        good_ok (Accepts want (Number n)) (single (Known (n % P)), s) (
          tt,
          single_told want (Tell (Number n)) (Known (n % P)) (λ v e. known_same (n % P) v e),
        )
    expr_accepted (Place name m accessors) shaded want s l i stand is covered =
        named_accepted accessors m shaded want [] [] s l i tt stand is.0 is.1 covered
    expr_accepted (Call parallel name m arguments) shaded want s l i stand is covered =
        let e : Expr Meant = Call parallel name m arguments in
        good_weaker
        (λ x. CallTold (λ v. ⊤) x.0 (known_value (value_in k w true Whole e (uncounted f)))
        × ((fits want x.0.dims ≡ true) × (sources.called e ≡ None → AllFit g homes arguments)))
        (Accepts want e) (value_in k w shaded want e s)
        (good_both (λ x. CallTold (λ v. ⊤) x.0
        (known_value (value_in k w true Whole e (uncounted f)))) _ (value_in k w shaded want e s)
        (call_told (λ v. ⊤) k both w f shaded want parallel name m arguments s l)
        (good_both (λ x. fits want x.0.dims ≡ true) _ (value_in k w shaded want e s)
        (call_wanted k w m arguments shaded want s)
        (arguments_fit (EachHas There g homes arguments
        × KeyHas g.keys m (shapes_of g homes arguments)) (AllFit g homes arguments)
        (sources.called e) (exprs_reads g first arguments) (value_in k w shaded want e s) stand
        covered
        (λ st c. good_next (AllAccepts arguments)
        (λ x. sources.called e ≡ None → AllFit g homes arguments) (all_in k w shaded arguments s) _
        (all_accepted arguments shaded s l i st.0 is.1 c)
        (λ x p. good_const (sources.called e ≡ None → AllFit g homes arguments) _ (λ z. p.0))))))
        (λ x p. call_accepted parallel name m arguments want (sources.called e) x.0 refl
        (subst (CallTold (λ v. ⊤) x.0) (sym (called_is e is)) p.0) p.1.0 is stand p.1.1)
    expr_accepted (Anonymous parallel name m arguments inputs) shaded want s l i stand is covered =
        good_bad (Accepts want (Anonymous parallel name m arguments inputs)) _
    expr_accepted (Parentheses e) shaded want s l i stand is covered =
        expr_accepted e shaded want s l i stand is covered
    expr_accepted (Array none) shaded want s l i stand is covered = absurd stand
    expr_accepted (Array (more e es)) shaded Scalar s l i stand is covered =
        good_bad (Accepts Scalar (Array (more e es))) _
    expr_accepted (Array (more e es)) shaded Whole s l i (se, ss) is covered =
        good_next (AllAccepts (more e es)) (Accepts Whole (Array (more e es)))
        (all_in k w shaded (more e es) s) _
        (all_accepted (more e es) shaded s l i (se, ss) is covered)
        (λ x p. literal_accepted e es x.0 x.1 p)
    expr_accepted (Unary o a) shaded want s l i stand is covered =
        good_next (Both Scalar a) (Accepts want (Unary o a)) (value_in k w shaded Scalar a s) _
        (with_steady shaded Scalar a s l i (expr_accepted a shaded Scalar s l i stand is covered))
        (λ x p. good_ok (Accepts want (Unary o a))
        (single (unary_result (unary_of o) (the_item x.0)), x.1) (
          (p.1.0, no_shape (shape_of g homes a) (Tell a) x.0 p.1.1),
          single_told want (Tell (Unary o a)) (unary_result (unary_of o) (the_item x.0)) (λ v e.
              unary_told (unary_of o) (the_item x.0) (g.known a) v (the_value x.0 p.0.1.0)
              (tells_it a x p.1) e),
        ))
    expr_accepted (Binary o a b) shaded want s l i (sa, sb) is covered =
        good_next (Both Scalar a) (Accepts want (Binary o a b)) (value_in k w shaded Scalar a s) _
        (with_steady shaded Scalar a s l i (expr_accepted a shaded Scalar s l i sa is.0
        (all_front (IsLoaded sources) (expr_reads g first a) _ covered)))
        (λ x p. binary_accepted o a b shaded want x p.0 p.1 sb
        (all_back (IsLoaded sources) (expr_reads g first a) _ covered)
        (λ dark st c. expr_accepted b dark Scalar x.1 p.0.0 p.0.1.1 st is.1 c))
    expr_accepted (Choice c a b) shaded want s l i (sc, ss) is covered =
        good_next (Both Scalar c) (Accepts want (Choice c a b)) (value_in k w shaded Scalar c s) _
        (with_steady shaded Scalar c s l i (expr_accepted c shaded Scalar s l i sc is.0
        (all_front (IsLoaded sources) (expr_reads g first c) _ covered)))
        (λ x p. choice_accepted c a b shaded want x p.0 p.1 ss
        (all_back (IsLoaded sources) (expr_reads g first c) _ covered)
        (λ dark t lt it st r. expr_accepted a dark Scalar t lt it st is.1 r)
        (λ dark t lt it st r. expr_accepted b dark Scalar t lt it st is.2 r))

    all_accepted : (es : Exprs Meant) (shaded : Bool) (s : State) → Like f s → Fine s
        → EachHas There g homes es → AreAllMeant scope es → Loads (exprs_reads g first es)
        → OnGood (AllAccepts es) (all_in k w shaded es s)
    all_accepted none shaded s l i stand is covered = good_ok (AllAccepts none) ([], s) (tt, refl)
    all_accepted (more e es) shaded s l i (se, ss) is covered =
        good_next (Both Whole e) (AllAccepts (more e es)) (value_in k w shaded Whole e s) _
        (with_steady shaded Whole e s l i (expr_accepted e shaded Whole s l i se is.0
        (all_front (IsLoaded sources) (expr_reads g first e) _ covered))) (λ x p.
        good_next (AllAccepts es) (AllAccepts (more e es)) (all_in k w shaded es x.1) _
        (all_accepted es shaded x.1 p.0.0 p.0.1.1 ss is.1
        (all_back (IsLoaded sources) (expr_reads g first e) _ covered)) (λ y q.
        good_ok (AllAccepts (more e es)) (x.0 ∷ y.0, y.1) (
          (p.1.0, q.0),
          ap₂ (λ d ds. d ∷ ds) p.1.1.shape q.1,
        )))

    named_accepted : (rest : Accessors Meant) (m : Meant) (shaded : Bool) (want : Want)
        (os ks : List (Option ℕ)) (s : State) → Like f s → Fine s → Sharper os ks
        → PlaceHas There g homes (Named m) ks rest → IsSeen scope m → AreIndicesMeant scope rest
        → Loads (place_reads g first (Written m) ks rest)
        → OnGood (PlaceAccepts want (Named m) ks rest
        (λ v. place_known sources changed m ks rest ≡ Some v))
        (read_in k w shaded want (NamedRoot m) os rest s)
    named_accepted done (meant.Variable n) shaded want os ks s l i sharp stand sm is covered =
        variable_done n shaded want os ks s l sharp (stand (seen n sm)) covered
    named_accepted done (meant.Signal direction n) shaded want os ks s l i sharp stand sm is
        covered =
        signal_done direction n shaded want os ks s _ l sharp stand
    named_accepted done meant.Other shaded want os ks s l i sharp stand sm is covered = good_bad _ _
    named_accepted done (meant.Component n) shaded want os ks s l _ _ _ _ _ _ = good_bad _ _
    named_accepted done (meant.Template n) shaded want os ks s l _ _ _ _ _ _ = good_bad _ _
    named_accepted done (meant.Function n) shaded want os ks s l _ _ _ _ _ _ = good_bad _ _
    named_accepted (index e rest) m shaded want os ks s l i sharp (se, sr) sm is covered =
        good_next (Both Scalar e) (PlaceAccepts want (Named m) ks (index e rest)
        (λ v. place_known sources changed m ks (index e rest) ≡ Some v))
        (value_in k w shaded Scalar e s) _
        (with_steady shaded Scalar e s l i (expr_accepted e shaded Scalar s l i se is.0
        (all_front (IsLoaded sources) (expr_reads g first e) _ covered))) (λ x p.
        good_weaker (PlaceAccepts want (Named m) (ks ++ g.known e ∷ []) rest
        (λ v. place_known sources changed m (ks ++ g.known e ∷ []) rest ≡ Some v))
        (PlaceAccepts want (Named m) ks (index e rest)
        (λ v. place_known sources changed m ks (index e rest) ≡ Some v))
        (read_in k w shaded want (NamedRoot m) (os ++ known_number (the_item x.0) ∷ []) rest x.1)
        (named_accepted rest m shaded want (os ++ known_number (the_item x.0) ∷ [])
        (ks ++ g.known e ∷ []) x.1 p.0.0 p.0.1.1
        (sharper_more os ks (known_number (the_item x.0)) (g.known e) sharp
        (λ n en. tells_it e x p.1 n (known_is (the_item x.0) n en))) sr sm is.1
        (all_back (IsLoaded sources) (expr_reads g first e) _ covered))
        (λ y q. ((p.1.0, no_shape (shape_of g homes e) (Tell e) x.0 p.1.1, q.0), q.1)))
    named_accepted (member name rest) (meant.Component n) shaded want os ks s l i sharp stand sm
        is covered =
        good_next (λ source. IsElement g (Named (meant.Component n)) ks
        × OriginOf source (port_of g homes (Named (meant.Component n)) ks name))
        (PlaceAccepts want (Named (meant.Component n)) ks (member name rest)
        (λ v. place_known sources changed (meant.Component n) ks (member name rest) ≡ Some v))
        (inner_origin w shaded (NamedRoot (meant.Component n)) os name s.frame) _
        (origin_told n name shaded os ks s l sharp stand.0) (λ source source_is.
        good_weaker (PlaceAccepts want (port_of g homes (Named (meant.Component n)) ks name) [] rest
        (λ v. ⊥))
        (PlaceAccepts want (Named (meant.Component n)) ks (member name rest)
        (λ v. place_known sources changed (meant.Component n) ks (member name rest) ≡ Some v))
        (read_in k w shaded want (FoundRoot source) [] rest s)
        (found_accepted rest source (port_of g homes (Named (meant.Component n)) ks name) _ shaded
        want [] [] s l i source_is.1 tt stand.1 is covered)
        (λ y q. ((source_is.0, q.0), told_nothing want _ _ y.0 q.1)))
    named_accepted (member name rest) meant.Other _ _ _ _ _ _ _ _ _ _ _ _ = good_bad _ _
    named_accepted (member name rest) (meant.Variable n) _ _ _ _ _ _ _ _ _ _ _ _ = good_bad _ _
    named_accepted (member name rest) (meant.Signal d n) _ _ _ _ _ _ _ _ _ _ _ _ = good_bad _ _
    named_accepted (member name rest) (meant.Template n) _ _ _ _ _ _ _ _ _ _ _ _ = good_bad _ _
    named_accepted (member name rest) (meant.Function n) _ _ _ _ _ _ _ _ _ _ _ _ = good_bad _ _

    found_accepted : (rest : Accessors Meant) (source : Origin) (front : Front) (x : Option Name)
        (shaded : Bool) (want : Want) (os ks : List (Option ℕ)) (s : State)
        → Like f s → Fine s → OriginOf source front → Sharper os ks
        → PlaceHas There g homes front ks rest → AreIndicesMeant scope rest
        → Loads (place_reads g first (Reached x) ks rest)
        → OnGood (PlaceAccepts want front ks rest (λ v. ⊥))
        (read_in k w shaded want (FoundRoot source) os rest s)
    found_accepted done source front x shaded want os ks s l i from sharp stand is covered =
        found_done source front shaded want os ks s (λ v. ⊥) from sharp
    found_accepted (index e rest) source front x shaded want os ks s l i from sharp (se, sr)
        is covered =
        good_next (Both Scalar e) (PlaceAccepts want front ks (index e rest) (λ v. ⊥))
        (value_in k w shaded Scalar e s) _
        (with_steady shaded Scalar e s l i (expr_accepted e shaded Scalar s l i se is.0
        (all_front (IsLoaded sources) (expr_reads g first e) _ covered))) (λ y p.
        good_weaker (PlaceAccepts want front (ks ++ g.known e ∷ []) rest (λ v. ⊥))
        (PlaceAccepts want front ks (index e rest) (λ v. ⊥))
        (read_in k w shaded want (FoundRoot source) (os ++ known_number (the_item y.0) ∷ []) rest
        y.1)
        (found_accepted rest source front x shaded want (os ++ known_number (the_item y.0) ∷ [])
        (ks ++ g.known e ∷ []) y.1 p.0.0 p.0.1.1 from
        (sharper_more os ks (known_number (the_item y.0)) (g.known e) sharp
        (λ n en. tells_it e y p.1 n (known_is (the_item y.0) n en))) sr is.1
        (all_back (IsLoaded sources) (expr_reads g first e) _ covered))
        (λ z q. ((p.1.0, no_shape (shape_of g homes e) (Tell e) y.0 p.1.1, q.0), q.1)))
    found_accepted (member name rest) source front x shaded want os ks s l i from sharp stand
        is covered = good_bad _ _
