-- What the code of an expression may read is counted as read when the program is compiled: whatever
-- tells of the cells that are counted tells of the elements that are read.
use Rattle.std.proofs.Common.{◌≡◌, ℕ, zero, suc, ◌+◌, Bool, true, false, cond, List, [], ◌∷◌, ◌++◌}
use Rattle.std.proofs.Common.{length, map, Option, Some, None, Ok, refl, sym, ap, subst, ◌∙◌}
use Rattle.std.specs.Prelude.{slice_get, unwrap_or, ⊤, ◌||◌}
use Rattle.std.specs.List.{AllByRecursion}
use Rattle.cir_ast.specs.declared.operators.Direction.{Direction}
use Rattle.cir_ast.specs.declared.program.Meant.{Meant}
use Rattle.cir_ast.specs.declared.program.Meant.TheVariants as meant
use Rattle.cir_ast.specs.declared.refusal.Kind.TheVariants.{ReadBeforeWrite}
use Rattle.cir_ast.specs.Tree.{Expr, Number, Place, Call, Anonymous, Parentheses, Array, Unary}
use Rattle.cir_ast.specs.Tree.{Binary, Choice, Exprs, none, more, Accessors, done, index, member}
use Rattle.cir_meaning.specs.Tried.{Where, Tried, next, needed, found}
use Rattle.cir_meaning.specs.Places.{is_inside, all_known, places_of}
use Rattle.cir_meaning.specs.Arrays.{Datum, Want, Scalar, Whole, Reach, reach, single, item_at}
use Rattle.cir_meaning.specs.Arrays.{the_item, is_known, read_part}
use Rattle.cir_meaning.specs.Values.{Value, Known, Side, First, Second, Both as Each, side_of}
use Rattle.cir_meaning.specs.Values.{chosen, known_number, unary_result}
use Rattle.cir_meaning.specs.Operators.{Operator, operator_of, unary_of, left_tells, applied}
use Rattle.cir_meaning.specs.Operators.{shading, first_shading, second_shading}
use Rattle.cir_meaning.specs.Costs.{Made, Cell, Element, Wire, Cost, node, above, both as cost_both}
use Rattle.cir_meaning.specs.Costs.{seen as seen_there, value_of, is_settled, places_in}
use Rattle.cir_meaning.specs.Costs.{origin_reads, root_of, operand, cost_of, all_cost, place_cost}
use Rattle.cir_meaning.specs.Costs.{nodes_of, call_made, shapes_in}
use Rattle.cir_meaning.specs.Frame.{SignalEntry, Part, ComponentEntry, State, Context, entry_at}
use Rattle.cir_meaning.specs.Frame.{variable_at, signal_item, is_input, is_fed, uncounted}
use Rattle.cir_meaning.specs.Reading.{Origin, Stored, Wired, Lost as LostOrigin, Named as NamedRoot}
use Rattle.cir_meaning.specs.Reading.{Found as FoundRoot, origin_of, read_origin, inner_origin}
use Rattle.cir_meaning.specs.Reading.{part_at, located, named_signal, is_readable}
use Rattle.cir_meaning.specs.Evaluate.{value_in, all_in, read_in, looked_at, answered, gathered}
use Rattle.cir_meaning.specs.Evaluate.{called}
use Rattle.cir_meaning.specs.Run.{known_value}
use Rattle.cir_meaning.specs.RunValues.{Numbers}
use Rattle.cir_meaning.specs.Scoped.{Scope as Names, AreCallsMeant, AreAllMeant, AreIndicesMeant}
use Rattle.cir_meaning.proofs.CallsTold.{call_told}
use Rattle.cir_meaning.proofs.FineValues.{FineContext, Fine, FineAnswer, value_fine}
use Rattle.cir_meaning.proofs.Good.{OnGood, good_ok, good_next, good_is}
use Rattle.cir_meaning.proofs.KnownCalls.{CallBoth}
use Rattle.cir_meaning.proofs.Likes.{CallKeeps, Like, value_like}
use Rattle.cir_meaning.proofs.Rows.{all_append}
use Rattle.cir_meaning.proofs.ScanPoints.{next_to, found_to}
use Rattle.cir_meaning.proofs.Sound.{Told as CallTold}
use Rattle.cir_steps.proofs.ReadLeaves.{same_ok}
use Rattle.cir_steps.proofs.ReadOrigins.{seen_is, origin_like, inner_like}
use Rattle.cir_steps.proofs.Sized.{SizedCall}
use Rattle.wit_lower.specs.Homes.{Name, Variable, Signal, Port, Home, Homes, Ground, Front, Named}
use Rattle.wit_lower.specs.Homes.{find, offset, port_of as port_front}
use Rattle.wit_lower.specs.Known.{number_known}
use Rattle.wit_lower.specs.Pieces.{decided}
use Rattle.wit_lower.specs.Fits.{UnlessSkipped, Sides}
use Rattle.wit_lower.specs.Sources.{Sources, scope_of}
use Rattle.cir_emit.specs.Lowered.{IsLoaded}
use Rattle.cir_emit.specs.Reads.{Reading, Written, Reached, part_of, elements_of, named_part}
use Rattle.cir_emit.specs.Reads.{port_at, port_of, unless_skipped, sides, unless_called, expr_reads}
use Rattle.cir_emit.specs.Reads.{exprs_reads, place_reads}
use Rattle.cir_emit.specs.Sourced.{HasAll, EachHas, PlaceHas, UnlessKnown, KeyHas}
use Rattle.cir_emit.proofs.Fitting.{ground_of, Accepted, accepted}
use Rattle.cir_emit.proofs.KnownOperators.{Tells, never_skips, Matches, side_matches}
use Rattle.cir_emit.proofs.Lists.{all_front, all_back, all_mapped, all_through, all_weaker}
use Rattle.cir_emit.proofs.Outside.{dims_same}
use Rattle.cir_emit.proofs.Reached.{good_found, good_itself, IsSpot, Sharper, sharper_more}
use Rattle.cir_emit.proofs.Reached.{sharper_known, known_again, PartAt, part_told}
use Rattle.cir_emit.proofs.Sharpened.{inside_sharper, places_sharper, reach_whole, unknown_all}
use Rattle.cir_emit.proofs.Standing.{IsStanding, known_is, no_dims}
use Rattle.cir_emit.proofs.Values.{reading}
use Rattle.wit_lower.specs.Values.{shape_of, shapes_of}

-- what is told of the elements of a signal by the cells that are counted
abbrev pub IsLed : (C : Cell → Type 0) → (Q : Reading → Type 0) → Name → Home → SignalEntry
    → Type 0
IsLed C Q y h e =
    (e.dims ≡ h.dims) × ((p : ℕ) → C (Wire (e.first + p)) → Q (reading y p))

-- nothing is counted of elements of a variable that are known
abbrev pub IsVariableLed : State → (C : Cell → Type 0) → (Q : Reading → Type 0) → ℕ → Home → Type 0
IsVariableLed f C Q n h =
    ((variable_at f.frame n).dims ≡ h.dims)
    × ((p : ℕ) → (is_known (item_at (variable_at f.frame n).items p) ≡ false → C (Element n p))
    → Q (reading (Variable n) p))

-- what is told of all elements by the cells that are counted
pub record AreLed (w : Where) (f : State) (first : Homes) (C : Cell → Type 0)
    (Q : Reading → Type 0) : Type 0 where
  pub variable : (n : ℕ) (h : Home) → find (Variable n) first ≡ Some h → IsVariableLed f C Q n h
  pub signal : (n : ℕ) (h : Home) (e : SignalEntry) → find (Signal n) first ≡ Some h
      → entry_at f.frame.signals n ≡ Some e → IsLed C Q (Signal n) h e
  pub port : (n : ℕ) (c : ComponentEntry) (indices name : List ℕ) (h : Home) (j : ℕ) (p : Part)
      (x : ℕ × SignalEntry) → entry_at f.frame.components n ≡ Some c
      → is_inside c.dims (map Some indices) ≡ true → length indices ≡ length c.dims
      → entry_at c.parts (offset c.dims indices) ≡ Some j
      → slice_get f.frame.parts j ≡ Some p → named_signal w name p.signals ≡ Ok x
      → find (Port n (offset c.dims indices) name) first ≡ Some h
      → IsLed C Q (Port n (offset c.dims indices) name) h x.1

module _ (k : Context) (keeps : CallKeeps k.call) (both : CallBoth k.call) (fine : FineContext k)
    (sized : SizedCall k.call) (w : Where) (f : State) (fine_f : Fine f) (keys : List Made)
    (sources : Sources) (changed : List ℕ) (homes : Homes) (There : Name → Type 0)
    (stands : IsStanding There w f sources changed homes) (scope : Names)
    (seen : (n : ℕ) → scope.seen n ≡ true → There (Variable n))
    (called_is : (e : Expr Meant) → AreCallsMeant scope e
    → sources.called e ≡ known_value (value_in k w true Whole e (uncounted f)))
    (C : Cell → Type 0) (Q : Reading → Type 0)
    (led : AreLed w f (scope_of sources).homes C Q) where
  abbrev g : Ground
  g = ground_of keys sources changed

  abbrev first : Homes
  first = (scope_of sources).homes

  abbrev Loads : List Reading → Type 0
  Loads reads = AllByRecursion (IsLoaded sources) reads

  abbrev Has : Expr Meant → Type 0
  Has e = HasAll There g homes e

  abbrev Counts : Cost → Type 0
  Counts c = AllByRecursion C c.reads

  abbrev Are : List Reading → Type 0
  Are reads = AllByRecursion Q reads

  abbrev reads_of : Expr Meant → List Reading
  reads_of e = expr_reads g first e

  abbrev IsAccepted : Expr Meant → Datum × State → Type 0
  IsAccepted = Accepted k keeps both fine sized w f fine_f keys sources changed homes There stands
      scope seen called_is Scalar

  taken : (e : Expr Meant) (shaded : Bool) (s : State) (y : Datum × State) → Like f s → Fine s
      → Has e → AreCallsMeant scope e → Loads (reads_of e)
      → value_in k w shaded Scalar e s ≡ Ok y → IsAccepted e y
  taken e shaded s y l i has is covered ey =
      good_is (IsAccepted e) (value_in k w shaded Scalar e s) y ey
      (accepted k keeps both fine sized w f fine_f keys sources changed homes There stands
      scope seen called_is e shaded Scalar s l i (record { has = has; loaded = covered }, is))

  behind : (e : Expr Meant) (shaded : Bool) (want : Want) (s : State) (y : Datum × State)
      → Like f s → Fine s → value_in k w shaded want e s ≡ Ok y → Like f y.1 × Fine y.1
  behind e shaded want s y l i ey =
      let answer : FineAnswer y =
      good_is FineAnswer (value_in k w shaded want e s) y ey
      (value_fine k fine w shaded want e s i) in (
        good_is (λ x. Like f x.1) (value_in k w shaded want e s) y ey
            (value_like f k keeps w shaded want e s l),
        answer.1,
      )

  tells_it : (e : Expr Meant) (y : Datum × State) → IsAccepted e y
      → Tells (the_item y.0) (g.known e)
  tells_it e y a m is =
      a.told.tells m (no_dims (shape_of g homes e) (λ v. number_known sources changed e ≡ Some v)
      y.0 a.told) is

  seen_as : (e : Expr Meant) (shaded : Bool) (want : Want) (s : State) (y : Datum × State)
      → Like f s → value_in k w shaded want e s ≡ Ok y → seen_there k w shaded e f ≡ Some y.0
  seen_as e shaded want s y l ey =
      seen_is k both keeps w f (λ j. Unit {0}) shaded want e s y l ey

  -- places
  part_led : (y : Name) (h : Home) (dims : List ℕ) (os ks : List (Option ℕ)) (shaded : Bool)
      (want : Want) (r : Reach) → dims ≡ h.dims → Sharper os ks
      → reach w shaded want dims os ≡ Ok r
      → AllByRecursion (λ p. Q (reading y p)) (places_in (reach w true Whole dims os))
      → Are (part_of y (Some h) ks)
  part_led y h dims os ks shaded want r same sharp er all = at (is_inside h.dims ks) refl
    where
      at : (b : Bool) → is_inside h.dims ks ≡ b
          → Are (cond b (elements_of y (places_of h.dims ks)) [])
      at false e = tt
      at true e =
          let inside : is_inside dims ks ≡ true = ap (λ ds. is_inside ds ks) same ∙ e in
          let each : AllByRecursion (λ p. Q (reading y p)) (places_of dims os) =
          subst (λ ps. AllByRecursion (λ p. Q (reading y p)) ps)
          (reach_whole w shaded want dims os r er (inside_sharper dims os ks sharp inside)) all in
          all_through Q (reading y) (places_of h.dims ks)
          (subst (λ ds. AllByRecursion (λ p. Q (reading y p)) (places_of ds ks)) same
          (places_sharper (λ p. Q (reading y p)) dims os ks sharp inside each))

  variable_led : (n : ℕ) (shaded : Bool) (want : Want) (os ks : List (Option ℕ)) (s : State)
      (x : Datum × State) → Like f s → Sharper os ks
      → read_in k w shaded want (NamedRoot (meant.Variable n)) os done s ≡ Ok x
      → AllByRecursion C (origin_reads w (meant.Variable n) os
      (origin_of w (NamedRoot (meant.Variable n)) f.frame))
      → Are (named_part first (Some (Variable n)) ks)
  variable_led n shaded want os ks s x l sharp ex counts = at (find (Variable n) first) refl
    where
      d : Datum
      d = variable_at f.frame n

      same : variable_at s.frame n ≡ d
      same = ap (λ vs. unwrap_or (slice_get vs n) (single (Known 0))) l.0

      at : (o : Option Home) → find (Variable n) first ≡ o → Are (part_of (Variable n) o ks)
      at None eo = tt
      at (Some h) eo =
          let one : (y : Datum)
          × (read_origin w shaded want os (Stored (variable_at s.frame n)) ≡ Ok y)
          × (Ok (y, s) ≡ Ok x) =
          next_to (read_origin w shaded want os (Stored (variable_at s.frame n)))
          (λ y. Ok (y, s)) x ex in
          let two : (r : Reach) × (reach w shaded want (variable_at s.frame n).dims os ≡ Ok r)
          × (Ok (read_part r (item_at (variable_at s.frame n).items)) ≡ Ok one.0) =
          next_to (reach w shaded want (variable_at s.frame n).dims os)
          (λ r. Ok (read_part r (item_at (variable_at s.frame n).items))) one.0 one.1 in
          let places : List ℕ = places_in (reach w true Whole d.dims os) in
          let told = led.variable n h eo in
          part_led (Variable n) h d.dims os ks shaded want two.0 told.0 sharp
          (ap (λ (v : Datum). reach w shaded want v.dims os) (sym same) ∙ two.1)
          (all_weaker (λ p. is_known (item_at d.items p) ≡ false → C (Element n p))
          (λ p. Q (reading (Variable n) p)) places told.1
          (unknown_all C n d.items places counts))

  wired_led : (y : Name) (h : Home) (may : Bool) (e : SignalEntry) (shaded : Bool) (want : Want)
      (os ks : List (Option ℕ)) (d : Datum) → IsLed C Q y h e → Sharper os ks
      → read_origin w shaded want os (Wired may e) ≡ Ok d
      → AllByRecursion C (map (λ p. Wire (e.first + p))
      (places_in (reach w true Whole e.dims os)))
      → Are (part_of y (Some h) ks)
  wired_led y h may e shaded want os ks d told sharp ed counts =
      let a : (r : Reach) × (reach w shaded want e.dims os ≡ Ok r)
      × (needed (is_readable may e os r.places) w ReadBeforeWrite
      (Ok (read_part r (signal_item e))) ≡ Ok d) =
      next_to (reach w shaded want e.dims os) (λ r.
      needed (is_readable may e os r.places) w ReadBeforeWrite
      (Ok (read_part r (signal_item e)))) d ed in
      let places : List ℕ = places_in (reach w true Whole e.dims os) in
      part_led y h e.dims os ks shaded want a.0 told.0 sharp a.1
      (all_weaker (λ p. C (Wire (e.first + p))) (λ p. Q (reading y p)) places told.1
      (all_mapped C (λ p. Wire (e.first + p)) places counts))

  signal_led : (direction : Direction) (n : ℕ) (shaded : Bool) (want : Want)
      (os ks : List (Option ℕ)) (s : State) (x : Datum × State) → Like f s → Sharper os ks
      → read_in k w shaded want (NamedRoot (meant.Signal direction n)) os done s ≡ Ok x
      → AllByRecursion C (origin_reads w (meant.Signal direction n) os
      (origin_of w (NamedRoot (meant.Signal direction n)) f.frame))
      → Are (named_part first (Some (Signal n)) ks)
  signal_led direction n shaded want os ks s x l sharp ex counts =
      let a : (source : Origin)
      × (origin_of w (NamedRoot (meant.Signal direction n)) s.frame ≡ Ok source)
      × (next (read_origin w shaded want os source) (λ d. Ok (d, s)) ≡ Ok x) =
      next_to (origin_of w (NamedRoot (meant.Signal direction n)) s.frame)
      (λ source. next (read_origin w shaded want os source) (λ d. Ok (d, s))) x ex in
      let is : origin_of w (NamedRoot (meant.Signal direction n)) f.frame ≡ Ok a.0 =
      sym (origin_like k both keeps w f (λ j. Unit {0}) (NamedRoot (meant.Signal direction n)) s l)
      ∙ a.1 in
      let b : (e : SignalEntry)
      × (found w ReadBeforeWrite (entry_at f.frame.signals n) ≡ Ok e)
      × (Ok (Wired true e) ≡ Ok a.0) =
      next_to (found w ReadBeforeWrite (entry_at f.frame.signals n)) (λ e. Ok (Wired true e)) a.0
      is in
      let same : Wired true b.0 ≡ a.0 = same_ok (Wired true b.0) a.0 b.2 in
      let c : (d : Datum) × (read_origin w shaded want os a.0 ≡ Ok d) × (Ok (d, s) ≡ Ok x) =
      next_to (read_origin w shaded want os a.0) (λ d. Ok (d, s)) x a.2 in
      at (find (Signal n) first) refl b.0
      (found_to w ReadBeforeWrite (entry_at f.frame.signals n) b.0 b.1) c.0
      (subst (λ o. read_origin w shaded want os o ≡ Ok c.0) (sym same) c.1)
      (subst (λ o. AllByRecursion C (origin_reads w (meant.Signal direction n) os (Ok o)))
      (sym same)
      (subst (λ o. AllByRecursion C (origin_reads w (meant.Signal direction n) os o)) is counts))
    where
      at : (o : Option Home) → find (Signal n) first ≡ o → (e : SignalEntry)
          → entry_at f.frame.signals n ≡ Some e → (d : Datum)
          → read_origin w shaded want os (Wired true e) ≡ Ok d
          → AllByRecursion C (map (λ p. Wire (e.first + p))
          (places_in (reach w true Whole e.dims os)))
          → Are (part_of (Signal n) o ks)
      at None eo e there d ed c = tt
      at (Some h) eo e there d ed c =
          wired_led (Signal n) h true e shaded want os ks d (led.signal n h e eo there) sharp ed c

  -- what is found already: the signal of a component, or nothing
  abbrev OriginLed : Origin → Option Name → Type 0
  OriginLed (Wired may e) None = ⊤
  OriginLed (Wired may e) (Some y) = (h : Home) → find y first ≡ Some h → IsLed C Q y h e
  OriginLed (Stored d) None = ⊤
  OriginLed (Stored d) (Some y) = ⊥
  OriginLed LostOrigin None = ⊤
  OriginLed LostOrigin (Some y) = ⊥

  found_end : (n : ℕ) (source : Origin) (y : Option Name) (shaded : Bool) (want : Want)
      (os ks : List (Option ℕ)) (s : State) (x : Datum × State) → OriginLed source y
      → Sharper os ks → read_in k w shaded want (FoundRoot source) os done s ≡ Ok x
      → AllByRecursion C (origin_reads w (meant.Component n) os (Ok source))
      → Are (named_part first y ks)
  found_end n source None shaded want os ks s x told sharp ex counts = tt
  found_end n (Stored d) (Some y) shaded want os ks s x told sharp ex counts = absurd told
  found_end n LostOrigin (Some y) shaded want os ks s x told sharp ex counts = absurd told
  found_end n (Wired may e) (Some y) shaded want os ks s x told sharp ex counts =
      let a : (d : Datum) × (read_origin w shaded want os (Wired may e) ≡ Ok d)
      × (Ok (d, s) ≡ Ok x) =
      next_to (read_origin w shaded want os (Wired may e)) (λ d. Ok (d, s)) x ex in
      at (find y first) refl a.0 a.1
    where
      at : (o : Option Home) → find y first ≡ o → (d : Datum)
          → read_origin w shaded want os (Wired may e) ≡ Ok d → Are (part_of y o ks)
      at None eo d ed = tt
      at (Some h) eo d ed =
          wired_led y h may e shaded want os ks d (told h eo) sharp ed counts

  -- the signal of a component that known indices mean
  inner_led : (n : ℕ) (name : List ℕ) (shaded : Bool) (os ks : List (Option ℕ)) (s : State)
      → Like f s → Sharper os ks
      → OnGood (λ source. OriginLed source (port_of g (Written (meant.Component n)) ks name))
      (inner_origin w shaded (NamedRoot (meant.Component n)) os name s.frame)
  inner_led n name shaded os ks s l sharp =
      good_next (PartAt n os s.frame) R (part_at w shaded n os s.frame) _
      (part_told w shaded n os s.frame) (λ o p. spot o p.component p.indices
      (ap (λ xs. entry_at xs n) (sym l.2) ∙ p.is_component)
      (sharper_known ks p.indices (subst (λ xs. Sharper xs ks) p.os_are sharp)) p.spot)
    where
      port : Option Name
      port = port_of g (Written (meant.Component n)) ks name

      R : Origin → Type 0
      R source = OriginLed source port

      same : (c : ComponentEntry) (is : List ℕ) → entry_at f.frame.components n ≡ Some c
          → is_inside c.dims (map Some is) ≡ true → length is ≡ length c.dims
          → sources.components n ≡ c.dims
      same c is ec inside full =
          sym (dims_same c.dims (sources.components n) (λ js. sym (stands.component n c ec js)) is
          full inside)

      port_known : (is : List ℕ) → ks ≡ map Some is
          → port ≡ port_at n (sources.components n) name (Some is)
      port_known is ks_are =
          ap (λ os. port_at n (sources.components n) name (all_known os)) ks_are ∙
          ap (port_at n (sources.components n) name) (known_again is)

      spot : (o : Option ℕ) (c : ComponentEntry) (is : List ℕ)
          → entry_at f.frame.components n ≡ Some c → ks ≡ map Some is → IsSpot c os is o
          → OnGood R (located w name o s.frame.parts)
      spot None c is ec ks_are outside =
          good_ok R LostOrigin (subst (OriginLed LostOrigin)
          (sym (port_known is ks_are ∙
          ap (λ t. cond t (Some (Port n (offset (sources.components n) is) name)) None)
          (stands.component n c ec is ∙ outside))) tt)
      spot (Some j) c is ec ks_are (inside, full, ej) =
          let there : port ≡ Some (Port n (offset c.dims is) name) =
          port_known is ks_are ∙
          ap (λ ds. port_at n ds name (Some is)) (same c is ec inside full) ∙
          ap (λ t. cond t (Some (Port n (offset c.dims is) name)) None) inside in
          good_found R w ReadBeforeWrite (slice_get s.frame.parts j) _ (λ p ep.
          good_next (λ x. named_signal w name p.signals ≡ Ok x) R (named_signal w name p.signals) _
          (good_itself (named_signal w name p.signals)) (λ x ex.
          good_ok R (Wired (is_input x.1.direction || is_fed p.signals) x.1)
          (subst (OriginLed (Wired (is_input x.1.direction || is_fed p.signals) x.1)) (sym there)
          (λ h eh. led.port n c is name h j p x ec inside full ej
          (ap (λ xs. slice_get xs j) (sym l.3) ∙ ep) ex eh))))

  -- operators
  right_led : {A : Type 0} (o : Operator) (a b : Expr Meant) (v : Value) (shaded : Bool)
      (t : State) (go : Value → State → Tried A) (x : A) → Tells v (g.known a) → (d : Option ℕ)
      → decided o (g.known a) ≡ d → (sh : Option Bool) → shading (left_tells o v) shaded ≡ sh
      → looked_at sh t (λ dark. value_in k w dark Scalar b t) go ≡ Ok x
      → Counts (operand sh (λ dark. cost_of k w dark b f) (nodes_of b))
      → UnlessSkipped d (Has b) → Loads (unless_skipped d (reads_of b))
      → ((dark : Bool) (z : Datum × State) → value_in k w dark Scalar b t ≡ Ok z
      → Counts (cost_of k w dark b f) → Has b → Loads (reads_of b) → Are (reads_of b))
      → Are (unless_skipped d (reads_of b))
  right_led o a b v shaded t go x tells (Some n) ed sh es ex counts has covered deeper = tt
  right_led o a b v shaded t go x tells None ed None es ex counts has covered deeper =
      absurd (never_skips o v (g.known a) shaded ed tells es)
  right_led o a b v shaded t go x tells None ed (Some dark) es ex counts has covered deeper =
      let z : (z : Datum × State) × (value_in k w dark Scalar b t ≡ Ok z)
      × (go (the_item z.0) z.1 ≡ Ok x) =
      next_to (value_in k w dark Scalar b t) (λ z. go (the_item z.0) z.1) x ex in
      deeper dark z.0 z.1 counts has covered

  abbrev Leads : Expr Meant → Type 0
  Leads e =
      (dark : Bool) (s : State) (z : Datum × State) → Like f s → Fine s
      → value_in k w dark Scalar e s ≡ Ok z → Counts (cost_of k w dark e f) → Has e
      → Loads (reads_of e) → Are (reads_of e)

  sides_led : {A : Type 0} (a b : Expr Meant) (shaded : Bool) (s : State)
      (last : Value → Value → State → Tried A) (x : A) → Like f s → Fine s → (t : Option ℕ)
      (side : Side) → Matches t side
      → looked_at (first_shading side shaded) s (λ dark. value_in k w dark Scalar a s) (λ v s2.
      looked_at (second_shading side shaded) s2 (λ dark. value_in k w dark Scalar b s2) (last v))
      ≡ Ok x
      → Counts (cost_both
      (operand (first_shading side shaded) (λ dark. cost_of k w dark a f) (nodes_of a))
      (operand (second_shading side shaded) (λ dark. cost_of k w dark b f) (nodes_of b)))
      → Sides t (Has a) (Has b) → Loads (sides t (reads_of a) (reads_of b)) → Leads a → Leads b
      → Are (sides t (reads_of a) (reads_of b))
  sides_led a b shaded s last x l i None First m ex counts has covered deep deeper = absurd m
  sides_led a b shaded s last x l i None Second m ex counts has covered deep deeper = absurd m
  sides_led a b shaded s last x l i (Some zero) First m ex counts has covered deep deeper = absurd m
  sides_led a b shaded s last x l i (Some (suc n)) Second m ex counts has covered deep deeper =
      absurd m
  sides_led a b shaded s last x l i (Some zero) Second m ex counts has covered deep deeper =
      let z : (z : Datum × State) × (value_in k w shaded Scalar b s ≡ Ok z)
      × (last (Known 0) (the_item z.0) z.1 ≡ Ok x) =
      next_to (value_in k w shaded Scalar b s) (λ z. last (Known 0) (the_item z.0) z.1) x ex in
      deeper shaded s z.0 l i z.1 counts has covered
  sides_led a b shaded s last x l i (Some (suc n)) First m ex counts has covered deep deeper =
      let z : (z : Datum × State) × (value_in k w shaded Scalar a s ≡ Ok z)
      × (last (the_item z.0) (Known 0) z.1 ≡ Ok x) =
      next_to (value_in k w shaded Scalar a s) (λ z. last (the_item z.0) (Known 0) z.1) x ex in
      deep shaded s z.0 l i z.1 (all_front C (cost_of k w shaded a f).reads _ counts) has covered
  sides_led {A} a b shaded s last x l i t Each m ex counts has covered deep deeper =
      let y : (y : Datum × State) × (value_in k w true Scalar a s ≡ Ok y)
      × (rest y ≡ Ok x) = next_to (value_in k w true Scalar a s) rest x ex in
      let z : (z : Datum × State) × (value_in k w true Scalar b y.0.1 ≡ Ok z)
      × (last (the_item y.0.0) (the_item z.0) z.1 ≡ Ok x) =
      next_to (value_in k w true Scalar b y.0.1) (λ z. last (the_item y.0.0) (the_item z.0) z.1) x
      y.2 in
      let at_b : Like f y.0.1 × Fine y.0.1 = behind a true Scalar s y.0 l i y.1 in
      by t has covered
      (λ h c. deep true s y.0 l i y.1 (all_front C (cost_of k w true a f).reads _ counts) h c)
      (λ h c. deeper true y.0.1 z.0 at_b.0 at_b.1 z.1
      (all_back C (cost_of k w true a f).reads _ counts) h c)
    where
      rest : Datum × State → Tried A
      rest y =
          next (value_in k w true Scalar b y.1) (λ z. last (the_item y.0) (the_item z.0) z.1)

      by : (t : Option ℕ) → Sides t (Has a) (Has b)
          → Loads (sides t (reads_of a) (reads_of b)) → (Has a → Loads (reads_of a)
          → Are (reads_of a)) → (Has b → Loads (reads_of b) → Are (reads_of b))
          → Are (sides t (reads_of a) (reads_of b))
      by None (ha, hb) c one two =
          all_append Q (reads_of a) (reads_of b)
          (one ha (all_front (IsLoaded sources) (reads_of a) (reads_of b) c))
          (two hb (all_back (IsLoaded sources) (reads_of a) (reads_of b) c))
      by (Some zero) hb c one two = two hb c
      by (Some (suc n)) ha c one two = one ha c

  -- of a call that is made the arguments are counted
  call_led : (parallel : Bool) (name : List ℕ) (m : Meant) (arguments : Exprs Meant)
      (shaded : Bool) (want : Want) (s : State) (x : Datum × State) (o : Option Numbers)
      → Like f s → value_in k w shaded want (Call parallel name m arguments) s ≡ Ok x
      → CallTold (λ v. ⊤) x.0 o → Counts (cost_of k w shaded (Call parallel name m arguments) f)
      → UnlessKnown o (EachHas There g homes arguments
      × KeyHas g.keys m (shapes_of g homes arguments))
      → Loads (unless_called o (exprs_reads g first arguments))
      → (Counts (all_cost k w shaded arguments f) → EachHas There g homes arguments
      → Loads (exprs_reads g first arguments) → Are (exprs_reads g first arguments))
      → Are (unless_called o (exprs_reads g first arguments))
  call_led parallel name m arguments shaded want s x (Some d) l ex told counts has covered deeper =
      tt
  call_led parallel name m arguments shaded want s x None l ex told counts has covered deeper =
      deeper (all_front C (all_cost k w shaded arguments f).reads []
      (subst (λ b. Counts (cond b (node 1) made_call)) unsettled counts)) has.0 covered
    where
      made_call : Cost
      made_call = above (cost_both (all_cost k w shaded arguments f) record {
        nodes = 0;
        reads = [];
        calls = call_made k w shaded m (shapes_in k w shaded arguments f);
      })

      unsettled : is_settled (seen_there k w shaded (Call parallel name m arguments) f) ≡ false
      unsettled =
          ap is_settled (seen_as (Call parallel name m arguments) shaded want s x l ex) ∙
          ap (λ d. is_settled (Some d)) told

  mutual
    pub expr_led : (e : Expr Meant) (shaded : Bool) (want : Want) (s : State)
        (x : Datum × State) → Like f s → Fine s → Has e → AreCallsMeant scope e
        → Loads (reads_of e) → value_in k w shaded want e s ≡ Ok x
        → Counts (cost_of k w shaded e f) → Are (reads_of e)
    expr_led (Number n) shaded want s x l i has is covered ex counts = tt
    expr_led (Place name m accessors) shaded want s x l i has is covered ex counts =
        named_led accessors m shaded want [] [] s x l i tt has is.1 covered ex counts
    expr_led (Call parallel name m arguments) shaded want s x l i has is covered ex counts =
        let e : Expr Meant = Call parallel name m arguments in
        let y : (y : List Datum × State) × (all_in k w shaded arguments s ≡ Ok y)
        × (called k w want m arguments y.0 y.1 ≡ Ok x) =
        next_to (all_in k w shaded arguments s) (λ y. called k w want m arguments y.0 y.1) x ex in
        call_led parallel name m arguments shaded want s x (sources.called e) l ex
        (subst (CallTold (λ v. ⊤) x.0) (sym (called_is e is))
        (good_is (λ y. CallTold (λ v. ⊤) y.0
        (known_value (value_in k w true Whole e (uncounted f)))) (value_in k w shaded want e s) x
        ex (call_told (λ v. ⊤) k both w f shaded want parallel name m arguments s l))) counts has
        covered (λ c h d. all_led arguments shaded s y.0 l i h is.1 d y.1 c)
    expr_led (Anonymous parallel name m arguments inputs) shaded want s x l i has is covered ex
        counts = tt
    expr_led (Parentheses e) shaded want s x l i has is covered ex counts =
        expr_led e shaded want s x l i has is covered ex counts
    expr_led (Array none) shaded want s x l i has is covered ex counts = absurd has
    expr_led (Array (more e es)) shaded Scalar s x l i has is covered ex counts = cc
    expr_led (Array (more e es)) shaded Whole s x l i has is covered ex counts =
        let y : (y : List Datum × State) × (all_in k w shaded (more e es) s ≡ Ok y)
        × (gathered w y.0 y.1 ≡ Ok x) =
        next_to (all_in k w shaded (more e es) s) (λ y. gathered w y.0 y.1) x ex in
        all_led (more e es) shaded s y.0 l i has is covered y.1 counts
    expr_led (Unary o a) shaded want s x l i has is covered ex counts =
        let y : (y : Datum × State) × (value_in k w shaded Scalar a s ≡ Ok y)
        × (answered (unary_result (unary_of o) (the_item y.0)) y.1 ≡ Ok x) =
        next_to (value_in k w shaded Scalar a s)
        (λ y. answered (unary_result (unary_of o) (the_item y.0)) y.1) x ex in
        expr_led a shaded Scalar s y.0 l i has is covered y.1 counts
    expr_led (Binary o a b) shaded want s x l i has is covered ex counts =
        let op : Operator = operator_of o in
        let y : (y : Datum × State) × (value_in k w shaded Scalar a s ≡ Ok y)
        × (looked_at (shading (left_tells op (the_item y.0)) shaded) y.1
        (λ dark. value_in k w dark Scalar b y.1) (λ v s2.
        next (applied w shaded op (the_item y.0) v) (λ z. answered z s2)) ≡ Ok x) =
        next_to (value_in k w shaded Scalar a s) (λ y.
        looked_at (shading (left_tells op (the_item y.0)) shaded) y.1
        (λ dark. value_in k w dark Scalar b y.1) (λ v s2.
        next (applied w shaded op (the_item y.0) v) (λ z. answered z s2))) x ex in
        let front : Loads (reads_of a) =
        all_front (IsLoaded sources) (reads_of a) _ covered in
        let t : IsAccepted a y.0 = taken a shaded s y.0 l i has.0 is.0 front y.1 in
        all_append Q (reads_of a) _
        (expr_led a shaded Scalar s y.0 l i has.0 is.0 front y.1
        (all_front C (cost_of k w shaded a f).reads _ counts))
        (right_led op a b (the_item y.0.0) shaded y.0.1 _ x (tells_it a y.0 t)
        (decided op (g.known a)) refl (shading (left_tells op (the_item y.0.0)) shaded) refl y.2
        (subst (λ v. Counts (operand (shading (left_tells op (value_of v)) shaded)
        (λ dark. cost_of k w dark b f) (nodes_of b))) (seen_as a shaded Scalar s y.0 l y.1)
        (all_back C (cost_of k w shaded a f).reads _ counts)) has.1
        (all_back (IsLoaded sources) (reads_of a) _ covered)
        (λ dark z ez c h d. expr_led b dark Scalar y.0.1 z t.like t.fine_state h is.1 d ez c))
    expr_led (Choice c a b) shaded want s x l i has is covered ex counts =
        let y : (y : Datum × State) × (value_in k w shaded Scalar c s ≡ Ok y)
        × (looked_at (first_shading (side_of (the_item y.0)) shaded) y.1
        (λ dark. value_in k w dark Scalar a y.1) (λ v s2.
        looked_at (second_shading (side_of (the_item y.0)) shaded) s2
        (λ dark. value_in k w dark Scalar b s2) (λ z s3.
        answered (chosen (side_of (the_item y.0)) v z) s3)) ≡ Ok x) =
        next_to (value_in k w shaded Scalar c s) (λ y.
        looked_at (first_shading (side_of (the_item y.0)) shaded) y.1
        (λ dark. value_in k w dark Scalar a y.1) (λ v s2.
        looked_at (second_shading (side_of (the_item y.0)) shaded) s2
        (λ dark. value_in k w dark Scalar b s2) (λ z s3.
        answered (chosen (side_of (the_item y.0)) v z) s3))) x ex in
        let front : Loads (reads_of c) =
        all_front (IsLoaded sources) (reads_of c) _ covered in
        let t : IsAccepted c y.0 = taken c shaded s y.0 l i has.0 is.0 front y.1 in
        all_append Q (reads_of c) _
        (expr_led c shaded Scalar s y.0 l i has.0 is.0 front y.1
        (all_front C (cost_of k w shaded c f).reads _ counts))
        (sides_led a b shaded y.0.1
        (λ v z s3. answered (chosen (side_of (the_item y.0.0)) v z) s3) x t.like t.fine_state
        (g.known c) (side_of (the_item y.0.0))
        (side_matches (the_item y.0.0) (g.known c) (tells_it c y.0 t)) y.2
        (subst (λ v. Counts (cost_both
        (operand (first_shading (side_of (value_of v)) shaded) (λ dark. cost_of k w dark a f)
        (nodes_of a))
        (operand (second_shading (side_of (value_of v)) shaded) (λ dark. cost_of k w dark b f)
        (nodes_of b)))) (seen_as c shaded Scalar s y.0 l y.1)
        (all_back C (cost_of k w shaded c f).reads _ counts)) has.1
        (all_back (IsLoaded sources) (reads_of c) _ covered)
        (λ dark r z lr ir ez d h e. expr_led a dark Scalar r z lr ir h is.1 e ez d)
        (λ dark r z lr ir ez d h e. expr_led b dark Scalar r z lr ir h is.2 e ez d))

    pub all_led : (es : Exprs Meant) (shaded : Bool) (s : State) (x : List Datum × State)
        → Like f s → Fine s → EachHas There g homes es → AreAllMeant scope es
        → Loads (exprs_reads g first es) → all_in k w shaded es s ≡ Ok x
        → Counts (all_cost k w shaded es f) → Are (exprs_reads g first es)
    all_led none shaded s x l i has is covered ex counts = tt
    all_led (more e es) shaded s x l i has is covered ex counts =
        let y : (y : Datum × State) × (value_in k w shaded Whole e s ≡ Ok y)
        × (rest y ≡ Ok x) = next_to (value_in k w shaded Whole e s) rest x ex in
        let z : (z : List Datum × State) × (all_in k w shaded es y.0.1 ≡ Ok z)
        × (Ok (y.0.0 ∷ z.0, z.1) ≡ Ok x) =
        next_to (all_in k w shaded es y.0.1) (λ z. Ok (y.0.0 ∷ z.0, z.1)) x y.2 in
        let at_rest : Like f y.0.1 × Fine y.0.1 = behind e shaded Whole s y.0 l i y.1 in
        all_append Q (reads_of e) _
        (expr_led e shaded Whole s y.0 l i has.0 is.0
        (all_front (IsLoaded sources) (reads_of e) _ covered) y.1
        (all_front C (cost_of k w shaded e f).reads _ counts))
        (all_led es shaded y.0.1 z.0 at_rest.0 at_rest.1 has.1 is.1
        (all_back (IsLoaded sources) (reads_of e) _ covered) z.1
        (all_back C (cost_of k w shaded e f).reads _ counts))
      where
        rest : Datum × State → Tried (List Datum × State)
        rest y = next (all_in k w shaded es y.1) (λ z. Ok (y.0 ∷ z.0, z.1))

    named_led : (rest : Accessors Meant) (m : Meant) (shaded : Bool) (want : Want)
        (os ks : List (Option ℕ)) (s : State) (x : Datum × State) → Like f s → Fine s
        → Sharper os ks → PlaceHas There g homes (Named m) ks rest → AreIndicesMeant scope rest
        → Loads (place_reads g first (Written m) ks rest)
        → read_in k w shaded want (NamedRoot m) os rest s ≡ Ok x
        → Counts (place_cost k w shaded m (NamedRoot m) os rest f)
        → Are (place_reads g first (Written m) ks rest)
    named_led done (meant.Variable n) shaded want os ks s x l i sharp has is covered ex counts =
        variable_led n shaded want os ks s x l sharp ex counts
    named_led done (meant.Signal direction n) shaded want os ks s x l i sharp has is covered ex
        counts = signal_led direction n shaded want os ks s x l sharp ex counts
    named_led done meant.Other shaded want os ks s x l i sharp has is covered ex counts = tt
    named_led done (meant.Component n) shaded want os ks s x l i sharp has is covered ex counts = tt
    named_led done (meant.Template n) shaded want os ks s x l i sharp has is covered ex counts = tt
    named_led done (meant.Function n) shaded want os ks s x l i sharp has is covered ex counts = tt
    named_led (index e rest) m shaded want os ks s x l i sharp has is covered ex counts =
        let y : (y : Datum × State) × (value_in k w shaded Scalar e s ≡ Ok y)
        × (read_in k w shaded want (NamedRoot m) (os ++ known_number (the_item y.0) ∷ []) rest y.1
        ≡ Ok x) =
        next_to (value_in k w shaded Scalar e s) (λ y.
        read_in k w shaded want (NamedRoot m) (os ++ known_number (the_item y.0) ∷ []) rest y.1) x
        ex in
        let front : Loads (reads_of e) =
        all_front (IsLoaded sources) (reads_of e) _ covered in
        let t : IsAccepted e y.0 = taken e shaded s y.0 l i has.0 is.0 front y.1 in
        all_append Q (reads_of e) _
        (expr_led e shaded Scalar s y.0 l i has.0 is.0 front y.1
        (all_front C (cost_of k w shaded e f).reads _ counts))
        (named_led rest m shaded want (os ++ known_number (the_item y.0.0) ∷ [])
        (ks ++ g.known e ∷ []) y.0.1 x t.like t.fine_state
        (sharper_more os ks (known_number (the_item y.0.0)) (g.known e) sharp
        (λ n en. tells_it e y.0 t n (known_is (the_item y.0.0) n en))) has.1 is.1
        (all_back (IsLoaded sources) (reads_of e) _ covered) y.2
        (subst (λ v. Counts (place_cost k w shaded m (NamedRoot m)
        (os ++ known_number (value_of v) ∷ []) rest f)) (seen_as e shaded Scalar s y.0 l y.1)
        (all_back C (cost_of k w shaded e f).reads _ counts)))
    named_led (member name rest) (meant.Component n) shaded want os ks s x l i sharp has is covered
        ex counts =
        let a : (source : Origin)
        × (inner_origin w shaded (NamedRoot (meant.Component n)) os name s.frame ≡ Ok source)
        × (read_in k w shaded want (FoundRoot source) [] rest s ≡ Ok x) =
        next_to (inner_origin w shaded (NamedRoot (meant.Component n)) os name s.frame)
        (λ source. read_in k w shaded want (FoundRoot source) [] rest s) x ex in
        let told : OriginLed a.0 (port_of g (Written (meant.Component n)) ks name) =
        good_is (λ source. OriginLed source (port_of g (Written (meant.Component n)) ks name))
        (inner_origin w shaded (NamedRoot (meant.Component n)) os name s.frame) a.0 a.1
        (inner_led n name shaded os ks s l sharp) in
        found_led rest n a.0 (port_front g homes (Named (meant.Component n)) ks name)
        (port_of g (Written (meant.Component n)) ks name) shaded want [] [] s x l i told tt has.1 is
        covered a.2
        (subst (λ o. Counts (place_cost k w shaded (meant.Component n) (root_of o) [] rest f))
        (sym (inner_like k both keeps w f (λ j. Unit {0}) shaded (NamedRoot (meant.Component n)) os
        name s l) ∙ a.1) counts)
    named_led (member name rest) meant.Other shaded want os ks s x l i sharp has is covered ex
        counts = cc
    named_led (member name rest) (meant.Variable n) shaded want os ks s x l i sharp has is covered
        ex counts = cc
    named_led (member name rest) (meant.Signal d n) shaded want os ks s x l i sharp has is covered
        ex counts = cc
    named_led (member name rest) (meant.Template n) shaded want os ks s x l i sharp has is covered
        ex counts = cc
    named_led (member name rest) (meant.Function n) shaded want os ks s x l i sharp has is covered
        ex counts = cc

    found_led : (rest : Accessors Meant) (n : ℕ) (source : Origin) (front : Front)
        (y : Option Name) (shaded : Bool) (want : Want) (os ks : List (Option ℕ)) (s : State)
        (x : Datum × State) → Like f s → Fine s → OriginLed source y → Sharper os ks
        → PlaceHas There g homes front ks rest → AreIndicesMeant scope rest
        → Loads (place_reads g first (Reached y) ks rest)
        → read_in k w shaded want (FoundRoot source) os rest s ≡ Ok x
        → Counts (place_cost k w shaded (meant.Component n) (FoundRoot source) os rest f)
        → Are (place_reads g first (Reached y) ks rest)
    found_led done n source front y shaded want os ks s x l i told sharp has is covered ex counts =
        found_end n source y shaded want os ks s x told sharp ex counts
    found_led (index e rest) n source front y shaded want os ks s x l i told sharp has is covered ex
        counts =
        let z : (z : Datum × State) × (value_in k w shaded Scalar e s ≡ Ok z)
        × (read_in k w shaded want (FoundRoot source) (os ++ known_number (the_item z.0) ∷ []) rest
        z.1 ≡ Ok x) =
        next_to (value_in k w shaded Scalar e s) (λ z.
        read_in k w shaded want (FoundRoot source) (os ++ known_number (the_item z.0) ∷ []) rest
        z.1) x ex in
        let before : Loads (reads_of e) =
        all_front (IsLoaded sources) (reads_of e) _ covered in
        let t : IsAccepted e z.0 = taken e shaded s z.0 l i has.0 is.0 before z.1 in
        all_append Q (reads_of e) _
        (expr_led e shaded Scalar s z.0 l i has.0 is.0 before z.1
        (all_front C (cost_of k w shaded e f).reads _ counts))
        (found_led rest n source front y shaded want (os ++ known_number (the_item z.0.0) ∷ [])
        (ks ++ g.known e ∷ []) z.0.1 x t.like t.fine_state told
        (sharper_more os ks (known_number (the_item z.0.0)) (g.known e) sharp
        (λ n en. tells_it e z.0 t n (known_is (the_item z.0.0) n en))) has.1 is.1
        (all_back (IsLoaded sources) (reads_of e) _ covered) z.2
        (subst (λ v. Counts (place_cost k w shaded (meant.Component n) (FoundRoot source)
        (os ++ known_number (value_of v) ∷ []) rest f)) (seen_as e shaded Scalar s z.0 l z.1)
        (all_back C (cost_of k w shaded e f).reads _ counts)))
    found_led (member name rest) n source front y shaded want os ks s x l i told sharp has is
        covered ex counts = cc
