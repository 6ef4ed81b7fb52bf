-- Each cell that the code of an assignment may read stands in the reads of its step: those of the
-- elements too that it may keep.
use Rattle.std.proofs.Common.{◌≡◌, ℕ, ◌<◌, Bool, true, false, cond, List, [], ◌∷◌, ◌++◌, map}
use Rattle.std.proofs.Common.{length, Option, Some, None, Ok, refl, sym, ap, subst, ◌∙◌, flat_map}
use Rattle.std.specs.Prelude.{slice_get, unwrap_or, filter, not, is_some, ◌==◌}
use Rattle.std.specs.List.{AllByRecursion, list_any}
use Rattle.std.proofs.lemmas.Bool.{and_from, eq-eqb}
use Rattle.std.proofs.lemmas.List.{append-nil, append_assoc}
use Rattle.cir_ast.specs.declared.program.Meant.{Meant}
use Rattle.cir_ast.specs.declared.program.Meant.TheVariants as meant
use Rattle.cir_ast.specs.declared.program.Spot.{Spot}
use Rattle.cir_ast.specs.declared.refusal.Kind.TheVariants.{ShapeDiffers}
use Rattle.cir_ast.specs.Tree.{Expr, Accessors, done, index, member, Assign, Set, Assigned, Ended}
use Rattle.cir_meaning.specs.Tried.{Where, Tried, next, needed}
use Rattle.cir_meaning.specs.Places.{elements, numbers_from, all_known, places_of}
use Rattle.cir_meaning.specs.Arrays.{Datum, Scalar, Whole, Reach, reach, same_dims, single, item_at}
use Rattle.cir_meaning.specs.Arrays.{Want, is_known, the_item}
use Rattle.cir_meaning.specs.Values.{Known, known_number}
use Rattle.cir_meaning.specs.Costs.{Made, Cost, Cell as Read, Element as ReadElement, cost_of}
use Rattle.cir_meaning.specs.Costs.{unknown_at, indices_cost}
use Rattle.cir_meaning.specs.Evaluate.{value_in, indices_in}
use Rattle.cir_meaning.specs.Frame.{State, Context, Part, variable_at, uncounted}
use Rattle.cir_meaning.specs.Run.{RunPart, known_value}
use Rattle.cir_meaning.specs.Scoped.{Scope as Names, AreCallsMeant}
use Rattle.cir_meaning.specs.Steps.{variable_cost, value_cost, old_reads}
use Rattle.cir_meaning.specs.Texts.{Wanted, indices_of, numbers_wanted}
use Rattle.cir_meaning.specs.Writing.{VariableAssignment, variable_assignment, write_variable}
use Rattle.cir_meaning.proofs.FineValues.{FineContext, Fine}
use Rattle.cir_meaning.proofs.Good.{good_is}
use Rattle.cir_meaning.proofs.KnownCalls.{CallBoth}
use Rattle.cir_meaning.proofs.Likes.{CallKeeps, Like, like_itself}
use Rattle.cir_meaning.proofs.Rows.{all_append}
use Rattle.cir_meaning.proofs.ScanPoints.{next_to, needed_to}
use Rattle.cir_steps.specs.Step.{Work, LogPart, Step, variable_sources}
use Rattle.cir_steps.specs.Emission.{Emission, known_in, step_of}
use Rattle.cir_steps.specs.Making.{new_places, written_places}
use Rattle.cir_steps.specs.Places.{HasNoMember}
use Rattle.cir_steps.proofs.ReadCells.{IsTabled}
use Rattle.cir_steps.proofs.Sized.{SizedCall}
use Rattle.wit_lower.specs.Homes.{Name, Variable, Home, Homes, Ground, find}
use Rattle.wit_lower.specs.Known.{number_known}
use Rattle.wit_lower.specs.Sources.{Sources, scope_of}
use Rattle.wit_lower.specs.Tasks.{Element, Executes}
use Rattle.wit_lower.specs.Values.{shape_of}
use Rattle.wit_lower.proofs.Listed.{In}
use Rattle.wit_lower.proofs.Parts.{slots_are}
use Rattle.cir_emit.specs.Reads.{Reading, expr_reads, sure_places, is_written, targets_kept}
use Rattle.cir_emit.specs.Reads.{task_reads}
use Rattle.cir_emit.specs.Sourced.{IsThere, AreSourcesOf}
use Rattle.cir_emit.specs.Tasks.{elements_at}
use Rattle.cir_emit.proofs.Cells.{IsCellRead, IsRead, listed_in, step_led}
use Rattle.cir_emit.proofs.Emitted.{step_stands, from_itself}
use Rattle.cir_emit.proofs.Fitting.{ground_of, IsReady, Accepted, accepted}
use Rattle.cir_emit.proofs.Lists.{all_front, all_back, all_weaker}
use Rattle.cir_emit.proofs.Reached.{Sharper, sharper_more, sharper_known, Reaches, reach_told}
use Rattle.cir_emit.proofs.Sharpened.{unknown_all}
use Rattle.cir_emit.proofs.Standing.{IsStanding, known_is, no_dims}
use Rattle.cir_emit.proofs.StepCells.{value_cells, behind_value}
use Rattle.cir_emit.proofs.Targets.{home_small, elements_are}
use Rattle.cir_emit.proofs.Tasks.{all_known_are}
use Rattle.cir_emit.proofs.Values.{reading}

-- of targets those are kept that aren't surely written
kept_all : (P : Reading → Type 0) (written : Element → Bool) (n : ℕ) (places : List ℕ)
    → AllByRecursion (λ p. written record { variable = n; element = p } ≡ false
    → P (reading (Variable n) p)) places
    → AllByRecursion P (targets_kept (filter (λ t. not (written t)) (elements_at n places)))
kept_all P written n [] h = tt
kept_all P written n (p ∷ places) h =
    at (written t) refl (kept_all P written n places h.1)
  where
    t : Element
    t = record { variable = n; element = p }

    rest : List Element
    rest = filter (λ t. not (written t)) (elements_at n places)

    at : (b : Bool) → written t ≡ b → AllByRecursion P (targets_kept rest)
        → AllByRecursion P (targets_kept (cond (not b) (t ∷ rest) rest))
    at true e g = g
    at false e g = (h.0 e, g)

all_filtered : {A : Type 0} (P : A → Type 0) (test : A → Bool) (xs : List A)
    → AllByRecursion P xs → AllByRecursion P (filter test xs)
all_filtered P test [] h = tt
all_filtered P test (x ∷ xs) h = by (test x) (all_filtered P test xs h.1)
  where
    by : (b : Bool) → AllByRecursion P (filter test xs)
        → AllByRecursion P (cond b (x ∷ filter test xs) (filter test xs))
    by true g = (h.0, g)
    by false g = g

module _ (k : Context) (keeps : CallKeeps k.call) (both : CallBoth k.call) (fine : FineContext k)
    (sized : SizedCall k.call) (w : Where) (cost : Cost) (work : Work) (targets : List ℕ)
    (line : Option (List LogPart)) (x : Emission) (fine_state : Fine (known_in x))
    (runs : (j : ℕ) (p : Part) → slice_get (known_in x).frame.parts j ≡ Some p
    → (r : RunPart) × (slice_get x.cells.parts j ≡ Some r)) (tabled : IsTabled x)
    (keys : List Made) (sources : Sources)
    (are : AreSourcesOf keys (step_of k w (known_in x) cost work targets line x) sources)
    (scope : Names) (few : (n : ℕ) → scope.seen n ≡ true
    → n < length (variable_sources (known_in x).frame.variables x.sources)) where
  abbrev f : State
  f = known_in x

  abbrev step : Step
  step = step_of k w f cost work targets line x

  abbrev variables : ℕ
  variables = length step.variables

  abbrev homes : Homes
  homes = (scope_of sources).homes

  abbrev There : Name → Type 0
  There = IsThere step sources.components

  abbrev g : Ground
  g = ground_of keys sources []

  abbrev Ready : Expr Meant → Type 0
  Ready e = IsReady There scope keys sources [] homes e

  abbrev AreCellsRead : List Reading → Type 0
  AreCellsRead reads = AllByRecursion (IsCellRead sources step.reads) reads

  abbrev IsCounted : Read → Type 0
  IsCounted =
      IsRead k w cost work targets line x sources are.arrays are.components runs
      (home_small variables sources are.shapes) tabled

  abbrev Counts : Cost → Type 0
  Counts c = AllByRecursion IsCounted c.reads

  stands : IsStanding There w f sources [] homes
  stands = step_stands k w cost work targets line x sources f f []
      (from_itself x homes) are.arrays are.components runs
      (home_small variables sources are.shapes)

  called_is : (e : Expr Meant) → AreCallsMeant scope e
      → sources.called e ≡ known_value (value_in k w true Whole e (uncounted f))
  called_is e is = are.called e

  cells_of_value : (e : Expr Meant) (want : Want) (s : State) (y : Datum × State) → Like f s
      → Fine s → Ready e → value_in k w false want e s ≡ Ok y
      → Counts (cost_of k w false e f) → AreCellsRead (expr_reads g homes e)
  cells_of_value =
      value_cells k keeps both fine sized w cost work targets line x fine_state runs tabled keys
      sources are scope few

  number_tells : (e : Expr Meant) (s : State) (y : Datum × State) → Like f s → Fine s → Ready e
      → value_in k w false Scalar e s ≡ Ok y → (n : ℕ) → known_number (the_item y.0) ≡ Some n
      → g.known e ≡ Some n
  number_tells e s y l i ready ey n en =
      let a : Accepted k keeps both fine sized w f fine_state keys sources [] homes There stands
      scope few called_is Scalar e y =
      good_is (Accepted k keeps both fine sized w f fine_state keys sources [] homes There stands
      scope few called_is Scalar e) (value_in k w false Scalar e s) y ey
      (accepted k keeps both fine sized w f fine_state keys sources [] homes There stands
      scope few called_is e false Scalar s l i ready) in
      a.told.tells n (no_dims (shape_of g homes e) (λ v. number_known sources [] e ≡ Some v) y.0
      a.told) (known_is (the_item y.0) n en)

  -- the indices of a place that is written
  record IndicesRead {A : Type 0} (ks : List (Option ℕ)) (rest : Accessors Meant)
      (go : List (Option ℕ) → Accessors Meant → State → Tried A) (a : A) : Type 0 where
    more : List (Option ℕ)
    state : State
    like : Like f state
    sharp : Sharper more (ks ++ map g.known (indices_of rest))
    goes : go more done state ≡ Ok a
    cells : AreCellsRead (flat_map (λ (v : Wanted). expr_reads g homes v.expr)
        (numbers_wanted (indices_of rest)))

  indices_cells : {A : Type 0} (rest : Accessors Meant) (os ks : List (Option ℕ)) (s : State)
      (go : List (Option ℕ) → Accessors Meant → State → Tried A) (a : A) → Like f s → Fine s
      → HasNoMember rest → AllByRecursion Ready (indices_of rest)
      → Counts (indices_cost k w false rest f) → Sharper os ks
      → indices_in k w false os rest s go ≡ Ok a → IndicesRead ks rest go a
  indices_cells done os ks s go a l i are_none ready counts sharp ex = record {
    more = os;
    state = s;
    like = l;
    sharp = subst (Sharper os) (sym (append-nil ks)) sharp;
    goes = ex;
    cells = tt;
  }
  indices_cells (member name rest) os ks s go a l i are_none ready counts sharp ex =
      absurd are_none
  indices_cells (index e rest) os ks s go a l i are_none ready counts sharp ex =
      let y : (y : Datum × State) × (value_in k w false Scalar e s ≡ Ok y)
      × (indices_in k w false (os ++ known_number (the_item y.0) ∷ []) rest y.1 go ≡ Ok a) =
      next_to (value_in k w false Scalar e s)
      (λ y. indices_in k w false (os ++ known_number (the_item y.0) ∷ []) rest y.1 go) a ex in
      let p : Like f y.0.1 × Fine y.0.1 =
      behind_value k keeps both fine sized w cost work targets line x fine_state runs tabled keys
      sources are scope few e Scalar s y.0 l i y.1 in
      let after : IndicesRead (ks ++ g.known e ∷ []) rest go a =
      indices_cells rest (os ++ known_number (the_item y.0.0) ∷ []) (ks ++ g.known e ∷ []) y.0.1 go
      a p.0 p.1 are_none ready.1 (all_back IsCounted (cost_of k w false e f).reads _ counts)
      (sharper_more os ks (known_number (the_item y.0.0)) (g.known e) sharp
      (number_tells e s y.0 l i ready.0 y.1)) y.2 in record {
        more = after.more;
        state = after.state;
        like = after.like;
        sharp = subst (Sharper after.more)
            (append_assoc ks (g.known e ∷ []) (map g.known (indices_of rest))) after.sharp;
        goes = after.goes;
        cells = all_append (IsCellRead sources step.reads) (expr_reads g homes e) _
            (cells_of_value e Scalar s y.0 l i ready.0 y.1
            (all_front IsCounted (cost_of k w false e f).reads _ counts)) after.cells;
      }

  module _ (spot : Spot) (written : Assign Meant) (n : ℕ) (h : Home) (accessors : Accessors Meant)
      (e : Expr Meant) (a : VariableAssignment) (found : find (Variable n) homes ≡ Some h)
      (none : HasNoMember accessors) (indices : AllByRecursion Ready (indices_of accessors))
      (ready : Ready e) (is : variable_assignment k w n accessors e f ≡ Ok a)
      (counts : Counts (variable_cost k w written n accessors e a f)) where
    abbrev behind : Datum → List (Option ℕ) → Accessors Meant → State → Tried VariableAssignment
    behind d os rest t =
        next (reach w false Whole (variable_at t.frame n).dims os) (λ r.
        needed (same_dims r.left d.dims) w ShapeDiffers
        (Ok record { value = d; reach = r; state = t }))

    abbrev value_reads : List Read
    value_reads = (value_cost k w accessors e f).reads

    counts_value : AllByRecursion IsCounted value_reads
    counts_value = all_front IsCounted value_reads (old_reads n a) counts

    counts_old : AllByRecursion IsCounted (old_reads n a)
    counts_old = all_back IsCounted value_reads (old_reads n a) counts

    its : (y : Datum × State) × (value_in k w false Whole e f ≡ Ok y)
        × (indices_in k w false [] accessors y.1 (behind y.0) ≡ Ok a)
    its =
        next_to (value_in k w false Whole e f)
        (λ y. indices_in k w false [] accessors y.1 (behind y.0)) a is

    at_value : Like f its.0.1 × Fine its.0.1
    at_value =
        behind_value k keeps both fine sized w cost work targets line x fine_state runs tabled keys
        sources are scope few e Whole f its.0 (like_itself f) fine_state its.1

    place : IndicesRead [] accessors (behind its.0.0) a
    place =
        indices_cells accessors [] [] its.0.1 (behind its.0.0) a at_value.0 at_value.1 none indices
        (all_back IsCounted (cost_of k w false e f).reads _ counts_value) tt its.2

    abbrev ks : List (Option ℕ)
    ks = map g.known (indices_of accessors)

    record Reaching (r : Reach) (t : State) : Type 0 where
      reaches : Reaches Whole h.dims place.more r
      array : variable_at t.frame n ≡ variable_at f.frame n

    reaching : Reaching a.reach a.state
    reaching =
        let dims : (variable_at place.state.frame n).dims ≡ h.dims =
        ap (λ (d : Datum). d.dims) same ∙ stands.variable n h found in
        let r : (r : Reach)
        × (reach w false Whole (variable_at place.state.frame n).dims place.more ≡ Ok r)
        × (ended r ≡ Ok a) =
        next_to (reach w false Whole (variable_at place.state.frame n).dims place.more) ended a
        place.goes in
        let last : (same_dims r.0.left its.0.0.dims ≡ true) × (Ok (made r.0) ≡ Ok a) =
        needed_to (same_dims r.0.left its.0.0.dims) w ShapeDiffers (Ok (made r.0)) a r.2 in
        let is_it : made r.0 ≡ a = let both : _ = last.1 in cc in
        subst (λ (b : VariableAssignment). Reaching b.reach b.state) is_it record {
          reaches = subst (λ ds. Reaches Whole ds place.more r.0) dims
              (good_is (Reaches Whole (variable_at place.state.frame n).dims place.more)
              (reach w false Whole (variable_at place.state.frame n).dims place.more) r.0 r.1
              (reach_told w false Whole (variable_at place.state.frame n).dims place.more));
          array = same;
        }
      where
        same : variable_at place.state.frame n ≡ variable_at f.frame n
        same = ap (λ vs. unwrap_or (slice_get vs n) (single (Known 0))) place.like.0

        made : Reach → VariableAssignment
        made r = record { value = its.0.0; reach = r; state = place.state }

        ended : Reach → Tried VariableAssignment
        ended r = needed (same_dims r.left its.0.0.dims) w ShapeDiffers (Ok (made r))

    abbrev is_sure_of : ℕ → Bool
    is_sure_of p =
        is_written g homes (Set [] (meant.Variable n) accessors e)
        record { variable = n; element = p }

    -- where it is known which part is written
    sure_written : (p : ℕ) → a.reach.is_sure ≡ true → In p a.reach.places → is_sure_of p ≡ true
    sure_written p sure there =
        and_from (n == n) (list_any (λ i. i == p) (sure_places (find (Variable n) homes) ks))
        (eq-eqb n n refl)
        (ap (λ o. list_any (λ i. i == p) (sure_places o ks)) found ∙
        ap (λ os. list_any (λ i. i == p) (cond (is_some (all_known os)) (places_of h.dims os) []))
        same ∙
        ap (λ b. list_any (λ i. i == p) (cond b (places_of h.dims place.more) [])) known ∙
        ap (list_any (λ i. i == p)) (sym (reaching.reaches.places (reaching.reaches.inside sure))) ∙
        there)
      where
        known : is_some (all_known place.more) ≡ true
        known = reaching.reaches.known sure

        as_known : (o : Option (List ℕ)) → all_known place.more ≡ o → is_some o ≡ true
            → ks ≡ place.more
        as_known None eo never = cc
        as_known (Some is) eo known_one =
            let os_are : place.more ≡ map Some is = all_known_are place.more is eo in
            sharper_known ks is (subst (λ xs. Sharper xs ks) os_are place.sharp) ∙ sym os_are

        same : ks ≡ place.more
        same = as_known (all_known place.more) refl known

    abbrev IsKept : ℕ → Type 0
    IsKept p = is_sure_of p ≡ false → IsCellRead sources step.reads (reading (Variable n) p)

    all_kept : (b : Bool) → a.reach.is_sure ≡ b
        → AllByRecursion IsCounted (cond b [] (unknown_at n (variable_at a.state.frame n)
        (numbers_from 0 (elements (variable_at a.state.frame n).dims))))
        → AllByRecursion IsKept (cond b a.reach.places
        (numbers_from 0 (length (variable_at a.state.frame n).items)))
    all_kept true sure c =
        all_weaker (λ p. In p a.reach.places) IsKept a.reach.places
        (λ p there un. let sure_it : is_sure_of p ≡ true = sure_written p sure there in cc)
        (listed_in a.reach.places a.reach.places (λ p i. i))
    all_kept false sure c =
        let d : Datum = variable_at a.state.frame n in
        let count : length d.items ≡ elements d.dims =
        ap (λ (v : Datum). length v.items) reaching.array ∙
        elements_are step sources x refl n h (are.arrays (Variable n) h found) ∙
        slots_are h.dims (home_small variables sources are.shapes (Variable n) h found) ∙
        ap elements (sym (ap (λ (v : Datum). v.dims) reaching.array ∙ stands.variable n h found))
        in
        subst (λ m. AllByRecursion IsKept (numbers_from 0 m)) (sym count)
        (all_weaker (λ p. is_known (item_at d.items p) ≡ false → IsCounted (ReadElement n p)) IsKept
        (numbers_from 0 (elements d.dims)) (λ p told un.
        ((step_led k w cost work targets line x sources are.arrays are.components runs
        (home_small variables sources are.shapes) tabled).variable n h found).1 p
        (λ unknown. told (ap (λ (v : Datum). is_known (item_at v.items p)) reaching.array ∙
        unknown)))
        (unknown_all IsCounted n d.items (numbers_from 0 (elements d.dims)) c))

    pub assigned_cells : AreCellsRead (task_reads g homes
        (Executes (Ended spot (Assigned (Set [] (meant.Variable n) accessors e)))
        (elements_at n (new_places n a))))
    assigned_cells =
        all_append (IsCellRead sources step.reads) (flat_map (λ (v : Wanted).
        expr_reads g homes v.expr) (record { want = Whole; expr = e }
        ∷ numbers_wanted (indices_of accessors))) _
        (all_append (IsCellRead sources step.reads) (expr_reads g homes e) _
        (cells_of_value e Whole f its.0 (like_itself f) fine_state ready its.1
        (all_front IsCounted (cost_of k w false e f).reads _ counts_value)) place.cells)
        (kept_all (IsCellRead sources step.reads)
        (is_written g homes (Set [] (meant.Variable n) accessors e)) n (new_places n a)
        (all_filtered IsKept
        (λ p. not (is_known (item_at (variable_at (write_variable n a).frame n).items p)))
        (written_places n a) (all_kept a.reach.is_sure refl counts_old)))
