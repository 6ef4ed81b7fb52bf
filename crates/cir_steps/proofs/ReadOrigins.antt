-- What an expression's value tells of the signals that its cost counts as read: they may be read,
-- and are written.
use Rattle.std.proofs.Common.{◌≡◌, ℕ, zero, suc, ◌+◌, ◌*◌, ◌<◌, ◌≤◌, Bool, true, false, cond, List}
use Rattle.std.proofs.Common.{[], ◌∷◌, ◌++◌, map, flat_map, Option, Some, None, Ok, refl, sym, ap}
use Rattle.std.proofs.Common.{subst, ◌∙◌, arith, slice_get, ◌||◌, nat_lt, is_some, ◌⊎◌, inl}
use Rattle.std.proofs.Common.{inr}
use Rattle.std.specs.Prelude.{⊤, not, filter}
use Rattle.std.specs.List.{AllByRecursion, list_all}
use Rattle.std.proofs.lemmas.Bool.{ltb-true}
use Rattle.cir_ast.specs.declared.program.Meant.{Meant}
use Rattle.cir_ast.specs.declared.program.Meant.TheVariants as meant
use Rattle.cir_ast.specs.declared.refusal.Kind.TheVariants.{OutOfBounds, ShapeDiffers}
use Rattle.cir_ast.specs.declared.refusal.Kind.TheVariants.{ReadBeforeWrite}
use Rattle.cir_ast.specs.Tree.{Expr, Number, Place, Call, Anonymous, Parentheses, Array, Unary}
use Rattle.cir_ast.specs.Tree.{Binary, Choice, Exprs, none, more, Accessors, done, index, member}
use Rattle.cir_meaning.specs.Tried.{Where, Tried, next, needed, found}
use Rattle.cir_meaning.specs.Limits.{nothing}
use Rattle.cir_meaning.specs.Places.{elements, left_of, is_inside, all_known, places_of}
use Rattle.cir_meaning.specs.Places.{numbers_from}
use Rattle.cir_meaning.specs.Arrays.{Datum, Want, Scalar, Whole, Reach, fits, reach, item_at}
use Rattle.cir_meaning.specs.Arrays.{is_known, the_item, read_part}
use Rattle.cir_meaning.specs.Values.{Value, Known, known_number, side_of, chosen, unary_result}
use Rattle.cir_meaning.specs.Operators.{operator_of, left_tells, shading, first_shading}
use Rattle.cir_meaning.specs.Operators.{second_shading, applied, unary_of}
use Rattle.cir_meaning.specs.Frame.{SignalEntry, Signals, Part, ComponentEntry, World, State}
use Rattle.cir_meaning.specs.Frame.{Context, is_written, signal_item, is_input, is_inner, is_fed}
use Rattle.cir_meaning.specs.Frame.{entry_at, variable_at, uncounted}
use Rattle.cir_meaning.specs.Reading.{Origin, Stored, Wired, Lost, Root, Named, Found, origin_of}
use Rattle.cir_meaning.specs.Reading.{inner_origin, read_origin, is_readable, part_at, located}
use Rattle.cir_meaning.specs.Reading.{part_origin, find_signal, told_signal}
use Rattle.cir_meaning.specs.Evaluate.{value_in, all_in, read_in, looked_at, called, gathered}
use Rattle.cir_meaning.specs.Evaluate.{answered, indices_in}
use Rattle.cir_meaning.specs.Costs.{Cell, Element, Wire, Cost, node, both, above, datum_of, seen}
use Rattle.cir_meaning.specs.Costs.{value_of, is_settled, places_in, origin_reads, root_of, operand}
use Rattle.cir_meaning.specs.Costs.{cost_of, all_cost, place_cost, nodes_of, indices_cost}
use Rattle.cir_meaning.specs.Costs.{call_made, shapes_in}
use Rattle.cir_meaning.proofs.Good.{good_is}
use Rattle.cir_meaning.proofs.Rows.{all_append, all_map}
use Rattle.cir_meaning.proofs.Reaching.{and_true}
use Rattle.cir_meaning.proofs.Likes.{CallKeeps, Like, value_like}
use Rattle.cir_meaning.proofs.Twins.{counted_as, nothing_below}
use Rattle.cir_meaning.proofs.ValueTwins as twins
use Rattle.cir_meaning.proofs.ValueTwins.{value_twin, Wider, dark_itself}
use Rattle.cir_meaning.proofs.KnownCalls.{CallBoth, both_twin}
use Rattle.cir_meaning.proofs.Holds.{found_entry}
use Rattle.cir_meaning.proofs.ScanPoints.{next_to, needed_to, found_to, twin_to}

-- places that are meant are places of elements
place_less : (i d k e : ℕ) → i < d → k < e → i * e + k < d * e
place_less i zero k e h g = absurd (omega arith)
place_less zero (suc d) k e h g = omega arith
place_less (suc i) (suc d) k e h g =
    let rest : i * e + k < d * e = place_less i d k e (omega arith) g in omega arith

numbers_less : (first count most : ℕ) → first + count ≤ most
    → AllByRecursion (λ p. p < most) (numbers_from first count)
numbers_less first zero most h = tt
numbers_less first (suc count) most h =
    (omega arith, numbers_less (first + 1) count most (omega arith))

all_through : {A B : Type 0} (P : A → Type 0) (Q : B → Type 0) (f : A → B) (xs : List A)
    → ((a : A) → P a → Q (f a)) → AllByRecursion P xs → AllByRecursion Q (map f xs)
all_through P Q f [] g h = tt
all_through P Q f (x ∷ xs) g h = (g x h.0, all_through P Q f xs g h.1)

all_flat : {A B : Type 0} (P : A → Type 0) (Q : B → Type 0) (f : A → List B) (xs : List A)
    → ((a : A) → P a → AllByRecursion Q (f a)) → AllByRecursion P xs
    → AllByRecursion Q (flat_map f xs)
all_flat P Q f [] g h = tt
all_flat P Q f (x ∷ xs) g h = all_append Q (f x) (flat_map f xs) (g x h.0) (all_flat P Q f xs g h.1)

places_less : (dims : List ℕ) (os : List (Option ℕ)) → is_inside dims os ≡ true
    → AllByRecursion (λ p. p < elements dims) (places_of dims os)
places_less dims [] h = numbers_less 0 (elements dims) (elements dims) (omega arith)
places_less [] (o ∷ os) h = tt
places_less (d ∷ ds) (Some i ∷ os) h =
    let two : (nat_lt i d ≡ true) × (is_inside ds os ≡ true) = and_true (nat_lt i d) _ h in
    let less : i < d = ltb-true i d two.0 in
    all_through (λ p. p < elements ds) (λ p. p < d * elements ds) (λ p. i * elements ds + p)
    (places_of ds os) (λ p g. place_less i d p (elements ds) less g) (places_less ds os two.1)
places_less (d ∷ ds) (None ∷ os) h =
    all_flat (λ i. i < d) (λ p. p < d * elements ds) (λ i. map (λ p. i * elements ds + p)
    (places_of ds os)) (numbers_from 0 d) (λ i less.
    all_through (λ p. p < elements ds) (λ p. p < d * elements ds) (λ p. i * elements ds + p)
    (places_of ds os) (λ p g. place_less i d p (elements ds) less g) (places_less ds os h))
    (numbers_less 0 d d (omega arith))

all_with : {A : Type 0} (P Q : A → Type 0) (test : A → Bool) (xs : List A)
    → ((a : A) → P a → test a ≡ true → Q a) → AllByRecursion P xs → list_all test xs ≡ true
    → AllByRecursion Q xs
all_with P Q test [] g h t = tt
all_with P Q test (x ∷ xs) g h t =
    let two : (test x ≡ true) × (list_all test xs ≡ true) = and_true (test x) _ t in
    (g x h.0 two.0, all_with P Q test xs g h.1 two.1)

or_false : (b : Bool) → (b || not true) ≡ true → b ≡ true
or_false true h = refl
or_false false h = cc

wide_whole : (want : Want) → Wider want Whole
wide_whole Scalar = tt
wide_whole Whole = tt

module _ (k : Context) (twice : CallBoth k.call) (keeps : CallKeeps k.call) (w : Where) (f : State)
    (T : ℕ → Type 0) where
  -- the elements that are written may be read
  abbrev pub Tells : SignalEntry → Type 0
  Tells e = (p : ℕ) → p < elements e.dims → is_written e p ≡ true → T (e.first + p)

  abbrev pub IsRead : Cell → Type 0
  IsRead (Element n p) = ⊤
  IsRead (Wire j) = T j

  abbrev pub AreRead : Cost → Type 0
  AreRead c = AllByRecursion IsRead c.reads

  abbrev pub OriginTells : Origin → Type 0
  OriginTells (Stored d) = ⊤
  OriginTells (Wired may e) = may ≡ true → Tells e
  OriginTells Lost = ⊤

  pub record Told : Type 0 where
    pub own : (n : ℕ) (e : SignalEntry) → entry_at f.frame.signals n ≡ Some e → Tells e
    pub parts : (j : ℕ) (p : Part) → slice_get f.frame.parts j ≡ Some p → (n : ℕ) (e : SignalEntry)
        → entry_at p.signals n ≡ Some e → (is_input e.direction || is_fed p.signals) ≡ true
        → Tells e

  both_read : (c d : Cost) → AreRead c → AreRead d → AreRead (both c d)
  both_read c d h g = all_append IsRead c.reads d.reads h g

  as_counted : (s : State) → Like f s → counted_as s nothing nothing ≡ uncounted f
  as_counted s l =
      ap (λ (x : List Datum). whole x s.frame.signals s.frame.components s.frame.parts s.world) l.0
      ∙ ap (λ (x : Signals). whole f.frame.variables x s.frame.components s.frame.parts s.world) l.1
      ∙ ap (λ (x : List (Option ComponentEntry)). whole f.frame.variables f.frame.signals x
      s.frame.parts s.world) l.2
      ∙ ap (λ (x : List Part). whole f.frame.variables f.frame.signals f.frame.components x s.world)
      l.3
      ∙ ap (λ (v : World). whole f.frame.variables f.frame.signals f.frame.components f.frame.parts
      v) l.4
    where
      whole : List Datum → Signals → List (Option ComponentEntry) → List Part → World → State
      whole variables signals components parts world = record {
        frame = record {
          variables = variables;
          signals = signals;
          components = components;
          parts = parts;
          added = nothing;
        };
        world = record world { counts = nothing };
      }

  pub seen_is : (dark : Bool) (want : Want) (e : Expr Meant) (s : State) (x : Datum × State)
      → Like f s → value_in k w dark want e s ≡ Ok x → seen k w dark e f ≡ Some x.0
  seen_is dark want e s x l ex =
      let other : (y : Datum × State)
      × (value_in k w dark Whole e (counted_as s nothing nothing) ≡ Ok y) × twins.Answers x y =
      twin_to twins.Answers (value_in k w dark want e s)
      (value_in k w dark Whole e (counted_as s nothing nothing)) x
      (value_twin k (both_twin k.call twice) w dark dark want Whole e s nothing nothing
      (dark_itself dark) (wide_whole want) (nothing_below s.frame.added)
      (nothing_below s.world.counts)) ex in
      ap (λ t. datum_of (value_in k w dark Whole e t)) (sym (as_counted s l))
      ∙ ap datum_of other.1 ∙ ap (λ d. Some d) other.2.0

  -- what a name is read as
  pub origin_like : (root : Root) (s : State) → Like f s
      → origin_of w root s.frame ≡ origin_of w root f.frame
  origin_like (Found source) s l = refl
  origin_like (Named (meant.Variable n)) s l =
      ap (λ (vs : List Datum). Ok (Stored (variable_at (record (f.frame) { variables = vs }) n)))
      l.0
  origin_like (Named (meant.Signal direction n)) s l =
      ap (λ (xs : Signals). next (found w ReadBeforeWrite (entry_at xs n)) (λ e. Ok (Wired true e)))
      l.1
  origin_like (Named meant.Other) s l = refl
  origin_like (Named (meant.Component n)) s l = refl
  origin_like (Named (meant.Template n)) s l = refl
  origin_like (Named (meant.Function n)) s l = refl

  pub inner_like : (dark : Bool) (root : Root) (os : List (Option ℕ)) (name : List ℕ) (s : State)
      → Like f s
      → inner_origin w dark root os name s.frame ≡ inner_origin w dark root os name f.frame
  inner_like dark (Named (meant.Component n)) os name s l =
      ap (λ (cs : List (Option ComponentEntry)). inner_origin w dark (Named (meant.Component n)) os
      name (record (s.frame) { components = cs })) l.2
      ∙ ap (λ (ps : List Part). inner_origin w dark (Named (meant.Component n)) os
      name (record (s.frame) { components = f.frame.components; parts = ps })) l.3
  inner_like dark (Found source) os name s l = refl
  inner_like dark (Named (meant.Variable n)) os name s l = refl
  inner_like dark (Named (meant.Signal direction n)) os name s l = refl
  inner_like dark (Named meant.Other) os name s l = refl
  inner_like dark (Named (meant.Template n)) os name s l = refl
  inner_like dark (Named (meant.Function n)) os name s l = refl

  module _ (told : Told) where
    abbrev RootTells : Root → Type 0
    RootTells (Named m) = ⊤
    RootTells (Found source) = OriginTells source

    origin_tells : (root : Root) (source : Origin) → RootTells root
        → origin_of w root f.frame ≡ Ok source → OriginTells source
    origin_tells (Found other) source t ex = let same : other ≡ source = cc in
        subst OriginTells same t
    origin_tells (Named (meant.Variable n)) source t ex =
        let same : Stored (variable_at f.frame n) ≡ source = cc in subst OriginTells same tt
    origin_tells (Named (meant.Signal direction n)) source t ex =
        let a : (e : SignalEntry) × (found w ReadBeforeWrite (entry_at f.frame.signals n) ≡ Ok e)
        × (Ok (Wired true e) ≡ Ok source) =
        next_to (found w ReadBeforeWrite (entry_at f.frame.signals n)) (λ e. Ok (Wired true e))
        source ex in
        let same : Wired true a.0 ≡ source = let both : _ = a.2 in cc in
        subst OriginTells same (λ yes. told.own n a.0
        (found_to w ReadBeforeWrite (entry_at f.frame.signals n) a.0 a.1))
    origin_tells (Named meant.Other) source t ex = cc
    origin_tells (Named (meant.Component n)) source t ex = cc
    origin_tells (Named (meant.Template n)) source t ex = cc
    origin_tells (Named (meant.Function n)) source t ex = cc

    part_tells : (name : List ℕ) (j : ℕ) (p : Part) (source : Origin)
        → slice_get f.frame.parts j ≡ Some p → part_origin w name p ≡ Ok source
        → OriginTells source
    part_tells name j p source there ex =
        at (find_signal (λ e. not (is_inner e.direction)) name 0 p.signals) refl ex
      where
        at : (o : Option (ℕ × SignalEntry))
            → find_signal (λ e. not (is_inner e.direction)) name 0 p.signals ≡ o
            → next (told_signal w (is_some (find_signal (λ e. is_inner e.direction) name 0
            p.signals)) o) (λ (n, e). Ok (Wired (is_input e.direction || is_fed p.signals) e))
            ≡ Ok source → OriginTells source
        at None e ex = cc
        at (Some x) e ex =
            let place : (i : ℕ) × (x.0 ≡ 0 + i) × (entry_at p.signals i ≡ Some x.1) =
            found_entry (λ a. not (is_inner a.direction)) name 0 p.signals x e in
            let same : Wired (is_input x.1.direction || is_fed p.signals) x.1 ≡ source = cc in
            subst OriginTells same (λ may. told.parts j p there place.0 x.1 place.2 may)

    located_tells : (name : List ℕ) (o : Option ℕ) (source : Origin)
        → located w name o f.frame.parts ≡ Ok source → OriginTells source
    located_tells name None source ex =
        let same : Lost ≡ source = cc in subst OriginTells same tt
    located_tells name (Some j) source ex =
        let a : (p : Part) × (found w ReadBeforeWrite (slice_get f.frame.parts j) ≡ Ok p)
        × (part_origin w name p ≡ Ok source) =
        next_to (found w ReadBeforeWrite (slice_get f.frame.parts j)) (part_origin w name) source
        ex in
        part_tells name j a.0 source
        (found_to w ReadBeforeWrite (slice_get f.frame.parts j) a.0 a.1) a.2

    inner_tells : (dark : Bool) (root : Root) (os : List (Option ℕ)) (name : List ℕ)
        (source : Origin) → inner_origin w dark root os name f.frame ≡ Ok source
        → OriginTells source
    inner_tells dark (Named (meant.Component n)) os name source ex =
        let a : (j : Option ℕ) × (part_at w dark n os f.frame ≡ Ok j)
        × (located w name j f.frame.parts ≡ Ok source) =
        next_to (part_at w dark n os f.frame) (λ j. located w name j f.frame.parts) source ex in
        located_tells name a.0 source a.2
    inner_tells dark (Found other) os name source ex = cc
    inner_tells dark (Named (meant.Variable n)) os name source ex = cc
    inner_tells dark (Named (meant.Signal direction n)) os name source ex = cc
    inner_tells dark (Named meant.Other) os name source ex = cc
    inner_tells dark (Named (meant.Template n)) os name source ex = cc
    inner_tells dark (Named (meant.Function n)) os name source ex = cc

    -- the elements that are read of a signal
    wires_read : (dark : Bool) (want : Want) (os : List (Option ℕ)) (may : Bool)
        (e : SignalEntry) (d : Datum) → (may ≡ true → Tells e)
        → read_origin w dark want os (Wired may e) ≡ Ok d
        → AllByRecursion IsRead
        (map (λ p. Wire (e.first + p)) (places_in (reach w true Whole e.dims os)))
    wires_read dark want os may e d tells ex =
        at (left_of e.dims os) (is_inside e.dims os) refl ex
      where
        reached : Option (List ℕ) → Bool → Bool → Want → Tried Reach
        reached o inside b wanted =
            next (found w ShapeDiffers o) (λ left. needed (inside || b) w OutOfBounds
            (needed (fits wanted left) w ShapeDiffers (Ok (cond inside record {
              left = left;
              is_sure = is_some (all_known os);
              places = places_of e.dims os;
            } record { left = left; is_sure = false; places = [] }))))

        read : (inside : Bool) → is_inside e.dims os ≡ inside → inside ≡ true
            → (r : Reach) → r.places ≡ places_of e.dims os
            → needed (is_readable may e os r.places) w ReadBeforeWrite
            (Ok (read_part r (signal_item e))) ≡ Ok d
            → AllByRecursion IsRead (map (λ p. Wire (e.first + p)) (places_of e.dims os))
        read inside is there r places go =
            let pass : (is_readable may e os r.places ≡ true)
            × (Ok (read_part r (signal_item e)) ≡ Ok d) =
            needed_to (is_readable may e os r.places) w ReadBeforeWrite _ d go in
            let two : ((may || not (is_inside e.dims os)) ≡ true)
            × (list_all (is_written e) r.places ≡ true) =
            and_true (may || not (is_inside e.dims os)) _ pass.0 in
            let may_it : may ≡ true =
            or_false may (subst (λ b. (may || not b) ≡ true) (is ∙ there) two.0) in
            all_through (λ p. (p < elements e.dims) × (is_written e p ≡ true)) IsRead
            (λ p. Wire (e.first + p)) (places_of e.dims os) (λ p h. tells may_it p h.0 h.1)
            (all_with (λ p. p < elements e.dims)
            (λ p. (p < elements e.dims) × (is_written e p ≡ true)) (is_written e)
            (places_of e.dims os) (λ p h t. (h, t)) (places_less e.dims os (is ∙ there))
            (subst (λ ps. list_all (is_written e) ps ≡ true) places two.1))

        at : (o : Option (List ℕ)) (inside : Bool) → is_inside e.dims os ≡ inside
            → next (reached o inside dark want) (λ r.
            needed (is_readable may e os r.places) w ReadBeforeWrite
            (Ok (read_part r (signal_item e)))) ≡ Ok d
            → AllByRecursion IsRead (map (λ p. Wire (e.first + p))
            (places_in (reached o inside true Whole)))
        at None inside is go = tt
        at (Some left) false is go = tt
        at (Some left) true is go =
            let a : (r : Reach) × (reached (Some left) true dark want ≡ Ok r)
            × (needed (is_readable may e os r.places) w ReadBeforeWrite
            (Ok (read_part r (signal_item e))) ≡ Ok d) =
            next_to (reached (Some left) true dark want) _ d go in
            let b : (fits want left ≡ true) × (Ok record {
              left = left;
              is_sure = is_some (all_known os);
              places = places_of e.dims os;
            } ≡ Ok a.0) = needed_to (fits want left) w ShapeDiffers _ a.0 a.1 in
            let same : record {
              left = left;
              is_sure = is_some (all_known os);
              places = places_of e.dims os;
            } ≡ a.0 = let both : _ = b.1 in cc in
            read true is refl a.0 (ap (λ (r : Reach). r.places) (sym same)) a.2

    origin_read : (dark : Bool) (want : Want) (m : Meant) (os : List (Option ℕ)) (source : Origin)
        (d : Datum) → OriginTells source → read_origin w dark want os source ≡ Ok d
        → AllByRecursion IsRead (origin_reads w m os (Ok source))
    origin_read dark want (meant.Variable n) os (Stored x) d t ex =
        all_map IsRead (λ p. Element n p) (filter (λ p. not (is_known (item_at x.items p)))
        (places_in (reach w true Whole x.dims os))) (λ p. tt)
    origin_read dark want meant.Other os (Stored x) d t ex = tt
    origin_read dark want (meant.Signal direction n) os (Stored x) d t ex = tt
    origin_read dark want (meant.Component n) os (Stored x) d t ex = tt
    origin_read dark want (meant.Template n) os (Stored x) d t ex = tt
    origin_read dark want (meant.Function n) os (Stored x) d t ex = tt
    origin_read dark want (meant.Variable n) os (Wired may e) d t ex =
        wires_read dark want os may e d t ex
    origin_read dark want meant.Other os (Wired may e) d t ex =
        wires_read dark want os may e d t ex
    origin_read dark want (meant.Signal direction n) os (Wired may e) d t ex =
        wires_read dark want os may e d t ex
    origin_read dark want (meant.Component n) os (Wired may e) d t ex =
        wires_read dark want os may e d t ex
    origin_read dark want (meant.Template n) os (Wired may e) d t ex =
        wires_read dark want os may e d t ex
    origin_read dark want (meant.Function n) os (Wired may e) d t ex =
        wires_read dark want os may e d t ex
    origin_read dark want (meant.Variable n) os Lost d t ex = tt
    origin_read dark want meant.Other os Lost d t ex = tt
    origin_read dark want (meant.Signal direction n) os Lost d t ex = tt
    origin_read dark want (meant.Component n) os Lost d t ex = tt
    origin_read dark want (meant.Template n) os Lost d t ex = tt
    origin_read dark want (meant.Function n) os Lost d t ex = tt

    -- an operand that is looked at has its value
    behind_value : (dark : Bool) (want : Want) (e : Expr Meant) (s : State) (x : Datum × State)
        → Like f s → value_in k w dark want e s ≡ Ok x → Like f x.1
    behind_value dark want e s x l ex =
        good_is (λ y. Like f y.1) (value_in k w dark want e s) x ex
        (value_like f k keeps w dark want e s l)

    record Looked {A : Type 0} (o : Option Bool) (e : Expr Meant) (s : State)
        (go : Value → State → Tried A) (a : A) : Type 0 where
      value : Value
      state : State
      like : Like f state
      goes : go value state ≡ Ok a
      reads : ((dark : Bool) (x : Datum × State) → value_in k w dark Scalar e s ≡ Ok x
          → AreRead (cost_of k w dark e f))
          → AreRead (operand o (λ dark. cost_of k w dark e f) (nodes_of e))

    looked : {A : Type 0} (o : Option Bool) (e : Expr Meant) (s : State)
        (go : Value → State → Tried A) (a : A) → Like f s
        → looked_at o s (λ dark. value_in k w dark Scalar e s) go ≡ Ok a → Looked o e s go a
    looked None e s go a l ex = record {
      value = Known 0;
      state = s;
      like = l;
      goes = ex;
      reads = λ h. tt;
    }
    looked (Some dark) e s go a l ex =
        let y : (x : Datum × State) × (value_in k w dark Scalar e s ≡ Ok x)
        × (go (the_item x.0) x.1 ≡ Ok a) =
        next_to (value_in k w dark Scalar e s) (λ x. go (the_item x.0) x.1) a ex in record {
          value = the_item y.0.0;
          state = y.0.1;
          like = behind_value dark Scalar e s y.0 l y.1;
          goes = y.2;
          reads = λ h. h dark y.0 y.1;
        }

    mutual
      pub value_reads : (dark : Bool) (want : Want) (e : Expr Meant) (s : State)
          (x : Datum × State) → Like f s → value_in k w dark want e s ≡ Ok x
          → AreRead (cost_of k w dark e f)
      value_reads dark want (Number n) s x l ex = tt
      value_reads dark want (Place name m accessors) s x l ex =
          place_reads dark want m (Named m) [] accessors s x tt l ex
      value_reads dark want (Call parallel name m arguments) s x l ex =
          at (is_settled (seen k w dark (Call parallel name m arguments) f))
          (all_reads dark arguments s (next_to (all_in k w dark arguments s)
          (λ (ds, s1). called k w want m arguments ds s1) x ex).0 l
          (next_to (all_in k w dark arguments s)
          (λ (ds, s1). called k w want m arguments ds s1) x ex).1)
        where
          at : (b : Bool) → AreRead (all_cost k w dark arguments f)
              → AreRead (cond b (node 1) (above (both (all_cost k w dark arguments f) record {
                nodes = 0;
                reads = [];
                calls = call_made k w dark m (shapes_in k w dark arguments f);
              })))
          at true h = tt
          at false h = both_read (all_cost k w dark arguments f) record {
            nodes = 0;
            reads = [];
            calls = call_made k w dark m (shapes_in k w dark arguments f);
          } h tt
      value_reads dark want (Anonymous parallel name m arguments inputs) s x l ex = tt
      value_reads dark want (Parentheses e) s x l ex = value_reads dark want e s x l ex
      value_reads dark Scalar (Array es) s x l ex = cc
      value_reads dark Whole (Array es) s x l ex =
          let a : (y : List Datum × State) × (all_in k w dark es s ≡ Ok y)
          × (gathered w y.0 y.1 ≡ Ok x) =
          next_to (all_in k w dark es s) (λ (ds, s1). gathered w ds s1) x ex in
          all_reads dark es s a.0 l a.1
      value_reads dark want (Unary op a) s x l ex =
          let y : (y : Datum × State) × (value_in k w dark Scalar a s ≡ Ok y)
          × (answered (unary_result (unary_of op) (the_item y.0)) y.1 ≡ Ok x) =
          next_to (value_in k w dark Scalar a s)
          (λ y. answered (unary_result (unary_of op) (the_item y.0)) y.1) x ex in
          value_reads dark Scalar a s y.0 l y.1
      value_reads dark want (Binary op a b) s x l ex =
          let y : (y : Datum × State) × (value_in k w dark Scalar a s ≡ Ok y)
          × (looked_at (shading (left_tells (operator_of op) (the_item y.0)) dark) y.1
          (λ deep. value_in k w deep Scalar b y.1) (λ v s2.
          next (applied w dark (operator_of op) (the_item y.0) v) (λ z. answered z s2)) ≡ Ok x) =
          next_to (value_in k w dark Scalar a s) (λ y.
          looked_at (shading (left_tells (operator_of op) (the_item y.0)) dark) y.1
          (λ deep. value_in k w deep Scalar b y.1) (λ v s2.
          next (applied w dark (operator_of op) (the_item y.0) v) (λ z. answered z s2))) x ex in
          let l1 : Like f y.0.1 = behind_value dark Scalar a s y.0 l y.1 in
          let second : Looked (shading (left_tells (operator_of op) (the_item y.0.0)) dark) b y.0.1
          (λ v s2. next (applied w dark (operator_of op) (the_item y.0.0) v)
          (λ z. answered z s2)) x = looked _ b y.0.1 _ x l1 y.2 in
          all_append IsRead (cost_of k w dark a f).reads _ (value_reads dark Scalar a s y.0 l y.1)
          (subst (λ o. AreRead (operand (shading (left_tells (operator_of op) (value_of o)) dark)
          (λ deep. cost_of k w deep b f) (nodes_of b)))
          (sym (seen_is dark Scalar a s y.0 l y.1))
          (second.reads (λ deep z ez. value_reads deep Scalar b y.0.1 z l1 ez)))
      value_reads dark want (Choice c a b) s x l ex =
          let y : (y : Datum × State) × (value_in k w dark Scalar c s ≡ Ok y)
          × (looked_at (first_shading (side_of (the_item y.0)) dark) y.1
          (λ deep. value_in k w deep Scalar a y.1) (λ v s2.
          looked_at (second_shading (side_of (the_item y.0)) dark) s2
          (λ deep. value_in k w deep Scalar b s2) (λ z s3.
          answered (chosen (side_of (the_item y.0)) v z) s3)) ≡ Ok x) =
          next_to (value_in k w dark Scalar c s) (λ y.
          looked_at (first_shading (side_of (the_item y.0)) dark) y.1
          (λ deep. value_in k w deep Scalar a y.1) (λ v s2.
          looked_at (second_shading (side_of (the_item y.0)) dark) s2
          (λ deep. value_in k w deep Scalar b s2) (λ z s3.
          answered (chosen (side_of (the_item y.0)) v z) s3))) x ex in
          let l1 : Like f y.0.1 = behind_value dark Scalar c s y.0 l y.1 in
          let first : Looked (first_shading (side_of (the_item y.0.0)) dark) a y.0.1 (λ v s2.
          looked_at (second_shading (side_of (the_item y.0.0)) dark) s2
          (λ deep. value_in k w deep Scalar b s2) (λ z s3.
          answered (chosen (side_of (the_item y.0.0)) v z) s3)) x =
          looked _ a y.0.1 _ x l1 y.2 in
          let second : Looked (second_shading (side_of (the_item y.0.0)) dark) b first.state
          (λ z s3. answered (chosen (side_of (the_item y.0.0)) first.value z) s3) x =
          looked _ b first.state _ x first.like first.goes in
          all_append IsRead (cost_of k w dark c f).reads _ (value_reads dark Scalar c s y.0 l y.1)
          (subst (λ o. AreRead (both
          (operand (first_shading (side_of (value_of o)) dark) (λ deep. cost_of k w deep a f)
          (nodes_of a))
          (operand (second_shading (side_of (value_of o)) dark) (λ deep. cost_of k w deep b f)
          (nodes_of b)))) (sym (seen_is dark Scalar c s y.0 l y.1))
          (all_append IsRead (operand (first_shading (side_of (the_item y.0.0)) dark)
          (λ deep. cost_of k w deep a f) (nodes_of a)).reads _
          (first.reads (λ deep z ez. value_reads deep Scalar a y.0.1 z l1 ez))
          (second.reads (λ deep z ez. value_reads deep Scalar b first.state z first.like ez))))

      pub all_reads : (dark : Bool) (es : Exprs Meant) (s : State) (x : List Datum × State)
          → Like f s → all_in k w dark es s ≡ Ok x → AreRead (all_cost k w dark es f)
      all_reads dark none s x l ex = tt
      all_reads dark (more e es) s x l ex =
          let y : (y : Datum × State) × (value_in k w dark Whole e s ≡ Ok y)
          × (next (all_in k w dark es y.1) (λ (ds, s2). Ok (y.0 ∷ ds, s2)) ≡ Ok x) =
          next_to (value_in k w dark Whole e s)
          (λ y. next (all_in k w dark es y.1) (λ (ds, s2). Ok (y.0 ∷ ds, s2))) x ex in
          let z : (z : List Datum × State) × (all_in k w dark es y.0.1 ≡ Ok z)
          × (others y.0.0 z ≡ Ok x) =
          next_to (all_in k w dark es y.0.1) (others y.0.0) x y.2 in
          both_read (cost_of k w dark e f) (all_cost k w dark es f)
          (value_reads dark Whole e s y.0 l y.1)
          (all_reads dark es y.0.1 z.0 (behind_value dark Whole e s y.0 l y.1) z.1)
        where
          others : Datum → List Datum × State → Tried (List Datum × State)
          others d z = Ok (d ∷ z.0, z.1)

      place_reads : (dark : Bool) (want : Want) (m : Meant) (root : Root) (os : List (Option ℕ))
          (accessors : Accessors Meant) (s : State) (x : Datum × State) → RootTells root → Like f s
          → read_in k w dark want root os accessors s ≡ Ok x
          → AreRead (place_cost k w dark m root os accessors f)
      place_reads dark want m root os done s x t l ex =
          let a : (source : Origin) × (origin_of w root s.frame ≡ Ok source)
          × (next (read_origin w dark want os source) (λ d. Ok (d, s)) ≡ Ok x) =
          next_to (origin_of w root s.frame)
          (λ source. next (read_origin w dark want os source) (λ d. Ok (d, s))) x ex in
          let b : (d : Datum) × (read_origin w dark want os a.0 ≡ Ok d) × (Ok (d, s) ≡ Ok x) =
          next_to (read_origin w dark want os a.0) (λ d. Ok (d, s)) x a.2 in
          let is : origin_of w root f.frame ≡ Ok a.0 = sym (origin_like root s l) ∙ a.1 in
          subst (λ o. AllByRecursion IsRead (origin_reads w m os o)) (sym is)
          (origin_read dark want m os a.0 b.0 (origin_tells root a.0 t is) b.1)
      place_reads dark want m root os (index e rest) s x t l ex =
          let y : (y : Datum × State) × (value_in k w dark Scalar e s ≡ Ok y)
          × (read_in k w dark want root (os ++ known_number (the_item y.0) ∷ []) rest y.1 ≡ Ok x) =
          next_to (value_in k w dark Scalar e s)
          (λ y. read_in k w dark want root (os ++ known_number (the_item y.0) ∷ []) rest y.1) x ex
          in
          all_append IsRead (cost_of k w dark e f).reads _ (value_reads dark Scalar e s y.0 l y.1)
          (subst (λ o. AreRead (place_cost k w dark m root (os ++ known_number (value_of o) ∷ [])
          rest f)) (sym (seen_is dark Scalar e s y.0 l y.1))
          (place_reads dark want m root (os ++ known_number (the_item y.0.0) ∷ []) rest y.0.1 x t
          (behind_value dark Scalar e s y.0 l y.1) y.2))
      place_reads dark want m root os (member name rest) s x t l ex =
          let a : (source : Origin) × (inner_origin w dark root os name s.frame ≡ Ok source)
          × (read_in k w dark want (Found source) [] rest s ≡ Ok x) =
          next_to (inner_origin w dark root os name s.frame)
          (λ source. read_in k w dark want (Found source) [] rest s) x ex in
          let is : inner_origin w dark root os name f.frame ≡ Ok a.0 =
          sym (inner_like dark root os name s l) ∙ a.1 in
          subst (λ o. AreRead (place_cost k w dark m (root_of o) [] rest f)) (sym is)
          (place_reads dark want m (Found a.0) [] rest s x (inner_tells dark root os name a.0 is) l
          a.2)

    -- the indices of a place that is written
    pub indices_read : {A : Type 0} (dark : Bool) (os : List (Option ℕ))
        (accessors : Accessors Meant) (s : State)
        (go : List (Option ℕ) → Accessors Meant → State → Tried A) (a : A) → Like f s
        → indices_in k w dark os accessors s go ≡ Ok a
        → (os : List (Option ℕ)) × (rest : Accessors Meant) × (s1 : State) × Like f s1
        × (go os rest s1 ≡ Ok a)
        × (AreRead (indices_cost k w dark rest f) → AreRead (indices_cost k w dark accessors f))
        × ((rest ≡ done) ⊎ ((name : List ℕ) × (more_rest : Accessors Meant)
        × (rest ≡ member name more_rest)))
    indices_read dark os done s go a l ex = (os, done, s, l, ex, (λ h. h), inl refl)
    indices_read dark os (member name rest) s go a l ex =
        (os, member name rest, s, l, ex, (λ h. h), inr (name, rest, refl))
    indices_read dark os (index e rest) s go a l ex =
        let y : (y : Datum × State) × (value_in k w dark Scalar e s ≡ Ok y)
        × (indices_in k w dark (os ++ known_number (the_item y.0) ∷ []) rest y.1 go ≡ Ok a) =
        next_to (value_in k w dark Scalar e s)
        (λ y. indices_in k w dark (os ++ known_number (the_item y.0) ∷ []) rest y.1 go) a ex in
        let after : (os : List (Option ℕ)) × (rest1 : Accessors Meant) × (s1 : State) × Like f s1
        × (go os rest1 s1 ≡ Ok a)
        × (AreRead (indices_cost k w dark rest1 f) → AreRead (indices_cost k w dark rest f))
        × ((rest1 ≡ done) ⊎ ((name : List ℕ) × (more_rest : Accessors Meant)
        × (rest1 ≡ member name more_rest))) =
        indices_read dark (os ++ known_number (the_item y.0.0) ∷ []) rest y.0.1 go a
        (behind_value dark Scalar e s y.0 l y.1) y.2 in (
          after.0,
          after.1,
          after.2,
          after.3,
          after.4,
          (λ h. both_read (cost_of k w dark e f) (indices_cost k w dark rest f)
              (value_reads dark Scalar e s y.0 l y.1) (after.5 h)),
          after.6,
        )
