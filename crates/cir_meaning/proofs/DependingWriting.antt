-- What writes, declarations and creations leave depends on declared signals alone.
use Rattle.std.specs.Prelude.{sum_by}
use Rattle.std.proofs.lemmas.List.Sums.{sum_by-append}
use Rattle.std.proofs.Common.{◌≡◌, ℕ, zero, suc, ◌+◌, ◌<◌, ◌≤◌, Bool, true, false, not, cond, List}
use Rattle.std.proofs.Common.{[], ◌∷◌, ◌++◌, length, replicate, Option, Some, None, refl, sym, ap}
use Rattle.std.proofs.Common.{subst, ◌∙◌, is_some, slice_get, slice_set, unwrap_or, arith}
use Rattle.std.specs.List.{AllByRecursion}
use Rattle.cir_ast.specs.declared.program.Spot.{Spot}
use Rattle.cir_ast.specs.declared.program.Meant.{Meant}
use Rattle.cir_ast.specs.declared.operators.Arrow.{Arrow}
use Rattle.cir_ast.specs.declared.operators.Arrow.TheVariants.{Assign as AssignArrow}
use Rattle.cir_ast.specs.declared.operators.Arrow.TheVariants.{Constrain as ConstrainArrow}
use Rattle.cir_ast.specs.declared.operators.Direction.{Direction}
use Rattle.cir_ast.specs.declared.refusal.Kind.{Kind}
use Rattle.cir_ast.specs.declared.refusal.Kind.TheVariants.{ReadBeforeWrite, SecondWrite}
use Rattle.cir_ast.specs.declared.refusal.Kind.TheVariants.{ShapeDiffers}
use Rattle.cir_ast.specs.Tree.{Expr, Accessors}
use Rattle.cir_lc.specs.Number.{signal}
use Rattle.cir_meaning.specs.Dependence.{declared_in, IsDeclared, IsOver}
use Rattle.cir_meaning.specs.Tried.{Where, Tried}
use Rattle.cir_meaning.specs.Places.{elements}
use Rattle.cir_meaning.specs.Limits.{Counts, nothing, limits, standing, tested, plus, is_too_large}
use Rattle.cir_meaning.specs.Arrays.{Datum, Whole, Reach, reach, same_dims, put_items, forgotten}
use Rattle.cir_meaning.specs.Arrays.{filled}
use Rattle.cir_meaning.specs.Values.{Value, Linear, Opaque, Parts, difference_of, parts_of}
use Rattle.cir_meaning.specs.Frame.{SignalEntry, Signals, Part, Frame, Group, Outputs, PublicInputs}
use Rattle.cir_meaning.specs.Frame.{PrivateInputs, Others, Sizes, Row, World, State, Context, Maker}
use Rattle.cir_meaning.specs.Frame.{is_input, is_written, entry_at, put_at, variable_at, adding}
use Rattle.cir_meaning.specs.Frame.{settle, counted, one_statement, size_in, more_in, before_group}
use Rattle.cir_meaning.specs.Frame.{next_number}
use Rattle.cir_meaning.specs.Compile.{is_of, rows_of}
use Rattle.cir_meaning.specs.Evaluate.{value_in}
use Rattle.cir_meaning.specs.Writing.{put_variable, written_datum, VariableAssignment}
use Rattle.cir_meaning.specs.Writing.{variable_assignment, write_variable, Target, part_signals}
use Rattle.cir_meaning.specs.Writing.{signals_of, with_part_signals, with_signals, marked}
use Rattle.cir_meaning.specs.Writing.{write_element, appended, constrained, constrained_by}
use Rattle.cir_meaning.specs.Writing.{write_elements, signal_assignment, target_in}
use Rattle.cir_meaning.specs.Declaring.{new_signal, with_row, declare_signal, declare_component}
use Rattle.cir_meaning.specs.Declaring.{opened, Creation, creation, create_at, create_each}
use Rattle.cir_meaning.specs.Costs.{Cost}
use Rattle.cir_meaning.specs.Functions.{function_fault, function_elements}
use Rattle.cir_meaning.specs.Steps.{unless_faulty, with_step, stepped}
use Rattle.cir_meaning.proofs.Depending.{Over, signal_over, difference_over, equation_over}
use Rattle.cir_meaning.proofs.Depending.{over_more, is_over_more}
use Rattle.cir_meaning.proofs.DependingValues.{CallsOver, DatumOver, EntryOver, SignalsOver}
use Rattle.cir_meaning.proofs.DependingValues.{PartOver, FrameOver, filled_over, variable_over}
use Rattle.cir_meaning.proofs.DependingValues.{entry_over, some_at, value_over}
use Rattle.cir_meaning.proofs.Good.{OnGood, good_ok, good_bad, good_next, good_on, good_needed}
use Rattle.cir_meaning.proofs.Good.{good_needed_as, good_found_as, good_weaker, good_is, either}
use Rattle.cir_meaning.proofs.Good.{OnSome'}
use Rattle.cir_meaning.proofs.Pairs.{good_both}
use Rattle.cir_meaning.proofs.Rows.{all_append, all_map, all_put, all_set}
use Rattle.cir_meaning.proofs.Likes.{Like, like_itself}
use Rattle.cir_meaning.proofs.KnownValues.{KnownStore}
use Rattle.cir_meaning.proofs.VariableRuns.{assignment_like}
use Rattle.cir_meaning.proofs.SignalTargets.{assignment_target}
use Rattle.cir_meaning.proofs.Creating.{Created, create_at_is, creation_like, creation_known}
use Rattle.cir_meaning.proofs.ValueKeepings.{indices_any}

-- more signals
pub entry_more : (D E : ℕ → Type 0) → ((n : ℕ) → D n → E n) → (o : Option SignalEntry)
    → OnSome' (EntryOver D) o → OnSome' (EntryOver E) o
entry_more D E m None h = tt
entry_more D E m (Some e) h = λ k t. m (e.first + k) (h k t)

pub all_more : {A : Type 0} (P Q : A → Type 0) (xs : List A) → ((x : A) → P x → Q x)
    → AllByRecursion P xs → AllByRecursion Q xs
all_more P Q [] m h = tt
all_more P Q (x ∷ xs) m h = (m x h.0, all_more P Q xs m h.1)

pub signals_more : (D E : ℕ → Type 0) → ((n : ℕ) → D n → E n) → (signals : Signals)
    → SignalsOver D signals → SignalsOver E signals
signals_more D E m signals h =
    all_more (OnSome' (EntryOver D)) (OnSome' (EntryOver E)) signals (entry_more D E m) h

pub datum_more : (D E : ℕ → Type 0) → ((n : ℕ) → D n → E n) → (d : Datum) → DatumOver D d
    → DatumOver E d
datum_more D E m d h = all_more (Over D) (Over E) d.items (over_more D E m) h

pub frame_more : (D E : ℕ → Type 0) → ((n : ℕ) → D n → E n) → (f : Frame) → FrameOver D f
    → FrameOver E f
frame_more D E m f h = record {
  variables =
      all_more (DatumOver D) (DatumOver E) f.variables (datum_more D E m) h.variables;
  signals = signals_more D E m f.signals h.signals;
  parts =
      all_more (PartOver D) (PartOver E) f.parts (λ p. signals_more D E m p.signals) h.parts;
}

-- counts that stand still
pub standing_add : (a b : ℕ) → standing (standing a + b) ≡ standing (a + b)
standing_add a b = omega arith

pub standing_less : (a : ℕ) → standing a ≤ a
standing_less a = omega arith

-- one row more
rows_append : (g : Group) (rows : List Row) (r : Row)
    → rows_of g (rows ++ r ∷ []) ≡ rows_of g rows ++ rows_of g (r ∷ [])
rows_append g [] r = refl
rows_append g (q ∷ rows) r = at (is_of g q) (rows_append g rows r)
  where
    at : (b : Bool) → rows_of g (rows ++ r ∷ []) ≡ rows_of g rows ++ rows_of g (r ∷ [])
        → cond b (q ∷ rows_of g (rows ++ r ∷ [])) (rows_of g (rows ++ r ∷ []))
        ≡ cond b (q ∷ rows_of g rows) (rows_of g rows) ++ rows_of g (r ∷ [])
    at true e = ap (λ (qs : List Row). q ∷ qs) e
    at false e = e

pub declared_more : (g : Group) (rows : List Row) (r : Row)
    → declared_in (rows ++ r ∷ []) g ≡ declared_in rows g + declared_in (r ∷ []) g
declared_more g rows r =
    ap (λ (qs : List Row). sum_by (λ q. elements q.dims) qs) (rows_append g rows r)
    ∙ sum_by-append (λ (q : Row). elements q.dims) (rows_of g rows) (rows_of g (r ∷ []))

-- all of its elements are declared in its group
pub declared_here : (r : Row) → declared_in (r ∷ []) r.group ≡ elements r.dims
declared_here r = at r.group
  where
    at : (g : Group)
        → declared_in (record r { group = g } ∷ []) g ≡ elements r.dims
    at Outputs = omega arith
    at PublicInputs = omega arith
    at PrivateInputs = omega arith
    at Others = omega arith

-- the sizes are those of the rows
size_step : (size total n : ℕ) → size ≡ standing total
    → standing (size + n) ≡ standing (total + (0 + n))
size_step size total n e =
    ap (λ (k : ℕ). standing (k + n)) e ∙ standing_add total n
    ∙ ap standing (omega arith)

size_same : (size total : ℕ) → size ≡ standing total → size ≡ standing (total + 0)
size_same size total e = e ∙ ap standing (omega arith)

abbrev pub SizesAre : Sizes → List Row → Type 0
SizesAre s rows = (g : Group) → size_in g s ≡ standing (declared_in rows g)

pub sizes_more : (s : Sizes) (rows : List Row) (r : Row) → SizesAre s rows
    → SizesAre (more_in r.group (elements r.dims) s) (rows ++ r ∷ [])
sizes_more s rows r h g =
    at r.group g ∙ ap standing (sym (declared_more g rows r))
  where
    at : (own g : Group) → size_in g (more_in own (elements r.dims) s)
        ≡ standing (declared_in rows g + declared_in (record r { group = own } ∷ []) g)
    at Outputs Outputs = size_step s.outputs _ (elements r.dims) (h Outputs)
    at Outputs PublicInputs = size_same s.public_inputs _ (h PublicInputs)
    at Outputs PrivateInputs = size_same s.private_inputs _ (h PrivateInputs)
    at Outputs Others = size_same s.others _ (h Others)
    at PublicInputs Outputs = size_same s.outputs _ (h Outputs)
    at PublicInputs PublicInputs =
        size_step s.public_inputs _ (elements r.dims) (h PublicInputs)
    at PublicInputs PrivateInputs = size_same s.private_inputs _ (h PrivateInputs)
    at PublicInputs Others = size_same s.others _ (h Others)
    at PrivateInputs Outputs = size_same s.outputs _ (h Outputs)
    at PrivateInputs PublicInputs = size_same s.public_inputs _ (h PublicInputs)
    at PrivateInputs PrivateInputs =
        size_step s.private_inputs _ (elements r.dims) (h PrivateInputs)
    at PrivateInputs Others = size_same s.others _ (h Others)
    at Others Outputs = size_same s.outputs _ (h Outputs)
    at Others PublicInputs = size_same s.public_inputs _ (h PublicInputs)
    at Others PrivateInputs = size_same s.private_inputs _ (h PrivateInputs)
    at Others Others = size_step s.others _ (elements r.dims) (h Others)

-- elements that are made
some_below : (n k : ℕ) (b : Bool) → is_some (slice_get (replicate n b) k) ≡ true → k < n
some_below zero k b h = cc
some_below (suc n) zero b h = omega arith
some_below (suc n) (suc k) b h = omega (arith, some_below n k b h)

made_below : (large : Bool) (n k : ℕ) (b : Bool)
    → is_some (slice_get (cond large [] (replicate n b)) k) ≡ true → k < n
made_below true n k b h = cc
made_below false n k b h = some_below n k b h

set_below : (written : List Bool) (place k : ℕ) (b : Bool)
    → is_some (slice_get (slice_set written place b) k) ≡ true
    → is_some (slice_get written k) ≡ true
set_below [] place k b h = h
set_below (x ∷ xs) zero zero b h = h
set_below (x ∷ xs) zero (suc k) b h = h
set_below (x ∷ xs) (suc place) zero b h = h
set_below (x ∷ xs) (suc place) (suc k) b h = set_below xs place k b h

again_below : (written : List Bool) (k : ℕ) (b : Bool)
    → is_some (slice_get (replicate (length written) b) k) ≡ true
    → is_some (slice_get written k) ≡ true
again_below [] k b h = h
again_below (x ∷ xs) zero b h = refl
again_below (x ∷ xs) (suc k) b h = again_below xs k b h

unwritten_there : (o : Option Bool) → not (unwrap_or o true) ≡ true → is_some o ≡ true
unwritten_there None h = h
unwritten_there (Some b) h = refl

module _ (size : ℕ) where
  abbrev pub AtRows : List Row → ℕ → Type 0
  AtRows rows = IsDeclared size (declared_in rows)

  pub rows_more : (rows : List Row) (r : Row) (n : ℕ) → AtRows rows n
      → AtRows (rows ++ r ∷ []) n
  rows_more rows r zero h = tt
  rows_more rows r (suc n) h = record {
    group = h.group;
    place = h.place;
    inside = omega (arith, h.inside, declared_more h.group rows r);
    number = h.number;
  }

  -- the sizes are those of the rows, the equations are over declared signals, and what was
  -- declared before is declared still
  pub record WorldOver (base : List Row) (w : World) : Type 0 where
    pub sizes : SizesAre w.sizes w.rows
    pub equations : AllByRecursion (IsOver (AtRows w.rows)) w.equations
    pub grows : (n : ℕ) → AtRows base n → AtRows w.rows n

  pub record StateOver (base : List Row) (s : State) : Type 0 where
    pub frame : FrameOver (AtRows s.world.rows) s.frame
    pub world : WorldOver base s.world

  -- what is counted has no part in it
  pub counts_over : (base : List Row) (w : World) (c : Counts) → WorldOver base w
      → WorldOver base (record w { counts = c })
  counts_over base w c h =
      record { sizes = h.sizes; equations = h.equations; grows = h.grows }

  pub counted_as_over : (base : List Row) (s : State) (a c : Counts) → StateOver base s
      → StateOver base record {
        frame = record (s.frame) { added = a };
        world = record (s.world) { counts = c };
      }
  counted_as_over base s a c h = record {
    frame = record {
      variables = h.frame.variables;
      signals = h.frame.signals;
      parts = h.frame.parts;
    };
    world = counts_over base s.world c h.world;
  }

  frame_same : (D : ℕ → Type 0) (f g : Frame) → g.variables ≡ f.variables
      → g.signals ≡ f.signals → g.parts ≡ f.parts → FrameOver D f → FrameOver D g
  frame_same D f g v s p h = record {
    variables = subst (AllByRecursion (DatumOver D)) (sym v) h.variables;
    signals = subst (SignalsOver D) (sym s) h.signals;
    parts = subst (AllByRecursion (PartOver D)) (sym p) h.parts;
  }

  pub rows_like : (f s : State) → Like f s → s.world.rows ≡ f.world.rows
  rows_like f s l = ap (λ (w : World). w.rows) l.4

  pub like_over : (base : List Row) (f s : State) → Like f s → StateOver base f
      → StateOver base s
  like_over base f s l h = record {
    frame = subst (λ rows. FrameOver (AtRows rows) s.frame) (sym (rows_like f s l))
        (frame_same (AtRows f.world.rows) f.frame s.frame l.0 l.1 l.3 h.frame);
    world = subst (WorldOver base) (sym l.4) (counts_over base f.world s.world.counts h.world);
  }

  pub datum_like : (f s : State) (d : Datum) → Like f s → DatumOver (AtRows f.world.rows) d
      → DatumOver (AtRows s.world.rows) d
  datum_like f s d l h =
      subst (λ rows. DatumOver (AtRows rows) d) (sym (rows_like f s l)) h

  -- steps
  pub settle_over : (base : List Row) (w : Where) (s : State) → StateOver base s
      → OnGood (StateOver base) (settle w s)
  settle_over base w s h =
      good_on (StateOver base) (tested limits w (plus s.world.counts s.frame.added)) _
      (λ c. good_ok (StateOver base) _
      (counted_as_over base s nothing (record c { elements = 0 }) h))

  pub counted_over : (base : List Row) (w : Where) (s : State) → StateOver base s
      → OnGood (StateOver base) (counted w s)
  counted_over base w s h =
      settle_over base w (adding one_statement s)
      (counted_as_over base s (one_statement s.frame.added) s.world.counts h)

  unless_over : (base : List Row) (w : Where) (o : Option Kind) (go : Tried State)
      → OnGood (StateOver base) go → OnGood (StateOver base) (unless_faulty w o go)
  unless_over base w (Some kind) go h = good_bad (StateOver base) _
  unless_over base w None go h = h

  pub stepped_over : (base : List Row) (k : Context) (w : Where) (cost : Cost) (cells : ℕ)
      (s : State) → StateOver base s → OnGood (StateOver base) (stepped k w cost cells s)
  stepped_over base k w cost cells s h =
      unless_over base w (function_fault k.program cost.calls) _
      (good_ok (StateOver base) _
      (counted_as_over base s (with_step cost cells (function_elements k.program cost.calls)
      s.frame.added) s.world.counts h))

  -- variables
  pub set_over : (base : List Row) (n : ℕ) (d : Datum) (s : State)
      → DatumOver (AtRows s.world.rows) d → StateOver base s
      → StateOver base (put_variable n d s)
  set_over base n d s h g = record {
    frame = record {
      variables = all_set (DatumOver (AtRows s.world.rows)) s.frame.variables n d
          g.frame.variables h;
      signals = g.frame.signals;
      parts = g.frame.parts;
    };
    world = g.world;
  }

  pub forgotten_over : (D : ℕ → Type 0) (d : Datum) → DatumOver D (forgotten d)
  forgotten_over D d = all_map (Over D) (λ v. Opaque) d.items (λ v. tt)

  written_over : (D : ℕ → Type 0) (old : Datum) (r : Reach) (d : Datum) → DatumOver D old
      → DatumOver D d → DatumOver D (written_datum old r d)
  written_over D old r d h i =
      either (DatumOver D) r.is_sure record {
        dims = old.dims;
        items = put_items r.places d.items old.items;
      } (forgotten old) (all_put (Over D) r.places d.items old.items i h) (forgotten_over D old)

  pub write_over : (base : List Row) (n : ℕ) (a : VariableAssignment)
      → DatumOver (AtRows a.state.world.rows) a.value → StateOver base a.state
      → StateOver base (write_variable n a)
  write_over base n a h g =
      set_over base n _ a.state (written_over (AtRows a.state.world.rows)
      (variable_at a.state.frame n) a.reach a.value
      (variable_over (AtRows a.state.world.rows) a.state.frame n g.frame) h) g

  pub declare_variable_over : (base : List Row) (n : ℕ) (dims : List ℕ) (v : Value) (s : State)
      → Over (AtRows s.world.rows) v → StateOver base s
      → StateOver base (put_variable n (filled dims v) s)
  declare_variable_over base n dims v s h g =
      set_over base n (filled dims v) s (filled_over (AtRows s.world.rows) dims v h) g

  -- signals
  put_over : (D : ℕ → Type 0) (n : ℕ) (e : SignalEntry) (signals : Signals) → EntryOver D e
      → SignalsOver D signals → SignalsOver D (put_at n e signals)
  put_over D zero e [] h g = (h, tt)
  put_over D zero e (x ∷ xs) h g = (h, g.1)
  put_over D (suc n) e [] h g = (tt, put_over D n e [] h g)
  put_over D (suc n) e (x ∷ xs) h g = (g.0, put_over D n e xs h g.1)

  marked_over : (D : ℕ → Type 0) (e : SignalEntry) (place : ℕ) → EntryOver D e
      → EntryOver D (marked e place)
  marked_over D e place h = λ k t. h k (set_below e.written place k true t)

  pub opened_over : (D : ℕ → Type 0) (signals : Signals) → SignalsOver D signals
      → SignalsOver D (opened signals)
  opened_over D [] h = tt
  opened_over D (None ∷ rest) h = (tt, opened_over D rest h.1)
  opened_over D (Some e ∷ rest) h = (
    either (EntryOver D) (is_input e.direction)
        (record e { written = replicate (length e.written) false }) e
        (λ k t. h.0 k (again_below e.written k false t)) h.0,
    opened_over D rest h.1,
  )

  -- the signals of the body or of a part
  of_part_over : (D : ℕ → Type 0) (o : Option Part) → OnSome' (PartOver D) o
      → SignalsOver D (part_signals o)
  of_part_over D None h = tt
  of_part_over D (Some p) h = h

  target_over : (D : ℕ → Type 0) (part : Option ℕ) (f : Frame) → FrameOver D f
      → SignalsOver D (signals_of part f)
  target_over D None f h = h.signals
  target_over D (Some j) f h =
      of_part_over D (slice_get f.parts j) (some_at (PartOver D) f.parts j h.parts)

  with_part_over : (D : ℕ → Type 0) (j : ℕ) (signals : Signals) (o : Option Part) (f : Frame)
      → SignalsOver D signals → FrameOver D f
      → FrameOver D (with_part_signals j signals o f)
  with_part_over D j signals None f h g = g
  with_part_over D j signals (Some p) f h g = record {
    variables = g.variables;
    signals = g.signals;
    parts = all_set (PartOver D) f.parts j (record p { signals = signals }) g.parts h;
  }

  with_over : (D : ℕ → Type 0) (part : Option ℕ) (signals : Signals) (f : Frame)
      → SignalsOver D signals → FrameOver D f → FrameOver D (with_signals part signals f)
  with_over D None signals f h g =
      record { variables = g.variables; signals = h; parts = g.parts }
  with_over D (Some j) signals f h g =
      with_part_over D j signals (slice_get f.parts j) f h g

  some_over : (D : ℕ → Type 0) (o : Option SignalEntry) (e : SignalEntry) → o ≡ Some e
      → OnSome' (EntryOver D) o → EntryOver D e
  some_over D o e is h = subst (OnSome' (EntryOver D)) is h

  -- an element that is written, whose number is a declared one
  pub record Wrote (base : List Row) (place : ℕ) (x : SignalEntry × State) : Type 0 where
    pub state : StateOver base x.1
    pub number : AtRows x.1.world.rows (x.0.first + place)

  write_element_over : (base rows : List Row) (w : Where) (t : Target) (place : ℕ) (s : State)
      → s.world.rows ≡ rows → StateOver base s
      → OnGood (λ x. Wrote base place x × (x.1.world.rows ≡ rows)) (write_element w t place s)
  write_element_over base rows w t place s same g =
      good_found_as (λ x. Wrote base place x × (x.1.world.rows ≡ rows)) w ReadBeforeWrite
      (entry_at (signals_of t.part s.frame) t.number) _ (λ e is.
      let D : ℕ → Type 0 = AtRows s.world.rows in
      let own : EntryOver D e = some_over D _ e is
      (entry_over D (signals_of t.part s.frame) t.number (target_over D t.part s.frame g.frame))
      in
      good_needed_as (λ x. Wrote base place x × (x.1.world.rows ≡ rows))
      (not (is_written e place)) w SecondWrite _ (λ free.
      good_ok (λ x. Wrote base place x × (x.1.world.rows ≡ rows)) _ (
        record {
          state = record {
            frame = with_over D t.part _ s.frame (put_over D t.number (marked e place)
                (signals_of t.part s.frame) (marked_over D e place own)
                (target_over D t.part s.frame g.frame)) g.frame;
            world = g.world;
          };
          number = own place (unwritten_there (slice_get e.written place) free);
        },
        same,
      )))

  -- equations
  appended_over : (base rows : List Row) (k : Context) (w : Where) (x y : Value) (s : State)
      (o : Option Parts)
      → parts_of (difference_of x y) ≡ o → s.world.rows ≡ rows → Over (AtRows rows) x
      → Over (AtRows rows) y → StateOver base s
      → OnGood (λ z. StateOver base z × (z.world.rows ≡ rows)) (appended k w x y s o)
  appended_over base rows k w x y s None e same h i g =
      good_bad (λ z. StateOver base z × (z.world.rows ≡ rows)) _
  appended_over base rows k w x y s (Some p) e same h i g =
      let back : (v : Value) → Over (AtRows rows) v → Over (AtRows s.world.rows) v =
      (λ v q. subst (λ r. Over (AtRows r) v) (sym same) q) in
      good_ok (λ z. StateOver base z × (z.world.rows ≡ rows)) _ (
        record {
          frame = record {
            variables = g.frame.variables;
            signals = g.frame.signals;
            parts = g.frame.parts;
          };
          world = record {
            sizes = g.world.sizes;
            equations = all_append (IsOver (AtRows s.world.rows)) s.world.equations _
                g.world.equations (
                  equation_over (AtRows s.world.rows) x y (difference_of x y) p
                      (difference_over (AtRows s.world.rows) x y (back x h) (back y i)) e,
                  tt,
                );
            grows = g.world.grows;
          };
        },
        same,
      )

  pub constrained_over : (base rows : List Row) (k : Context) (w : Where) (x y : Value)
      (s : State) → s.world.rows ≡ rows → Over (AtRows rows) x → Over (AtRows rows) y
      → StateOver base s
      → OnGood (λ z. StateOver base z × (z.world.rows ≡ rows)) (constrained k w x y s)
  constrained_over base rows k w x y s same h i g =
      appended_over base rows k w x y s (parts_of (difference_of x y)) refl same h i g

  constrained_by_over : (base rows : List Row) (k : Context) (w : Where) (arrow : Arrow)
      (x y : Value) (s : State) → s.world.rows ≡ rows → Over (AtRows rows) x
      → Over (AtRows rows) y → StateOver base s
      → OnGood (λ z. StateOver base z × (z.world.rows ≡ rows)) (constrained_by k w arrow x y s)
  constrained_by_over base rows k w AssignArrow x y s same h i g =
      good_ok (λ z. StateOver base z × (z.world.rows ≡ rows)) s (g, same)
  constrained_by_over base rows k w ConstrainArrow x y s same h i g =
      constrained_over base rows k w x y s same h i g

  pub elements_over : (base rows : List Row) (k : Context) (w : Where) (arrow : Arrow)
      (t : Target) (places : List ℕ) (vs : List Value) (s : State)
      → s.world.rows ≡ rows → AllByRecursion (Over (AtRows rows)) vs → StateOver base s
      → OnGood (StateOver base) (write_elements k w arrow t places vs s)
  elements_over base rows k w arrow t [] vs s same h g = good_ok (StateOver base) s g
  elements_over base rows k w arrow t (place ∷ places) [] s same h g =
      good_ok (StateOver base) s g
  elements_over base rows k w arrow t (place ∷ places) (v ∷ vs) s same h g =
      good_next (λ x. Wrote base place x × (x.1.world.rows ≡ rows)) (StateOver base)
      (write_element w t place s) _ (write_element_over base rows w t place s same g) (λ x p.
      good_next (λ z. StateOver base z × (z.world.rows ≡ rows)) (StateOver base)
      (constrained_by k w arrow (Linear (signal (x.0.first + place))) v x.1) _
      (constrained_by_over base rows k w arrow (Linear (signal (x.0.first + place))) v x.1 p.1
      (signal_over (AtRows rows) (x.0.first + place)
      (subst (λ r. AtRows r (x.0.first + place)) p.1 p.0.number)) h.0 p.0.state) (λ z q.
      elements_over base rows k w arrow t places vs z q.1 h.1 q.0))

  -- a signal that is declared
  new_number : (k : Context) (spot : Spot) (direction : Direction) (name dims : List ℕ)
      (w : World) → k.group_size ≡ size → SizesAre w.sizes w.rows
      → EntryOver (AtRows (with_row k direction name dims w).rows)
      (new_signal k spot direction name dims w)
  new_number k spot direction name dims w same h = λ j t.
      let g : Group = k.group direction name in
      let r : Row = record { group = g; instance = k.instance; name = name; dims = dims } in
      let before : ℕ = before_group size g in
      let number : next_number k g w + j ≡ suc (before + (size_in g w.sizes + j)) =
      ap (λ (z : ℕ). 1 + before_group z g + size_in g w.sizes + j) same ∙ omega arith in
      subst (AtRows (w.rows ++ r ∷ [])) (sym number) record {
        group = g;
        place = size_in g w.sizes + j;
        inside = omega (
          arith,
          made_below (is_too_large dims) (elements dims) j (is_input direction) t,
          h g,
          standing_less (declared_in w.rows g),
          declared_more g w.rows r,
          declared_here r,
        );
        number = refl;
      }

  pub declare_signal_over : (base : List Row) (k : Context) (spot : Spot)
      (direction : Direction) (n : ℕ) (name dims : List ℕ) (s : State)
      → k.group_size ≡ size → StateOver base s
      → StateOver base (declare_signal k spot direction n name dims s)
  declare_signal_over base k spot direction n name dims s same g =
      let r : Row = record {
        group = k.group direction name;
        instance = k.instance;
        name = name;
        dims = dims;
      } in
      let more : (m : ℕ) → AtRows s.world.rows m → AtRows (s.world.rows ++ r ∷ []) m =
      rows_more s.world.rows r in
      let f : FrameOver (AtRows (s.world.rows ++ r ∷ [])) s.frame =
      frame_more (AtRows s.world.rows) (AtRows (s.world.rows ++ r ∷ [])) more s.frame g.frame in
      record {
        frame = record {
          variables = f.variables;
          signals = put_over (AtRows (s.world.rows ++ r ∷ [])) n
              (new_signal k spot direction name dims s.world) s.frame.signals
              (new_number k spot direction name dims s.world same g.world.sizes) f.signals;
          parts = f.parts;
        };
        world = record {
          sizes = sizes_more s.world.sizes s.world.rows r g.world.sizes;
          equations = all_more (IsOver (AtRows s.world.rows))
              (IsOver (AtRows (s.world.rows ++ r ∷ []))) s.world.equations
              (is_over_more (AtRows s.world.rows) (AtRows (s.world.rows ++ r ∷ [])) more)
              g.world.equations;
          grows = λ m b. more m (g.world.grows m b);
        };
      }

  -- a component that is created: its signals are declared by its maker
  pub record MadeOver (base : List Row) (x : Signals × World) : Type 0 where
    pub world : WorldOver base x.1
    pub signals : SignalsOver (AtRows x.1.rows) x.0

  abbrev pub MakeOver : Maker → Type 0
  MakeOver make =
      (w : Where) (n : ℕ) (ds : List Datum) (path : List ℕ) (world : World) → KnownStore ds
      → WorldOver world.rows world → OnGood (MadeOver world.rows) (make w n ds path world)

  pub record BodyOver (k : Context) : Type 0 where
    pub same : k.group_size ≡ size
    pub calls : CallsOver k
    pub makes : OnSome' MakeOver k.make

  some_make : (o : Option Maker) (make : Maker) → o ≡ Some make → OnSome' MakeOver o
      → MakeOver make
  some_make o make is h = subst (OnSome' MakeOver) is h

  pub own_base : (base : List Row) (w : World) → WorldOver base w → WorldOver w.rows w
  own_base base w h =
      record { sizes = h.sizes; equations = h.equations; grows = λ n d. d }

  created_over : (base : List Row) (k : Context) (body : BodyOver k) (w : Where)
      (c : Creation) (place : ℕ) (s : State) → KnownStore c.arguments
      → StateOver base c.state → Created k w c place s → StateOver base s
  created_over base k body w c place s known g is =
      let made : MadeOver c.state.world.rows (is.signals, is.world) =
      good_is (MadeOver c.state.world.rows) _ _ is.made
      (some_make k.make is.make is.is_make body.makes w c.template c.arguments _ c.state.world
      known (own_base base c.state.world g.world)) in
      let D : ℕ → Type 0 = AtRows is.world.rows in
      let f : FrameOver D c.state.frame =
      frame_more (AtRows c.state.world.rows) D made.world.grows c.state.frame g.frame in
      subst (StateOver base) (sym is.state) record {
        frame = record {
          variables = f.variables;
          signals = f.signals;
          parts = all_append (PartOver D) c.state.frame.parts _ f.parts
              (opened_over D is.signals made.signals, tt);
        };
        world = record {
          sizes = made.world.sizes;
          equations = made.world.equations;
          grows = λ n b. made.world.grows n (g.world.grows n b);
        };
      }

  pub create_over : (base : List Row) (k : Context) (body : BodyOver k) (w : Where)
      (c : Creation) (places : List ℕ) → KnownStore c.arguments → StateOver base c.state
      → OnGood (StateOver base) (create_each k w c places)
  create_over base k body w c [] known g = good_ok (StateOver base) c.state g
  create_over base k body w c (place ∷ places) known g =
      good_weaker (Created k w c place) (StateOver base) (create_at k w c place)
      (create_at_is k w c place) (λ s is. created_over base k body w c place s known g is)

  pub declare_component_over : (base : List Row) (n : ℕ) (name dims : List ℕ) (s : State)
      → StateOver base s → StateOver base (declare_component n name dims s)
  declare_component_over base n name dims s g = record {
    frame = record {
      variables = g.frame.variables;
      signals = g.frame.signals;
      parts = g.frame.parts;
    };
    world = g.world;
  }

-- values of assignments, and arguments of creations
module _ (D : ℕ → Type 0) (k : Context) (calls : CallsOver k) (f : State)
    (over : FrameOver D f.frame) where
  pub assignment_over : (w : Where) (n : ℕ) (accessors : Accessors Meant) (e : Expr Meant)
      → OnGood (λ a. DatumOver D a.value × Like f a.state)
      (variable_assignment k w n accessors e f)
  assignment_over w n accessors e =
      good_both (λ a. DatumOver D a.value) (λ a. Like f a.state)
      (variable_assignment k w n accessors e f)
      (good_next (λ x. DatumOver D x.0) (λ a. DatumOver D a.value)
      (value_in k w false Whole e f) _
      (value_over D f over k calls w false Whole e f (like_itself f)) (λ x p.
      indices_any (λ a. DatumOver D a.value) k w false [] accessors x.1 _ (λ indices rest s2.
      good_on (λ a. DatumOver D a.value)
      (reach w false Whole (variable_at s2.frame n).dims indices) _ (λ r.
      good_needed (λ a. DatumOver D a.value) (same_dims r.left x.0.dims) w ShapeDiffers _
      (good_ok (λ a. DatumOver D a.value) _ p)))))
      (assignment_like k calls.keeps f w n accessors e f (like_itself f))

  pub signal_assignment_over : (w : Where) (m : Meant) (accessors : Accessors Meant)
      (e : Expr Meant)
      → OnGood (λ a. DatumOver D a.value × Like f a.state)
      (signal_assignment k w m accessors e f)
  signal_assignment_over w m accessors e =
      good_both (λ a. DatumOver D a.value) (λ a. Like f a.state)
      (signal_assignment k w m accessors e f)
      (good_next (λ x. DatumOver D x.0) (λ a. DatumOver D a.value)
      (value_in k w false Whole e f) _
      (value_over D f over k calls w false Whole e f (like_itself f)) (λ x p.
      good_on (λ a. DatumOver D a.value) (target_in k w m accessors x.1) _ (λ t.
      good_needed (λ a. DatumOver D a.value) (same_dims t.0.reach.left x.0.dims) w
      ShapeDiffers _ (good_ok (λ a. DatumOver D a.value) _ p))))
      (good_weaker _ (λ a. Like f a.state) (signal_assignment k w m accessors e f)
      (assignment_target k calls.keeps f w m accessors e f (like_itself f)) (λ a p. p.0))

  pub creation_over : (w : Where) (n : ℕ) (accessors : Accessors Meant) (e : Expr Meant)
      → OnGood (λ c. KnownStore c.arguments × Like f c.state) (creation k w n accessors e f)
  creation_over w n accessors e =
      good_both (λ c. KnownStore c.arguments) (λ c. Like f c.state)
      (creation k w n accessors e f) (creation_known k w n accessors e f)
      (creation_like k calls.keeps f w n accessors e f (like_itself f))
