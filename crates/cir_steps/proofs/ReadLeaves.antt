-- Steps that write new cells alone read what is there already.
use Rattle.std.proofs.Common.{◌≡◌, ◌⊎◌, inl, inr, ℕ, ◌+◌, ◌≤◌, Bool, true, false, cond, List}
use Rattle.std.proofs.Common.{[], ◌∷◌, ◌++◌, length, Option, None, Ok, refl, sym, ap, subst, ◌∙◌}
use Rattle.std.proofs.Common.{arith, slice_get}
use Rattle.std.specs.Prelude.{not, filter, slice_index_or, ◌==◌, flat_map}
use Rattle.std.proofs.lemmas.List.{append-nil}
use Rattle.std.specs.List.{AllByRecursion}
use Rattle.cir_ast.specs.declared.program.Meant.{Meant}
use Rattle.cir_ast.specs.declared.refusal.Kind.TheVariants.{ShapeDiffers}
use Rattle.cir_ast.specs.Tree.{Expr, Accessors, done, index, member, Assign, LogArgument, Words}
use Rattle.cir_ast.specs.Tree.{LogValue}
use Rattle.cir_meaning.specs.Tried.{Where, Tried, next, needed}
use Rattle.cir_meaning.specs.Places.{elements, numbers_from}
use Rattle.cir_meaning.specs.Arrays.{Datum, Scalar, Whole, Reach, reach, the_item, same_dims}
use Rattle.cir_meaning.specs.Arrays.{is_known, item_at, Want}
use Rattle.cir_meaning.specs.Values.{Value, Known, Linear, Quadratic, Opaque, known_number}
use Rattle.cir_meaning.specs.Frame.{Part, Sizes, State, Context, variable_at, entry_at}
use Rattle.cir_meaning.specs.Evaluate.{value_in, indices_in}
use Rattle.cir_meaning.specs.Writing.{VariableAssignment, variable_assignment, is_unknown}
use Rattle.cir_meaning.specs.Writing.{constrained}
use Rattle.cir_meaning.specs.Simple.{set_variable, equal}
use Rattle.cir_meaning.specs.Statement.{decided, assert_value, log_values, logged}
use Rattle.cir_meaning.specs.Simple as simple
use Rattle.cir_meaning.specs.Costs.{Cost, Cell as Read, Element, cost_of, indices_cost, both}
use Rattle.cir_meaning.specs.Costs.{unknown_at}
use Rattle.cir_meaning.specs.Steps.{stepped, value_cost, old_reads, new_cells, variable_cost}
use Rattle.cir_meaning.specs.Steps.{equal_cost, assert_cost, arguments_cost, log_cost, logged_cells}
use Rattle.cir_meaning.specs.Run.{Wires, RunPart}
use Rattle.cir_meaning.proofs.Good.{OnGood, good_ok, good_next, good_as, good_is}
use Rattle.cir_meaning.proofs.Rows.{all_append, all_map}
use Rattle.cir_meaning.proofs.Likes.{CallKeeps, Like, like_itself, value_like}
use Rattle.cir_meaning.proofs.KnownCalls.{CallBoth}
use Rattle.cir_meaning.proofs.GroupSizes.{Less, Fits, less_itself, less_then}
use Rattle.cir_meaning.proofs.NumberPlaces.{Roomy}
use Rattle.cir_meaning.proofs.ScanPoints.{next_to, needed_to}
use Rattle.cir_steps.specs.Step.{Step, Source, Constant, Cell, Work, LogPart, listed}
use Rattle.cir_steps.specs.Emission.{Emission, Emitted, quiet, known_in, with_state, step_of}
use Rattle.cir_steps.specs.Emission.{each_once, cells_of}
use Rattle.cir_steps.specs.Making.{Emitting, new_places, with_cells, make_assignment}
use Rattle.cir_steps.specs.Making.{make_assertion}
use Rattle.cir_steps.specs.Emit.{emit_set_variable, emit_equal}
use Rattle.cir_steps.specs.Statements.{emit_assert, emit_log}
use Rattle.cir_steps.specs.Written.{times, targets_of}
use Rattle.cir_steps.specs.Places.{HasNoMember}
use Rattle.cir_steps.proofs.Following.{still_at, joined}
use Rattle.cir_steps.proofs.Walk.{StaysClear, one_step, still_clear}
use Rattle.cir_steps.proofs.ReadOrigins.{Told, AreRead, IsRead, value_reads}
use Rattle.cir_steps.proofs.Still.{equal_still, log_still, assert_still, behind_still, Still}
use Rattle.cir_steps.proofs.Still.{still_itself, still_like}
use Rattle.cir_steps.proofs.ReadWalk.{Leaf}
use Rattle.cir_steps.proofs.ReadCells.{In, in_left, in_right, in_either, Behind, behind_weaker}
use Rattle.cir_steps.proofs.ReadCells.{behind_more, targets_more, Given, Holding, Holds}
use Rattle.cir_steps.proofs.ReadCells.{holding_more, roomy_less, Ready, own_ready, port_ready}
use Rattle.cir_steps.proofs.ReadCells.{step_reads}
use Rattle.cir_steps.proofs.ReadSources.{numbers_in, items_put, sources_put, settled_told}

pub same_ok : {A : Type 0} (a b : A) → ◌≡◌ {A = Tried A} (Ok a) (Ok b) → a ≡ b
same_ok a b e = cc

abbrev pub sizes_of : Emission → Sizes
sizes_of x = (known_in x).world.sizes

abbrev pub GivenOf : Emission → ℕ → Type 0
GivenOf x = Given (known_in x).frame.signals x.cells.own

-- what is made reads what is there, and its cells have their numbers behind it
pub record Moved (size : ℕ) (first : Sizes) (before : List ℕ) (x : Emission) (y : Emitted)
    : Type 0 where
  pub behind : Behind (GivenOf y.state) before y.steps
  pub holds : Holds size first (before ++ targets_of y.steps) y.state
  pub given : (c : ℕ) → GivenOf x c → GivenOf y.state c

-- where the program has no more signals in the end
abbrev pub Moves : (size : ℕ) → (final : Sizes) → Emission → Emitted → Type 0
Moves size final x y =
    Fits (sizes_of x) → (Fits (sizes_of y.state) × Less (sizes_of x) (sizes_of y.state))
    × (Less (sizes_of y.state) final → (first : Sizes) (before : List ℕ) → Holds size first before x
    → Moved size first before x y)

-- as many signals and components
pub rests_holding : (size : ℕ) (first : Sizes) (before : List ℕ) (f s : State) (own : Wires)
    (runs : List RunPart) (sources : List (List Source)) (bodies : List (List Step)) → Still f s
    → Holding size first before f.frame.signals f.frame.parts f.world.sizes own runs sources bodies
    → Holding size first before s.frame.signals s.frame.parts s.world.sizes own runs sources bodies
rests_holding size first before f s own runs sources bodies h g =
    subst (λ sizes. Holding size first before s.frame.signals s.frame.parts sizes own runs sources
    bodies) (sym h.2)
    (subst (λ ps. Holding size first before s.frame.signals ps f.world.sizes own runs sources
    bodies)
    (sym h.1)
    (subst (λ xs. Holding size first before xs f.frame.parts f.world.sizes own runs sources bodies)
    (sym h.0) g))

pub rests_sizes : (f s : State) → Still f s → Fits f.world.sizes
    → Fits s.world.sizes × Less f.world.sizes s.world.sizes
rests_sizes f s h fits =
    subst (λ a. Fits a × Less f.world.sizes a) (sym h.2) (fits, less_itself f.world.sizes)

none_more : (c : ℕ) (before : List ℕ) → In c before → In c (before ++ [])
none_more c before h = in_left c before [] h

pub moves_still : (size : ℕ) (final : Sizes) (x : Emission) (s : State) → Still (known_in x) s
    → Moves size final x (still_at s x)
moves_still size final x s h fits = (
  rests_sizes (known_in x) s h fits,
  (λ less first before holds. record {
    behind = tt;
    holds = rests_holding size first (before ++ []) (known_in x) s x.cells.own x.cells.parts
        x.sources x.bodies h (holding_more size first before (before ++ []) _ _ _ _ _ _ _
        (λ c i. none_more c before i) holds);
    given = λ c g. subst (λ xs. Given xs x.cells.own c) (sym h.0) g;
  }),
)

pub moves_join : (size : ℕ) (final : Sizes) (x : Emission) (y z : Emitted)
    → Moves size final x y → Moves size final y.state z → Moves size final x (joined y z)
moves_join size final x y z h g fits =
    let one : (Fits (sizes_of y.state) × Less (sizes_of x) (sizes_of y.state))
    × (Less (sizes_of y.state) final → (first : Sizes) (before : List ℕ) → Holds size first before x
    → Moved size first before x y) = h fits in
    let two : (Fits (sizes_of z.state) × Less (sizes_of y.state) (sizes_of z.state))
    × (Less (sizes_of z.state) final → (first : Sizes) (before : List ℕ)
    → Holds size first before y.state
    → Moved size first before y.state z) = g one.0.0 in (
      (two.0.0, less_then _ _ _ one.0.1 two.0.1),
      (λ less first before holds.
          let front : Moved size first before x y =
          one.1 (less_then _ _ _ two.0.1 less) first before holds in
          let after : Moved size first (before ++ targets_of y.steps) y.state z =
          two.1 less first (before ++ targets_of y.steps) front.holds in record {
            behind = behind_more (GivenOf z.state) before y.steps z.steps
                (behind_weaker (GivenOf y.state) (GivenOf z.state) before before y.steps
                (given before after.given) front.behind) after.behind;
            holds = holding_more size first ((before ++ targets_of y.steps) ++ targets_of z.steps)
                (before ++ targets_of (y.steps ++ z.steps)) _ _ _ _ _ _ _
                (λ c i. all before c (in_either c (before ++ targets_of y.steps)
                (targets_of z.steps) i))
                after.holds;
            given = λ c i. after.given c (front.given c i);
          }),
    )
  where
    given : (before : List ℕ) → ((c : ℕ) → GivenOf y.state c → GivenOf z.state c) → (c : ℕ)
        → GivenOf y.state c ⊎ In c before → GivenOf z.state c ⊎ In c before
    given before after c (inl i) = inl (after c i)
    given before after c (inr i) = inr i

    in_steps : (c : ℕ) (before : List ℕ) → (n : ℕ) → 1 ≤ n
        → n ≤ times c (targets_of y.steps) + times c (targets_of z.steps)
        → In c (before ++ targets_of (y.steps ++ z.steps))
    in_steps c before n some most =
        let more : times c (targets_of (y.steps ++ z.steps))
        ≡ times c (targets_of y.steps) + times c (targets_of z.steps) =
        targets_more c y.steps z.steps in
        in_right c before (targets_of (y.steps ++ z.steps)) (omega arith)

    old : (c : ℕ) (before : List ℕ) → In c before ⊎ In c (targets_of y.steps)
        → In c (before ++ targets_of (y.steps ++ z.steps))
    old c before (inl i) = in_left c before (targets_of (y.steps ++ z.steps)) i
    old c before (inr i) = in_steps c before (times c (targets_of y.steps)) i (omega arith)

    all : (before : List ℕ) (c : ℕ)
        → In c (before ++ targets_of y.steps) ⊎ In c (targets_of z.steps)
        → In c (before ++ targets_of (y.steps ++ z.steps))
    all before c (inl i) = old c before (in_either c before (targets_of y.steps) i)
    all before c (inr i) = in_steps c before (times c (targets_of z.steps)) i (omega arith)

-- one step, whose targets are new
module _ (size : ℕ) (final : Sizes) (room : Roomy size final) (k : Context)
    (twice : CallBoth k.call) (keeps : CallKeeps k.call) (w : Where) where
  -- what its cost counts as read is there
  abbrev pub Reads : State → Cost → Type 0
  Reads f cost =
      (first : Sizes) (before : List ℕ) (x : Emission) (holds : Holds size first before x)
      (roomy : Roomy size (sizes_of x)) → Still (known_in x) f
      → AreRead k twice keeps w f (Ready size first before x holds roomy) cost

  pub told : (first : Sizes) (before : List ℕ) (x : Emission) (holds : Holds size first before x)
      (roomy : Roomy size (sizes_of x)) (f : State) → Still (known_in x) f
      → Told k twice keeps w f (Ready size first before x holds roomy)
  told first before x holds roomy f h = record {
    own = λ n e there p less mark.
        own_ready size first before x holds roomy n e
        (ap (λ xs. entry_at xs n) (sym h.0) ∙ there) p less mark;
    parts = λ j p at_j n e there may i less mark.
        port_ready size first before x holds roomy j p
        (ap (λ (ps : List Part). slice_get ps j) (sym h.1) ∙ at_j) n e there may i less mark;
  }

  pub one_moves : (x y : Emission) (s : State) (cost : Cost) (work : Work) (targets : List ℕ)
      (line : Option (List LogPart)) → Still (known_in x) s → Reads s cost
      → Still (known_in x) (known_in y) → y.cells.own ≡ x.cells.own
      → y.cells.parts ≡ x.cells.parts → y.bodies ≡ x.bodies
      → ((before : List ℕ) → ((n i c : ℕ)
      → slice_index_or (listed x.sources n) i (Constant 0) ≡ Cell c → In c before)
      → (n i c : ℕ) → slice_index_or (listed y.sources n) i (Constant 0) ≡ Cell c
      → In c (before ++ targets))
      → Moves size final x (one_step (step_of k w s cost work targets line x) y)
  one_moves x y s cost work targets line rests reads h own parts bodies sourced fits = (
    sizes,
    (λ less first before holds.
        let roomy : Roomy size (sizes_of x) =
        roomy_less size (sizes_of x) final (less_then _ _ _ sizes.1 less) room in record {
          behind = (
            given_all before (flat_map (cells_of x) (each_once cost.reads))
                (step_reads size first before x holds roomy cost.reads
                (same_reads (Ready size first before x holds roomy) cost.reads
                (reads first before x holds roomy rests))),
            tt,
          );
          holds = moved (before ++ (targets ++ [])) (record {
            sourced = λ n i c e. or_none c before (sourced before holds.sourced n i c e);
            exact = holds.exact;
            owned = λ n e there i inside. (
              (holds.owned n e there i inside).0,
              (holds.owned n e there i inside).1,
              (λ mark input. in_left _ before (targets ++ [])
                  ((holds.owned n e there i inside).2 mark input)),
            );
            part = (holding_more size first before (before ++ (targets ++ [])) _ _ _ _ _ _ _
                (λ c i. in_left c before (targets ++ []) i) holds).part;
            runs_count = holds.runs_count;
            bodies_count = holds.bodies_count;
            covered = holds.covered;
          });
          given = λ c g. given_in c g;
        }),
  )
    where
      sizes : Fits (sizes_of y) × Less (sizes_of x) (sizes_of y)
      sizes = rests_sizes (known_in x) (known_in y) h fits

      given_in : (c : ℕ) → GivenOf x c → GivenOf y c
      given_in c g =
          subst (λ wires. Given (known_in y).frame.signals wires c) (sym own)
          (subst (λ xs. Given xs x.cells.own c) (sym h.0) g)

      given_all : (before : List ℕ) (cs : List ℕ)
          → AllByRecursion (λ c. GivenOf x c ⊎ In c before) cs
          → AllByRecursion (λ c. GivenOf y c ⊎ In c before) cs
      given_all before [] g = tt
      given_all before (c ∷ cs) g = (at g.0, given_all before cs g.1)
        where
          at : GivenOf x c ⊎ In c before → GivenOf y c ⊎ In c before
          at (inl i) = inl (given_in c i)
          at (inr i) = inr i

      same_reads : (T : ℕ → Type 0) (reads : List Read)
          → AllByRecursion (IsRead k twice keeps w s T) reads
          → AllByRecursion (IsRead k twice keeps w s T) reads
      same_reads T reads g = g

      or_none : (c : ℕ) (before : List ℕ) → In c (before ++ targets)
          → In c (before ++ (targets ++ []))
      or_none c before i =
          subst (λ ts. In c (before ++ ts)) (sym (append-nil targets)) i

      moved : (all : List ℕ) {first : Sizes}
          → Holding size first all (known_in x).frame.signals (known_in x).frame.parts
          (sizes_of x) x.cells.own x.cells.parts y.sources x.bodies
          → Holds size first all y
      moved all {first} g =
          subst (λ bs. Holding size first all (known_in y).frame.signals
          (known_in y).frame.parts (sizes_of y) y.cells.own y.cells.parts y.sources bs) (sym bodies)
          (subst (λ rs. Holding size first all (known_in y).frame.signals
          (known_in y).frame.parts (sizes_of y) y.cells.own rs y.sources x.bodies) (sym parts)
          (subst (λ wires. Holding size first all (known_in y).frame.signals
          (known_in y).frame.parts (sizes_of y) wires x.cells.parts y.sources x.bodies) (sym own)
          (rests_holding size first all (known_in x) (known_in y) x.cells.own x.cells.parts
          y.sources x.bodies h g)))

  pub both_reads : (f : State) (a b : Cost) → Reads f a → Reads f b → Reads f (both a b)
  both_reads f a b g h first before x holds roomy rests =
      all_append (IsRead k twice keeps w f (Ready size first before x holds roomy)) a.reads b.reads
      (g first before x holds roomy rests) (h first before x holds roomy rests)

  pub value_told : (f : State) (dark : Bool) (want : Want) (e : Expr Meant) (s : State)
      (x : Datum × State) → Like f s → value_in k w dark want e s ≡ Ok x
      → Reads f (cost_of k w dark e f)
  value_told f dark want e s y l ex first before x holds roomy rests =
      value_reads k twice keeps w f (Ready size first before x holds roomy)
      (told first before x holds roomy f rests) dark want e s y l ex

  -- the indices of a place without members
  pub none_left : (accessors : Accessors Meant) → HasNoMember accessors
      → {A : Type 0} (dark : Bool) (os : List (Option ℕ)) (f s : State)
      (go : List (Option ℕ) → Accessors Meant → State → Tried A) (a : A) → Like f s
      → indices_in k w dark os accessors s go ≡ Ok a
      → Reads f (indices_cost k w dark accessors f) × ((os : List (Option ℕ)) × (s1 : State)
      × Like f s1 × (go os done s1 ≡ Ok a))
  none_left done h dark os f s go a l ex =
      ((λ first before x holds roomy rests. tt), (os, s, l, ex))
  none_left (member name rest) h dark os f s go a l ex = absurd h
  none_left (index e rest) h dark os f s go a l ex =
      let y : (y : Datum × State) × (value_in k w dark Scalar e s ≡ Ok y)
      × (indices_in k w dark (os ++ known_number (the_item y.0) ∷ []) rest y.1 go ≡ Ok a) =
      next_to (value_in k w dark Scalar e s)
      (λ y. indices_in k w dark (os ++ known_number (the_item y.0) ∷ []) rest y.1 go) a ex in
      let l1 : Like f y.0.1 =
      good_is (λ z. Like f z.1) (value_in k w dark Scalar e s) y.0 y.1
      (value_like f k keeps w dark Scalar e s l) in
      let after : Reads f (indices_cost k w dark rest f) × ((os : List (Option ℕ)) × (s1 : State)
      × Like f s1 × (go os done s1 ≡ Ok a)) =
      none_left rest h dark (os ++ known_number (the_item y.0.0) ∷ []) f y.0.1 go a l1 y.2 in (
        both_reads f (cost_of k w dark e f) (indices_cost k w dark rest f)
            (value_told f dark Scalar e s y.0 l y.1) after.0,
        after.1,
      )

pub stays_clear : (f s : State) → Still f s → StaysClear f s
stays_clear f s h ns p = still_clear ns f s h p

module _ (size : ℕ) (final : Sizes) (room : Roomy size final) (q : Emitting)
    (twice : CallBoth q.context.call) (keeps : CallKeeps q.context.call) where
  abbrev pub Good : Emission → Tried Emitted → Type 0
  Good x m = OnGood (Leaf (Moves size final) x) m

  abbrev Told' : Where → State → Cost → Type 0
  Told' w f cost = Reads size final room q.context twice keeps w f cost

  -- a step that changes no variables
  pub silent : (w : Where) (x : Emission) (s : State) (next_cell : ℕ) (cost : Cost) (work : Work)
      (targets : List ℕ) (line : Option (List LogPart)) → Still (known_in x) s
      → Told' w (known_in x) cost
      → Good x (Ok (one_step (step_of q.context w (known_in x) cost work targets line x)
      (record (with_state s x) { next = next_cell })))
  silent w x s next_cell cost work targets line h reads =
      good_ok (Leaf (Moves size final) x) _ (
        one_moves size final room q.context twice keeps w x
            (record (with_state s x) { next = next_cell }) (known_in x) cost work targets line
            (still_itself (known_in x)) reads h refl refl refl
            (λ before sourced n i c e. in_left c before targets (sourced n i c e)),
        stays_clear (known_in x) s h,
      )

  pub equal_leaf : (w : Where) (a b : Expr Meant) (x : Emission) → Good x (emit_equal q w a b x)
  equal_leaf w a b x =
      good_as (Leaf (Moves size final) x) (equal q.context w a b (known_in x)) _ (λ s es.
      silent w x s x.next (equal_cost q.context w a b (known_in x)) _ [] None
      (good_is (Still (known_in x)) (equal q.context w a b (known_in x)) s es
      (equal_still (known_in x) q.context keeps w a b (known_in x) (still_itself (known_in x))))
      (reads s es))
    where
      f : State
      f = known_in x

      reads : (s : State) → equal q.context w a b f ≡ Ok s
          → Told' w f (equal_cost q.context w a b f)
      reads s es =
          let y : (y : Datum × State) × (value_in q.context w false Scalar a f ≡ Ok y)
          × (rest y ≡ Ok s) = next_to (value_in q.context w false Scalar a f) rest s es in
          let z : (z : Datum × State) × (value_in q.context w false Scalar b y.0.1 ≡ Ok z)
          × (last y.0 z ≡ Ok s) =
          next_to (value_in q.context w false Scalar b y.0.1) (last y.0) s y.2 in
          both_reads size final room q.context twice keeps w f
          (cost_of q.context w false a f) (cost_of q.context w false b f)
          (value_told size final room q.context twice keeps w f false Scalar a f y.0
          (like_itself f) y.1)
          (value_told size final room q.context twice keeps w f false Scalar b y.0.1 z.0
          (good_is (λ v. Like f v.1) (value_in q.context w false Scalar a f) y.0 y.1
          (value_like f q.context keeps w false Scalar a f (like_itself f))) z.1)
        where
          last : Datum × State → Datum × State → Tried State
          last y z =
              next (constrained q.context w (the_item y.0) (the_item z.0) z.1)
              (λ s3. stepped q.context w (equal_cost q.context w a b f) 0 s3)

          rest : Datum × State → Tried State
          rest y = next (value_in q.context w false Scalar b y.1) (last y)

  pub assert_leaf : (w : Where) (e : Expr Meant) (x : Emission) → Good x (emit_assert q w e x)
  assert_leaf w e x =
      good_as (Leaf (Moves size final) x) (value_in q.context w false Scalar e (known_in x)) _
      (λ y ey.
      let like : Like (known_in x) y.1 =
      good_is (λ v. Like (known_in x) v.1) (value_in q.context w false Scalar e (known_in x)) y ey
      (value_like (known_in x) q.context keeps w false Scalar e (known_in x)
      (like_itself (known_in x))) in
      good_next (Still (known_in x)) (Leaf (Moves size final) x)
      (assert_value q.context w e (known_in x) (the_item y.0) y.1) _
      (assert_still (known_in x) q.context keeps w e (known_in x) (the_item y.0) y.1
      (still_like (known_in x) (known_in x) y.1 (still_itself (known_in x)) like))
      (λ s h. at (the_item y.0) s h
      (value_told size final room q.context twice keeps w (known_in x) false Scalar e
      (known_in x) y (like_itself (known_in x)) ey)))
    where
      still : (s : State) → Still (known_in x) s → Good x (quiet (with_state s x))
      still s h =
          good_ok (Leaf (Moves size final) x) _
          (moves_still size final x s h, stays_clear (known_in x) s h)

      step : (s : State) → Still (known_in x) s
          → Told' w (known_in x) (cost_of q.context w false e (known_in x))
          → Good x (make_assertion q.context w e s x)
      step s h reads =
          silent w x s x.next (assert_cost q.context w e (known_in x)) _ [] None h reads

      at : (v : Value) (s : State) → Still (known_in x) s
          → Told' w (known_in x) (cost_of q.context w false e (known_in x))
          → Good x (decided v (quiet (with_state s x)) (quiet (with_state s x))
          (make_assertion q.context w e s x))
      at (Known n) s h reads = by (n == 0)
        where
          by : (b : Bool)
              → Good x (cond b (quiet (with_state s x)) (quiet (with_state s x)))
          by true = still s h
          by false = still s h
      at (Linear g) s h reads = step s h reads
      at (Quadratic a b c) s h reads = step s h reads
      at Opaque s h reads = step s h reads

  arguments_told : (w : Where) (f : State) (arguments : List (LogArgument Meant)) (s t : State)
      → Like f s → simple.each (logged q.context w) arguments s ≡ Ok t
      → Told' w f (arguments_cost q.context w arguments f)
  arguments_told w f [] s t l ex = λ first before x holds roomy rests. tt
  arguments_told w f (Words text ∷ rest) s t l ex = arguments_told w f rest s t l ex
  arguments_told w f (LogValue e ∷ rest) s t l ex =
      let a : (s1 : State) × (logged q.context w (LogValue e) s ≡ Ok s1)
      × (simple.each (logged q.context w) rest s1 ≡ Ok t) =
      next_to (logged q.context w (LogValue e) s) (simple.each (logged q.context w) rest) t ex in
      let y : (y : Datum × State) × (value_in q.context w false Scalar e s ≡ Ok y)
      × (left y ≡ Ok a.0) = next_to (value_in q.context w false Scalar e s) left a.0 a.1 in
      let same : y.0.1 ≡ a.0 = let both : Ok y.0.1 ≡ Ok a.0 = y.2 in cc in
      let l1 : Like f y.0.1 =
      good_is (λ v. Like f v.1) (value_in q.context w false Scalar e s) y.0 y.1
      (value_like f q.context keeps w false Scalar e s l) in
      both_reads size final room q.context twice keeps w f (cost_of q.context w false e f)
      (arguments_cost q.context w rest f)
      (value_told size final room q.context twice keeps w f false Scalar e s y.0 l y.1)
      (arguments_told w f rest a.0 t (subst (Like f) same l1) a.2)
    where
      left : Datum × State → Tried State
      left y = Ok y.1

  pub line_leaf : (w : Where) (arguments : List (LogArgument Meant)) (x : Emission)
      → Good x (emit_log q w arguments x)
  line_leaf w arguments x =
      good_as (Leaf (Moves size final) x) (log_values q.context w arguments (known_in x)) _
      (λ s es.
      silent w x s (x.next + logged_cells arguments)
      (log_cost q.context w arguments (known_in x)) _ _ _
      (good_is (Still (known_in x)) (log_values q.context w arguments (known_in x)) s es
      (log_still (known_in x) q.context keeps w arguments (known_in x)
      (still_itself (known_in x))))
      (reads s es))
    where
      reads : (s : State) → log_values q.context w arguments (known_in x) ≡ Ok s
          → Told' w (known_in x) (log_cost q.context w arguments (known_in x))
      reads s es =
          let a : (t : State) × (simple.each (logged q.context w) arguments (known_in x) ≡ Ok t)
          × (stepped q.context w (log_cost q.context w arguments (known_in x))
          (logged_cells arguments) t ≡ Ok s) =
          next_to (simple.each (logged q.context w) arguments (known_in x))
          (stepped q.context w (log_cost q.context w arguments (known_in x))
          (logged_cells arguments)) s es in
          arguments_told w (known_in x) arguments (known_in x) a.0 (like_itself (known_in x)) a.1

  -- an assignment to a variable
  assignment_told : (w : Where) (n : ℕ) (accessors : Accessors Meant) (e : Expr Meant) (f : State)
      (a : VariableAssignment) → HasNoMember accessors
      → variable_assignment q.context w n accessors e f ≡ Ok a
      → Like f a.state × Told' w f (value_cost q.context w accessors e f)
  assignment_told w n accessors e f a none ex =
      let y : (y : Datum × State) × (value_in q.context w false Whole e f ≡ Ok y)
      × (rest y ≡ Ok a) = next_to (value_in q.context w false Whole e f) rest a ex in
      let l1 : Like f y.0.1 =
      good_is (λ v. Like f v.1) (value_in q.context w false Whole e f) y.0 y.1
      (value_like f q.context keeps w false Whole e f (like_itself f)) in
      let z : Told' w f (indices_cost q.context w false accessors f)
      × ((os : List (Option ℕ)) × (s1 : State) × Like f s1 × (put y.0 os done s1 ≡ Ok a)) =
      none_left size final room q.context twice keeps w accessors none false [] f y.0.1
      (put y.0) a l1 y.2 in
      let r : (r : Reach) × (reach w false Whole (variable_at z.1.1.frame n).dims z.1.0 ≡ Ok r)
      × (last y.0 z.1.1 r ≡ Ok a) =
      next_to (reach w false Whole (variable_at z.1.1.frame n).dims z.1.0) (last y.0 z.1.1) a
      z.1.3 in
      let at_end : (same_dims r.0.left y.0.0.dims ≡ true)
      × (Ok record { value = y.0.0; reach = r.0; state = z.1.1 } ≡ Ok a) =
      needed_to (same_dims r.0.left y.0.0.dims) w ShapeDiffers _ a r.2 in
      let same : record { value = y.0.0; reach = r.0; state = z.1.1 } ≡ a =
      same_ok record { value = y.0.0; reach = r.0; state = z.1.1 } a at_end.1 in (
        subst (λ (b : VariableAssignment). Like f b.state) same z.1.2,
        both_reads size final room q.context twice keeps w f (cost_of q.context w false e f)
            (indices_cost q.context w false accessors f)
            (value_told size final room q.context twice keeps w f false Whole e f y.0
            (like_itself f) y.1) z.0,
      )
    where
      last : Datum × State → State → Reach → Tried VariableAssignment
      last y s2 r =
          needed (same_dims r.left y.0.dims) w ShapeDiffers
          (Ok record { value = y.0; reach = r; state = s2 })

      put : Datum × State → List (Option ℕ) → Accessors Meant → State → Tried VariableAssignment
      put y indices more s2 =
          next (reach w false Whole (variable_at s2.frame n).dims indices) (last y s2)

      rest : Datum × State → Tried VariableAssignment
      rest y = indices_in q.context w false [] accessors y.1 (put y)

  old_told : (w : Where) (f : State) (T : ℕ → Type 0) (n : ℕ) (a : VariableAssignment)
      → AllByRecursion (IsRead q.context twice keeps w f T) (old_reads n a)
  old_told w f T n a = by a.reach.is_sure
    where
      by : (b : Bool) → AllByRecursion (IsRead q.context twice keeps w f T)
          (cond b [] (unknown_at n (variable_at a.state.frame n)
          (numbers_from 0 (elements (variable_at a.state.frame n).dims))))
      by true = tt
      by false =
          all_map (IsRead q.context twice keeps w f T) (λ p. Element n p)
          (filter (λ p. not (is_known (item_at (variable_at a.state.frame n).items p)))
          (numbers_from 0 (elements (variable_at a.state.frame n).dims))) (λ p. tt)

  pub set_leaf : (w : Where) (written : Assign Meant) (n : ℕ) (accessors : Accessors Meant)
      (e : Expr Meant) (x : Emission) → HasNoMember accessors
      → Good x (emit_set_variable q w written n accessors e x)
  set_leaf w written n accessors e x none =
      good_as (Leaf (Moves size final) x)
      (variable_assignment q.context w n accessors e (known_in x)) _ (λ a ea.
      good_next (Still (known_in x)) (Leaf (Moves size final) x)
      (set_variable q.context w written n accessors e (known_in x)) _
      set_rests (λ s h. at a s h (assignment_told w n accessors e (known_in x) a none ea).1
      (is_unknown n a)))
    where
      set_rests : OnGood (Still (known_in x))
          (set_variable q.context w written n accessors e (known_in x))
      set_rests =
          good_as (Still (known_in x))
          (variable_assignment q.context w n accessors e (known_in x)) _ (λ a ea.
          behind_still (known_in x) q.context keeps w
          (variable_cost q.context w written n accessors e a (known_in x)) (new_cells n a) n a
          (is_unknown n a)
          (still_like (known_in x) (known_in x) a.state (still_itself (known_in x))
          (assignment_told w n accessors e (known_in x) a none ea).0))

      reads : (a : VariableAssignment)
          → Told' w (known_in x) (value_cost q.context w accessors e (known_in x))
          → Told' w (known_in x) (variable_cost q.context w written n accessors e a (known_in x))
      reads a h first before y holds roomy rests =
          all_append (IsRead q.context twice keeps w (known_in x)
          (Ready size first before y holds roomy))
          (value_cost q.context w accessors e (known_in x)).reads (old_reads n a)
          (h first before y holds roomy rests)
          (old_told w (known_in x) (Ready size first before y holds roomy) n a)

      at : (a : VariableAssignment) (s : State) → Still (known_in x) s
          → Told' w (known_in x) (value_cost q.context w accessors e (known_in x)) → (b : Bool)
          → Good x (cond b (make_assignment q.context w written n accessors e a s x)
          (quiet (with_state s x)))
      at a s h told true =
          good_ok (Leaf (Moves size final) x) _ (
            one_moves size final room q.context twice keeps w x
                (with_cells n (new_places n a) s x) (known_in x)
                (variable_cost q.context w written n accessors e a (known_in x)) _
                (numbers_from x.next (length (new_places n a))) None
                (still_itself (known_in x)) (reads a told) h refl refl refl
                (λ before sourced.
                sources_put (λ c. In c (before ++ numbers_from x.next (length (new_places n a))))
                n _ x.sources
                (items_put (λ c. In c (before ++ numbers_from x.next (length (new_places n a))))
                (new_places n a) (numbers_from x.next (length (new_places n a))) _
                (right before (numbers_from x.next (length (new_places n a)))
                (numbers_from x.next (length (new_places n a)))
                (numbers_in x.next (length (new_places n a))))
                (settled_told (λ c. In c (before ++ numbers_from x.next (length (new_places n a))))
                s x n (λ m i c e. in_left c before _ (sourced m i c e))))
                (λ m i c e. in_left c before _ (sourced m i c e))),
            stays_clear (known_in x) s h,
          )
        where
          right : (before cs ds : List ℕ) → AllByRecursion (λ c. In c cs) ds
              → AllByRecursion (λ c. In c (before ++ cs)) ds
          right before cs [] g = tt
          right before cs (d ∷ ds) g = (in_right d before cs g.0, right before cs ds g.1)
      at a s h told false =
          good_ok (Leaf (Moves size final) x) _
          (moves_still size final x s h, stays_clear (known_in x) s h)
