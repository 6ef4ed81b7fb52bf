-- The signals of a body, and of the components in it, have a cell for each of their elements; and
-- the numbers of the groups are theirs.
use Rattle.std.proofs.Common.{◌≡◌, ℕ, zero, suc, ◌+◌, ◌≤◌, ◌<◌, Bool, true, false, cond, List, []}
use Rattle.std.proofs.Common.{◌∷◌, ◌++◌, length, replicate, Option, Some, None, Ok, Err, refl, sym}
use Rattle.std.proofs.Common.{ap, subst, ◌∙◌, slice_get, nat_eq, arith}
use Rattle.std.specs.Prelude.{nat_lt, ◌&&◌}
use Rattle.std.proofs.lemmas.Bool.{ltb-true}
use Rattle.cir_ast.specs.declared.program.Spot.{Spot}
use Rattle.cir_ast.specs.declared.operators.Direction.{Direction}
use Rattle.cir_ast.specs.declared.operators.Arrow.{Arrow}
use Rattle.cir_ast.specs.declared.program.Meant.{Meant}
use Rattle.cir_meaning.proofs.Likes.{CallKeeps}
use Rattle.cir_ast.specs.Program.{Template}
use Rattle.cir_ast.specs.Tree.{Expr, Accessors, Assign}
use Rattle.cir_meaning.specs.Tried.{Where, Tried, next}
use Rattle.cir_meaning.specs.Places.{elements}
use Rattle.cir_meaning.specs.Limits.{count_sum}
use Rattle.cir_meaning.specs.Arrays.{Datum}
use Rattle.cir_meaning.specs.Frame.{SignalEntry, Signals, Part, Group, Sizes, World, State, Context}
use Rattle.cir_meaning.specs.Frame.{entry_at, put_at, is_input, before_group, size_in, more_in}
use Rattle.cir_meaning.specs.Writing.{signals_of, part_signals, with_part_signals, marked}
use Rattle.cir_meaning.specs.Writing.{SignalAssignment}
use Rattle.cir_meaning.specs.Declaring.{declare_signal, new_signal, opened, Creation}
use Rattle.cir_meaning.specs.Simple.{set_signal}
use Rattle.cir_meaning.specs.Bodies.{ended, all_written, all_fed}
use Rattle.cir_meaning.specs.Run.{Wires, RunPart}
use Rattle.cir_meaning.specs.RunSimple.{waiting}
use Rattle.cir_meaning.specs.RunBodies.{or_else, port_tables}
use Rattle.cir_meaning.proofs.Good.{good_is}
use Rattle.cir_meaning.proofs.PartWrites.{set_count}
use Rattle.cir_meaning.proofs.Creating.{one_longer, opened_shapes, opened_shapes_back}
use Rattle.cir_meaning.proofs.GroupSizes.{Less, Fits, less_itself, less_then, more_less, more_fits}
use Rattle.cir_meaning.proofs.GroupSizes.{more_here}
use Rattle.cir_meaning.proofs.Weights.{inside, cover, cover_entries, cover_tables, cover_put, under}
use Rattle.cir_meaning.proofs.Weights.{under_more, Bounded, bounded_before, sum_exact}
use Rattle.cir_meaning.proofs.PartWeights.{same_cover}
use Rattle.cir_meaning.proofs.NewSignals.{new_exact}
use Rattle.cir_steps.specs.Step.{Step}
use Rattle.cir_steps.specs.Emission.{Emission, Emitted, known_in, with_state, made_elements}
use Rattle.cir_steps.specs.Emission.{put_signal, with_signal}
use Rattle.cir_steps.specs.Making.{Cast, Emitting}
use Rattle.cir_steps.specs.Emit.{make_wiring}
use Rattle.cir_steps.specs.Statements.{emit_begun}
use Rattle.cir_steps.proofs.Still.{Still}
use Rattle.cir_steps.proofs.Walk.{ClearFrom, IsFresh}
use Rattle.cir_steps.proofs.Casting.{blank_at, Written, with_element, set_signal_written, cast_made}
use Rattle.cir_steps.proofs.Casting.{Bodies}
use Rattle.cir_steps.proofs.OwnCells.{is_element, declared_have, own_element}
use Rattle.cir_steps.proofs.Housing.{Celled, AreCelled, celled_more, PartsCelled, parts_celled}
use Rattle.cir_steps.proofs.Housing.{parts_celled_more, parts_celled_last, tables_last, with_part}
use Rattle.cir_steps.proofs.Housing.{parts_celled_set, tables_set, cover_marked, opened_have}

none_covered : (m count : ℕ) → cover_entries m (replicate count None) ≡ 0
none_covered m zero = refl
none_covered m (suc count) = none_covered m count

-- a body that began with some sizes and a first cell
pub record Housed (size : ℕ) (before : Sizes) (start : ℕ) (signals : Signals) (parts : List Part)
    (sizes : Sizes) (own : Wires) (rs : List RunPart) (last : ℕ) : Type 0 where
  pub celled : Celled last record { signals = signals; wires = own }
  pub count : length parts ≡ length rs
  pub inside : PartsCelled last parts rs
  pub fits : Fits sizes
  pub grown : Less before sizes
  pub made : start ≤ last
  pub covers : Bounded sizes → (m : ℕ)
      → under size sizes m ≤ cover_entries m signals + (cover_tables m (port_tables parts rs)
      + under size before m)

-- what a body gives
pub record Homed (size : ℕ) (start : ℕ) (before : Sizes) (z : Signals × World) (o : Cast) : Type 0
  where
    pub celled : Celled o.next record { signals = z.0; wires = o.own }
    pub inside : AreCelled o.next o.inside
    pub fits : Fits z.1.sizes
    pub grown : Less before z.1.sizes
    pub made : start ≤ o.next
    pub covers : Bounded z.1.sizes → (m : ℕ)
        → under size z.1.sizes m ≤ cover_entries m z.0 + (cover_tables m o.inside
        + under size before m)

module _ (size : ℕ) where
  abbrev HousedAt : Sizes → (start : ℕ) → State → Wires → List RunPart → (last : ℕ) → Type 0
  HousedAt before start s own rs last =
      Housed size before start s.frame.signals s.frame.parts s.world.sizes own rs last

  abbrev pub HousedIn : Sizes → (start : ℕ) → Emission → Type 0
  HousedIn before start x =
      HousedAt before start (known_in x) x.cells.own x.cells.parts x.next

  abbrev pub StaysHoused : Emission → Emitted → Type 0
  StaysHoused x y =
      (before : Sizes) (start : ℕ) → HousedIn before start x → HousedIn before start y.state

  abbrev pub GivesHomes : (start : ℕ) → World → Signals × World → Cast → Type 0
  GivesHomes start world z o = Fits world.sizes → Homed size start world.sizes z o

  housed_still : (before : Sizes) (start : ℕ) (f s : State) (own : Wires) (rs : List RunPart)
      (last : ℕ) → Still f s → HousedAt before start f own rs last
      → HousedAt before start s own rs last
  housed_still before start f s own rs last l h =
      subst (λ xs. Housed size before start xs s.frame.parts s.world.sizes own rs last) (sym l.0)
      (subst (λ ps. Housed size before start f.frame.signals ps s.world.sizes own rs last)
      (sym l.1)
      (subst (λ sizes. Housed size before start f.frame.signals f.frame.parts sizes own rs last)
      (sym l.2) h))

  housed_more : (before : Sizes) (start : ℕ) (s : State) (own : Wires) (rs : List RunPart)
      (last more : ℕ) → last ≤ more → HousedAt before start s own rs last
      → HousedAt before start s own rs more
  housed_more before start s own rs last more less h =
      let made : start ≤ last = h.made in record {
        celled = celled_more last more record { signals = s.frame.signals; wires = own } less
            h.celled;
        count = h.count;
        inside = parts_celled_more last more s.frame.parts rs less h.inside;
        fits = h.fits;
        grown = h.grown;
        made = omega arith;
        covers = h.covers;
      }

  fresh_housed : (x y : Emission) (step : Step) → IsFresh x y step
      → StaysHoused x record { state = y; steps = step ∷ [] }
  fresh_housed x y step f before start h =
      subst (λ w. HousedAt before start (known_in y) w y.cells.parts y.next) (sym f.own)
      (subst (λ rs. HousedAt before start (known_in y) x.cells.own rs y.next) (sym f.parts)
      (subst (λ (n : ℕ). HousedAt before start (known_in y) x.cells.own x.cells.parts n)
      (sym f.next)
      (housed_more before start (known_in y) x.cells.own x.cells.parts x.next (x.next + f.count)
      (omega arith)
      (housed_still before start (known_in x) (known_in y) x.cells.own x.cells.parts x.next
      f.still h))))

  -- a signal that is declared
  declared_covers : (k : Context) → k.group_size ≡ size → (spot : Spot) (d : Direction) (n : ℕ)
      (name dims : List ℕ) (world : World) (xs : Signals) → entry_at xs n ≡ None
      → Bounded (more_in (k.group d name) (elements dims) world.sizes) → (m : ℕ)
      → under size (more_in (k.group d name) (elements dims) world.sizes) m
      + cover_entries m xs
      ≡ under size world.sizes m
      + cover_entries m (put_at n (new_signal k spot d name dims world) xs)
  declared_covers k sized spot d n name dims world xs none few m =
      let entry : SignalEntry = new_signal k spot d name dims world in
      let g : Group = k.group d name in
      let now : size_in g (more_in g (elements dims) world.sizes)
      ≡ count_sum (size_in g world.sizes) (elements dims) =
      more_here g (elements dims) world.sizes in
      let sum : count_sum (size_in g world.sizes) (elements dims)
      ≡ size_in g world.sizes + elements dims =
      sum_exact (size_in g world.sizes) (elements dims)
      (subst (λ (i : ℕ). i ≤ 1048576) now (few g)) in
      let all : size_in g world.sizes + elements dims ≤ 1048576 =
      subst (λ (i : ℕ). i ≤ 1048576) (now ∙ sum) (few g) in
      let count : length entry.written ≡ elements dims =
      new_exact dims (is_input d) (omega arith) in
      let more : under size (more_in g (elements dims) world.sizes) m
      ≡ under size world.sizes m
      + inside m (1 + before_group size g + size_in g world.sizes) (elements dims) =
      under_more size g (elements dims) world.sizes m sum in
      let new : cover m entry
      ≡ inside m (1 + before_group size g + size_in g world.sizes) (elements dims) =
      ap (λ (i : ℕ). inside m entry.first i) count
      ∙ ap (λ (i : ℕ). inside m (1 + before_group i g + size_in g world.sizes) (elements dims))
      sized in
      let put : cover_entries m (put_at n entry xs) ≡ cover_entries m xs + cover m entry =
      cover_put m n entry xs none in
      joined (under size (more_in g (elements dims) world.sizes) m) (under size world.sizes m)
      (inside m (1 + before_group size g + size_in g world.sizes) (elements dims))
      (cover_entries m xs) (cover m entry) (cover_entries m (put_at n entry xs)) more new put
    where
      joined : (a b i c e f : ℕ) → a ≡ b + i → e ≡ i → f ≡ c + e → a + c ≡ b + f
      joined a b i c e f x y z = omega arith

  put_below : (n first count last : ℕ) (own : Wires)
      → ((m k c : ℕ) → own m k ≡ Some c → c < first)
      → first + count ≡ last
      → (m k c : ℕ) → put_signal n first count own m k ≡ Some c → c < last
  put_below n first count last own below end m k c =
      at (own m k) refl (nat_eq n m && nat_lt k count) refl
    where
      at : (o : Option ℕ) → own m k ≡ o → (b : Bool) → (nat_eq n m && nat_lt k count) ≡ b
          → or_else o (cond b (Some (first + k)) None) ≡ Some c → c < last
      at (Some d) is b t e =
          let same : d ≡ c = cc in
          let less : c < first =
          subst (λ (i : ℕ). i < first) same (below m k d is) in omega arith
      at None is true t e =
          let same : first + k ≡ c = cc in
          let less : k < count = ltb-true k count (right (nat_eq n m) t) in omega arith
        where
          right : (a : Bool) → (a && nat_lt k count) ≡ true → nat_lt k count ≡ true
          right true h = h
          right false h = cc
      at None is false t e = cc

  declared_housed : (k : Context) → k.group_size ≡ size → (spot : Spot) (d : Direction) (n : ℕ)
      (name dims : List ℕ) (x : Emission) → ClearFrom n (known_in x).frame.signals
      → StaysHoused x record {
        state = with_signal n (made_elements dims)
            (with_state (declare_signal k spot d n name dims (known_in x)) x);
        steps = [];
      }
  declared_housed k sized spot d n name dims x clear before start h = record {
    celled = record {
      have = declared_have k spot d n name dims x (clear n (omega arith)) h.celled.have;
      below = put_below n x.next (made_elements dims) (x.next + made_elements dims) x.cells.own
          h.celled.below refl;
    };
    count = h.count;
    inside = parts_celled_more x.next (x.next + made_elements dims) (known_in x).frame.parts
        x.cells.parts (omega arith) h.inside;
    fits = more_fits (k.group d name) (elements dims) (known_in x).world.sizes h.fits;
    grown = less_then before (known_in x).world.sizes
        (more_in (k.group d name) (elements dims) (known_in x).world.sizes) h.grown
        (more_less (k.group d name) (elements dims) (known_in x).world.sizes h.fits);
    made = (let made : start ≤ x.next = h.made in omega arith);
    covers = λ few m.
        let old : under size (known_in x).world.sizes m
        ≤ cover_entries m (known_in x).frame.signals
        + (cover_tables m (port_tables (known_in x).frame.parts x.cells.parts)
        + under size before m) =
        h.covers (bounded_before (known_in x).world.sizes
        (more_in (k.group d name) (elements dims) (known_in x).world.sizes)
        (more_less (k.group d name) (elements dims) (known_in x).world.sizes h.fits) few) m in
        let new : under size
        (more_in (k.group d name) (elements dims) (known_in x).world.sizes) m
        + cover_entries m (known_in x).frame.signals ≡ under size (known_in x).world.sizes m
        + cover_entries m (put_at n (new_signal k spot d name dims (known_in x).world)
        (known_in x).frame.signals) =
        declared_covers k sized spot d n name dims (known_in x).world
        (known_in x).frame.signals (clear n (omega arith)) few m in
        joined _ _ _ _ _ _ old new;
  }
    where
      joined : (a b c e f g : ℕ) → a ≤ b + (c + e) → f + b ≡ a + g → f ≤ g + (c + e)
      joined a b c e f g x y = omega arith

  -- a write of signals
  module _ (before : Sizes) (start : ℕ) (own : Wires) (rs : List RunPart) (last : ℕ) where
    abbrev Goes : State → State → Type 0
    Goes f s = HousedAt before start f own rs last → HousedAt before start s own rs last

    own_housed : (n place : ℕ) (e : SignalEntry) (s : State)
        → entry_at s.frame.signals n ≡ Some e
        → HousedAt before start s own rs last
        → Housed size before start (put_at n (marked e place) s.frame.signals) s.frame.parts
        s.world.sizes own rs last
    own_housed n place e s there h = record {
      celled = record {
        have = own_element own n place e s.frame.signals there h.celled.have;
        below = h.celled.below;
      };
      count = h.count;
      inside = h.inside;
      fits = h.fits;
      grown = h.grown;
      made = h.made;
      covers = λ few m.
          subst (λ (c : ℕ). under size s.world.sizes m ≤ c
          + (cover_tables m (port_tables s.frame.parts rs) + under size before m))
          (sym (cover_marked m n place e s.frame.signals there)) (h.covers few m);
    }

    part_housed : (j n place : ℕ) (e : SignalEntry) (s : State) (o : Option Part)
        → slice_get s.frame.parts j ≡ o → entry_at (part_signals o) n ≡ Some e
        → HousedAt before start s own rs last
        → HousedAt before start (record s {
          frame = with_part_signals j (put_at n (marked e place) (part_signals o)) o
              s.frame;
        }) own rs last
    part_housed j n place e s None is there h = h
    part_housed j n place e s (Some p) is there h = record {
      celled = h.celled;
      count = set_count s.frame.parts j
          (with_part p (put_at n (marked e place) p.signals)) ∙ h.count;
      inside = parts_celled_set last j p (put_at n (marked e place) p.signals) s.frame.parts rs is
          (λ wires g. own_element wires n place e p.signals there g) h.inside;
      fits = h.fits;
      grown = h.grown;
      made = h.made;
      covers = λ few m.
          subst (λ (c : ℕ). under size s.world.sizes m ≤ cover_entries m s.frame.signals
          + (c + under size before m))
          (sym (tables_set m j p (put_at n (marked e place) p.signals) s.frame.parts rs is
          (cover_marked m n place e p.signals there))) (h.covers few m);
    }

    element_housed : (part : Option ℕ) (n place : ℕ) (e : SignalEntry) (s : State)
        → entry_at (signals_of part s.frame) n ≡ Some e → Goes s (with_element part n place e s)
    element_housed None n place e s there h = own_housed n place e s there h
    element_housed (Some j) n place e s there h =
        part_housed j n place e s (slice_get s.frame.parts j) refl there h

    write_housed : Written Goes
    write_housed = record {
      still = λ f s l h. housed_still before start f s own rs last l h;
      element = element_housed;
      joins = λ f s t g i h. i (g h);
    }

  -- behind a write the state alone is another
  abbrev answer : Emission → State → List Step → Tried Emitted
  answer x s steps = Ok record { state = with_state s x; steps = steps }

  state_of : (x : Emission) (s : State) (steps : List Step) (y : Emitted)
      → answer x s steps ≡ Ok y → with_state s x ≡ y.state
  state_of x s steps y h =
      let same : record { state = with_state s x; steps = steps } ≡ y = cc in
      ap (λ (z : Emitted). z.state) same

  wiring_state : (q : Emitting) (w : Where) (written : Assign Meant) (accessors : Accessors Meant)
      (e : Expr Meant) (b : SignalAssignment) (s : State) (places : List ℕ) (x : Emission)
      (y : Emitted) → make_wiring q w written accessors e b s places x ≡ Ok y
      → with_state s x ≡ y.state
  wiring_state q w written accessors e b s [] x y made = state_of x s [] y made
  wiring_state q w written accessors e b s (place ∷ places) x y made = state_of x s _ y made

  wiring_housed : (q : Emitting) (calls : CallKeeps q.context.call) (w : Where)
      (written : Assign Meant) (m : Meant) (accessors : Accessors Meant) (a : Arrow)
      (e : Expr Meant) (x : Emission) (b : SignalAssignment) (s : State) (y : Emitted)
      → set_signal q.context w written m accessors a e (known_in x) ≡ Ok s
      → make_wiring q w written accessors e b s b.target.reach.places x ≡ Ok y
      → StaysHoused x y
  wiring_housed q calls w written m accessors a e x b s y set made before start h =
      subst (HousedIn before start)
      (wiring_state q w written accessors e b s b.target.reach.places x y made)
      (good_is (Goes before start x.cells.own x.cells.parts x.next (known_in x))
      (set_signal q.context w written m accessors a e (known_in x)) s set
      (set_signal_written (Goes before start x.cells.own x.cells.parts x.next)
      (write_housed before start x.cells.own x.cells.parts x.next) q.context w calls written m
      accessors a e (known_in x)) h)

  -- a component that is created
  creating_housed : (q : Emitting) (w : Where) (c : Creation) (place : ℕ) (a : Signals × World)
      (o : Cast) (x : Emission) → Still (known_in x) c.state
      → GivesHomes x.next c.state.world a o → StaysHoused x (cast_made q w c place a o x)
  creating_housed q w c place a o x still gives before start h =
      made (housed_still before start (known_in x) c.state x.cells.own x.cells.parts x.next still h)
    where
      part : Part
      part = record { spot = w.spot; template = c.template; signals = opened a.0 }

      run : RunPart
      run = record (waiting q.context w c) { ports = o.own; inside = o.inside }

      made : HousedAt before start c.state x.cells.own x.cells.parts x.next
          → Housed size before start c.state.frame.signals (c.state.frame.parts ++ part ∷ [])
          a.1.sizes x.cells.own (x.cells.parts ++ run ∷ []) o.next
      made g =
          let homed : Homed size x.next c.state.world.sizes a o = gives g.fits in
          let first : start ≤ x.next = g.made in
          let more : x.next ≤ o.next = homed.made in record {
            celled = celled_more x.next o.next
                record { signals = c.state.frame.signals; wires = x.cells.own } more g.celled;
            count = one_longer c.state.frame.parts part ∙ ap (λ (n : ℕ). suc n) g.count
                ∙ sym (one_longer x.cells.parts run);
            inside = parts_celled_last o.next c.state.frame.parts x.cells.parts part run g.count
                (parts_celled_more x.next o.next c.state.frame.parts x.cells.parts more g.inside)
                record {
                  have = opened_have a.0 o.own homed.celled.have;
                  below = homed.celled.below;
                } homed.inside;
            fits = homed.fits;
            grown = less_then before c.state.world.sizes a.1.sizes g.grown homed.grown;
            made = omega arith;
            covers = λ few m.
                let new : under size a.1.sizes m ≤ cover_entries m a.0
                + (cover_tables m o.inside + under size c.state.world.sizes m) =
                homed.covers few m in
                let old : under size c.state.world.sizes m
                ≤ cover_entries m c.state.frame.signals
                + (cover_tables m (port_tables c.state.frame.parts x.cells.parts)
                + under size before m) =
                g.covers (bounded_before c.state.world.sizes a.1.sizes homed.grown few) m in
                let all : cover_tables m (port_tables (c.state.frame.parts ++ part ∷ [])
                (x.cells.parts ++ run ∷ []))
                ≡ cover_tables m (port_tables c.state.frame.parts x.cells.parts)
                + (cover_entries m (opened a.0) + cover_tables m o.inside) =
                tables_last m c.state.frame.parts x.cells.parts part run g.count in
                let same : cover_entries m a.0 ≡ cover_entries m (opened a.0) =
                same_cover m a.0 (opened a.0) (opened_shapes a.0) (opened_shapes_back a.0) in
                omega arith;
          }

  -- the end of a body
  ends_homed : (k : Context) (t : Template) (ds : List Datum) (path : List ℕ) (world : World)
      (start : ℕ) (y : Emitted) (z : Signals × World)
      → StaysHoused (emit_begun t ds path world start) y → ended k (known_in y.state) ≡ Ok z
      → GivesHomes start world z record {
        own = y.state.cells.own;
        inside = port_tables (known_in y.state).frame.parts y.state.cells.parts;
        steps = y.steps;
        next = y.state.next;
      }
  ends_homed k t ds path world start y z h is fits =
      subst (λ x. Homed size start world.sizes x its)
      (at (all_written k (known_in y.state).frame.signals)
      (all_fed k (known_in y.state).frame.parts) is)
      (given (h world.sizes start begun))
    where
      its : Cast
      its = record {
        own = y.state.cells.own;
        inside = port_tables (known_in y.state).frame.parts y.state.cells.parts;
        steps = y.steps;
        next = y.state.next;
      }

      begun : HousedIn world.sizes start (emit_begun t ds path world start)
      begun = record {
        celled = record {
          have = λ n i. ap (λ o. is_element o i) (sym (blank_at t.signals n));
          below = λ n i c there. cc;
        };
        count = refl;
        inside = tt;
        fits = fits;
        grown = less_itself world.sizes;
        made = omega arith;
        covers = λ few m. (
            let none : cover_entries m (replicate t.signals None) ≡ 0 = none_covered m t.signals in
            omega arith);
      }

      given : HousedIn world.sizes start y.state
          → Homed size start world.sizes (
            (known_in y.state).frame.signals,
            (known_in y.state).world,
          ) its
      given g = record {
        celled = g.celled;
        inside = parts_celled y.state.next (known_in y.state).frame.parts y.state.cells.parts
            g.inside;
        fits = g.fits;
        grown = g.grown;
        made = g.made;
        covers = g.covers;
      }

      at : (a c : Tried (Unit {0}))
          → next a (λ v. next c (λ w. Ok (
            (known_in y.state).frame.signals,
            (known_in y.state).world,
          ))) ≡ Ok z → ((known_in y.state).frame.signals, (known_in y.state).world) ≡ z
      at (Ok a) (Ok c) e = cc
      at (Ok a) (Err f) e = cc
      at (Err f) c e = cc

  pub all_cells : Bodies size StaysHoused GivesHomes
  all_cells = record {
    keeps = record {
      still = λ x s l before start h.
          housed_still before start (known_in x) s x.cells.own x.cells.parts x.next l.0 h;
      joins = λ x y z h g before start i. g before start (h before start i);
    };
    fresh = fresh_housed;
    declared = declared_housed;
    wiring = λ q calls w written m accessors a e x b s y is set made.
        wiring_housed q calls.keeps w written m accessors a e x b s y set made;
    creating = λ q w c place a o x moves given.
        creating_housed q w c place a o x moves.0 given;
    ends = λ k t ds path world start y z h sized empty is.
        ends_homed k t ds path world start y z h is;
  }
