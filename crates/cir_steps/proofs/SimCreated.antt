-- A creation in a run beside its steps.
use Rattle.std.proofs.Common.{◌≡◌, ◌≢◌, ◌⊎◌, inl, inr, ℕ, suc, true, false, cond, List, [], ◌∷◌}
use Rattle.std.proofs.Common.{◌++◌, length, Option, Some, Ok, Err, refl, sym, ap, subst, ◌∙◌}
use Rattle.std.proofs.Common.{slice_get}
use Rattle.std.proofs.lemmas.Bool.{ne_eqb, eq-eqb}
use Rattle.cir_ast.specs.declared.program.Meant.{Meant}
use Rattle.cir_ast.specs.declared.program.Meant.TheVariants as meant
use Rattle.cir_ast.specs.declared.refusal.Kind.TheVariants.{UnknownIndex, ReadBeforeWrite}
use Rattle.cir_ast.specs.Tree.{Expr, Number, Place, Call, Anonymous, Parentheses, Array, Unary}
use Rattle.cir_ast.specs.Tree.{Binary, Choice, Exprs, none, more, Accessors, done, index, member}
use Rattle.cir_meaning.specs.Tried.{Where, Tried, next, found}
use Rattle.std.specs.List.{AllByRecursion}
use Rattle.cir_meaning.specs.Places.{all_known}
use Rattle.cir_meaning.specs.Arrays.{Datum, Scalar, Whole, reach, is_all_known}
use Rattle.cir_meaning.specs.Evaluate.{value_in, arguments_in, indices_in}
use Rattle.cir_meaning.specs.Frame.{Part, World, State, Context, entry_at, is_fed}
use Rattle.cir_meaning.specs.Declaring.{Creation, template_call, creation, create, create_each}
use Rattle.cir_meaning.specs.Declaring.{create_at, opened, path_of}
use Rattle.cir_meaning.specs.Run.{Wires, RunPart, Run}
use Rattle.cir_meaning.specs.RunSimple as run
use Rattle.cir_meaning.specs.RunSimple.{Runner, started, started_at, waiting}
use Rattle.cir_meaning.proofs.Good.{OnGood, good_ok, good_bad, good_next, good_on, good_needed_as}
use Rattle.cir_meaning.proofs.Good.{good_is}
use Rattle.cir_meaning.proofs.Likes.{CallKeeps, Like, like_itself}
use Rattle.cir_meaning.proofs.Creating.{get_more, get_last, get_either, get_below, one_longer}
use Rattle.cir_meaning.proofs.Creating.{creation_like, Created, create_at_is}
use Rattle.cir_steps.specs.Running.{Wired}
use Rattle.cir_steps.specs.RunSteps.{Calling, Progress, run_steps}
use Rattle.cir_steps.specs.Emission.{Emission, Emitted, behind, quiet, with_state}
use Rattle.cir_steps.specs.Making.{Cast, Caster, freed, freed_at, with_cast}
use Rattle.cir_steps.specs.Emit as emit
use Rattle.cir_steps.proofs.Alike.{Alike, alike_weaker, Fresh}
use Rattle.cir_steps.proofs.Related.{OwnGrows, Runs, Found, BesideAt, Beside}
use Rattle.cir_meaning.proofs.FineValues.{FineContext, IsDatum, FineWorld, Fine}
use Rattle.cir_meaning.proofs.FineWriting.{FineCreation, creation_fine, create_fine}
use Rattle.cir_steps.proofs.Simulation.{knows_as, Calm, calm_like, running, emitting, After, Sim}
use Rattle.cir_steps.proofs.Simulation.{sim_quiet, sim_bad, sim_same}
use Rattle.cir_steps.proofs.SimParts.{late, began}

-- arguments of a component are known
module _ (k : Context) (keeps : CallKeeps k.call) (w : Where) where
  abbrev AreGiven : List Datum → Type 0
  AreGiven = AllByRecursion (λ d. is_all_known d ≡ true)

  arguments_given : (es : Exprs Meant) (s : State)
      → OnGood (λ x. AreGiven x.0) (arguments_in k w es s)
  arguments_given none s = good_ok (λ x. AreGiven x.0) ([], s) tt
  arguments_given (more e es) s =
      good_on (λ x. AreGiven x.0) (value_in k w false Whole e s) _ (λ x.
      good_needed_as (λ y. AreGiven y.0) (is_all_known x.0) w UnknownIndex _ (λ known.
      good_next (λ y. AreGiven y.0) (λ y. AreGiven y.0) (arguments_in k w es x.1) _
      (arguments_given es x.1) (λ y g. good_ok (λ y. AreGiven y.0) (x.0 ∷ y.0, y.1) (known, g))))

  call_given : {A : Type 0} (Q : A → Type 0) (e : Expr Meant) (go : ℕ → Exprs Meant → Tried A)
      → ((t : ℕ) (arguments : Exprs Meant) → OnGood Q (go t arguments))
      → OnGood Q (template_call w e go)
  call_given Q (Parentheses e) go h = call_given Q e go h
  call_given Q (Call parallel name (meant.Template t) arguments) go h = h t arguments
  call_given Q (Call parallel name meant.Other arguments) go h = good_bad Q _
  call_given Q (Call parallel name (meant.Variable n) arguments) go h = good_bad Q _
  call_given Q (Call parallel name (meant.Signal direction n) arguments) go h = good_bad Q _
  call_given Q (Call parallel name (meant.Component n) arguments) go h = good_bad Q _
  call_given Q (Call parallel name (meant.Function n) arguments) go h = good_bad Q _
  call_given Q (Number n) go h = good_bad Q _
  call_given Q (Place name m accessors) go h = good_bad Q _
  call_given Q (Anonymous parallel name m arguments inputs) go h = good_bad Q _
  call_given Q (Array es) go h = good_bad Q _
  call_given Q (Unary op e) go h = good_bad Q _
  call_given Q (Binary op e g) go h = good_bad Q _
  call_given Q (Choice c e g) go h = good_bad Q _

  indices_any : {A : Type 0} (Q : A → Type 0) (indices : List (Option ℕ))
      (accessors : Accessors Meant) (s : State)
      (go : List (Option ℕ) → Accessors Meant → State → Tried A)
      → ((indices : List (Option ℕ)) (rest : Accessors Meant) (s : State)
      → OnGood Q (go indices rest s)) → OnGood Q (indices_in k w false indices accessors s go)
  indices_any Q indices done s go h = h indices done s
  indices_any Q indices (member name rest) s go h = h indices (member name rest) s
  indices_any Q indices (index e rest) s go h =
      good_on Q (value_in k w false Scalar e s) _ (λ x. indices_any Q _ rest x.1 go h)

  pub creation_given : (n : ℕ) (accessors : Accessors Meant) (e : Expr Meant) (s : State)
      → OnGood (λ c. AreGiven c.arguments) (creation k w n accessors e s)
  creation_given n accessors e s =
      call_given (λ c. AreGiven c.arguments) e _ (λ t arguments.
      good_next (λ x. AreGiven x.0) (λ c. AreGiven c.arguments) (arguments_in k w arguments s) _
      (arguments_given arguments s) (λ x g.
      indices_any (λ c. AreGiven c.arguments) [] accessors x.1 _ (λ os rest s2.
      good_on (λ c. AreGiven c.arguments)
      (found w ReadBeforeWrite (entry_at s2.frame.components n)) _ (λ c.
      good_on (λ c. AreGiven c.arguments) (found w UnknownIndex (all_known os)) _ (λ ns.
      good_on (λ c. AreGiven c.arguments) (reach w false Scalar c.dims os) _
      (λ r. good_ok (λ c. AreGiven c.arguments) _ g))))))

module _ (k : Context) (keeps : CallKeeps k.call) (fuel : ℕ) (call : Calling) (body : Runner)
    (cast : Caster) where
  -- a body whose steps are made runs as they do
  abbrev pub cast_part : Where → (template : ℕ) → List Datum → (path : List ℕ) → World → Cast
      → RunPart
  cast_part w n ds path world o = record {
    where_made = w;
    template = n;
    arguments = ds;
    path = path;
    before = world;
    ports = o.own;
    inside = o.inside;
  }

  abbrev pub Begins : List Datum → World → Type 0
  Begins ds world = AllByRecursion IsDatum ds × FineWorld world

  abbrev pub Casts : Type 0
  Casts =
      (w : Where) (n : ℕ) (ds : List Datum) (path : List ℕ) (world : World) (start : ℕ) (o : Cast)
      → AllByRecursion (λ d. is_all_known d ≡ true) ds → Begins ds world
      → cast w n ds path world start ≡ Ok o
      → Runs call fuel body (cast_part w n ds path world o) o.steps

  module _ (casts : Casts) (w : Where) (c : Creation) (place : ℕ) (s : State) (r : Run)
      (x : Emission) (like : Like r.known c.state)
      (given : AllByRecursion (λ d. is_all_known d ≡ true) c.arguments)
      (made : Created k w c place s) (finely : Fine r.known → Fine s)
      (begins : Fine r.known → Begins c.arguments c.state.world) (o : Cast)
      (cast_is : cast w c.template c.arguments (path_of k c.entry c.indices) c.state.world x.next
      ≡ Ok o) where
    abbrev part : Part
    part = record { spot = w.spot; template = c.template; signals = opened made.signals }

    abbrev new_run : Run
    new_run = record r { known = s; parts = r.parts ++ waiting k w c ∷ [] }

    abbrev new_cells : Emission
    new_cells = with_cast k w c o s x

    its_parts : s.frame.parts ≡ r.known.frame.parts ++ part ∷ []
    its_parts =
        ap (λ (t : State). t.frame.parts) made.state
        ∙ ap (λ (ps : List Part). ps ++ part ∷ []) like.3

    its_signals : s.frame.signals ≡ r.known.frame.signals
    its_signals = ap (λ (t : State). t.frame.signals) made.state ∙ like.1

    its_variables : s.frame.variables ≡ r.known.frame.variables
    its_variables = ap (λ (t : State). t.frame.variables) made.state ∙ like.0

    module _ (final : Wires) (p : Progress) (b : Beside call fuel body final r x p) where
      found_at : (j : ℕ) (a : Part) → slice_get s.frame.parts j ≡ Some a
          → Found call fuel body p.cells (late (length r.parts) false j a)
          (r.parts ++ waiting k w c ∷ []) new_cells.cells.parts new_cells.bodies j
      found_at j a there =
          at (get_either r.known.frame.parts part j a
          (ap (λ ps. slice_get ps j) (sym its_parts) ∙ there))
        where
          at : (slice_get r.known.frame.parts j ≡ Some a)
              ⊎ ((length r.known.frame.parts ≡ j) × (part ≡ a))
              → Found call fuel body p.cells (late (length r.parts) false j a)
              (r.parts ++ waiting k w c ∷ []) new_cells.cells.parts new_cells.bodies j
          at (inl old) =
              let f : Found call fuel body p.cells (is_fed a.signals) r.parts x.cells.parts x.bodies
              j = b.parts j a old in
              let below : length r.parts ≢ j = λ e. get_below r.known.frame.parts a j old
              (b.count ∙ e) in
              subst (λ d. Found call fuel body p.cells d (r.parts ++ waiting k w c ∷ [])
              new_cells.cells.parts new_cells.bodies j)
              (sym (ap (λ d. cond d false (is_fed a.signals)) (ne_eqb (length r.parts) j below)))
              record {
                run = f.run;
                cast = f.cast;
                steps = f.steps;
                run_there = get_more r.parts (waiting k w c ∷ []) j f.run f.run_there;
                cast_there = get_more x.cells.parts _ j f.cast f.cast_there;
                steps_there = get_more x.bodies (o.steps ∷ []) j f.steps f.steps_there;
                runs = f.runs;
              }
          at (inr new) =
              let here : length r.parts ≡ j = sym b.count ∙ new.0 in
              subst (λ i. Found call fuel body p.cells (late (length r.parts) false i a)
              (r.parts ++ waiting k w c ∷ []) new_cells.cells.parts new_cells.bodies i) here
              (subst (λ d. Found call fuel body p.cells d (r.parts ++ waiting k w c ∷ [])
              new_cells.cells.parts new_cells.bodies (length r.parts))
              (sym (ap (λ d. cond d false (is_fed a.signals))
              (eq-eqb (length r.parts) (length r.parts) refl))) record {
                run = waiting k w c;
                cast = record (waiting k w c) { ports = o.own; inside = o.inside };
                steps = o.steps;
                run_there = get_last r.parts (waiting k w c);
                cast_there = ap (slice_get new_cells.cells.parts) b.casts
                    ∙ get_last x.cells.parts _;
                steps_there = ap (slice_get new_cells.bodies) (b.casts ∙ b.bodies)
                    ∙ get_last x.bodies o.steps;
                runs = record {
                  same = refl;
                  wired = λ n i v e. cc;
                  waits = λ e. casts w c.template c.arguments (path_of k c.entry c.indices)
                      c.state.world x.next o given (begins b.fine) cast_is;
                  inside = λ e. cc;
                };
              })

      created_late : BesideAt call fuel body (late (length r.parts) false) final new_run new_cells p
      created_late = record {
        zero = b.zero;
        wired = b.wired;
        made = λ n e i there. b.made n e i (ap (λ xs. entry_at xs n) (sym its_signals) ∙ there);
        stored = b.stored;
        told = knows_as r.known.frame.variables s.frame.variables r.numbers its_variables b.told;
        fine = finely b.fine;
        parts = found_at;
        ports = λ j a there. port j a (get_either r.parts (waiting k w c) j a there);
        count = ap length its_parts ∙ one_longer r.known.frame.parts part
            ∙ ap (λ (n : ℕ). suc n) b.count ∙ sym (one_longer r.parts (waiting k w c));
        casts = one_longer r.parts (waiting k w c) ∙ ap (λ (n : ℕ). suc n) b.casts
            ∙ sym (one_longer x.cells.parts _);
        bodies = one_longer x.cells.parts _ ∙ ap (λ (n : ℕ). suc n) b.bodies
            ∙ sym (one_longer x.bodies o.steps);
        log = b.log;
      }
        where
          port : (j : ℕ) (a : RunPart)
              → (slice_get r.parts j ≡ Some a) ⊎ ((length r.parts ≡ j) × (waiting k w c ≡ a))
              → (y : RunPart) × (slice_get new_cells.cells.parts j ≡ Some y)
              × Wired p.cells a.ports y.ports
          port j a (inl old) = (
            (b.ports j a old).0,
            get_more x.cells.parts _ j (b.ports j a old).0 (b.ports j a old).1,
            (b.ports j a old).2,
          )
          port j a (inr new) = (
            record (waiting k w c) { ports = o.own; inside = o.inside },
            ap (slice_get new_cells.cells.parts) (sym new.0 ∙ b.casts) ∙ get_last x.cells.parts _,
            subst (λ (q : RunPart). Wired p.cells q.ports o.own) new.1 (λ n i v e. cc),
          )

    last_part : (final : Wires) (p : Progress) → Beside call fuel body final r x p
        → slice_get s.frame.parts (length r.parts) ≡ Some part
    last_part final p b =
        ap (λ ps. slice_get ps (length r.parts)) its_parts
        ∙ ap (slice_get (r.known.frame.parts ++ part ∷ [])) (sym b.count)
        ∙ get_last r.known.frame.parts part

    created_now : Sim k fuel call body cast r x
        (started_at (running k fuel call body cast) (Some (length r.parts)) false new_run)
        (behind (freed_at (Some (length x.bodies)) false new_cells) (quiet new_cells))
    created_now z e = (
      subst (λ a. OwnGrows x.cells.own a.state.cells.own) is_z (λ n i v there. there),
      alike,
    )
      where
        is_z : record {
          state = new_cells;
          steps = freed_at (Some (length x.bodies)) false new_cells ++ [];
        } ≡ z
        is_z = cc

        alike : (final : Wires) → OwnGrows z.state.cells.own final → (p : Progress)
            → Beside call fuel body final r x p → Fresh z.steps p.cells
            → Alike (After k fuel call body cast final z)
            (started_at (running k fuel call body cast) (Some (length r.parts)) false new_run)
            (run_steps call fuel z.steps p)
        alike final grows p b fresh =
            subst (λ (y : Emitted). Alike (After k fuel call body cast final y)
            (started_at (running k fuel call body cast) (Some (length r.parts)) false new_run)
            (run_steps call fuel y.steps p)) is_z
            (subst (λ ss. Alike (After k fuel call body cast final record {
              state = new_cells;
              steps = freed_at (Some (length x.bodies)) false new_cells ++ [];
            }) (started_at (running k fuel call body cast) (Some (length r.parts)) false new_run)
            (run_steps call fuel ss p)) (sym steps_are)
            (subst (λ q. Alike (After k fuel call body cast final record {
              state = new_cells;
              steps = freed_at (Some (length x.bodies)) false new_cells ++ [];
            }) (started (running k fuel call body cast) (length r.parts) false q new_run)
            (run_steps call fuel (freed (length r.parts) false (Some part) new_cells ++ []) p))
            (sym (last_part final p b))
            (alike_weaker (λ r' p'. (r'.known ≡ s) × Beside call fuel body final r' new_cells p')
            (After k fuel call body cast final record {
              state = new_cells;
              steps = freed_at (Some (length x.bodies)) false new_cells ++ [];
            }) (started (running k fuel call body cast) (length r.parts) false (Some part) new_run)
            (run_steps call fuel (freed (length r.parts) false (Some part) new_cells ++ []) p)
            (began k fuel call body cast final (length r.parts) false part new_run new_cells
            (last_part final p b) (λ h. cc) p (created_late final p b)
            (subst (λ ss. Fresh ss p.cells) steps_are
            (subst (λ (y : Emitted). Fresh y.steps p.cells) (sym is_z) fresh)))
            (λ r' p' e h. (sym h.0, h.1)))))
          where
            steps_are : freed_at (Some (length x.bodies)) false new_cells ++ []
                ≡ freed (length r.parts) false (Some part) new_cells ++ []
            steps_are =
                ap (λ n. freed n false (slice_get s.frame.parts n) new_cells ++ [])
                (sym (b.casts ∙ b.bodies))
                ∙ ap (λ q. freed (length r.parts) false q new_cells ++ []) (last_part final p b)

  -- a creation
  pub created_sim : FineContext k → Casts → (w : Where) (n : ℕ) (accessors : Accessors Meant)
      (a : Expr Meant) (r : Run) (x : Emission)
      → Sim k fuel call body cast r x
      (run.run_create (running k fuel call body cast) w n accessors a r)
      (emit.emit_create (emitting k fuel call body cast) w n accessors a (with_state r.known x))
  created_sim fine casts w n accessors a r x =
      sim_same k fuel call body cast r x (creation k w n accessors a r.known) _ _ (λ c is.
      sim_same k fuel call body cast r x (create k w c) _ _ (λ s made.
      at c (good_is (λ c. Like r.known c.state) (creation k w n accessors a r.known) c is
      (creation_like k keeps r.known w n accessors a r.known (like_itself r.known)))
      (good_is (λ c. AllByRecursion (λ d. is_all_known d ≡ true) c.arguments)
      (creation k w n accessors a r.known) c is (creation_given k keeps w n accessors a r.known)) s
      (λ g. good_is Fine (create k w c) s made (create_fine k fine w c (its_fine c is g)))
      (λ g. begins_fine c (its_fine c is g)) c.places made))
    where
      its_fine : (c : Creation) → creation k w n accessors a r.known ≡ Ok c → Fine r.known
          → FineCreation c
      its_fine c is g =
          good_is FineCreation (creation k w n accessors a r.known) c is
          (creation_fine k fine w n accessors a r.known g)

      begins_fine : (c : Creation) → FineCreation c → Begins c.arguments c.state.world
      begins_fine c f = (f.0, f.1.1)

      cast_at : (c : Creation) → Like r.known c.state
          → AllByRecursion (λ d. is_all_known d ≡ true) c.arguments → (s : State) (place : ℕ)
          → Created k w c place s → (Fine r.known → Fine s)
          → (Fine r.known → Begins c.arguments c.state.world) → (m : Tried Cast)
          → cast w c.template c.arguments (path_of k c.entry c.indices) c.state.world x.next ≡ m
          → Sim k fuel call body cast r x
          (started_at (running k fuel call body cast) (Some (length r.parts)) false record r {
            known = s;
            parts = r.parts ++ waiting k w c ∷ [];
          })
          (next m (λ o. behind (freed_at (Some (length x.bodies)) false (with_cast k w c o s x))
          (quiet (with_cast k w c o s x))))
      cast_at c like given s place made finely begins (Ok o) cast_is =
          created_now casts w c place s r x like given made finely begins o cast_is
      cast_at c like given s place made finely begins (Err f) cast_is =
          sim_bad k fuel call body cast r x _ _

      at : (c : Creation) → Like r.known c.state
          → AllByRecursion (λ d. is_all_known d ≡ true) c.arguments → (s : State)
          → (Fine r.known → Fine s) → (Fine r.known → Begins c.arguments c.state.world)
          → (places : List ℕ) → create_each k w c places ≡ Ok s
          → Sim k fuel call body cast r x
          (run.run_created (running k fuel call body cast) w c places s r)
          (emit.emit_created (emitting k fuel call body cast) w c places s (with_state r.known x))
      at c like given s finely begins [] made =
          let same : c.state ≡ s = cc in
          sim_quiet k fuel call body cast r x s
          (subst (Calm r.known) same (calm_like r.known c.state like))
      at c like given s finely begins (place ∷ places) made =
          cast_at c like given s place (good_is (Created k w c place) (create_at k w c place) s made
          (create_at_is k w c place)) finely begins
          (cast w c.template c.arguments (path_of k c.entry c.indices) c.state.world x.next) refl
