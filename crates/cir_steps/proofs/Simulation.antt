-- Pieces of a run beside pieces of the making of its steps.
use Rattle.std.proofs.Common.{◌≡◌, ℕ, Bool, true, false, cond, List, [], ◌∷◌, ◌++◌, length, Ok, Err}
use Rattle.std.proofs.Common.{refl, sym, ap, subst, ◌∙◌, slice_get}
use Rattle.std.specs.Prelude.{◌==◌}
use Rattle.cir_ast.specs.declared.program.Meant.{Meant}
use Rattle.cir_ast.specs.declared.program.Meant.TheVariants as meant
use Rattle.cir_meaning.specs.Tried.{Where, Tried, next}
use Rattle.cir_meaning.specs.Arrays.{Datum}
use Rattle.cir_meaning.specs.Values.{Value, Known, Linear, Quadratic, Opaque}
use Rattle.cir_meaning.specs.Frame.{Part, World, State, Context, entry_at}
use Rattle.cir_meaning.specs.Statement.{decided}
use Rattle.cir_meaning.specs.RunValues.{Ran, Store, gives}
use Rattle.cir_meaning.specs.Run.{RunTried, refusing, Wires, Run, stepping, environment, store_of}
use Rattle.cir_meaning.specs.RunSimple.{Running, Runner, with_known, run_known, run_each}
use Rattle.cir_meaning.specs.RunSimple.{run_number}
use Rattle.cir_meaning.proofs.Good.{OnGood, good_is}
use Rattle.cir_meaning.proofs.Likes.{Like}
use Rattle.cir_meaning.proofs.FineValues.{Fine, IsDatum}
use Rattle.cir_meaning.proofs.Settling.{Variable}
use Rattle.cir_meaning.specs.Source.{IsDifference}
use Rattle.std.specs.List.{AllByRecursion}
use Rattle.cir_steps.specs.Step.{Step, variable_sources}
use Rattle.cir_steps.specs.RunSteps.{Calling, environment_at, store_at, work_numbers, Progress}
use Rattle.cir_steps.specs.RunSteps.{written, run_steps}
use Rattle.cir_steps.specs.Emission.{Emission, Emitted, quiet, behind, then_emit, known_in}
use Rattle.cir_steps.specs.Emission.{with_state, emit_known}
use Rattle.cir_steps.specs.Making.{Caster, Emitting, made}
use Rattle.cir_steps.specs.Emit.{emit_each, emit_number}
use Rattle.cir_steps.proofs.Templates.{AreApart}
use Rattle.cir_steps.proofs.Unless.{Unless, Richer}
use Rattle.cir_steps.proofs.Alike.{Alike, alike_ok, alike_next, alike_weaker, alike_step, Fresh}
use Rattle.cir_steps.proofs.Alike.{AreFree, run_more, fresh_front, fresh_back}
use Rattle.cir_steps.proofs.Related.{OwnGrows, own_read, Nowhere, Knows, stores_same, Beside}
use Rattle.cir_steps.proofs.Related.{richer}

-- what is told of numbers stays, and signals and components are as before
abbrev pub Calm : State → State → Type 0
Calm f s =
    (s.frame.parts ≡ f.frame.parts) × (s.frame.signals ≡ f.frame.signals)
    × ((numbers : Store) → Knows f.frame.variables numbers → Knows s.frame.variables numbers)
    × (Fine f → Fine s)

pub fine_like : (f s : State) → Like f s → Fine f → Fine s
fine_like f s l h = (
  subst (AllByRecursion IsDatum) (sym l.0) h.0,
  subst (AllByRecursion IsDifference) (sym (ap (λ (v : World). v.equations) l.4)) h.1,
)

pub knows_as : (ds es : List Datum) (numbers : Store) → es ≡ ds → Knows ds numbers
    → Knows es numbers
knows_as ds es numbers same h n = subst (λ xs. Variable Nowhere xs numbers n) (sym same) (h n)

pub calm_like : (f s : State) → Like f s → Calm f s
calm_like f s l = (
  l.3,
  l.1,
  λ numbers h. knows_as f.frame.variables s.frame.variables numbers l.0 h,
  fine_like f s l,
)

pub calm_then : (f s t : State) → Calm f s → Calm s t → Calm f t
calm_then f s t h g = (
  g.0 ∙ h.0,
  g.1 ∙ h.1,
  λ numbers i. g.2 numbers (h.2 numbers i),
  λ i. g.3 (h.3 i),
)

module _ (k : Context) (fuel : ℕ) (call : Calling) (body : Runner) (cast : Caster) where
  abbrev pub running : Running
  running = record { context = k; fuel = fuel; call = call; body = body }

  abbrev pub emitting : Emitting
  emitting = record { context = k; cast = cast }

  abbrev pub After : Wires → Emitted → Run → Progress → Type 0
  After final z r p = (known_in z.state ≡ r.known) × Beside call fuel body final r z.state p

  abbrev pub Sim : Run → Emission → RunTried Run → Tried Emitted → Type 0
  Sim r x m y =
      (z : Emitted) → y ≡ Ok z → OwnGrows x.cells.own z.state.cells.own × ((final : Wires)
      → OwnGrows z.state.cells.own final → (p : Progress) → Beside call fuel body final r x p
      → Fresh z.steps p.cells → Alike (After final z) m (run_steps call fuel z.steps p))

  pub beside_calm : (final : Wires) (r : Run) (x : Emission) (p : Progress) (s : State)
      → Calm r.known s → Beside call fuel body final r x p
      → Beside call fuel body final (with_known s r) x p
  beside_calm final r x p s c h = record {
    zero = h.zero;
    wired = h.wired;
    made = λ n e i there. h.made n e i (ap (λ xs. entry_at xs n) (sym c.1) ∙ there);
    stored = h.stored;
    told = c.2 r.numbers h.told;
    fine = c.3 h.fine;
    parts = λ j part there. h.parts j part
        (ap (λ (ps : List Part). slice_get ps j) (sym c.0) ∙ there);
    ports = h.ports;
    count = ap length c.0 ∙ h.count;
    casts = h.casts;
    bodies = h.bodies;
    log = h.log;
  }

  pub sim_quiet : (r : Run) (x : Emission) (s : State) → Calm r.known s
      → Sim r x (Ok (with_known s r)) (quiet (with_state s x))
  sim_quiet r x s c z e =
      let same : record { state = with_state s x; steps = [] } ≡ z = cc in (
        subst (λ a. OwnGrows x.cells.own a.state.cells.own) same (λ n i v there. there),
        (λ final grows p h fresh.
            subst (λ a. Alike (After final a) (Ok (with_known s r)) (run_steps call fuel a.steps p))
            same (alike_ok (After final record { state = with_state s x; steps = [] })
            (with_known s r) (Ok p) p refl (refl, beside_calm final r x p s c h))),
      )

  pub sim_bad : (r : Run) (x : Emission) (m : RunTried Run) (e : _) → Sim r x m (Err e)
  sim_bad r x m e z is = cc

  -- from a state that is known better
  pub sim_calm : (r : Run) (x : Emission) (s : State) (m : RunTried Run) (y : Tried Emitted)
      → Calm r.known s → Sim (with_known s r) (with_state s x) m y → Sim r x m y
  sim_calm r x s m y c h z e = (
    (h z e).0,
    (λ final grows p b fresh. (h z e).1 final grows p (beside_calm final r x p s c b) fresh),
  )

  -- what is asked for at compile time
  pub sim_same : {A : Type 0} (r : Run) (x : Emission) (m : Tried A) (f : A → RunTried Run)
      (g : A → Tried Emitted) → ((a : A) → m ≡ Ok a → Sim r x (f a) (g a))
      → Sim r x (next (refusing m) f) (next m g)
  sim_same r x (Ok a) f g h = h a refl
  sim_same r x (Err e) f g h = sim_bad r x _ e

  pub sim_known : (r : Run) (x : Emission) (go : State → Tried State)
      → OnGood (Calm r.known) (go r.known)
      → Sim r x (run_known go r) (emit_known go (with_state r.known x))
  sim_known r x go h =
      sim_same r x (go r.known) _ _ (λ s is.
      sim_quiet r x s (good_is (Calm r.known) (go r.known) s is h))

  -- one behind the other
  joined_is : (z1 z : Emitted) (m : Tried Emitted) → behind z1.steps m ≡ Ok z
      → (z2 : Emitted) × (m ≡ Ok z2)
      × (z ≡ record { state = z2.state; steps = z1.steps ++ z2.steps })
  joined_is z1 z (Ok z2) e =
      let same : record { state = z2.state; steps = z1.steps ++ z2.steps } ≡ z = cc in
      (z2, refl, sym same)
  joined_is z1 z (Err f) e = cc

  pub sim_then : (r : Run) (x : Emission) (m : RunTried Run) (y : Tried Emitted)
      (f : Run → RunTried Run) (g : Emission → Tried Emitted) → Sim r x m y
      → ((r' : Run) (x' : Emission) → Sim r' x' (f r') (g (with_state r'.known x')))
      → Sim r x (next m f) (then_emit y g)
  sim_then r x m (Err fault) f g h i z e = cc
  sim_then r x m (Ok z1) f g h i z e =
      let all : (z2 : Emitted) × (g z1.state ≡ Ok z2)
      × (z ≡ record { state = z2.state; steps = z1.steps ++ z2.steps }) =
      joined_is z1 z (g z1.state) e in
      let later : OwnGrows z1.state.cells.own all.0.state.cells.own =
      (i (with_known (known_in z1.state) r) z1.state all.0 all.1).0 in (
        subst (λ a. OwnGrows x.cells.own a.state.cells.own) (sym all.2)
            (λ n k c there. later n k c ((h z1 refl).0 n k c there)),
        (λ final grows p b fresh.
            subst (λ a. Alike (After final a) (next m f) (run_steps call fuel a.steps p))
            (sym all.2)
            (joins all.0 all.1 final (subst (λ a. OwnGrows a.state.cells.own final) all.2 grows)
            later
            p b (subst (λ a. Fresh a.steps p.cells) all.2 fresh))),
      )
    where
      joins : (z2 : Emitted) → g z1.state ≡ Ok z2 → (final : Wires)
          → OwnGrows z2.state.cells.own final → OwnGrows z1.state.cells.own z2.state.cells.own
          → (p : Progress) → Beside call fuel body final r x p
          → Fresh (z1.steps ++ z2.steps) p.cells
          → Alike (After final record { state = z2.state; steps = z1.steps ++ z2.steps })
          (next m f) (run_steps call fuel (z1.steps ++ z2.steps) p)
      joins z2 is final grows later p b apart =
          subst (Alike (After final record { state = z2.state; steps = z1.steps ++ z2.steps })
          (next m f)) (sym (run_more call fuel z1.steps z2.steps p))
          (alike_next (After final z1)
          (After final record { state = z2.state; steps = z1.steps ++ z2.steps }) m
          (run_steps call fuel z1.steps p) f (run_steps call fuel z2.steps)
          ((h z1 refl).1 final (λ n k c there. grows n k c (later n k c there)) p b
          (fresh_front call fuel z1.steps z2.steps p.cells apart))
          (λ r' p' ran after.
          alike_weaker (After final z2)
          (After final record { state = z2.state; steps = z1.steps ++ z2.steps }) (f r')
          (run_steps call fuel z2.steps p')
          ((i r' z1.state z2 (ap (λ s. g (with_state s z1.state)) (sym after.0) ∙ is)).1 final
          grows p' after.1 (fresh_back call fuel z1.steps z2.steps p p' ran apart))
          (λ r2 p2 e2 h2. h2)))

  pub sim_each : {A : Type 0} (f : A → Run → RunTried Run) (g : A → Emission → Tried Emitted)
      (as' : List A) (r : Run) (x : Emission)
      → ((a : A) (r' : Run) (x' : Emission) → Sim r' x' (f a r') (g a (with_state r'.known x')))
      → Sim r x (run_each f as' r) (emit_each g as' (with_state r.known x))
  sim_each f g [] r x h = sim_quiet r x r.known (refl, refl, (λ numbers i. i), (λ i. i))
  sim_each f g (a ∷ as') r x h =
      sim_then r x (f a r) (g a (with_state r.known x)) (run_each f as') (emit_each g as')
      (h a r x) (λ r' x'. sim_each f g as' r' x' h)

  pub sim_number : (r : Run) (x : Emission) (w : Where) (m : Meant) (f : ℕ → RunTried Run)
      (g : ℕ → Tried Emitted) → ((n : ℕ) → Sim r x (f n) (g n))
      → Sim r x (run_number w m f) (emit_number w m g)
  sim_number r x w (meant.Variable n) f g h = h n
  sim_number r x w (meant.Signal direction n) f g h = h n
  sim_number r x w (meant.Component n) f g h = h n
  sim_number r x w meant.Other f g h = sim_bad r x _ _
  sim_number r x w (meant.Template n) f g h = sim_bad r x _ _
  sim_number r x w (meant.Function n) f g h = sim_bad r x _ _

  pub sim_decided : (r : Run) (x : Emission) (v : Value) (f t u : Run → RunTried Run)
      (g v' w : Emission → Tried Emitted)
      → ((r' : Run) (x' : Emission) → Sim r' x' (f r') (g (with_state r'.known x')))
      → ((r' : Run) (x' : Emission) → Sim r' x' (t r') (v' (with_state r'.known x')))
      → ((r' : Run) (x' : Emission) → Sim r' x' (u r') (w (with_state r'.known x')))
      → Sim r x (decided v f t u r) (decided v g v' w (with_state r.known x))
  sim_decided r x (Known n) f t u g v w hf ht hu = at (n == 0)
    where
      at : (b : Bool) → Sim r x ((cond b f t) r) ((cond b g v) (with_state r.known x))
      at true = hf r x
      at false = ht r x
  sim_decided r x (Linear a) f t u g v w hf ht hu = hu r x
  sim_decided r x (Quadratic a b c) f t u g v w hf ht hu = hu r x
  sim_decided r x Opaque f t u g v w hf ht hu = hu r x

  -- a step alone
  pub sim_step : {A : Type 0} (r : Run) (x : Emission) (w : Where) (ran : Ran A)
      (f : A → List ℕ) (go : A → Run) (step : Step) (x' : Emission) → step.place ≡ w
      → OwnGrows x.cells.own x'.cells.own
      → ((final : Wires) → OwnGrows x.cells.own final → (p : Progress)
      → Beside call fuel body final r x p
      → Unless (next ran (λ (a, u). gives (f a) u)) (work_numbers (environment_at call p.cells
      step.names) (store_at p.cells step.variables) step.work fuel))
      → ((final : Wires) → OwnGrows x.cells.own final → (a : A) (u : ℕ) → ran ≡ Ok (a, u)
      → (p : Progress) → Beside call fuel body final r x p
      → AreApart step.targets → AreFree step.targets p.cells
      → After final record { state = x'; steps = step ∷ [] } (go a) (written step p (f a)))
      → Sim r x (next (stepping w r ran) (λ a. Ok (go a))) (made step x')
  sim_step r x w ran f go step x' place more works after z e =
      let same : record { state = x'; steps = step ∷ [] } ≡ z = cc in (
        subst (λ a. OwnGrows x.cells.own a.state.cells.own) same more,
        (λ final later p b fresh.
            let grows : OwnGrows x.cells.own final = λ n k c there.
            subst (λ a. OwnGrows a.state.cells.own final) (sym same) later n k c
            (more n k c there) in
            let its : Fresh (step ∷ []) p.cells =
            subst (λ a. Fresh a.steps p.cells) (sym same) fresh in
            subst (λ a. Alike (After final a) (next (stepping w r ran) (λ a. Ok (go a)))
            (run_steps call fuel a.steps p)) same
            (alike_step call fuel (After final record { state = x'; steps = step ∷ [] }) w r ran f
            (λ a. Ok (go a)) step [] p place b.log (works final grows p b) (λ a u is.
            alike_ok (After final record { state = x'; steps = step ∷ [] }) (go a)
            (Ok (written step p (f a))) (written step p (f a)) refl
            (after final grows a u is p b its.0 its.1)))),
      )

  -- the store and the environment of a step
  pub store_same : (final : Wires) (r : Run) (x : Emission) (p : Progress)
      → Beside call fuel body final r x p
      → store_at p.cells (variable_sources r.known.frame.variables x.sources)
      ≡ store_of r.known r.numbers
  store_same final r x p h =
      stores_same p.cells r.known.frame.variables r.numbers x.sources h.stored

  pub richer_at : (final : Wires) (r : Run) (x : Emission) (p : Progress)
      → Beside call fuel body final r x p → OwnGrows x.cells.own final → (w : Where) (s : State)
      → s.frame.signals ≡ r.known.frame.signals → (other : Calling)
      → Richer (environment k w call s r)
      (environment_at call p.cells (environment k w other s x.cells))
  richer_at final r x p h grows w s same other =
      richer p.cells r.parts x.cells.parts h.ports k w call other s r x.cells refl refl
      (own_read p.cells s.frame.signals r.own x.cells.own final h.wired
      (λ n e i there. h.made n e i (ap (λ xs. entry_at xs n) (sym same) ∙ there)) grows)
