-- Emissions that follow one another, and what the code leaves of them.
use Rattle.std.proofs.Common.{◌≡◌, ◌∙◌, ◌^◌, List, [], ◌∷◌, ◌++◌, Result, Ok, Err, ap, sym}
use Rattle.std.proofs.Common.{subst, refl}
use Rattle.std.specs.Prelude.{IsErrAnd}
use Rattle.gold_field.specs.declared.form.Constraint.{Constraint}
use Rattle.cir_meaning.specs.Costs.{Made as Key}
use Rattle.cir_meaning.specs.Tried.{Tried, next}
use Rattle.cir_meaning.specs.Source.{IsSource}
use Rattle.cir_meaning.specs.Frame.{State}
use Rattle.cir_arrays.specs.declared.stop.Fault.{Fault}
use Rattle.cir_arrays.specs.Stopped.{IsRefusal}
use Rattle.cir_arrays.proofs.Exits.{exits}
use Rattle.cir_frame.specs.declared.world.World.{World}
use Rattle.cir_frame.specs.Shown.{state_of}
use Rattle.cir_steps.specs.Step.{Step}
use Rattle.cir_steps.specs.Emission.{Emission, Emitted, quiet, behind, then_emit, known_in}
use Rattle.cir_steps.specs.Emission.{with_state, emit_known}
use Rattle.cir_make.specs.declared.whole.Inside.{Inside}
use Rattle.cir_make.specs.declared.whole.Whole.{Whole}
use Rattle.cir_make.specs.Emits.{Emits, go_on}
use Rattle.cir_make.specs.Shows.{Shows, equations_in}

-- ---- emissions behind others
append_all : (a b c : List Step) → (a ++ b) ++ c ≡ a ++ (b ++ c)
append_all [] b c = refl
append_all (x ∷ a) b c = ap (λ l. x ∷ l) (append_all a b c)

pub append_none : (a : List Step) → a ++ [] ≡ a
append_none [] = refl
append_none (x ∷ a) = ap (λ l. x ∷ l) (append_none a)

behind_behind : (a b : List Step) (m : Tried Emitted) → behind (a ++ b) m ≡ behind a (behind b m)
behind_behind a b (Ok y) =
    ap (λ l. Ok record { state = y.state; steps = l }) (append_all a b y.steps)
behind_behind a b (Err e) = refl

pub behind_none : (m : Tried Emitted) → behind [] m ≡ m
behind_none (Ok y) = refl
behind_none (Err e) = refl

goes_then : (d : Emitted) (m : Tried Emitted) (g : Emission → Tried Emitted)
    → behind d.steps (then_emit m g) ≡ then_emit (behind d.steps m) g
goes_then d (Ok y) g = sym (behind_behind d.steps y.steps (g y.state))
goes_then d (Err e) g = refl

pub then_then : (m : Tried Emitted) (f g : Emission → Tried Emitted)
    → then_emit (then_emit m f) g ≡ then_emit m (λ x. then_emit (f x) g)
then_then (Ok y) f g = sym (goes_then y (f y.state) g)
then_then (Err e) f g = refl

pub quiet_is : (d : Emitted) → go_on d quiet ≡ Ok d
quiet_is d = ap (λ l. Ok record { state = d.state; steps = l }) (append_none d.steps)

-- ---- what emits
pub emits_as : {A : Type 0} (p : List Key) (i : Inside) (w : Whole) (r : Result A Fault)
    (m n : Tried Emitted) → m ≡ n → Emits p i w r n → Emits p i w r m
emits_as p i w r m n e h = let P : Tried Emitted → Type 0 = Emits p i w r in subst P (sym e) h

pub emits_refused : {A : Type 0} (p : List Key) (i : Inside) (w : Whole) (r : Result A Fault)
    (e : Fault) (m : Tried Emitted) → IsErrAnd r (λ x. x ≡ e) → IsRefusal e m → Emits p i w r m
emits_refused p i w (Ok a) e m is h = absurd is
emits_refused p i w (Err x) e m is h = rw is h

-- what is left of an emission
abbrev pub Rests : List Key → Inside → Whole → Tried Emitted → (Emission → Tried Emitted) → Type 0
Rests p i w m rest = (y : Emitted) × (m ≡ go_on y rest) × Shows p i w y

pub rests_emit : {A : Type 0} (p : List Key) (i j : Inside) (w v : Whole) (r : Result A Fault)
    (m : Tried Emitted) (rest : Emission → Tried Emitted) → Rests p i w m rest
    → ((y : Emitted) → Shows p i w y → Emits p j v r (go_on y rest)) → Emits p j v r m
rests_emit p i j w v r m rest h k = emits_as p j v r m (go_on h.0 rest) h.1 (k h.0 h.2)

pub rests_more : (p : List Key) (i j : Inside) (w v : Whole) (m : Tried Emitted)
    (rest other : Emission → Tried Emitted) → Rests p i w m rest
    → ((y : Emitted) → Shows p i w y → Rests p j v (go_on y rest) other) → Rests p j v m other
rests_more p i j w v m rest other h k = let x = k h.0 h.2 in (x.0, h.1 ∙ x.1, x.2)

-- a first part that is done
abbrev pub Emitted_by : List Key → Inside → Whole → Tried Emitted → Type 0
Emitted_by p i w m = (y : Emitted) × (m ≡ Ok y) × Shows p i w y

pub rests_then : (p : List Key) (i : Inside) (w : Whole) (d : Emitted)
    (f g : Emission → Tried Emitted) → Emitted_by p i w (go_on d f)
    → Rests p i w (go_on d (λ x. then_emit (f x) g)) g
rests_then p i w d f g h = (h.0, goes_then d (f d.state) g ∙ ap (λ m. then_emit m g) h.1, h.2)

pub emits_next : {A : Type 0} (p : List Key) (i j : Inside) (w v : Whole) (r : Result A Fault)
    (d : Emitted) (f g : Emission → Tried Emitted) → Emitted_by p i w (go_on d f)
    → ((y : Emitted) → Shows p i w y → Emits p j v r (go_on y g))
    → Emits p j v r (go_on d (λ x. then_emit (f x) g))
emits_next p i j w v r d f g h k =
    rests_emit p i j w v r (go_on d (λ x. then_emit (f x) g)) g (rests_then p i w d f g h) k

-- one that is refused
pub emits_exit : {A : Type 0} (p : List Key) (i : Inside) (w : Whole) (r : Result A Fault)
    (e : Fault) (d : Emitted) (f g : Emission → Tried Emitted) → IsErrAnd r (λ x. x ≡ e)
    → IsRefusal e (go_on d f) → Emits p i w r (go_on d (λ x. then_emit (f x) g))
emits_exit p i w r e d f g is h =
    emits_as p i w r (go_on d (λ x. then_emit (f x) g)) (then_emit (go_on d f) g)
    (goes_then d (f d.state) g)
    (emits_refused p i w r e (then_emit (go_on d f) g) is
    (exits e (go_on d f) (λ x. behind x.steps (g x.state)) h))

-- ---- what only the compile meaning does
abbrev pub seen : Emitted → State → Emitted
seen d s = record { state = with_state s d.state; steps = d.steps }

abbrev pub with_world : Whole → World → Whole
with_world w world = record w { world = world }

pub known_next : (d : Emitted) (m : Tried State) (g : Emission → Tried Emitted)
    → behind d.steps (then_emit (next m (λ s. quiet (with_state s d.state))) g)
    ≡ next m (λ s. go_on (seen d s) g)
known_next d (Ok s) g = ap (behind d.steps) (behind_none (g (with_state s d.state)))
known_next d (Err e) g = refl

pub known_end : (d : Emitted) (m : Tried State)
    → behind d.steps (next m (λ s. quiet (with_state s d.state))) ≡ next m (λ s. Ok (seen d s))
known_end d (Ok s) =
    ap (λ l. Ok record { state = with_state s d.state; steps = l }) (append_none d.steps)
known_end d (Err e) = refl

pub shows_world : (p : List Key) (i : Inside) (w : Whole) (d : Emitted) (world : World)
    → Shows p i w d → world.constraints.items ≡ w.world.constraints.items
    → Shows p i (with_world w world) (seen d (state_of i.frame world (equations_in d.state)))
shows_world p i w d world h e = record {
  state = refl;
  are_listed = subst (λ (ks : List Constraint). IsSource (2 ^ 32) (equations_in d.state) ks)
      (sym e) h.are_listed;
  kept = record {
    next = h.kept.next;
    own = h.kept.own;
    parts = h.kept.parts;
    sources = h.kept.sources;
    waiting = h.kept.waiting;
    steps_made = h.kept.steps_made;
    later = h.kept.later;
    keys = h.kept.keys;
  };
}

-- where it is done in the code's state
abbrev pub Knows : Inside → Whole → World → Emitted → (State → Tried State) → Type 0
Knows i w world d go =
    go (state_of i.frame w.world (equations_in d.state))
    ≡ Ok (state_of i.frame world (equations_in d.state))

module _ (p : List Key) (i : Inside) (w : Whole) (d : Emitted) (world : World)
    (go : State → Tried State) (shows : Shows p i w d) where
  pub known_emits : Knows i w world d go → world.constraints.items ≡ w.world.constraints.items
      → Emitted_by p i (with_world w world) (go_on d (emit_known go))
  known_emits h e = (
    seen d (state_of i.frame world (equations_in d.state)),
    known_end d (go (known_in d.state)) ∙ ap (λ m. next m (λ s. Ok (seen d s)))
        (ap go shows.state ∙ h),
    shows_world p i w d world shows e,
  )

  pub known_stops : (e : Fault)
      → IsRefusal e (go (state_of i.frame w.world (equations_in d.state)))
      → IsRefusal e (go_on d (emit_known go))
  known_stops e h =
      let m = go (known_in d.state) in
      let P : Tried Emitted → Type 0 = IsRefusal e in
      let Q : Tried State → Type 0 = IsRefusal e in
      subst P (sym (known_end d m)) (exits e m (λ s. Ok (seen d s))
      (subst Q (sym (ap go shows.state)) h))
