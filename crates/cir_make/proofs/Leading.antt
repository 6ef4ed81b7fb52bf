-- What leads to a state, with the steps that it makes.
use Rattle.std.proofs.Common.{◌≡◌, ◌∙◌, List, [], ◌++◌, Result, Ok, Err, ap, sym, subst, refl}
use Rattle.std.specs.Prelude.{OnOk}
use Rattle.cir_meaning.specs.Tried.{Tried, next}
use Rattle.cir_meaning.specs.Arrays.{Datum}
use Rattle.cir_meaning.specs.Source.{Equation}
use Rattle.cir_meaning.specs.Costs.{Made as Key}
use Rattle.cir_meaning.specs.Frame.{Part, State, uncounted}
use Rattle.cir_arrays.specs.declared.stop.Fault.{Fault}
use Rattle.cir_arrays.specs.Stopped.{IsRefusal}
use Rattle.cir_arrays.proofs.Exits.{exits}
use Rattle.cir_frame.specs.declared.frame.Frame.{Frame}
use Rattle.cir_frame.specs.declared.world.World.{World}
use Rattle.cir_frame.specs.Shown.{state_of}
use Rattle.cir_assign.specs.Leads.{IsListed, Leads, Lists}
use Rattle.cir_steps.specs.Step.{Step}
use Rattle.cir_steps.specs.Emission.{Emission, Emitted, behind, known_in, with_state}
use Rattle.cir_make.specs.declared.cells.Cells.{Cells}
use Rattle.cir_make.specs.declared.whole.Inside.{Inside}
use Rattle.cir_make.specs.declared.whole.Made.{Made}
use Rattle.cir_make.specs.declared.whole.Whole.{Whole}
use Rattle.cir_make.specs.Emits.{Emits, go_on}
use Rattle.cir_make.specs.Shows.{AreSourced, AreWaiting, IsKept, SameBody, Shows, equations_in}
use Rattle.cir_make.specs.Shows.{keys_of}
use Rattle.cir_make.specs.Steps.{StandsBehind}
use Rattle.cir_make.proofs.Going.{append_none}

-- an emission in another state, with these steps behind
abbrev pub made_behind : (State → Emission → Emission) → (State → Emission → List Step) → State
    → Emission → Tried Emitted
made_behind y ss s x = Ok record { state = y s x; steps = ss s x }

abbrev pub MeansSame : (State → Emission → Emission) → Emission → Type 0
MeansSame y x = (s : State) → known_in (y s x) ≡ s

module _ (p : List Key) (j : Inside) (v : Whole) (d : Emitted)
    (y : State → Emission → Emission) (ss : State → Emission → List Step) where
  -- what is kept in each state of the code's frame and world
  abbrev pub Kept : Type 0
  Kept =
      (es : List Equation)
      → IsKept p j.frame j.cells v.made (y (state_of j.frame v.world es) d.state)
      (d.steps ++ ss (state_of j.frame v.world es) d.state)

  shown_by : (es : List Equation) (z : Emission) (steps : List Step)
      → known_in z ≡ state_of j.frame v.world es
      → IsListed es v.world → IsKept p j.frame j.cells v.made z steps
      → Shows p j v record { state = z; steps = steps }
  shown_by es z steps known listed kept =
      let same : equations_in z ≡ es = ap (λ (s : State). s.world.equations) known in record {
        state = known ∙ ap (λ (l : List Equation). state_of j.frame v.world l) (sym same);
        are_listed = subst (λ (l : List Equation). IsListed l v.world) (sym same) listed;
        kept = kept;
      }

  led_so : (i : Inside) (w : Whole) (shows : Shows p i w d) (es : List Equation)
      → Lists (equations_in d.state) w.world es v.world → MeansSame y d.state → Kept
      → Shows p j v record {
        state = y (state_of j.frame v.world es) d.state;
        steps = d.steps ++ ss (state_of j.frame v.world es) d.state;
      }
  led_so i w shows es lists means kept =
      let s : State = state_of j.frame v.world es in
      shown_by es (y s d.state) (d.steps ++ ss s d.state) (means s)
      (lists.listed shows.are_listed) (kept es)

module _ (p : List Key) (i j : Inside) (w v : Whole) (d : Emitted) (m : State → Tried State)
    (y : State → Emission → Emission) (ss : State → Emission → List Step)
    (shows : Shows p i w d) where
  abbrev pub led_by : Emission → Tried Emitted
  led_by x = next (m (known_in x)) (λ s. made_behind y ss s x)

  pub led_emits : {A : Type 0} (r : Result A Fault)
      → Leads (equations_in d.state) w.world j.frame v.world r
      (m (state_of i.frame w.world (equations_in d.state)))
      → MeansSame y d.state → OnOk r (Kept p j v d y ss) → Emits p j v r (go_on d led_by)
  led_emits (Ok a) leads means kept =
      let s : State = state_of j.frame v.world leads.0 in (
        record { state = y s d.state; steps = d.steps ++ ss s d.state },
        ap (λ (t : Tried State). behind d.steps (next t (λ s. made_behind y ss s d.state)))
            (ap m shows.state ∙ leads.1),
        led_so p j v d y ss i w shows leads.0 leads.2 means kept,
      )
  led_emits (Err e) leads means kept =
      let t : Tried State = m (known_in d.state) in
      let stopped : IsRefusal e t =
      subst (λ (s : State). IsRefusal e (m s)) (sym shows.state) leads in
      exits e (led_by d.state) (λ x. Ok record { state = x.state; steps = d.steps ++ x.steps })
      (exits e t (λ s. made_behind y ss s d.state) stopped)

-- where the compile meaning has a first part, of which the emission speaks too
module _ {B : Type 0} (first : Tried B) (go : B → Tried State) (f : B → State → Tried Emitted)
  where
    twice_ok : (s : State) → next first go ≡ Ok s
        → (b : B) × (first ≡ Ok b) × (next first (λ b. next (next first go) (f b)) ≡ f b s)
    twice_ok s h = at first refl
      where
        at : (t : Tried B) → first ≡ t
            → (b : B) × (first ≡ Ok b) × (next first (λ b. next (next first go) (f b)) ≡ f b s)
        at (Ok b) is = (
          b,
          is,
          ap (λ (t : Tried B). next t (λ b. next (next first go) (f b))) is
              ∙ ap (λ (t : Tried State). next t (f b)) h,
        )
        at (Err e) is =
            let no : Ok s ≡ Err e = sym h ∙ ap (λ (t : Tried B). next t go) is in absurd (cc)

    twice_err : (e : Fault) → IsRefusal e (next first go)
        → IsRefusal e (next first (λ b. next (next first go) (f b)))
    twice_err e h = at first refl
      where
        at : (t : Tried B) → first ≡ t
            → IsRefusal e (next first (λ b. next (next first go) (f b)))
        at (Ok b) is =
            subst (λ (t : Tried B). IsRefusal e (next t (λ b. next (next first go) (f b)))) (sym is)
            (exits e (next first go) (f b) h)
        at (Err o) is =
            subst (λ (t : Tried B). IsRefusal e (next t (λ b. next (next first go) (f b)))) (sym is)
            (subst (λ (t : Tried B). IsRefusal e (next t go)) is h)

module _ {B : Type 0} (p : List Key) (i j : Inside) (w v : Whole) (d : Emitted)
    (first : State → Tried B) (go : State → B → Tried State)
    (f : B → State → Emission → Tried Emitted)
    (y : B → State → Emission → Emission) (ss : B → State → Emission → List Step)
    (shows : Shows p i w d) where
  abbrev pub led_twice : Emission → Tried Emitted
  led_twice x =
      next (first (known_in x)) (λ b. next (next (first (known_in x)) (go (known_in x)))
      (λ s. f b s x))

  pub twice_emits : {A : Type 0} (r : Result A Fault)
      → ((b : B) (s : State) → f b s d.state ≡ made_behind (y b) (ss b) s d.state)
      → Leads (equations_in d.state) w.world j.frame v.world r
      (next (first (state_of i.frame w.world (equations_in d.state)))
      (go (state_of i.frame w.world (equations_in d.state))))
      → ((b : B) → MeansSame (y b) d.state)
      → ((b : B) → first (known_in d.state) ≡ Ok b → OnOk r (Kept p j v d (y b) (ss b)))
      → Emits p j v r (go_on d led_twice)
  twice_emits (Ok a) makes leads means kept =
      let x = d.state in
      let s : State = state_of j.frame v.world leads.0 in
      let went : next (first (known_in x)) (go (known_in x)) ≡ Ok s =
      ap (λ (z : State). next (first z) (go z)) shows.state ∙ leads.1 in
      let t = twice_ok (first (known_in x)) (go (known_in x)) (λ b s. f b s x) s went in (
        record { state = y t.0 s x; steps = d.steps ++ ss t.0 s x },
        ap (λ (z : Tried Emitted). behind d.steps z) (t.2 ∙ makes t.0 s),
        led_so p j v d (y t.0) (ss t.0) i w shows leads.0 leads.2 (means t.0) (kept t.0 t.1),
      )
  twice_emits (Err e) makes leads means kept =
      let x = d.state in
      exits e (led_twice x) (λ x. Ok record { state = x.state; steps = d.steps ++ x.steps })
      (twice_err (first (known_in x)) (go (known_in x)) (λ b s. f b s x) e
      (subst (λ (z : State). IsRefusal e (next (first z) (go z))) (sym shows.state) leads))

-- a state alone changes nothing of what is kept
pub kept_state : (p : List Key) (f : Frame) (c : Cells) (made : Made) (x : Emission) (s : State)
    (steps : List Step) → IsKept p f c made x steps → IsKept p f c made (with_state s x) steps
kept_state p f c made x s steps h = record {
  next = h.next;
  own = h.own;
  parts = h.parts;
  sources = h.sources;
  waiting = h.waiting;
  steps_made = h.steps_made;
  later = h.later;
  keys = h.keys;
}

-- nor does a frame with the same variables and components
pub kept_frame : (p : List Key) (f g : Frame) (c : Cells) (made : Made) (x : Emission)
    (steps : List Step) → SameBody f g → IsKept p f c made x steps → IsKept p g c made x steps
kept_frame p f g c made x steps same h = record {
  next = h.next;
  own = h.own;
  parts = h.parts;
  sources = subst (λ (ds : List Datum). AreSourced ds x.sources c.variables.items)
      (sym same.variables) h.sources;
  waiting = subst (λ (ps : List Part). AreWaiting (keys_of made) x.bodies ps c.parts.items)
      (sym same.parts) h.waiting;
  steps_made = h.steps_made;
  later = h.later;
  keys = h.keys;
}

-- a step of the statement at hand stands where it is made
pub stands_here : (f : Frame) (w : World) (qs : List Equation) (x : Emission)
    → uncounted (known_in x) ≡ uncounted (state_of f w qs) → StandsBehind f x (known_in x) []
stands_here f w qs x e = record {
  shown = ap (λ (s : State). s.frame.variables) e;
  variables = refl;
  signals = refl;
  parts = refl;
}

pub on_ok : {A E : Type 0} (r : Result A E) (P Q : Type 0) → (P → Q) → OnOk r P → OnOk r Q
on_ok (Ok a) P Q f h = f h
on_ok (Err e) P Q f h = h

-- no more steps
pub none_more : (P : List Step → Type 0) (steps : List Step) → P steps → P (steps ++ [])
none_more P steps h = subst P (sym (append_none steps)) h

pub always_ok : {A E : Type 0} (r : Result A E) (P : Type 0) → P → OnOk r P
always_ok (Ok a) P h = h
always_ok (Err e) P h = tt
