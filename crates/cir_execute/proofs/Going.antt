-- Steps that follow one another, and what the code leaves of them.
use Rattle.std.proofs.Common.{◌≡◌, List, Result, Ok, Err, ap, sym, subst, refl}
use Rattle.std.specs.Prelude.{OnOk, IsErrAnd}
use Rattle.cir_meaning.specs.Source.{Equation}
use Rattle.cir_meaning.specs.Tried.{Tried, next}
use Rattle.cir_meaning.specs.Frame.{State}
use Rattle.cir_meaning.specs.Statement.{Flow, Going, going, goes}
use Rattle.cir_arrays.specs.declared.stop.Fault.{Fault}
use Rattle.cir_arrays.specs.Stopped.{IsRefusal, Gives}
use Rattle.cir_arrays.proofs.Exits.{exits}
use Rattle.cir_frame.specs.declared.frame.Frame.{Frame}
use Rattle.cir_frame.specs.declared.world.World.{World}
use Rattle.cir_frame.specs.Shown.{state_of}
use Rattle.cir_evaluate.specs.Within.{Kept, kept_of}
use Rattle.cir_assign.specs.Leads.{Lists, Leads}
use Rattle.cir_assign.proofs.Stepping.{lists_kept, lists_next}
use Rattle.cir_execute.specs.declared.statement.Flow.{Flow as CodeFlow}
use Rattle.cir_execute.specs.declared.statement.Flow.TheVariants as flow
use Rattle.cir_execute.specs.Flows.{Flows}

-- ---- refusals, and answers of equal meanings
pub refusal : {A : Type 0} (f : Fault) (m n : Tried A) → m ≡ n → IsRefusal f n → IsRefusal f m
refusal f m n e h = let P : Tried _ → Type 0 = IsRefusal f in subst P (sym e) h

pub given : {A B : Type 0} (view : A → B) (r : Result A Fault) (m n : Tried B) → m ≡ n
    → Gives view r n → Gives view r m
given view r m n e h = let P : Tried _ → Type 0 = Gives view r in subst P (sym e) h

-- a first step that is done
pub after : {A B C : Type 0} (view : A → C) (r : Result A Fault) (m : Tried B) (b : B)
    (go : B → Tried C) → m ≡ Ok b → Gives view r (go b) → Gives view r (next m go)
after view r m b go e h = given view r (next m go) (go b) (ap (λ x. next x go) e) h

pub ends_ok : {A : Type 0} (m : Tried A) → next m (λ s. Ok s) ≡ m
ends_ok (Ok s) = refl
ends_ok (Err e) = refl

-- ---- steps of a state
abbrev pub Led : List Equation → World → Frame → World → Tried State → Type 0
Led qs old frame new m =
    (es : List Equation) × (m ≡ Ok (state_of frame new es)) × Lists qs old es new

pub leads_of : {A : Type 0} (qs : List Equation) (old new : World) (f : Frame)
    (r : Result A Fault) (m : Tried State) → Gives (λ _. state_of f new qs) r m
    → OnOk r (new.constraints.items ≡ old.constraints.items) → Leads qs old f new r m
leads_of qs old new f (Ok a) m h k = (qs, h, lists_kept qs old new k)
leads_of qs old new f (Err e) m h k = h

-- ---- steps of statements
pub flows_at : (qs : List Equation) (old new : World) (f : Frame) (r : Result CodeFlow Fault)
    (m n : Tried Flow) → m ≡ n → Flows qs old f new r n → Flows qs old f new r m
flows_at qs old new f r m n e h =
    let P : Tried Flow → Type 0 = Flows qs old f new r in subst P (sym e) h

pub flows_after : (qs es : List Equation) (old mid new : World) (f : Frame)
    (r : Result CodeFlow Fault) (m : Tried Flow) → Lists qs old es mid → Flows es mid f new r m
    → Flows qs old f new r m
flows_after qs es old mid new f (Ok flow.Going) m l h =
    (h.0, h.1, lists_next qs es h.0 old mid new l h.2)
flows_after qs es old mid new f (Ok (flow.Returned d)) m l h =
    (h.0, h.1, lists_next qs es h.0 old mid new l h.2)
flows_after qs es old mid new f (Err x) m l h = h

-- what refuses a step refuses all
pub flows_refused : (qs : List Equation) (old new : World) (f : Frame)
    (r : Result CodeFlow Fault) (e : Fault) (m : Tried Flow) → IsErrAnd r (λ x. x ≡ e)
    → IsRefusal e m → Flows qs old f new r m
flows_refused qs old new f (Ok a) e m is h = absurd is
flows_refused qs old new f (Err x) e m is h = rw is h

pub flows_exit : {X : Type 0} (qs : List Equation) (old new : World) (f : Frame)
    (r : Result CodeFlow Fault) (e : Fault) (m : Tried X) (go : X → Tried Flow)
    → IsErrAnd r (λ x. x ≡ e) → IsRefusal e m → Flows qs old f new r (next m go)
flows_exit qs old new f r e m go is h =
    flows_refused qs old new f r e (next m go) is (exits e m go h)

-- a first step that is done, and what follows it
pub flows_next : (qs : List Equation) (old mid new : World) (f1 f2 : Frame)
    (r : Result CodeFlow Fault) (m : Tried State) (go : State → Tried Flow)
    → Led qs old f1 mid m
    → ((es : List Equation) → Flows es mid f2 new r (go (state_of f1 mid es)))
    → Flows qs old f2 new r (next m go)
flows_next qs old mid new f1 f2 r m go h k =
    flows_at qs old new f2 r (next m go) (go (state_of f1 mid h.0)) (ap (λ x. next x go) h.1)
    (flows_after qs h.0 old mid new f2 r (go (state_of f1 mid h.0)) h.2 (k h.0))

-- a step that goes on
pub flows_goes : (qs : List Equation) (old new : World) (f : Frame) (m : Tried State)
    → Led qs old f new m → Flows qs old f new (Ok flow.Going) (goes m)
flows_goes qs old new f m h = (h.0, ap goes h.1, h.2)

-- statements that go on, and what follows them
abbrev pub Went : List Equation → World → Frame → World → Tried Flow → Type 0
Went qs old frame new m =
    (es : List Equation) × (m ≡ Ok (Going (state_of frame new es))) × Lists qs old es new

pub flows_going : (qs : List Equation) (old mid new : World) (f1 f2 : Frame)
    (r : Result CodeFlow Fault) (m : Tried Flow) (go : State → Tried Flow)
    → Went qs old f1 mid m
    → ((es : List Equation) → Flows es mid f2 new r (go (state_of f1 mid es)))
    → Flows qs old f2 new r (next m (λ f. going f go))
flows_going qs old mid new f1 f2 r m go h k =
    flows_at qs old new f2 r (next m (λ f. going f go)) (go (state_of f1 mid h.0))
    (ap (λ x. next x (λ f. going f go)) h.1)
    (flows_after qs h.0 old mid new f2 r (go (state_of f1 mid h.0)) h.2 (k h.0))

-- what is counted changes no constraints
pub counted_leads : {A : Type 0} (qs : List Equation) (old new : World) (f : Frame)
    (r : Result A Fault) (m : Tried State) → Gives (λ _. state_of f new qs) r m
    → kept_of new ≡ kept_of old → Leads qs old f new r m
counted_leads qs old new f (Ok a) m h k =
    (qs, h, lists_kept qs old new (ap (λ (x : Kept). x.constraints) k))
counted_leads qs old new f (Err e) m h k = h

pub counted_led : (qs : List Equation) (old new : World) (f : Frame) (m : Tried State)
    → m ≡ Ok (state_of f new qs) → kept_of new ≡ kept_of old → Led qs old f new m
counted_led qs old new f m h k =
    (qs, h, lists_kept qs old new (ap (λ (x : Kept). x.constraints) k))
