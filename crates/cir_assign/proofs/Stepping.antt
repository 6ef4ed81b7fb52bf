-- Steps of the code, one after the other.
use Rattle.std.proofs.Common.{◌≡◌, ◌^◌, List, Result, Ok, Err, refl, sym, subst, Bor}
use Rattle.std.proofs.Common.{false}
use Rattle.std.specs.Prelude.{IsErrAnd}
use Rattle.cir_ast.specs.declared.program.Spot.{Spot}
use Rattle.gold_field.specs.declared.form.Constraint.{Constraint}
use Rattle.cir_meaning.specs.Tried.{Tried, next}
use Rattle.cir_meaning.specs.Source.{Equation, IsSource}
use Rattle.cir_meaning.specs.Frame.{Context, State}
use Rattle.cir_frame.specs.declared.frame.Frame.{Frame}
use Rattle.cir_frame.specs.declared.world.World.{World}
use Rattle.cir_arrays.specs.declared.stop.Fault.{Fault}
use Rattle.cir_arrays.specs.declared.stop.Fault.TheVariants.{OutOfMemory}
use Rattle.cir_arrays.specs.Stopped.{Gives, IsRefusal}
use Rattle.cir_arrays.proofs.Exits.{exits}
use Rattle.cir_frame.specs.Shown.{state_of}
use Rattle.cir_evaluate.specs.declared.context.Context.{Context as CodeContext}
use Rattle.cir_evaluate.specs.declared.context.Here.{Here}
use Rattle.cir_evaluate.specs.Within.{Called, Means, context_at, context_of}
use Rattle.cir_assign.specs.Leads.{Leads, Lists}

pub lists_kept : (qs : List Equation) (old new : World)
    → new.constraints.items ≡ old.constraints.items → Lists qs old qs new
lists_kept qs old new e = record {
  listed = λ s. subst (λ (ks : List Constraint). IsSource (2 ^ 32) qs ks) (sym e) s;
}

pub lists_next : (qs es fs : List Equation) (old mid new : World) → Lists qs old es mid
    → Lists es mid fs new → Lists qs old fs new
lists_next qs es fs old mid new a b = record { listed = λ s. b.listed (a.listed s) }

-- what it goes on from
pub gone_on : {A B : Type 0} (m : Tried A) (go : A → B) (b : B)
    → next m (λ a. Ok (go a)) ≡ Ok b → (a : A) × (m ≡ Ok a) × (go a ≡ b)
gone_on (Ok a) go b h = (a, refl, cc)
gone_on (Err e) go b h = absurd (cc)

pub next_next : {A B C : Type 0} (m : Tried A) (f : A → Tried B) (g : B → Tried C)
    → next (next m f) g ≡ next m (λ a. next (f a) g)
next_next (Ok a) f g = refl
next_next (Err e) f g = refl

pub leads_refused : {A : Type 0} (qs : List Equation) (old : World) (f : Frame) (new : World)
    (r : Result A Fault) (e : Fault) (m : Tried State) → IsErrAnd r (λ x. x ≡ e)
    → IsRefusal e m → Leads qs old f new r m
leads_refused qs old f new (Ok a) e m is h = absurd is
leads_refused qs old f new (Err x) e m is h = rw is h

pub leads_exit : {A X : Type 0} (qs : List Equation) (old : World) (f : Frame) (new : World)
    (r : Result A Fault) (e : Fault) (m : Tried X) (go : X → Tried State)
    → IsErrAnd r (λ x. x ≡ e) → IsRefusal e m → Leads qs old f new r (next m go)
leads_exit qs old f new r e m go is h = leads_refused qs old f new r e (next m go) is (exits e m go
    h)

-- want of memory may come at any step
pub leads_memory : {A : Type 0} (qs : List Equation) (old : World) (f : Frame) (new : World)
    (r : Result A Fault) (m : Tried State) → IsErrAnd r (λ x. x ≡ OutOfMemory)
    → Leads qs old f new r m
leads_memory qs old f new (Ok a) m is = absurd is
leads_memory qs old f new (Err x) m is = rw is tt

pub leads_go : {A X : Type 0} (qs : List Equation) (old : World) (f : Frame) (new : World)
    (r : Result A Fault) (m : Tried X) (x : X) (go : X → Tried State) → m ≡ Ok x
    → Leads qs old f new r (go x) → Leads qs old f new r (next m go)
leads_go qs old f new r m x go e h =
    subst (λ z. Leads qs old f new r (next z go)) (sym e) h

pub leads_as : {A : Type 0} (qs : List Equation) (old : World) (f : Frame) (new : World)
    (r : Result A Fault) (m n : Tried State) → m ≡ n → Leads qs old f new r n
    → Leads qs old f new r m
leads_as qs old f new r m n e h = subst (λ z. Leads qs old f new r z) (sym e) h

pub leads_after : {A : Type 0} (qs es : List Equation) (old mid : World) (f : Frame) (new : World)
    (r : Result A Fault) (m : Tried State) → Lists qs old es mid → Leads es mid f new r m
    → Leads qs old f new r m
leads_after qs es old mid f new (Ok a) m l h =
    (h.0, h.1, lists_next qs es h.0 old mid new l h.2)
leads_after qs es old mid f new (Err x) m l h = h

-- behind what adds no constraint
pub leads_behind : {A : Type 0} (qs : List Equation) (old mid : World) (f : Frame) (new : World)
    (r : Result A Fault) (m n : Tried State) → m ≡ n
    → mid.constraints.items ≡ old.constraints.items → Leads qs mid f new r n
    → Leads qs old f new r m
leads_behind qs old mid f new r m n e kept h =
    leads_as qs old f new r m n e (leads_after qs qs old mid f new r n (lists_kept qs old mid kept)
    h)

-- a step that leads to a state, and what follows it
pub leads_next : {A : Type 0} (qs : List Equation) (old mid : World) (g f : Frame) (new : World)
    (r : Result A Fault) (m : Tried State) (go : State → Tried State)
    → (es : List Equation) × (m ≡ Ok (state_of g mid es)) × Lists qs old es mid
    → ((es : List Equation) → Leads es mid f new r (go (state_of g mid es)))
    → Leads qs old f new r (next m go)
leads_next qs old mid g f new r m go step h =
    leads_go qs old f new r m (state_of g mid step.0) go step.1
    (leads_after qs step.0 old mid f new r _ step.2 (h step.0))

-- a step of the meaning that adds no constraint
pub leads_step : {A : Type 0} (es : List Equation) (old : World) (f : Frame) (new : World)
    (r : Result A Fault) (m : Tried State) → Gives (λ a. state_of f new es) r m
    → new.constraints.items ≡ old.constraints.items → Leads es old f new r m
leads_step es old f new (Ok a) m h e = (es, h, lists_kept es old new e)
leads_step es old f new (Err x) m h e = h

-- what is told of an expression of a statement, of the statement's place
pub here_told : {C : Type 0} (post : C → Called) (h : Here C) (b : Bor (CodeContext C))
    (spot : Spot) (P : Context → Spot → Type 0)
    → h ≡ record { context = b; spot = spot; shaded = false }
    → ((m : Means (post h.context.now.call.now) h.context.now) → h.shaded ≡ false
    → P (context_at h m) h.spot)
    → (m : Means (post b.now.call.now) b.now) → P (context_of b.now m.call m.make) spot
here_told post h b spot P e f m =
    subst (λ (x : Here _). (n : Means (post x.context.now.call.now) x.context.now)
    → x.shaded ≡ false → P (context_at x n) x.spot) e f m refl
