-- What the creation of a component means in a body.
use Rattle.std.specs.Prelude.{◌≡◌, ℕ, if◌then◌else◌, List, map, Option, Some, None}
use Rattle.std.specs.Prelude.{OnOk, Result, Ok, Err}
use Rattle.std.specs.Borrow.{MutBor}
use Rattle.std.proofs.Common.{Bor}
use Rattle.std.specs.declared.vec.Vec.{Vec}
use Rattle.std.specs.declared.alloc.Global.{Global}
use Rattle.cir_ast.specs.declared.program.Spot.{Spot}
use Rattle.cir_meaning.specs.Source.{Equation}
use Rattle.cir_meaning.specs.Tried.{Tried}
use Rattle.cir_meaning.specs.Frame as M
use Rattle.cir_meaning.specs.Frame.{Context, Maker}
use Rattle.cir_arrays.specs.declared.arrays.Datum.{Datum}
use Rattle.cir_frame.specs.declared.signal.SignalEntry.{SignalEntry}
use Rattle.cir_arrays.specs.declared.stop.Fault.{Fault}
use Rattle.cir_frame.specs.declared.world.World.{World}
use Rattle.cir_arrays.specs.Stopped.{IsRefusal}
use Rattle.cir_arrays.specs.Shown.{datum_of}
use Rattle.cir_frame.specs.Shown.{signals_of, world_of}
use Rattle.cir_evaluate.specs.Within.{Called, Means, at_spot, context_of}
use Rattle.cir_create.specs.declared.body.Body.{Body}
use Rattle.cir_assign.specs.Leads.{Lists}

abbrev pub Made : Type 0
Made = Result (Vec (Option SignalEntry) Global) Fault

-- what holds of a creation by the closure, with the world before and behind it
abbrev pub Creating : Type 1
Creating = Spot → ℕ → Vec Datum Global → Bor (List ℕ) → MutBor World → Made
    → MutBor World → Type 0

-- the signals are the meaning's, in the world that it leaves
abbrev pub Creates : List Equation → World → World → Made → Tried (M.Signals × M.World)
    → Type 0
Creates qs old new (Ok signals) m =
    (es : List Equation) × (m ≡ Ok (signals_of signals.items, world_of new es))
    × Lists qs old es new
Creates qs old new (Err f) m = IsRefusal f m

-- what calls of functions and creations mean in the body: the closures answer what they mean
pub record BodyMeans {C M : Type 0} (calls : Called) (makes : Creating) (b : Body C M)
    : Type 0 where
  pub means : Means calls b.context.now
  pub maker : Maker
  pub room : means.make ≡ (if b.may_make then Some maker else None)
  pub creates : (spot : Spot) (t : ℕ) (ds : Vec Datum Global) (path : Bor (List ℕ))
      (old new : MutBor World) (r : Made) (qs : List Equation) → makes spot t ds path old r new
      → Creates qs old.now new.now r
      (maker (at_spot b.context.now spot) t (map datum_of ds.items) path.now (world_of old.now qs))
  pub added : (spot : Spot) (t : ℕ) (ds : Vec Datum Global) (path : Bor (List ℕ))
      (old new : MutBor World) (r : Made) → makes spot t ds path old r new
      → OnOk r (new.now.added ≡ old.now.added)

-- the body's context
abbrev pub context_in : {C M : Type 0} → {calls : Called} → {makes : Creating}
    → (b : Body C M) → BodyMeans calls makes b → Context
context_in b m = context_of b.context.now m.means.call m.means.make
