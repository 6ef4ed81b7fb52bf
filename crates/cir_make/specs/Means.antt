-- What the making of a component means in a body whose steps are made.
use Rattle.std.specs.Prelude.{◌≡◌, ℕ, ◌++◌, if◌then◌else◌, List, map, Some, None, Result, Ok, Err}
use Rattle.std.specs.Prelude.{OnOk}
use Rattle.std.specs.Borrow.{MutBor}
use Rattle.std.proofs.Common.{Bor}
use Rattle.std.specs.declared.vec.Vec.{Vec}
use Rattle.std.specs.declared.alloc.Global.{Global}
use Rattle.cir_ast.specs.declared.program.Spot.{Spot}
use Rattle.cir_meaning.specs.Source.{Equation}
use Rattle.cir_meaning.specs.Tried.{Tried, Where, next}
use Rattle.cir_meaning.specs.Arrays as A
use Rattle.cir_meaning.specs.Costs.{Made as Key}
use Rattle.cir_meaning.specs.Frame as M
use Rattle.cir_meaning.specs.Frame.{Maker}
use Rattle.cir_arrays.specs.declared.arrays.Datum.{Datum}
use Rattle.cir_arrays.specs.declared.stop.Fault.{Fault}
use Rattle.cir_arrays.specs.Stopped.{IsRefusal}
use Rattle.cir_arrays.specs.Shown.{datum_of}
use Rattle.cir_frame.specs.Shown.{signals_of, world_of}
use Rattle.cir_evaluate.specs.Within.{Called, Means, at_spot, context_of}
use Rattle.cir_assign.specs.Leads.{IsListed}
use Rattle.cir_steps.specs.Making as S
use Rattle.cir_steps.specs.Making.{Caster, Emitting}
use Rattle.cir_make.specs.declared.whole.Body.{Body}
use Rattle.cir_make.specs.declared.whole.Cast.{Cast}
use Rattle.cir_make.specs.declared.whole.Whole.{Whole}
use Rattle.cir_make.specs.Cells.{AreMade, wires_by}
use Rattle.cir_make.specs.Housed.{AreHomes}
use Rattle.cir_make.specs.Shows.{SameWires, keys_of}

-- what holds of a creation by the closure, with the program before and behind it
abbrev pub Casting : Type 1
Casting = Spot → ℕ → Vec Datum Global → Bor (List ℕ) → MutBor Whole → Result Cast Fault
    → MutBor Whole → Type 0

-- a template's signals in the world that its body leaves, and its steps
abbrev pub made_by : Maker → Caster → Where → ℕ → List A.Datum → List ℕ → M.World → (next : ℕ)
    → Tried ((M.Signals × M.World) × S.Cast)
made_by maker cast w t ds path world next_cell =
    next (maker w t ds path world) (λ made. next (cast w t ds path world next_cell)
    (λ o. Ok (made, o)))

pub record IsCast (old new : Whole) (c : Cast) (o : S.Cast) : Type 0 where
  pub ports : SameWires o.own (wires_by c.ports.items)
  pub inside : AreHomes o.inside c.inside.items
  pub steps : AreMade (keys_of new.made) o.steps c.steps.items
  pub next : o.next ≡ new.made.next
  pub later : List Key
  pub keys : keys_of new.made ≡ keys_of old.made ++ later

abbrev pub Casts : List Equation → (old new : Whole) → Result Cast Fault
    → Tried ((M.Signals × M.World) × S.Cast) → Type 0
Casts qs old new (Ok c) m =
    (es : List Equation) × (o : S.Cast)
    × (m ≡ Ok ((signals_of c.signals.items, world_of new.world es), o))
    × IsListed es new.world × IsCast old new c o
Casts qs old new (Err f) m = IsRefusal f m

-- The closures answer what they mean. There are some keys at first: those that there were when the
-- body began.
pub record BodyMeans {C M : Type 0} (calls : Called) (makes : Casting) (b : Body C M)
    : Type 0 where
  pub means : Means calls b.context.now
  pub maker : Maker
  pub cast : Caster
  pub first : List Key
  pub room : means.make ≡ (if b.may_make then Some maker else None)
  pub casts : (spot : Spot) (t : ℕ) (ds : Vec Datum Global) (path : Bor (List ℕ))
      (old new : MutBor Whole) (r : Result Cast Fault) (qs : List Equation)
      → makes spot t ds path old r new → IsListed qs old.now.world
      → Casts qs old.now new.now r
      (made_by maker cast (at_spot b.context.now spot) t (map datum_of ds.items) path.now
      (world_of old.now.world qs) old.now.made.next)
  pub added : (spot : Spot) (t : ℕ) (ds : Vec Datum Global) (path : Bor (List ℕ))
      (old new : MutBor Whole) (r : Result Cast Fault) → makes spot t ds path old r new
      → OnOk r (new.now.world.added ≡ old.now.world.added)

abbrev pub emitting_in : {C M : Type 0} → {calls : Called} → {makes : Casting} → (b : Body C M)
    → BodyMeans calls makes b → Emitting
emitting_in b m =
    record { context = context_of b.context.now m.means.call m.means.make; cast = m.cast }
