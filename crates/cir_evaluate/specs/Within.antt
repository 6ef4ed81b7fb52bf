-- Where an expression is evaluated, as the meaning has it.
use Rattle.std.specs.Prelude.{◌≡◌, ℕ, List, [], map, Option, OnOk, Result}
use Rattle.std.specs.Borrow.{MutBor}
use Rattle.std.specs.declared.vec.Vec.{Vec}
use Rattle.std.specs.declared.alloc.Global.{Global}
use Rattle.cir_ast.specs.declared.program.Spot.{Spot}
use Rattle.cir_ast.specs.Program.{bare_program}
use Rattle.gold_field.specs.declared.form.Constraint.{Constraint}
use Rattle.cir_meaning.specs.Source.{Equation}
use Rattle.cir_meaning.specs.Limits.{nothing}
use Rattle.cir_meaning.specs.Tried.{Where}
use Rattle.cir_meaning.specs.Frame as M
use Rattle.cir_meaning.specs.Frame.{Caller, Maker, Context}
use Rattle.cir_meaning.specs.Compile.{group_size}
use Rattle.cir_arrays.specs.declared.arrays.Datum.{Datum as CodeDatum}
use Rattle.cir_arrays.specs.declared.stop.Fault.{Fault}
use Rattle.cir_frame.specs.declared.world.World.{World}
use Rattle.cir_arrays.specs.Stopped.{Gives}
use Rattle.cir_arrays.specs.Shown.{datum_of}
use Rattle.cir_frame.specs.Shown.{group_by, world_of}
use Rattle.cir_evaluate.specs.declared.context.Context.{Context as CodeContext}
use Rattle.cir_evaluate.specs.declared.context.Here.{Here}

-- a statement of the body
abbrev pub at_spot : {C : Type 0} → CodeContext C → Spot → Where
at_spot c spot =
    record { file = c.file; spot = spot; instance = c.instance; path = c.path.now }

-- an expression's place
abbrev pub where_at : {C : Type 0} → Here C → Where
where_at h = at_spot h.context.now h.spot

-- what holds of a call of the closure, with the world before and behind it
abbrev pub Called : Type 1
Called = Spot → ℕ → Vec CodeDatum Global → MutBor World → Result CodeDatum Fault → MutBor World
    → Type 0

-- all of a world but what is counted
pub record Kept : Type 0 where
  pub world : M.World
  pub constraints : List Constraint

abbrev pub kept_of : World → Kept
kept_of w = record {
  world = record (world_of w []) { counts = nothing };
  constraints = w.constraints.items;
}

-- what a call of a function and the creation of a component mean in the body: the closure answers
-- what the call means
pub record Means {C : Type 0} (post : Called) (c : CodeContext C) : Type 0 where
  pub call : Caller
  pub make : Option Maker
  pub gives : (spot : Spot) (f : ℕ) (ds : Vec CodeDatum Global) (old new : MutBor World)
      (r : Result CodeDatum Fault) (qs : List Equation) → post spot f ds old r new
      → Gives (λ d. (datum_of d, world_of new.now qs)) r
      (call (at_spot c spot) f (map datum_of ds.items) (world_of old.now qs))
  pub added : (spot : Spot) (f : ℕ) (ds : Vec CodeDatum Global) (old new : MutBor World)
      (r : Result CodeDatum Fault) → post spot f ds old r new
      → OnOk r (new.now.added ≡ old.now.added)
  pub keeps : (spot : Spot) (f : ℕ) (ds : Vec CodeDatum Global) (old new : MutBor World)
      (r : Result CodeDatum Fault) → post spot f ds old r new
      → kept_of new.now ≡ kept_of old.now

abbrev pub context_of : {C : Type 0} → CodeContext C → Caller → Option Maker → Context
context_of c call make = record {
  program = bare_program c.program.now;
  group_size = group_size;
  file = c.file;
  instance = c.instance;
  path = c.path.now;
  group = group_by c.grouping;
  named_components = c.named_components;
  call = call;
  make = make;
}

-- an expression's context
abbrev pub context_at : {C : Type 0} → {post : Called} → (h : Here C) → Means post h.context.now
    → Context
context_at h m = context_of h.context.now m.call m.make
