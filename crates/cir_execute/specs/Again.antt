-- Costs that are the same but for what is read or called once more, which changes no step.
use Rattle.std.specs.Prelude.{◌≡◌, ◌⊎◌, List, [], ◌∷◌}
use Rattle.cir_meaning.specs.Costs as M
use Rattle.cir_meaning.specs.Source.{Equation}
use Rattle.cir_frame.specs.declared.frame.Frame.{Frame}
use Rattle.cir_frame.specs.declared.world.World.{World}
use Rattle.cir_frame.specs.Shown.{state_of}
use Rattle.cir_cost.specs.declared.cost.Cost.{Cost}
use Rattle.cir_cost.specs.Adds.{Adds, IsCost}

abbrev pub In : {A : Type 0} → A → List A → Type 0
In y [] = ⊥
In y (x ∷ xs) = (y ≡ x) ⊎ In y xs

-- the second list has what the first has, in its order, and again what is known or came before
abbrev pub Again : {A : Type 0} → (known first second : List A) → Type 0
Again known xs [] = xs ≡ []
Again {A} known xs (y ∷ ys) =
    (In y known × Again known xs ys)
    ⊎ ((rest : List A) × (xs ≡ y ∷ rest) × Again (y ∷ known) rest ys)

pub record Repeats (c d : M.Cost) : Type 0 where
  pub nodes : c.nodes ≡ d.nodes
  pub reads : Again [] c.reads d.reads
  pub calls : Again [] c.calls d.calls

-- a cost, or one that comes behind what is there, without some of what it has once more
pub record IsOnce (cost : Cost) (d : M.Cost) : Type 0 where
  pub once : M.Cost
  pub is : IsCost cost once
  pub repeats : Repeats once d

pub record AddsOnce (old new : Cost) (d : M.Cost) : Type 0 where
  pub once : M.Cost
  pub adds : Adds old new once
  pub repeats : Repeats once d

-- a world in which costs are asked for stays as it was
pub record IsUnchanged (old new : World) : Type 0 where
  pub states : (f : Frame) (qs : List Equation) → state_of f new qs ≡ state_of f old qs
  pub constraints : new.constraints.items ≡ old.constraints.items
