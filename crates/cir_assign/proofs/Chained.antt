-- Costs, one after the other.
use Rattle.std.proofs.Common.{◌≡◌, ◌+◌, List, [], ◌++◌, map, append_assoc, refl, ap}
use Rattle.std.proofs.Common.{sym, ◌∙◌, arith}
use Rattle.std.proofs.lemmas.List.{append-nil}
use Rattle.cir_meaning.specs.Limits.{nothing, standing}
use Rattle.cir_meaning.specs.Source.{Equation}
use Rattle.cir_meaning.specs.Frame.{State, World as AnyWorld, uncounted}
use Rattle.cir_meaning.specs.Costs.{Cell, Made, node, both}
use Rattle.cir_meaning.specs.Costs as M
use Rattle.cir_frame.specs.declared.frame.Frame.{Frame}
use Rattle.cir_frame.specs.declared.world.World.{World}
use Rattle.cir_frame.specs.Shown.{frame_of, state_of, world_of}
use Rattle.cir_evaluate.specs.Within.{Kept, kept_of}
use Rattle.cir_cost.specs.declared.cost.Cost.{Cost}
use Rattle.cir_cost.specs.Adds.{Adds, IsCost, cell_of, read_alone}
use Rattle.cir_assign.proofs.PaidCosts.{paid}

pub cost_next : (old new : Cost) (c d : M.Cost) → IsCost old c → Adds old new d
    → IsCost new (both c d)
cost_next old new c d h a = record {
  nodes = omega (arith, h.nodes, a.nodes);
  reads = a.reads ∙ ap (λ (l : List Cell). l ++ d.reads) h.reads;
  calls = a.calls ∙ ap (λ (l : List Made). l ++ d.calls) h.calls;
}

pub adds_next : (x y z : Cost) (c d : M.Cost) → Adds x y c → Adds y z d → Adds x z (both c d)
adds_next x y z c d a b = record {
  nodes = omega (arith, a.nodes, b.nodes);
  reads = b.reads ∙ ap (λ (l : List Cell). l ++ d.reads) a.reads
      ∙ append_assoc (map cell_of x.reads.items) c.reads d.reads;
  calls = b.calls ∙ ap (λ (l : List Made). l ++ d.calls) a.calls
      ∙ append_assoc _ c.calls d.calls;
}

cost_as : (x : Cost) (c d : M.Cost) → IsCost x c → c.nodes ≡ d.nodes → c.reads ≡ d.reads
    → c.calls ≡ d.calls → IsCost x d
cost_as x c d h n r s = record {
  nodes = h.nodes ∙ ap standing n;
  reads = h.reads ∙ r;
  calls = h.calls ∙ s;
}

pub paid_unread : (x y z : Cost) (a : M.Cost) → IsCost x (node 0) → Adds x y (node 1)
    → Adds y z a → IsCost z (paid a [])
paid_unread x y z a h one more =
    cost_as z (both (both (node 0) (node 1)) a) (paid a [])
    (cost_next y z (both (node 0) (node 1)) a (cost_next x y (node 0) (node 1) h one) more)
    (omega arith) (sym (append-nil a.reads)) refl

pub paid_read : (x y z u : Cost) (a : M.Cost) (olds : List Cell) → IsCost x (node 0)
    → Adds x y (node 1) → Adds y z a → Adds z u (read_alone olds) → IsCost u (paid a olds)
paid_read x y z u a olds h one more last =
    cost_as u (both (both (both (node 0) (node 1)) a) (read_alone olds)) (paid a olds)
    (cost_next z u (both (both (node 0) (node 1)) a) (read_alone olds)
    (cost_next y z (both (node 0) (node 1)) a (cost_next x y (node 0) (node 1) h one) more) last)
    (omega arith) refl (append-nil a.calls)

-- two nodes above two costs
pub two_paid : (x y z u v : Cost) (a b : M.Cost) → IsCost x (node 0) → Adds x y (node 1)
    → Adds y z (node 1) → Adds z u a → Adds u v b
    → IsCost v (record (both a b) { nodes = 1 + (1 + (b.nodes + a.nodes)) })
two_paid x y z u v a b h one two first second =
    cost_as v (both (both (both (both (node 0) (node 1)) (node 1)) a) b)
    (record (both a b) { nodes = 1 + (1 + (b.nodes + a.nodes)) })
    (cost_next u v (both (both (both (node 0) (node 1)) (node 1)) a) b
    (cost_next z u (both (both (node 0) (node 1)) (node 1)) a
    (cost_next y z (both (node 0) (node 1)) (node 1)
    (cost_next x y (node 0) (node 1) h one) two) first) second)
    (omega arith) refl refl

pub one_paid : (x y z u : Cost) (a b : M.Cost) → IsCost x (node 0) → Adds x y (node 1)
    → Adds y z a → Adds z u b → IsCost u (both (node 1) (both a b))
one_paid x y z u a b h one first second =
    cost_as u (both (both (both (node 0) (node 1)) a) b) (both (node 1) (both a b))
    (cost_next z u (both (both (node 0) (node 1)) a) b
    (cost_next y z (both (node 0) (node 1)) a (cost_next x y (node 0) (node 1) h one) first)
    second) (omega arith) refl refl

-- what is counted alone differs
pub uncounted_kept : (f : Frame) (old new : World) (qs : List Equation)
    → kept_of new ≡ kept_of old
    → uncounted (state_of f new qs) ≡ uncounted (state_of f old qs)
uncounted_kept f old new qs e =
    ap (λ (k : Kept). shown k) e
  where
    shown : Kept → State
    shown k = record { frame = frame_of f nothing; world = record (k.world) { equations = qs } }

-- one more constraint changes nothing else of the world
pub uncounted_world : (f : Frame) (old new : World) (qs : List Equation)
    → world_of new qs ≡ world_of old qs
    → uncounted (state_of f new qs) ≡ uncounted (state_of f old qs)
uncounted_world f old new qs e =
    ap (λ (z : AnyWorld). shown z) e
  where
    shown : AnyWorld → State
    shown z = record { frame = frame_of f nothing; world = record z { counts = nothing } }
