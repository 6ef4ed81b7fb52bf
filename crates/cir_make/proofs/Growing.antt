-- Steps that are made stay so where keys are added, and one more step is made.
use Rattle.std.proofs.Common.{◌≡◌, ◌∙◌, List, [], ◌∷◌, ◌++◌, map, ap, append_assoc, subst}
use Rattle.std.proofs.Common.{sym}
use Rattle.std.specs.declared.vec.Vec.{Vec}
use Rattle.std.specs.declared.alloc.Global.{Global}
use Rattle.cir_meaning.specs.Costs.{Made as Key}
use Rattle.cir_meaning.specs.Frame.{Part}
use Rattle.cir_frame.specs.Shown.{part_of}
use Rattle.cir_frame.specs.declared.frame.Frame.{Frame}
use Rattle.cir_steps.specs.Emission.{Emission}
use Rattle.cir_steps.specs.Step.{Step}
use Rattle.wit_circuit.specs.declared.columns.MadeStep.{MadeStep}
use Rattle.wit_procs.specs.Table.{Grows}
use Rattle.cir_make.specs.declared.cells.Cells.{Cells}
use Rattle.cir_make.specs.declared.cells.PartCells.{PartCells}
use Rattle.cir_make.specs.declared.whole.Made.{Made}
use Rattle.cir_make.specs.Cells.{AreMade, IsMadeStep}
use Rattle.cir_make.specs.Shows.{AreWaiting, IsKept, keys_of}

-- ---- more keys
step_grows : (keys later : List Key) (s : Step) (m : MadeStep) → IsMadeStep keys s m
    → IsMadeStep (keys ++ later) s m
step_grows keys later s m h = record {
  is = h.is;
  code = record {
    then_keys = h.code.then_keys;
    later = h.code.later ++ later;
    front = ap (λ (l : List Key). l ++ later) h.code.front
        ∙ append_assoc h.code.then_keys h.code.later later;
    sources = h.code.sources;
    are = h.code.are;
    code = h.code.code;
    reads = h.code.reads;
    writes = h.code.writes;
  };
}

pub made_grows : (keys later : List Key) (ss : List Step) (ms : List MadeStep)
    → AreMade keys ss ms → AreMade (keys ++ later) ss ms
made_grows keys later [] [] h = tt
made_grows keys later [] (m ∷ ms) h = absurd h
made_grows keys later (s ∷ ss) [] h = absurd h
made_grows keys later (s ∷ ss) (m ∷ ms) h =
    (step_grows keys later s m h.0, made_grows keys later ss ms h.1)

pub waiting_grows : (keys later : List Key) (bs : List (List Step)) (ds : List Part)
    (cs : List PartCells) → AreWaiting keys bs ds cs → AreWaiting (keys ++ later) bs ds cs
waiting_grows keys later [] [] [] h = tt
waiting_grows keys later [] [] (c ∷ cs) h = absurd h
waiting_grows keys later [] (d ∷ ds) [] h = absurd h
waiting_grows keys later [] (d ∷ ds) (c ∷ cs) h = absurd h
waiting_grows keys later (b ∷ bs) [] [] h = absurd h
waiting_grows keys later (b ∷ bs) [] (c ∷ cs) h = absurd h
waiting_grows keys later (b ∷ bs) (d ∷ ds) [] h = absurd h
waiting_grows keys later (b ∷ bs) (d ∷ ds) (c ∷ cs) h =
    ((λ no. made_grows keys later b c.steps.items (h.0 no)), waiting_grows keys later bs ds cs h.1)

-- ---- one more step
made_more : (keys : List Key) (ss : List Step) (ms : List MadeStep) (s : Step) (m : MadeStep)
    → AreMade keys ss ms → IsMadeStep keys s m → AreMade keys (ss ++ s ∷ []) (ms ++ m ∷ [])
made_more keys [] [] s m h made = (made, tt)
made_more keys [] (x ∷ ms) s m h made = absurd h
made_more keys (x ∷ ss) [] s m h made = absurd h
made_more keys (x ∷ ss) (y ∷ ms) s m h made = (h.0, made_more keys ss ms s m h.1 made)

pub kept_step : (first : List Key) (f : Frame) (c : Cells) (steps : Vec MadeStep Global)
    (old new : Made) (x : Emission) (ss : List Step) (s : Step) (m : MadeStep)
    → new.next ≡ old.next → Grows (keys_of old) (keys_of new)
    → steps.items ≡ c.steps.items ++ m ∷ [] → IsMadeStep (keys_of new) s m
    → IsKept first f c old x ss
    → IsKept first f record c { steps = steps } new x (ss ++ s ∷ [])
kept_step first f c steps old new x ss s m next grows more made h = record {
  next = h.next ∙ sym next;
  own = h.own;
  parts = h.parts;
  sources = h.sources;
  waiting = subst (λ (ks : List Key). AreWaiting ks x.bodies (map part_of f.parts.items)
      c.parts.items) (sym grows.is) (waiting_grows (keys_of old) grows.later x.bodies
      (map part_of f.parts.items) c.parts.items h.waiting);
  steps_made = subst (λ (ms : List MadeStep). AreMade (keys_of new) (ss ++ s ∷ []) ms) (sym more)
      (made_more (keys_of new) ss c.steps.items s m
      (subst (λ (ks : List Key). AreMade ks ss c.steps.items) (sym grows.is)
      (made_grows (keys_of old) grows.later ss c.steps.items h.steps_made)) made);
  later = h.later ++ grows.later;
  keys = grows.is ∙ ap (λ (l : List Key). l ++ grows.later) h.keys
      ∙ append_assoc first h.later grows.later;
}
