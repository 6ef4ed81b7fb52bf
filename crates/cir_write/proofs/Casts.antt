-- Components with their cells and steps, as they are created.
use Rattle.std.proofs.Common.{◌≡◌, ◌∙◌, ℕ, suc, false, List, [], ◌∷◌, ◌++◌, length, map, Some, refl}
use Rattle.std.proofs.Common.{sym, ap, subst, slice_get, append_assoc}
use Rattle.std.specs.declared.vec.Vec.{Vec}
use Rattle.std.specs.declared.alloc.Global.{Global}
use Rattle.cir_meaning.specs.Tried.{Where, next}
use Rattle.cir_meaning.specs.Arrays.{Datum}
use Rattle.cir_meaning.specs.Costs.{Made as Key}
use Rattle.cir_meaning.specs.Declaring.{Creation}
use Rattle.cir_meaning.specs.Frame.{Context, Part, State}
use Rattle.cir_meaning.specs.Run.{RunPart}
use Rattle.cir_arrays.specs.Shown.{datum_of}
use Rattle.cir_frame.specs.declared.frame.Frame.{Frame}
use Rattle.cir_frame.specs.Shown.{part_of}
use Rattle.cir_steps.specs.Emission.{Emission}
use Rattle.cir_steps.specs.Making.{Cast as AnyCast, with_cast}
use Rattle.cir_steps.specs.Step.{Step}
use Rattle.cir_make.specs.declared.cells.Cells.{Cells}
use Rattle.wit_circuit.specs.declared.columns.MadeStep.{MadeStep}
use Rattle.cir_make.specs.declared.cells.PartCells.{PartCells}
use Rattle.cir_make.specs.declared.whole.Cast.{Cast}
use Rattle.cir_make.specs.declared.whole.Whole.{Whole}
use Rattle.cir_make.specs.Cells.{AreMade, IsMadeStep, wires_by}
use Rattle.cir_make.specs.Housed.{AreHomes}
use Rattle.cir_make.specs.Means.{IsCast}
use Rattle.cir_make.specs.Shows.{AreSourced, AreWaiting, HavePorts, IsKept, SameWires, keys_of}
use Rattle.cir_make.proofs.Growing.{made_grows, waiting_grows}
use Rattle.cir_write.specs.Waiting.{WasMade}

-- ---- one more component
waiting_more : (keys : List Key) (bs : List (List Step)) (ds : List Part) (cs : List PartCells)
    (b : List Step) (d : Part) (c : PartCells) → AreWaiting keys bs ds cs
    → AreMade keys b c.steps.items
    → AreWaiting keys (bs ++ b ∷ []) (ds ++ d ∷ []) (cs ++ c ∷ [])
waiting_more keys [] [] [] b d c h made = ((λ no. made), tt)
waiting_more keys [] [] (x ∷ cs) b d c h made = absurd h
waiting_more keys [] (e ∷ ds) [] b d c h made = absurd h
waiting_more keys [] (e ∷ ds) (x ∷ cs) b d c h made = absurd h
waiting_more keys (a ∷ bs) [] [] b d c h made = absurd h
waiting_more keys (a ∷ bs) [] (x ∷ cs) b d c h made = absurd h
waiting_more keys (a ∷ bs) (e ∷ ds) [] b d c h made = absurd h
waiting_more keys (a ∷ bs) (e ∷ ds) (x ∷ cs) b d c h made =
    (h.0, waiting_more keys bs ds cs b d c h.1 made)

ports_more : (rs : List RunPart) (cs : List PartCells) (r : RunPart) (c : PartCells)
    → HavePorts rs cs → SameWires r.ports (wires_by c.ports.items)
    → AreHomes r.inside c.inside.items → HavePorts (rs ++ r ∷ []) (cs ++ c ∷ [])
ports_more [] [] r c h same homes = (same, homes, tt)
ports_more [] (x ∷ cs) r c h same homes = absurd h
ports_more (e ∷ rs) [] r c h same homes = absurd h
ports_more (e ∷ rs) (x ∷ cs) r c h same homes =
    (h.0, h.1, ports_more rs cs r c h.2 same homes)

-- a component with what its body gives
abbrev pub part_of_cast : Cast → PartCells
part_of_cast cast = record { ports = cast.ports; inside = cast.inside; steps = cast.steps }

-- there are as many lists of steps as components
pub as_many : (keys : List Key) (bs : List (List Step)) (ds : List Part) (cs : List PartCells)
    → AreWaiting keys bs ds cs → length bs ≡ length cs
as_many keys [] [] [] h = refl
as_many keys [] [] (c ∷ cs) h = absurd h
as_many keys [] (d ∷ ds) [] h = absurd h
as_many keys [] (d ∷ ds) (c ∷ cs) h = absurd h
as_many keys (b ∷ bs) [] [] h = absurd h
as_many keys (b ∷ bs) [] (c ∷ cs) h = absurd h
as_many keys (b ∷ bs) (d ∷ ds) [] h = absurd h
as_many keys (b ∷ bs) (d ∷ ds) (c ∷ cs) h = ap (λ (n : ℕ). suc n) (as_many keys bs ds cs h.1)

last_is : {A : Type 0} (xs : List A) (x y : A) → slice_get (xs ++ x ∷ []) (length xs) ≡ Some y
    → x ≡ y
last_is [] x y h = cc
last_is (z ∷ xs) x y h = last_is xs x y h

pub kept_cast : (p : List Key) (f g : Frame) (c : Cells) (ports : Vec PartCells Global)
    (old new : Whole) (cast : Cast) (o : AnyCast) (k : Context) (w : Where) (x : Creation)
    (s : State) (z : Emission) (steps : List Step) (d : Part)
    → map datum_of g.variables.items ≡ map datum_of f.variables.items
    → map part_of g.parts.items ≡ map part_of f.parts.items ++ d ∷ []
    → ports.items ≡ c.parts.items ++ part_of_cast cast ∷ []
    → IsCast old new cast o → IsKept p f c old.made z steps
    → IsKept p g record c { parts = ports } new.made (with_cast k w x o s z) steps
kept_cast p f g c ports old new cast o k w x s z steps d variables parts more is h = record {
  next = is.next;
  own = h.own;
  parts = subst (λ (l : List PartCells). HavePorts (with_cast k w x o s z).cells.parts l)
      (sym more) (ports_more z.cells.parts c.parts.items _ one h.parts is.ports is.inside);
  sources = subst (λ (ds : List Datum). AreSourced ds z.sources c.variables.items)
      (sym variables) h.sources;
  waiting = subst (λ (l : List PartCells). AreWaiting (keys_of new.made) (z.bodies ++ o.steps ∷ [])
      (map part_of g.parts.items) l) (sym more)
      (subst (λ (ps : List Part). AreWaiting (keys_of new.made) (z.bodies ++ o.steps ∷ []) ps
      (c.parts.items ++ one ∷ [])) (sym parts)
      (waiting_more (keys_of new.made) z.bodies (map part_of f.parts.items) c.parts.items o.steps d
      one (subst (λ (ks : List Key). AreWaiting ks z.bodies (map part_of f.parts.items)
      c.parts.items) (sym is.keys) (waiting_grows (keys_of old.made) is.later z.bodies
      (map part_of f.parts.items) c.parts.items h.waiting)) is.steps));
  steps_made = subst (λ (ks : List Key). AreMade ks steps c.steps.items) (sym is.keys)
      (made_grows (keys_of old.made) is.later steps c.steps.items h.steps_made);
  later = h.later ++ is.later;
  keys = is.keys ∙ ap (λ (l : List Key). l ++ is.later) h.keys ∙ append_assoc p h.later is.later;
}
  where
    one : PartCells
    one = part_of_cast cast

-- the steps of the new component are made
pub was_cast : (keys : List Key) (c : Cells) (ports : Vec PartCells Global) (cast : Cast)
    (o : AnyCast) (k : Context) (w : Where) (x : Creation) (s : State) (z : Emission) (j : ℕ)
    → ports.items ≡ c.parts.items ++ part_of_cast cast ∷ []
    → j ≡ length c.parts.items → length z.bodies ≡ length c.parts.items
    → AreMade keys o.steps cast.steps.items
    → WasMade keys (Some j) false (with_cast k w x o s z) record c { parts = ports }
was_cast keys c ports cast o k w x s z j more at count made = λ no steps cells at_steps at_cells.
    let one : PartCells = part_of_cast cast in
    let steps_is : o.steps ≡ steps =
    last_is z.bodies o.steps steps
    (ap (λ (n : ℕ). slice_get (z.bodies ++ o.steps ∷ []) n) (count ∙ sym at) ∙ at_steps) in
    let cells_is : one ≡ cells =
    last_is c.parts.items one cells
    (ap (λ (n : ℕ). slice_get (c.parts.items ++ one ∷ []) n) (sym at)
    ∙ ap (λ (l : List PartCells). slice_get l j) (sym more) ∙ at_cells) in
    subst (λ (l : List Step). AreMade keys l cells.steps.items) steps_is
    (subst (λ (e : PartCells). AreMade keys o.steps e.steps.items) cells_is made)
