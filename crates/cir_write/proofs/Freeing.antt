-- Components whose steps follow once their inputs are written.
use Rattle.std.proofs.Common.{◌≡◌, ◌∙◌, ℕ, Bool, true, false, cond, List, [], ◌++◌, Option, Some}
use Rattle.std.proofs.Common.{None, map, refl, sym, ap, subst, slice_get}
use Rattle.std.specs.declared.vec.Vec.{Vec}
use Rattle.std.specs.declared.alloc.Global.{Global}
use Rattle.cir_meaning.specs.Arrays.{Datum}
use Rattle.cir_meaning.specs.Costs.{Made as Key}
use Rattle.cir_meaning.specs.Frame.{Part, State, is_fed}
use Rattle.cir_meaning.specs.Writing.{part_signals}
use Rattle.cir_arrays.specs.Shown.{datum_of}
use Rattle.cir_frame.specs.declared.frame.Frame.{Frame as CodeFrame}
use Rattle.cir_frame.specs.Shown.{part_of}
use Rattle.cir_steps.specs.Emission.{Emission, known_in, steps_in, waiting_steps}
use Rattle.cir_steps.specs.Making.{freed, freed_at}
use Rattle.cir_steps.specs.Step.{Step}
use Rattle.cir_make.specs.declared.cells.Cells.{Cells}
use Rattle.wit_circuit.specs.declared.columns.MadeStep.{MadeStep}
use Rattle.cir_make.specs.declared.cells.PartCells.{PartCells}
use Rattle.cir_make.specs.declared.cells.Run.{Run}
use Rattle.cir_make.specs.declared.cells.VariableCells.{VariableCells}
use Rattle.cir_make.specs.declared.whole.Made.{Made}
use Rattle.cir_make.specs.Cells.{AreMade, wires_by}
use Rattle.cir_make.specs.Shows.{AreSourced, AreWaiting, HavePorts, IsKept, SameWires, keys_of}
use Rattle.cir_write.specs.Waiting.{IsReleased, WasMade}
use Rattle.cir_write.proofs.Waits.{LeavesParts, made_behind, ports_put, waiting_at, waiting_put}
use Rattle.cir_write.proofs.Waits.{waiting_written}

-- ---- freed components
pub freed_now : (j : ℕ) (p : Part) (o : Option Part) (steps : List Step) (x : Emission)
    → o ≡ Some p → is_fed p.signals ≡ true → slice_get x.bodies j ≡ Some steps
    → freed j false o x ≡ steps
freed_now j p o steps x is fed there =
    ap (λ (z : Option Part). freed j false z x) is
    ∙ ap (λ (b : Bool). cond b (waiting_steps x j) []) fed
    ∙ ap (λ (z : Option (List Step)). steps_in z) there

pub kept_freed : (p : List Key) (f : CodeFrame) (old new : Cells) (made : Made) (x : Emission)
    (steps : List Step) (j : ℕ) → (known_in x).frame.parts ≡ map part_of f.parts.items
    → is_fed (part_signals (slice_get (map part_of f.parts.items) j)) ≡ true
    → WasMade (keys_of made) (Some j) false x old → IsReleased j old new
    → IsKept p f old made x steps
    → IsKept p f new made x (steps ++ freed_at (Some j) false x)
kept_freed p f old new made x steps j parts fed was r h =
    let w = waiting_at (keys_of made) x.bodies (map part_of f.parts.items) old.parts.items j r.part
    h.waiting r.there in
    let now : is_fed w.part.signals ≡ true =
    sym (ap (λ (o : Option Part). is_fed (part_signals o)) w.at_part) ∙ fed in
    let frees : freed_at (Some j) false x ≡ w.steps =
    freed_now j w.part (slice_get (known_in x).frame.parts j) w.steps x
    (ap (λ (ps : List Part). slice_get ps j) parts ∙ w.at_part) now w.at_steps in record {
      next = h.next;
      own = subst (λ (l : Vec (Vec Run Global) Global). SameWires x.cells.own (wires_by l.items))
          (sym r.signals) h.own;
      parts = subst (λ (l : List PartCells). HavePorts x.cells.parts l) (sym r.parts)
          (ports_put x.cells.parts old.parts.items j r.part r.left h.parts r.there r.ports
          r.inside);
      sources = subst (λ (l : Vec VariableCells Global). AreSourced
          (map datum_of f.variables.items) x.sources l.items) (sym r.variables) h.sources;
      waiting = subst (λ (l : List PartCells). AreWaiting (keys_of made) x.bodies
          (map part_of f.parts.items) l) (sym r.parts)
          (waiting_put (keys_of made) x.bodies (map part_of f.parts.items) old.parts.items j
          w.part r.left h.waiting w.at_part now);
      steps_made = subst (λ (l : List Step). AreMade (keys_of made) (steps ++ l) new.steps.items)
          (sym frees) (subst (λ (l : List MadeStep). AreMade (keys_of made) (steps ++ w.steps) l)
          (sym r.steps) (made_behind (keys_of made) steps w.steps old.steps.items
          r.part.steps.items h.steps_made (was refl w.steps r.part w.at_steps r.there)));
      later = h.later;
      keys = h.keys;
    }

-- writes of signals change nothing else
pub kept_written : (p : List Key) (f g : CodeFrame) (c : Cells) (made : Made) (x : Emission)
    (steps : List Step) (s t : State) → s.frame.variables ≡ map datum_of f.variables.items
    → s.frame.parts ≡ map part_of f.parts.items
    → t.frame.variables ≡ map datum_of g.variables.items
    → t.frame.parts ≡ map part_of g.parts.items → LeavesParts s t
    → IsKept p f c made x steps → IsKept p g c made x steps
kept_written p f g c made x steps s t fv fp gv gp leaves h = record {
  next = h.next;
  own = h.own;
  parts = h.parts;
  sources = subst (λ (ds : List Datum). AreSourced ds x.sources c.variables.items)
      (sym fv ∙ sym leaves.variables ∙ gv) h.sources;
  waiting = subst (λ (ps : List Part). AreWaiting (keys_of made) x.bodies ps c.parts.items) gp
      (waiting_written (keys_of made) x.bodies s.frame.parts t.frame.parts c.parts.items
      leaves.parts (subst (λ (ps : List Part). AreWaiting (keys_of made) x.bodies ps
      c.parts.items) (sym fp) h.waiting));
  steps_made = h.steps_made;
  later = h.later;
  keys = h.keys;
}

pub was_made : (p : List Key) (f : CodeFrame) (c : Cells) (made : Made) (x y : Emission)
    (steps : List Step) (part : Option ℕ) (was : Bool) → y.bodies ≡ x.bodies
    → ((j : ℕ) → part ≡ Some j
    → was ≡ is_fed (part_signals (slice_get (map part_of f.parts.items) j)))
    → IsKept p f c made x steps → WasMade (keys_of made) part was y c
was_made p f c made x y steps None was same fed h = tt
was_made p f c made x y steps (Some j) was same fed h = λ no more cells at_steps at_cells.
    let w = waiting_at (keys_of made) x.bodies (map part_of f.parts.items) c.parts.items j cells
    h.waiting at_cells in
    let unfed : is_fed w.part.signals ≡ false =
    sym (ap (λ (o : Option Part). is_fed (part_signals o)) w.at_part) ∙ sym (fed j refl) ∙ no in
    let both : Some w.steps ≡ Some more =
    sym w.at_steps ∙ ap (λ (bs : List (List Step)). slice_get bs j) (sym same) ∙ at_steps in
    let is : w.steps ≡ more = cc in
    subst (λ (l : List Step). AreMade (keys_of made) l cells.steps.items) is (w.made unfed)
