-- The signals of components of a step.
use Rattle.std.proofs.Common.{◌≡◌, ◌∙◌, ℕ, zero, suc, true, cond, List, [], ◌∷◌, length, map}
use Rattle.std.proofs.Common.{drop, Option, Some, Ok, Err, arith, refl, sym, ap, subst, slice_get}
use Rattle.std.proofs.Common.{slice_index}
use Rattle.std.specs.Prelude.{option_map, not}
use Rattle.cir_meaning.specs.Arrays.{Shaped}
use Rattle.cir_meaning.specs.Frame.{ComponentEntry, Part, entry_at, is_inner}
use Rattle.cir_meaning.specs.Places.{elements, is_inside, numbers_from, places_of}
use Rattle.cir_meaning.specs.Reading.{find_signal}
use Rattle.cir_meaning.specs.Run.{RunPart, component_signal, found_port, part_signal, port_of}
use Rattle.cir_meaning.specs.RunValues.{index_out}
use Rattle.cir_steps.specs.Step as S
use Rattle.cir_steps.specs.RunSteps.{shaped_map}
use Rattle.wit_lower.specs.Homes.{offset}
use Rattle.wit_lower.specs.Steps.{IsBelow}
use Rattle.wit_lower.proofs.Places.{places_are}
use Rattle.cir_emit.specs.Lowered.{IsIn, cell_input}
use Rattle.cir_frame.specs.declared.frame.Frame.{Frame}
use Rattle.cir_frame.specs.Shown.{component_of, part_of}
use Rattle.cir_make.specs.declared.arrays.StepArray.{StepArray}
use Rattle.cir_make.specs.declared.cells.Cells.{Cells}
use Rattle.cir_make.specs.declared.cells.PartCells.{PartCells}
use Rattle.cir_make.specs.declared.make.Before.{Before}
use Rattle.cir_make.specs.Arrays.{IsArrayOf, IsPortOf, IsSizedBy, StandsIn}
use Rattle.cir_make.specs.Cells.{wires_by}
use Rattle.cir_make.specs.Shows.{HavePorts, SameWires}

-- the one place that as many indices as dimensions mean
pub one_place : (dims indices : List ℕ) → length indices ≡ length dims
    → slice_index (places_of dims (map Some indices)) 0 ≡ offset dims indices
one_place dims indices full =
    let none : drop (length indices) dims ≡ [] = dropped dims (length indices) (sym full) in
    ap (λ (ks : List ℕ). slice_index ks 0) (places_are dims indices (omega (arith, full))
    ∙ ap (λ (ds : List ℕ). numbers_from (offset dims indices) (elements ds)) none)
  where
    dropped : (ds : List ℕ) (n : ℕ) → length ds ≡ n → drop n ds ≡ []
    dropped [] zero e = refl
    dropped [] (suc n) e = cc
    dropped (d ∷ ds) zero e = cc
    dropped (d ∷ ds) (suc n) e = dropped ds n (omega (arith, e))

-- a component that has cells runs with them
pub record HasRun (rs : List RunPart) (j : ℕ) (c : PartCells) : Type 0 where
  pub run : RunPart
  pub there : slice_get rs j ≡ Some run
  pub same : SameWires run.ports (wires_by c.ports.items)

pub has_run : (rs : List RunPart) (cs : List PartCells) (j : ℕ) (c : PartCells)
    → HavePorts rs cs → slice_get cs j ≡ Some c → HasRun rs j c
has_run [] [] j c h e = cc
has_run [] (x ∷ cs) j c h e = absurd h
has_run (r ∷ rs) [] j c h e = absurd h
has_run (r ∷ rs) (x ∷ cs) zero c h e =
    let same : x ≡ c = cc in record {
      run = r;
      there = refl;
      same = subst (λ (y : PartCells). SameWires r.ports (wires_by y.ports.items)) same h.0;
    }
has_run (r ∷ rs) (x ∷ cs) (suc j) c h e =
    let t = has_run rs cs j c h.2 e in record { run = t.run; there = t.there; same = t.same }

module _ (f : Frame) (cells : Cells) (befores : List Before) (step : S.Step)
    (components : ℕ → List ℕ) (stands : StandsIn f cells befores step)
    (sized : IsSizedBy f components) (n element j : ℕ) (name : List ℕ) (c : ComponentEntry)
    (p : Part) (pc : PartCells)
    (declared : entry_at (map (option_map component_of) f.components.items) n ≡ Some c)
    (created : entry_at c.parts element ≡ Some j)
    (part_is : slice_get (map part_of f.parts.items) j ≡ Some p)
    (cells_are : slice_get cells.parts.items j ≡ Some pc) where
  abbrev run : HasRun stands.parts j pc
  run = has_run stands.parts cells.parts.items j pc stands.ports cells_are

  -- what the step reads there
  part_read : (wired : Shaped (Option ℕ)) → found_port run.run.ports
      (find_signal (λ e. not (is_inner e.direction)) name 0 p.signals) ≡ Ok wired
      → (indices : List ℕ) → is_inside (components n) (map Some indices) ≡ true
      → length indices ≡ length (components n) → offset (components n) indices ≡ element
      → step.names.part n indices name ≡ Ok wired
  part_read wired found indices inside full at =
      let same : components n ≡ c.dims = sized.there n c declared in
      let inner : is_inside c.dims (map Some indices) ≡ true =
      ap (λ (ds : List ℕ). is_inside ds (map Some indices)) (sym same) ∙ inside in
      let place : slice_index (places_of c.dims (map Some indices)) 0 ≡ element =
      one_place c.dims indices (full ∙ ap (λ (ds : List ℕ). length ds) same)
      ∙ ap (λ (ds : List ℕ). offset ds indices) (sym same) ∙ at in
      stands.part n indices name
      ∙ ap (λ o. component_signal stands.state stands.parts o indices name) declared
      ∙ ap (λ b. cond b (part_signal stands.state stands.parts name
      (entry_at c.parts (slice_index (places_of c.dims (map Some indices)) 0)))
      (Err index_out)) inner
      ∙ ap (λ k. part_signal stands.state stands.parts name (entry_at c.parts k)) place
      ∙ ap (part_signal stands.state stands.parts name) created
      ∙ ap (λ (ps : List Part). port_of name (slice_get ps j) (slice_get stands.parts j))
      stands.state_parts
      ∙ ap (λ o. port_of name o (slice_get stands.parts j)) part_is
      ∙ ap (port_of name (Some p)) run.there ∙ found

  pub port_stands : (a : StepArray) → IsPortOf n element name p run.run.ports a
      → IsArrayOf step components a
  port_stands a h = record {
    array = shaped_map cell_input h.wired;
    is = subst (λ x. IsIn step components x (shaped_map cell_input h.wired)) (sym h.named)
        (λ indices inside full at.
        (h.wired, part_read h.wired h.found indices inside full at, refl));
    stands = h.stands;
    below = subst (λ x. IsBelow (length step.variables) x) (sym h.named) tt;
  }
