-- Code that is made over what is told of a step is the step's.
use Rattle.std.proofs.Common.{◌≡◌, ◌∙◌, true, List, [], ◌∷◌, length, map, append-nil, ap, refl}
use Rattle.std.proofs.Common.{subst, sym}
use Rattle.std.specs.Prelude.{Option, Some}
use Rattle.std.specs.List.{AllByRecursion}
use Rattle.cir_ast.specs.declared.program.Meant.{Meant}
use Rattle.cir_ast.specs.Tree.{Expr, bare}
use Rattle.cir_meaning.specs.Costs.{Made as Key}
use Rattle.cir_frame.specs.declared.frame.Frame.{Frame}
use Rattle.cir_steps.specs.Step.{Step}
use Rattle.cir_emit.specs.Lowered.{AreLoaded}
use Rattle.cir_emit.specs.Sourced.{AreSourcesOf, IsThere, TaskHas}
use Rattle.cir_emit.specs.Tasks.{step_task}
use Rattle.wit_code.specs.declared.code.Step.{Step as CodeStep}
use Rattle.wit_lower.specs.Sources.{Sources, cells_read, scope_of}
use Rattle.wit_lower.specs.Steps.{ShapesFit, SourcesFit}
use Rattle.wit_lower.specs.Tasks.{Task, step_code, step_ground}
use Rattle.wit_circuit.specs.Coded.{IsCodeOfStep}
use Rattle.wit_sourced.specs.declared.loaded.CallValue.{CallValue}
use Rattle.cir_frame.specs.declared.frame.ComponentEntry.{ComponentEntry}
use Rattle.wit_sourced.specs.declared.sources.Sources.{Sources as CodeSources}
use Rattle.wit_sourced.specs.Loaded.{AreTold, Calls, components_in}
use Rattle.wit_sourced.specs.Loads.{shape_of, source_of}
use Rattle.wit_sources.specs.Collected.{homes_of}
use Rattle.wit_sources.specs.Told.{AreFew, reads_of}
use Rattle.wit_statements.specs.Asked.{step_sources}
use Rattle.cir_make.specs.declared.arrays.StepArray.{StepArray}
use Rattle.cir_make.specs.Arrays.{AreArraysOf, input_in, is_there, shape_by}
use Rattle.cir_make.proofs.Fewer.{task_fewer}
use Rattle.cir_make.proofs.Homing.{arrays_there, shapes_fit}

pub told_as : (a b : Calls) → ((e : Expr Meant) → a e ≡ b e) → (calls : List CallValue)
    → AreTold b calls → AreTold a calls
told_as a b same [] told = tt
told_as a b same (c ∷ calls) told =
    (same (bare c.call.now) ∙ told.0, told_as a b same calls told.1)

-- what is told of a task over the sources
pub record IsFor (keys : List Key) (f : Frame) (sources : Sources) (t : Task) : Type 0 where
  pub has : TaskHas (λ x. is_there f x ≡ true) (step_ground keys sources t) (scope_of sources) t
  pub loaded : AreLoaded sources (reads_of keys sources t)
  pub few : AreFew sources (reads_of keys sources t)

module _ (keys : List Key) (f : Frame) (step : Step) (arrays : List StepArray)
    (components : List (Option ComponentEntry)) (collected : CodeSources)
    (are : AreArraysOf f step (components_in components) arrays)
    (shapes : map shape_of collected.named.now.shapes ≡ map shape_by arrays)
    (fit : SourcesFit (homes_of (map shape_of collected.named.now.shapes))
    (map source_of collected.list))
    (given : AllByRecursion (λ x. input_in arrays x.name x.element ≡ Some x.input)
    (map source_of collected.list)) where
  abbrev sources : Sources
  sources = step_sources components step.names.known collected

  are_sources : IsFor keys f sources (step_task step) → AreSourcesOf keys step sources
  are_sources is = record {
    shapes = subst (λ l. ShapesFit (length step.variables) l) (sym shapes)
        (shapes_fit step (components_in components) arrays are.each);
    list = fit;
    arrays = arrays_there step sources arrays shapes are.each given;
    components = are.sized;
    called = λ e. refl;
    has = task_fewer (λ x. is_there f x ≡ true) (IsThere step (components_in components))
        are.there (step_ground keys sources (step_task step)) (scope_of sources)
        (step_task step) is.has;
    loaded = is.loaded;
    few = is.few;
  }

  pub coded : (t : Task) (m : CodeStep) → step_task step ≡ t → IsFor keys f sources t
      → m.code ≡ step_code (step_ground keys sources t) sources t
      → m.reads ≡ cells_read sources.list → m.writes ≡ step.targets
      → IsCodeOfStep keys step m
  coded t m is for code reads writes = record {
    then_keys = keys;
    later = [];
    front = sym (append-nil keys);
    sources = sources;
    are = are_sources (subst (IsFor keys f sources) (sym is) for);
    code = code ∙ ap (λ u. step_code (step_ground keys sources u) sources u) (sym is);
    reads = reads;
    writes = writes;
  }
