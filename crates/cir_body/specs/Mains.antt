-- What the execution of main leaves, with its steps.
use Rattle.std.specs.Prelude.{◌≡◌, ℕ, List, Result, Ok, Err, codes}
use Rattle.cir_ast.specs.Program.{Main, Program}
use Rattle.cir_meaning.specs.Tried.{Tried, Where, next}
use Rattle.cir_meaning.specs.Arrays.{Datum}
use Rattle.cir_meaning.specs.Bodies.{call_at, exec_template, make_at, most_open}
use Rattle.cir_meaning.specs.Compile.{exec_main, group_size, main_group}
use Rattle.cir_meaning.specs.Frame.{Signals, World}
use Rattle.cir_meaning.specs.Source.{Equation}
use Rattle.cir_arrays.specs.declared.stop.Fault.{Fault}
use Rattle.cir_arrays.specs.Stopped.{IsRefusal}
use Rattle.cir_frame.specs.Shown.{signals_of, world_of}
use Rattle.cir_inst.specs.Made.{IsMade}
use Rattle.cir_steps.specs.Circuit.{emit_main}
use Rattle.cir_steps.specs.Making as S
use Rattle.cir_steps.specs.Statements.{cast_at, emit_body}
use Rattle.cir_make.specs.declared.whole.Whole.{Whole}
use Rattle.cir_make.specs.Means.{IsCast}
use Rattle.cir_body.specs.declared.mains.Executed.{Executed}

-- main's template in a world, with its steps
abbrev pub main_cast : Program → List (List ℕ) → Where → ℕ → List Datum → World → (next : ℕ)
    → Tried ((Signals × World) × S.Cast)
main_cast p names w t ds world next_cell =
    next (exec_template p group_size (call_at p group_size most_open) (make_at p group_size 255)
    (main_group names) w t ds (codes "main") world) (λ made.
    next (emit_body p group_size (call_at p group_size most_open) (make_at p group_size 255)
    (main_group names) (cast_at p group_size 255) w t ds (codes "main") world next_cell) (λ o.
    Ok (made, o)))

-- main is executed, and its steps are made
pub record IsExecuted (p : Program) (m : Main) (x : Executed) : Type 0 where
  pub equations : List Equation
  pub executes : exec_main p group_size m m.meant
      ≡ Ok (signals_of x.cast.signals.items, world_of x.whole.world equations)
  pub is_made : IsMade equations x.whole.world
  pub emitted : S.Cast
  pub emits : emit_main p group_size m m.meant ≡ Ok emitted
  pub first : Whole
  pub is_cast : IsCast first x.whole x.cast emitted

abbrev pub Executes : Program → Main → Result Executed Fault → Type 0
Executes p m (Ok x) = IsExecuted p m x
Executes p m (Err f) = IsRefusal f (exec_main p group_size m m.meant)
