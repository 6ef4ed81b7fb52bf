-- What the code's tasks stand for, and the calls that stand in them.
use Rattle.std.specs.Prelude.{List, [], ◌++◌, map, flat_map, Option}
use Rattle.cir_ast.specs.declared.program.Meant.{Meant}
use Rattle.cir_ast.specs.Tree.{Assert, Assigned, Ended, Expr, bare, bare_argument, bare_assign}
use Rattle.cir_ast.specs.Tree.{bare_statement}
use Rattle.cir_frame.specs.declared.frame.ComponentEntry.{ComponentEntry}
use Rattle.cir_meaning.specs.Statement.{loop_of}
use Rattle.cir_meaning.specs.Texts.{wanted_in}
use Rattle.wit_lower.specs.Sources as R
use Rattle.wit_lower.specs.Tasks as T
use Rattle.wit_sourced.specs.declared.sources.Sources.{Sources}
use Rattle.wit_emit.specs.Asked.{asked}
use Rattle.wit_sourced.specs.Loaded.{Calls, components_in}
use Rattle.wit_sourced.specs.Loads.{shape_of, source_of}
use Rattle.wit_statements.specs.declared.tasks.Element.{Element}
use Rattle.wit_statements.specs.declared.tasks.Task.{Task}
use Rattle.wit_statements.specs.declared.tasks.Task.TheVariants as task

abbrev pub element_of : Element → T.Element
element_of e = record { variable = e.variable; element = e.element }

abbrev pub task_of : Task → T.Task
task_of (task.Gives e) = T.Gives (bare e.now)
task_of (task.Equal a b) = T.Equal (bare a.now) (bare b.now)
task_of (task.Logs arguments) = T.Logs (T.logged (map bare_argument arguments.now))
task_of (task.Asserts spot e) = T.Executes (Assert spot (bare e.now)) []
task_of (task.Assigns spot a targets) =
    T.Executes (Ended spot (Assigned (bare_assign a.now))) (map element_of targets.now)
task_of (task.Executes a targets) = T.Executes (bare_statement a.now) (map element_of targets.now)
task_of (task.Repeats spot c step body targets) =
    T.Executes (loop_of spot (bare c.now) (bare_statement body.now) step.now.spot
    (bare_assign step.now.assign)) (map element_of targets.now)

abbrev pub asked_by : T.Task → List (Expr Meant)
asked_by (T.Gives e) = asked e
asked_by (T.Equal a b) = asked a ++ asked b
asked_by (T.Logs es) = flat_map asked es
asked_by (T.Executes a targets) = flat_map (λ x. asked x.expr) (wanted_in a)

-- what a step reads, with the values that calls have already
abbrev pub step_sources : List (Option ComponentEntry) → Calls → Sources → R.Sources
step_sources components called s = record {
  shapes = map shape_of s.named.now.shapes;
  components = components_in components;
  called = called;
  list = map source_of s.list;
}
