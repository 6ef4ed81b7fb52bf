-- The task of a step: the code of the task writes the numbers that the step gives.
use Rattle.std.specs.Prelude.{ℕ, List, [], map, flat_map}
use Rattle.cir_ast.specs.declared.program.Spot.{Spot}
use Rattle.cir_ast.specs.declared.program.Meant.TheVariants as meant
use Rattle.cir_ast.specs.Tree.{Set, Assigned, Assert, Ended}
use Rattle.cir_meaning.specs.Places.{numbers_from}
use Rattle.cir_steps.specs.Step.{Elements, Work, Valuing, Assigning, Comparing, Asserting, Logging}
use Rattle.cir_steps.specs.Step.{Deciding, Step}
use Rattle.wit_lower.specs.Tasks.{Element, Task, Gives, Equal, Logs, Executes, logged}

abbrev pub elements_at : ℕ → List ℕ → List Element
elements_at n places = map (λ k. record { variable = n; element = k }) places

abbrev pub all_elements : List Elements → List Element
all_elements wanted = flat_map (λ x. elements_at x.variable (numbers_from 0 x.count)) wanted

-- an assignment and an assertion are executed as statements
abbrev pub work_task : Spot → Work → Task
work_task spot (Valuing e) = Gives e
work_task spot (Assigning n accessors e places) =
    Executes (Ended spot (Assigned (Set [] (meant.Variable n) accessors e))) (elements_at n places)
work_task spot (Comparing a b) = Equal a b
work_task spot (Asserting e) = Executes (Assert spot e) []
work_task spot (Logging arguments) = Logs (logged arguments)
work_task spot (Deciding a wanted) = Executes a (all_elements wanted)

abbrev pub step_task : Step → Task
step_task step = work_task step.place.spot step.work
