-- What a called function answers, and what a template is made into, once it is found.
use Rattle.std.specs.Prelude.{ℕ, ◌-◌, List, length, Option, Some, None, Ok}
use Rattle.cir_ast.specs.declared.operators.Direction.{Direction}
use Rattle.cir_ast.specs.declared.refusal.Kind.TheVariants.{TooDeep}
use Rattle.cir_ast.specs.Program.{Program, Template, Function}
use Rattle.cir_meaning.specs.Tried.{Where, Tried, next, refused}
use Rattle.cir_meaning.specs.Arrays.{Datum}
use Rattle.cir_meaning.specs.Frame.{Signals, Group, World, Caller, Maker, begun}
use Rattle.cir_meaning.specs.Statement.{exec_all}
use Rattle.cir_meaning.specs.Bodies.{ended_flow, template_context, template_state, answer_of}
use Rattle.cir_meaning.specs.Bodies.{counted_in, emptied, function_context}
use Rattle.cir_meaning.specs.Compile.{group_size}

-- where no further template may be opened, each is refused
abbrev pub maker_of : Option Maker → Maker
maker_of None w n arguments path world = refused w TooDeep
maker_of (Some make) w n arguments path world = make w n arguments path world

abbrev pub function_answer : Program → Caller → Where → Function → List Datum → World
    → Tried (Datum × World)
function_answer p call w f arguments world =
    next (exec_all (function_context p group_size call w f) f.body record {
      frame = begun arguments (f.variables - length arguments) 0 0;
      world = emptied world;
    }) (λ flow. Ok (counted_in world (answer_of flow)))

abbrev pub template_made : Program → Caller → Option Maker → (Direction → List ℕ → Group)
    → Template → List Datum → (path : List ℕ) → World → Tried (Signals × World)
template_made p call make group t arguments path world =
    next (exec_all (template_context p group_size call make group t path world) t.body
    (template_state t arguments path world))
    (ended_flow (template_context p group_size call make group t path world))
