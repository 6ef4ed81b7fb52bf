-- The execution of functions and of templates. Calls are open at most 256 deep, and so are
-- templates.
use Rattle.std.specs.Prelude.{ℕ, zero, suc, ◌-◌, ◌||◌, List, [], ◌∷◌, ◌++◌, length, Option, Some}
use Rattle.std.specs.Prelude.{None, Ok, slice_get}
use Rattle.cir_ast.specs.declared.operators.Direction.{Direction}
use Rattle.cir_ast.specs.declared.refusal.Kind.TheVariants.{WrongKind, NeverWritten, InputsMissing}
use Rattle.cir_ast.specs.declared.refusal.Kind.TheVariants.{TooDeep}
use Rattle.cir_ast.specs.Program.{Program, Template, Function}
use Rattle.cir_meaning.specs.Tried.{Where, Tried, next, refused, needed, found}
use Rattle.cir_meaning.specs.Arrays.{Datum, single}
use Rattle.cir_meaning.specs.Values.{Known}
use Rattle.cir_meaning.specs.Frame.{Signals, Part, Group, Others, World, State, Caller, Maker}
use Rattle.cir_meaning.specs.Frame.{Context, at, is_input, is_all_written, is_fed, begun}
use Rattle.cir_meaning.specs.Statement.{Flow, Going, Returned, exec_all}

abbrev pub numbered_others : Direction → List ℕ → Group
numbered_others direction name = Others

-- every output and every inner signal is written at the end of a body
abbrev pub all_written : Context → Signals → Tried (Unit {0})
all_written k [] = Ok tt
all_written k (None ∷ rest) = all_written k rest
all_written k (Some e ∷ rest) =
    needed (is_input e.direction || is_all_written e) (at k e.spot) NeverWritten
    (all_written k rest)

-- and every input of each component
abbrev pub all_fed : Context → List Part → Tried (Unit {0})
all_fed k [] = Ok tt
all_fed k (p ∷ ps) = needed (is_fed p.signals) (at k p.spot) InputsMissing (all_fed k ps)

abbrev pub ended : Context → State → Tried (Signals × World)
ended k s =
    next (all_written k s.frame.signals) (λ u. next (all_fed k s.frame.parts)
    (λ v. Ok (s.frame.signals, s.world)))

abbrev pub ended_flow : Context → Flow → Tried (Signals × World)
ended_flow k (Going s) = ended k s
ended_flow k (Returned d world) = Ok ([], world)

-- a body of its own begins in the world as it is
abbrev pub template_context : Program → ℕ → Caller → Option Maker → (Direction → List ℕ → Group)
    → Template → List ℕ → World → Context
template_context p size call make group t path world = record {
  program = p;
  group_size = size;
  file = t.file;
  instance = length world.instances;
  path = path;
  group = group;
  named_components = t.components;
  call = call;
  make = make;
}

abbrev pub template_state : Template → List Datum → List ℕ → World → State
template_state t arguments path world = record {
  frame = begun arguments (t.variables - length arguments) t.signals t.components;
  world = record world { instances = world.instances ++ path ∷ [] };
}

abbrev pub exec_template : Program → ℕ → Caller → Option Maker → (Direction → List ℕ → Group)
    → Maker
exec_template p size call make group w n arguments path world =
    next (found w WrongKind (slice_get p.templates n)) (λ t.
    let k : Context = template_context p size call make group t path world in
    next (exec_all k t.body (template_state t arguments path world)) (ended_flow k))

-- a function answers what it returns
abbrev pub answer_of : Flow → Datum × World
answer_of (Going s) = (single (Known 0), s.world)
answer_of (Returned d world) = (d, world)

-- a function changes nothing but what is counted
abbrev pub counted_in : World → Datum × World → Datum × World
counted_in world x = (x.0, record world { counts = x.1.counts })

-- it sees what is counted and how many signals there are, and no lists
abbrev pub emptied : World → World
emptied world = record world { rows = []; equations = []; instances = [] }

abbrev pub function_context : Program → ℕ → Caller → Where → Function → Context
function_context p size call w f = record {
  program = p;
  group_size = size;
  file = f.file;
  instance = w.instance;
  path = w.path;
  group = numbered_others;
  named_components = 0;
  call = call;
  make = None;
}

abbrev pub exec_function : Program → ℕ → Caller → Caller
exec_function p size call w n arguments world =
    next (found w WrongKind (slice_get p.functions n)) (λ f.
    next (exec_all (function_context p size call w f) f.body
    record { frame = begun arguments (f.variables - length arguments) 0 0; world = emptied world })
    (λ flow. Ok (counted_in world (answer_of flow))))

-- with room for n open calls
abbrev pub call_at : Program → ℕ → ℕ → Caller
call_at p size zero w n arguments world = refused w TooDeep
call_at p size (suc room) w n arguments world =
    exec_function p size (call_at p size room) w n arguments world

unfoldable pub most_open : ℕ
most_open = 256

-- with room for n open templates
abbrev pub make_at : Program → ℕ → ℕ → Option Maker
make_at p size zero = None
make_at p size (suc room) =
    Some (exec_template p size (call_at p size most_open) (make_at p size room) numbered_others)
