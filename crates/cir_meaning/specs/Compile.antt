-- The meaning of a program at compile time: its signals, instances and equations, or the first
-- refusal.
use Rattle.std.specs.Prelude.{ℕ, zero, suc, ◌+◌, ◌/◌, ◌%◌, Bool, true, false, if◌then◌else◌, List}
use Rattle.std.specs.Prelude.{[], ◌∷◌, ◌++◌, map, flat_map, filter, None, Result, Ok, Err}
use Rattle.std.specs.Prelude.{slice_get, unwrap_or, codes, bytes_eq, ◌≡◌, All}
use Rattle.std.specs.List.{list_any}
use Rattle.cir_ast.specs.declared.program.Meant.{Meant}
use Rattle.cir_ast.specs.declared.program.Meant.TheVariants as meant
use Rattle.cir_ast.specs.declared.operators.Direction.{Direction}
use Rattle.cir_ast.specs.declared.operators.Direction.TheVariants.{Inner, Input, Output}
use Rattle.cir_ast.specs.declared.refusal.Kind.TheVariants.{WrongKind, Main as MainKind}
use Rattle.cir_ast.specs.declared.refusal.Refusal.{Refusal}
use Rattle.cir_ast.specs.Program.{Program, Main}
use Rattle.cir_lc.specs.Number.{Assignment, Number}
use Rattle.cir_meaning.specs.Tried.{Where, Refused, Tried, next, refused, found}
use Rattle.cir_meaning.specs.Places.{elements, brackets, numbers_from}
use Rattle.cir_meaning.specs.Limits.{nothing}
use Rattle.cir_meaning.specs.Source.{Equation, IsEqualAt}
use Rattle.cir_meaning.specs.Frame.{Group, Outputs, PublicInputs, PrivateInputs, Others, Sizes, Row}
use Rattle.cir_meaning.specs.Frame.{World, State, Context, begun, at, settle, Signals}
use Rattle.cir_meaning.specs.Evaluate.{arguments_in}
use Rattle.cir_meaning.specs.Bodies.{call_at, make_at, most_open, exec_template, numbered_others}

-- main's signals stand in groups: outputs, public inputs, private inputs, and the others with all
-- that is inside
abbrev pub main_group : List (List ℕ) → Direction → List ℕ → Group
main_group public_names Output name = Outputs
main_group public_names Inner name = Others
main_group public_names Input name =
    if list_any (λ n. bytes_eq n name) public_names then PublicInputs else PrivateInputs

-- signal 0 has a cell
abbrev pub empty_world : World
empty_world =
    record {
      rows = [];
      sizes = record {
        outputs = 0;
        public_inputs = 0;
        private_inputs = 0;
        others = 0;
      };
      equations = [];
      instances = [];
      counts = record nothing { cells = 1 };
    }

-- where main's arguments are evaluated
abbrev pub main_context : Program → ℕ → Main → Context
main_context p size m = record {
  program = p;
  group_size = size;
  file = m.file;
  instance = 0;
  path = codes "main";
  group = numbered_others;
  named_components = 0;
  call = call_at p size most_open;
  make = None;
}

abbrev pub main_state : State
main_state = record { frame = begun [] 0 0 0; world = empty_world }

-- main is the first of the 256 templates that may be open, so 255 more may be
abbrev pub exec_main : Program → ℕ → Main → Meant → Tried (Signals × World)
exec_main p size m (meant.Template t) =
    let w : Where = at (main_context p size m) m.spot in
    next (arguments_in (main_context p size m) w m.arguments main_state) (λ (ds, s).
    next (exec_template p size (call_at p size most_open) (make_at p size 255)
    (main_group m.public_names) w t ds (codes "main") s.world)
    (λ (signals, world). next (settle w record { frame = s.frame; world = world })
    (λ s1. Ok (signals, s1.world))))
exec_main p size m _ = refused (at (main_context p size m) m.spot) WrongKind

-- a signal's final number, less 1 in its group: the numbers of a group follow those of the groups
-- before it
abbrev pub before : Sizes → ℕ → ℕ
before s zero = 0
before s (suc zero) = s.outputs
before s (suc (suc zero)) = s.outputs + s.public_inputs
before s (suc (suc (suc n))) = s.outputs + (s.public_inputs + s.private_inputs)

abbrev pub final_number : ℕ → Sizes → ℕ → ℕ
final_number size s zero = 0
final_number size s (suc n) = 1 + (before s (n / size) + n % size)

-- the same numbers of the signals, by their numbers while the program is executed
abbrev pub as_executed : ℕ → Sizes → Assignment → Assignment
as_executed size s a =
    record {
      at = λ n. a.at (final_number size s n);
      one = a.one;
      below = λ n. a.below
          (final_number size s n);
    }

abbrev pub renumbered : ℕ → Sizes → Number → Number
renumbered size s f = λ a. f (as_executed size s a)

abbrev pub renumbered_equation : ℕ → Sizes → Equation → Equation
renumbered_equation size s e = record {
  left = renumbered size s e.left;
  right = renumbered size s e.right;
  parts =
      record {
        a = renumbered size s e.parts.a;
        b = renumbered size s e.parts.b;
        c = renumbered size
            s e.parts.c;
      };
}

-- the table of the signals, behind signal 0, and main's inputs
pub record SignalName : Type 0 where
  pub instance : ℕ
  pub base : List ℕ
  pub place : ℕ

pub record InputShape : Type 0 where
  pub name : List ℕ
  pub first : ℕ
  pub count : ℕ

pub record Circuit : Type 0 where
  pub names : List SignalName
  pub outputs : ℕ
  pub public_inputs : ℕ
  pub private_inputs : ℕ
  pub inputs : List InputShape
  pub instances : List (List ℕ)
  pub equations : List Equation

abbrev pub is_of : Group → Row → Bool
is_of g row = same g row.group
  where
    same : Group → Group → Bool
    same Outputs Outputs = true
    same PublicInputs PublicInputs = true
    same PrivateInputs PrivateInputs = true
    same Others Others = true
    same _ _ = false

abbrev pub rows_of : Group → List Row → List Row
rows_of g rows = filter (is_of g) rows

abbrev pub in_order : List Row → List Row
in_order rows =
    rows_of Outputs rows ++ (rows_of PublicInputs rows ++
    (rows_of PrivateInputs rows ++ rows_of Others rows))

abbrev pub names_of_row : Row → List SignalName
names_of_row row =
    map (λ place. record {
      instance = row.instance;
      base = row.name ++ brackets row.dims;
      place = place;
    }) (numbers_from 0 (elements row.dims))

abbrev pub shapes_of : ℕ → List Row → List InputShape
shapes_of first [] = []
shapes_of first (row ∷ rows) =
    record { name = row.name; first = first; count = elements row.dims } ∷ shapes_of
    (first + elements row.dims) rows

abbrev pub circuit_of : ℕ → World → Circuit
circuit_of size w = record {
  names = flat_map names_of_row (in_order w.rows);
  outputs = w.sizes.outputs;
  public_inputs = w.sizes.public_inputs;
  private_inputs = w.sizes.private_inputs;
  inputs =
      shapes_of (1 + w.sizes.outputs) (rows_of PublicInputs w.rows ++ rows_of PrivateInputs w.rows);
  instances = w.instances;
  equations = map (renumbered_equation size w.sizes) w.equations;
}

abbrev pub the_main : Program → Tried Main
the_main p = found nowhere MainKind (slice_get p.mains 0)
  where
    nowhere : Where
    nowhere =
        record { file = 0; spot = record { line = 1; column = 1 }; instance = 0; path = codes "-" }

-- with room for `size` - 1 signals in a group
abbrev pub compiled_with : ℕ → Program → Tried Circuit
compiled_with size p =
    next (the_main p) (λ m. next (exec_main p size m m.meant)
    (λ (signals, w). Ok (circuit_of size w)))

unfoldable pub group_size : ℕ
group_size = 1048576

abbrev pub compiled : Program → Tried Circuit
compiled p = compiled_with group_size p

-- the refusal as a user sees it
abbrev pub refusal_of : Program → Refused → Refusal
refusal_of p r = record {
  kind = r.kind;
  place =
      record {
        file = unwrap_or (slice_get p.files r.place.file) [];
        line = r.place.spot.line;
        column = r.place.spot.column;
        path = r.place.path;
      };
}

abbrev pub shown : Program → Tried Circuit → Result Circuit Refusal
shown p (Ok c) = Ok c
shown p (Err r) = Err (refusal_of p r)

abbrev pub meaning : Program → Result Circuit Refusal
meaning p = shown p (compiled p)

-- an assignment satisfies a program that compiles where the two sides of each equation are equal
abbrev pub Satisfies : Program → Assignment → Type 0
Satisfies p s = (c : Circuit) × (compiled p ≡ Ok c) × All (IsEqualAt s) c.equations
