-- Declarations of variables, signals and components, and the creation of components.
use Rattle.std.specs.Prelude.{ℕ, ◌==◌, Bool, true, false, if◌then◌else◌, List, [], ◌∷◌, ◌++◌}
use Rattle.std.specs.Prelude.{length, replicate, Option, Some, None, is_none, Ok, slice_get}
use Rattle.std.specs.Prelude.{slice_set, codes}
use Rattle.cir_ast.specs.declared.program.Spot.{Spot}
use Rattle.cir_ast.specs.declared.program.Meant.{Meant}
use Rattle.cir_ast.specs.declared.program.Meant.TheVariants as meant
use Rattle.cir_ast.specs.declared.operators.Direction.{Direction}
use Rattle.cir_ast.specs.declared.refusal.Form.TheVariants.{MixedComponents}
use Rattle.cir_ast.specs.declared.refusal.Kind.TheVariants.{WrongKind, UnknownIndex}
use Rattle.cir_ast.specs.declared.refusal.Kind.TheVariants.{ReadBeforeWrite, SecondWrite, TooDeep}
use Rattle.cir_ast.specs.declared.refusal.Kind.TheVariants.{NotInProfile}
use Rattle.cir_ast.specs.Tree.{Expr, Parentheses, Call, Exprs, Accessors}
use Rattle.cir_meaning.specs.Tried.{Where, Tried, next, refused, needed, found}
use Rattle.cir_meaning.specs.Places.{elements, brackets, all_known}
use Rattle.cir_meaning.specs.Limits.{count_sum, with_array, is_too_large}
use Rattle.cir_meaning.specs.Arrays.{Datum, Scalar, reach, filled}
use Rattle.cir_meaning.specs.Values.{Known}
use Rattle.cir_meaning.specs.Frame.{SignalEntry, Signals, Part, ComponentEntry, Frame, World, State}
use Rattle.cir_meaning.specs.Frame.{Context, next_number, more_in, is_input, put_at, entry_at}
use Rattle.cir_meaning.specs.Frame.{in_frame, adding}
use Rattle.cir_meaning.specs.Evaluate.{arguments_in, indices_in}
use Rattle.cir_meaning.specs.Writing.{put_variable}

-- a variable begins with 0 in each element
abbrev pub declare_variable : ℕ → List ℕ → State → State
declare_variable n dims s = adding (with_array dims) (put_variable n (filled dims (Known 0)) s)

-- a signal's elements are created in row order, and an input counts as written
abbrev pub new_signal : Context → Spot → Direction → List ℕ → List ℕ → World → SignalEntry
new_signal k spot direction name dims world = record {
  name = name;
  direction = direction;
  spot = spot;
  dims = dims;
  first = next_number k (k.group direction name) world;
  written = if is_too_large dims then [] else replicate (elements dims) (is_input direction);
}

abbrev pub with_row : Context → Direction → List ℕ → List ℕ → World → World
with_row k direction name dims world = record world {
  rows =
      world.rows ++ record {
        group = k.group direction name;
        instance = k.instance;
        name = name;
        dims = dims;
      } ∷ [];
  sizes = more_in (k.group direction name) (elements dims) world.sizes;
}

abbrev pub declare_signal : Context → Spot → Direction → ℕ → List ℕ → List ℕ → State → State
declare_signal k spot direction n name dims s =
    adding (λ c. with_array dims (record c {
      signals = count_sum c.signals (elements dims);
      cells = count_sum c.cells (elements dims);
    })) record {
      frame =
          record (s.frame) {
            signals = put_at n (new_signal k spot direction name dims s.world)
                s.frame.signals;
          };
      world = with_row k direction name dims s.world;
    }

abbrev pub declare_component : ℕ → List ℕ → List ℕ → State → State
declare_component n name dims s =
    adding (with_array dims) (in_frame (λ f. record f {
      components = put_at n record {
        name = name;
        dims = dims;
        parts = if is_too_large dims then [] else replicate (elements dims) None;
      } f.components;
    }) s)

-- the template of the components of an array
abbrev pub template_of : List Part → List (Option ℕ) → Option ℕ
template_of parts [] = None
template_of parts (None ∷ rest) = template_of parts rest
template_of parts (Some j ∷ rest) = of_part (slice_get parts j)
  where
    of_part : Option Part → Option ℕ
    of_part None = None
    of_part (Some p) = Some p.template

abbrev pub may_be : ℕ → Option ℕ → Bool
may_be t None = true
may_be t (Some u) = t == u

-- the inputs of a new component are to be written by its parent
abbrev pub opened : Signals → Signals
opened [] = []
opened (None ∷ rest) = None ∷ opened rest
opened (Some e ∷ rest) =
    Some (if is_input e.direction then record e { written = replicate (length e.written) false }
    else e) ∷ opened rest

abbrev pub add_part : ℕ → ComponentEntry → ℕ → Part → Frame → Frame
add_part n c place p f = record f {
  parts = f.parts ++ p ∷ [];
  components =
      put_at n (record c { parts = slice_set c.parts place (Some (length f.parts)) }) f.components;
}

-- the path of an element of a component
abbrev pub path_of : Context → ComponentEntry → List ℕ → List ℕ
path_of k c indices = k.path ++ (codes "." ++ (c.name ++ brackets indices))

-- what is to be created, and where, with the state behind the evaluation of both
pub record Creation : Type 0 where
  pub component : ℕ
  pub entry : ComponentEntry
  pub indices : List ℕ
  pub places : List ℕ
  pub template : ℕ
  pub arguments : List Datum
  pub state : State

-- all indices of a created component must be known
abbrev pub created_at : Where → ℕ → List (Option ℕ) → (template : ℕ) → List Datum → State
    → Tried Creation
created_at w n indices template arguments s =
    next (found w ReadBeforeWrite (entry_at s.frame.components n)) (λ c.
    next (found w UnknownIndex (all_known indices)) (λ numbers.
    next (reach w false Scalar c.dims indices) (λ r.
    Ok record {
      component = n;
      entry = c;
      indices = numbers;
      places = r.places;
      template = template;
      arguments = arguments;
      state = s;
    })))

-- the template and the arguments of a call, through parentheses
abbrev pub template_call : {A : Type 0} → Where → Expr Meant → (ℕ → Exprs Meant → Tried A) → Tried A
template_call w (Parentheses e) go = template_call w e go
template_call w (Call parallel name (meant.Template t) arguments) go = go t arguments
template_call w _ go = refused w WrongKind

-- `place = T(arguments)`: the arguments come before the indices of the place
abbrev pub creation : Context → Where → ℕ → Accessors Meant → Expr Meant → State → Tried Creation
creation k w n accessors e s =
    template_call w e (λ template arguments. next (arguments_in k w arguments s) (λ (ds, s1).
    indices_in k w false [] accessors s1 (λ indices rest s2. created_at w n indices template ds
    s2)))

-- a component is created once, below at most 255 others, and of the template of the others in its
-- array; then its body is executed
abbrev pub create_at : Context → Where → Creation → ℕ → Tried State
create_at k w c place =
    needed (is_none (entry_at c.entry.parts place)) w SecondWrite
    (next (found w TooDeep k.make) (λ make.
    needed (may_be c.template (template_of c.state.frame.parts c.entry.parts)) w
    (NotInProfile MixedComponents)
    (next (make w c.template c.arguments (path_of k c.entry c.indices) c.state.world)
    (λ (signals, world).
    Ok (in_frame (add_part c.component c.entry place record {
      spot = w.spot;
      template = c.template;
      signals = opened signals;
    })
    (record (c.state) { world = world }))))))

-- the indices of a component mean one place
abbrev pub create_each : Context → Where → Creation → List ℕ → Tried State
create_each k w c [] = Ok c.state
create_each k w c (place ∷ places) = create_at k w c place

abbrev pub create : Context → Where → Creation → Tried State
create k w c = create_each k w c c.places
