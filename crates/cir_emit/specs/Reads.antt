-- Which elements a task may read, and which it keeps: those for which its code has to have a
-- source. What a known number skips isn't read, nor is anything of a call that has its value.
use Rattle.std.specs.Prelude.{ℕ, ◌==◌, ◌&&◌, Bool, false, not, if◌then◌else◌, List, [], ◌∷◌, ◌++◌}
use Rattle.std.specs.Prelude.{map, filter, flat_map, is_some, zero, suc, Option, Some, None}
use Rattle.std.specs.List.{list_any}
use Rattle.cir_ast.specs.declared.program.Meant.{Meant}
use Rattle.cir_ast.specs.declared.program.Meant.TheVariants as meant
use Rattle.cir_ast.specs.declared.program.Spot.{Spot}
use Rattle.cir_ast.specs.Tree.{Expr, Number, Place, Call, Anonymous, Parentheses, Array, Unary}
use Rattle.cir_ast.specs.Tree.{Binary, Choice, Exprs, none, more, Accessors, done, index, member}
use Rattle.cir_ast.specs.Tree.{Assign, Set, Assigned, Statement, Ended}
use Rattle.cir_meaning.specs.Places.{is_inside, all_known, places_of}
use Rattle.cir_meaning.specs.Operators.{operator_of}
use Rattle.cir_meaning.specs.RunValues.{Numbers}
use Rattle.cir_meaning.specs.Texts.{wanted_in, indices_of}
use Rattle.cir_meaning.specs.Writing.{plain}
use Rattle.wit_lower.specs.Homes.{Name, Variable, Signal, Port, Home, Homes, Ground, find, offset}
use Rattle.wit_lower.specs.Pieces.{decided}
use Rattle.wit_lower.specs.Known.{changes}
use Rattle.wit_lower.specs.Tasks.{Element, Task, Gives, Equal, Logs, Executes}

pub record Reading : Type 0 where
  pub name : Name
  pub element : ℕ

abbrev pub elements_of : Name → List ℕ → List Reading
elements_of x places = map (λ k. record { name = x; element = k }) places

-- the elements of a part: an index that isn't known may mean each place of its dimension, and one
-- that is outside its dimension means none
abbrev pub part_of : Name → Option Home → List (Option ℕ) → List Reading
part_of x None indices = []
part_of x (Some h) indices =
    if is_inside h.dims indices then elements_of x (places_of h.dims indices) else []

-- what stands in front of indices: a name as it is written, or what a member of a component is
pub data Front : Type 0 where
  Written : Meant → Front
  Reached : Option Name → Front

abbrev pub name_of : Front → Option Name
name_of (Written (meant.Variable n)) = Some (Variable n)
name_of (Written (meant.Signal direction n)) = Some (Signal n)
name_of (Written _) = None
name_of (Reached x) = x

abbrev pub port_at : ℕ → List ℕ → List ℕ → Option (List ℕ) → Option Name
port_at n dims name None = None
port_at n dims name (Some indices) =
    if is_inside dims (map Some indices) then Some (Port n (offset dims indices) name) else None

abbrev pub port_of : Ground → Front → List (Option ℕ) → List ℕ → Option Name
port_of g (Written (meant.Component n)) indices name =
    port_at n (g.components n) name (all_known indices)
port_of g _ indices name = None

abbrev pub named_part : Homes → Option Name → List (Option ℕ) → List Reading
named_part homes None indices = []
named_part homes (Some x) indices = part_of x (find x homes) indices

abbrev pub unless_skipped : (decided : Option ℕ) → List Reading → List Reading
unless_skipped None reads = reads
unless_skipped (Some n) reads = []

abbrev pub sides : (condition : Option ℕ) → (first second : List Reading) → List Reading
sides None first second = first ++ second
sides (Some zero) first second = second
sides (Some (suc m)) first second = first

abbrev pub unless_called : Option Numbers → List Reading → List Reading
unless_called None reads = reads
unless_called (Some d) reads = []

abbrev mutual
  pub expr_reads : Ground → Homes → Expr Meant → List Reading
  expr_reads g homes (Number n) = []
  expr_reads g homes (Place name m accessors) = place_reads g homes (Written m) [] accessors
  expr_reads g homes (Call parallel name m arguments) =
      unless_called (g.called (Call parallel name m arguments)) (exprs_reads g homes arguments)
  expr_reads g homes (Anonymous parallel name m arguments inputs) = []
  expr_reads g homes (Parentheses e) = expr_reads g homes e
  expr_reads g homes (Array elements) = exprs_reads g homes elements
  expr_reads g homes (Unary o a) = expr_reads g homes a
  expr_reads g homes (Binary o a b) =
      expr_reads g homes a ++
      unless_skipped (decided (operator_of o) (g.known a)) (expr_reads g homes b)
  expr_reads g homes (Choice c a b) =
      expr_reads g homes c ++
      sides (g.known c) (expr_reads g homes a) (expr_reads g homes b)

  pub exprs_reads : Ground → Homes → Exprs Meant → List Reading
  exprs_reads g homes none = []
  exprs_reads g homes (more e es) = expr_reads g homes e ++ exprs_reads g homes es

  pub place_reads : Ground → Homes → Front → (indices : List (Option ℕ)) → Accessors Meant
      → List Reading
  place_reads g homes front indices done = named_part homes (name_of front) indices
  place_reads g homes front indices (index e rest) =
      expr_reads g homes e ++ place_reads g homes front (indices ++ g.known e ∷ []) rest
  place_reads g homes front indices (member name rest) =
      place_reads g homes (Reached (port_of g front indices name)) [] rest

-- the elements that an assignment writes, where all its indices are known
abbrev pub sure_places : Option Home → List (Option ℕ) → List ℕ
sure_places None indices = []
sure_places (Some h) indices = if is_some (all_known indices) then places_of h.dims indices else []

abbrev pub is_written : Ground → Homes → Assign Meant → Element → Bool
is_written g homes (Set name (meant.Variable n) accessors e) t =
    (n == t.variable) && list_any (λ k. k == t.element)
    (sure_places (find (Variable n) homes) (map g.known (indices_of accessors)))
is_written g homes a t = false

abbrev pub targets_kept : List Element → List Reading
targets_kept targets = map (λ t. record { name = Variable t.variable; element = t.element }) targets

-- what a statement keeps of elements that are wanted behind it: an assignment those that it doesn't
-- surely write; another statement may keep each element of a variable that it assigns
abbrev pub kept : Ground → Homes → Statement Spot Meant → List Element → List Reading
kept g homes (Ended spot (Assigned a)) targets =
    targets_kept (filter (λ t. not (is_written g homes (plain a) t)) targets)
kept g homes a targets =
    flat_map (λ n. part_of (Variable n) (find (Variable n) homes) []) (changes a) ++
    targets_kept targets

abbrev pub task_reads : Ground → Homes → Task → List Reading
task_reads g homes (Gives e) = expr_reads g homes e
task_reads g homes (Equal a b) = expr_reads g homes a ++ expr_reads g homes b
task_reads g homes (Logs es) = flat_map (expr_reads g homes) es
task_reads g homes (Executes a targets) =
    flat_map (λ x. expr_reads g homes x.expr) (wanted_in a) ++ kept g homes a targets
