-- The equations of a program are of differences.
use Rattle.std.proofs.Common.{ℕ, zero, suc, ◌-◌, List, [], ◌∷◌, map, length, replicate, Option}
use Rattle.std.proofs.Common.{slice_get, codes}
use Rattle.std.specs.List.{AllByRecursion}
use Rattle.cir_ast.specs.declared.program.Meant.{Meant}
use Rattle.cir_ast.specs.declared.program.Meant.TheVariants as meant
use Rattle.cir_ast.specs.declared.operators.Direction.{Direction}
use Rattle.cir_ast.specs.declared.refusal.Kind.TheVariants.{WrongKind}
use Rattle.cir_ast.specs.Program.{Program, Main}
use Rattle.cir_lc.specs.Number.{added, multiplied}
use Rattle.cir_meaning.specs.Tried.{found}
use Rattle.cir_meaning.specs.Source.{Equation, IsDifference}
use Rattle.cir_meaning.specs.Arrays.{Datum, single}
use Rattle.cir_meaning.specs.Values.{Known}
use Rattle.cir_meaning.specs.Frame.{Signals, Group, Sizes, World, State, Caller, Maker, Context, at}
use Rattle.cir_meaning.specs.Frame.{begun, settle}
use Rattle.cir_meaning.specs.Evaluate.{arguments_in}
use Rattle.cir_meaning.specs.Statement.{Flow, Going, Returned, exec_all}
use Rattle.cir_meaning.specs.Bodies.{numbered_others, all_written, all_fed, ended, ended_flow}
use Rattle.cir_meaning.specs.Bodies.{template_context, template_state, exec_template, answer_of}
use Rattle.cir_meaning.specs.Bodies.{counted_in, emptied, function_context, exec_function, call_at}
use Rattle.cir_meaning.specs.Bodies.{most_open, make_at}
use Rattle.cir_meaning.specs.Compile.{main_group, main_context, main_state, exec_main, as_executed}
use Rattle.cir_meaning.specs.Compile.{renumbered_equation, circuit_of, the_main, compiled_with}
use Rattle.cir_meaning.proofs.Good.{OnGood, good_ok, good_bad, good_next, good_on, OnSome'}
use Rattle.cir_meaning.proofs.Rows.{all_append, all_replicate}
use Rattle.cir_meaning.proofs.FineValues.{IsDatum, FineFrame, FineWorld, Fine, FineAnswers}
use Rattle.cir_meaning.proofs.FineValues.{FineCall, FineMake, zero_value, arguments_fine}
use Rattle.cir_meaning.proofs.FineWriting.{settle_fine}
use Rattle.cir_meaning.proofs.FineStatements.{FineFlow, exec_all_fine}

abbrev FineMade : Signals × World → Type 0
FineMade x = FineWorld x.1

pub begun_fine : (arguments : List Datum) (variables signals components : ℕ)
    → AllByRecursion IsDatum arguments → FineFrame (begun arguments variables signals components)
begun_fine arguments variables signals components h =
    all_append IsDatum arguments (replicate variables (single (Known 0))) h
    (all_replicate IsDatum variables (single (Known 0)) (zero_value, tt))

ended_fine : (k : Context) (s : State) → FineWorld s.world → OnGood FineMade (ended k s)
ended_fine k s g =
    good_on FineMade (all_written k s.frame.signals) _ (λ u. good_on FineMade
    (all_fed k s.frame.parts) _ (λ v. good_ok FineMade (s.frame.signals, s.world) g))

ended_flow_fine : (k : Context) (f : Flow) → FineFlow f → OnGood FineMade (ended_flow k f)
ended_flow_fine k (Going s) h = ended_fine k s h.1
ended_flow_fine k (Returned d world) h = good_ok FineMade ([], world) h.1

template_fine : (p : Program) (size : ℕ) (call : Caller) (make : Option Maker)
    (group : Direction → List ℕ → Group)
    → FineCall call → OnSome' FineMake make
    → FineMake (exec_template p size call make group)
template_fine p size call make group c m w n arguments path world h g =
    good_on FineMade (found w WrongKind (slice_get p.templates n)) _ (λ t.
    good_next FineFlow FineMade (exec_all (template_context p size call make group t path world)
    t.body (template_state t arguments path world)) _
    (exec_all_fine (template_context p size call make group t path world)
    record { call = c; make = m } t.body (template_state t arguments path world)
    (begun_fine arguments (t.variables - length arguments) t.signals t.components h, g))
    (ended_flow_fine (template_context p size call make group t path world)))

abbrev FineReturned : Datum × World → Type 0
FineReturned x = IsDatum x.0 × FineWorld x.1

answer_fine : (f : Flow) → FineFlow f → FineReturned (answer_of f)
answer_fine (Going s) h = ((zero_value, tt), h.1)
answer_fine (Returned d world) h = h

function_fine : (p : Program) (size : ℕ) (call : Caller) → FineCall call
    → FineCall (exec_function p size call)
function_fine p size call c w n arguments world h g =
    good_on FineReturned (found w WrongKind (slice_get p.functions n)) _ (λ f.
    good_next FineFlow FineReturned (exec_all (function_context p size call w f) f.body
    record {
      frame = begun arguments (f.variables - length arguments) 0 0;
      world = emptied world;
    }) _
    (exec_all_fine (function_context p size call w f) record { call = c; make = tt } f.body
    record { frame = begun arguments (f.variables - length arguments) 0 0; world = emptied world }
    (begun_fine arguments (f.variables - length arguments) 0 0 h, tt))
    (λ flow q. good_ok FineReturned (counted_in world (answer_of flow))
    ((answer_fine flow q).0, g)))

pub calls_fine : (p : Program) (size room : ℕ) → FineCall (call_at p size room)
calls_fine p size zero w n arguments world h g = good_bad FineReturned _
calls_fine p size (suc room) w n arguments world h g =
    function_fine p size (call_at p size room) (calls_fine p size room) w n arguments world h g

pub makes_fine : (p : Program) (size room : ℕ) → OnSome' FineMake (make_at p size room)
makes_fine p size zero = tt
makes_fine p size (suc room) =
    template_fine p size (call_at p size most_open) (make_at p size room) numbered_others
    (calls_fine p size most_open) (makes_fine p size room)

main_fine : (p : Program) (size : ℕ) (m : Main) (t : Meant) → OnGood FineMade (exec_main p size m t)
main_fine p size m (meant.Template t) =
    good_next FineAnswers FineMade (arguments_in (main_context p size m)
    (at (main_context p size m) m.spot) m.arguments main_state) _
    (arguments_fine (main_context p size m) record { call = calls_fine p size most_open; make = tt }
    (at (main_context p size m) m.spot) m.arguments main_state (tt, tt))
    (λ x q. good_next FineMade FineMade (exec_template p size (call_at p size most_open)
    (make_at p size 255) (main_group m.public_names) (at (main_context p size m) m.spot) t x.0
    (codes "main") x.1.world) _
    (template_fine p size (call_at p size most_open) (make_at p size 255)
    (main_group m.public_names) (calls_fine p size most_open) (makes_fine p size 255)
    (at (main_context p size m) m.spot) t x.0 (codes "main") x.1.world q.0 q.1.1)
    (λ y r. good_next Fine FineMade (settle (at (main_context p size m) m.spot)
    record { frame = x.1.frame; world = y.1 }) _
    (settle_fine (at (main_context p size m) m.spot) record { frame = x.1.frame; world = y.1 }
    (q.1.0, r))
    (λ s f. good_ok FineMade (y.0, s.world) f.1)))
main_fine p size m meant.Other = good_bad FineMade _
main_fine p size m (meant.Variable n) = good_bad FineMade _
main_fine p size m (meant.Signal direction n) = good_bad FineMade _
main_fine p size m (meant.Component n) = good_bad FineMade _
main_fine p size m (meant.Function n) = good_bad FineMade _

-- other numbers of the signals change nothing
renumbered_fine : (size : ℕ) (s : Sizes) (e : Equation) → IsDifference e
    → IsDifference (renumbered_equation size s e)
unfolding added multiplied
renumbered_fine size s e h =
    record { sum = λ a. h.sum (as_executed size s a); small = λ a. h.small (as_executed size s a) }

all_renumbered : (size : ℕ) (s : Sizes) (es : List Equation) → AllByRecursion IsDifference es
    → AllByRecursion IsDifference (map (renumbered_equation size s) es)
all_renumbered size s [] h = tt
all_renumbered size s (e ∷ es) h = (renumbered_fine size s e h.0, all_renumbered size s es h.1)

pub compiled_fine : (size : ℕ) (p : Program)
    → OnGood (λ c. AllByRecursion IsDifference c.equations) (compiled_with size p)
compiled_fine size p =
    good_on (λ c. AllByRecursion IsDifference c.equations) (the_main p) _ (λ m.
    good_next FineMade (λ c. AllByRecursion IsDifference c.equations) (exec_main p size m m.meant) _
    (main_fine p size m m.meant)
    (λ x g. good_ok (λ c. AllByRecursion IsDifference c.equations) (circuit_of size x.1)
    (all_renumbered size x.1.sizes x.1.equations g)))
