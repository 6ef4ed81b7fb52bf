-- The values of a run that ends are numbers of the field, where its inputs are.
use Rattle.std.proofs.Common.{◌≡◌, ℕ, suc, ◌+◌, ◌-◌, ◌<◌, Bool, true, false, cond, List, [], ◌∷◌}
use Rattle.std.proofs.Common.{All, Option, Some, None, Ok, refl, ap, subst, length, codes}
use Rattle.std.proofs.Common.{slice_get, arith}
use Rattle.std.proofs.ByRecursion.{all_from_every}
use Rattle.cir_lc.specs.Number.{Assignment}
use Rattle.std.specs.Prelude.{◌&&◌, nat_le, nat_lt}
use Rattle.std.specs.List.{AllByRecursion}
use Rattle.gold_field.specs.declared.gold.TheConstants.{P}
use Rattle.cir_ast.specs.declared.program.Meant.{Meant}
use Rattle.cir_ast.specs.declared.program.Meant.TheVariants as meant
use Rattle.cir_ast.specs.Program.{Program, Main}
use Rattle.cir_meaning.specs.Places.{numbers_from}
use Rattle.cir_meaning.specs.Frame.{SignalEntry, Signals, Group, Outputs, PublicInputs}
use Rattle.cir_meaning.specs.Frame.{PrivateInputs, Others, Sizes, at, entry_at, is_input}
use Rattle.cir_meaning.specs.Frame.{before_group, size_in}
use Rattle.cir_meaning.specs.Evaluate.{arguments_in}
use Rattle.cir_meaning.specs.Bodies.{call_at, make_at, most_open}
use Rattle.cir_meaning.specs.Compile.{main_group, main_context, main_state, the_main, exec_main}
use Rattle.cir_meaning.specs.Compile.{final_number, group_size}
use Rattle.cir_meaning.specs.Run.{refusing, Wires, Table}
use Rattle.cir_meaning.specs.RunBodies.{body_at, input_wires, run_program, signal_wire, table_wire}
use Rattle.cir_meaning.specs.RunBodies.{group_wires, all_wires, Ending, run_with, ran, or_else}
use Rattle.cir_meaning.proofs.Good.{OnGood, OnSome', good_bad, good_next, good_on, good_is}
use Rattle.cir_meaning.proofs.Rows.{all_append, all_map}
use Rattle.cir_meaning.proofs.DependingValues.{some_at}
use Rattle.cir_meaning.proofs.FineValues.{FineAnswers, arguments_fine}
use Rattle.cir_meaning.proofs.FineBodies.{calls_fine, makes_fine}
use Rattle.cir_meaning.proofs.SmallNumbers.{SmallOption}
use Rattle.cir_meaning.proofs.SmallWires.{ran_ok, refusing_good, AreSmall, SmallTable}
use Rattle.cir_meaning.proofs.SmallRuns.{SmallOutcome}
use Rattle.cir_meaning.proofs.SmallBodies.{template_small, bodies_small}

-- main's inputs
inputs_small : (size : ℕ) (sizes : Sizes) (inputs : List ℕ) (signals : Signals)
    → AllByRecursion (λ n. n < P) inputs → AreSmall (input_wires size sizes inputs signals)
inputs_small size sizes inputs signals h n k = of_entry (entry_at signals n)
  where
    wire : Option SignalEntry → Option ℕ
    wire None = None
    wire (Some e) =
        cond (is_input e.direction) (slice_get inputs (final_number size sizes (e.first + k) -
        (1 + sizes.outputs))) None

    by_input : (b : Bool) (i : ℕ) → SmallOption (cond b (slice_get inputs i) None)
    by_input true i = some_at (λ n. n < P) inputs i h
    by_input false i = tt

    of_entry : (o : Option SignalEntry) → SmallOption (wire o)
    of_entry None = tt
    of_entry (Some e) = by_input (is_input e.direction) _

program_small : (p : Program) (size fuel : ℕ) (m : Main) (t : Meant) (given : Wires)
    → AreSmall given → OnGood SmallOutcome (run_program p size fuel m t given)
program_small p size fuel m (meant.Template t) given h =
    good_next FineAnswers SmallOutcome
    (refusing (arguments_in (main_context p size m) (at (main_context p size m) m.spot)
    m.arguments main_state)) _
    (refusing_good FineAnswers _
    (arguments_fine (main_context p size m) record { call = calls_fine p size most_open; make = tt }
    (at (main_context p size m) m.spot) m.arguments main_state (tt, tt))) (λ x g.
    template_small p size fuel (call_at p size most_open) (make_at p size 255)
    (main_group m.public_names) (body_at p size fuel 255) (calls_fine p size most_open)
    (makes_fine p size 255) (bodies_small p size fuel 255) (at (main_context p size m) m.spot) t x.0
    (codes "main") x.1.world given [] g.0 g.1.1 h)
program_small p size fuel m meant.Other given h = good_bad SmallOutcome _
program_small p size fuel m (meant.Variable n) given h = good_bad SmallOutcome _
program_small p size fuel m (meant.Signal direction n) given h = good_bad SmallOutcome _
program_small p size fuel m (meant.Component n) given h = good_bad SmallOutcome _
program_small p size fuel m (meant.Function n) given h = good_bad SmallOutcome _

-- the values
signal_small : (wanted n : ℕ) (signals : Signals) (wires : Wires) → AreSmall wires
    → SmallOption (signal_wire wanted n signals wires)
signal_small wanted n [] wires h = tt
signal_small wanted n (None ∷ rest) wires h = signal_small wanted (suc n) rest wires h
signal_small wanted n (Some e ∷ rest) wires h =
    at (nat_le e.first wanted && nat_lt wanted (e.first + length e.written))
    (signal_small wanted (suc n) rest wires h)
  where
    at : (b : Bool) → SmallOption (signal_wire wanted (suc n) rest wires)
        → SmallOption (cond b (wires n (wanted - e.first))
        (signal_wire wanted (suc n) rest wires))
    at true g = h n (wanted - e.first)
    at false g = g

either_small : (a b : Option ℕ) → SmallOption a → SmallOption b → SmallOption (or_else a b)
either_small None b h g = g
either_small (Some n) b h g = h

table_small : (ts : List Table) (wanted : ℕ) → AllByRecursion SmallTable ts
    → SmallOption (table_wire ts wanted)
table_small [] wanted h = tt
table_small (t ∷ ts) wanted h =
    either_small (signal_wire wanted 0 t.signals t.wires) (table_wire ts wanted)
    (signal_small wanted 0 t.signals t.wires h.0) (table_small ts wanted h.1)

module _ (size : ℕ) (sizes : Sizes) (ts : List Table) (h : AllByRecursion SmallTable ts) where
  group_small : (g : Group) → AllByRecursion SmallOption (group_wires size sizes ts g)
  group_small g =
      all_map SmallOption (table_wire ts)
      (numbers_from (1 + before_group size g) (size_in g sizes)) (λ n. table_small ts n h)

  wires_small : AllByRecursion SmallOption (all_wires size sizes ts)
  wires_small = (
    omega arith,
    all_append SmallOption (group_wires size sizes ts Outputs) _
        (group_small Outputs) (all_append SmallOption (group_wires size sizes ts PublicInputs) _
        (group_small PublicInputs)
        (all_append SmallOption (group_wires size sizes ts PrivateInputs) _
        (group_small PrivateInputs) (group_small Others))),
  )

abbrev pub SmallEnding : Ending → Type 0
SmallEnding e = AllByRecursion SmallOption e.values

pub run_small : (size : ℕ) (p : Program) (fuel : ℕ) (inputs : List ℕ)
    → AllByRecursion (λ n. n < P) inputs → OnGood SmallEnding (run_with size p fuel inputs)
run_small size p fuel inputs h =
    good_on SmallEnding (refusing (the_main p)) _ (λ m.
    good_on SmallEnding (refusing (exec_main p size m m.meant)) _ (λ x.
    good_next SmallOutcome SmallEnding
    (run_program p size fuel m m.meant (input_wires size x.1.sizes inputs x.0)) _
    (program_small p size fuel m m.meant (input_wires size x.1.sizes inputs x.0)
    (inputs_small size x.1.sizes inputs x.0 h)) (λ o g.
    ran_ok SmallEnding record {
      values = all_wires size x.1.sizes (record { signals = x.0; wires = o.own } ∷ o.inside);
      log = o.log;
    } (wires_small size x.1.sizes (record { signals = x.0; wires = o.own } ∷ o.inside)
    (g.own, g.inside)))))

-- an assignment with these values
abbrev number_of : Option (Option ℕ) → ℕ
number_of None = 0
number_of (Some None) = 0
number_of (Some (Some n)) = n

number_below : (o : Option (Option ℕ)) → OnSome' SmallOption o → number_of o < P
number_below None h = omega arith
number_below (Some None) h = omega arith
number_below (Some (Some n)) h = h

ending_small : (p : Program) (fuel : ℕ) (inputs : List ℕ) (e : Ending)
    → All (λ n. n < P) inputs → ran p fuel inputs ≡ Ok e → SmallEnding e
ending_small p fuel inputs e h is =
    good_is SmallEnding (ran p fuel inputs) e is
    (run_small group_size p fuel inputs (all_from_every (λ n. n < P) inputs (λ k d z l. h k d l)))

pub values_below : (p : Program) (fuel : ℕ) (inputs : List ℕ) (e : Ending) (i x : ℕ)
    → All (λ n. n < P) inputs → ran p fuel inputs ≡ Ok e
    → slice_get e.values i ≡ Some (Some x) → x < P
values_below p fuel inputs e i x h is there =
    subst (OnSome' SmallOption) there
    (some_at SmallOption e.values i (ending_small p fuel inputs e h is))

-- the first value is that of signal 0
first_is : (p : Program) (fuel : ℕ) (inputs : List ℕ) (e : Ending)
    → ran p fuel inputs ≡ Ok e → slice_get e.values 0 ≡ Some (Some 1)
first_is p fuel inputs e is =
    good_is First (ran p fuel inputs) e is
    (good_on First (refusing (the_main p)) _ (λ m.
    good_on First (refusing (exec_main p group_size m m.meant)) _ (λ x.
    good_on First
    (run_program p group_size fuel m m.meant (input_wires group_size x.1.sizes inputs x.0)) _
    (λ o. ran_ok First record {
      values = all_wires group_size x.1.sizes (record { signals = x.0; wires = o.own } ∷ o.inside);
      log = o.log;
    } refl))))
  where
    First : Ending → Type 0
    First e = slice_get e.values 0 ≡ Some (Some 1)

pub values_assigned : (p : Program) (fuel : ℕ) (inputs : List ℕ) (e : Ending)
    → All (λ n. n < P) inputs → ran p fuel inputs ≡ Ok e
    → (s : Assignment) × ((i x : ℕ) → slice_get e.values i ≡ Some (Some x) → s.at i ≡ x)
values_assigned p fuel inputs e h is = (
  record {
    at = λ n. number_of (slice_get e.values n);
    one = ap number_of (first_is p fuel inputs e is);
    below = λ n. number_below (slice_get e.values n)
        (some_at SmallOption e.values n (ending_small p fuel inputs e h is));
  },
  λ i x there. ap number_of there,
)
