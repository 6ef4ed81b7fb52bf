-- What is told of calls, at compile time and when a program runs.
use Rattle.std.proofs.Common.{◌≡◌, ◌≢◌, ℕ, ◌+◌, ◌<◌, ◌≤◌, true, List, [], ◌∷◌, All, length, Some}
use Rattle.std.proofs.Common.{is_some, Result, Ok, Err, subst, slice_get, arith}
use Rattle.std.specs.Prelude.{◌^◌, ◌-◌}
use Rattle.std.specs.List.{list_all, AllByRecursion}
use Rattle.cir_lc.specs.Number.{Assignment}
use Rattle.cir_meaning.specs.Source.{IsEqualAt}
use Rattle.cir_ast.specs.Program.{Program}
use Rattle.cir_meaning.specs.SignalFree.{AreFunctionsFree}
use Rattle.cir_meaning.specs.Scoped.{IsResolved}
use Rattle.cir_meaning.specs.Tried.{Where, Refused}
use Rattle.cir_meaning.specs.Compile.{Circuit, Satisfies, compiled, group_size}
use Rattle.cir_meaning.specs.Run.{RunTried, Rejected, Stopped}
use Rattle.cir_meaning.specs.RunBodies.{Ending, ran}
use Rattle.cir_meaning.specs.Arrays.{Datum, is_known, is_all_known}
use Rattle.cir_meaning.specs.Frame.{World}
use Rattle.cir_meaning.specs.Bodies.{call_at}
use Rattle.cir_meaning.specs.RunValues.{Numbers, missing}
use Rattle.cir_meaning.specs.RunStatements.{run_call}
use Rattle.cir_meaning.proofs.Good.{good_is}
use Rattle.cir_meaning.proofs.KnownValues.{KnownDatum, pass_all}
use Rattle.cir_meaning.proofs.KnownCalls.{both_known, calls_both}
use Rattle.cir_meaning.proofs.Starting.{Ends}
use Rattle.cir_meaning.proofs.FineLaws.{all_of}
use Rattle.cir_meaning.proofs.MainValues.{HasValues, Fitting}
use Rattle.cir_meaning.proofs.MainRuns.{runs}
use Rattle.std.proofs.ByRecursion.{all_from_every}
use Rattle.gold_field.specs.declared.gold.TheConstants.{P}
use Rattle.cir_meaning.proofs.SmallNumbers.{SmallAll, SmallAnswer, gives_is}
use Rattle.cir_meaning.proofs.SmallSteps.{calls_small}
use Rattle.cir_meaning.proofs.MainNames.{counted, few_names, few_inputs}
use Rattle.cir_meaning.proofs.RunFree.{NoMiss, IsNumber', run_calls}

pub call_known : (p : Program) (size room n : ℕ) (w : Where) (arguments : List Datum)
    (world after : World) (d : Datum) → AreFunctionsFree p
    → list_all is_all_known arguments ≡ true
    → call_at p size room w n arguments world ≡ Ok (d, after) → is_all_known d ≡ true
call_known p size room n w arguments world after d free known e =
    pass_all is_known d.items (good_is (λ x. KnownDatum x.0)
    (call_at p size room w n arguments world) (d, after) e
    (both_known (call_at p size room) (calls_both p size room free) w n arguments world known))

stop_of : {A : Type 0} (Q : A → Type 0) (m : Result A ℕ) (stop : ℕ) → m ≡ Err stop → NoMiss Q m
    → stop ≢ 0
unfolding NoMiss
stop_of Q (Ok a) stop e h = cc
stop_of Q (Err s) stop e h = let same : s ≡ stop = cc in subst (λ x. x ≢ 0) same h

pub never_miss : (p : Program) (room f units stop : ℕ) (arguments : List Numbers)
    → AreFunctionsFree p → f < length p.functions
    → run_call p room f arguments units ≡ Err stop → stop ≢ missing
never_miss p room f units stop arguments free l e =
    stop_of IsNumber' (run_call p room f arguments units) stop e
    (run_calls p room free f arguments units l)

-- of a whole run
room_small : group_size ≤ 2 ^ 64 - 1
unfolding group_size
room_small = omega arith

room_top : group_size ≤ 1048576
unfolding group_size
room_top = omega arith

-- the limit of signals leaves each group room
pub names_few : (p : Program) (c : Circuit) → compiled p ≡ Ok c → length c.names ≤ 1048575
names_few p c made = few_names p group_size c made

names_fit : (p : Program) (c : Circuit) → compiled p ≡ Ok c → length c.names < group_size
unfolding group_size
names_fit p c made = let few : length c.names ≤ 1048575 = names_few p c made in omega arith

inputs_fit : (p : Program) (c : Circuit) (inputs : List ℕ) → IsResolved p → compiled p ≡ Ok c
    → length inputs ≡ c.public_inputs + c.private_inputs → length inputs < group_size
inputs_fit p c inputs resolved made count =
    few_of (length inputs) (c.public_inputs + c.private_inputs) count
    (few_inputs p resolved group_size c made room_top (names_fit p c made))
  where
    few_of : (n k : ℕ) → n ≡ k → k < group_size → n < group_size
    few_of n k e h = omega arith

not_rejected : {A : Type 0} (Q : A → Type 0) (m : RunTried A) (e : Refused) → Ends Q m
    → m ≢ Err (Rejected e)
unfolding Ends
not_rejected Q (Ok a) e h = λ no. cc
not_rejected Q (Err (Rejected x)) e h = absurd h
not_rejected Q (Err (Stopped stop w log)) e h = λ no. cc

not_missing : {A : Type 0} (Q : A → Type 0) (m : RunTried A) (stop : ℕ) (w : Where)
    (log : List (List ℕ))
    → Ends Q m → m ≡ Err (Stopped stop w log) → stop ≢ 0
unfolding Ends
not_missing Q (Ok a) stop w log h e = cc
not_missing Q (Err (Rejected x)) stop w log h e = absurd h
not_missing Q (Err (Stopped s v l)) stop w log h e =
    let same : s ≡ stop = cc in subst (λ n. n ≢ 0) same h

pub run_accepted : (p : Program) (c : Circuit) (fuel : ℕ) (inputs : List ℕ) (e : Refused)
    → IsResolved p → compiled p ≡ Ok c → length inputs ≡ c.public_inputs + c.private_inputs
    → ran p fuel inputs ≢ Err (Rejected e)
run_accepted p c fuel inputs e resolved made count =
    not_rejected (Fitting group_size c) (ran p fuel inputs) e
    (runs p resolved group_size fuel c inputs room_small made count
    (inputs_fit p c inputs resolved made count)
    (counted p resolved group_size))

pub run_never_misses : (p : Program) (c : Circuit) (fuel : ℕ) (inputs : List ℕ) (stop : ℕ)
    (w : Where) (log : List (List ℕ)) → IsResolved p → compiled p ≡ Ok c
    → length inputs ≡ c.public_inputs + c.private_inputs
    → ran p fuel inputs ≡ Err (Stopped stop w log) → stop ≢ missing
run_never_misses p c fuel inputs stop w log resolved made count =
    not_missing (Fitting group_size c) (ran p fuel inputs) stop w log
    (runs p resolved group_size fuel c inputs room_small made count
    (inputs_fit p c inputs resolved made count)
    (counted p resolved group_size))

-- what a run ends with
ended : {A : Type 0} (Q : A → Type 0) (m : RunTried A) (a : A) → Ends Q m → m ≡ Ok a → Q a
unfolding Ends
ended Q (Ok b) a h e = let same : b ≡ a = cc in subst Q same h
ended Q (Err (Rejected x)) a h e = absurd h
ended Q (Err (Stopped stop w log)) a h e = cc

pub run_fits : (p : Program) (c : Circuit) (fuel : ℕ) (inputs : List ℕ) (e : Ending)
    → IsResolved p → compiled p ≡ Ok c
    → length inputs ≡ c.public_inputs + c.private_inputs
    → ran p fuel inputs ≡ Ok e
    → (length e.values ≡ 1 + length c.names) × AllByRecursion (λ o. is_some o ≡ true) e.values
    × ((s : Assignment) → HasValues s e.values → AllByRecursion (IsEqualAt s) c.equations)
run_fits p c fuel inputs e resolved made count ends =
    ended (Fitting group_size c) (ran p fuel inputs) e
    (runs p resolved group_size fuel c inputs room_small made count
    (inputs_fit p c inputs resolved made count) (counted p resolved group_size)) ends
    room_top (names_fit p c made)

pub run_counts : (p : Program) (c : Circuit) (fuel : ℕ) (inputs : List ℕ) (e : Ending)
    → IsResolved p → compiled p ≡ Ok c
    → length inputs ≡ c.public_inputs + c.private_inputs
    → ran p fuel inputs ≡ Ok e → length e.values ≡ 1 + length c.names
run_counts p c fuel inputs e resolved made count ends =
    (run_fits p c fuel inputs e resolved made count ends).0

pub run_has_values : (p : Program) (c : Circuit) (fuel : ℕ) (inputs : List ℕ) (e : Ending)
    → IsResolved p → compiled p ≡ Ok c
    → length inputs ≡ c.public_inputs + c.private_inputs
    → ran p fuel inputs ≡ Ok e → All (λ o. is_some o ≡ true) e.values
run_has_values p c fuel inputs e resolved made count ends =
    all_of (λ o. is_some o ≡ true) e.values
    (run_fits p c fuel inputs e resolved made count ends).1

pub run_satisfies : (p : Program) (c : Circuit) (fuel : ℕ) (inputs : List ℕ) (e : Ending)
    (s : Assignment) → IsResolved p → compiled p ≡ Ok c
    → length inputs ≡ c.public_inputs + c.private_inputs
    → ran p fuel inputs ≡ Ok e
    → ((i x : ℕ) → slice_get e.values i ≡ Some (Some x) → s.at i ≡ x) → Satisfies p s
run_satisfies p c fuel inputs e s resolved made count ends has = (
  c,
  made,
  all_of (IsEqualAt s) c.equations
      ((run_fits p c fuel inputs e resolved made count ends).2 s has),
)

-- numbers of the field
from_all : {A : Type 0} (Q : A → Type 0) (xs : List A) → All Q xs → AllByRecursion Q xs
from_all Q xs h = all_from_every Q xs (λ k d z l. h k d l)

smalls : (ds : List Numbers) → AllByRecursion (λ (d : Numbers). All (λ n. n < P) d.items) ds
    → SmallAll ds
smalls [] h = tt
smalls (d ∷ ds) h = (from_all (λ n. n < P) d.items h.0, smalls ds h.1)

pub give_numbers : (p : Program) (room f units left : ℕ) (arguments : List Numbers) (d : Numbers)
    → All (λ (a : Numbers). All (λ n. n < P) a.items) arguments
    → run_call p room f arguments units ≡ Ok (d, left) → All (λ n. n < P) d.items
give_numbers p room f units left arguments d small e =
    all_of (λ n. n < P) d.items
    (gives_is SmallAnswer (run_call p room f arguments units) (d, left)
    (calls_small p room f arguments units
    (smalls arguments (from_all (λ (a : Numbers). All (λ n. n < P) a.items) arguments small))) e)
