-- What main's execution leaves is the program's circuit.
use Rattle.std.proofs.Common.{◌≡◌, ◌∙◌, ℕ, suc, ◌+◌, ◌≤◌, ◌<◌, List, [], ◌∷◌, ◌++◌, map, length}
use Rattle.std.proofs.Common.{Option, Some, None, Result, Ok, Err, refl, sym, ap, subst, arith}
use Rattle.std.proofs.Common.{cond}
use Rattle.std.specs.Prelude.{IsErrAnd, not, unwrap_or, ◌&&◌}
use Rattle.std.specs.List.{AllByRecursion}
use Rattle.std.proofs.lemmas.Bool.{lt-ltb}
use Rattle.cir_ast.specs.Program.{Main, Program}
use Rattle.cir_meaning.specs.Tried.{Tried, next}
use Rattle.cir_meaning.specs.Compile.{exec_main, group_size, the_main, compiled}
use Rattle.cir_meaning.specs.Costs.{Made as Key}
use Rattle.cir_meaning.specs.Frame.{Group, Outputs, PublicInputs, PrivateInputs, Others, Signals}
use Rattle.cir_meaning.specs.Frame.{SignalEntry, Sizes, World, before_group, is_input, size_in}
use Rattle.cir_meaning.specs.Places.{numbers_from}
use Rattle.cir_meaning.specs.Run.{Table, Wires}
use Rattle.cir_meaning.specs.RunBodies.{group_wires, or_else, signal_wire, table_wire}
use Rattle.cir_meaning.specs.Scoped.{IsResolved}
use Rattle.cir_meaning.specs.Compile as M
use Rattle.cir_meaning.specs.Source.{Equation}
use Rattle.cir_arrays.specs.declared.stop.Fault.{Fault}
use Rattle.cir_arrays.specs.Stopped.{IsRefusal}
use Rattle.cir_frame.specs.Shown.{signals_of, sizes_of, world_of}
use Rattle.cir_inst.specs.Compiled as I
use Rattle.cir_inst.specs.Compiled.{IsWithinLimits}
use Rattle.cir_inst.specs.Made.{IsMade}
use Rattle.cir_inst.specs.declared.circuit.Circuit.{Circuit as Instantiated}
use Rattle.cir_inst.proofs.Compiling.{made_by}
use Rattle.cir_scope.specs.Counted.{AreCounted}
use Rattle.cir_scope.specs.Runnable.{AreRunnable}
use Rattle.cir_steps.specs.Circuit.{Circuit, all_homes, circuit_of, emit_main, entry_cells}
use Rattle.cir_steps.specs.Circuit.{input_cells, is_public, start_cells}
use Rattle.cir_steps.specs.Making as S
use Rattle.cir_steps.specs.Step.{Step}
use Rattle.cir_steps.proofs.HomesLaw.{main_homed}
use Rattle.cir_steps.proofs.Housing.{AreCelled, Celled}
use Rattle.cir_steps.proofs.Mains.{the_circuit}
use Rattle.cir_steps.proofs.OwnCells.{is_element}
use Rattle.cir_steps.proofs.Resolved.{templates}
use Rattle.cir_steps.proofs.SmallLaw.{circuit_small}
use Rattle.wit_circuit.specs.declared.code.CircuitCode.{CircuitCode}
use Rattle.wit_circuit.specs.declared.columns.MadeStep.{MadeStep}
use Rattle.wit_circuit.specs.Whole.{StandsFor}
use Rattle.cir_make.specs.declared.cells.Homes.{Homes}
use Rattle.cir_make.specs.declared.whole.Cast.{Cast}
use Rattle.cir_make.specs.declared.whole.Made.{Made}
use Rattle.cir_make.specs.Cells.{AreMade, wires_by}
use Rattle.cir_make.specs.Housed.{AreHomes, HasCells, home_in}
use Rattle.cir_make.specs.Shows.{SameWires, keys_of}
use Rattle.cir_body.specs.declared.mains.Executed.{Executed}
use Rattle.cir_body.specs.Coded.{Codes, IsBoth, IsCoded}
use Rattle.cir_homes.specs.Filled.{group_homes, homes_by}
use Rattle.cir_homes.specs.Homed.{signal_homes}
use Rattle.cir_body.specs.Mains.{IsExecuted}
use Rattle.cir_homes.proofs.Housed.{table_housed}

-- ---- start cells, where signals have the same cells
map_same : {A B : Type 0} (f g : A → B) → ((a : A) → f a ≡ g a) → (xs : List A)
    → map f xs ≡ map g xs
map_same f g same [] = refl
map_same f g same (x ∷ xs) =
    ap (λ y. y ∷ map f xs) (same x) ∙ ap (λ ys. g x ∷ ys) (map_same f g same xs)

module _ (a b : Wires) (same : SameWires a b) where
  inputs_same : (test : SignalEntry → _) (n : ℕ) (xs : Signals)
      → input_cells test a n xs ≡ input_cells test b n xs
  inputs_same test n [] = refl
  inputs_same test n (None ∷ xs) = inputs_same test (suc n) xs
  inputs_same test n (Some e ∷ xs) =
      ap (λ l. cond (is_input e.direction && test e) l [] ++ input_cells test a (suc n) xs)
      (map_same _ _ (λ k. ap (λ (o : Option ℕ). unwrap_or o 0) (same n k)) _)
      ∙ ap (λ l. cond (is_input e.direction && test e) (entry_cells b n e) [] ++ l)
      (inputs_same test (suc n) xs)

  starts_same : (m : Main) (xs : Signals) → start_cells m a xs ≡ start_cells m b xs
  starts_same m xs =
      ap (λ l. 0 ∷ (l ++ input_cells (λ e. not (is_public m e)) a 0 xs))
      (inputs_same (is_public m) 0 xs)
      ∙ ap (λ l. 0 ∷ (input_cells (is_public m) b 0 xs ++ l))
      (inputs_same (λ e. not (is_public m e)) 0 xs)

-- ---- homes
has_cells : (last : ℕ) (t : Table) → Celled last t → HasCells t
has_cells last t h n e k there less =
    h.have n k ∙ ap (λ o. is_element o k) there ∙ lt-ltb k (length e.written) less

all_have : (last : ℕ) (ts : List Table) → AreCelled last ts → AllByRecursion HasCells ts
all_have last [] h = tt
all_have last (t ∷ ts) h = (has_cells last t h.0, all_have last ts h.1)

module _ (sizes : Sizes) (ts : List Table) (hs : List Homes)
    (same : (j : ℕ) → table_wire ts j ≡ home_in hs j) where
  group_found : (g : Group) → group_wires group_size sizes ts g ≡ group_homes sizes hs g
  group_found g =
      map_same (table_wire ts) (home_in hs) same
      (numbers_from (1 + before_group group_size g) (size_in g sizes))

  homes_found : all_homes group_size sizes ts ≡ homes_by sizes hs
  homes_found =
      ap (λ l. Some 0 ∷ l)
      (join (group_found Outputs)
      (join (group_found PublicInputs) (join (group_found PrivateInputs) (group_found Others))))
    where
      join : {xs ys zs ws : List (Option ℕ)} → xs ≡ zs → ys ≡ ws → xs ++ ys ≡ zs ++ ws
      join {xs} {ys} {zs} {ws} e f = ap (λ l. l ++ ys) e ∙ ap (λ l. zs ++ l) f

main_homes : (sizes : Sizes) (c : Cast) (o : S.Cast) (last : ℕ)
    → Celled last record { signals = signals_of c.signals.items; wires = o.own }
    → AreCelled last o.inside → SameWires o.own (wires_by c.ports.items)
    → AreHomes o.inside c.inside.items
    → all_homes group_size sizes (record { signals = signals_of c.signals.items; wires = o.own }
    ∷ o.inside)
    ≡ homes_by sizes (signal_homes c.signals.items c.ports.items ++ c.inside.items)
main_homes sizes c o last own inside same homes =
    homes_found sizes
    (record { signals = signals_of c.signals.items; wires = o.own } ∷ o.inside)
    (signal_homes c.signals.items c.ports.items ++ c.inside.items) (λ j.
    ap (λ x. or_else (signal_wire j 0 (signals_of c.signals.items) o.own) x)
    (homes (all_have last o.inside inside) j)
    ∙ sym (table_housed j c.signals.items c.ports.items o.own c.inside.items same
    (has_cells last _ own)))

-- ---- the circuit
abbrev answer : Program → Main → Signals × World → Tried Circuit
answer p m x =
    next (emit_main p group_size m m.meant) (λ o. Ok (the_circuit group_size m x o))

circuit_is : (p : Program) (m : Main) (x : Signals × World) (o : S.Cast) → the_main p ≡ Ok m
    → exec_main p group_size m m.meant ≡ Ok x → emit_main p group_size m m.meant ≡ Ok o
    → circuit_of p ≡ Ok (the_circuit group_size m x o)
circuit_is p m x o main exec emits =
    ap (λ (t : Tried Main). next t (λ n. next (exec_main p group_size n n.meant) (answer p n)))
    main
    ∙ ap (λ (t : Tried (Signals × World)). next t (answer p m)) exec
    ∙ ap (λ (t : Tried S.Cast). next t (λ o. Ok (the_circuit group_size m x o))) emits

pub executed_coded : (p : Program) (m : Main) (x : Executed) → IsResolved p → the_main p ≡ Ok m
    → IsExecuted p m x
    → (b : Circuit) × IsCoded p m (sizes_of x.whole.world.sizes) x.whole.made x.cast b
executed_coded p m x resolved main is =
    let signals : Signals = signals_of x.cast.signals.items in
    let world : World = world_of x.whole.world is.equations in
    let o : S.Cast = is.emitted in
    let b : Circuit = the_circuit group_size m (signals, world) o in
    let homed = main_homed p resolved group_size m m.meant (signals, world) is.executes o is.emits
    in (
      b,
      record {
        emitted = circuit_is p m (signals, world) o main is.executes is.emits;
        steps = is.is_cast.steps;
        cells = sym is.is_cast.next;
        starts = sym (starts_same o.own (wires_by x.cast.ports.items) is.is_cast.ports m signals);
        homes = sym (main_homes world.sizes x.cast o o.next homed.celled homed.inside
            is.is_cast.ports is.is_cast.inside);
      },
    )

made_length : (keys : List Key) (ss : List Step) (ms : List MadeStep) → AreMade keys ss ms
    → length ms ≡ length ss
made_length keys [] [] h = refl
made_length keys [] (m ∷ ms) h = absurd h
made_length keys (s ∷ ss) [] h = absurd h
made_length keys (s ∷ ss) (m ∷ ms) h = ap (λ (n : ℕ). suc n) (made_length keys ss ms h.1)

pub few_steps : (p : Program) (m : Main) (sizes : Sizes) (made : Made) (c : Cast) (b : Circuit)
    → IsResolved p → IsCoded p m sizes made c b → length c.steps.items ≤ 2097152
few_steps p m sizes made c b resolved is =
    let small : length b.steps ≤ 2097152 =
    (circuit_small group_size p (templates p resolved) b is.emitted).1 in
    let many : length c.steps.items ≡ length b.steps =
    made_length (keys_of made) b.steps c.steps.items is.steps in omega arith

-- ---- what is answered
pub exit_codes : (p : Program) (r : Result (Instantiated × CircuitCode) Fault) (e : Fault)
    → IsErrAnd r (λ x. x ≡ e) → IsRefusal e (compiled p) → Codes p r
exit_codes p (Ok x) e is h = absurd is
exit_codes p (Err f) e is h = subst (λ (x : Fault). IsRefusal x (compiled p)) (sym is) h

pub both_coded : (p : Program) (m : Main) (x : Executed) (c : Instantiated) (code : CircuitCode)
    → IsResolved p → (main : the_main p ≡ Ok m) → (is : IsExecuted p m x)
    → ((es : List Equation) → IsMade es x.whole.world
    → I.IsCircuitOf (M.circuit_of group_size (world_of x.whole.world es)) c)
    → IsWithinLimits c
    → ((b : Circuit) → IsCoded p m (sizes_of x.whole.world.sizes) x.whole.made x.cast b
    → AreCounted p → AreRunnable p → StandsFor p b code)
    → IsBoth p c code
both_coded p m x c code resolved main is circuit fits stands =
    let made = executed_coded p m x resolved main is in record {
      circuit = M.circuit_of group_size (world_of x.whole.world is.equations);
      compiles = made_by p m x.whole.world is.equations (signals_of x.cast.signals.items) main
          is.executes;
      instantiated = circuit is.equations is.is_made;
      fits = fits;
      coded = λ counts runnable. record {
        circuit = made.0;
        emitted = made.1.emitted;
        made = stands made.0 made.1 counts runnable;
      };
    }
