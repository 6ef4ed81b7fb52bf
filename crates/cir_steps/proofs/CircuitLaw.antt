-- The steps of a program's circuit do what the program does when it runs.
use Rattle.std.proofs.Common.{◌≡◌, ℕ, ◌+◌, ◌-◌, ◌≤◌, ◌<◌, List, ◌∷◌, map, length, Some, Ok, Err}
use Rattle.std.proofs.Common.{refl, sym, ap, subst, ◌∙◌, arith}
use Rattle.std.specs.Prelude.{◌^◌}
use Rattle.cir_ast.specs.declared.program.Meant.{Meant}
use Rattle.cir_ast.specs.declared.program.Meant.TheVariants as meant
use Rattle.cir_ast.specs.Program.{Program, Main}
use Rattle.cir_meaning.specs.Tried.{next}
use Rattle.cir_meaning.specs.Frame.{Signals, World}
use Rattle.cir_meaning.specs.Bodies.{most_open}
use Rattle.cir_meaning.specs.Compile as compile
use Rattle.cir_meaning.specs.Compile.{exec_main, compiled, group_size}
use Rattle.cir_meaning.specs.Run.{Wires, RunTried, Rejected, Stopped, refusing}
use Rattle.cir_meaning.specs.RunSimple.{Outcome}
use Rattle.cir_meaning.specs.RunStatements.{run_call}
use Rattle.cir_meaning.specs.RunBodies.{body_at, input_wires, run_program, all_wires, Ending, ran}
use Rattle.cir_meaning.specs.Scoped.{IsResolved}
use Rattle.cir_meaning.proofs.Starting.{Ends}
use Rattle.cir_meaning.proofs.MainNames.{few_names, few_inputs}
use Rattle.cir_meaning.proofs.MainRuns.{Executed, executed, main_runs}
use Rattle.cir_meaning.proofs.TemplateRuns.{Ran as Runs}
use Rattle.cir_steps.specs.Written.{EachCellOnce}
use Rattle.cir_steps.specs.RunSteps.{in_cell, Progress, run_steps}
use Rattle.cir_steps.specs.Making.{Cast}
use Rattle.cir_steps.specs.Circuit.{Circuit, emit_main, circuit_of, at_start, run_circuit}
use Rattle.cir_steps.proofs.Resolved.{templates}
use Rattle.cir_steps.proofs.Mains.{room_top, names_fit, the_circuit, Made, made_of}
use Rattle.cir_steps.proofs.HomesLaw.{main_homed}
use Rattle.cir_steps.proofs.Alike.{Alike, steps_grow}
use Rattle.cir_steps.proofs.Related.{Ran}
use Rattle.cir_steps.proofs.SimBodies.{calling}
use Rattle.cir_steps.proofs.OnceLaw.{circuit_once}
use Rattle.cir_steps.proofs.Homes.{homes_same}
use Rattle.cir_steps.proofs.OwnCells.{HaveCells}
use Rattle.cir_steps.proofs.MainStarts.{start_fresh, start_zero}
use Rattle.cir_steps.proofs.MainSteps.{part_of, main_alike}
use Rattle.cir_steps.proofs.MainInputs.{all_inputs}
use Rattle.cir_steps.proofs.MainCells.{final, final_grows, wired}
use Rattle.cir_steps.proofs.TablesHome.{all_home}

-- there is room for all signals
room_small : group_size ≤ 2 ^ 64 - 1
unfolding group_size
room_small = omega arith

-- a run and its steps, where the run may end and may stop as a program may
same_ends : {A B : Type 0} (Q : A → Progress → Type 0) (Z : A → Type 0) (m : RunTried A)
    (s : RunTried Progress) (f : A → B) (g : Progress → B) → Alike Q m s → Ends Z m
    → ((a : A) (end : Progress) → s ≡ Ok end → Q a end → Z a → g end ≡ f a)
    → next s (λ end. Ok (g end)) ≡ next m (λ a. Ok (f a))
unfolding Alike Ends
same_ends Q Z (Ok a) s f g h z i =
    ap (λ x. next x (λ end. Ok (g end))) h.1 ∙ ap (λ b. Ok b) (i a h.0 h.1 h.2 z)
same_ends Q Z (Err (Rejected e)) s f g h z i = absurd z
same_ends Q Z (Err (Stopped stop w log)) s f g h z i = ap (λ x. next x (λ end. Ok (g end))) (h z)

abbrev run_ending : ℕ → Signals × World → Outcome → Ending
run_ending size x out = record {
  values = all_wires size x.1.sizes (record { signals = x.0; wires = out.own } ∷ out.inside);
  log = out.log;
}

abbrev steps_ending : Circuit → Progress → Ending
steps_ending b end = record { values = map (in_cell end.cells) b.homes; log = end.log }

module _ (p : Program) (resolved : IsResolved p) (size fuel : ℕ) (m : Main) (t : ℕ)
    (x : Signals × World) (exec : exec_main p size m (meant.Template t) ≡ Ok x) (o : Cast)
    (made : emit_main p size m (meant.Template t) ≡ Ok o) (inputs : List ℕ)
    (top : size ≤ 1048576) (small : size ≤ 2 ^ 64 - 1)
    (few : x.1.sizes.public_inputs + x.1.sizes.private_inputs < size)
    (count : length inputs ≡ x.1.sizes.public_inputs + x.1.sizes.private_inputs)
    (once : EachCellOnce (the_circuit size m x o)) where
  abbrev b : Circuit
  b = the_circuit size m x o

  abbrev given : Wires
  given = input_wires size x.1.sizes inputs x.0

  abbrev begin : Progress
  begin = at_start b inputs

  its : Executed p size m t x.0 x.1
  its = executed p size m t x.0 x.1 exec

  have : HaveCells x.0 o.own
  have = (main_homed p resolved size m (meant.Template t) x exec o made).celled.have

  abbrev cells : Wires
  cells = final p resolved size m t x.0 x.1 its top few o.own have inputs count b once

  zero : begin.cells 0 ≡ Some 1
  zero = start_zero b once inputs (all_inputs p resolved size m t x.0 x.1 its o.own) refl

  alike : Alike (Ran (calling p resolved size fuel) fuel (body_at p size fuel 255)
      (part_of p resolved size fuel m t o cells))
      (run_program p size fuel m (meant.Template t) given)
      (run_steps (run_call p most_open) fuel o.steps begin)
  alike =
      main_alike p resolved size fuel m t o made cells
      (final_grows p resolved size m t x.0 x.1 its top few o.own have inputs count b once) given
      begin zero
      (wired p resolved size m t x.0 x.1 its top few o.own have inputs count b once refl)
      (start_fresh b once inputs) refl

  ends : Ends (Runs size x.0 given its.state.world its.world)
      (run_program p size fuel m (meant.Template t) given)
  ends =
      main_runs p resolved size fuel m t x.0 x.1 its inputs small
      (let less : length inputs < size = omega arith in less) count

  same_ending : (out : Outcome) (end : Progress)
      → run_steps (run_call p most_open) fuel o.steps begin ≡ Ok end
      → Ran (calling p resolved size fuel) fuel (body_at p size fuel 255)
      (part_of p resolved size fuel m t o cells) out end
      → Runs size x.0 given its.state.world its.world out
      → steps_ending b end ≡ run_ending size x out
  same_ending out end ran h r =
      ap (λ vs. record { values = vs; log = end.log })
      (homes_same end.cells (record { signals = x.0; wires = out.own } ∷ out.inside)
      (record { signals = x.0; wires = o.own } ∷ o.inside)
      (all_home end.cells x.0 out.own o.own cells out.inside o.inside have
      (final_grows p resolved size m t x.0 x.1 its top few o.own have inputs count b once) h.0
      (λ n e there k mark at. r.all n e there k mark at) h.1 r.full) size x.1.sizes
      (steps_grow (run_call p most_open) fuel o.steps begin end ran (start_fresh b once inputs)
      0 1 zero))
      ∙ ap (λ l. record {
        values = all_wires size x.1.sizes (record { signals = x.0; wires = out.own } ∷
            out.inside);
        log = l;
      }) h.2

  same_run : next (run_steps (run_call p most_open) fuel o.steps begin)
      (λ end. Ok (steps_ending b end))
      ≡ next (run_program p size fuel m (meant.Template t) given)
      (λ out. Ok (run_ending size x out))
  same_run =
      same_ends (Ran (calling p resolved size fuel) fuel (body_at p size fuel 255)
      (part_of p resolved size fuel m t o cells))
      (Runs size x.0 given its.state.world its.world)
      (run_program p size fuel m (meant.Template t) given)
      (run_steps (run_call p most_open) fuel o.steps begin) (run_ending size x) (steps_ending b)
      alike ends same_ending

-- by what main means
module _ (p : Program) (resolved : IsResolved p) (size fuel : ℕ) (inputs : List ℕ)
    (top : size ≤ 1048576) (small : size ≤ 2 ^ 64 - 1) where
  abbrev pub run_in : Main → Meant → Signals × World → RunTried Ending
  run_in m y x =
      next (run_program p size fuel m y (input_wires size x.1.sizes inputs x.0))
      (λ out. Ok (run_ending size x out))

  abbrev pub steps_of : Circuit → RunTried Ending
  steps_of b =
      next (run_steps (run_call p most_open) fuel b.steps (at_start b inputs))
      (λ end. Ok (steps_ending b end))

  same_by_meant : (m : Main) (y : Meant) (x : Signals × World) (o : Cast)
      → exec_main p size m y ≡ Ok x → emit_main p size m y ≡ Ok o
      → EachCellOnce (the_circuit size m x o)
      → x.1.sizes.public_inputs + x.1.sizes.private_inputs < size
      → length inputs ≡ x.1.sizes.public_inputs + x.1.sizes.private_inputs
      → steps_of (the_circuit size m x o) ≡ run_in m y x
  same_by_meant m (meant.Template t) x o exec made once few count =
      same_run p resolved size fuel m t x exec o made inputs top small few count once
  same_by_meant m meant.Other x o exec made once few count = cc
  same_by_meant m (meant.Variable n) x o exec made once few count = cc
  same_by_meant m (meant.Signal direction n) x o exec made once few count = cc
  same_by_meant m (meant.Component n) x o exec made once few count = cc
  same_by_meant m (meant.Function n) x o exec made once few count = cc

pub circuits_run : (p : Program) (c : compile.Circuit) (b : Circuit) (fuel : ℕ)
    (inputs : List ℕ) → IsResolved p → compiled p ≡ Ok c → circuit_of p ≡ Ok b
    → length inputs ≡ c.public_inputs + c.private_inputs
    → run_circuit p fuel inputs b ≡ ran p fuel inputs
circuits_run p c b fuel inputs resolved compiles made count =
    subst (λ d. run_circuit p fuel inputs d ≡ run_in p resolved group_size fuel inputs room_top
    room_small its.main its.main.meant its.given) its.is_circuit
    (same_by_meant p resolved group_size fuel inputs room_top room_small its.main its.main.meant
    its.given its.cast its.exec its.emitted
    (subst EachCellOnce (sym its.is_circuit)
    (circuit_once group_size p (templates p resolved) b made))
    (subst (λ (d : compile.Circuit). d.public_inputs + d.private_inputs < group_size)
    (sym its.is_told) (few_inputs p resolved group_size c compiles room_top
    (names_fit (length c.names) (few_names p group_size c compiles))))
    (count ∙ ap (λ (d : compile.Circuit). d.public_inputs + d.private_inputs)
    (sym its.is_told)))
    ∙ sym (ap (λ m. next (refusing m)
    (λ n. next (refusing (exec_main p group_size n n.meant)) (run n))) its.is_main
    ∙ ap (λ x. next (refusing x) (run its.main)) its.exec)
  where
    its : Made p c b
    its = made_of p c b compiles made

    run : Main → Signals × World → RunTried Ending
    run n =
        run_in p resolved group_size fuel inputs room_top room_small n n.meant
