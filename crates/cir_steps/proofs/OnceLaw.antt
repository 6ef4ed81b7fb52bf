-- In a circuit each cell is a start cell or is written once.
use Rattle.std.proofs.Common.{◌≡◌, ℕ, suc, ◌+◌, ◌<◌, ◌≤◌, Bool, true, false, cond, nat_eq, nat_le}
use Rattle.std.proofs.Common.{List, [], ◌∷◌, ◌++◌, map, length, Some, None, Ok, refl, ap, arith}
use Rattle.std.specs.Prelude.{not, ◌&&◌, nat_lt}
use Rattle.std.proofs.lemmas.Bool.{leb-true, le-leb, ltb-true, ltb-false}
use Rattle.cir_ast.specs.Program.{Program, Main}
use Rattle.cir_meaning.specs.Places.{numbers_from}
use Rattle.cir_meaning.specs.Frame.{SignalEntry, Signals, World, is_input}
use Rattle.cir_meaning.specs.Run.{Wires}
use Rattle.cir_steps.specs.Step.{Step}
use Rattle.cir_steps.specs.Written.{times, targets_of, EachCellOnce}
use Rattle.cir_steps.specs.Emission.{wire_cell}
use Rattle.cir_steps.specs.Making.{Cast}
use Rattle.cir_steps.specs.Circuit.{Circuit, entry_cells, input_cells, is_public, start_cells}
use Rattle.cir_steps.specs.Circuit.{circuit_with}
use Rattle.cir_steps.proofs.Templates.{AreTemplates}
use Rattle.cir_steps.proofs.Counting.{one, writes, past, past_one, whole, over, inputs_entry}
use Rattle.cir_steps.proofs.Counting.{times_more}
use Rattle.cir_steps.proofs.Once.{Accounts}
use Rattle.cir_steps.proofs.OnceBodies.{Counted, accounts}
use Rattle.cir_steps.proofs.Mains.{the_circuit}
use Rattle.cir_steps.proofs.CircuitGives.{circuit_has}

written_times : (c : ℕ) (steps : List Step) → times c (targets_of steps) ≡ writes c steps
written_times c [] = refl
written_times c (s ∷ ss) =
    let rest : times c (targets_of ss) ≡ writes c ss = written_times c ss in
    let all : times c (s.targets ++ targets_of ss)
    ≡ times c s.targets + times c (targets_of ss) = times_more c s.targets (targets_of ss) in
    omega arith

entry_times : (c i : ℕ) (cell : ℕ → ℕ) (bs : List Bool)
    → times c (map cell (numbers_from i (length bs))) ≡ whole c cell i bs
entry_times c i cell [] = refl
entry_times c i cell (b ∷ bs) =
    let number : i + 1 ≡ suc i = omega arith in
    let same : times c (map cell (numbers_from (i + 1) (length bs)))
    ≡ times c (map cell (numbers_from (suc i) (length bs))) =
    ap (λ (j : ℕ). times c (map cell (numbers_from j (length bs)))) number in
    let rest : times c (map cell (numbers_from (suc i) (length bs))) ≡ whole c cell (suc i) bs =
    entry_times c (suc i) cell bs in
    omega arith

-- inputs that a test takes, and the others
inputs_times : (c : ℕ) (test : SignalEntry → Bool) (wires : Wires) (n : ℕ) (xs : Signals)
    → times c (input_cells test wires n xs) + times c (input_cells (λ e. not (test e)) wires n xs)
    ≡ over (inputs_entry c wires) n xs
inputs_times c test wires n [] = refl
inputs_times c test wires n (None ∷ xs) = inputs_times c test wires (suc n) xs
inputs_times c test wires n (Some e ∷ xs) =
    let rest : times c (input_cells test wires (suc n) xs)
    + times c (input_cells (λ e. not (test e)) wires (suc n) xs)
    ≡ over (inputs_entry c wires) (suc n) xs = inputs_times c test wires (suc n) xs in
    let taken : times c (cond (is_input e.direction && test e) (entry_cells wires n e) []
    ++ input_cells test wires (suc n) xs)
    ≡ times c (cond (is_input e.direction && test e) (entry_cells wires n e) [])
    + times c (input_cells test wires (suc n) xs) = times_more c _ _ in
    let left : times c (cond (is_input e.direction && not (test e)) (entry_cells wires n e) []
    ++ input_cells (λ e. not (test e)) wires (suc n) xs)
    ≡ times c (cond (is_input e.direction && not (test e)) (entry_cells wires n e) [])
    + times c (input_cells (λ e. not (test e)) wires (suc n) xs) = times_more c _ _ in
    let both : times c (cond (is_input e.direction && test e) (entry_cells wires n e) [])
    + times c (cond (is_input e.direction && not (test e)) (entry_cells wires n e) [])
    ≡ inputs_entry c wires n e = at (is_input e.direction) (test e) in
    omega arith
  where
    at : (input taken : Bool)
        → times c (cond (input && taken) (entry_cells wires n e) [])
        + times c (cond (input && not taken) (entry_cells wires n e) [])
        ≡ cond input (whole c (wire_cell wires n) 0 e.written) 0
    at true true =
        let all : times c (entry_cells wires n e) ≡ whole c (wire_cell wires n) 0 e.written =
        entry_times c 0 (wire_cell wires n) e.written in omega arith
    at true false =
        let all : times c (entry_cells wires n e) ≡ whole c (wire_cell wires n) 0 e.written =
        entry_times c 0 (wire_cell wires n) e.written in omega arith
    at false taken = refl

-- a cell is made, or it isn't
past_or : (n c : ℕ) → past n c + cond (nat_lt c n) 1 0 ≡ 1
past_or n c = at (nat_le n c) (nat_lt c n) refl refl
  where
    at : (a b : Bool) → nat_le n c ≡ a → nat_lt c n ≡ b → one a + cond b 1 0 ≡ 1
    at true true e f =
        let above : n ≤ c = leb-true n c e in
        let below : c < n = ltb-true c n f in absurd (omega arith)
    at true false e f = refl
    at false true e f = refl
    at false false e f =
        let above : n ≤ c = ltb-false c n f in
        let is : nat_le n c ≡ true = le-leb n c above in cc

module _ (size : ℕ) (p : Program) (plain : AreTemplates p) where
  main_once : (m : Main) (z : Signals × World) (o : Cast) → Counted 1 z o
      → EachCellOnce (the_circuit size m z o)
  main_once m z o counted c =
      let sum : writes c o.steps + (over (inputs_entry c o.own) 0 z.0 + past o.next c) ≡ past 1 c =
      counted c in
      let all : times c (start_cells m o.own z.0 ++ targets_of o.steps)
      ≡ times c (start_cells m o.own z.0) + times c (targets_of o.steps) =
      times_more c (start_cells m o.own z.0) (targets_of o.steps) in
      let written : times c (targets_of o.steps) ≡ writes c o.steps = written_times c o.steps in
      let inputs : times c (input_cells (is_public m) o.own 0 z.0
      ++ input_cells (λ e. not (is_public m e)) o.own 0 z.0)
      ≡ times c (input_cells (is_public m) o.own 0 z.0)
      + times c (input_cells (λ e. not (is_public m e)) o.own 0 z.0) = times_more c _ _ in
      let given : times c (input_cells (is_public m) o.own 0 z.0)
      + times c (input_cells (λ e. not (is_public m e)) o.own 0 z.0)
      ≡ over (inputs_entry c o.own) 0 z.0 = inputs_times c (is_public m) o.own 0 z.0 in
      let first : one (nat_eq 0 c) + past 1 c ≡ past 0 c = past_one 0 c in
      let every : past 0 c ≡ 1 = ap one (le-leb 0 c (omega arith)) in
      let made : past o.next c + cond (nat_lt c o.next) 1 0 ≡ 1 = past_or o.next c in
      omega arith

  pub circuit_once : (b : Circuit) → circuit_with size p ≡ Ok b → EachCellOnce b
  circuit_once =
      circuit_has size Accounts (λ start world. Counted start) (accounts size) p plain EachCellOnce
      (λ m z o h. main_once m z o h.gives)
