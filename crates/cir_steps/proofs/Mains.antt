-- What a program that compiles and its circuit are made of.
use Rattle.std.proofs.Common.{◌≡◌, ℕ, ◌≤◌, ◌<◌, ◌∷◌, Ok, Err, sym, ap, subst, ◌∙◌, arith}
use Rattle.cir_ast.specs.Program.{Program, Main}
use Rattle.cir_meaning.specs.Tried.{Tried, next}
use Rattle.cir_meaning.specs.Frame.{Signals, World}
use Rattle.cir_meaning.specs.Compile as compile
use Rattle.cir_meaning.specs.Compile.{the_main, exec_main, compiled, group_size}
use Rattle.cir_meaning.proofs.Twins.{Twin}
use Rattle.cir_meaning.proofs.ScanPoints.{next_to}
use Rattle.cir_steps.specs.Making.{Cast}
use Rattle.cir_steps.specs.Circuit.{Circuit, start_cells, all_homes, emit_main, circuit_of}

-- there is room for all signals
pub room_top : group_size ≤ 1048576
unfolding group_size
room_top = omega arith

pub names_fit : (n : ℕ) → n ≤ 1048575 → n < group_size
unfolding group_size
names_fit n h = omega arith

pub given_twin : {A B : Type 0} (R : A → B → Type 0) (m : Tried A) (r : Tried B) (a : A) (b : B)
    → m ≡ Ok a → r ≡ Ok b → Twin R m r → R a b
unfolding Twin
given_twin R (Ok c) (Ok d) a b e f h =
    let left : c ≡ a = cc in
    let right : d ≡ b = cc in
    subst (R a) right (subst (λ x. R x d) left h)
given_twin R (Ok c) (Err x) a b e f h = absurd h
given_twin R (Err x) r a b e f h = cc

-- a program's circuit
abbrev pub the_circuit : ℕ → Main → Signals × World → Cast → Circuit
the_circuit size m x o = record {
  steps = o.steps;
  cells = o.next;
  starts = start_cells m o.own x.0;
  homes = all_homes size x.1.sizes (record { signals = x.0; wires = o.own } ∷ o.inside);
}

module _ (p : Program) (c : compile.Circuit) (b : Circuit) where
  abbrev told : Signals × World → Tried compile.Circuit
  told x = Ok (compile.circuit_of group_size x.1)

  abbrev circuit_in : Main → Signals × World → Tried Circuit
  circuit_in m x =
      next (emit_main p group_size m m.meant) (λ o. Ok (the_circuit group_size m x o))

  abbrev answer : Circuit → Tried Circuit
  answer b = Ok b

  -- what both are made of
  pub record Made : Type 0 where
    pub main : Main
    pub is_main : the_main p ≡ Ok main
    pub given : Signals × World
    pub exec : exec_main p group_size main main.meant ≡ Ok given
    pub cast : Cast
    pub emitted : emit_main p group_size main main.meant ≡ Ok cast
    pub is_told : compile.circuit_of group_size given.1 ≡ c
    pub is_circuit : the_circuit group_size main given cast ≡ b

  pub made_of : compiled p ≡ Ok c → circuit_of p ≡ Ok b → Made
  made_of compiles made =
      let one : (m : Main) × (the_main p ≡ Ok m)
      × (next (exec_main p group_size m m.meant) told ≡ Ok c) =
      next_to (the_main p) (λ m. next (exec_main p group_size m m.meant) told) c compiles in
      let two : (x : Signals × World) × (exec_main p group_size one.0 one.0.meant ≡ Ok x)
      × (told x ≡ Ok c) = next_to (exec_main p group_size one.0 one.0.meant) told c one.2 in
      let circuit : circuit_in one.0 two.0 ≡ Ok b =
      sym (ap (λ m. next m (λ n. next (exec_main p group_size n n.meant) (circuit_in n))) one.1
      ∙ ap (λ x. next x (circuit_in one.0)) two.1) ∙ made in
      let three : (o : Cast) × (emit_main p group_size one.0 one.0.meant ≡ Ok o)
      × (answer (the_circuit group_size one.0 two.0 o) ≡ Ok b) =
      next_to (emit_main p group_size one.0 one.0.meant)
      (λ o. Ok (the_circuit group_size one.0 two.0 o)) b circuit in record {
        main = one.0;
        is_main = one.1;
        given = two.0;
        exec = two.1;
        cast = three.0;
        emitted = three.1;
        is_told = (let same : compile.circuit_of group_size two.0.1 ≡ c = cc in same);
        is_circuit = (let same : the_circuit group_size one.0 two.0 three.0 ≡ b = cc in same);
      }
