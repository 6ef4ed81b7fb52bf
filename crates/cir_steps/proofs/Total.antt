-- A program that compiles has a circuit.
use Rattle.std.proofs.Common.{◌≡◌, ℕ, Ok, Err, refl}
use Rattle.std.specs.Prelude.{⊤}
use Rattle.cir_ast.specs.Program.{Program}
use Rattle.cir_meaning.specs.Tried.{Tried, next}
use Rattle.cir_meaning.specs.Compile as compile
use Rattle.cir_meaning.specs.Compile.{the_main, exec_main, compiled_with}
use Rattle.cir_meaning.proofs.Twins.{Twin, twin_same}
use Rattle.cir_steps.specs.Circuit.{Circuit, emit_main, circuit_with}
use Rattle.cir_steps.proofs.Templates.{AreTemplates}
use Rattle.cir_steps.proofs.Casting.{Bodies, MainGives, main_fits}

pub twin_given : {A B : Type 0} (R : A → B → Type 0) (m : Tried A) (r : Tried B) (a : A)
    → m ≡ Ok a → Twin R m r → (b : B) × (r ≡ Ok b)
unfolding Twin
twin_given R (Ok c) (Ok b) a e h = (b, refl)
twin_given R (Ok c) (Err f) a e h = absurd h
twin_given R (Err f) r a e h = cc

twin_after : {A B C D : Type 0} (P : A → B → Type 0) (m : Tried A) (r : Tried B) (f : A → C)
    (g : A → B → D) → Twin P m r
    → Twin (λ c d. ⊤) (next m (λ a. Ok (f a))) (next m (λ a. next r (λ b. Ok (g a b))))
unfolding Twin
twin_after P (Ok a) (Ok b) f g h = tt
twin_after P (Ok a) (Err e) f g h = absurd h
twin_after P (Err e) r f g h = tt

pub anything : (size : ℕ) → Bodies size (λ x y. ⊤) (λ start world z o. ⊤)
anything size = record {
  keeps = record { still = λ x s h. tt; joins = λ x y z h g. tt };
  fresh = λ x y step h. tt;
  declared = λ k sized spot direction n name dims x h. tt;
  wiring = λ q calls w written m accessors a e x b s y i j l. tt;
  creating = λ q w c place a o x h g. tt;
  ends = λ k t ds path world start y z h sized empty e. tt;
}

pub circuit_total : (size : ℕ) (p : Program) → AreTemplates p → (c : compile.Circuit)
    → compiled_with size p ≡ Ok c → (b : Circuit) × (circuit_with size p ≡ Ok b)
circuit_total size p plain c e =
    twin_given (λ c b. ⊤) (compiled_with size p) (circuit_with size p) c e
    (twin_same (λ c b. ⊤) (the_main p) _ _ (λ m.
    twin_after (MainGives size (λ x y. ⊤) (λ start world z o. ⊤) (anything size) p plain)
    (exec_main p size m m.meant)
    (emit_main p size m m.meant) _ _
    (main_fits size (λ x y. ⊤) (λ start world z o. ⊤) (anything size) p plain m m.meant)))
