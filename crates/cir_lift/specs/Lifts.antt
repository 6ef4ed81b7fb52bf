-- What the code's statements without anonymous components stand for.
use Rattle.std.specs.Prelude.{◌≡◌, ℕ, List, [], ◌++◌, map}
use Rattle.cir_ast.specs.declared.program.Meant.{Meant}
use Rattle.cir_ast.specs.Tree.{Simple, Expr, Anonymous, Signal, bare_simple}
use Rattle.cir_ast.specs.Program.{Program}
use Rattle.cir_meaning.specs.Anonymous.{Lifted, same, then_lift, lift_inputs, lift_value}
use Rattle.cir_meaning.specs.Anonymous.{created}
use Rattle.cir_lift.specs.declared.values.Lifter.{Lifter}
use Rattle.cir_lift.specs.declared.lifting.Lifted.{Lifted as CodeLifted}

-- the statements so far and what is lifted stand behind each other
pub record Lifts {A B : Type 0} (view : A → B) (old new : Lifter) (l : Lifted B) (x : A)
    : Type 0 where
  pub value : view x ≡ l.value
  pub before : map bare_simple new.before.items ≡ map bare_simple old.before.items ++ l.before
  pub next : new.next ≡ l.next
  pub program : new.program.now ≡ old.program.now
  pub first : new.first ≡ old.first

pub record IsLifted (l : Lifted (Simple Meant)) (x : CodeLifted) : Type 0 where
  pub before : map bare_simple x.before.items ≡ l.before
  pub value : bare_simple x.value ≡ l.value

-- an anonymous component stands for its outputs
abbrev pub outputs_of : Program → (first : ℕ) → Expr Meant → ℕ → Lifted (List (Expr Meant))
outputs_of p first (Anonymous parallel name m arguments inputs) n =
    then_lift (lift_inputs p first inputs n) (λ is n1. created p first parallel name m arguments is
    n1)
outputs_of p first e n = same [] n

-- a declared signal, by its value
abbrev pub lift_signal : Program → ℕ → Signal Meant → ℕ → Lifted (Signal Meant)
lift_signal p first s n =
    then_lift (lift_value p first s.value n) (λ v n1. same (record s { value = v }) n1)
