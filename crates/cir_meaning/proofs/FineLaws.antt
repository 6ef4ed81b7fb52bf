-- What the equations of a program that compiles are.
use Rattle.std.proofs.Common.{◌≡◌, ◌↔◌, ℕ, List, All, Ok, zero-le, subst, sym, ◌∙◌}
use Rattle.std.specs.List.{AllByRecursion}
use Rattle.std.proofs.ByRecursion.{every_from_all}
use Rattle.gold_field.specs.declared.form.Constraint.{Constraint}
use Rattle.gold_field.specs.Form.{Holds}
use Rattle.cir_ast.specs.Program.{Program}
use Rattle.cir_lc.specs.Number.{Assignment}
use Rattle.cir_meaning.specs.Tried.{Tried}
use Rattle.cir_meaning.specs.Source.{IsDifference, IsEqualAt, IsSource}
use Rattle.cir_meaning.specs.Compile.{Circuit, Satisfies, compiled, group_size}
use Rattle.cir_meaning.proofs.Good.{good_is}
use Rattle.cir_meaning.proofs.Holding.{all_hold}
use Rattle.cir_meaning.proofs.FineBodies.{compiled_fine}

pub all_of : {A : Type 0} (P : A → Type 0) (xs : List A) → AllByRecursion P xs → All P xs
all_of P xs h = λ k d l. every_from_all P xs h k d zero-le l

pub differences : (p : Program) (c : Circuit) → compiled p ≡ Ok c → All IsDifference c.equations
differences p c e =
    all_of IsDifference c.equations (good_is (λ c. AllByRecursion IsDifference c.equations)
    (compiled p) c e (compiled_fine group_size p))

same_circuit : (m : Tried Circuit) (c d : Circuit) → m ≡ Ok c → m ≡ Ok d → c ≡ d
same_circuit m c d e f = let h : Ok c ≡ Ok d = sym e ∙ f in cc

pub list_holds : (p : Program) (c : Circuit) (n : ℕ) (ks : List Constraint) (s : Assignment)
    → compiled p ≡ Ok c → IsSource n c.equations ks → Satisfies p s ↔ All (Holds s.at) ks
list_holds p c n ks s e h = (
  (λ x. (all_hold n c.equations ks s (differences p c e) h).0
      (subst (λ d. All (IsEqualAt s) d.equations) (same_circuit (compiled p) x.0 c x.1 e) x.2)),
  (λ g. (c, e, (all_hold n c.equations ks s (differences p c e) h).1 g)),
)
