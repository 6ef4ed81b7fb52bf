-- One lifting by another.
use Rattle.std.proofs.Common.{◌≡◌, ◌∙◌, ◌++◌, ap, sym, subst}
use Rattle.std.specs.Prelude.{map}
use Rattle.std.proofs.lemmas.List.{append-nil}
use Rattle.cir_ast.specs.Tree.{bare_simple}
use Rattle.cir_meaning.specs.Anonymous.{Lifted, same, then_lift}
use Rattle.cir_lift.specs.declared.values.Lifter.{Lifter}
use Rattle.cir_lift.specs.Lifts.{Lifts}

-- of equal liftings
pub lifts_at : {A X : Type 0} (f : A → X) (s s1 : Lifter) {l l1 : Lifted X} (x : A) → l ≡ l1
    → Lifts f s s1 l x → Lifts f s s1 l1 x
lifts_at f s s1 x is h = subst (λ q. Lifts f s s1 q x) is h

-- what is made of it stands for what is made of its meaning
pub lifts_made : {A B X Y : Type 0} (f : A → X) (g : B → Y) (s s1 : Lifter) (l : Lifted X)
    (make : X → Y) (x : A) (y : B) → Lifts f s s1 l x → g y ≡ make (f x)
    → Lifts g s s1 (then_lift l (λ v n. same (make v) n)) y
lifts_made f g s s1 l make x y h is = record {
  value = is ∙ ap make h.value;
  before = h.before ∙ ap (λ b. map bare_simple s.before.items ++ b) (sym (append-nil l.before));
  next = h.next;
  program = h.program;
  first = h.first;
}
