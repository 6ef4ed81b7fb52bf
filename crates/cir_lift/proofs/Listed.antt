-- The values of a source in a list.
use Rattle.std.proofs.Common.{◌≡◌, ◌∙◌, ℕ, ◌-◌, List, [], ◌∷◌, ◌++◌, Bool, false, ap, sym}
use Rattle.std.proofs.Common.{subst, refl}
use Rattle.std.specs.Prelude.{map}
use Rattle.std.proofs.lemmas.List.{append-nil}
use Rattle.std.proofs.lemmas.Bool.{false≢true}
use Rattle.cir_ast.specs.declared.marked.Expr.{Expr as CodeExpr}
use Rattle.cir_ast.specs.declared.marked.Source.{Source as CodeSource}
use Rattle.cir_ast.specs.declared.marked.Source.TheVariants as source_as
use Rattle.cir_ast.specs.declared.operators.Direction.TheVariants.{Output}
use Rattle.cir_ast.specs.declared.program.Meant.{Meant}
use Rattle.cir_ast.specs.Program.{Program, bare_program}
use Rattle.cir_ast.specs.Tree.{Expr, Exprs, more, as_exprs, bare, bare_exprs, bare_simple}
use Rattle.cir_ast.specs.Tree.{Anonymous, Parentheses, Inputs, Target, Discard, Slots, One, Values}
use Rattle.cir_ast.specs.Tree.{bare_source}
use Rattle.cir_meaning.specs.Anonymous.{Lifted, same, then_lift, lift, lift_all, lift_each}
use Rattle.cir_meaning.specs.Anonymous.{lift_source, lift_inputs, only, signal_of, names_of}
use Rattle.cir_lift.specs.declared.values.Lifter.{Lifter}
use Rattle.cir_lift.specs.Lifts.{Lifts}
use Rattle.cir_lift.proofs.Steps.{lifts_at}
use Rattle.cir_lift.specs.Turned.{as_values, is_parentheses}

abbrev over : {A B : Type 0} → (A → B) → Lifted A → Lifted B
over f l = record { before = l.before; value = f l.value; next = l.next }

all_each : (p : Program) (first : ℕ) (es : List (Expr Meant)) (n : ℕ)
    → lift_all p first (as_exprs es) n ≡ over as_exprs (lift_each (lift p first) es n)
all_each p first [] n = refl
all_each p first (e ∷ es) n =
    ap (λ l. then_lift (lift p first e n) (λ x n1. then_lift l (λ xs n2. same (more x xs) n2)))
    (all_each p first es (lift p first e n).next)

exprs_same : (xs ys : List (Expr Meant)) → as_exprs xs ≡ as_exprs ys → xs ≡ ys
exprs_same [] [] is = refl
exprs_same [] (y ∷ ys) is = cc
exprs_same (x ∷ xs) [] is = cc
exprs_same (x ∷ xs) (y ∷ ys) is =
    let first : x ≡ y = cc in
    let rest : as_exprs xs ≡ as_exprs ys = cc in
    let more : xs ≡ ys = exprs_same xs ys rest in
    cc

source_values : (p : Program) (first n : ℕ) (target : Target Meant) (es : List (Expr Meant))
    → lift_source p first target (Values es) n
    ≡ then_lift (lift_each (lift p first) es n) (λ xs n1. same (Values xs) n1)
source_values p first n Discard es = refl
source_values p first n (Slots slots) es = refl

pub values_lifted : (s s1 : Lifter) (target : Target Meant) (source : CodeSource Meant)
    (es slice xs : List (CodeExpr Meant)) → source ≡ source_as.Tuple es → slice ≡ es
    → Lifts bare_exprs s s1
    (lift_all (bare_program s.program.now) s.first (bare_exprs slice) s.next) xs
    → Lifts (λ ys. Values (map bare ys)) s s1
    (lift_source (bare_program s.program.now) s.first target (bare_source source) s.next) xs
values_lifted s s1 target source es slice xs is all h =
    let p : Program = bare_program s.program.now in
    let each : Lifted (List (Expr Meant)) =
    lift_each (lift p s.first) (map bare slice) s.next in
    let same_lift : lift_all p s.first (bare_exprs slice) s.next ≡ over as_exprs each =
    all_each p s.first (map bare slice) s.next in
    lifts_at (λ ys. Values (map bare ys)) s s1 xs
    (sym (source_values p s.first s.next target (map bare slice))
    ∙ ap (λ l. lift_source p s.first target (Values (map bare l)) s.next) all
    ∙ sym (ap (λ x. lift_source p s.first target (bare_source x) s.next) is))
    record {
      value = ap (λ ys. Values ys) (exprs_same (map bare xs) each.value
          (h.value ∙ ap (λ (q : Lifted (Exprs Meant)). q.value) same_lift));
      before = h.before
          ∙ ap (λ (q : Lifted (Exprs Meant)). map bare_simple s.before.items ++ q.before) same_lift
          ∙ ap (λ b. map bare_simple s.before.items ++ b) (sym (append-nil each.before));
      next = h.next ∙ ap (λ (q : Lifted (Exprs Meant)). q.next) same_lift;
      program = h.program;
      first = h.first;
    }

-- and where none is lifted, none is in the list
each_same : (p : Program) (first n : ℕ) (es : List (Expr Meant))
    → lift_all p first (as_exprs es) n ≡ same (as_exprs es) n
    → lift_each (lift p first) es n ≡ same es n
each_same p first n es h =
    let each : Lifted (List (Expr Meant)) = lift_each (lift p first) es n in
    let is : over as_exprs each ≡ same (as_exprs es) n = sym (all_each p first es n) ∙ h in
    let values : each.value ≡ es =
    exprs_same each.value es (ap (λ (q : Lifted (Exprs Meant)). q.value) is) in
    let before : each.before ≡ [] = ap (λ (q : Lifted (Exprs Meant)). q.before) is in
    let next : each.next ≡ n = ap (λ (q : Lifted (Exprs Meant)). q.next) is in
    λ i. record { before = before i; value = values i; next = next i }

pub tuple_same : (es slice : List (CodeExpr Meant)) (source : CodeSource Meant)
    → source ≡ source_as.Tuple es → slice ≡ es
    → ((p : Program) (first n : ℕ)
    → lift_all p first (bare_exprs slice) n ≡ same (bare_exprs slice) n)
    → (p : Program) (first n : ℕ) (target : Target Meant)
    → lift_source p first target (bare_source source) n
    ≡ same (as_values (bare_source source)) n
tuple_same es slice source is all none = λ p first n target.
    subst (λ x. lift_source p first target x n ≡ same (as_values x) n)
    (ap (λ l. Values (map bare l)) all ∙ sym (ap (λ x. bare_source x) is))
    (source_values p first n target (map bare slice)
    ∙ ap (λ l. then_lift l (λ xs n1. same (Values xs) n1))
    (each_same p first n (map bare slice) (none p first n)))

-- no anonymous component is its own output
only_no : (k n : ℕ) (names : List (List ℕ)) (parallel : Bool) (name : List ℕ) (m : Meant)
    (arguments : Exprs Meant) (inputs : Inputs Meant)
    → only (map (signal_of k n) names) ≡ Anonymous parallel name m arguments inputs → ⊥
only_no k n [] parallel name m arguments inputs h = cc
only_no k n (x ∷ names) parallel name m arguments inputs h = cc

pub single_same : (e : Expr Meant) (target : Target Meant) (p : Program) (first n : ℕ)
    → is_parentheses e ≡ false → lift p first e n ≡ same e n
    → lift_source p first target (One e) n ≡ same (Values (e ∷ [])) n
single_same (Parentheses e) target p first n is h = absurd (false≢true (sym is))
single_same (Anonymous parallel name m arguments inputs) target p first n is h =
    let given : Lifted (Inputs Meant) = lift_inputs p first inputs n in
    absurd (only_no (given.next - first) given.next (names_of Output p m) parallel name m
    arguments inputs (ap (λ (q : Lifted (Expr Meant)). q.value) h))
single_same e Discard p first n is h =
    ap (λ l. then_lift l (λ x n1. same (Values (x ∷ [])) n1)) h
single_same e (Slots slots) p first n is h =
    ap (λ l. then_lift (then_lift l (λ x n1. same (x ∷ []) n1)) (λ xs n1. same (Values xs) n1)) h
