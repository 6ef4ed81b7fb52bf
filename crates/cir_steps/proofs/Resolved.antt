-- Where names mean what is in scope, the signals of a template are declared in the order of their
-- numbers and not in a loop, and nothing in it returns.
use Rattle.std.proofs.Common.{◌≡◌, ℕ, zero, suc, ◌+◌, ◌<◌, List, [], ◌∷◌, ◌++◌, refl, sym, ap}
use Rattle.std.proofs.Common.{subst, ◌∙◌, length, arith}
use Rattle.cir_ast.specs.declared.operators.Direction.{Direction}
use Rattle.cir_ast.specs.declared.program.Spot.{Spot}
use Rattle.cir_ast.specs.declared.program.Meant.{Meant}
use Rattle.cir_ast.specs.Program.{Program, Template}
use Rattle.cir_ast.specs.Tree.{Variable, Signal, Simple, Vars, Signals, Declared, Created, Assigned}
use Rattle.cir_ast.specs.Tree.{Constrain, Right, TargetLeft, TargetRight, Alone, Statement, Block}
use Rattle.cir_ast.specs.Tree.{If, IfElse, While, For, Return, Assert, Log, Ended, Statements}
use Rattle.cir_ast.specs.Tree.{empty, then_more}
use Rattle.cir_meaning.specs.Places.{numbers_from}
use Rattle.cir_meaning.specs.Scoped.{Scope, with_variable, with_variables, with_signal}
use Rattle.cir_meaning.specs.Scoped.{with_signals, AreSignalsScoped, IsSimpleScoped, behind_simple}
use Rattle.cir_meaning.specs.Scoped.{behind_first, closed, behind, behind_all, IsScoped, AreScoped}
use Rattle.cir_meaning.specs.Scoped.{IsTemplateScoped, IsResolved}
use Rattle.cir_meaning.proofs.KnownCalls.{all_get}
use Rattle.cir_meaning.proofs.ScopedQuiet.{first_signals}
use Rattle.cir_steps.proofs.Templates.{told, told_all, simple_told, declares, all_declare}
use Rattle.cir_steps.proofs.Templates.{DeclaresNone, IsPlain, ArePlain, Below, AreRising}
use Rattle.cir_steps.proofs.Templates.{IsTemplate, AreTemplates}

-- signals that are declared in turn
abbrev InTurn : (first last : ℕ) → (List ℕ → List ℕ) → Type 0
InTurn first last f =
    (count : ℕ) × (last ≡ first + count)
    × ((ns : List ℕ) → f ns ≡ numbers_from first count ++ ns)

none_in_turn : (first : ℕ) → InTurn first first (λ ns. ns)
none_in_turn first = (0, (let same : first ≡ first + 0 = omega arith in same), λ ns. refl)

from_more : (first m n : ℕ) (ns : List ℕ)
    → numbers_from first m ++ (numbers_from (first + m) n ++ ns)
    ≡ numbers_from first (m + n) ++ ns
from_more first zero n ns =
    let same : first + 0 ≡ first = omega arith in
    let sum : n ≡ 0 + n = omega arith in
    ap (λ (a : ℕ). numbers_from a n ++ ns) same ∙ ap (λ (a : ℕ). numbers_from first a ++ ns) sum
from_more first (suc m) n ns =
    let same : first + suc m ≡ first + 1 + m = omega arith in
    let sum : suc (m + n) ≡ suc m + n = omega arith in
    ap (λ (a : ℕ). first ∷ (numbers_from (first + 1) m ++ (numbers_from a n ++ ns))) same
    ∙ ap (λ xs. first ∷ xs) (from_more (first + 1) m n ns)
    ∙ ap (λ (a : ℕ). numbers_from first a ++ ns) sum

then_in_turn : (first middle last : ℕ) (f g : List ℕ → List ℕ) → InTurn first middle f
    → InTurn middle last g → InTurn first last (λ ns. f (g ns))
then_in_turn first middle last f g h i =
    let at : middle ≡ first + h.0 = h.1 in
    let end : last ≡ middle + i.0 = i.1 in (
      h.0 + i.0,
      (let sum : last ≡ first + (h.0 + i.0) = omega arith in sum),
      λ ns. h.2 (g ns) ∙ ap (λ xs. numbers_from first h.0 ++ xs)
          (i.2 ns ∙ ap (λ (a : ℕ). numbers_from a i.0 ++ ns) at)
          ∙ from_more first h.0 i.0 ns,
    )

signals_in_turn : (d : Direction) (s : Scope) (xs : List (Signal Meant))
    → AreSignalsScoped d s xs → InTurn s.signals (with_signals s xs).signals (told_all xs)
signals_in_turn d s [] h = none_in_turn s.signals
signals_in_turn d s (x ∷ xs) h =
    then_in_turn s.signals (s.signals + 1) (with_signals (with_signal s) xs).signals
    (told x.meant) (told_all xs)
    (1, refl, λ ns. ap (λ m. told m ns) h.0) (signals_in_turn d (with_signal s) xs h.2)

variables_stay : (s : Scope) (vs : List (Variable Meant))
    → s.signals ≡ (with_variables s vs).signals
variables_stay s [] = refl
variables_stay s (v ∷ vs) = variables_stay (with_variable s) vs

simple_in_turn : (s : Scope) (x : Simple Meant) → IsSimpleScoped s x
    → InTurn s.signals (behind_simple s x).signals (simple_told x)
simple_in_turn s (Vars vs) h =
    subst (λ (n : ℕ). InTurn s.signals n (λ ns. ns)) (variables_stay s vs) (none_in_turn s.signals)
simple_in_turn s (Signals d xs) h = signals_in_turn d s xs h
simple_in_turn s (Declared cs) h = none_in_turn s.signals
simple_in_turn s (Created name m e) h = none_in_turn s.signals
simple_in_turn s (Assigned a) h = none_in_turn s.signals
simple_in_turn s (Constrain a b) h = none_in_turn s.signals
simple_in_turn s (Right e arrow name m accessors) h = none_in_turn s.signals
simple_in_turn s (TargetLeft target arrow source) h = none_in_turn s.signals
simple_in_turn s (TargetRight source arrow target) h = none_in_turn s.signals
simple_in_turn s (Alone parallel name m arguments inputs) h = none_in_turn s.signals

mutual
  in_turn : (s : Scope) (a : Statement Spot Meant) → IsScoped s a
      → InTurn s.signals (behind s a).signals (declares a)
  in_turn s (Block spot ss) h = all_in_turn s ss h
  in_turn s (If spot c a) h = in_turn s a h.1
  in_turn s (IfElse spot c a b) h =
      then_in_turn s.signals (behind s a).signals (behind (closed s (behind s a)) b).signals
      (declares a) (declares b) (in_turn s a h.1) (in_turn (closed s (behind s a)) b h.2)
  in_turn s (While spot c a) h = in_turn s a h.1
  in_turn s (For spot first_spot f c step_spot a body) h =
      subst (λ (n : ℕ). InTurn n (behind (behind_first s f) body).signals (declares body))
      (first_signals s f) (in_turn (behind_first s f) body h.2)
  in_turn s (Return spot e) h = absurd h
  in_turn s (Assert spot e) h = none_in_turn s.signals
  in_turn s (Log spot arguments) h = none_in_turn s.signals
  in_turn s (Ended spot x) h = simple_in_turn s x h

  all_in_turn : (s : Scope) (ss : Statements Spot Meant) → AreScoped s ss
      → InTurn s.signals (behind_all s ss).signals (all_declare ss)
  all_in_turn s empty h = none_in_turn s.signals
  all_in_turn s (then_more a rest) h =
      then_in_turn s.signals (behind s a).signals (behind_all (behind s a) rest).signals
      (declares a) (all_declare rest) (in_turn s a h.0) (all_in_turn (behind s a) rest h.1)

-- where as many signals are declared behind a statement as before it, it declares none
none_declared : (first last : ℕ) (a : Statement Spot Meant) → InTurn first last (declares a)
    → last ≡ first → DeclaresNone a
none_declared first last a h e ns =
    let is : last ≡ first + h.0 = h.1 in
    let none : h.0 ≡ 0 = omega arith in
    h.2 ns ∙ ap (λ (n : ℕ). numbers_from first n ++ ns) none

mutual
  plain : (s : Scope) (a : Statement Spot Meant) → IsScoped s a → IsPlain a
  plain s (Block spot ss) h = all_plain s ss h
  plain s (If spot c a) h = plain s a h.1
  plain s (IfElse spot c a b) h = (plain s a h.1, plain (closed s (behind s a)) b h.2)
  plain s (While spot c a) h = (
    plain s a h.1,
    none_declared s.signals (behind s a).signals a (in_turn s a h.1) h.2,
  )
  plain s (For spot first_spot f c step_spot a body) h = (
    plain (behind_first s f) body h.2,
    none_declared (behind_first s f).signals (behind (behind_first s f) body).signals body
        (in_turn (behind_first s f) body h.2) (h.4 ∙ sym (first_signals s f)),
  )
  plain s (Return spot e) h = h
  plain s (Assert spot e) h = tt
  plain s (Log spot arguments) h = tt
  plain s (Ended spot x) h = tt

  all_plain : (s : Scope) (ss : Statements Spot Meant) → AreScoped s ss → ArePlain ss
  all_plain s empty h = tt
  all_plain s (then_more a rest) h = (plain s a h.0, all_plain (behind s a) rest h.1)

-- numbers in turn rise
below_from : (n first count : ℕ) → n < first → Below n (numbers_from first count ++ [])
below_from n first zero h = tt
below_from n first (suc count) h = (h, below_from n (first + 1) count (omega arith))

are_rising : (first count : ℕ) → AreRising (numbers_from first count ++ [])
are_rising first zero = tt
are_rising first (suc count) =
    (below_from first (first + 1) count (omega arith), are_rising (first + 1) count)

scoped_template : (functions : ℕ) (t : Template) → IsTemplateScoped functions t → IsTemplate t
scoped_template functions t h =
    let turn : InTurn 0 _ (all_declare t.body) = all_in_turn _ t.body h in
    (all_plain _ t.body h, subst AreRising (sym (turn.2 [])) (are_rising 0 turn.0))

pub templates : (p : Program) → IsResolved p → AreTemplates p
templates p h n t there =
    scoped_template (length p.functions) t
    (all_get (IsTemplateScoped (length p.functions)) p.templates n t h.templates there)
