-- A turn of a loop that lifts the items of a list.
use Rattle.std.proofs.Common.{◌≡◌, ◌∙◌, ℕ, ◌+◌, ◌<◌, ◌≤◌, List, [], ◌∷◌, ◌++◌, length, drop, get_or}
use Rattle.std.proofs.Common.{ap, sym, subst, refl}
use Rattle.std.specs.Prelude.{map}
use Rattle.std.proofs.lemmas.List.{at_drop_all, append-nil}
use Rattle.cir_ast.specs.declared.marked.Expr.{Expr as CodeExpr}
use Rattle.cir_ast.specs.declared.marked.NamedInput.{NamedInput as CodeInput}
use Rattle.cir_ast.specs.declared.marked.DeclaredSignal.{DeclaredSignal as CodeSignal}
use Rattle.cir_ast.specs.declared.marked.Simple.TheVariants as simple
use Rattle.cir_ast.specs.declared.operators.Direction.{Direction}
use Rattle.cir_ast.specs.declared.program.Meant.{Meant}
use Rattle.cir_ast.specs.Program.{bare_program}
use Rattle.cir_ast.specs.Tree.{Exprs, more, none, NamedInputs, named, unnamed, Signal, Signals}
use Rattle.cir_ast.specs.Tree.{bare, bare_exprs, as_named, bare_signal, bare_simple}
use Rattle.cir_meaning.specs.Anonymous.{Lifted, lift, lift_all, lift_named}
use Rattle.cir_meaning.specs.Anonymous.{lift_each, lift_simple}
use Rattle.cir_lift.specs.declared.values.Lifter.{Lifter}
use Rattle.cir_lift.specs.Lifts.{Lifts, lift_signal}
use Rattle.cir_lift.proofs.Copied.{item_first}
use Rattle.cir_lift.proofs.Going.{Going, going_more, going_ends}
use Rattle.cir_lift.proofs.Steps.{lifts_at, lifts_made}

-- expressions before others
abbrev exprs_before : List (CodeExpr Meant) → Exprs Meant → Exprs Meant
exprs_before [] es = es
exprs_before (d ∷ ds) es = more (bare d) (exprs_before ds es)

exprs_behind : (ds : List (CodeExpr Meant)) (d : CodeExpr Meant) (es : Exprs Meant)
    → exprs_before (ds ++ d ∷ []) es ≡ exprs_before ds (more (bare d) es)
exprs_behind [] d es = refl
exprs_behind (c ∷ ds) d es = ap (more (bare c)) (exprs_behind ds d es)

abbrev exprs_left : Lifter → List (CodeExpr Meant) → ℕ → Lifted (Exprs Meant)
exprs_left old es n = lift_all (bare_program old.program.now) old.first (bare_exprs es) n

abbrev pub ExprsGo : Lifter → Lifter → (lifted rest all : List (CodeExpr Meant)) → Type 0
ExprsGo old s lifted rest all =
    Going old s (exprs_before lifted) (exprs_left old rest s.next)
    (exprs_left old all old.next)

pub exprs_turn : (old s s1 : Lifter) (lifted pushed all : List (CodeExpr Meant)) (i : ℕ)
    (e x : CodeExpr Meant) → i < length all → e ≡ get_or all i e
    → ExprsGo old s lifted (drop i all) all
    → Lifts bare s s1 (lift (bare_program s.program.now) s.first (bare e) s.next) x
    → pushed ≡ lifted ++ x ∷ []
    → ExprsGo old s1 pushed (drop (i + 1) all) all
exprs_turn old s s1 lifted pushed all i e x h is k lifts push =
    let rest : List (CodeExpr Meant) = drop (i + 1) all in
    subst (λ ds. ExprsGo old s1 ds rest all) (sym push)
    (going_more bare old s s1 (exprs_before lifted)
    (exprs_before (lifted ++ x ∷ [])) (λ p first n. lift p first (bare e) n)
    (exprs_left old rest) more (exprs_left old all old.next) x
    (subst (λ es. ExprsGo old s lifted es all) (item_first all i e h is) k) lifts
    (λ r. exprs_behind lifted x r))

-- all of them
exprs_whole : (ds : List (CodeExpr Meant)) → bare_exprs ds ≡ exprs_before ds none
exprs_whole [] = refl
exprs_whole (d ∷ ds) = ap (more (bare d)) (exprs_whole ds)

pub exprs_end : (old s : Lifter) (lifted list all : List (CodeExpr Meant)) (i : ℕ)
    → length all ≤ i → list ≡ lifted → ExprsGo old s lifted (drop i all) all
    → Lifts bare_exprs old s (exprs_left old all old.next) list
exprs_end old s lifted list all i h is k =
    going_ends bare_exprs old s (exprs_before lifted) none
    (exprs_left old all old.next) list
    (subst (λ (r : Lifted (Exprs Meant)). Going old s (exprs_before lifted) r
    (exprs_left old all old.next)) (at_drop_all (λ es. exprs_left old es s.next) all i h) k)
    (ap (λ ds. bare_exprs ds) is ∙ exprs_whole lifted)

-- inputs with names before others
abbrev named_before : List (CodeInput Meant) → NamedInputs Meant → NamedInputs Meant
named_before [] is = is
named_before (d ∷ ds) is = named d.name d.arrow (bare d.value) (named_before ds is)

named_behind : (ds : List (CodeInput Meant)) (d : CodeInput Meant) (is : NamedInputs Meant)
    → named_before (ds ++ d ∷ []) is ≡ named_before ds (named d.name d.arrow (bare d.value) is)
named_behind [] d is = refl
named_behind (c ∷ ds) d is = ap (named c.name c.arrow (bare c.value)) (named_behind ds d is)

abbrev named_left : Lifter → List (CodeInput Meant) → ℕ → Lifted (NamedInputs Meant)
named_left old is n = lift_named (bare_program old.program.now) old.first (as_named is) n

abbrev pub NamedGo : Lifter → Lifter → (lifted rest all : List (CodeInput Meant)) → Type 0
NamedGo old s lifted rest all =
    Going old s (named_before lifted) (named_left old rest s.next) (named_left old all old.next)

pub named_turn : (old s s1 : Lifter) (lifted pushed all : List (CodeInput Meant)) (i : ℕ)
    (e x : CodeInput Meant) → i < length all → e ≡ get_or all i e
    → NamedGo old s lifted (drop i all) all
    → Lifts bare s s1 (lift (bare_program s.program.now) s.first (bare e.value) s.next) x.value
    → x.name ≡ e.name → x.arrow ≡ e.arrow → pushed ≡ lifted ++ x ∷ []
    → NamedGo old s1 pushed (drop (i + 1) all) all
named_turn old s s1 lifted pushed all i e x h is k lifts name arrow push =
    let rest : List (CodeInput Meant) = drop (i + 1) all in
    subst (λ ds. NamedGo old s1 ds rest all) (sym push)
    (going_more bare old s s1 (named_before lifted) (named_before (lifted ++ x ∷ []))
    (λ p first n. lift p first (bare e.value) n) (named_left old rest) (named e.name e.arrow)
    (named_left old all old.next) x.value
    (subst (λ is'. NamedGo old s lifted is' all) (item_first all i e h is) k) lifts
    (λ r. named_behind lifted x r
    ∙ ap (λ n. named_before lifted (named n x.arrow (bare x.value) r)) name
    ∙ ap (λ w. named_before lifted (named e.name w (bare x.value) r)) arrow))

named_whole : (ds : List (CodeInput Meant)) → as_named ds ≡ named_before ds unnamed
named_whole [] = refl
named_whole (d ∷ ds) = ap (named d.name d.arrow (bare d.value)) (named_whole ds)

pub named_end : (old s : Lifter) (lifted list all : List (CodeInput Meant)) (i : ℕ)
    → length all ≤ i → list ≡ lifted → NamedGo old s lifted (drop i all) all
    → Lifts as_named old s (named_left old all old.next) list
named_end old s lifted list all i h is k =
    going_ends as_named old s (named_before lifted) unnamed (named_left old all old.next) list
    (subst (λ (r : Lifted (NamedInputs Meant)). Going old s (named_before lifted) r
    (named_left old all old.next)) (at_drop_all (λ is. named_left old is s.next) all i h) k)
    (ap (λ ds. as_named ds) is ∙ named_whole lifted)

abbrev signals_left : Lifter → List (CodeSignal Meant) → ℕ → Lifted (List (Signal Meant))
signals_left old ss n =
    lift_each (lift_signal (bare_program old.program.now) old.first) (map bare_signal ss) n

abbrev signals_before : List (CodeSignal Meant) → List (Signal Meant) → List (Signal Meant)
signals_before ds rest = map bare_signal ds ++ rest

abbrev pub SignalsGo : Lifter → Lifter → (lifted rest all : List (CodeSignal Meant)) → Type 0
SignalsGo old s lifted rest all =
    Going old s (signals_before lifted) (signals_left old rest s.next)
    (signals_left old all old.next)

signals_behind : (ds : List (CodeSignal Meant)) (d : CodeSignal Meant) (r : List (Signal Meant))
    → signals_before (ds ++ d ∷ []) r ≡ signals_before ds (bare_signal d ∷ r)
signals_behind [] d r = refl
signals_behind (c ∷ ds) d r = ap (λ l. bare_signal c ∷ l) (signals_behind ds d r)

pub signals_turn : (old s s1 : Lifter) (lifted pushed all : List (CodeSignal Meant)) (i : ℕ)
    (e x : CodeSignal Meant) → i < length all → e ≡ get_or all i e
    → SignalsGo old s lifted (drop i all) all
    → Lifts bare_signal s s1
    (lift_signal (bare_program s.program.now) s.first (bare_signal e) s.next) x
    → pushed ≡ lifted ++ x ∷ []
    → SignalsGo old s1 pushed (drop (i + 1) all) all
signals_turn old s s1 lifted pushed all i e x h is k lifts push =
    let rest : List (CodeSignal Meant) = drop (i + 1) all in
    subst (λ ds. SignalsGo old s1 ds rest all) (sym push)
    (going_more bare_signal old s s1 (signals_before lifted) (signals_before (lifted ++ x ∷ []))
    (λ p first n. lift_signal p first (bare_signal e) n) (signals_left old rest) (λ y ys. y ∷ ys)
    (signals_left old all old.next) x
    (subst (λ ss. SignalsGo old s lifted ss all) (item_first all i e h is) k) lifts
    (λ r. signals_behind lifted x r))

signals_end : (old s : Lifter) (lifted all : List (CodeSignal Meant)) (i : ℕ) → length all ≤ i
    → SignalsGo old s lifted (drop i all) all
    → Lifts (λ ds. map bare_signal ds) old s (signals_left old all old.next) lifted
signals_end old s lifted all i h k =
    going_ends (λ ds. map bare_signal ds) old s (signals_before lifted) []
    (signals_left old all old.next) lifted
    (subst (λ (r : Lifted (List (Signal Meant))). Going old s (signals_before lifted) r
    (signals_left old all old.next)) (at_drop_all (λ ss. signals_left old ss s.next) all i h) k)
    (sym (append-nil (map bare_signal lifted)))

pub signals_lifted : (old s : Lifter) (direction : Direction)
    (lifted list items all : List (CodeSignal Meant)) (i : ℕ) → length items ≤ i → items ≡ all
    → list ≡ lifted → SignalsGo old s lifted (drop i items) items
    → Lifts bare_simple old s
    (lift_simple (bare_program old.program.now) old.first
    (Signals direction (map bare_signal all)) old.next)
    (simple.Signals record { direction = direction; signals = list })
signals_lifted old s direction lifted list items all i h whole is k =
    lifts_at bare_simple old s (simple.Signals record { direction = direction; signals = list })
    (ap (λ ss. lift_simple (bare_program old.program.now) old.first
    (Signals direction (map bare_signal ss)) old.next) whole)
    (lifts_made (λ ds. map bare_signal ds) bare_simple old s (signals_left old items old.next)
    (Signals direction) lifted (simple.Signals record { direction = direction; signals = list })
    (signals_end old s lifted items i h k)
    (ap (λ ds. Signals direction (map bare_signal ds)) is))
