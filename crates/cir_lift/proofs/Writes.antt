-- The inputs of an anonymous component, written one by one.
use Rattle.std.proofs.Common.{◌≡◌, ◌∙◌, ℕ, List, [], ◌∷◌, ◌++◌, ap, sym, refl}
use Rattle.std.proofs.lemmas.List.{append-nil}
use Rattle.cir_ast.specs.declared.marked.Expr.{Expr as CodeExpr}
use Rattle.cir_ast.specs.declared.marked.Inputs.{Inputs as CodeInputs}
use Rattle.cir_ast.specs.declared.marked.Inputs.TheVariants as inputs
use Rattle.cir_ast.specs.declared.marked.NamedInput.{NamedInput as CodeInput}
use Rattle.cir_ast.specs.declared.program.Meant.{Meant}
use Rattle.cir_ast.specs.declared.operators.Direction.TheVariants.{Input}
use Rattle.cir_ast.specs.Program.{Program}
use Rattle.cir_ast.specs.Tree.{Simple, none, bare_exprs, bare_inputs, as_named}
use Rattle.cir_ast.proofs.Rows.{exprs_are, named_are}
use Rattle.cir_meaning.specs.Anonymous.{names_of, listed_writes, named_writes, input_writes}

-- at the start all are left
pub listed_first : (p : Program) (k n : ℕ) (m : Meant) (i : CodeInputs Meant)
    (es left : List (CodeExpr Meant)) (names : List (List ℕ)) → i ≡ inputs.Listed es → left ≡ es
    → names ≡ names_of Input p m
    → listed_writes k n names (bare_exprs left) ≡ input_writes p k n m (bare_inputs i)
listed_first p k n m i es left names is all named =
    ap (λ ns. listed_writes k n ns (bare_exprs left)) named
    ∙ ap (λ l. listed_writes k n (names_of Input p m) (bare_exprs l)) all
    ∙ sym (ap (listed_writes k n (names_of Input p m)) (exprs_are Meant es))
    ∙ sym (ap (λ i'. input_writes p k n m (bare_inputs i')) is)

pub named_first : (p : Program) (k n : ℕ) (m : Meant) (i : CodeInputs Meant)
    (list left : List (CodeInput Meant)) → i ≡ inputs.Named list → left ≡ list
    → named_writes k n (as_named left) ≡ input_writes p k n m (bare_inputs i)
named_first p k n m i list left is all =
    ap (λ l. named_writes k n (as_named l)) all
    ∙ sym (ap (named_writes k n) (named_are Meant list))
    ∙ sym (ap (λ i'. input_writes p k n m (bare_inputs i')) is)

-- no expression is left, whatever names are
writes_none : (k n : ℕ) (names : List (List ℕ)) → listed_writes k n names none ≡ []
writes_none k n [] = refl
writes_none k n (name ∷ names) = refl

pub listed_last : (k n : ℕ) (names : List (List ℕ)) (left : List (CodeExpr Meant))
    (start whole : List (Simple Meant)) → left ≡ []
    → start ++ listed_writes k n names (bare_exprs left) ≡ whole → start ≡ whole
listed_last k n names left start whole is h =
    sym (append-nil start)
    ∙ sym (ap (λ w. start ++ w)
    (ap (λ l. listed_writes k n names (bare_exprs l)) is ∙ writes_none k n names))
    ∙ h
