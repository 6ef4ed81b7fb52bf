-- What holds a list is lifted by its list.
use Rattle.std.proofs.Common.{◌≡◌, ◌∙◌, List, Box, ap, sym}
use Rattle.std.specs.Global.{Global}
use Rattle.cir_ast.specs.declared.marked.Expr.{Expr as CodeExpr}
use Rattle.cir_ast.specs.declared.marked.Expr.TheVariants as expr
use Rattle.cir_ast.specs.declared.marked.Anonymous.{Anonymous as CodeAnonymous}
use Rattle.cir_ast.specs.declared.marked.Inputs.{Inputs as CodeInputs}
use Rattle.cir_ast.specs.declared.marked.Inputs.TheVariants as inputs
use Rattle.cir_ast.specs.declared.marked.NamedInput.{NamedInput as CodeInput}
use Rattle.cir_ast.specs.declared.program.Meant.{Meant}
use Rattle.cir_ast.specs.Program.{Program, bare_program}
use Rattle.cir_ast.specs.Tree.{Array, Listed, Named, bare, bare_exprs, bare_inputs, as_named}
use Rattle.cir_ast.specs.Tree.{bare_anonymous}
use Rattle.cir_ast.proofs.Rows.{anonymous_is, exprs_are, named_are}
use Rattle.cir_meaning.specs.Anonymous.{lift, lift_all, lift_inputs, lift_named}
use Rattle.cir_lift.specs.declared.values.Lifter.{Lifter}
use Rattle.cir_lift.specs.Lifts.{Lifts}
use Rattle.cir_lift.proofs.Steps.{lifts_at, lifts_made}

pub array_lifted : (s s1 : Lifter) (es slice xs : List (CodeExpr Meant)) (e : CodeExpr Meant)
    → e ≡ expr.Array es → slice ≡ es
    → Lifts bare_exprs s s1
    (lift_all (bare_program s.program.now) s.first (bare_exprs slice) s.next) xs
    → Lifts bare s s1 (lift (bare_program s.program.now) s.first (bare e) s.next) (expr.Array xs)
array_lifted s s1 es slice xs e is all h =
    let p : Program = bare_program s.program.now in
    lifts_at bare s s1 (expr.Array xs)
    (ap (λ l. lift p s.first (Array (bare_exprs l)) s.next) all
    ∙ sym (ap (λ v. lift p s.first (Array v) s.next) (exprs_are Meant es))
    ∙ sym (ap (λ e'. lift p s.first (bare e') s.next) is))
    (lifts_made bare_exprs bare s s1 (lift_all p s.first (bare_exprs slice) s.next) Array xs
    (expr.Array xs) h (ap Array (exprs_are Meant xs)))

-- an anonymous component in its box
pub anonymous_at : (a : Box (CodeAnonymous Meant) Global) (from : CodeAnonymous Meant)
    (e : CodeExpr Meant) → e ≡ expr.Anonymous a → from ≡ a.value → bare_anonymous from ≡ bare e
anonymous_at a from e is same =
    ap (λ x. bare_anonymous x) same ∙ sym (anonymous_is Meant a) ∙ sym (ap (λ x. bare x) is)

pub listed_lifted : (s s1 : Lifter) (es slice xs : List (CodeExpr Meant)) (i : CodeInputs Meant)
    → i ≡ inputs.Listed es → slice ≡ es
    → Lifts bare_exprs s s1
    (lift_all (bare_program s.program.now) s.first (bare_exprs slice) s.next) xs
    → Lifts bare_inputs s s1
    (lift_inputs (bare_program s.program.now) s.first (bare_inputs i) s.next)
    (inputs.Listed xs)
listed_lifted s s1 es slice xs i is all h =
    let p : Program = bare_program s.program.now in
    lifts_at bare_inputs s s1 (inputs.Listed xs)
    (ap (λ l. lift_inputs p s.first (Listed (bare_exprs l)) s.next) all
    ∙ sym (ap (λ v. lift_inputs p s.first (Listed v) s.next) (exprs_are Meant es))
    ∙ sym (ap (λ i'. lift_inputs p s.first (bare_inputs i') s.next) is))
    (lifts_made bare_exprs bare_inputs s s1 (lift_all p s.first (bare_exprs slice) s.next) Listed
    xs (inputs.Listed xs) h (ap Listed (exprs_are Meant xs)))

pub named_lifted : (s s1 : Lifter) (is slice xs : List (CodeInput Meant)) (i : CodeInputs Meant)
    → i ≡ inputs.Named is → slice ≡ is
    → Lifts as_named s s1
    (lift_named (bare_program s.program.now) s.first (as_named slice) s.next) xs
    → Lifts bare_inputs s s1
    (lift_inputs (bare_program s.program.now) s.first (bare_inputs i) s.next)
    (inputs.Named xs)
named_lifted s s1 is slice xs i at all h =
    let p : Program = bare_program s.program.now in
    lifts_at bare_inputs s s1 (inputs.Named xs)
    (ap (λ l. lift_inputs p s.first (Named (as_named l)) s.next) all
    ∙ sym (ap (λ v. lift_inputs p s.first (Named v) s.next) (named_are Meant is))
    ∙ sym (ap (λ i'. lift_inputs p s.first (bare_inputs i') s.next) at))
    (lifts_made as_named bare_inputs s s1 (lift_named p s.first (as_named slice) s.next) Named
    xs (inputs.Named xs) h (ap Named (named_are Meant xs)))
