-- A copy of a part that holds a list.
use Rattle.std.proofs.Common.{◌≡◌, ◌∙◌, ℕ, List, [], ◌∷◌, ◌++◌, Bool, ap, sym, refl, Box}
use Rattle.std.specs.Global.{Global}
use Rattle.std.specs.Prelude.{map}
use Rattle.cir_ast.specs.declared.marked.Expr.{Expr as CodeExpr}
use Rattle.cir_ast.specs.declared.marked.Expr.TheVariants as expr
use Rattle.cir_ast.specs.declared.marked.Accessor.{Accessor as CodeAccessor}
use Rattle.cir_ast.specs.declared.marked.Accessor.TheVariants as accessor
use Rattle.cir_ast.specs.declared.marked.Components.TheVariants as components
use Rattle.cir_ast.specs.declared.marked.Simple.TheVariants as simple
use Rattle.cir_ast.specs.declared.marked.Place.{Place as CodePlace}
use Rattle.cir_ast.specs.declared.marked.Anonymous.{Anonymous as CodeAnonymous}
use Rattle.cir_ast.specs.declared.marked.Inputs.{Inputs as CodeInputs}
use Rattle.cir_ast.specs.declared.marked.Inputs.TheVariants as inputs
use Rattle.cir_ast.specs.declared.program.Meant.{Meant}
use Rattle.cir_ast.specs.declared.program.Meant.TheVariants as meant
use Rattle.cir_meaning.specs.Anonymous.{own_name, signal_of}
use Rattle.cir_ast.specs.Tree.{Place, Call, Anonymous, Array, Listed, bare, bare_exprs}
use Rattle.cir_ast.specs.Tree.{bare_place, bare_anonymous, bare_inputs, as_accessors}
use Rattle.cir_ast.specs.Tree.{as_exprs, bare_simple, Created, member, done}
use Rattle.cir_ast.proofs.Rows.{exprs_are, accessors_are, anonymous_is}

pub call_copied : (parallel : Bool) (name : List ℕ) (m : Meant) (es : List (CodeExpr Meant))
    (e : CodeExpr Meant) (name1 : List ℕ) (es1 slice : List (CodeExpr Meant))
    → e ≡ expr.Call parallel name m es → name1 ≡ name → map bare es1 ≡ map bare slice
    → slice ≡ es → bare (expr.Call parallel name1 m es1) ≡ bare e
call_copied parallel name m es e name1 es1 slice is named given same =
    ap (Call parallel name1 m) (exprs_are Meant es1)
    ∙ ap (λ n. Call parallel n m (bare_exprs es1)) named
    ∙ ap (λ l. Call parallel name m (as_exprs l)) (given ∙ ap (λ l. map bare l) same)
    ∙ sym (ap (Call parallel name m) (exprs_are Meant es))
    ∙ sym (ap (λ e'. bare e') is)

pub array_copied : (es : List (CodeExpr Meant)) (e : CodeExpr Meant)
    (es1 slice : List (CodeExpr Meant))
    → e ≡ expr.Array es → map bare es1 ≡ map bare slice → slice ≡ es
    → bare (expr.Array es1) ≡ bare e
array_copied es e es1 slice is given same =
    ap Array (exprs_are Meant es1)
    ∙ ap (λ l. Array (as_exprs l)) (given ∙ ap (λ l. map bare l) same)
    ∙ sym (ap Array (exprs_are Meant es))
    ∙ sym (ap (λ e'. bare e') is)

pub place_copied : (p r : CodePlace Meant) → r.name ≡ p.name → r.meant ≡ p.meant
    → as_accessors r.accessors ≡ as_accessors p.accessors → bare_place r ≡ bare_place p
place_copied p r named means given =
    ap (Place r.name r.meant) (accessors_are Meant r.accessors ∙ given)
    ∙ ap (λ n. Place n r.meant (as_accessors p.accessors)) named
    ∙ ap (λ m. Place p.name m (as_accessors p.accessors)) means
    ∙ sym (ap (Place p.name p.meant) (accessors_are Meant p.accessors))

pub anonymous_copied : (a : CodeAnonymous Meant) (name1 : List ℕ)
    (es1 slice : List (CodeExpr Meant)) (is1 : CodeInputs Meant)
    → name1 ≡ a.name → map bare es1 ≡ map bare slice → slice ≡ a.arguments
    → bare_inputs is1 ≡ bare_inputs a.inputs
    → bare_anonymous (record {
      parallel = a.parallel;
      name = name1;
      meant = a.meant;
      arguments = es1;
      inputs = is1;
    }) ≡ bare_anonymous a
anonymous_copied a name1 es1 slice is1 named given same put =
    ap (λ n. Anonymous a.parallel n a.meant (bare_exprs es1) (bare_inputs is1)) named
    ∙ ap (λ l. Anonymous a.parallel a.name a.meant (as_exprs l) (bare_inputs is1))
    (given ∙ ap (λ l. map bare l) same)
    ∙ ap (Anonymous a.parallel a.name a.meant (bare_exprs a.arguments)) put

pub boxed_copied : (a : Box (CodeAnonymous Meant) Global) (from to : CodeAnonymous Meant)
    (e copy : CodeExpr Meant) → e ≡ expr.Anonymous a → from ≡ a.value
    → bare_anonymous to ≡ bare_anonymous from → bare copy ≡ bare_anonymous to
    → bare copy ≡ bare e
boxed_copied a from to e copy is same copied given =
    given ∙ copied ∙ ap (λ x. bare_anonymous x) same ∙ sym (anonymous_is Meant a)
    ∙ sym (ap (λ x. bare x) is)

pub listed_copied : (es : List (CodeExpr Meant)) (i : CodeInputs Meant)
    (es1 slice : List (CodeExpr Meant))
    → i ≡ inputs.Listed es → map bare es1 ≡ map bare slice → slice ≡ es
    → bare_inputs (inputs.Listed es1) ≡ bare_inputs i
listed_copied es i es1 slice is given same =
    ap Listed (exprs_are Meant es1)
    ∙ ap (λ l. Listed (as_exprs l)) (given ∙ ap (λ l. map bare l) same)
    ∙ sym (ap Listed (exprs_are Meant es))
    ∙ sym (ap (λ i'. bare_inputs i') is)

-- the creation of an anonymous component
pub creation_made : (a : CodeAnonymous Meant) (own : List ℕ) (n : ℕ) (name template : List ℕ)
    (es slice : List (CodeExpr Meant)) → name ≡ a.name ++ own → template ≡ a.name
    → map bare es ≡ map bare slice → slice ≡ a.arguments
    → bare_simple (simple.Components (components.Created name (meant.Component n)
    (expr.Call a.parallel template a.meant es)))
    ≡ Created (a.name ++ own) (meant.Component n)
    (Call a.parallel a.name a.meant (bare_exprs a.arguments))
creation_made a own n name template es slice named called given all =
    ap (λ x. Created x (meant.Component n) (bare (expr.Call a.parallel template a.meant es))) named
    ∙ ap (Created (a.name ++ own) (meant.Component n))
    (call_copied a.parallel a.name a.meant a.arguments
    (expr.Call a.parallel a.name a.meant a.arguments) template es slice refl called given all
    ∙ ap (Call a.parallel a.name a.meant) (exprs_are Meant a.arguments))

-- the place of one of its signals
pub signal_made : (k n : ℕ) (own name m : List ℕ) (list : List (CodeAccessor Meant))
    → own ≡ own_name k → list ≡ accessor.Member m ∷ [] → m ≡ name
    → bare_place (record { name = own; meant = meant.Component n; accessors = list })
    ≡ signal_of k n name
signal_made k n own name m list owned is named =
    ap (Place own (meant.Component n))
    (accessors_are Meant list ∙ ap as_accessors is ∙ ap (λ x. member x done) named)
    ∙ ap (λ o. Place o (meant.Component n) (member name done)) owned
