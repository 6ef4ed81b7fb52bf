use Rattle.std.proofs.Common.{◌≡◌, ◌∙◌, ℕ, ◌+◌, ◌<◌, ◌≤◌, List, [], ◌∷◌, length, get_or, ap, sym}
use Rattle.std.proofs.Common.{true, false, refl, arith}
use Rattle.cir_ast.specs.declared.marked.Expr.{Expr as CodeExpr}
use Rattle.cir_ast.specs.declared.marked.Expr.TheVariants as expr
use Rattle.cir_ast.specs.declared.program.Meant.{Meant}
use Rattle.cir_ast.specs.Tree.{Array, bare, bare_exprs}
use Rattle.cir_meaning.specs.Evaluate.{is_literal}
use Rattle.cir_meaning.specs.Limits.{standing}
use Rattle.cir_meaning.specs.Reached.{rank_of}
use Rattle.cir_rules.specs.Ranked.{ranks_in}
use Rattle.cir_rules.proofs.Lists.{rank_array}
use Rattle.cir_rules.proofs.ranks.+rank_of.Goals as goal

rank_none : (ranks : ℕ → ℕ) (es : List (CodeExpr Meant)) → length es < 1
    → rank_of ranks (Array (bare_exprs es)) ≡ 0
rank_none ranks [] lt = refl
rank_none ranks (e ∷ es) lt = absurd (omega arith)

rank_some : (ranks : ℕ → ℕ) (es : List (CodeExpr Meant)) (x : CodeExpr Meant) → 1 ≤ length es
    → x ≡ get_or es 0 x → rank_of ranks (Array (bare_exprs es)) ≡ 1 + rank_of ranks (bare x)
rank_some ranks [] x le is = absurd (omega arith)
rank_some ranks (e ∷ es) x le is = ap (λ y. 1 + rank_of ranks (bare y)) (sym is)

no_literal : (e : CodeExpr Meant) (es : List (CodeExpr Meant)) → e ≡ expr.Array es
    → is_literal (bare e) ≡ false → ⊥
no_literal e es is h = differs (ap (λ x. is_literal (bare x)) (sym is) ∙ h)
  where
    differs : true ≡ false → ⊥
    differs d = cc

pub returns-in-empty-clause-whole : goal.returns-in-empty-clause-whole
returns-in-empty-clause-whole t c = λ plain.
    absurd (no_literal c.args.e.now c.in-Array.elements c.in-Array.is plain)

pub returns-in-empty-clause-at_most : goal.returns-in-empty-clause-at_most
returns-in-empty-clause-at_most t c =
    let ranks = ranks_in c.args.ranks.now c.args.texts.now in
    sym (ap standing (ap (λ e. rank_of ranks (bare e)) c.in-Array.is
    ∙ rank_array ranks c.in-Array.elements
    ∙ ap (λ es. rank_of ranks (Array (bare_exprs es))) (sym c.as_slice.ensures)
    ∙ rank_none ranks c.as_slice.result.now c.in-empty.len_below))

pub returns-in-len1-up-clause-whole : goal.returns-in-len1-up-clause-whole
returns-in-len1-up-clause-whole t c = λ plain.
    absurd (no_literal c.args.e.now c.in-Array.elements c.in-Array.is plain)

pub returns-in-len1-up-clause-at_most : goal.returns-in-len1-up-clause-at_most
returns-in-len1-up-clause-at_most t c =
    let ranks = ranks_in c.args.ranks.now c.args.texts.now in
    let e = ap (λ e. rank_of ranks (bare e)) c.in-Array.is
    ∙ rank_array ranks c.in-Array.elements
    ∙ ap (λ es. rank_of ranks (Array (bare_exprs es))) (sym c.as_slice.ensures)
    ∙ rank_some ranks c.as_slice.result.now c.first-item.result c.in-len1-up.len_at_least
    c.first-item.is in
    let inner = c.rank_of-in-len1-up.ensures.at_most in
    let sum = c.saturating_add.ensures in
    omega (arith, e, inner, sum)
