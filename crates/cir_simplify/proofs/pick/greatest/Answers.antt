use Rattle.std.proofs.Common.{◌≡◌, ◌+◌, ◌-◌, ◌==◌, Bool, ℕ, length, false, sym, ap, ◌∙◌, arith}
use Rattle.cir_simplify.specs.Shape.{greatest}
use Rattle.cir_simplify.proofs.Picks.{greatest_some, greatest_none}
use Rattle.cir_simplify.proofs.pick.greatest.Goals as goal

some_more : (n : ℕ) (b : Bool) → b ≡ false → b ≡ (n == 0) → n - 1 + 1 ≡ n
some_more n b e f = grind (arith, e, f)

pub returns-then-kept-last : goal.returns-then-kept-last
returns-then-kept-last c =
    let n : length c.as_slice-terms.result.now - 1 + 1 ≡ length c.as_slice-terms.result.now =
    some_more _ _ c.if-is_empty.false c.is_empty.ensures in
    sym (ap (greatest c.args.kept) (sym c.as_slice-terms.ensures.terms)
    ∙ greatest_some c.args.kept 0 c.as_slice-terms.result.now _ _
    (rw c.as_slice-terms.ensures.terms c.as_slice-terms.ensures.rises) n c.index-terms-terms.is
    c.if-kept-last.true)

pub returns-else-kept-last : goal.returns-else-kept-last
returns-else-kept-last c =
    let n : length c.as_slice-terms.result.now - 1 + 1 ≡ length c.as_slice-terms.result.now =
    some_more _ _ c.if-is_empty.false c.is_empty.ensures in
    sym (ap (greatest c.args.kept) (sym c.as_slice-terms.ensures.terms)
    ∙ greatest_none c.args.kept 0 c.as_slice-terms.result.now _ _
    (rw c.as_slice-terms.ensures.terms c.as_slice-terms.ensures.rises) n c.index-terms-terms.is
    c.if-kept-last.false)
