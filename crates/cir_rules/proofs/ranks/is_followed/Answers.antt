use Rattle.std.proofs.Common.{◌≡◌, ◌∙◌, true, false, ap, sym}
use Rattle.std.specs.Prelude.{Bool, not, ◌||◌}
use Rattle.cir_rules.proofs.Lists.{literals}
use Rattle.cir_rules.proofs.ranks.is_followed.Goals as goal

none_is : (h l x : Bool) → h ≡ l → h ≡ false → not h ≡ not l || x
none_is h l x e is = ap not is ∙ sym (ap (λ b. not b || x) (sym e ∙ is))

some_is : (h l x r : Bool) → h ≡ l → h ≡ true → r ≡ x → r ≡ not l || x
some_is h l x r e is same = same ∙ sym (ap (λ b. not b || x) (sym e ∙ is))

pub returns-then-not-has_literal : goal.returns-then-not-has_literal
returns-then-not-has_literal c =
    none_is c.has_literal.result _ _ (c.has_literal.ensures ∙ literals c.args.arguments.now)
    c.if-not-has_literal.true

pub returns-else-not-has_literal : goal.returns-else-not-has_literal
returns-else-not-has_literal c =
    some_is c.has_literal.result _ _ _ (c.has_literal.ensures ∙ literals c.args.arguments.now)
    c.if-not-has_literal.false c.are_small.ensures
