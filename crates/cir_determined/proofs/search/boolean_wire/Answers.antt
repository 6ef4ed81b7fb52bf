use Rattle.std.proofs.Common.{◌≡◌, ◌⊎◌, ℕ, Option, Some, None, List, sym, subst}
use Rattle.std.proofs.lemmas.Bool.{false≢true}
use Rattle.gold_field.specs.declared.form.Term.{Term}
use Rattle.cir_determined.specs.Marks.{marks_of}
use Rattle.cir_determined.specs.Rules.{IsMultiple, IsMultipleLessOne}
use Rattle.cir_determined.proofs.Found.{left_form, boolean_here}
use Rattle.cir_determined.proofs.search.boolean_wire.Goals as goal

none_some : (w : ℕ) → ◌≡◌ {A = Option ℕ} None (Some w) → ⊥
none_some w e = cc

pub returns-in-None : goal.returns-in-None
returns-in-None c = λ w s.
    none_some w (c.in-None.ensures w
    (subst (λ (us : List Term). IsMultiple w us ⊎ IsMultipleLessOne w us)
    (sym c.as_slice.ensures.terms) (left_form c.args.k.now w s.says)))

pub returns-else-shows_boolean : goal.returns-else-shows_boolean
returns-else-shows_boolean c = λ w s.
    false≢true (c.if-shows_boolean.ensures.shows.1
    (boolean_here (marks_of c.args.marks.now) c.args.k.now w c.in-Some.wire
    (c.in-Some.ensures w
    (subst (λ (us : List Term). IsMultiple w us ⊎ IsMultipleLessOne w us)
    (sym c.as_slice.ensures.terms) (left_form c.args.k.now w s.says))) s))
