use Rattle.std.proofs.Common.{◌≡◌, true, List, All, ap, sym, ◌∙◌, subst}
use Rattle.std.proofs.lemmas.Bool.{false≢true}
use Rattle.gold_field.specs.declared.form.Term.{Term}
use Rattle.cir_determined.specs.Marks.{marks_of}
use Rattle.cir_determined.specs.Rules.{is_named}
use Rattle.cir_determined.proofs.Found.{no_solve, solve_here}
use Rattle.cir_determined.proofs.search.last_unknown.Goals as goal

pub returns-in-None : goal.returns-in-None
returns-in-None c = λ w s.
    no_solve (marks_of c.args.marks.now) c.args.k.now w
    (subst (λ (us : List Term). All (λ t. (marks_of c.args.marks.now).known t.signal ≡ true) us)
    c.as_slice.ensures.terms c.in-None.ensures) s

pub returns-else-is_last_unknown : goal.returns-else-is_last_unknown
returns-else-is_last_unknown c = λ w s.
    false≢true (c.if-is_last_unknown.ensures.1
    (solve_here (marks_of c.args.marks.now) c.args.k.now w c.in-Some.wire
    (sym (ap (is_named c.in-Some.wire) c.as_slice.ensures.terms) ∙ c.in-Some.ensures.0)
    c.in-Some.ensures.1 s))
