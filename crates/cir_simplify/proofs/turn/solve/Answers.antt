use Rattle.std.proofs.Common.{◌≡◌, ◌<◌, List, map, refl, ap, ◌∙◌, arith}
use Rattle.gold_field.specs.declared.form.Term.{Term}
use Rattle.gold_field.specs.declared.form.Constraint.{Constraint}
use Rattle.cir_lc.specs.Substitution.{substitute}
use Rattle.cir_simplify.specs.Turn.{solution}
use Rattle.cir_simplify.specs.Index.{row, IsGood}
use Rattle.cir_simplify.proofs.Picks.{picked}
use Rattle.cir_simplify.proofs.Ends.{solved_empty}
use Rattle.cir_simplify.proofs.turn.solve.Goals as goal

pub solved_at-requires-clause-coef : goal.solved_at-requires-clause-coef
solved_at-requires-clause-coef c =
    (picked c.args.rules c.args.rules.bound (row c.args.s.now.rows.items c.args.found.place)
    c.args.found.term (c.requires.indexed.good c.args.found.place) c.requires.first.here).some

pub replace_all-requires-clause-signal : goal.replace_all-requires-clause-signal
replace_all-requires-clause-signal c =
    omega (
      arith,
      (picked c.args.rules c.args.rules.bound (row c.args.s.now.rows.items c.args.found.place)
          c.args.found.term (c.requires.indexed.good c.args.found.place)
          c.requires.first.here).above,
    )

pub replace_all-requires-clause-below : goal.replace_all-requires-clause-below
replace_all-requires-clause-below c =
    (picked c.args.rules c.args.rules.bound (row c.args.s.now.rows.items c.args.found.place)
    c.args.found.term (c.requires.indexed.good c.args.found.place) c.requires.first.here).below

pub replace_all-requires-clause-by : goal.replace_all-requires-clause-by
replace_all-requires-clause-by c =
    c.in_ok-value.ensures.within c.args.rules.bound
    (picked c.args.rules c.args.rules.bound (row c.args.s.now.rows.items c.args.found.place)
    c.args.found.term (c.requires.indexed.good c.args.found.place) c.requires.first.here).below
    (c.requires.indexed.good c.args.found.place).within.2

pub replace_all-requires-clause-own : goal.replace_all-requires-clause-own
replace_all-requires-clause-own c =
    let k : Constraint = row c.args.s.now.rows.items c.args.found.place in
    let good : IsGood c.args.rules.bound k = c.requires.indexed.good c.args.found.place in
    let below : c.args.found.term.signal < c.args.rules.bound =
    (picked c.args.rules c.args.rules.bound k c.args.found.term good c.requires.first.here).below in
    ap (λ (v : List Term). substitute c.args.rules.bound c.args.found.term.signal v k)
    (c.in_ok-value.ensures.form c.args.rules.bound below good.within.2)
    ∙ solved_empty c.args.rules k (record { term = c.args.found.term; form = k.c }) good
    c.requires.first.here refl

pub returns-clause-turn : goal.returns-clause-turn
returns-clause-turn c =
    let below : c.args.found.term.signal < c.args.rules.bound =
    (picked c.args.rules c.args.rules.bound (row c.args.s.now.rows.items c.args.found.place)
    c.args.found.term (c.requires.indexed.good c.args.found.place)
    c.requires.first.here).below in
    let form : c.in_ok-value.value
    ≡ solution c.args.rules.bound
    (record {
      term = c.args.found.term;
      form =
          (row c.args.s.now.rows.items c.args.found.place).c;
    }) =
    c.in_ok-value.ensures.form c.args.rules.bound below
    (c.requires.indexed.good c.args.found.place).within.2 in (
      record {
        term = c.args.found.term;
        form =
            (row c.args.s.now.rows.items c.args.found.place).c;
      },
      c.requires.first.first,
      λ i. record { signal = c.args.found.term.signal; value = form i },
      c.in_ok-replace_all.ensures.rows
          ∙ ap (λ (v : List Term). map (substitute c.args.rules.bound c.args.found.term.signal v)
          c.args.s.now.rows.items) form,
    )
