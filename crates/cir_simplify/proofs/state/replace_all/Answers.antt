use Rattle.std.proofs.Common.{ℕ, List, refl, ap, sym, subst, arith, ◌∙◌}
use Rattle.std.specs.List.{Contains}
use Rattle.std.specs.List.Sorted.{IsStrictlyIncreasing}
use Rattle.cir_lc.specs.Substitution.{substitute}
use Rattle.cir_simplify.specs.Index.{row}
use Rattle.cir_simplify.proofs.Partly.{partly_set, partly_past, partly_end, partly_whole}
use Rattle.cir_simplify.proofs.Partly.{not_before}
use Rattle.cir_simplify.proofs.state.replace_all.Goals as goal
use Rattle.cir_simplify.proofs.state.replace_all.Goals.{then-i-len+in_ok-replace_at, else-i-len}

pub loop-i-preserved : goal.loop-i-preserved
loop-i-preserved c =
    let rising : IsStrictlyIncreasing c.as_slice-i-items.result.now =
    subst IsStrictlyIncreasing (sym c.as_slice-i-items.ensures.value)
    c.in_ok-places.ensures.once in
    elim c.if-i-len.branch [
      | then-i-len+in_ok-replace_at w ↦
          rw w.s-is record {
            indexed = w.in_ok-replace_at.ensures.indexed;
            partly = partly_set _ _ _ _ c.loop-i.s.rows.items _ _ c.loop-i.i-index _
                c.loop-i-test.true refl (not_before _ _ _ rising c.loop-i-test.true refl)
                (omega arith) w.in_ok-replace_at.ensures.rows c.loop-i.invariant.partly;
          }
      | else-i-len w ↦
          rw w.s-is record {
            indexed = c.loop-i.invariant.indexed;
            partly = partly_past _ _ _ _ c.loop-i.s.rows.items _ c.loop-i.i-index _
                c.loop-i-test.true refl (not_before _ _ _ rising c.loop-i-test.true refl)
                (omega arith) c.loop-i.invariant.partly;
          }
    ]

pub replace_at-requires-clause-own : goal.replace_at-requires-clause-own
replace_at-requires-clause-own c =
    let rising : IsStrictlyIncreasing c.as_slice-i-items.result.now =
    subst IsStrictlyIncreasing (sym c.as_slice-i-items.ensures.value)
    c.in_ok-places.ensures.once in
    let fresh = c.loop-i.invariant.partly.fresh _
    (not_before _ _ _ rising c.loop-i-test.true refl) in
    λ e. ap (substitute c.args.rules.bound c.args.x c.args.by.now) (fresh
    ∙ ap (row c.args.s.now.rows.items) e) ∙ c.requires.own

pub returns-clause-rows : goal.returns-clause-rows
returns-clause-rows c =
    partly_end c.args.rules.bound c.args.x c.args.by.now c.args.s.now.rows.items
    c.loop-i.s.rows.items c.args.s.now.holders.items c.as_slice-i-items.result.now
    c.requires.indexed.good c.requires.indexed.noted
    (λ i h. subst (λ (v : List ℕ). Contains v i) (sym c.as_slice-i-items.ensures.value)
    (c.in_ok-places.ensures.all i h))
    (partly_whole _ _ _ _ _ _ _ c.loop-i-test.false c.loop-i.invariant.partly)
