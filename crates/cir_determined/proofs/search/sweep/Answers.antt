use Rattle.std.proofs.Common.{◌≡◌, ◌+◌, ◌||◌, ℕ, Bool, true, List, map, length, arith, ap, sym, ◌∙◌}
use Rattle.std.proofs.Common.{refl, subst}
use Rattle.std.specs.Option.{option_map}
use Rattle.std.proofs.lemmas.Bool.{or_left}
use Rattle.std.proofs.lemmas.List.{length-map}
use Rattle.std.proofs.lemmas.Option.{slice_get-map, slice_get_read}
use Rattle.gold_field.specs.declared.form.Constraint.{Constraint}
use Rattle.gold_field.specs.Form.{ConstraintBelow}
use Rattle.cir_determined.specs.Circuit.{normalized}
use Rattle.cir_determined.specs.Marks.{Marks, marks_of}
use Rattle.cir_determined.specs.Search.{Visits}
use Rattle.cir_determined.proofs.Found.{HasSwept, swept_more, swept_closed}
use Rattle.cir_determined.proofs.search.sweep.Goals as goal
use Rattle.cir_determined.proofs.search.sweep.Goals.{then-more, else-more}

pub visit-requires : goal.visit-requires
visit-requires c =
    subst (λ (n : ℕ). ConstraintBelow n c.k-item.result) (sym c.loop-k.invariant.2)
    (subst (ConstraintBelow (length c.args.marks.now)) (sym c.k-item.is)
    (c.requires.below c.loop-k.k-index c.k-item.result (omega arith)))

pub loop-k-preserved : goal.loop-k-preserved
loop-k-preserved c =
    let n : ℕ = length c.args.marks.now in
    let i : ℕ = c.loop-k.k-index in
    let ks : List Constraint = map (normalized n) c.args.constraints.now in
    let k : Constraint = normalized n c.k-item.result in
    let m : Marks = marks_of c.args.marks.now in
    let mid : Marks = marks_of c.loop-k.marks in
    let new : Marks = marks_of c.visit.new.marks in
    let here : Visits (normalized n c.k-item.result) c.loop-k.k-index (marks_of c.loop-k.marks)
    (marks_of c.visit.new.marks) c.loop-k.rules.items c.visit.new.rules.items c.in_ok-taken.taken =
    subst (λ (j : ℕ). Visits (normalized n c.k-item.result) j mid new c.loop-k.rules.items
    c.visit.new.rules.items c.in_ok-taken.taken) c.loop-k.invariant.1
    (subst (λ (j : ℕ). Visits (normalized j c.k-item.result) c.loop-k.place mid new
    c.loop-k.rules.items c.visit.new.rules.items c.in_ok-taken.taken) c.loop-k.invariant.2
    c.in_ok-taken.ensures) in
    let joined : c.if-more.more ≡ (c.loop-k.more || c.in_ok-taken.taken) =
    elim c.if-more.branch [
      | then-more w ↦
          let all : (c.loop-k.more || c.in_ok-taken.taken) ≡ true =
          or_left c.loop-k.more c.in_ok-taken.taken w.if-more.true in
          cc (w.more-is, w.if-more.true, all)
      | else-more w ↦
          let all : (c.loop-k.more || c.in_ok-taken.taken) ≡ c.in_ok-taken.taken =
          ap (λ (b : Bool). b || c.in_ok-taken.taken) w.if-more.false in
          cc (w.more-is, all)
    ] in (
      subst (λ (b : Bool). HasSwept ks (c.loop-k.k-index + 1) m new c.args.rules.now.items
          c.visit.new.rules.items b) (sym joined)
          (swept_more ks i m mid new c.args.rules.now.items c.loop-k.rules.items
          c.visit.new.rules.items c.loop-k.more c.in_ok-taken.taken k
          (slice_get-map (normalized n) c.args.constraints.now i ∙ ap (option_map (normalized n))
          (slice_get_read c.args.constraints.now (length c.args.constraints.now) i c.k-item.result
          refl (omega arith) c.k-item.is))
          c.loop-k.invariant.0 here),
      omega arith,
      c.visit.auto.marks ∙ c.loop-k.invariant.2,
    )

pub returns-clause-closed : goal.returns-clause-closed
returns-clause-closed c = λ e.
    swept_closed (map (normalized (length c.args.marks.now)) c.args.constraints.now)
    c.loop-k.k-index (marks_of c.args.marks.now) (marks_of c.loop-k.marks) c.args.rules.now.items
    c.loop-k.rules.items c.loop-k.more
    (omega (arith, length-map c.args.constraints.now (normalized (length c.args.marks.now))))
    c.loop-k.invariant.0 e
