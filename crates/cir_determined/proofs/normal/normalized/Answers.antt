use Rattle.gold_field.specs.declared.form.Constraint.{Constraint}
use Rattle.cir_lc.specs.declared.quad.Quad.{Quad}
use Rattle.cir_lc.specs.Normal.{IsConstraintWithin}
use Rattle.cir_lc.proofs.Normals.{same_within}
use Rattle.cir_determined.proofs.Kept.{normal_made, below_from_within}
use Rattle.cir_determined.proofs.normal.normalized.Goals as goal

pub returns-clause-form : goal.returns-clause-form
returns-clause-form c = λ n h.
    let q : Quad = record { a = c.in_ok-a.a; b = c.in_ok-b.b; c = c.in_ok-c.c } in
    let r : Constraint = record { a = c.in_ok-r.r.a; b = c.in_ok-r.r.b; c = c.in_ok-r.r.c } in
    let within : IsConstraintWithin n r =
    c.in_ok-r.ensures.within n (
      same_within n c.in_ok-a.a c.args.k.now.a c.in_ok-a.ensures (c.is_formed.ensures.within n h.a),
      same_within n c.in_ok-b.b c.args.k.now.b c.in_ok-b.ensures
          (c.is_formed-2.ensures.within n h.b),
      c.in_ok-c.ensures.within n (c.is_formed-3.ensures.within n h.c),
    ) in
    normal_made n c.args.k.now r q c.in_ok-a.ensures c.in_ok-b.ensures c.in_ok-c.ensures.value
    c.is_formed-4.ensures.rises (c.in_ok-c.ensures.within n (c.is_formed-3.ensures.within n h.c))
    c.in_ok-r.ensures.shape c.is_formed-5.ensures.rises within.2

pub returns-clause-below : goal.returns-clause-below
returns-clause-below c = λ n h.
    let r : Constraint = record { a = c.in_ok-r.r.a; b = c.in_ok-r.r.b; c = c.in_ok-r.r.c } in
    below_from_within n r (c.in_ok-r.ensures.within n (
      same_within n c.in_ok-a.a c.args.k.now.a c.in_ok-a.ensures (c.is_formed.ensures.within n h.a),
      same_within n c.in_ok-b.b c.args.k.now.b c.in_ok-b.ensures
          (c.is_formed-2.ensures.within n h.b),
      c.in_ok-c.ensures.within n (c.is_formed-3.ensures.within n h.c),
    ))
