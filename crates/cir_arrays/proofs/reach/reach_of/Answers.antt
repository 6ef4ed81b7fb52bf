use Rattle.std.proofs.Common.{◌≡◌, ◌⊎◌, inl, inr, true, false, sym, ◌∙◌}
use Rattle.std.proofs.lemmas.List.{take_rest}
use Rattle.cir_meaning.specs.Places.{is_inside}
use Rattle.cir_arrays.specs.Stopped.{where_of}
use Rattle.cir_arrays.specs.Reached.{want_of}
use Rattle.cir_arrays.proofs.Reaching.{refuses_many, refuses_outside, refuses_shape, reaches}
use Rattle.cir_arrays.proofs.reach.reach_of.Goals as goal
use Rattle.cir_arrays.proofs.reach.reach_of.Goals.{
  else-not-inside-via-then-not-inside+else-not-shaded,
}
use Rattle.cir_arrays.proofs.reach.reach_of.Goals.{else-not-inside-via-else-not-inside}

pub returns-then-indices-dims-clause-reach : goal.returns-then-indices-dims-clause-reach
returns-then-indices-dims-clause-reach c =
    refuses_many _ (where_of c.args.site.now) c.args.shaded (want_of c.args.want) c.args.dims.now
    c.args.indices.now c.if-indices-dims.true c.refused.ensures

pub returns-then-not-shaded-clause-reach : goal.returns-then-not-shaded-clause-reach
returns-then-not-shaded-clause-reach c =
    let out : is_inside c.args.dims.now c.args.indices.now ≡ false = cc in
    refuses_outside _ (where_of c.args.site.now) c.args.shaded (want_of c.args.want) c.args.dims.now
    c.args.indices.now c.if-indices-dims.false out c.if-not-shaded.true
    c.refused-then-not-shaded.ensures

pub returns-then-not-fits-clause-reach : goal.returns-then-not-fits-clause-reach
returns-then-not-fits-clause-reach c =
    let o : (is_inside c.args.dims.now c.args.indices.now ≡ true) ⊎ (c.args.shaded ≡ true) =
    elim c.else-not-inside.branch [
      | else-not-inside-via-then-not-inside+else-not-shaded w ↦ inr w.if-not-shaded.false
      | else-not-inside-via-else-not-inside w ↦
          inl (sym c.is_inside-inside.ensures ∙ w.if-not-inside.false)
    ] in
    refuses_shape _ (where_of c.args.site.now) c.args.shaded (want_of c.args.want) c.args.dims.now _
    c.args.indices.now c.if-indices-dims.false o (take_rest c.args.dims.now _)
    (sym c.fits.ensures ∙ c.if-not-fits.true) c.refused-then-not-fits.ensures

pub returns-clause-reach : goal.returns-clause-reach
returns-clause-reach c =
    let o : (is_inside c.args.dims.now c.args.indices.now ≡ true) ⊎ (c.args.shaded ≡ true) =
    elim c.else-not-inside.branch [
      | else-not-inside-via-then-not-inside+else-not-shaded w ↦ inr w.if-not-shaded.false
      | else-not-inside-via-else-not-inside w ↦
          inl (sym c.is_inside-inside.ensures ∙ w.if-not-inside.false)
    ] in
    reaches (where_of c.args.site.now) c.args.shaded (want_of c.args.want) c.args.dims.now _
    c.args.indices.now c.in_ok-left.left c.part_of-part.result c.if-indices-dims.false o
    (take_rest c.args.dims.now _) (sym c.fits.ensures ∙ c.if-not-fits.false)
    c.in_ok-left.ensures.items c.part_of-part.ensures
