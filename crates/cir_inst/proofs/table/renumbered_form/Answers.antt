use Rattle.std.proofs.Common.{◌≡◌, ◌<◌, ◌≤◌, List, length, get_or, sym, ap, subst, ◌∙◌, arith}
use Rattle.std.specs.Prelude.{slice_set}
use Rattle.gold_field.specs.declared.form.Term.{Term}
use Rattle.gold_field.specs.Rises.{RisesFrom}
use Rattle.cir_meaning.specs.Frame.{Sizes}
use Rattle.cir_frame.specs.Shown.{sizes_of}
use Rattle.cir_inst.proofs.Numbering.{mixed_none, mixed_more, mixed_all, renumbered_rises}
use Rattle.cir_inst.proofs.table.renumbered_form.Goals as goal

pub loop-k-init : goal.loop-k-init
loop-k-init c =
    c.into_vec-terms.ensures.terms ∙ sym (mixed_none (sizes_of c.args.sizes.now) c.args.f)

pub loop-k-preserved : goal.loop-k-preserved
loop-k-preserved c =
    let s : Sizes = sizes_of c.args.sizes.now in
    let t : Term = c.index.result.now in
    let l : c.loop-k.k < length c.args.f = omega (arith, ap length c.into_vec-terms.ensures.terms)
    in
    let there : t ≡ get_or c.loop-k.terms.items c.loop-k.k t = c.index.ensures in
    ap (λ (xs : List Term). slice_set xs c.loop-k.k record {
      signal = c.final_number.result;
      coef = t.coef;
    }) c.loop-k.invariant
    ∙ mixed_more s c.loop-k.k c.args.f t c.final_number.result l
    (there ∙ ap (λ (xs : List Term). get_or xs c.loop-k.k t) c.loop-k.invariant)
    c.final_number.ensures

pub of-requires : goal.of-requires
of-requires c =
    let s : Sizes = sizes_of c.args.sizes.now in
    let l : length c.args.f ≤ c.loop-k.k = omega (arith, ap length c.into_vec-terms.ensures.terms)
    in
    subst (λ (xs : List Term). RisesFrom 0 xs)
    (sym (c.loop-k.invariant ∙ mixed_all s c.loop-k.k c.args.f l))
    (renumbered_rises s c.requires.roomy c.args.f c.into_vec-terms.ensures.rises
    c.requires.declared)

pub returns : goal.returns
returns c =
    let s : Sizes = sizes_of c.args.sizes.now in
    let l : length c.args.f ≤ c.loop-k.k = omega (arith, ap length c.into_vec-terms.ensures.terms)
    in
    c.of.ensures ∙ c.loop-k.invariant ∙ mixed_all s c.loop-k.k c.args.f l
