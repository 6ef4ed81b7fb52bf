use Rattle.std.proofs.Common.{◌≡◌, length, ap, subst, ◌∙◌, arith, rules, get_or}
use Rattle.std.proofs.lemmas.Option.{slice_get_within, get_or_from_slice_get}
use borrow.Author.Count.{below_more}
use Rattle.wit_code.specs.Code.{Fits}
use Rattle.wit_code.proofs.well_formed.each_fits.Goals as goal

pub loop-place-preserved : goal.loop-place-preserved
loop-place-preserved c =
    let code = c.args.code.now in
    let place = c.loop-place.place in
    let op = c.index-body-place.result in
    let fits : Fits c.args.procs.now c.args.stands code place op =
    c.fits.ensures.0 (search rules) in
    below_more _ place c.loop-place.invariant (λ found h.
    let same : op ≡ found = c.index-body-place.is
    ∙ ap (λ b. get_or b place op) c.as_slice-body.ensures
    ∙ get_or_from_slice_get code.body place found op h in
    subst (Fits c.args.procs.now c.args.stands code place) same fits)

pub returns : goal.returns
returns c = (
  λ _ place op h.
      c.loop-place.invariant place
      (omega (
        arith,
        slice_get_within c.args.code.now.body place op h,
        ap length c.as_slice-body.ensures,
      )) op h,
  λ _. search rules,
)
