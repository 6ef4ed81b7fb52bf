use Rattle.std.proofs.Common.{◌≡◌, ℕ, ◌+◌, ◌*◌, ◌<◌, ◌≤◌, List, length, drop, get_or, Option, None}
use Rattle.std.proofs.Common.{sym, ap, ◌∙◌, refl, arith}
use Rattle.std.proofs.lemmas.List.{at_drop_more}
use Rattle.cir_meaning.specs.Places.{elements, places_of}
use Rattle.cir_arrays.proofs.Products.{factor_below}
use Rattle.cir_arrays.proofs.Reaching.{within_inside}
use Rattle.cir_arrays.proofs.Indices.{spread_by, parts_begin, parts_more, too_many, none_within}
use Rattle.cir_arrays.proofs.Indices.{within_none, rest_is, places_done}
use Rattle.cir_arrays.proofs.places.places_of.Goals as goal
use Rattle.cir_arrays.proofs.places.places_of.Goals.{then-not-is_inside-via-then-not-is_inside}
use Rattle.cir_arrays.proofs.places.places_of.Goals.{
  then-not-is_inside-via-else-not-is_inside+then-indices-dims,
}

pub returns-then-not-is_inside : goal.returns-then-not-is_inside
returns-then-not-is_inside c =
    let ds : List ℕ = c.args.dims.now in
    let is : List (Option ℕ) = c.args.indices.now in
    c.new.ensures.items ∙ sym (within_none ds is (λ t. elim c.then-not-is_inside.branch [
      | then-not-is_inside-via-then-not-is_inside w ↦
          absurd (cc (t, c.is_inside.ensures, w.if-not-is_inside.true))
      | then-not-is_inside-via-else-not-is_inside+then-indices-dims w ↦
          too_many ds is w.if-indices-dims.true
    ]))

pub returns-then-count-eq0 : goal.returns-then-count-eq0
returns-then-count-eq0 c =
    let ds : List ℕ = c.args.dims.now in
    let zero : elements ds ≡ 0 = omega (arith, c.elements-count.ensures) in
    c.new-then-count-eq0.ensures.items
    ∙ sym (within_none ds c.args.indices.now (λ t. none_within ds c.args.indices.now t zero))

pub returns-then-is_all_known : goal.returns-then-is_all_known
returns-then-is_all_known c =
    c.in_ok-run.ensures
    ∙ sym (within_inside c.args.dims.now c.args.indices.now
    (sym c.is_inside.ensures ∙ c.if-not-is_inside.false))

pub loop-at-init : goal.loop-at-init
loop-at-init c = record {
  whole = rw (c.in_ok-push.ensures.items, c.new-firsts.ensures.items)
      (parts_begin (places_of c.args.dims.now c.args.indices.now));
  some = omega (arith, c.elements-count.ensures);
  small = omega (arith, c.elements-count.ensures);
}

pub loop-at-preserved : goal.loop-at-preserved
loop-at-preserved c =
    let ds : List ℕ = c.args.dims.now in
    let is : List (Option ℕ) = c.args.indices.now in
    let at : ℕ = c.loop-at.at in
    let h : at < length ds = omega arith in
    let e : elements (drop at ds) ≡ get_or ds at 0 * elements (drop (at + 1) ds) =
    at_drop_more elements ds at 0 h in
    let f = factor_below (get_or ds at 0) (elements (drop (at + 1) ds)) 67108864
    (rw e at c.loop-at.invariant.some) (rw e at c.loop-at.invariant.small) in
    let r = rest_is ds (at + 1) c.elements-rest.result c.elements-rest.ensures f.1 in
    record {
      whole = ap (spread_by (places_of (drop (at + 1) ds) (drop (at + 1) is)))
          (c.in_ok-firsts.ensures ∙ rw (r, c.as_slice.ensures.value) refl)
          ∙ (sym (parts_more ds is at 0 None c.loop-at.firsts.items h c.loop-at-test.true)
          ∙ c.loop-at.invariant.whole);
      some = f.0;
      small = f.1;
    }

pub returns : goal.returns
returns c =
    let ds : List ℕ = c.args.dims.now in
    let is : List (Option ℕ) = c.args.indices.now in
    let end : c.loop-at.at ≡ length is = omega arith in
    let small : elements (drop (length is) ds) ≤ 67108864 = rw end at c.loop-at.invariant.small in
    places_done ds is c.loop-at.firsts.items c.loop-at.at c.elements-rest-2.result _
    (sym c.is_inside.ensures ∙ c.if-not-is_inside.false) end c.loop-at.invariant.whole
    (rest_is ds (length is) c.elements-rest-2.result c.elements-rest-2.ensures small)
    (c.in_ok-places.ensures ∙ rw c.as_slice-2.ensures.value refl)
