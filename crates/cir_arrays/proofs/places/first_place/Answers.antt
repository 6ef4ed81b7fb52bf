use Rattle.std.proofs.Common.{◌≡◌, ℕ, ◌+◌, List, drop, get_or, Option, None, sym, ap, ◌∙◌, arith}
use Rattle.std.specs.Prelude.{unwrap_or}
use Rattle.std.proofs.lemmas.List.{at_drop_all, take_rest}
use Rattle.cir_meaning.specs.Limits.{standing}
use Rattle.cir_meaning.specs.Places.{elements}
use Rattle.cir_arrays.specs.Reached.{first_of}
use Rattle.cir_arrays.proofs.Products.{place_step}
use Rattle.cir_arrays.proofs.Indices.{first_more, first_none}
use Rattle.cir_arrays.proofs.places.first_place.Goals as goal

pub loop-at-preserved : goal.loop-at-preserved
loop-at-preserved c =
    let ds : List ℕ = c.args.dims.now in
    let is : List (Option ℕ) = c.args.indices.now in
    let at : ℕ = c.loop-at.at in
    let next : ℕ = first_of (drop (at + 1) ds) (drop (at + 1) is) in
    record {
      whole = rw (
        c.saturating_add-place.ensures,
        c.saturating_mul.ensures,
        c.unwrap_or-i.ensures,
        c.elements-rest.ensures,
        take_rest ds (at + 1),
      )
          (place_step c.loop-at.place (unwrap_or (get_or is at None) 0)
          (elements (drop (at + 1) ds)) next
          ∙ ap (λ (x : ℕ). standing (c.loop-at.place + x))
          (sym (first_more ds is at 0 None c.loop-at-test.true c.if-at-indices.true))
          ∙ c.loop-at.invariant.whole);
      small = omega (arith, c.saturating_add-place.ensures);
    }

pub returns-after-loop-at : goal.returns-after-loop-at
returns-after-loop-at c =
    let ds : List ℕ = c.args.dims.now in
    let is : List (Option ℕ) = c.args.indices.now in
    let z : first_of (drop c.loop-at.at ds) (drop c.loop-at.at is) ≡ 0 =
    at_drop_all (λ zs. first_of zs (drop c.loop-at.at is)) ds c.loop-at.at c.loop-at-test.false
    ∙ first_none (drop c.loop-at.at is) in
    let w = rw z at c.loop-at.invariant.whole in
    omega (arith, w, c.loop-at.invariant.small)
