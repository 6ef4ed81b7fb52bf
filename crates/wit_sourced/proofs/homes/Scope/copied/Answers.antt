use Rattle.std.proofs.Common.{◌≡◌, ◌∙◌, ◌+◌, List, ℕ, [], ◌∷◌, drop, ap, sym}
use Rattle.cir_arrays.proofs.Lists.{at_read}
use Rattle.wit_lower.specs.Homes as L
use Rattle.wit_sourced.specs.declared.homes.Placed.{Placed}
use Rattle.wit_sourced.specs.Shown.{homes_above, homes_of, placed_of}
use Rattle.wit_sourced.proofs.Left.{newest}
use Rattle.wit_sourced.proofs.homes.Scope.copied.Goals as goal

abbrev housed : Placed → List ℕ → Placed
housed p dims = record { name = p.name; home = record { base = p.home.base; dims = dims } }

pub loop-placed-preserved : goal.loop-placed-preserved
loop-placed-preserved c =
    let loop = c.loop-placed in
    let list = c.as_slice-placed-items.result.now in
    let x = c.placed-item.result in
    let rest = drop (loop.placed-index + 1) list in
    let copy = housed x c.in_ok-dims.dims in
    let same : placed_of copy ≡ placed_of x =
    ap (λ (ds : List ℕ). placed_of (housed x ds)) (c.in_ok-dims.ensures ∙ c.as_slice.ensures) in (
      ap (λ (ps : List Placed). homes_above (homes_of ps) rest) c.in_ok-add.ensures.homes
          ∙ ap (λ (hs : L.Homes). homes_above hs rest) (newest [] loop.copy.homes.items copy
          ∙ ap (λ (p : L.Placed). p ∷ homes_of loop.copy.homes.items) same)
          ∙ sym (at_read (λ l. homes_above (homes_of loop.copy.homes.items) l) list
          loop.placed-index x c.loop-placed-test.true c.placed-item.is)
          ∙ loop.invariant.0,
      c.in_ok-add.ensures.top ∙ loop.invariant.1,
    )
