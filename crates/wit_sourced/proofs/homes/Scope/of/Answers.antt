use Rattle.std.proofs.Common.{◌≡◌, ◌∙◌, ◌+◌, ◌<◌, List, ℕ, length, drop, get_or, ap, sym}
use Rattle.std.specs.Prelude.{map}
use Rattle.std.proofs.lemmas.List.{at_drop_more}
use Rattle.wit_lower.specs.Homes as L
use Rattle.wit_lower.specs.Sources as R
use Rattle.wit_sourced.specs.declared.sources.Shape.{Shape}
use Rattle.wit_sourced.specs.Behind.{with_home}
use Rattle.wit_sourced.specs.Loads.{shape_of}
use Rattle.wit_sourced.specs.Shown.{sought_name}
use Rattle.wit_sourced.proofs.homes.Scope.of.Goals as goal

-- one more shape has its home
more : (list : List Shape) (i : ℕ) (d : Shape) (dims : List ℕ) (s t all : L.Scope)
    → i < length list → t ≡ with_home (sought_name (get_or list i d).name) dims s
    → dims ≡ (get_or list i d).dims.now
    → R.homes_from (map shape_of (drop i list)) s ≡ all
    → R.homes_from (map shape_of (drop (i + 1) list)) t ≡ all
more list i d dims s t all h shows is before =
    let rest = map shape_of (drop (i + 1) list) in
    ap (λ (y : L.Scope). R.homes_from rest y)
    (shows ∙ ap (λ (ds : List ℕ). with_home (sought_name (get_or list i d).name) ds s) is)
    ∙ sym (at_drop_more (λ l. R.homes_from (map shape_of l) s) list i d h) ∙ before

pub loop-shape-preserved : goal.loop-shape-preserved
loop-shape-preserved c =
    more c.args.shapes.now c.loop-shape.shape-index _ _ _ _ _ c.loop-shape-test.true
    c.in_ok-place.ensures.shows c.in_ok-dims.ensures c.loop-shape.invariant
