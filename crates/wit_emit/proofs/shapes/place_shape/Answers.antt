use Rattle.std.proofs.Common.{◌∙◌, ◌+◌, [], ◌∷◌, drop, ap, sym}
use Rattle.cir_ast.specs.Tree.{as_accessors}
use Rattle.cir_arrays.proofs.Lists.{at_read}
use Rattle.wit_lower.specs.Values as V
use Rattle.wit_sourced.specs.Shown.{homes_of}
use Rattle.wit_emit.specs.Grounds.{front_of, ground_of}
use Rattle.wit_emit.proofs.shapes.place_shape.Goals as goal

pub loop-accessor-preserved : goal.loop-accessor-preserved
loop-accessor-preserved c =
    let g = ground_of c.args.ground.now in
    let homes = homes_of c.args.scope.now.homes.items in
    let loop = c.loop-accessor in
    let list = c.args.accessors.now in
    let i = loop.accessor-index in
    let here = at_read (λ l. V.place_shape g homes (front_of loop.front) loop.indices.items
    (as_accessors l)) list i c.accessor-item.result c.loop-accessor-test.true c.accessor-item.is in
    elim c.match-accessor.branch [
      | goal.in-Index+in_ok-index-in-Index+in_ok-push-in-Index w ↦
          rw (
            w.front-is,
            w.indices-is,
            w.in_ok-push-in-Index.ensures.items,
            w.in_ok-index-in-Index.ensures,
          ) (sym (here ∙ ap (λ x. V.place_shape g homes (front_of loop.front)
          loop.indices.items (as_accessors (x ∷ drop (i + 1) list))) w.in-Index.is)
          ∙ loop.invariant)
      | goal.in-Member+in_ok-front-in-Member w ↦
          rw (w.front-is, w.indices-is, w.new-indices-in-Member.ensures.items)
          (ap (λ f. V.place_shape g homes f [] (as_accessors (drop (i + 1) list)))
          (rw (w.as_slice.ensures.value, w.as_slice-in-Member.ensures)
          at w.in_ok-front-in-Member.ensures)
          ∙ sym (here ∙ ap (λ x. V.place_shape g homes (front_of loop.front)
          loop.indices.items (as_accessors (x ∷ drop (i + 1) list))) w.in-Member.is)
          ∙ loop.invariant)
    ]
