use Rattle.std.proofs.Common.{[], subst, sym}
use Rattle.std.proofs.lemmas.Result.{on_ok_weaker}
use Rattle.cir_ast.specs.declared.program.Meant.{Meant}
use Rattle.cir_ast.specs.Tree.{Accessors, as_accessors}
use Rattle.cir_emit.specs.Sourced as H
use Rattle.wit_lower.specs.Homes as L
use Rattle.wit_emit.specs.Grounds.{ground_of}
use Rattle.wit_emit.proofs.Trees.{place_is}
use Rattle.wit_sourced.specs.Shown.{homes_of}
use Rattle.cir_has.proofs.sets.has_changed.Goals as goal

pub returns-clause-read : goal.returns-clause-read
returns-clause-read g c =
    let has = λ (l : Accessors Meant). H.PlaceHas (g.A.Arrays.there c.args.arrays.now)
    (ground_of c.args.ground.now) (homes_of c.args.scope.now.homes.items)
    (L.Named c.args.place.now.meant) [] l in
    on_ok_weaker c.has_place.result (λ h. subst has (sym (place_is c.args.place.now))
    (subst (λ l. has (as_accessors l)) c.as_slice.ensures h)) c.has_place.ensures
