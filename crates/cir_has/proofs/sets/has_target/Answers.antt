use Rattle.std.proofs.Common.{List, subst, sym}
use Rattle.std.specs.List.{AllByRecursion}
use Rattle.std.proofs.lemmas.Result.{on_ok_weaker}
use Rattle.cir_ast.specs.declared.program.Meant.{Meant}
use Rattle.cir_ast.specs.Tree.{Expr, as_accessors}
use Rattle.cir_emit.specs.Sourced as H
use Rattle.cir_meaning.specs.Texts.{indices_of}
use Rattle.wit_emit.specs.Grounds.{ground_of}
use Rattle.wit_emit.proofs.Trees.{place_is}
use Rattle.wit_sourced.specs.Shown.{homes_of}
use Rattle.cir_has.proofs.sets.has_target.Goals as goal

pub returns-clause-indices : goal.returns-clause-indices
returns-clause-indices g c =
    let all = λ (es : List (Expr Meant)).
    AllByRecursion (H.HasAll (g.A.Arrays.there c.args.arrays.now)
    (ground_of c.args.ground.now) (homes_of c.args.scope.now.homes.items)) es in
    on_ok_weaker c.has_indices.result (λ h. subst (λ l. all (indices_of l))
    (sym (place_is c.args.place.now)) (subst (λ l. all (indices_of (as_accessors l)))
    c.as_slice.ensures h)) c.has_indices.ensures
