use Rattle.std.proofs.Common.{[], arith, length, ap, subst, sym}
use Rattle.std.proofs.lemmas.Result.{on_ok_weaker}
use Rattle.cir_ast.specs.declared.marked.Expr.TheVariants as expr
use Rattle.cir_ast.specs.Tree.{as_accessors, bare, bare_exprs}
use Rattle.cir_emit.specs.Sourced.{EachHas, HasAll, KeyHas, PlaceHas}
use Rattle.cir_evaluate.proofs.Literals.{some_items}
use Rattle.wit_lower.specs.Homes as L
use Rattle.wit_lower.specs.Values as V
use Rattle.wit_emit.specs.Grounds.{ground_of}
use Rattle.wit_sourced.specs.Shown.{homes_of}
use Rattle.cir_has.proofs.Having.{array_has, call_has, place_has, unless_made}
use Rattle.cir_has.proofs.values.+having.Goals as goal

pub has-returns-in-Place : goal.has-returns-in-Place
has-returns-in-Place g t c =
    let There = g.A.Arrays.there c.args.arrays.now in
    let ground = ground_of c.args.ground.now in
    let homes = homes_of c.args.scope.now.homes.items in
    let p = c.in-Place.place in
    on_ok_weaker c.has_place.result (λ h. subst (λ e. HasAll There ground homes (bare e))
    (sym c.in-Place.is) (place_has There ground homes p
    (subst (λ l. PlaceHas There ground homes (L.Named p.meant) [] (as_accessors l))
    c.as_slice.ensures h))) c.has_place.ensures

pub has-returns-in_ok-has_each-in-Call : goal.has-returns-in_ok-has_each-in-Call
has-returns-in_ok-has_each-in-Call g t c =
    let There = g.A.Arrays.there c.args.arrays.now in
    let ground = ground_of c.args.ground.now in
    let homes = homes_of c.args.scope.now.homes.items in
    let x = c.in-Call in
    let call = expr.Call x.field-0 x.field-1 x.meant x.arguments in
    on_ok_weaker c.has_key.result (λ h. subst (λ e. HasAll There ground homes (bare e)) (sym x.is)
    (call_has There ground homes x.field-0 x.field-1 x.meant x.arguments
    (unless_made (ground.called (bare call)) _ (
      subst (λ l. EachHas There ground homes (bare_exprs l)) c.as_slice-in-Call.ensures
          c.in_ok-has_each-in-Call.ensures,
      subst (λ l. KeyHas ground.keys x.meant (V.shapes_of ground homes (bare_exprs l)))
          c.as_slice-in-Call-2.ensures h,
    )))) c.has_key.ensures

-- ---- array literals
pub has-returns-else-is_empty : goal.has-returns-else-is_empty
has-returns-else-is_empty g t c =
    let There = g.A.Arrays.there c.args.arrays.now in
    let ground = ground_of c.args.ground.now in
    let homes = homes_of c.args.scope.now.homes.items in
    let es = c.in-Array.elements in
    on_ok_weaker c.has_each-in-Array.result (λ h. subst (λ e. HasAll There ground homes (bare e))
    (sym c.in-Array.is) (array_has There ground homes es
    (λ z. omega (
      arith,
      ap (λ l. length l) c.as_slice-in-Array.ensures,
      some_items (length c.as_slice-in-Array.result.now) c.if-is_empty.ensures,
      z,
    ))
    (subst (λ l. EachHas There ground homes (bare_exprs l)) c.as_slice-in-Array-2.ensures h)))
    c.has_each-in-Array.ensures
