use Rattle.std.proofs.Common.{◌≡◌, ◌∙◌, Some, ap, arith, map, subst, sym}
use Rattle.std.proofs.lemmas.Result.{on_ok_weaker}
use Rattle.cir_arrays.specs.Reached.{items_of}
use Rattle.cir_ast.specs.declared.program.Meant.TheVariants as meant
use Rattle.cir_meaning.specs.Places.{is_inside}
use Rattle.cir_emit.specs.Sourced as H
use Rattle.wit_lower.specs.Homes as L
use Rattle.wit_emit.specs.Grounds.{front_of, ground_of}
use Rattle.wit_sourced.specs.Shown.{homes_of}
use Rattle.cir_has.proofs.Ports.{port_known, port_outside, port_unknown}
use Rattle.cir_has.proofs.names.has_port.Goals as goal

pub returns-in_default-2 : goal.returns-in_default-2
returns-in_default-2 g c =
    let There = g.A.Arrays.there c.args.arrays.now in
    let ground = ground_of c.args.ground.now in
    let homes = homes_of c.args.scope.now.homes.items in
    let x = c.in-Named-Component in
    let is : front_of c.args.front ≡ L.Named (meant.Component x.n) = grind arith in
    port_unknown There ground homes (front_of c.args.front) c.args.indices.now c.args.name.now x.n
    is (sym c.in_ok-indices.ensures ∙ ap items_of c.in_default-2.is)

pub returns-then-not-is_inside : goal.returns-then-not-is_inside
returns-then-not-is_inside g c =
    let There = g.A.Arrays.there c.args.arrays.now in
    let ground = ground_of c.args.ground.now in
    let homes = homes_of c.args.scope.now.homes.items in
    let x = c.in-Named-Component in
    let is : front_of c.args.front ≡ L.Named (meant.Component x.n) = grind arith in
    let known = c.in-Some.indices.items in
    let tested : c.is_inside.result ≡ is_inside (ground.components x.n) (map Some known) =
    rw (c.component_dims-dims.ensures, c.as_slice.ensures.value, is) at c.is_inside.ensures in
    port_outside There ground homes (front_of c.args.front) c.args.indices.now c.args.name.now x.n
    is known (sym c.in_ok-indices.ensures ∙ ap items_of c.in-Some.is)
    (sym tested ∙ c.if-not-is_inside.true)

pub returns : goal.returns
returns g c =
    let There = g.A.Arrays.there c.args.arrays.now in
    let ground = ground_of c.args.ground.now in
    let homes = homes_of c.args.scope.now.homes.items in
    let x = c.in-Named-Component in
    let is : front_of c.args.front ≡ L.Named (meant.Component x.n) = grind arith in
    let known = c.in-Some.indices.items in
    let place : c.in_ok-element.element ≡ L.offset (ground.components x.n) known =
    rw (c.component_dims-dims.ensures, c.as_slice-2.ensures.value, is) at c.in_ok-element.ensures in
    on_ok_weaker c.has_home.result (λ h. port_known There ground homes (front_of c.args.front)
    c.args.indices.now c.args.name.now x.n is known (sym c.in_ok-indices.ensures
    ∙ ap items_of c.in-Some.is)
    (subst (λ e. H.HasHome There homes (L.Port x.n e c.args.name.now)) place h))
    c.has_home.ensures
