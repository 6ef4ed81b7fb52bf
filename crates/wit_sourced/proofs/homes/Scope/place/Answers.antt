use Rattle.std.proofs.Common.{◌+◌}
use Rattle.wit_lower.specs.Homes as L
use Rattle.wit_sourced.specs.declared.homes.Placed.{Placed}
use Rattle.wit_sourced.proofs.Left.{placed}
use Rattle.wit_sourced.proofs.homes.Scope.place.Goals as goal

pub returns : goal.returns
returns c =
    let s = c.args.self.now in
    let home : Placed =
    record { name = c.args.name; home = record { base = s.top; dims = c.args.dims } } in
    placed s _ home (s.top + L.slots_of c.args.dims) c.in_ok-add.ensures.homes
    (rw (c.made_elements.ensures, c.as_slice.ensures) at c.in_ok-top.ensures.ok)
