use Rattle.wit_sourced.proofs.homes.Scope.declare.Goals as goal

pub returns : goal.returns
returns c = c.in_ok-place.ensures
