use Rattle.std.proofs.Common.{map, ap, subst, sym, ◌∙◌}
use Rattle.std.proofs.lemmas.List.{take-map}
use Rattle.wit_sourced.specs.Ends.{AreEnds}
use Rattle.wit_sourced.specs.Order.{key_cmp, placed_key}
use Rattle.wit_sourced.proofs.Ending.{cut}
use Rattle.wit_sourced.proofs.homes.Scope.leave.Goals as goal

pub invariant_of-self : goal.invariant_of-self
invariant_of-self c =
    let old = c.args.self.now in
    record {
      ended = subst (AreEnds key_cmp old.ends)
          (take-map placed_key c.args.count old.homes.items
          ∙ ap (map placed_key) (sym c.truncate.ensures.items))
          (cut key_cmp old.ends (map placed_key old.homes.items) c.args.count old.ended);
    }
