use Rattle.std.proofs.Common.{◌≡◌, ◌∙◌, Bool, true, false, Option, Some, refl, ap}
use Rattle.std.specs.Prelude.{cond, is_some, ◌||◌}
use Rattle.std.specs.Ordering.{nat_cmp}
use Rattle.std.specs.Cmp.Lexicographic.{slice_cmp}
use Rattle.std.specs.BTreeMap.{get_by}
use Rattle.std.specs.Str.{bytes_eq}
use Rattle.std.proofs.lemmas.Map.Text.{btree_map_updates_str}
use Rattle.wit_input.specs.Names.{contained}
use Rattle.wit_input.proofs.names.NameSet.insert.Goals as goal

chosen : (b : Bool) (x : Option (Unit {0})) → is_some (cond b (Some tt) x) ≡ (b || is_some x)
chosen true x = refl
chosen false x = refl

pub returns : goal.returns
unfolding contained
returns c =
    let each = btree_map_updates_str c.args.name.now c.args.self.now.names c.insert.new.self
    (Some tt) c.in_ok-insert.ensures.updates in
    λ other. ap is_some (each other) ∙ chosen (bytes_eq c.args.name.now other)
    (get_by (λ k. slice_cmp nat_cmp other k.now) c.args.self.now.names)
