use Rattle.std.proofs.Common.{◌≡◌, ◌∙◌, Bool, true, false, Option, Some, refl, ap}
use Rattle.std.specs.Prelude.{cond, is_some, if◌then◌else◌}
use Rattle.std.specs.Ordering.{nat_cmp}
use Rattle.std.specs.Cmp.Lexicographic.{slice_cmp}
use Rattle.std.specs.BTreeMap.{get_by}
use Rattle.std.specs.Str.{bytes_eq}
use Rattle.std.proofs.lemmas.Map.Text.{btree_map_updates_str}
use Rattle.cir_checks.specs.Answers.{contained}
use Rattle.cir_checks.proofs.name_set.NameSet.insert.Goals as goal

chosen : (b : Bool) (x : Option (Unit {0}))
    → is_some (cond b (Some tt) x) ≡ (if b then true else is_some x)
chosen true x = refl
chosen false x = refl

pub returns : goal.returns
unfolding contained
returns c =
    let each =
    btree_map_updates_str c.args.name.now c.args.self.now.names c.insert.new.self
    (Some tt) c.in_ok-insert.ensures.updates in
    λ i q. (ap is_some (each q)
    ∙ chosen (bytes_eq c.args.name.now q)
    (get_by (λ k. slice_cmp nat_cmp q k.now) c.args.self.now.names)) i
