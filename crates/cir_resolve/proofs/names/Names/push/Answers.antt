use Rattle.std.proofs.Common.{◌≡◌, rules, ap, sym, cond, ◌∙◌, Some}
use Rattle.std.specs.Str.{bytes_eq}
use Rattle.std.specs.HashMap.{hash_map_len}
use Rattle.cir_resolve.specs.Answers.{newest_in, names_in}
use Rattle.cir_resolve.proofs.Naming.{none_hide, newest_push}
use Rattle.cir_resolve.proofs.names.Names.push.Goals as goal

pub returns : goal.returns
unfolding names_in
returns c =
    let old = c.args.self.now in
    let none : hash_map_len old.many ≡ 0 = c.is_empty.ensures.0 (search rules) in
    λ i q. (none_hide (λ k. bytes_eq q k.items) old.many (newest_in c.push.new.self.items q) none
    ∙ ap (λ few. newest_in few q) c.in_ok-push.ensures.items
    ∙ newest_push old.few.items (record { name = c.args.name; meant = c.args.meant }) q
    ∙ ap (cond (bytes_eq c.args.name.items q) (Some c.args.meant))
    (sym (none_hide (λ k. bytes_eq q k.items) old.many (newest_in old.few.items q) none))) i
