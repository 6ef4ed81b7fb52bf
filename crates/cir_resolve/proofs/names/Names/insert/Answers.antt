use Rattle.std.proofs.Common.{ap, ◌∙◌, Some}
use Rattle.std.specs.Option.{option_or}
use Rattle.std.specs.Str.{bytes_eq}
use Rattle.std.specs.HashMap.{get_by}
use Rattle.cir_resolve.specs.Answers.{newest_in, names_in}
use Rattle.cir_resolve.proofs.Naming.{updates_named, hides_both}
use Rattle.cir_resolve.proofs.names.Names.insert.Goals as goal

pub returns : goal.returns
unfolding names_in
returns c =
    let each =
    updates_named (λ k. k.items) c.args.name.items c.args.self.now.many c.insert.new.self
    (Some c.args.meant) c.in_ok-insert.ensures.updates in
    λ i q. (ap (λ found. option_or found (newest_in c.args.self.now.few.items q)) (each q)
    ∙ hides_both (bytes_eq c.args.name.items q) c.args.meant
    (get_by (λ k. bytes_eq q k.items) c.args.self.now.many)
    (newest_in c.args.self.now.few.items q)) i
