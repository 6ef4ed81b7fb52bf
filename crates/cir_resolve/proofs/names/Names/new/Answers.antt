use Rattle.std.proofs.Common.{ap, ◌∙◌}
use Rattle.std.specs.Str.{bytes_eq}
use Rattle.cir_resolve.specs.Answers.{newest_in, names_in}
use Rattle.cir_resolve.proofs.Naming.{none_hide}
use Rattle.cir_resolve.proofs.names.Names.new.Goals as goal

pub returns : goal.returns
unfolding names_in
returns c =
    λ i q. (none_hide (λ k. bytes_eq q k.items) c.new-2.result (newest_in c.new.result.items q)
    c.new-2.ensures.len
    ∙ ap (λ few. newest_in few q) c.new.ensures.items) i
