use Rattle.std.proofs.Common.{◌+◌, ap, ◌∙◌}
use Rattle.std.specs.Prelude.{unwrap_or}
use Rattle.cir_meaning.specs.Arrays.{item_at}
use Rattle.cir_meaning.specs.Values.{Known}
use Rattle.cir_arrays.specs.Shown.{datum_of}
use Rattle.cir_arrays.proofs.Lists.{get_standing}
use Rattle.cir_arrays.proofs.PartsRead.{few_items, items_more}
use Rattle.cir_arrays.proofs.arrays.Datum.items_from.Goals as goal

pub loop-k-preserved : goal.loop-k-preserved
loop-k-preserved c =
    let items = (datum_of c.args.self.now).items in
    items_more (item_at items) c.loop-k.items.items c.push.new.self.items c.in_ok-v.v c.args.first
    c.loop-k.k c.in_ok-push.ensures.items
    (c.in_ok-v.ensures ∙ (ap (item_at items) c.saturating_add.ensures
    ∙ ap (λ o. unwrap_or o (Known 0))
    (get_standing items (c.args.first + c.loop-k.k) (few_items c.args.self.now))))
    c.loop-k.invariant
