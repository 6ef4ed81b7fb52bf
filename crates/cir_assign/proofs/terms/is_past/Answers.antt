use Rattle.std.proofs.Common.{◌<◌, ◌*◌, ◌-◌, length, get_or, List, arith, ap, subst}
use Rattle.std.proofs.lemmas.Bool.{leb-false}
use Rattle.gold_field.specs.declared.form.Term.{Term}
use Rattle.cir_meaning.specs.Compile.{group_size}
use Rattle.cir_assign.proofs.Counting.{last_within}
use Rattle.cir_assign.proofs.terms.is_past.Goals as goal

pub returns-in-len1-up : goal.returns-in-len1-up
returns-in-len1-up c = λ e w.
    let below : c.last-item.result.signal < 4 * group_size =
    omega (arith, leb-false _ _ e, c.from.ensures, c.all_numbers.ensures) in
    let last : (get_or c.as_slice.result.now (length c.as_slice.result.now - 1)
    c.last-item.result).signal < 4 * group_size =
    omega (arith, below, ap (λ (t : Term). t.signal) c.last-item.is) in
    last_within (4 * group_size) _ 0 c.args.f.now c.last-item.result c.as_slice.ensures.rises w
    (subst (λ (ts : List Term). (get_or ts (length ts - 1) c.last-item.result).signal < 4 *
    group_size) c.as_slice.ensures.terms last)
