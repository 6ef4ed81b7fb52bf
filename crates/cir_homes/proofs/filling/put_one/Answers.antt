use Rattle.std.proofs.Common.{◌≡◌, Some, refl, sym, ap, ◌∙◌}
use Rattle.cir_homes.proofs.Filled.{none_at, puts_new, puts_none, puts_some, some_at}
use Rattle.cir_homes.proofs.filling.put_one.Goals as goal

pub returns-in_default : goal.returns-in_default
returns-in_default c =
    puts_none c.args.row.now c.args.k c.args.first c.args.found.now (c.in_default.ensures.none refl)

pub returns-then-is_some : goal.returns-then-is_some
returns-then-is_some c =
    let at = c.in-Some.ensures.found c.in-Some.place refl in
    let some = some_at c.args.found.now c.in-Some.place at.1
    (sym c.is_some.ensures ∙ c.if-is_some.true) in
    puts_some c.args.row.now c.args.k c.args.first c.args.found.now c.in-Some.place some.0 at.0
    some.1

pub returns : goal.returns
returns c =
    let at = c.in-Some.ensures.found c.in-Some.place refl in
    puts_new c.args.row.now c.args.k c.args.first c.args.found.now c.in-Some.place _ at.0
    (none_at c.args.found.now c.in-Some.place at.1 (sym c.is_some.ensures ∙ c.if-is_some.false))
    (ap (λ z. Some z) c.in_ok-behind.ensures.ok)
