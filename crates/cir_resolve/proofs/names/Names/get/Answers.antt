use Rattle.std.proofs.Common.{◌≡◌, rules, refl, ap, sym, ◌∙◌}
use Rattle.std.specs.Str.{bytes_eq}
use Rattle.std.specs.HashMap.{hash_map_len}
use Rattle.cir_resolve.specs.Answers.{newest_in, names_in}
use Rattle.cir_resolve.proofs.Naming.{none_hide}
use Rattle.cir_resolve.proofs.names.Names.get.Goals as goal

pub returns-then-is_empty : goal.returns-then-is_empty
unfolding names_in
returns-then-is_empty c =
    let names = c.args.self.now in
    let none : hash_map_len names.many ≡ 0 = c.is_empty.ensures.0 (search rules) in
    c.newest_in.ensures
    ∙ ap (λ few. newest_in few c.args.name.now) c.as_slice.ensures.value
    ∙ sym (none_hide (λ k. bytes_eq c.args.name.now k.items) names.many _ none)

pub returns-in-Some : goal.returns-in-Some
unfolding names_in
returns-in-Some c = rw (← c.get.ensures.value, ← c.copied.ensures, c.in-Some.is) refl

pub returns-in-None : goal.returns-in-None
unfolding names_in
returns-in-None c =
    rw (← c.get.ensures.value, ← c.copied.ensures, c.in-None.is, c.newest_in-in-None.ensures)
    (ap (λ few. newest_in few c.args.name.now) c.as_slice-in-None.ensures.value)
