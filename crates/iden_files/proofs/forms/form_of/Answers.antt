use Rattle.std.proofs.Common.{rules, ◌∙◌, ap}
use Rattle.std.specs.List.Sorted.{IsNonDecreasingBy}
use Rattle.std.proofs.lemmas.List.Sorted.{IsNonDecreasingBy-from_sort_by_key}
use Rattle.gold_field.specs.declared.form.Term.{Term}
use Rattle.iden_files.specs.Merging.{merged}
use Rattle.iden_files.proofs.FormLaws.{start, form_of_form, merged_sorted_rises, merged_is_form_of}
use Rattle.iden_files.proofs.forms.form_of.Goals as goal

pub returns-then-is_form : goal.returns-then-is_form
returns-then-is_form c =
    let rises = rw c.deref.ensures.value at c.if-is_form.ensures in
    c.of.ensures ∙ form_of_form c.args.wires c.args.terms.items rises c.requires

pub of-requires-2 : goal.of-requires-2
of-requires-2 c =
    let sorted : IsNonDecreasingBy (λ (t : Term). t.signal) c.sort_unstable_by_key.new.self.items =
    IsNonDecreasingBy-from_sort_by_key
    (λ (t : Term). t.signal) _ c.sort_unstable_by_key.ensures.sorted
    (λ a r q k. search rules) in
    rw (c.in_ok-merged.ensures, c.deref-2.ensures.value)
    (merged_sorted_rises c.sort_unstable_by_key.new.self.items sorted)

pub returns : goal.returns
returns c =
    let sorted : IsNonDecreasingBy (λ (t : Term). t.signal) c.sort_unstable_by_key.new.self.items =
    IsNonDecreasingBy-from_sort_by_key
    (λ (t : Term). t.signal) _ c.sort_unstable_by_key.ensures.sorted
    (λ a r q k. search rules) in
    c.of-2.ensures ∙ c.in_ok-merged.ensures ∙ ap (merged start) c.deref-2.ensures.value
    ∙ merged_is_form_of c.args.wires c.args.terms.items c.sort_unstable_by_key.new.self.items
    c.requires c.sort_unstable_by_key.ensures.permutation sorted
