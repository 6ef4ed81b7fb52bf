use Rattle.std.proofs.Common.{◌≡◌, ◌<◌, ℕ, Bool, false, List, length, map, get_or, slice_index, All}
use Rattle.std.proofs.Common.{sym, ap, subst, ◌∙◌, arith}
use Rattle.gold_field.specs.declared.form.Constraint.{Constraint}
use Rattle.cir_lc.specs.Normal.{IsConstraintWithin}
use Rattle.cir_simplify.specs.Turn.{dropped}
use Rattle.cir_simplify.specs.Wires.{is_kept, kept_below, wire_of, renamed_in}
use Rattle.cir_simplify.specs.Index.{IsNameable}
use Rattle.cir_simplify.proofs.Wiring.{all_within, all_nameable, wired}
use Rattle.cir_simplify.proofs.solving.over_wires.Goals as goal

pub marks-requires : goal.marks-requires
marks-requires c =
    subst (λ (v : List Constraint). All (λ k. IsConstraintWithin c.args.rules.bound k) v)
    (sym c.as_slice.ensures.value)
    (all_within c.args.rules.bound c.args.rows.items c.requires.good)

pub renumbered-requires : goal.renumbered-requires
renumbered-requires c =
    let kept : (x : ℕ) → x < c.args.rules.bound → get_or c.in_ok-kept.kept.items x false
    ≡ is_kept c.args.rules.level c.args.rules.kept c.args.rows.items x =
    λ x l. c.in_ok-kept.ensures.kept x l
    ∙ ap (λ (v : List Constraint). is_kept c.args.rules.level c.args.rules.kept v x)
    c.as_slice.ensures.value in
    let same : length c.as_slice-2.result.now ≡ length c.in_ok-kept.kept.items =
    ap (λ (v : List Bool). length v) c.as_slice-2.ensures.value in
    let places : (x : ℕ) → x < length c.in_ok-kept.kept.items
    → slice_index c.in_ok-numbers.numbers.places.items x
    ≡ wire_of (λ y. get_or c.in_ok-kept.kept.items y false) x =
    λ x l. c.in_ok-numbers.ensures.places x (omega arith)
    ∙ ap (λ (v : List Bool). wire_of (λ y. get_or v y false) x) c.as_slice-2.ensures.value in
    let all : All (λ k. IsNameable c.in_ok-numbers.numbers.places.items k) c.args.rows.items =
    all_nameable c.args.rules c.args.rows.items c.in_ok-kept.kept.items
    c.in_ok-numbers.numbers.places.items c.requires.good c.in_ok-kept.ensures.len kept
    (c.in_ok-numbers.ensures.len ∙ same) places in
    subst (λ (v : List ℕ). All (λ k. IsNameable v k) c.args.rows.items)
    (sym c.as_slice-places.ensures.value) all

pub returns : goal.returns
returns c =
    let kept : (x : ℕ) → x < c.args.rules.bound → get_or c.in_ok-kept.kept.items x false
    ≡ is_kept c.args.rules.level c.args.rules.kept c.args.rows.items x =
    λ x l. c.in_ok-kept.ensures.kept x l
    ∙ ap (λ (v : List Constraint). is_kept c.args.rules.level c.args.rules.kept v x)
    c.as_slice.ensures.value in
    let same : length c.as_slice-2.result.now ≡ length c.in_ok-kept.kept.items =
    ap (λ (v : List Bool). length v) c.as_slice-2.ensures.value in
    let wires : c.of.result
    ≡ kept_below (λ x. get_or c.in_ok-kept.kept.items x false)
    (length c.in_ok-kept.kept.items) =
    c.of.ensures ∙ c.in_ok-numbers.ensures.wires
    ∙ ap (λ (v : List Bool). kept_below (λ x. get_or v x false) (length v))
    c.as_slice-2.ensures.value in
    let places : (x : ℕ) → x < length c.in_ok-kept.kept.items
    → slice_index c.in_ok-numbers.numbers.places.items x
    ≡ wire_of (λ y. get_or c.in_ok-kept.kept.items y false) x =
    λ x l. c.in_ok-numbers.ensures.places x (omega arith)
    ∙ ap (λ (v : List Bool). wire_of (λ y. get_or v y false) x) c.as_slice-2.ensures.value in
    let first = c.as_slice-places.ensures.value in
    wired c.args.rules c.args.rows.items c.args.solved c.in_ok-kept.kept.items c.of.result
    c.in_ok-numbers.numbers.places.items c.in_ok-constraints.constraints c.requires.good
    c.in_ok-kept.ensures.len kept wires places
    (c.in_ok-constraints.ensures
    ∙ (λ i. map (renamed_in (slice_index (first i)))
    (dropped c.args.rules.level c.args.rows.items)))
