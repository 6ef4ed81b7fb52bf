use Rattle.std.proofs.Common.{◌∙◌, [], ◌∷◌, ap, refl, sym}
use Rattle.std.specs.Prelude.{map}
use Rattle.cir_ast.specs.Tree.{Slots, bare, bare_slot, bare_source, bare_target}
use Rattle.cir_meaning.specs.Simple as S
use Rattle.cir_frame.specs.Shown.{state_of}
use Rattle.cir_evaluate.specs.Within.{context_at, where_at}
use Rattle.cir_assign.proofs.Stepping.{leads_as, lists_kept}
use Rattle.cir_execute.proofs.Tuples.{one_for_first, one_for_none}
use Rattle.cir_execute.proofs.simple.tuple.Goals as goal

pub returns-in-empty : goal.returns-in-empty
returns-in-empty g c =
    let h = c.args.here.now in
    let e = bare c.in-One-source.e in
    λ m qs shaded.
    let k = context_at h m in
    let w = where_at h in
    let s = state_of c.args.frame.now c.args.world.now qs in (
      qs,
      ap (λ x. S.tuple k w c.args.arrow (bare_target x)
          (S.values_of (bare_source c.args.source.now)) s) c.in-Tuple.is
          ∙ ap (λ x. S.tuple k w c.args.arrow (Slots (map bare_slot c.in-Tuple.slots))
          (S.values_of (bare_source x)) s) c.in-One-source.is
          ∙ ap (λ xs. S.slots k w c.args.arrow (map bare_slot xs) (e ∷ []) s)
          (sym c.as_slice-in-One-source.ensures)
          ∙ one_for_none k w c.args.arrow c.as_slice-in-One-source.result.now e s
          c.in-empty.len_below,
      lists_kept qs c.args.world.now c.args.world.now refl,
    )

pub returns-in-len1-up : goal.returns-in-len1-up
returns-in-len1-up g c =
    let h = c.args.here.now in
    let e = bare c.in-One-source.e in
    λ m qs shaded.
    let k = context_at h m in
    let w = where_at h in
    let s = state_of c.args.frame.now c.args.world.now qs in
    leads_as qs c.args.world.now c.slot.new.frame c.slot.new.world c.slot.result _ _
    (ap (λ x. S.tuple k w c.args.arrow (bare_target x)
    (S.values_of (bare_source c.args.source.now)) s) c.in-Tuple.is
    ∙ ap (λ x. S.tuple k w c.args.arrow (Slots (map bare_slot c.in-Tuple.slots))
    (S.values_of (bare_source x)) s) c.in-One-source.is
    ∙ ap (λ xs. S.slots k w c.args.arrow (map bare_slot xs) (e ∷ []) s)
    (sym c.as_slice-in-One-source.ensures)
    ∙ one_for_first k w c.args.arrow c.as_slice-in-One-source.result.now c.first-item.result
    e s c.in-len1-up.len_at_least c.first-item.is)
    (c.slot.ensures m qs shaded)
