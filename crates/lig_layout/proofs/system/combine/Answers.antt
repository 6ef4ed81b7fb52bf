use Rattle.std.proofs.Common.{◌≡◌, ◌*◌, List, ℕ, drop, length, replicate, arith, ◌∙◌, subst}
use Rattle.std.proofs.lemmas.List.{take_at, length-replicate}
use Rattle.lig_layout.specs.System.{combined_at, left_sides}
use Rattle.lig_layout.specs.Adding.{Adds}
use Rattle.lig_layout.proofs.Sums.{adds_to_zeros}
use Rattle.lig_layout.proofs.system.combine.Goals as goal

pub returns : goal.returns
returns c =
    let size = c.args.params.now.rows * c.args.params.now.l in
    let new = c.add_system.new.row in
    let sum : ℕ → ℕ =
    λ place. combined_at place c.args.r.now (left_sides c.args.params.now c.args.file.now) in
    let zeros : c.deref_mut.result.now ≡ replicate size 0 =
    c.deref_mut.ensures.value ∙ c.in_ok-row.ensures.items_if_clones_equal (λ y same. same) in
    let From : List ℕ → Type 0 = λ old. Adds sum old new in
    let added = subst From zeros c.add_system.ensures in
    let whole = take_at new (drop (length new) c.in_ok-row.row.items) c.in_ok-row.row.len
    (omega (arith, added.count, length-replicate {A = ℕ} size 0, c.in_ok-row.ensures.len)) in
    whole ∙ adds_to_zeros sum size new added
