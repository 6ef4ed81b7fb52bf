use Rattle.std.proofs.Common.{◌≡◌, ◌∙◌, ℕ, ◌+◌, Bool, true, false, List, [], ◌∷◌, ◌++◌, ap, sym}
use Rattle.std.proofs.Common.{filter, slice_get}
use Rattle.std.specs.declared.vec.Vec.{Vec}
use Rattle.std.specs.declared.alloc.Global.{Global}
use Rattle.std.proofs.lemmas.List.{append-nil}
use Rattle.cir_arrays.specs.Shown.{datum_of}
use Rattle.cir_meaning.specs.Arrays.{put_items}
use Rattle.cir_meaning.specs.Places.{numbers_from}
use Rattle.cir_write.specs.Assigned.{is_new_at, is_new_in}
use Rattle.cir_write.proofs.NewCells.{new_is}
use Rattle.cir_write.proofs.NewPlaces.{filter_one}
use Rattle.cir_write.proofs.assigning.unknown_places.Goals as goal
use Rattle.cir_write.proofs.assigning.unknown_places.Goals.{else-is_new, then-is_new+in_ok-push}

pub loop-at-preserved : goal.loop-at-preserved
loop-at-preserved c =
    let first = c.args.first in
    let at = c.loop-at.at in
    let old = (datum_of c.args.old.now).items in
    let vs = (datum_of c.args.value.now).items in
    let test : ℕ → Bool = is_new_in (put_items (numbers_from first c.args.count) vs old) in
    let place : c.in_ok-place.place ≡ first + at =
    (rw c.in_ok-place.ensures.ok_part at c.checked_add.ensures).1 in
    let same : test (first + at) ≡ c.is_new.result =
    new_is first c.args.count at vs old c.loop-at-test.true
    ∙ ap (λ (k : ℕ). is_new_at (slice_get old k) (slice_get vs at)) (sym place)
    ∙ sym c.is_new.ensures in
    elim c.if-is_new.branch [
      | then-is_new+in_ok-push w ↦
          ap (λ (v : Vec ℕ Global). v.items) w.places-is
          ∙ w.in_ok-push.ensures.items
          ∙ ap (λ (l : List ℕ). l ++ c.in_ok-place.place ∷ []) c.loop-at.invariant
          ∙ ap (λ (k : ℕ). filter test (numbers_from first at) ++ k ∷ []) place
          ∙ sym (filter_one test first at true (same ∙ w.if-is_new.true))
      | else-is_new w ↦
          ap (λ (v : Vec ℕ Global). v.items) w.places-is
          ∙ c.loop-at.invariant
          ∙ sym (append-nil (filter test (numbers_from first at)))
          ∙ sym (filter_one test first at false (same ∙ w.if-is_new.false))
    ]
