use Rattle.std.proofs.Common.{◌≡◌, ◌∙◌, Bool, true, false, List, [], ◌∷◌, ◌++◌, map, ap, subst, sym}
use Rattle.std.specs.Prelude.{if◌then◌else◌, is_ok}
use Rattle.std.proofs.lemmas.List.{length-map, map-append}
use Rattle.wit_sourced.specs.declared.ends.Ends.{Ends}
use Rattle.wit_sourced.specs.declared.homes.Placed.{Placed}
use Rattle.wit_sourced.specs.declared.names.Key.{Key}
use Rattle.wit_sourced.specs.Ends.{AreEnds}
use Rattle.wit_sourced.specs.Order.{AreEndsOf, key_cmp, placed_key}
use Rattle.wit_sourced.proofs.Ending.{fewer}
use Rattle.wit_sourced.proofs.homes.Scope.add.Goals as goal

-- whether or not there is room for the home
added : (ends : Ends Key) (homes : List Placed) (p : Placed) (b : Bool) (more : List Placed)
    → more ≡ (if b then homes ++ p ∷ [] else homes)
    → AreEnds key_cmp ends (map placed_key homes ++ placed_key p ∷ []) → AreEndsOf ends more
added ends homes p true more is are =
    subst (AreEnds key_cmp ends) (sym (ap (map placed_key) is ∙ map-append placed_key homes _)) are
added ends homes p false more is are =
    subst (AreEnds key_cmp ends) (sym (ap (map placed_key) is))
    (fewer key_cmp ends (map placed_key homes) (placed_key p ∷ []) are)

pub invariant_of-self-2 : goal.invariant_of-self-2
invariant_of-self-2 c =
    let old = c.args.self.now in
    let p : Placed = record { name = c.args.name; home = c.args.home } in
    record {
      ended = added c.note.new.self old.homes.items p (is_ok c.push.result) _ c.push.ensures.items
          (subst (λ k. AreEnds key_cmp c.note.new.self (map placed_key old.homes.items ++ k ∷ []))
          c.key.ensures
          (c.in_ok-note.ensures.more (map placed_key old.homes.items) old.ended
          (c.len.ensures ∙ old.homes.ok.0 ∙ sym (length-map old.homes.items placed_key))));
    }
