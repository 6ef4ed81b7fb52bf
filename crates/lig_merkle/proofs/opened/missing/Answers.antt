use Rattle.std.proofs.Common.{◌≡◌, ℕ, ◌++◌, ◌∷◌, [], true, false, ap, ◌∙◌, sym, get_or, take}
use Rattle.lig_merkle.specs.Nodes.{sibling_of}
use Rattle.lig_merkle.specs.Shared.{is_known}
use Rattle.lig_merkle.proofs.Known.{rises, search_tells, missing_in}
use Rattle.lig_merkle.proofs.Walk.{missing_more, missing_same, known_of_err, unknown_of_err}
use Rattle.lig_merkle.proofs.opened.missing.Goals as goal
use Rattle.lig_merkle.proofs.opened.missing.Goals.{then-is_err+in_ok-push, else-is_err}

pub loop-place-preserved : goal.loop-place-preserved
loop-place-preserved c =
    let known = c.args.known.now in
    let i = c.loop-place.place-index in
    let place = get_or known i 0 in
    let found =
    search_tells known c.sibling_of-sibling.result c.binary_search.result
    c.binary_search.ensures.position (rises known c.requires.rising) in
    elim c.if-is_err.branch [
      | then-is_err+in_ok-push w ↦
          let lacks : is_known known (sibling_of place) ≡ false =
          ap (λ p. is_known known p) (sym c.sibling_of-sibling.ensures)
          ∙ unknown_of_err known c.sibling_of-sibling.result c.binary_search.result found
          (sym c.is_err.ensures.value ∙ w.if-is_err.true) in
          ap (λ v. v.items) w.beside-is ∙ w.in_ok-push.ensures.items
          ∙ ap (λ xs. xs ++ c.sibling_of-sibling.result ∷ []) c.loop-place.invariant
          ∙ ap (λ p. missing_in known (take i known) ++ p ∷ []) c.sibling_of-sibling.ensures
          ∙ sym (missing_more known i c.loop-place-test.true lacks)
      | else-is_err w ↦
          let has : is_known known (sibling_of place) ≡ true =
          ap (λ p. is_known known p) (sym c.sibling_of-sibling.ensures)
          ∙ known_of_err known c.sibling_of-sibling.result c.binary_search.result found
          (sym c.is_err.ensures.value ∙ w.if-is_err.false) in
          ap (λ v. v.items) w.beside-is ∙ c.loop-place.invariant
          ∙ sym (missing_same known i c.loop-place-test.true has)
    ]
