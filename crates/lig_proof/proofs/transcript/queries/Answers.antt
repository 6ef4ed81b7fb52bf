use Rattle.std.proofs.Common.{◌≡◌, ◌*◌, ◌%◌, ◌+◌, ◌++◌, ◌∷◌, [], List, ℕ, ap, ◌∙◌, sym, arith}
use Rattle.std.proofs.Common.{zero-add, All, ◌<◌, subst}
use Rattle.std.proofs.lemmas.List.FromFn.{map-range_with_len_more}
use Rattle.rand_chacha.specs.ChaCha.{ChaCha, word_at}
use Rattle.lig_proof.proofs.Draws.{each_below}
use Rattle.lig_proof.specs.Transcript.{second_key, key_word}
use Rattle.lig_proof.proofs.transcript.queries.Goals as goal

pub loop-preserved : goal.loop-preserved
loop-preserved c =
    let key = second_key c.args.first.now c.args.polys.now in
    let columns = 8 * c.args.params.now.l in
    let i = c.loop.counter in
    let state = c.loop.invariant.0 in
    let drawn : c.next_column.result ≡ key_word key i % columns = c.next_column.ensures.value
    ∙ ap (λ (w : ChaCha). word_at 10 w.key w.stream w.word_pos % columns) state in (
      c.next_column.ensures.after
          ∙ ap (λ (w : ChaCha). record w { word_pos = w.word_pos + 1 }) state,
      c.in_ok-push.ensures.items ∙ ap (λ x. c.loop.opened.items ++ x ∷ []) drawn
          ∙ ap (λ x. x ++ key_word key i % columns ∷ []) c.loop.invariant.1
          ∙ sym (map-range_with_len_more (λ q. key_word key q % columns) 0 i i (zero-add i)),
    )

pub returns-clause-below : goal.returns-clause-below
returns-clause-below c =
    let key = second_key c.args.first.now c.args.polys.now in
    let columns = 8 * c.args.params.now.l in
    let Below : List ℕ → Type 0 = λ xs. All (λ x. x < columns) xs in
    subst Below (sym c.loop.invariant.1)
    (each_below (λ q. key_word key q) c.loop.counter columns (omega arith))
