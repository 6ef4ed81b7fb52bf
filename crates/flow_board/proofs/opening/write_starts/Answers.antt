use Rattle.std.proofs.Common.{◌≡◌, ℕ, ◌+◌, ◌<◌, ◌⊎◌, length, Some, get_or, set, sym, ◌∙◌, ap, subst}
use Rattle.std.proofs.Common.{arith, get_or-set_other}
use Rattle.std.specs.Prelude.{slice_get}
use Rattle.flow_core.specs.Flow.{start_of}
use Rattle.flow_board.specs.Shows.{cell_word}
use Rattle.flow_board.proofs.Openings.{start_near, listed, each_next, written_next, all_written}
use Rattle.flow_board.proofs.Openings.{numbers_next, all_numbers}
use Rattle.flow_board.proofs.opening.write_starts.Goals as goal

pub bounds-words-cell : goal.bounds-words-cell
bounds-words-cell g c = let f = g.A.Answers.flow c.args.answers.now in
    let at = listed f c.args.start.now c.requires.starts c.loop-pair.pair-index c.pair-item.result
    c.loop-pair-test.true c.pair-item.is in
    let near = start_near f c.requires.flow c.pair-item.result.0 c.pair-item.result.1 at in
    let same-cells = ap (λ n. n.cells) c.requires.net in let wide = c.requires.wide in
    let all = c.loop-pair.auto.words in omega arith

pub loop-pair-preserved : goal.loop-pair-preserved
loop-pair-preserved g c = let f = g.A.Answers.flow c.args.answers.now in
    let p = c.pair-item.result in
    let at = listed f c.args.start.now c.requires.starts c.loop-pair.pair-index p
    c.loop-pair-test.true c.pair-item.is in
    let near-cell = start_near f c.requires.flow p.0 p.1 at in
    let same-cells = ap (λ n. n.cells) c.requires.net in let wide = c.requires.wide in
    let all = c.loop-pair.auto.words in
    let near : 1 + p.0 < length c.loop-pair.words = omega arith in
    let v : p.1 ≡ c.get.result = sym c.get.ensures.value in
    let W : ℕ → Type 0 = λ y. (i d x : ℕ) → i < c.loop-pair.pair-index + 1
    → slice_get c.args.start.now i ≡ Some (d, x)
    → get_or (set c.loop-pair.words (1 + p.0) (y + 1)) (1 + d) 0 ≡ x + 1 in
    let E : ℕ → Type 0 = λ y. (d : ℕ) → d < c.args.graph.now.cells
    → (get_or (set c.loop-pair.words (1 + p.0) (y + 1)) (1 + d) 0 ≡ 0)
    ⊎ (get_or (set c.loop-pair.words (1 + p.0) (y + 1)) (1 + d) 0 ≡ cell_word (start_of f d)) in
    record {
      each = subst E v (λ d lt. each_next f c.loop-pair.words p.0 p.1 d at near
          (c.loop-pair.invariant.each d lt));
      written = subst W v (written_next f c.args.start.now c.requires.starts c.loop-pair.words
          c.loop-pair.pair-index p c.loop-pair-test.true c.pair-item.is near
          c.loop-pair.invariant.written);
      numbers = numbers_next c.args.start.now c.loop-pair.pair-index p c.loop-pair-test.true
          c.pair-item.is (let below = c.get.ensures.below in
          omega arith) c.loop-pair.invariant.numbers;
      least = get_or-set_other c.loop-pair.words (1 + p.0) 0 (c.get.result + 1) 0
          (λ e. omega arith) ∙ c.loop-pair.invariant.least;
      counters = λ i le. get_or-set_other c.loop-pair.words (1 + p.0) i (c.get.result + 1) 0
          (λ e. omega arith) ∙ c.loop-pair.invariant.counters i le;
    }

pub returns-clause-cells : goal.returns-clause-cells
returns-clause-cells g c = λ d lt. all_written
    (g.A.Answers.flow c.args.answers.now) c.args.start.now c.requires.starts c.loop-pair.words
    c.loop-pair.pair-index d c.loop-pair-test.false
    (c.loop-pair.invariant.each d lt) c.loop-pair.invariant.written

pub returns-clause-numbers : goal.returns-clause-numbers
returns-clause-numbers g c = all_numbers (g.A.Answers.flow c.args.answers.now) c.args.start.now
    c.requires.starts c.loop-pair.pair-index c.loop-pair-test.false c.loop-pair.invariant.numbers
