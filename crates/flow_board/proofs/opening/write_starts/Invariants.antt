use Rattle.std.proofs.Common.{◌≡◌, ℕ, ◌+◌, ◌<◌, ◌≤◌, ◌⊎◌, get_or, Some}
use Rattle.std.specs.Prelude.{slice_get}
use Rattle.gold_field.specs.declared.gold.TheConstants.{P}
use Rattle.flow_core.specs.Flow.{start_of}
use Rattle.flow_board.specs.Shows.{cell_word}
use Rattle.flow_board.proofs.opening.write_starts.Given as goal

abbrev pub invariant-loop-pair : goal.invariant-loop-pair
invariant-loop-pair g l = record {
  each : (c : ℕ) → c < l.graph.cells → (get_or l.words (1 + c) 0 ≡ 0)
      ⊎ (get_or l.words (1 + c) 0 ≡ cell_word (start_of (g.A.Answers.flow l.answers) c));
  written : (i c x : ℕ) → i < l.pair-index → slice_get l.start i ≡ Some (c, x)
      → get_or l.words (1 + c) 0 ≡ x + 1;
  numbers : (i d x : ℕ) → i < l.pair-index → slice_get l.start i ≡ Some (d, x) → x < P;
  least : get_or l.words 0 0 ≡ get_or l.fn.words 0 0;
  counters : (i : ℕ) → 1 + l.graph.cells ≤ i → get_or l.words i 0 ≡ get_or l.fn.words i 0;
}
