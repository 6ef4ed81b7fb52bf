-- The graph of a list of reads and a list of writes
use Rattle.std.proofs.Common.{◌≡◌, ℕ, List, length, sym, ◌∙◌, arith}
use Rattle.flow_core.specs.Net.{net, IsNet}
use Rattle.flow_core.specs.Drawn.{NamesOnce, IsDrawn, IsClaimed, AreLinked, IsLate}
use Rattle.flow_core.proofs.Nets.{in_range}

pub net_is : (n cells : ℕ) (reads writes preds succs : List (List ℕ)) (marks : List ℕ)
    → n ≡ length reads → length reads ≡ length writes → NamesOnce cells reads
    → IsClaimed marks writes → length marks ≡ cells
    → AreLinked marks reads preds succs (length reads) → length succs ≡ length reads
    → IsNet (net n cells reads writes preds succs)
net_is n cells reads writes preds succs marks n-is each once claimed long linked wide = record {
  reads_each = sym n-is;
  writes_each = omega arith;
  preds_each = linked.preds_each ∙ sym n-is;
  succs_each = wide ∙ sym n-is;
  reads_near = once.near;
  reads_once = once.once;
  writes_near = λ k c here. let l = claimed.names_once.near k c here in omega arith;
  writes_once = claimed.names_once.once;
  one_writer = claimed.one_writer;
  preds_feed = λ p k. (
    (λ here. let f = linked.feeds p k here in (f.0, claimed.marks_writers.says f.0 p f.2, f.1)),
    λ f. linked.fed k f.0 p (in_range reads k f.0 f.2) f.2 (claimed.marks_writers.marked f.0 p f.1),
  );
  preds_once = λ p k. linked.once p k;
  preds_below = λ p k. linked.below p k;
  inverse = λ p k. linked.inverse p k;
  succs_rise = linked.rises;
}

pub late_no : (cells : ℕ) (reads writes : List (List ℕ)) (marks : List ℕ) → IsClaimed marks writes
    → IsLate marks reads → IsDrawn cells reads writes → ⊥
late_no cells reads writes marks claimed late drawn = let k = late.0 in let l = late.1 in
    let less = drawn.reads_earlier l.1 k l.0 (claimed.marks_writers.says l.0 l.1 l.3) l.2 in
    let le = l.4 in omega arith
