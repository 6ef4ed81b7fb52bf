use Rattle.std.proofs.Common.{ℕ, zero, suc, ◌+◌, ◌<◌, List, [], ◌∷◌, slice_index, arith, lit<}
use Rattle.std.proofs.lemmas.List.Elements.{All-nil, All-cons}
use Rattle.field_tests.proofs.trees.nodes_that_leaves_share.Goals as goal

-- three numbers, and two, each below the next
three : (a b c : ℕ) → a < b → b < c → (k : ℕ) → k + 1 < 3
    → slice_index (a ∷ b ∷ c ∷ []) k < slice_index (a ∷ b ∷ c ∷ []) (k + 1)
three a b c low high zero inside = low
three a b c low high (suc zero) inside = high
three a b c low high (suc (suc k)) inside = absurd (omega arith)

two : (a b : ℕ) → a < b → (k : ℕ) → k + 1 < 2
    → slice_index (a ∷ b ∷ []) k < slice_index (a ∷ b ∷ []) (k + 1)
two a b low zero inside = low
two a b low (suc k) inside = absurd (omega arith)

abbrev Low : ℕ → Type 0
Low place = place < 8

pub share-requires : goal.share-requires
share-requires g c =
    record {
      some = lit< tt;
      rising = three 1 2 6 (lit< tt) (lit< tt);
      within = All-cons Low 1 (2 ∷ 6 ∷ []) (lit< tt)
          (All-cons Low 2 (6 ∷ []) (lit< tt) (All-cons Low 6 [] (lit< tt) (All-nil Low)));
    }

pub share-requires-2 : goal.share-requires-2
share-requires-2 g c =
    record {
      some = lit< tt;
      rising = two 0 7 (lit< tt);
      within = All-cons Low 0 (7 ∷ []) (lit< tt) (All-cons Low 7 [] (lit< tt) (All-nil Low));
    }

pub share-requires-3 : goal.share-requires-3
share-requires-3 g c =
    record {
      some = lit< tt;
      rising = three 2 3 5 (lit< tt) (lit< tt);
      within = All-cons Low 2 (3 ∷ 5 ∷ []) (lit< tt)
          (All-cons Low 3 (5 ∷ []) (lit< tt) (All-cons Low 5 [] (lit< tt) (All-nil Low)));
    }
