-- Linking a strand to the writers of what it reads, cell by cell and strand by strand
use Rattle.std.proofs.Common.{◌≡◌, ◌≢◌, ℕ, ◌+◌, ◌-◌, ◌<◌, ◌≤◌, List, [], ◌∷◌, ◌++◌, length, take}
use Rattle.std.proofs.Common.{get_or, set, replicate, refl, sym, ◌∙◌, ap, subst, inl, inr, arith}
use Rattle.std.proofs.Common.{length-append, length-set}
use Rattle.std.specs.List.Sorted.{IsStrictlyIncreasing}
use Rattle.std.proofs.lemmas.Bool.{cases_eq, cases_lt}
use Rattle.std.proofs.lemmas.List.{take_all}
use Rattle.flow_core.specs.Counts.{times, IsIn}
use Rattle.flow_core.specs.Drawn.{row, Links, AreLinked}
use Rattle.flow_core.proofs.Totals.{same_yes, same_no, same_le, times_more, is_in_at}
use Rattle.flow_core.proofs.Lists.{set_all, get_or-all_same}
use Rattle.flow_core.proofs.Rising.{times_push, row_push_here, row_push_else, last_is, rises_push}

in_more : (xs : List ℕ) (i c : ℕ) → i < length xs → IsIn c (take i xs) → IsIn c (take (i + 1) xs)
in_more xs i c near h = let m = times_more c i xs near in omega arith

here_now : (xs : List ℕ) (i : ℕ) → i < length xs → IsIn (get_or xs i 0) (take (i + 1) xs)
here_now xs i near = let x : ℕ = get_or xs i 0 in let m = times_more x i xs near in
    let y = same_yes x x refl in omega arith

module _ (marks : List ℕ) (k : ℕ) (cells : List ℕ) (old succs : List (List ℕ)) (preds : List ℕ)
    (i : ℕ) (near : i < length cells) (h : Links marks k (take i cells) old succs preds) where
  more_feeds : (q : ℕ) → IsIn q preds → (c : ℕ) × IsIn c (take (i + 1) cells)
      × (get_or marks c 0 ≡ q + 1)
  more_feeds q here = let f = h.feeds q here in (f.0, in_more cells i f.0 near f.1, f.2)

  more_fed : ((q : ℕ) → get_or marks (get_or cells i 0) 0 ≡ q + 1 → IsIn q preds) → (c q : ℕ)
      → IsIn c (take (i + 1) cells) → get_or marks c 0 ≡ q + 1 → IsIn q preds
  more_fed now c q here is = let m = times_more c i cells near in
      elim (cases_eq c (get_or cells i 0)) [
        | inl e ↦ now q (ap (λ (d : ℕ). get_or marks d 0) (sym e) ∙ is)
        | inr ne ↦ (let z = same_no c (get_or cells i 0) ne in h.fed c q (omega arith) is)
      ]

  keeps_links : ((q : ℕ) → get_or marks (get_or cells i 0) 0 ≡ q + 1 → IsIn q preds)
      → Links marks k (take (i + 1) cells) old succs preds
  keeps_links now = record {
    inverse = h.inverse;
    others = h.others;
    wide = h.wide;
    rises =
        h.rises;
    bounded = h.bounded;
    once = h.once;
    below = h.below;
    feeds = more_feeds;
    fed =
        more_fed now;
  }

  -- a start cell
  pub links_skip : get_or marks (get_or cells i 0) 0 ≡ 0
      → Links marks k (take (i + 1) cells) old succs preds
  links_skip none-there = keeps_links (λ q e. absurd (omega arith))

  -- a cell of a strand that is a predecessor already
  pub links_kept : (p : ℕ) → get_or marks (get_or cells i 0) 0 ≡ p + 1 → 0 < length (row succs p)
      → get_or (row succs p) (length (row succs p) - 1) 0 ≡ k
      → Links marks k (take (i + 1) cells) old succs preds
  links_kept p writer some last = keeps_links (λ q e. let q-is : q ≡ p = omega arith in
      let inv = h.inverse p in
      let there = is_in_at (row succs p) (length (row succs p) - 1) (omega arith) in
      let Q : ℕ → Type 0 = λ j. IsIn j (row succs p) in
      let k-there : IsIn k (row succs p) = subst Q last there in
      let P : ℕ → Type 0 = λ j. IsIn j preds in
      subst P (sym q-is) (let z : 0 < times p preds = omega arith in z))

  -- a cell of a new predecessor
  pub links_new : (p : ℕ) → get_or marks (get_or cells i 0) 0 ≡ p + 1 → p < k → k < length old
      → ((0 < length (row succs p)) × (get_or (row succs p) (length (row succs p) - 1) 0 ≡ k) → ⊥)
      → Links marks k (take (i + 1) cells) old (set succs p (row succs p ++ k ∷ []))
      (preds ++ p ∷ [])
  links_new p writer less room new = let wide = h.wide in
      let absent : times k (row succs p) ≡ 0 = elim (cases_lt 0 (times k (row succs p))) [
        | inl here ↦ absurd (new (last_is (row succs p) k (h.rises p) (h.bounded p) here))
        | inr
            ge ↦ omega arith
      ] in
      let inv = h.inverse p in let absent-pred : times p preds ≡ 0 = omega arith in
      let all = set_all succs p (row succs p ++ k ∷ []) [] in
      let p-near : p < length succs = omega arith in
      let one = times_push k k (row succs p) in let y = same_yes k k refl in record {
        inverse = λ q. let a = times_push q p preds in
            all (λ q r. times k r ≡ times q (preds ++ p ∷ [])) p-near
            (let b = times_push p p preds in let z = same_yes p p refl in omega arith)
            (λ q ne. let a = times_push q p preds in let z = same_no q p ne in
            let e = h.inverse q in omega arith) q;
        others = λ q j ne. all (λ q r. times j r ≡ times j (row old q)) p-near
            (let a = times_push j k (row succs p) in let z = same_no j k ne in
            let e = h.others p j ne in omega arith) (λ q _. h.others q j ne) q;
        wide = length-set succs p (row succs p ++ k ∷ []) ∙ h.wide;
        rises = all (λ q r. IsStrictlyIncreasing r) p-near
            (rises_push (row succs p) k (h.rises p) (λ j here. let le = h.bounded p j here in
            elim (cases_eq j k) [
              | inl e ↦ (let Q : ℕ → Type 0 = λ j. IsIn j (row succs p) in
                  let there : IsIn k (row succs p) = subst Q e here in absurd (omega arith))
              | inr ne ↦ omega arith
            ])) (λ q _. h.rises q);
        bounded = λ q j. all (λ q r. IsIn j r → j ≤ k) p-near
            (λ here. let a = times_push j k (row succs p) in
            elim (cases_eq j k) [
              | inl e ↦ omega arith
              | inr ne ↦ (let z = same_no j k ne in
                  h.bounded p j (omega arith))
            ])
            (λ q _. h.bounded q j) q;
        once = λ q. let a = times_push q p preds in let o = h.once q in elim (cases_eq q p) [
          | inl e ↦ (let z = same_le q p in
              let w : times q preds ≡ 0 = ap (λ (j : ℕ). times j preds) e ∙ absent-pred in
              omega arith)
          | inr ne ↦ (let z = same_no q p ne in omega arith)
        ];
        below = λ q here. let a = times_push q p preds in
            elim (cases_eq q p) [
              | inl e ↦ omega arith
              | inr ne ↦ (let z = same_no q p ne in
                  h.below q (omega arith))
            ];
        feeds = λ q here. let a = times_push q p preds in elim (cases_eq q p) [
          | inl e ↦ (get_or cells i 0, here_now cells i near, (let w = writer in omega arith))
          | inr ne ↦ (let z = same_no q p ne in more_feeds q (omega arith))
        ];
        fed = λ c q here is. let a = times_push q p preds in let m = times_more c i cells near in
            elim (cases_eq c (get_or cells i 0)) [
              | inl e ↦ (let w : get_or marks c 0 ≡ p + 1 = ap (λ (d : ℕ). get_or marks d 0) e
                  ∙ writer in let z = same_yes q p (omega arith) in omega arith)
              | inr ne ↦ (let z = same_no c (get_or cells i 0) ne in
                  let r = h.fed c q (omega arith) is in omega arith)
            ];
      }

pub links_all : (marks : List ℕ) (k : ℕ) (cells : List ℕ) (old succs : List (List ℕ))
    (preds : List ℕ) (n : ℕ) → length cells ≤ n → Links marks k (take n cells) old succs preds
    → Links marks k cells old succs preds
links_all marks k cells old succs preds n le h = let P : List ℕ
    → Type 0 = λ cs. Links marks k cs old succs preds in subst P (take_all n cells le) h

-- one more strand is linked
pub linked_more : (marks : List ℕ) (reads preds succs next : List (List ℕ)) (n : ℕ) (prow : List ℕ)
    → AreLinked marks reads preds succs n → Links marks n (row reads n) succs next prow
    → AreLinked marks reads (preds ++ prow ∷ []) next (n + 1)
linked_more marks reads preds succs next n prow h l = let each = h.preds_each in
    let here = row_push_here preds prow n each in
    let else-row = λ (j : ℕ) (ne : j ≢ n). row_push_else preds prow n j each ne in
    let at-row : (Q : ℕ → List ℕ → Type 0) → Q n prow → ((j : ℕ) → j ≢ n → Q j (row preds j))
    → (j : ℕ) → Q j (row (preds ++ prow ∷ []) j) = λ Q q others j. elim (cases_eq j n) [
      | inl e ↦ subst (λ (m : ℕ). Q m (row (preds ++ prow ∷ []) m)) (sym e)
          (subst (Q n) (sym here) q)
      | inr ne ↦ subst (Q j) (sym (else-row j ne)) (others j ne)
    ] in record {
      preds_each = length-append preds (prow ∷ []) ∙ ap (λ (m : ℕ). m + 1) each;
      inverse = λ q. at-row (λ j r. times j (row next q) ≡ times q r) (l.inverse q)
          (λ j ne. l.others q j ne ∙ h.inverse q j);
      rises = l.rises;
      bounded = λ q j here-j. let le = l.bounded q j here-j in omega arith;
      once = λ q. at-row (λ j r. times q r ≤ 1) (l.once q) (λ j ne. h.once q j);
      below = λ q. at-row (λ j r. IsIn q r → q < j) (l.below q) (λ j ne. h.below q j);
      feeds = λ q. at-row (λ j r. IsIn q r → (c : ℕ) × IsIn c (row reads j)
          × (get_or marks c 0 ≡ q + 1)) (l.feeds q) (λ j ne. h.feeds q j);
      fed = λ j c q less here-c is. at-row (λ j r. j < n + 1 → IsIn c (row reads j) → IsIn q r)
          (λ _ there. l.fed c q there is) (λ j ne less there. h.fed j c q (omega arith) there is) j
          less here-c;
    }

pub linked_none : (marks : List ℕ) (reads : List (List ℕ)) (n : ℕ)
    → AreLinked marks reads [] (replicate n []) 0
linked_none marks reads n = let empty = λ (q : ℕ). get_or-all_same {A = List ℕ} n q [] in record {
  preds_each = refl;
  inverse = λ q j. ap (times j) (empty q);
  rises = λ q i less. let e : length (row (replicate n []) q) ≡ 0 = ap length (empty q) in
      absurd (omega arith);
  bounded = λ q j here. let e : times j (row (replicate n []) q) ≡ 0 = ap (times j) (empty q) in
      absurd (omega arith);
  once = λ q j. omega arith;
  below = λ q j here. absurd (omega arith);
  feeds = λ q j here. absurd (omega arith);
  fed = λ j c q less here is. absurd (omega arith);
}
