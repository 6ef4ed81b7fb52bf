-- Parts 3 and 4 of the invariant as one equation of every strand, and each event's effect on it
use Rattle.std.proofs.Common.{◌≡◌, ◌≢◌, ℕ, ◌+◌, ◌-◌, ◌<◌, ◌≤◌, ◌⊎◌, min, List, length, take, get_or}
use Rattle.std.proofs.Common.{refl, sym, ◌∙◌, ap, subst, inl, inr, arith, length-set}
use Rattle.std.proofs.Common.{get_or-set_other, get_or-set_same, Option, Some, None, is_some}
use Rattle.std.proofs.Common.{nat_lt, MatchOption}
use Rattle.std.specs.Option.{option_map_or}
use Rattle.std.proofs.lemmas.Bool.{cases_eq, cases_lt, lt-ltb, le-ltb}
use Rattle.std.proofs.lemmas.List.{get_or_past}
use Rattle.flow_core.specs.declared.state.Phase.{Phase}
use Rattle.flow_core.specs.declared.state.Phase.TheVariants.{Waiting, Held, Done, Refused}
use Rattle.flow_core.specs.declared.state.State.{State}
use Rattle.flow_core.specs.Counts.{same, times, IsIn}
use Rattle.flow_core.specs.Net.{Net, IsNet, writes_of, preds_of, succs_of}
use Rattle.flow_core.specs.Core.{cell_of, missing_of, phase_of, published_at, released_at, releases}
use Rattle.flow_core.specs.Core.{received, FitsNet, HoldsOne, IsLeastRefused, IsSound}
use Rattle.flow_core.specs.Events.{hold, turned, published, released, refused}
use Rattle.flow_core.proofs.Totals.{same_yes, same_no, total_same, total_raised, total_less}
use Rattle.flow_core.proofs.Totals.{times_take-le, times_more, is_in_at, place_once, times_before}
use Rattle.flow_core.proofs.Lists.{set_all}

-- what a strand still waits for: its missing count while it waits, and nothing afterwards
abbrev pub awaited : Phase → ℕ → ℕ
awaited Waiting m = m
awaited (Held w a b) m = 0
awaited Done m = 0
awaited Refused m = 0

-- the counts of a held strand are within its lists, and it publishes all before it releases any
abbrev pub IsWithin : Net → ℕ → Phase → Type 0
IsWithin n k Waiting = Unit {0}
IsWithin n k (Held w a b) = (a ≤ length (writes_of n k)) × (b ≤ length (succs_of n k))
    × (0 < b → a ≡ length (writes_of n k))
IsWithin n k Done = Unit {0}
IsWithin n k Refused = Unit {0}

pub record Steady (n : Net) (s : State) : Type 0 where
  pub fits : FitsNet n s
  pub holds_one : HoldsOne s
  pub counts : (k : ℕ) → awaited (phase_of s k) (missing_of s k) + received n s k
      ≡ length (preds_of n k)
  pub within : (k : ℕ) → IsWithin n k (phase_of s k)
  pub filled : (k i : ℕ) → i < length (writes_of n k)
      → is_some (cell_of s (get_or (writes_of n k) i 0))
      ≡ nat_lt i (published_at n k (phase_of s k))
  pub least_refused : IsLeastRefused s

counts_from : (p : Phase) (m r l : ℕ) → (p ≡ Waiting → m + r ≡ l) → (p ≢ Waiting → r ≡ l)
    → awaited p m + r ≡ l
counts_from Waiting m r l a b = a refl
counts_from (Held w x y) m r l a b = let h = b (λ e. cc) in omega arith
counts_from Done m r l a b = let h = b (λ e. cc) in omega arith
counts_from Refused m r l a b = let h = b (λ e. cc) in omega arith

waits_from : (p : Phase) (m r l : ℕ) → awaited p m + r ≡ l → p ≡ Waiting → m + r ≡ l
waits_from Waiting m r l h e = h
waits_from (Held w x y) m r l h e = cc
waits_from Done m r l h e = cc
waits_from Refused m r l h e = cc

begun_from : (p : Phase) (m r l : ℕ) → awaited p m + r ≡ l → p ≢ Waiting → r ≡ l
begun_from Waiting m r l h e = absurd (e refl)
begun_from (Held w x y) m r l h e = omega arith
begun_from Done m r l h e = omega arith
begun_from Refused m r l h e = omega arith

within_from : (n : Net) (k : ℕ) (p : Phase)
    → ((w a b : ℕ) → p ≡ Held w a b → IsWithin n k (Held w a b)) → IsWithin n k p
within_from n k Waiting h = tt
within_from n k (Held w a b) h = h w a b refl
within_from n k Done h = tt
within_from n k Refused h = tt

pub within_at : (n : Net) (k : ℕ) (p : Phase) (w a b : ℕ) → IsWithin n k p → p ≡ Held w a b
    → IsWithin n k (Held w a b)
within_at n k p w a b h e = let P : Phase → Type 0 = IsWithin n k in subst P e h

pub steady : (n : Net) (s : State) → IsSound n s → Steady n s
steady n s h = record {
  fits = h.fits;
  holds_one = h.holds_one;
  counts = λ k. counts_from (phase_of s k) (missing_of s k) (received n s k)
      (length (preds_of n k)) (h.counts_missing k) (h.begun_released k);
  within = λ k. within_from n k (phase_of s k) (λ w a b e. let few = h.fills_first.few k w a b e in
      (few.0, few.1, h.fills_first.published_first k w a b e));
  filled = h.fills_first.filled;
  least_refused = h.least_refused;
}

pub sound : (n : Net) (s : State) → Steady n s → IsSound n s
sound n s h = record {
  fits = h.fits;
  holds_one = h.holds_one;
  counts_missing = λ k. waits_from (phase_of s k) (missing_of s k) (received n s k)
      (length (preds_of n k)) (h.counts k);
  begun_released = λ k. begun_from (phase_of s k) (missing_of s k) (received n s k)
      (length (preds_of n k)) (h.counts k);
  fills_first = record {
    filled = h.filled;
    few = λ k w a b e. let x = within_at n k (phase_of s k) w a b (h.within k) e in (x.0, x.1);
    published_first = λ k w a b e. (within_at n k (phase_of s k) w a b (h.within k) e).2;
  };
  least_refused = h.least_refused;
}

-- `least`, where the same strands are refused as before
least_same : (o : Option ℕ) (f g : ℕ → Phase) → ((k : ℕ) → f k ≡ Refused → g k ≡ Refused)
    → ((k : ℕ) → g k ≡ Refused → f k ≡ Refused)
    → MatchOption o ((k : ℕ) → f k ≢ Refused) (λ l. (f l ≡ Refused)
    × ((k : ℕ) → f k ≡ Refused → l ≤ k))
    → MatchOption o ((k : ℕ) → g k ≢ Refused) (λ l. (g l ≡ Refused)
    × ((k : ℕ) → g k ≡ Refused → l ≤ k))
least_same None f g there back h = λ k e. h k (back k e)
least_same (Some l) f g there back h = (there l h.0, λ k e. h.1 k (back k e))

cases_min : (l r : ℕ) → (min l r ≡ l) ⊎ (min l r ≡ r)
cases_min l r = elim (cases_eq (min l r) l) [ inl e ↦ inl e | inr ne ↦ inr (omega arith) ]

min_either : (l r : ℕ) (P : ℕ → Type 0) → P l → P r → P (min l r)
min_either l r P a b = elim (cases_min l r) [
  | inl e ↦ subst P (sym e) a
  | inr e ↦
      subst P (sym e) b
]

-- and where the strand r is refused too
least_more : (o : Option ℕ) (f g : ℕ → Phase) (r : ℕ) → g r ≡ Refused
    → ((k : ℕ) → f k ≡ Refused → g k ≡ Refused) → ((k : ℕ) → k ≢ r → g k ≡ Refused → f k ≡ Refused)
    → MatchOption o ((k : ℕ) → f k ≢ Refused) (λ l. (f l ≡ Refused)
    × ((k : ℕ) → f k ≡ Refused → l ≤ k))
    → (g (option_map_or (λ l. min l r) o r) ≡ Refused)
    × ((k : ℕ) → g k ≡ Refused → option_map_or (λ l. min l r) o r ≤ k)
least_more None f g r here there back h = (
  here,
  λ k e. elim (cases_eq k r) [
    | inl same-k ↦ omega arith
    | inr ne ↦
        absurd (h k (back k ne e))
  ],
)
least_more (Some l) f g r here there back h = (
  min_either l r (λ x. g x ≡ Refused) (there l h.0) here,
  λ k e. elim (cases_eq k r) [
    | inl same-k ↦ omega arith
    | inr ne ↦ let le = h.1 k (back k ne e) in
        omega arith
  ],
)

received_same : (n : Net) (s t : State)
    → ((p : ℕ) → released_at n p (phase_of t p) ≡ released_at n p (phase_of s p)) → (k : ℕ)
    → received n t k ≡ received n s k
received_same n s t e k = total_same (releases n t k) (releases n s k) (preds_of n k)
    (λ p. ap (λ (m : ℕ). times k (take m (succs_of n p))) (e p))

pub release_le : (n : Net) (ok : IsNet n) (s : State) (k p : ℕ) → releases n s k p ≤ 1
release_le n ok s k p =
    let a = times_take-le k (released_at n p (phase_of s p)) (succs_of n p) in
    let e = ok.inverse p k in let b = ok.preds_once p k in omega arith

waiting : (p : Phase) (m : ℕ) → 0 < awaited p m → p ≡ Waiting
waiting Waiting m h = refl
waiting (Held w a b) m h = absurd (omega arith)
waiting Done m h = absurd (omega arith)
waiting Refused m h = absurd (omega arith)

within_list : (xs : List ℕ) (k : ℕ) → 0 < get_or xs k 0 → k < length xs
within_list xs k h = elim (cases_lt k (length xs)) [
  | inl less ↦ less
  | inr ge ↦ let e =
      get_or_past xs k 0 ge in absurd (omega arith)
]

lt_next : (i a : ℕ) → i ≢ a → nat_lt i a ≡ nat_lt i (a + 1)
lt_next i a ne = elim (cases_lt i a) [
  | inl less ↦ lt-ltb i a less
      ∙ sym (lt-ltb i (a + 1) (omega arith))
  | inr ge ↦ le-ltb i a ge
      ∙ sym (le-ltb i (a + 1) (omega arith))
]

pub record Next (n : Net) (s : State) (k j : ℕ) : Type 0 where
  pub in_preds : times k (preds_of n j) ≡ 1
  pub waits : phase_of s j ≡ Waiting
  pub misses : 0 < missing_of s j
  pub near : j < length s.missing
  pub apart : j ≢ k

module _ (n : Net) (ok : IsNet n) (s : State) (h : Steady n s) where
  -- a strand goes to another phase with the same counts, and is refused neither before nor after
  pub turns : (k : ℕ) (p : Phase) → k < length s.phase
      → published_at n k p ≡ published_at n k (phase_of s k)
      → released_at n k p ≡ released_at n k (phase_of s k)
      → awaited p (missing_of s k) ≡ awaited (phase_of s k) (missing_of s k) → IsWithin n k p
      → p ≢ Refused → phase_of s k ≢ Refused
      → ((w a b j a' b' : ℕ) → p ≡ Held w a b → phase_of s j ≡ Held w a' b' → j ≡ k)
      → Steady n (turned s k p)
  turns k p near pub-same rel-same wait-same within kept was one = let t : State = turned s k p in
      let all = set_all s.phase k p Waiting in
      let receives = received_same n s t
      (all (λ j q. released_at n j q ≡ released_at n j (phase_of s j)) near rel-same
      (λ j ne. refl)) in
      record {
        fits = record {
          cells_each = h.fits.cells_each;
          missing_each = h.fits.missing_each;
          phase_each = length-set s.phase k p ∙ h.fits.phase_each;
        };
        holds_one = λ w j i a b a' b'. all (λ j q. q ≡ Held w a b → phase_of t i ≡ Held w a' b'
            → j ≡ i) near
            (λ e. all (λ i q. q ≡ Held w a' b' → k ≡ i) near (λ _. refl)
            (λ i ne e'. sym (one w a b i a' b' e e')) i)
            (λ j ne e. all (λ i q. q ≡ Held w a' b' → j ≡ i) near (λ e'. one w a' b' j a b e' e)
            (λ i ne' e'. h.holds_one w j i a b a' b' e e') i) j;
        counts = λ j. let r = receives j in let c = h.counts j in
            let a = all (λ j q. awaited q (missing_of s j) ≡ awaited (phase_of s j)
            (missing_of s j)) near wait-same (λ j ne. refl) j in omega arith;
        within = all (IsWithin n) near within (λ j ne. h.within j);
        filled = λ j i lt. h.filled j i lt
            ∙ ap (nat_lt i) (sym (all (λ j q. published_at n j q ≡ published_at n j (phase_of s j))
            near pub-same (λ j ne. refl) j));
        least_refused = least_same s.least (phase_of s) (phase_of t)
            (all (λ j q. phase_of s j ≡ Refused → q ≡ Refused) near (λ e. absurd (was e))
            (λ j ne e. e))
            (all (λ j q. q ≡ Refused → phase_of s j ≡ Refused) near (λ e. absurd (kept e))
            (λ j ne e. e)) h.least_refused;
      }

  -- a held strand that has published and released nothing is refused
  pub refuses : (k w : ℕ) → k < length s.phase → phase_of s k ≡ Held w 0 0
      → Steady n (refused s (hold k 0 0))
  refuses k w near is = let t : State = refused s (hold k 0 0) in
      let all = set_all s.phase k Refused Waiting in
      let receives = received_same n s t
      (all (λ j q. released_at n j q ≡ released_at n j (phase_of s j)) near
      (ap (released_at n k) (sym is)) (λ j ne. refl)) in
      record {
        fits = record {
          cells_each = h.fits.cells_each;
          missing_each = h.fits.missing_each;
          phase_each = length-set s.phase k Refused ∙ h.fits.phase_each;
        };
        holds_one = λ v j i a b a' b'. all (λ j q. q ≡ Held v a b → phase_of t i ≡ Held v a' b'
            → j ≡ i) near
            (λ e e'. cc)
            (λ j ne e. all (λ i q. q ≡ Held v a' b' → j ≡ i) near (λ e'. cc)
            (λ i ne' e'. h.holds_one v j i a b a' b' e e') i) j;
        counts = λ j. let r = receives j in let c = h.counts j in
            let a = all (λ j q. awaited q (missing_of s j) ≡ awaited (phase_of s j)
            (missing_of s j)) near (ap (λ (q : Phase). awaited q (missing_of s k)) (sym is))
            (λ j ne. refl) j in omega arith;
        within = all (IsWithin n) near tt (λ j ne. h.within j);
        filled = λ j i lt. h.filled j i lt
            ∙ ap (nat_lt i) (sym (all (λ j q. published_at n j q ≡ published_at n j (phase_of s j))
            near (ap (published_at n k) (sym is)) (λ j ne. refl) j));
        least_refused = least_more s.least (phase_of s) (phase_of t) k
            (get_or-set_same s.phase k Refused Waiting near)
            (all (λ j q. phase_of s j ≡ Refused → q ≡ Refused) near (λ _. refl) (λ j ne e. e))
            (all (λ j q. j ≢ k → q ≡ Refused → phase_of s j ≡ Refused) near
            (λ ne. absurd (ne refl)) (λ j ne _ e. e)) h.least_refused;
      }

  -- a worker goes on with its strand
  still_one : (k w a b a' b' : ℕ) → k < length s.phase → phase_of s k ≡ Held w a b
      → HoldsOne (turned s k (Held w a' b'))
  still_one k w a b a' b' near is v j i x y x' y' = let p : Phase = Held w a' b' in
      let t : State = turned s k p in
      let all = set_all s.phase k p Waiting in
      all (λ j q. q ≡ Held v x y → phase_of t i ≡ Held v x' y' → j ≡ i) near
      (λ e. all (λ i q. q ≡ Held v x' y' → k ≡ i) near (λ _. refl) (λ i ne e'. let o =
      h.holds_one w k i a b x' y' is in let v-is : v ≡ w = cc in
      o (e' ∙ ap (λ (u : ℕ). Held u x' y') v-is)) i)
      (λ j ne e. all (λ i q. q ≡ Held v x' y' → j ≡ i) near (λ e'. let o =
      h.holds_one w j k x y a b in let v-is : v ≡ w = cc in
      o (e ∙ ap (λ (u : ℕ). Held u x y) v-is) is)
      (λ i ne' e'. h.holds_one v j i x y x' y' e e') i) j

  -- the next successor of a held strand waits, and misses something
  pub next_waits : (k w a b : ℕ) → phase_of s k ≡ Held w a b → b < length (succs_of n k)
      → Next n s k (get_or (succs_of n k) b 0)
  next_waits k w a b is left = let j : ℕ = get_or (succs_of n k) b 0 in
      let in-succs : IsIn j (succs_of n k) = is_in_at (succs_of n k) b left in
      let inv : times j (succs_of n k) ≡ times k (preds_of n j) = ok.inverse k j in
      let once : times k (preds_of n j) ≤ 1 = ok.preds_once k j in
      let is-pred : times k (preds_of n j) ≡ 1 = omega arith in
      let once' : times j (succs_of n k) ≤ 1 = omega arith in
      let before : times j (take b (succs_of n k)) ≡ 0 = times_before (succs_of n k) b left once' in
      let not-yet : releases n s j k ≡ 0 =
      ap (λ (q : Phase). times j (take (released_at n k q) (succs_of n k))) is ∙ before in
      let less : received n s j < length (preds_of n j) =
      total_less (releases n s j) k (preds_of n j) (release_le n ok s j) not-yet
      (let z : IsIn k (preds_of n j) = omega arith in z) in
      let some : 0 < awaited (phase_of s j) (missing_of s j) = let c = h.counts j in omega arith in
      let waits : phase_of s j ≡ Waiting = waiting (phase_of s j) (missing_of s j) some in
      let some-missing : 0 < missing_of s j = let e : awaited (phase_of s j) (missing_of s j)
      ≡ missing_of s j = ap (λ (q : Phase). awaited q (missing_of s j)) waits in omega arith in
      let apart : j ≢ k = λ e. let e' : phase_of s k ≡ Waiting =
      subst (λ (i : ℕ). phase_of s i ≡ Waiting) e waits in cc in
      let near-j : j < length s.missing = within_list s.missing j some-missing in
      record {
        in_preds = is-pred;
        waits = waits;
        misses = some-missing;
        near = near-j;
        apart =
            apart;
      }

  -- a held strand that has published all releases its next successor
  pub releases_next : (k w a b : ℕ) → k < length s.phase → phase_of s k ≡ Held w a b
      → a ≡ length (writes_of n k) → b < length (succs_of n k)
      → Steady n (released n s w (hold k a b))
  releases_next k w a b near is full left = let t : State = released n s w (hold k a b) in
      let p : Phase = Held w a (b + 1) in
      let j : ℕ = get_or (succs_of n k) b 0 in
      let all = set_all s.phase k p Waiting in
      -- k is a predecessor of j that has not released it
      let x = next_waits k w a b is left in let once' : times j (succs_of n k) ≤ 1 = let inv =
      ok.inverse k j in let o = x.in_preds in omega arith in
      let before : times j (take b (succs_of n k)) ≡ 0 = times_before (succs_of n k) b left once' in
      let not-yet : releases n s j k ≡ 0 =
      ap (λ (q : Phase). times j (take (released_at n k q) (succs_of n k))) is ∙ before in
      let is-pred = x.in_preds in let waits = x.waits in let some-missing = x.misses in
      let near-j = x.near in let apart = x.apart in
      -- the releases that each strand has had
      let receives-j : received n t j ≡ received n s j + 1 =
      total_raised (releases n s j) (releases n t j) k (preds_of n j)
      (all (λ q f. times j (take (released_at n q f) (succs_of n q))
      ≡ releases n s j q + same k q) near
      (let m = times_more j b (succs_of n k) left in let y = same_yes k k refl in
      let z = same_yes j j refl in omega arith)
      (λ q ne. let y = same_no k q (λ e. ne (sym e)) in omega arith))
      ∙ ap (λ (m : ℕ). received n s j + m) is-pred in
      let receives-else : (i : ℕ) → i ≢ j → received n t i ≡ received n s i = λ i ne.
      total_same (releases n t i) (releases n s i) (preds_of n i)
      (all (λ q f. times i (take (released_at n q f) (succs_of n q)) ≡ releases n s i q) near
      (let m = times_more i b (succs_of n k) left in let y = same_no i j ne in
      let e : releases n s i k ≡ times i (take b (succs_of n k)) =
      ap (λ (f : Phase). times i (take (released_at n k f) (succs_of n k))) is in omega arith)
      (λ q ne'. refl)) in
      let phase-j : phase_of t j ≡ Waiting = get_or-set_other s.phase k j p Waiting apart ∙ waits in
      let missing-j : missing_of t j ≡ missing_of s j - 1 =
      get_or-set_same s.missing j (missing_of s j - 1) 0 near-j in
      record {
        fits = record {
          cells_each = h.fits.cells_each;
          missing_each =
              length-set s.missing j (missing_of s j - 1) ∙ h.fits.missing_each;
          phase_each =
              length-set s.phase k p ∙ h.fits.phase_each;
        };
        holds_one = still_one k w a b a (b + 1) near is;
        counts = λ i. elim (cases_eq i j) [
          | inl e ↦ subst (λ (i : ℕ). awaited (phase_of t i) (missing_of t i) + received n t i
              ≡ length (preds_of n i)) (sym e)
              (let c = h.counts j in let x : awaited (phase_of t j) (missing_of t j)
              ≡ missing_of t j = ap (λ (q : Phase). awaited q (missing_of t j)) phase-j in
              let y : awaited (phase_of s j) (missing_of s j) ≡ missing_of s j =
              ap (λ (q : Phase). awaited q (missing_of s j)) waits in omega arith)
          | inr ne ↦ let c = h.counts i in let r = receives-else i ne in
              let m : missing_of t i ≡ missing_of s i =
              get_or-set_other s.missing j i (missing_of s j - 1) 0 ne in
              let x : awaited (phase_of t i) (missing_of t i) ≡ awaited (phase_of s i)
              (missing_of s i) = ap (awaited (phase_of t i)) m ∙
              all (λ i q. awaited q (missing_of s i) ≡ awaited (phase_of s i) (missing_of s i))
              near (ap (λ (q : Phase). awaited q (missing_of s k)) (sym is))
              (λ i ne-k. refl) i in omega arith
        ];
        within = all (IsWithin n) near
            (let x = within_at n k (phase_of s k) w a b (h.within k) is in
            (x.0, (let g : b + 1 ≤ length (succs_of n k) = omega arith in g), λ _. full))
            (λ i ne. h.within i);
        filled = λ i m lt. h.filled i m lt
            ∙ ap (nat_lt m) (sym (all (λ i q. published_at n i q ≡ published_at n i (phase_of s i))
            near (ap (published_at n k) (sym is)) (λ i ne. refl) i));
        least_refused = least_same s.least (phase_of s) (phase_of t)
            (all (λ i q. phase_of s i ≡ Refused → q ≡ Refused) near (λ e. cc) (λ i ne e. e))
            (all (λ i q. q ≡ Refused → phase_of s i ≡ Refused) near (λ e. cc) (λ i ne e. e))
            h.least_refused;
      }

  -- a held strand publishes its next cell
  pub publishes_next : (k w a b x : ℕ) → k < length s.phase → phase_of s k ≡ Held w a b
      → a < length (writes_of n k) → Steady n (published n s w x (hold k a b))
  publishes_next k w a b x near is left = let t : State = published n s w x (hold k a b) in
      let p : Phase = Held w (a + 1) b in
      let c : ℕ = get_or (writes_of n k) a 0 in
      let all = set_all s.phase k p Waiting in
      let in-writes : IsIn c (writes_of n k) = is_in_at (writes_of n k) a left in
      let near-c : c < length s.cells = let l = ok.writes_near k c in-writes in
      let e = h.fits.cells_each in omega arith in
      let receives = received_same n s t
      (all (λ j q. released_at n j q ≡ released_at n j (phase_of s j)) near
      (ap (released_at n k) (sym is)) (λ j ne. refl)) in
      let in-part = within_at n k (phase_of s k) w a b (h.within k) is in
      let none-out : b ≡ 0 = elim (cases_lt 0 b) [
        | inl some ↦ let e = in-part.2 some in
            absurd (omega arith)
        | inr ge ↦ omega arith
      ] in
      let at-k : (i : ℕ) → i < length (writes_of n k)
      → is_some (cell_of t (get_or (writes_of n k) i 0)) ≡ nat_lt i (a + 1) =
      λ i lt. elim (cases_eq i a) [
        | inl e ↦ subst (λ (i : ℕ). is_some (cell_of t (get_or (writes_of n k) i 0))
            ≡ nat_lt i (a + 1)) (sym e) (ap is_some
            (get_or-set_same s.cells c (Some x) None near-c) ∙ sym (lt-ltb a (a + 1) (omega arith)))
        | inr ne ↦ let other : get_or (writes_of n k) i 0 ≢ c =
            λ e. ne (place_once (writes_of n k) i a (ok.writes_once k (get_or (writes_of n k) i 0))
            lt left e) in
            ap is_some (get_or-set_other s.cells c (get_or (writes_of n k) i 0)
            (Some x) None other) ∙ h.filled k i lt
            ∙ ap (λ (q : Phase). nat_lt i (published_at n k q)) is ∙ lt_next i a ne
      ] in
      record {
        fits = record {
          cells_each = length-set s.cells c (Some x) ∙ h.fits.cells_each;
          missing_each = h.fits.missing_each;
          phase_each = length-set s.phase k p
              ∙ h.fits.phase_each;
        };
        holds_one = still_one k w a b (a + 1) b near is;
        counts = λ j. let r = receives j in let c = h.counts j in
            let a = all (λ j q. awaited q (missing_of s j) ≡ awaited (phase_of s j)
            (missing_of s j)) near (ap (λ (q : Phase). awaited q (missing_of s k)) (sym is))
            (λ j ne. refl) j in omega arith;
        within = all (IsWithin n) near (
          (let g : a + 1 ≤ length (writes_of n k) = omega arith in
              g),
          in-part.1,
          λ some. absurd (omega arith),
        ) (λ j ne. h.within j);
        filled = all (λ j q. (i : ℕ) → i < length (writes_of n j)
            → is_some (cell_of t (get_or (writes_of n j) i 0)) ≡ nat_lt i (published_at n j q))
            near at-k
            (λ j ne i lt. let other : get_or (writes_of n j) i 0 ≢ c =
            λ e. ne (ok.one_writer j k c (subst (λ (y : ℕ). IsIn y (writes_of n j)) e
            (is_in_at (writes_of n j) i lt)) in-writes) in
            ap is_some (get_or-set_other s.cells c (get_or (writes_of n j) i 0)
            (Some x) None other) ∙ h.filled j i lt);
        least_refused = least_same s.least (phase_of s) (phase_of t)
            (all (λ i q. phase_of s i ≡ Refused → q ≡ Refused) near (λ e. cc) (λ i ne e. e))
            (all (λ i q. q ≡ Refused → phase_of s i ≡ Refused) near (λ e. cc) (λ i ne e. e))
            h.least_refused;
      }
