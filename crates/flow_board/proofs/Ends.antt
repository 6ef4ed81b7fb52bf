-- The first words meet the rule, and the last ones show what the closing seat has
use Rattle.std.proofs.Common.{◌≡◌, ◌≢◌, ℕ, zero, suc, ◌^◌, ◌<◌, ◌≤◌, List, [], ◌∷◌, refl, sym, ◌∙◌}
use Rattle.std.proofs.Common.{ap, subst, inl, inr, arith, Option, Some, None}
use mathlib.Core.Option.{some, some-injective, some-ne-none}
use lib.ListN.{get_elem?}
use Rattle.std.proofs.lemmas.Bool.{cases_eq}
use Rattle.atomic_table.specs.Table as table
use Rattle.atomic_table.specs.Table.{Final, Seen}
use Rattle.gold_field.specs.declared.gold.TheConstants.{P}
use Rattle.flow_core.specs.declared.State.{State}
use Rattle.flow_core.specs.Counts.{total, times}
use Rattle.flow_core.specs.Net.{IsNet}
use Rattle.flow_core.specs.Flow.{Flow, IsFlow}
use Rattle.flow_core.specs.Core.{cell_of}
use Rattle.flow_core.specs.Events.{hold, opening}
use Rattle.flow_core.proofs.Keeps.{opens, waits_at_first}
use Rattle.flow_board.specs.declared.view.View.{View}
use Rattle.flow_board.specs.Shows.{cell_word, Shows}
use Rattle.flow_board.specs.Views.{first, spent}
use Rattle.flow_board.specs.Rule.{done_mark, refused_mark, HasNumbers, SeatFits}
use Rattle.flow_board.specs.Rule.{Ruled}
use Rattle.flow_board.specs.Events.{Shown}
use Rattle.flow_board.specs.Closed.{ShowsEnd, closed_words, AreInRange}
use Rattle.flow_board.proofs.Views.{terms_le}
use Rattle.flow_board.proofs.Moved.{Board}
use Rattle.flow_board.proofs.Steps.{none_some, least_told}

pub only_one : {A : Type 0} (x y : A) (j : ℕ) → get_elem? (x ∷ []) j ≡ some y → (j ≡ 0) × (x ≡ y)
only_one x y zero e = (refl, some-injective x y e)
only_one x y (suc j) e = absurd (some-ne-none y (sym e))

pub begins_so : (f : Flow) (ws : List ℕ) → f.net.strands < 2 ^ 32 → IsNet f.net → IsFlow f
    → HasNumbers f.start → Shows f (opening f) ws
    → Shown f (table.opening ws [] (first f)) (opening f)
begins_so f ws narrow ok flow numbers shows = let s : State = opening f in
    let waits = waits_at_first f in
    let next : Ruled f (table.opening ws [] (first f)) = record {
      core = s;
      narrow = narrow;
      net = ok;
      flow = flow;
      kept = opens f ok flow;
      numbers = numbers;
      shows = shows;
      seats = λ j v e. let x = only_one (first f) v j e in let P : View → Type 0 = SeatFits f s j in
          subst P x.1 record {
            joined = λ z. absurd (omega arith);
            same_flow = λ _. refl;
            held = λ h e'. absurd (none_some h e');
            seen = λ _. omega arith;
          };
      holder = λ k j a b e. let x = waits k in cc;
      done_is = λ k. ap done_mark (sym (waits k));
      refused_is = λ k. ap refused_mark (sym (waits k));
      shares = refl;
    } in (next, refl)

pub begins : (f : Flow) (ws : List ℕ) → f.net.strands < 2 ^ 32 → IsNet f.net → IsFlow f
    → HasNumbers f.start → Shows f (opening f) ws → Ruled f (table.opening ws [] (first f))
begins f ws narrow ok flow numbers shows = (begins_so f ws narrow ok flow numbers shows).0

pub total_zero : {A : Type 0} (g : A → ℕ) (l : List A)
    → ((i : ℕ) (u : A) → get_elem? l i ≡ some u → g u ≡ 0) → total g l ≡ 0
total_zero g [] none-at = refl
total_zero g (x ∷ xs) none-at = let y = none-at 0 x refl in
    let r = total_zero g xs (λ i u e. none-at (suc i) u e) in omega arith

-- the sum over a list of which one entry alone counts
pub total_only : {A : Type 0} (g : A → ℕ) (l : List A) (j : ℕ) (v : A) → get_elem? l j ≡ some v
    → ((i : ℕ) (u : A) → i ≢ j → get_elem? l i ≡ some u → g u ≡ 0) → total g l ≡ g v
total_only g [] j v e none-else = absurd (some-ne-none v (sym e))
total_only g (x ∷ xs) zero v e none-else = let y = ap g (some-injective x v e) in
    let z = total_zero g xs (λ i u e'. none-else (suc i) u (λ q. omega arith) e') in omega arith
total_only g (x ∷ xs) (suc j) v e none-else = let y = none-else 0 x (λ q. omega arith) refl in
    let r = total_only g xs j v e (λ i u ne e'. none-else (suc i) u (λ q. ne (omega arith)) e') in
    omega arith

module _ (f : Flow) (t : Board) (r : Ruled f t) (id : ℕ) (v : View)
    (at : get_elem? t.views id ≡ some v) (free : v.holding ≡ None) (whole : v.share ≡ 65) where
  others_spent : (j : ℕ) (u : View) → j ≢ id → get_elem? t.views j ≡ some u → u ≡ spent
  others_spent j u ne e = let le = terms_le (λ (x : View). x.share) t.views id j v u ne at e in
      let all = r.shares in (r.seats j u e).joined (omega arith)

  pub closes : ShowsEnd f v.done v.refused t.words
  closes = record {
    core = r.core;
    narrow = r.narrow;
    net = r.net;
    flow = r.flow;
    kept = r.kept;
    numbers = r.numbers;
    shows = r.shows;
    none_held = λ k j a b e. let x = r.holder k j a b e in elim (cases_eq j id) [
      | inl same-j ↦ (let Q : ℕ → Type 0 = λ i. get_elem? t.views i ≡ some x.0 in
          let same-view : x.0 ≡ v = some-injective _ _ (sym (subst Q same-j x.1) ∙ at) in
          none_some (hold k a b) (sym free ∙ ap (λ (u : View). u.holding) (sym same-view) ∙ x.2))
      | inr ne ↦ none_some (hold k a b)
          (ap (λ (u : View). u.holding) (sym (others_spent j x.0 ne x.1)) ∙ x.2)
    ];
    done_is = λ k. sym (total_only (λ (u : View). times k u.done) t.views id v at
        (λ j u ne e. ap (λ (u : View). times k u.done) (others_spent j u ne e))) ∙ r.done_is k;
    refused_is = λ k. sym (total_only (λ (u : View). times k u.refused) t.views id v at
        (λ j u ne e. ap (λ (u : View). times k u.refused) (others_spent j u ne e)))
        ∙ r.refused_is k;
  }

pub closed : (f : Flow) (id : ℕ) (v : View) (ws xs : List ℕ) → v.holding ≡ None → v.share ≡ 65
    → Final (Seen (Ruled f) id v) ws xs → ShowsEnd f v.done v.refused ws
closed f id v ws xs free whole h = let C : List ℕ → Type 0 = ShowsEnd f v.done v.refused in
    subst C h.2 (closes f h.0 h.1.0 id v h.1.1 free whole)

word_below : (o : Option ℕ) (p : ℕ) → ((x : ℕ) → o ≡ Some x → x < p) → cell_word o ≤ p
word_below None p h = omega arith
word_below (Some x) p h = let l = h x refl in omega arith

pub closing_fits : (f : Flow) (done refused ws : List ℕ) → ShowsEnd f done refused ws
    → AreInRange (closed_words f.net.cells f.net.strands ws)
closing_fits f done refused ws c = record {
  wide = c.shows.wide;
  cells_below = λ d lt. let is = c.shows.cell_is d lt in
      let b = word_below (cell_of c.core d) P (c.numbers d) in omega arith;
  least_below = let is = c.shows.least_is in
      let told = (least_told f c.core c.kept c.core.least refl).0 in omega arith;
  narrow = c.narrow;
}
