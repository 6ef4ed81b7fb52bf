-- Cutting a seat in two and joining two into one keep the rule
use Rattle.std.proofs.Common.{◌≡◌, ◌≢◌, ℕ, ◌<◌, ◌≤◌, [], ◌∷◌, ◌++◌, set, refl, sym, ◌∙◌, ap, subst}
use Rattle.std.proofs.Common.{⊎_elim, arith, Some, None}
use mathlib.Core.Option.{some, some-injective}
use lib.ListN.{get_elem?}
use Rattle.atomic_table.specs.Table.{Splits, Joins}
use Rattle.atomic_table.proofs.Lists.{at_set, set_else, at_snoc, at_longer}
use Rattle.flow_core.specs.Counts.{times}
use Rattle.flow_core.specs.Flow.{Flow}
use Rattle.flow_core.specs.Events.{hold}
use Rattle.flow_board.specs.declared.view.View.{View}
use Rattle.flow_board.specs.Views.{after_split, cut_from, joined_with, spent}
use Rattle.flow_board.specs.Rule.{SeatFits, Ruled}
use Rattle.flow_board.specs.Events.{Shown, SeatSteps}
use Rattle.flow_board.proofs.Views.{total-append, total-set, times-append}
use Rattle.flow_board.proofs.Moved.{Board}
use Rattle.flow_board.proofs.Steps.{none_some}

-- the seat that holds a strand is another than one that holds nothing
holder_else : (t : Board) (id k j a b : ℕ) (v u : View) → get_elem? t.views id ≡ some v
    → v.holding ≡ None → get_elem? t.views j ≡ some u → u.holding ≡ Some (hold k a b) → j ≢ id
holder_else t id k j a b v u at free there holds = λ e. let Q : ℕ
    → Type 0 = λ i. get_elem? t.views i ≡ some u in
    let same-view : u ≡ v = some-injective _ _ (sym (subst Q e there) ∙ at) in
    none_some (hold k a b) (sym free ∙ ap (λ (x : View). x.holding) (sym same-view) ∙ holds)

pub cuts : (f : Flow) (id : ℕ) (v : View) → v.holding ≡ None → 2 ≤ v.share
    → (t : Board) (r : Ruled f t) → get_elem? t.views id ≡ some v
    → Shown f record {
      words = t.words;
      homes = t.homes;
      views =
          set t.views id (after_split v) ++ cut_from v ∷ [];
    } r.core
cuts f id v free many t r at = let o = r.seats id v at in let n = set t.views id (after_split v) in
    let next : Ruled f record { words = t.words; homes = t.homes; views = n ++ cut_from v ∷ [] } =
    record {
      core = r.core;
      narrow = r.narrow;
      net = r.net;
      flow = r.flow;
      kept = r.kept;
      numbers = r.numbers;
      shows = r.shows;
      seats = λ j u e. ⊎_elim
          (λ there. ⊎_elim
          (λ x. let P : View → Type 0 = SeatFits f r.core j in subst P x.1 record {
            joined = λ z. absurd (omega arith);
            same_flow = λ _. o.same_flow (omega arith);
            held = λ h e'. absurd (none_some h (sym free ∙ e'));
            seen = λ _. o.seen (omega arith);
          })
          (λ x. r.seats j u x.1) (at_set t.views id j (after_split v) u there))
          (λ is. let P : View → Type 0 = SeatFits f r.core j in subst P is record {
            joined = λ z. absurd (omega arith);
            same_flow = λ _. o.same_flow (omega arith);
            held = λ h e'. absurd (none_some h e');
            seen = λ _. o.seen (omega arith);
          }) (at_snoc n (cut_from v) u j e);
      holder = λ k j a b e. let x = r.holder k j a b e in
          let ne = holder_else t id k j a b v x.0 at free x.1 x.2 in
          let there = set_else t.views id j (after_split v) ne ∙ x.1 in
          (x.0, at_longer n (cut_from v ∷ []) j x.0 there, x.2);
      done_is = λ k. let g : View → ℕ = λ u. times k u.done in
          let m = total-set g t.views id v (after_split v) at in
          let a = total-append g n (cut_from v ∷ []) in let d = r.done_is k in omega arith;
      refused_is = λ k. let g : View → ℕ = λ u. times k u.refused in
          let m = total-set g t.views id v (after_split v) at in
          let a = total-append g n (cut_from v ∷ []) in let d = r.refused_is k in omega arith;
      shares = let g : View → ℕ = λ u. u.share in
          let m = total-set g t.views id v (after_split v) at in
          let a = total-append g n (cut_from v ∷ []) in let d = r.shares in omega arith;
    } in (next, refl)

pub splits : (f : Flow) (id : ℕ) (v : View) → v.holding ≡ None → 2 ≤ v.share
    → Splits (Ruled f) id v (after_split v) (cut_from v)
splits f id v free many t r at = (cuts f id v free many t r at).0

pub takes_in : (f : Flow) (id other : ℕ) (v w : View) → v.holding ≡ None → w.holding ≡ None
    → 0 < v.share → 0 < w.share
    → (t : Board) (r : Ruled f t) → get_elem? t.views id ≡ some v → other ≢ id
    → get_elem? t.views other ≡ some w
    → Shown f record {
      words = t.words;
      homes = t.homes;
      views =
          set (set t.views id (joined_with v w)) other spent;
    } r.core
takes_in f id other v w free free' live live' t r at apart there' = let o = r.seats id v at in
    let n = set t.views id (joined_with v w) in
    let there : get_elem? n other ≡ some w =
    set_else t.views id other (joined_with v w) apart ∙ there' in
    let o' = r.seats other w there' in
    let next : Ruled f record { words = t.words; homes = t.homes; views = set n other spent } =
    record {
      core = r.core;
      narrow = r.narrow;
      net = r.net;
      flow = r.flow;
      kept = r.kept;
      numbers = r.numbers;
      shows = r.shows;
      seats = λ j u e. ⊎_elim
          (λ x. let P : View → Type 0 = SeatFits f r.core j in
          subst P x.1 record {
            joined = λ _. refl;
            same_flow = λ z. absurd (omega arith);
            held = λ h e'. absurd (none_some h e');
            seen = λ z. absurd (omega arith);
          })
          (λ x. ⊎_elim
          (λ y. let P : View → Type 0 = SeatFits f r.core j in subst P y.1 record {
            joined = λ z. absurd (omega arith);
            same_flow = λ _. o.same_flow live;
            held = λ h e'. absurd (none_some h (sym free ∙ e'));
            seen = λ _. let a = o.seen live in let b = o'.seen live' in omega arith;
          })
          (λ y. r.seats j u y.1) (at_set t.views id j (joined_with v w) u x.1))
          (at_set n other j spent u e);
      holder = λ k j a b e. let x = r.holder k j a b e in
          let ne = holder_else t id k j a b v x.0 at free x.1 x.2 in
          let ne' = holder_else t other k j a b w x.0 there' free' x.1 x.2 in
          let here = set_else t.views id j (joined_with v w) ne ∙ x.1 in
          (x.0, set_else n other j spent ne' ∙ here, x.2);
      done_is = λ k. let g : View → ℕ = λ u. times k u.done in
          let m = total-set g t.views id v (joined_with v w) at in
          let m' = total-set g n other w spent there in let a = times-append k v.done w.done in
          let d = r.done_is k in omega arith;
      refused_is = λ k. let g : View → ℕ = λ u. times k u.refused in
          let m = total-set g t.views id v (joined_with v w) at in
          let m' = total-set g n other w spent there in
          let a = times-append k v.refused w.refused in let d = r.refused_is k in omega arith;
      shares = let g : View → ℕ = λ u. u.share in
          let m = total-set g t.views id v (joined_with v w) at in
          let m' = total-set g n other w spent there in let d = r.shares in omega arith;
    } in (next, refl)

pub joins : (f : Flow) (id other : ℕ) (v w : View) → v.holding ≡ None → w.holding ≡ None
    → 0 < v.share → 0 < w.share → Joins (Ruled f) id v other w (joined_with v w) spent
joins f id other v w free free' live live' t r at apart there =
    let there' : get_elem? t.views other ≡ some w =
    sym (set_else t.views id other (joined_with v w) apart) ∙ there in
    (takes_in f id other v w free free' live live' t r at apart there').0

pub seat_steps : (f : Flow) (t : Board) (r : Ruled f t) (id : ℕ) (v : View)
    → get_elem? t.views id ≡ some v
    → 0 < v.share → SeatSteps f t r id v
seat_steps f t r id v at live = record {
  split = λ free many. cuts f id v free many t r at;
  join = λ other w free free' live' apart there.
      takes_in f id other v w free free' live live' t r at apart there;
}
