-- The core's events as the board's steps use them: each keeps the whole invariant
use Rattle.std.proofs.Common.{◌≡◌, ◌≢◌, ℕ, ◌<◌, Bool, true, false, cond, List, length, get_or, refl}
use Rattle.std.proofs.Common.{sym, ◌∙◌, ap, subst, inl, inr, arith, Option, Some, IsTrue, is_none}
use Rattle.std.proofs.Common.{unwrap_or}
use Rattle.std.specs.Option.{option_map_or}
use Rattle.std.proofs.lemmas.Bool.{and_from, eq-eqb, lt-ltb, cases_lt}
use Rattle.flow_core.specs.declared.Phase.TheVariants.{Waiting, Held, Done}
use Rattle.flow_core.specs.declared.Event.{Event}
use Rattle.flow_core.specs.declared.Event.TheVariants.{Take, Publish, Release, Finish, Refuse}
use Rattle.flow_core.specs.declared.State.{State}
use Rattle.flow_core.specs.declared.Hold.{Hold}
use Rattle.flow_core.specs.Counts.{times}
use Rattle.flow_core.specs.Net.{Net, IsNet, writes_of, preds_of, succs_of}
use Rattle.flow_core.specs.Flow.{Flow, IsFlow, Refuses, Gives, answer_of}
use Rattle.flow_core.specs.Core.{missing_of, phase_of, IsKept}
use Rattle.flow_core.specs.Events.{hold, holding, is_waiting, is_enabled, can_publish}
use Rattle.flow_core.specs.Events.{can_release, can_finish, can_refuse, turned, published, released}
use Rattle.flow_core.specs.Events.{refused, after, worker_of, IsHonestOf, IsHonest}
use Rattle.flow_core.proofs.Totals.{is_in_at, place_of}
use Rattle.flow_core.proofs.Holding.{holds_found, finds_held, cases_hold}
use Rattle.flow_core.proofs.Keeps.{keeps_kept}

after_effect : (P : State → Type 0) (o : Option Hold) (test : Hold → Bool) (fx : Hold
    → State) (s : State) (x : Hold) → o ≡ Some x → test x ≡ true
    → P (cond (option_map_or test o false) (option_map_or fx o s) s) → P (fx x)
after_effect P o test fx s x e t h =
    let Q : Option Hold → Type 0 =
    λ y. P (cond (option_map_or test y false) (option_map_or fx y s) s) in
    let R : Bool → Type 0 = λ b. P (cond b (fx x) s) in subst R t (subst Q e h)

honest_at : (f : Flow) (s : State) (e : Event) (x : Hold) → holding s (worker_of e) ≡ Some x
    → IsHonestOf f e x → IsHonest f s e
honest_at f s e x is h = λ y is' _. subst (IsHonestOf f e)
    (ap (λ (o : Option Hold). unwrap_or o x) (sym is ∙ is')) h

-- an honest event that is enabled, and the state after it
pub record Makes (f : Flow) (s : State) (e : Event) (t : State) : Type 0 where
  pub enabled : IsTrue (is_enabled f.net s e)
  pub honest : IsHonest f s e
  pub is : t ≡ after f.net s e
  pub kept : IsKept f t

-- the effect of an event of a worker that holds a strand
effect_is : (o : Option Hold) (test : Hold → Bool) (fx : Hold → State) (s : State) (x : Hold)
    → o ≡ Some x → test x ≡ true → fx x ≡ cond (option_map_or test o false) (option_map_or fx o s) s
effect_is o test fx s x e t =
    let all : State = cond (option_map_or test o false) (option_map_or fx o s) s in
    after_effect (λ y. y ≡ all) o test fx s x e t refl

enabled_at : (o : Option Hold) (test : Hold → Bool) (x : Hold) → o ≡ Some x → test x ≡ true
    → option_map_or test o false ≡ true
enabled_at o test x e t = ap (λ (y : Option Hold). option_map_or test y false) e ∙ t

module _ (f : Flow) (ok : IsNet f.net) (flow : IsFlow f) (s : State) (h : IsKept f s) where
  makes : (e : Event) (t : State) → IsHonest f s e → IsTrue (is_enabled f.net s e)
      → t ≡ after f.net s e → Makes f s e t
  makes e t honest on is = record {
    enabled = on;
    honest = honest;
    is = is;
    kept = subst (IsKept f) (sym is) (keeps_kept f ok flow s h e honest);
  }

  found : (j k a b : ℕ) → phase_of s k ≡ Held j a b → holding s j ≡ Some (hold k a b)
  found j k a b is = finds_held s j k a b (h.sound.holds_one j) is

  -- an event of the worker j, which holds the strand k
  by_holder : (j k a b : ℕ) (e : Event) (test : Hold → Bool) (fx : Hold → State)
      → is_enabled f.net s e ≡ option_map_or test (holding s j) false
      → after f.net s e ≡ cond (option_map_or test (holding s j) false)
      (option_map_or fx (holding s j) s) s
      → worker_of e ≡ j → phase_of s k ≡ Held j a b → test (hold k a b) ≡ true
      → IsHonestOf f e (hold k a b) → Makes f s e (fx (hold k a b))
  by_holder j k a b e test fx on-is after-is worker is t honest =
      let o = found j k a b is in
      let P : ℕ → Type 0 = λ i. holding s i ≡ Some (hold k a b) in
      makes e (fx (hold k a b)) (honest_at f s e (hold k a b) (subst P (sym worker) o) honest)
      (on-is ∙ enabled_at (holding s j) test (hold k a b) o t)
      (effect_is (holding s j) test fx s (hold k a b) o t ∙ sym after-is)

  pub take_made : (j k : ℕ) → ((i a b : ℕ) → phase_of s i ≢ Held j a b) → k < f.net.strands
      → phase_of s k ≡ Waiting → missing_of s k ≡ 0 → Makes f s (Take j k) (turned s k (Held j 0 0))
  take_made j k free near waits none =
      let e : Event = Take j k in
      let nobody : is_none (holding s j) ≡ true = elim (cases_hold (holding s j)) [
        | inl n ↦ ap is_none n
        | inr x ↦ absurd (free x.0.strand x.0.published x.0.released (holds_found s j x.0 x.1).1)
      ] in
      let ready = and_from _ _ (ap is_waiting waits) (eq-eqb (missing_of s k) 0 none) in
      let on : is_enabled f.net s e ≡ true =
      and_from _ _ nobody (and_from _ _ (lt-ltb k f.net.strands near) ready) in
      makes e (turned s k (Held j 0 0)) (λ x is _. tt) on
      (ap (λ (b : Bool). cond b (turned s k (Held j 0 0)) s) (sym on))

  pub publish_made : (j k a b x : ℕ) (xs : List ℕ) → phase_of s k ≡ Held j a b
      → answer_of f k ≡ Gives xs
      → a < length xs → get_or xs a 0 ≡ x
      → Makes f s (Publish j x) (published f.net s j x (hold k a b))
  publish_made j k a b x xs is gives left value =
      let each = flow.values_each k xs gives in
      by_holder j k a b (Publish j x) (can_publish f.net) (published f.net s j x) refl refl refl is
      (lt-ltb a (length (writes_of f.net k)) (omega arith)) (xs, gives, value)

  pub release_made : (j k a b : ℕ) (xs : List ℕ) → phase_of s k ≡ Held j a b
      → answer_of f k ≡ Gives xs
      → a ≡ length xs → b < length (succs_of f.net k)
      → Makes f s (Release j) (released f.net s j (hold k a b))
  release_made j k a b xs is gives all left =
      let each = flow.values_each k xs gives in
      let full = eq-eqb a (length (writes_of f.net k)) (omega arith) in
      by_holder j k a b (Release j) (can_release f.net) (released f.net s j) refl refl refl is
      (and_from _ _ full (lt-ltb b (length (succs_of f.net k)) left)) (xs, gives)

  pub finish_made : (j k a b : ℕ) (xs : List ℕ) → phase_of s k ≡ Held j a b
      → answer_of f k ≡ Gives xs
      → a ≡ length xs → b ≡ length (succs_of f.net k) → Makes f s (Finish j) (turned s k Done)
  finish_made j k a b xs is gives all told =
      let each = flow.values_each k xs gives in
      let full = eq-eqb a (length (writes_of f.net k)) (omega arith) in
      by_holder j k a b (Finish j) (can_finish f.net) (λ x. turned s x.strand Done) refl refl refl
      is
      (and_from _ _ full (eq-eqb b (length (succs_of f.net k)) told)) (xs, gives)

  pub refuse_made : (j k : ℕ) → phase_of s k ≡ Held j 0 0 → answer_of f k ≡ Refuses
      → Makes f s (Refuse j) (refused s (hold k 0 0))
  refuse_made j k is stops =
      by_holder j k 0 0 (Refuse j) can_refuse (refused s) refl refl refl is
      (and_from _ _ (eq-eqb 0 0 refl) (eq-eqb 0 0 refl)) stops

-- a strand that writes nothing has no successor
pub no_successor : (n : Net) → IsNet n → (k : ℕ) → length (writes_of n k) ≡ 0
    → length (succs_of n k) ≡ 0
no_successor n ok k none = elim (cases_lt 0 (length (succs_of n k))) [
  | inl some ↦ (
      let j : ℕ = get_or (succs_of n k) 0 0 in let inv = ok.inverse k j in
      let here = is_in_at (succs_of n k) 0 some in
      let feeds = (ok.preds_feed k j).0 (let z : 0 < times k (preds_of n j) = omega arith in z) in
      let p = place_of feeds.0 (writes_of n k) feeds.1 in let less = p.1 in absurd (omega arith))
  | inr ge ↦ omega arith
]
