-- Of the releases that tell one strand, one finds it ready
use Rattle.std.proofs.Common.{◌≡◌, ◌≢◌, ℕ, ◌+◌, ◌-◌, ◌<◌, ◌≤◌, Bool, true, false, cond, ◌==◌, List}
use Rattle.std.proofs.Common.{[], ◌∷◌, length, get_or, set, refl, sym, ap, subst, inl, inr}
use Rattle.std.proofs.Common.{arith, get_or-set_other, get_or-set_same, Option, Some, None}
use Rattle.std.specs.Option.{option_map_or}
use Rattle.std.proofs.lemmas.Bool.{cases_eq, eq-eqb, ne_eqb, ltb-true}
use Rattle.std.proofs.lemmas.Bool.{and_parts}
use Rattle.flow_core.specs.declared.state.Event.{Event}
use Rattle.flow_core.specs.declared.state.Event.TheVariants.{Take, Publish, Release, Finish, Refuse}
use Rattle.flow_core.specs.declared.state.Phase.TheVariants.{Held, Done}
use Rattle.flow_core.specs.declared.state.State.{State}
use Rattle.flow_core.specs.declared.state.Hold.{Hold}
use Rattle.flow_core.specs.Counts.{same}
use Rattle.flow_core.specs.Net.{Net, IsNet, succs_of}
use Rattle.flow_core.specs.Core.{missing_of, IsSound}
use Rattle.flow_core.specs.Events.{holding, is_enabled, can_publish, can_release, can_finish}
use Rattle.flow_core.specs.Events.{can_refuse}
use Rattle.flow_core.specs.Events.{turned, published, released, refused, after, after_all}
use Rattle.flow_core.specs.Told.{next_told, tells_next, tells, times_told, times_ready}
use Rattle.flow_core.proofs.Totals.{same_yes, same_no, same_le}
use Rattle.flow_core.proofs.Steady.{steady, next_waits}
use Rattle.flow_core.proofs.Holding.{holds_found, cond_cases, holds_after}
use Rattle.flow_core.proofs.Keeps.{keeps_sound}

by_test : (P : Bool → Type 0) (b : Bool) → (b ≡ true → P true) → (b ≡ false → P false) → P b
by_test P true on off = on refl
by_test P false on off = off refl

cond_none : (b : Bool) (d : ℕ) → d ≡ 0 → cond b d 0 ≡ 0
cond_none true d e = e
cond_none false d e = refl

module _ (n : Net) (ok : IsNet n) (s : State) (h : IsSound n s) (k : ℕ) where
  falls_here : (w : ℕ) (x : Hold) → holding s w ≡ Some x → can_release n x ≡ true
      → missing_of (released n s w x) k + same k (next_told n x) ≡ missing_of s k
  falls_here w x e t =
      let f = holds_found s w x e in
      let j : ℕ = next_told n x in
      let left = ltb-true x.released (length (succs_of n x.strand)) (and_parts _ _ t).1 in
      let next = next_waits n ok s (steady n s h) x.strand w x.published x.released f.1 left in
      let some = next.misses in
      elim (cases_eq k j) [
        | inl is ↦ (
            let y = same_yes k j is in
            let P : ℕ → Type 0 = λ i. get_or (set s.missing j (missing_of s j - 1)) i 0 + 1
            ≡ missing_of s i in
            let less : missing_of (released n s w x) k + 1 ≡ missing_of s k =
            subst P (sym is) (let a = get_or-set_same s.missing j
            (missing_of s j - 1) 0 next.near in omega arith) in
            omega arith)
        | inr ne ↦ (
            let z = same_no k j ne in
            let a = get_or-set_other s.missing j k (missing_of s j - 1) 0 ne in omega arith)
      ]

  release_falls : (w : ℕ) (o : Option Hold)
      → ((x : Hold) → o ≡ Some x → can_release n x ≡ true
      → missing_of (released n s w x) k + same k (next_told n x) ≡ missing_of s k)
      → missing_of (cond (option_map_or (can_release n) o false)
      (option_map_or (released n s w) o s) s) k + option_map_or (tells_next n k) o 0
      ≡ missing_of s k
  release_falls w None here = omega arith
  release_falls w (Some x) here =
      by_test (λ b. missing_of (cond b (released n s w x) s) k + cond b (same k (next_told n x)) 0
      ≡ missing_of s k) (can_release n x)
      (λ t. here x refl t) (λ _. omega arith)

  pub falls : (e : Event) → missing_of (after n s e) k + tells n s e k ≡ missing_of s k
  falls (Take w j) = cond_cases (λ t. missing_of t k + 0 ≡ missing_of s k)
      (is_enabled n s (Take w j)) (turned s j (Held w 0 0)) s (λ _. omega arith) (λ _. omega arith)
  falls (Publish w v) = holds_after (λ t. missing_of t k + 0 ≡ missing_of s k) (holding s w)
      (can_publish n) (published n s w v) s (omega arith) (λ x e t. omega arith)
  falls (Release w) = release_falls w (holding s w) (falls_here w)
  falls (Finish w) = holds_after (λ t. missing_of t k + 0 ≡ missing_of s k) (holding s w)
      (can_finish n) (λ x. turned s x.strand Done) s (omega arith) (λ x e t. omega arith)
  falls (Refuse w) = holds_after (λ t. missing_of t k + 0 ≡ missing_of s k)
      (holding s w) can_refuse (refused s) s (omega arith) (λ x e t. omega arith)

tells_if : (n : Net) (k : ℕ) (o : Option Hold) → option_map_or (tells_next n k) o 0 ≤ 1
tells_if n k None = omega arith
tells_if n k (Some x) = by_test (λ b. cond b (same k (next_told n x)) 0 ≤ 1) (can_release n x)
    (λ _. same_le k (next_told n x)) (λ _. omega arith)

tells_le : (n : Net) (s : State) (e : Event) (k : ℕ) → tells n s e k ≤ 1
tells_le n s (Take w j) k = omega arith
tells_le n s (Publish w v) k = omega arith
tells_le n s (Release w) k = tells_if n k (holding s w)
tells_le n s (Finish w) k = omega arith
tells_le n s (Refuse w) k = omega arith

-- 1 where nothing is missing, else 0
gone : ℕ → ℕ
gone m = cond (m == 0) 1 0

gone_yes : (m : ℕ) → m ≡ 0 → gone m ≡ 1
unfolding gone
gone_yes m e = ap (λ (b : Bool). cond b 1 0) (eq-eqb m 0 e)

gone_no : (m : ℕ) → m ≢ 0 → gone m ≡ 0
unfolding gone
gone_no m ne = ap (λ (b : Bool). cond b 1 0) (ne_eqb m 0 ne)

finds_one : (m m' d : ℕ) → d ≤ 1 → m' + d ≡ m → cond (m == 1) d 0 + gone m ≡ gone m'
finds_one m m' d le e = elim (cases_eq d 0) [
  | inl z ↦ (let a = cond_none (m == 1) d z in let q : m' ≡ m = omega arith in let b = ap gone q in
      omega arith)
  | inr nz ↦ (let g = gone_no m (λ q. omega arith) in elim (cases_eq m 1) [
    | inl is ↦ (let a = ap (λ (b : Bool). cond b d 0) (eq-eqb m 1 is) in
        let b = gone_yes m' (omega arith) in omega arith)
    | inr ne ↦ (let a = ap (λ (b : Bool). cond b d 0) (ne_eqb m 1 ne) in
        let b = gone_no m' (λ q. ne (omega arith)) in omega arith)
  ])
]

pub told_all : (n : Net) → IsNet n → (s : State) → IsSound n s → (es : List Event) (k : ℕ)
    → times_told n s es k + missing_of (after_all n s es) k ≡ missing_of s k
told_all n ok s h [] k = omega arith
told_all n ok s h (e ∷ es) k = let r = told_all n ok (after n s e) (keeps_sound n ok s h e) es k in
    let a = falls n ok s h k e in omega arith

ready_all : (n : Net) → IsNet n → (s : State) → IsSound n s → (es : List Event) (k : ℕ)
    → times_ready n s es k + gone (missing_of s k) ≡ gone (missing_of (after_all n s es) k)
ready_all n ok s h [] k = omega arith
ready_all n ok s h (e ∷ es) k = let r =
    ready_all n ok (after n s e) (keeps_sound n ok s h e) es k in
    let a = finds_one (missing_of s k) (missing_of (after n s e) k) (tells n s e k)
    (tells_le n s e k) (falls n ok s h k e) in omega arith

module _ (n : Net) (ok : IsNet n) (s : State) (h : IsSound n s) (es : List Event) (k : ℕ)
    (some : 0 < missing_of s k) where
  pub ready_once : missing_of (after_all n s es) k ≡ 0 → times_ready n s es k ≡ 1
  ready_once e = let r = ready_all n ok s h es k in
      let a = gone_no (missing_of s k) (λ q. omega arith) in
      let b = gone_yes (missing_of (after_all n s es) k) e in omega arith

  pub ready_never : 0 < missing_of (after_all n s es) k → times_ready n s es k ≡ 0
  ready_never e = let r = ready_all n ok s h es k in
      let a = gone_no (missing_of s k) (λ q. omega arith) in
      let b = gone_no (missing_of (after_all n s es) k) (λ q. omega arith) in omega arith
