-- The strand that a worker holds, and an event of a worker that may hold none
use Rattle.std.proofs.Common.{◌≡◌, ◌≢◌, ℕ, zero, suc, ◌+◌, ◌<◌, Bool, true, false, cond, ◌==◌, List}
use Rattle.std.proofs.Common.{[], ◌∷◌, length, get_or, refl, sym, ◌∙◌, ap, subst, inl, inr, arith}
use Rattle.std.proofs.Common.{Option, Some, None, is_none, unwrap_or, ◌⊎◌}
use Rattle.std.specs.Option.{option_map_or}
use Rattle.std.proofs.lemmas.Bool.{cases_Bool, eqb-true, eqb-false}
use Rattle.flow_core.specs.declared.state.Phase.{Phase}
use Rattle.flow_core.specs.declared.state.Phase.TheVariants.{Waiting, Held, Done, Refused}
use Rattle.flow_core.specs.declared.state.State.{State}
use Rattle.flow_core.specs.declared.state.Hold.{Hold}
use Rattle.flow_core.specs.Core.{phase_of}
use Rattle.flow_core.specs.Events.{hold, hold_or, first_held, holding}

-- the strand h, among the phases numbered from k on
abbrev Found : ℕ → ℕ → List Phase → Hold → Type 0
Found w k ps h = (i : ℕ) × (i < length ps) × (h.strand ≡ k + i)
    × (get_or ps i Waiting ≡ Held w h.published h.released)

later : (w k : ℕ) (p : Phase) (ps : List Phase) (h : Hold) → Found w (k + 1) ps h
    → Found w k (p ∷ ps) h
later w k p ps h r = (suc r.0, (let q = r.1 in omega arith), (let q = r.2 in omega arith), r.3)

found_or : (w k : ℕ) (p : Phase) (ps : List Phase) (o : Option Hold) (h : Hold)
    → ((h : Hold) → o ≡ Some h → Found w (k + 1) ps h) → hold_or w k p o ≡ Some h
    → Found w k (p ∷ ps) h
found_or w k Waiting ps o h there e = later w k Waiting ps h (there h e)
found_or w k (Held v a b) ps o h there e = elim (cases_Bool (v == w)) [
  | inl t ↦ let is : hold k a b ≡ h = ap (λ (y : Option Hold). unwrap_or y h)
      (sym (ap (λ (c : Bool). cond c (Some (hold k a b)) o) t) ∙ e) in
      let v-is = eqb-true v w t in (
        0,
        omega arith,
        (let x : h.strand ≡ k = ap (λ (y : Hold). y.strand) (sym is) in
            omega arith),
        λ i. Held (v-is i) (is i).published (is i).released,
      )
  | inr f ↦ later w k (Held v a b) ps h
      (there h (sym (ap (λ (c : Bool). cond c (Some (hold k a b)) o) f) ∙ e))
]
found_or w k Done ps o h there e = later w k Done ps h (there h e)
found_or w k Refused ps o h there e = later w k Refused ps h (there h e)

first_found : (w k : ℕ) (ps : List Phase) (h : Hold) → first_held w k ps ≡ Some h → Found w k ps h
first_found w k [] h e = cc
first_found w k (p ∷ ps) h e = found_or w k p ps (first_held w (k + 1) ps) h
    (λ h' e'. first_found w (k + 1) ps h' e') e

-- the worker holds the strand that is found
pub holds_found : (s : State) (w : ℕ) (h : Hold) → holding s w ≡ Some h
    → (h.strand < length s.phase) × (phase_of s h.strand ≡ Held w h.published h.released)
holds_found s w h e = let r = first_found w 0 s.phase h e in let near = r.1 in let same = r.2 in
    let at : h.strand ≡ r.0 = omega arith in
    (omega arith, subst (λ (k : ℕ). phase_of s k ≡ Held w h.published h.released) (sym at) r.3)

none_or : (w k : ℕ) (p : Phase) (o : Option Hold) → hold_or w k p o ≡ None
    → (o ≡ None) × ((a b : ℕ) → p ≢ Held w a b)
none_or w k Waiting o e = (e, λ a b q. cc)
none_or w k (Held v x y) o e = elim (cases_Bool (v == w)) [
  | inl t ↦ let e' : Some (hold k x y) ≡ None =
      sym (ap (λ (c : Bool). cond c (Some (hold k x y)) o) t) ∙ e in cc
  | inr f ↦ (
    sym (ap (λ (c : Bool). cond c (Some (hold k x y)) o) f) ∙ e,
    λ a b q. let v-is : v
        ≡ w = cc in eqb-false v w f v-is,
  )
]
none_or w k Done o e = (e, λ a b q. cc)
none_or w k Refused o e = (e, λ a b q. cc)

first_none : (w k : ℕ) (ps : List Phase) → first_held w k ps ≡ None → (i a b : ℕ)
    → get_or ps i Waiting ≢ Held w a b
first_none w k [] e i a b = λ q. cc
first_none w k (p ∷ ps) e zero a b = λ q. (none_or w k p (first_held w (k + 1) ps) e).1 a b q
first_none w k (p ∷ ps) e (suc i) a b =
    λ q. first_none w (k + 1) ps (none_or w k p (first_held w (k + 1) ps) e).0 i a b q

pub holds_none : (s : State) (w : ℕ) → holding s w ≡ None → (k a b : ℕ) → phase_of s k ≢ Held w a b
holds_none s w e k a b = first_none w 0 s.phase e k a b

pub cases_hold : (o : Option Hold) → (o ≡ None) ⊎ ((h : Hold) × (o ≡ Some h))
cases_hold None = inl refl
cases_hold (Some h) = inr (h, refl)

-- a worker that holds a strand is found with it
pub finds_held : (s : State) (w k a b : ℕ) → ((j k a b a' b' : ℕ) → phase_of s j ≡ Held w a b
    → phase_of s k ≡ Held w a' b' → j ≡ k) → phase_of s k ≡ Held w a b
    → holding s w ≡ Some (hold k a b)
finds_held s w k a b one is = elim (cases_hold (holding s w)) [
  | inl e ↦ absurd (holds_none s w e k a b is)
  | inr r ↦ let h : Hold = r.0 in let f = (holds_found s w h r.1).1 in
      let at : h.strand ≡ k = one h.strand k h.published h.released a b f is in
      let f' : phase_of s k ≡ Held w h.published h.released =
      subst (λ (j : ℕ). phase_of s j ≡ Held w h.published h.released) at f in
      let p : h.published ≡ a = cc in let q : h.released ≡ b = cc in
      let same : h ≡ hold k a b = λ i. record { strand = at i; published = p i; released = q i } in
      r.1 ∙ ap Some same
]

pub is_none_true : (o : Option Hold) → is_none o ≡ true → o ≡ None
is_none_true None e = refl
is_none_true (Some h) e = cc

pub cond_cases : {A : Type 0} (P : A → Type 0) (b : Bool) (x y : A) → (b ≡ true → P x)
    → (b ≡ false → P y) → P (cond b x y)
cond_cases P true x y h k = h refl
cond_cases P false x y h k = k refl

-- what holds of a state before an event of a worker, and after its effect where the worker holds a
-- strand that passes the event's test, holds after the event
pub holds_after : (P : State → Type 0) (o : Option Hold) (test : Hold → Bool) (f : Hold
    → State) (s : State) → P s → ((h : Hold) → o ≡ Some h → test h ≡ true → P (f h))
    → P (cond (option_map_or test o false) (option_map_or f o s) s)
holds_after P None test f s before h = before
holds_after P (Some x) test f s before h = cond_cases P (test x) (f x) s (λ t. h x refl t)
    (λ _. before)
