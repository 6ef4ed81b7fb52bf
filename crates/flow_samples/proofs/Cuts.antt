-- Links can be cut into strands
use Rattle.std.proofs.Common.{◌≡◌, ℕ, zero, suc, ◌+◌, ◌%◌, ◌<◌, ◌≤◌, ◌⊎◌, Bool, true, false}
use Rattle.std.proofs.Common.{List, [], ◌∷◌, ◌++◌, length}
use Rattle.std.proofs.Common.{refl, sym, ◌∙◌, ap, subst, inl, inr, arith, length-append}
use Rattle.std.specs.Prelude.{◌==◌, ◌-◌, nat_lt, not, replicate, slice_index}
use Rattle.std.proofs.lemmas.List.{get_or_push, get_or_append_left, get_or_past}
use Rattle.std.proofs.lemmas.Bool.{cases_lt, lt-ltb}
use Rattle.gold_field.specs.declared.gold.TheConstants.{P}
use Rattle.wit_code.specs.declared.code.Step.{Step}
use Rattle.wit_code.specs.declared.code.Stop.TheVariants.{AssertFails, FuelSpent}
use Rattle.wit_code.specs.declared.frames.Running.TheVariants.{Own}
use Rattle.wit_code.specs.Code.{IsWellFormed}
use Rattle.wit_code.specs.Table.{State, Outcome, Wrote, Stopped, Goes, Over, RunsTo}
use Rattle.wit_code.specs.Table.{outcome_of, start_of, exec, next_of, unless, go_on}
use Rattle.wit_code.proofs.Ends.{ends_so, one_outcome}
use Rattle.flow_core.specs.Counts.{IsIn, times, same}
use Rattle.flow_core.proofs.Totals.{same_yes, same_some, same_le}
use Rattle.wit_flow.specs.Run.{no_step, step_at, reads_at, writes_at}
use Rattle.wit_flow.specs.Cut.{WritesEach, CanCut}
use Rattle.flow_samples.specs.Links.{adds, spins, IsLink, AreLinks}

-- the number v, added so many times
sum : ℕ → ℕ → ℕ → ℕ
sum zero v x = x
sum (suc n) v x = sum n v ((x + v) % P)

-- before the assert
before_assert : ℕ → ℕ → ℕ → State
before_assert t v fuel = record {
  running = Own;
  place = 18;
  frames = record { slots = t ∷ v ∷ []; open_calls = [] };
  units = fuel;
  written = [];
}

said : Bool → ℕ → Outcome
said true t = Wrote (t ∷ [])
said false t = Stopped AssertFails

last : (b : Bool) (v t fuel : ℕ) (xs : List ℕ)
    → next_of (unless AssertFails b (go_on (before_assert t v fuel))) (exec [] (adds v) xs 2)
    ≡ Over (said b t)
unfolding before_assert said
last true v t fuel xs = refl
last false v t fuel xs = refl

said_one : (b : Bool) (t : ℕ) (ys : List ℕ) → Wrote ys ≡ said b t → length ys ≡ 1
unfolding said
said_one true t ys e = let z : ys ≡ t ∷ [] = cc in ap length z
said_one false t ys e = cc

runs : (v fuel : ℕ) (xs : List ℕ)
    → (t : ℕ) × (b : Bool) × RunsTo [] (adds v) xs fuel (said b t)
unfolding sum before_assert
runs v fuel xs =
    let t : ℕ = sum 16 v (slice_index xs 0) in
    let b : Bool = not (t == 0) in
    (t, b, (21, last b v t fuel xs))

adds_one : (v fuel : ℕ) (xs ys : List ℕ) → IsWellFormed [] (length xs) (adds v)
    → outcome_of [] (adds v) xs fuel ≡ Wrote ys → length ys ≡ 1
adds_one v fuel xs ys w e =
    let r = runs v fuel xs in
    let s = ends_so [] (adds v) xs fuel w in
    let start = start_of (adds v) fuel in
    said_one r.1 r.0 ys
    (sym e ∙ one_outcome [] (adds v) xs s.0 r.2.0 start _ _ s.1 r.2.1)

-- with so much fuel, before the jump back
before_jump : ℕ → State
before_jump fuel = record {
  running = Own;
  place = 1;
  frames = record { slots = replicate 1 0; open_calls = [] };
  units = fuel;
  written = [];
}

spins_out : (fuel : ℕ) (xs : List ℕ) → RunsTo [] spins xs fuel (Stopped FuelSpent)
unfolding before_jump
spins_out zero xs = (1, refl)
spins_out (suc f) xs =
    let rest = spins_out f xs in
    let paid : nat_lt 0 (suc f) ≡ true = lt-ltb 0 (suc f) (omega arith) in
    let left : suc f - 1 ≡ f = omega arith in (
      suc (suc rest.0),
      ap (λ b. next_of (unless FuelSpent b (Goes (before_jump (suc f - 1))))
          (exec [] spins xs (suc rest.0))) paid
          ∙ ap (λ u. exec [] spins xs rest.0 (start_of spins u)) left ∙ rest.1,
    )

spins_none : (fuel : ℕ) (xs ys : List ℕ) → IsWellFormed [] (length xs) spins
    → outcome_of [] spins xs fuel ≡ Wrote ys → ⊥
spins_none fuel xs ys w e =
    let r = spins_out fuel xs in
    let s = ends_so [] spins xs fuel w in
    let start = start_of spins fuel in
    let never : Wrote ys ≡ Stopped FuelSpent =
    sym e ∙ one_outcome [] spins xs s.0 r.0 start _ _ s.1 r.1 in cc

link_writes : (s : Step) (k : ℕ) → IsLink s k → WritesEach [] s
link_writes s k l = λ xs ys fuel each below few e.
    let one : length xs ≡ 1 = each ∙ ap length l.reads in
    let fits = subst (λ n. IsWellFormed [] n s.code) (sym one) l.well_formed in
    elim l.code [
      | inl sample ↦ (
          let w = subst (λ c. IsWellFormed [] (length xs) c) sample.1 fits in
          let wrote = ap (λ c. outcome_of [] c xs fuel) (sym sample.1) ∙ e in
          adds_one sample.0 fuel xs ys w wrote ∙ sym (ap length l.writes))
      | inr code ↦ (
          let w = subst (λ c. IsWellFormed [] (length xs) c) code fits in
          let wrote = ap (λ c. outcome_of [] c xs fuel) (sym code) ∙ e in
          absurd (spins_none fuel xs ys w wrote))
    ]

in_one : (c x : ℕ) → IsIn c (x ∷ []) → c ≡ x
in_one c x h = same_some c x (let z : 0 < same c x = omega (arith, h) in z)

one_in : (c x : ℕ) → c ≡ x → IsIn c (x ∷ [])
one_in c x e = omega (arith, same_yes c x e)

one_time : (c x : ℕ) → times c (x ∷ []) ≤ 1
one_time c x = omega (arith, same_le c x)

module _ (steps : List Step) (links : AreLinks steps) where
  there : (k c : ℕ) (part : Step → List ℕ) → part no_step ≡ []
      → IsIn c (part (step_at steps k)) → k < length steps
  there k c part none h = elim (cases_lt k (length steps)) [
    | inl near ↦ near
    | inr far ↦ (
        let past = ap (λ s. times c (part s)) (get_or_past steps k no_step far) in
        let e : times c (part (step_at steps k)) ≡ 0 = past ∙ ap (times c) none in
        absurd (omega (arith, e, h)))
  ]

  read_before : (k c : ℕ) → IsIn c (reads_at steps k) → (k < length steps) × (c ≤ k)
  read_before k c h =
      let near = there k c (λ s. s.reads) refl h in
      let l = links k near in
      let e = in_one c l.from (subst (IsIn c) l.reads h) in
      (near, omega (arith, e, l.earlier))

  written_at : (k c : ℕ) → IsIn c (writes_at steps k) → (k < length steps) × (c ≡ k + 1)
  written_at k c h =
      let near = there k c (λ s. s.writes) refl h in
      let l = links k near in
      (near, in_one c (k + 1) (subst (IsIn c) l.writes h))

  writer : (c : ℕ) → c < length steps + 1
      → IsIn c (0 ∷ []) ⊎ ((k : ℕ) × IsIn c (writes_at steps k))
  writer zero h = inl (one_in 0 0 refl)
  writer (suc k) h =
      let l = links k (omega (arith, h)) in
      inr (k, subst (IsIn (suc k)) (sym l.writes) (one_in (suc k) (k + 1) (omega arith)))

  written_once : (k c : ℕ) → times c (writes_at steps k) ≤ 1
  written_once k c = elim (cases_lt k (length steps)) [
    | inl near ↦ (
        let e = ap (times c) (links k near).writes in
        omega (arith, e, one_time c (k + 1)))
    | inr far ↦ (
        let e = ap (λ (s : Step). times c s.writes) (get_or_past steps k no_step far) in
        omega (arith, e))
  ]

  pub can_cut : length steps < 4294967296 → CanCut steps [] (length steps + 1) (0 ∷ [])
  can_cut few = record {
    few = few;
    starts_near = λ c h. omega (arith, in_one c 0 h);
    reads_near = λ k c h. let r = read_before k c h in omega (arith, r.0, r.1);
    writes_near = λ k c h. let w = written_at k c h in omega (arith, w.0, w.1);
    starts_once = λ c. one_time c 0;
    starts_unwritten = λ k c h g.
        let w = written_at k c g in
        absurd (omega (arith, w.1, in_one c 0 h));
    written = writer;
    written_once = written_once;
    one_writer = λ p q c h g. omega (arith, (written_at p c h).1, (written_at q c g).1);
    written_first = λ p k c h g. omega (arith, (written_at p c h).1, (read_before k c g).1);
    well_formed = λ k near.
        let l = links k near in
        let one = sym (ap length l.reads) in
        subst (λ n. IsWellFormed [] n (step_at steps k).code) one l.well_formed;
    writes_each = λ k near. link_writes (step_at steps k) k (links k near);
  }

-- one more link
pub more_links : (steps : List Step) (s : Step) (n : ℕ) → length steps ≡ n → AreLinks steps
    → IsLink s n → AreLinks (steps ++ s ∷ [])
more_links steps s n e links l = λ k near. elim (cases_lt k (length steps)) [
  | inl before ↦ (
      let same = get_or_append_left steps (s ∷ []) no_step k before in
      subst (λ x. IsLink x k) (sym same) (links k before))
  | inr after ↦ (
      let wide = length-append steps (s ∷ []) in
      let here : k ≡ n = omega (arith, e, near, after, wide) in
      let at : step_at (steps ++ s ∷ []) k ≡ s =
      get_or_push steps s no_step k (omega (arith, e, here)) in
      subst (λ x. IsLink x k) (sym at) (subst (IsLink s) (sym here) l))
]
