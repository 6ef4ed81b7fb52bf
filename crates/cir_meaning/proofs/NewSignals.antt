-- The numbers of a signal that is declared are those that follow in its group.
use Rattle.std.proofs.Common.{◌≡◌, ℕ, zero, suc, ◌+◌, ◌*◌, ◌≤◌, ◌<◌, Bool, true, false, cond, List}
use Rattle.std.proofs.Common.{[], ◌∷◌, length, replicate, None, refl, sym, ap, subst, ◌∙◌, arith}
use Rattle.std.proofs.Common.{Option}
use Rattle.std.specs.Prelude.{max, fold}
use Rattle.std.proofs.lemmas.Bool.{ltb-true}
use Rattle.std.proofs.Math.Nat.{le-mul_of_pos_right, mul-zero}
use Rattle.cir_ast.specs.declared.program.Spot.{Spot}
use Rattle.cir_ast.specs.declared.operators.Direction.{Direction}
use Rattle.cir_meaning.specs.Limits.{count_sum, is_too_large, size_of}
use Rattle.cir_meaning.specs.Places.{elements}
use Rattle.cir_meaning.specs.Frame.{Signals, Sizes, World, Context, Maker, before_group, size_in}
use Rattle.cir_meaning.specs.Frame.{more_in, put_at, entry_at, is_input}
use Rattle.cir_meaning.specs.Declaring.{new_signal, with_row}
use Rattle.cir_meaning.specs.Run.{RunPart}
use Rattle.cir_meaning.proofs.GroupSizes.{Less, more_less, more_fits, more_here}
use Rattle.cir_meaning.proofs.Weights.{inside, cover, cover_entries, cover_put, under, under_more}
use Rattle.cir_meaning.proofs.Weights.{Bounded, bounded_before, sum_exact}
use Rattle.cir_meaning.proofs.Standing.{Start, parts_weight, Numbered}
use Rattle.cir_meaning.proofs.PartWeights.{more_earlier}

-- an array that has elements is as large as these tell
fold_few : (dims : List ℕ) (a n : ℕ) → a ≤ n → 0 < elements dims → elements dims ≤ n
    → fold max a dims ≤ n
fold_few [] a n first some few = first
fold_few (d ∷ ds) a n first some few =
    at d (elements ds) refl some few (λ b h g l. fold_few ds b n h g l)
  where
    at : (c e : ℕ) → elements ds ≡ e → 0 < c * e → c * e ≤ n
        → ((b : ℕ) → b ≤ n → 0 < elements ds → elements ds ≤ n → fold max b ds ≤ n)
        → fold max (max a c) ds ≤ n
    at zero e same some few go = absurd (omega arith)
    at (suc c) zero same some few go =
        let none : suc c * 0 ≡ 0 = mul-zero (suc c) in absurd (omega arith)
    at (suc c) (suc e) same some few go =
        let one : suc c ≤ suc c * suc e = le-mul_of_pos_right (suc c) (omega arith) in
        let rest : suc e ≤ suc c * suc e = omega arith in
        go (max a (suc c)) (omega arith) (omega arith) (omega arith)

large_none : (dims : List ℕ) → is_too_large dims ≡ true → elements dims ≤ 1048576
    → elements dims ≡ 0
large_none dims large few = at (elements dims) refl
  where
    at : (e : ℕ) → elements dims ≡ e → elements dims ≡ 0
    at zero same = same
    at (suc e) same =
        let less : 1048576 < size_of dims = ltb-true 1048576 (size_of dims) large in
        let most : fold max 0 dims ≤ 1048576 =
        fold_few dims 0 1048576 (omega arith) (omega arith) few in absurd (omega arith)

replicated : (n : ℕ) (b : Bool) → length (replicate n b) ≡ n
replicated zero b = refl
replicated (suc n) b = ap (λ (m : ℕ). suc m) (replicated n b)

pub new_exact : (dims : List ℕ) (b : Bool) → elements dims ≤ 1048576
    → length (cond (is_too_large dims) [] (replicate (elements dims) b)) ≡ elements dims
new_exact dims b few = at (is_too_large dims) refl
  where
    at : (c : Bool) → is_too_large dims ≡ c
        → length (cond c [] (replicate (elements dims) b)) ≡ elements dims
    at true e = sym (large_none dims e few)
    at false e = replicated (elements dims) b

sum_new : (c parts first now then new all : ℕ) → c + (parts + first) ≡ now → all ≡ c + new
    → then ≡ now + new → all + (parts + first) ≡ then
sum_new c parts first now then new all h a t = omega arith

-- a signal that is declared
pub new_numbered : (make : Option Maker) (start : Start) (k : Context) (spot : Spot)
    (direction : Direction) (n : ℕ) (name dims : List ℕ) (world : World) (sizes : Sizes)
    (signals : Signals) (qs : List RunPart) → k.group_size ≡ start.size → world.sizes ≡ sizes
    → entry_at signals n ≡ None → Numbered make start sizes signals qs
    → Numbered make start (with_row k direction name dims world).sizes
    (put_at n (new_signal k spot direction name dims world) signals) qs
new_numbered make start k spot direction n name dims world sizes signals qs sized same none h =
    subst (λ s. Numbered make start (more_in (k.group direction name) (elements dims) s)
    (put_at n (new_signal k spot direction name dims world) signals) qs) (sym same) (
      more_fits (k.group direction name) (elements dims) sizes h.0,
      more_earlier make sizes (more_in (k.group direction name) (elements dims) sizes) qs grows
          h.1,
      weighs,
    )
  where
    grows : Less sizes (more_in (k.group direction name) (elements dims) sizes)
    grows = more_less (k.group direction name) (elements dims) sizes h.0

    exact : Bounded (more_in (k.group direction name) (elements dims) sizes)
        → (count_sum (size_in (k.group direction name) sizes) (elements dims)
        ≡ size_in (k.group direction name) sizes + elements dims) × (elements dims ≤ 1048576)
    exact few =
        let here : size_in (k.group direction name)
        (more_in (k.group direction name) (elements dims) sizes)
        ≡ count_sum (size_in (k.group direction name) sizes) (elements dims) =
        more_here (k.group direction name) (elements dims) sizes in
        let most : size_in (k.group direction name)
        (more_in (k.group direction name) (elements dims) sizes) ≤ 1048576 =
        few (k.group direction name) in
        let sum : count_sum (size_in (k.group direction name) sizes) (elements dims)
        ≡ size_in (k.group direction name) sizes + elements dims =
        sum_exact (size_in (k.group direction name) sizes) (elements dims)
        (subst (λ (x : ℕ). x ≤ 1048576) here most) in (
          sum,
          small (size_in (k.group direction name) sizes) (elements dims)
              (subst (λ (x : ℕ). x ≤ 1048576) (here ∙ sum) most),
        )
      where
        small : (a b : ℕ) → a + b ≤ 1048576 → b ≤ 1048576
        small a b h = omega arith

    weighs : Bounded (more_in (k.group direction name) (elements dims) sizes) → (m : ℕ)
        → cover_entries m (put_at n (new_signal k spot direction name dims world) signals)
        + (parts_weight make start.size m qs + under start.size start.world.sizes m)
        ≡ under start.size (more_in (k.group direction name) (elements dims) sizes) m
    weighs few m =
        sum_new (cover_entries m signals) (parts_weight make start.size m qs)
        (under start.size start.world.sizes m) (under start.size sizes m)
        (under start.size (more_in (k.group direction name) (elements dims) sizes) m)
        (cover m (new_signal k spot direction name dims world))
        (cover_entries m (put_at n (new_signal k spot direction name dims world) signals))
        (h.2 (bounded_before sizes (more_in (k.group direction name) (elements dims) sizes) grows
        few) m)
        (cover_put m n (new_signal k spot direction name dims world) signals none)
        (under_more start.size (k.group direction name) (elements dims) sizes m (exact few).0
        ∙ ap (λ (x : ℕ). under start.size sizes m + x) (sym covers))
      where
        covers : cover m (new_signal k spot direction name dims world)
            ≡ inside m (1 + before_group start.size (k.group direction name)
            + size_in (k.group direction name) sizes) (elements dims)
        covers =
            ap (inside m (new_signal k spot direction name dims world).first)
            (new_exact dims (is_input direction) (exact few).1)
            ∙ ap (λ (s : ℕ). inside m (1 + before_group s (k.group direction name)
            + size_in (k.group direction name) world.sizes) (elements dims)) sized
            ∙ ap (λ (s : Sizes). inside m (1 + before_group start.size (k.group direction name)
            + size_in (k.group direction name) s) (elements dims)) same
