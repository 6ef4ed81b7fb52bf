-- Adding to a row step by step.
use Rattle.std.proofs.Common.{◌≡◌, ℕ, ◌+◌, ◌%◌, ◌<◌, List, length, slice_index, refl, sym, ap, ◌∙◌}
use Rattle.std.proofs.Common.{arith, ⊎_elim, lit<, map, replicate}
use Rattle.std.proofs.Math.Nat.{mod-add-mod, mod-lt, mod-eq_of_lt}
use Rattle.std.proofs.lemmas.List.{get_or_past, get_or-replicate, length-replicate}
use Rattle.std.proofs.lemmas.List.FromFn.{fill_by_all}
use Rattle.std.specs.List.{range_with_len}
use Rattle.std.proofs.lemmas.Bool.{cases_lt}
use Rattle.gold_field.specs.declared.gold.TheConstants.{P}
use Rattle.lig_layout.specs.Adding.{IsReduced, Adds}

-- g has been added to the old row, but for f, which is left
pub record Owes (f g : ℕ → ℕ) (old new : List ℕ) : Type 0 where
  pub count : length new ≡ length old
  pub reduced : IsReduced new
  pub sums : (place : ℕ) → place < length old → (slice_index new place + f place) % P
      ≡ (slice_index old place + g place) % P

pub owes_all : (g : ℕ → ℕ) (row : List ℕ) → IsReduced row → Owes g g row row
owes_all g row reduced = record { count = refl; reduced = reduced; sums = λ place h. refl }

pub reduced_after : (f : ℕ → ℕ) (old new : List ℕ) → Adds f old new → IsReduced new
reduced_after f old new adds = λ place. ⊎_elim
    (λ within. let n : ℕ = slice_index old place + f place in let low : n % P < P =
    mod-lt n (lit< tt) in omega (arith, adds.sums place within, low))
    (λ past. omega (arith, get_or_past new place 0 (omega (arith, adds.count, past))))
    (cases_lt place (length old))

-- h was added of what was left
pub owes_less : (f g h k : ℕ → ℕ) (a b c : List ℕ) → Owes f g a b → Adds h b c
    → ((place : ℕ) → f place ≡ h place + k place) → Owes k g a c
owes_less f g h k a b c owes adds split = record {
  count = adds.count ∙ owes.count;
  reduced = reduced_after h b c adds;
  sums = λ place within.
      let inside : place < length b = omega (arith, owes.count, within) in
      ap (λ x. (x + k place) % P) (adds.sums place inside)
      ∙ mod-add-mod (slice_index b place + h place) P (k place)
      ∙ ap (λ x. x % P) (omega (arith, split place))
      ∙ owes.sums place within;
}

-- nothing is left
pub owes_nothing : (f g : ℕ → ℕ) (a b : List ℕ) → Owes f g a b → ((place : ℕ) → f place ≡ 0)
    → Adds g a b
owes_nothing f g a b owes none = record {
  count = owes.count;
  sums = λ place within.
      sym (mod-eq_of_lt (owes.reduced place))
      ∙ ap (λ x. x % P) (omega (arith, none place))
      ∙ owes.sums place within;
}

-- one sum after another
pub adds_then : (f g : ℕ → ℕ) (a b c : List ℕ) → Adds f a b → Adds g b c
    → Adds (λ place. f place + g place) a c
adds_then f g a b c first second = record {
  count = second.count ∙ first.count;
  sums = λ place within.
      let inside : place < length b = omega (arith, first.count, within) in
      second.sums place inside
      ∙ ap (λ x. (x + g place) % P) (first.sums place within)
      ∙ mod-add-mod (slice_index a place + f place) P (g place)
      ∙ ap (λ x. x % P) (omega arith);
}

pub adds_same : (f g : ℕ → ℕ) (a b : List ℕ) → ((place : ℕ) → f place ≡ g place) → Adds f a b
    → Adds g a b
adds_same f g a b same adds = record {
  count = adds.count;
  sums = λ place within. adds.sums place within
      ∙ ap (λ x. (slice_index a place + x) % P) (same place);
}

-- what is added to zeros
pub adds_to_zeros : (f : ℕ → ℕ) (n : ℕ) (new : List ℕ) → Adds f (replicate n 0) new
    → new ≡ map (λ place. f place % P) (range_with_len 0 n)
adds_to_zeros f n new adds =
    fill_by_all (λ place. f place % P) new n 0 (adds.count ∙ length-replicate {A = ℕ} n 0)
    (λ place within.
    let inside : place < length (replicate n 0) =
    omega (arith, length-replicate {A = ℕ} n 0, within) in
    adds.sums place inside ∙ ap (λ x. (x + f place) % P) (get_or-replicate n place 0 0 within)
    ∙ ap (λ x. x % P) (omega arith))
