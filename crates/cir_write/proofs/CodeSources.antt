-- The code's sources of the elements of a variable, and its new cells.
use Rattle.std.proofs.Common.{◌≡◌, ◌≢◌, ◌⊎◌, inl, inr, ℕ, zero, suc, ◌+◌, ◌==◌, ◌<◌, Bool, cond}
use Rattle.std.proofs.Common.{List, [], ◌∷◌, ◌++◌, map, length, drop, get_or, set, Option, Some}
use Rattle.std.proofs.Common.{None, refl, sym, ap, ◌∙◌, slice_get, slice_index, arith}
use Rattle.std.specs.Prelude.{unwrap_or}
use Rattle.std.proofs.lemmas.Bool.{eq-eqb, ne_eqb}
use Rattle.std.proofs.lemmas.List.{drop_more}
use Rattle.std.proofs.lemmas.Option.{slice_get-get_or, slice_get_past}
use Rattle.cir_meaning.proofs.PartWrites.{get_other, same_or_not}
use Rattle.cir_meaning.proofs.Writing.{get_set}
use Rattle.cir_steps.specs.Step as S
use Rattle.cir_make.specs.declared.cells.Source.{Source}
use Rattle.cir_make.specs.declared.cells.Source.TheVariants as source
use Rattle.cir_make.specs.declared.cells.VariableCells.{VariableCells}
use Rattle.cir_write.specs.Assigned.{HasCells, put_at_places, put_one}
use Rattle.cir_make.specs.Cells.{source_by}
use Rattle.cir_make.specs.Shows.{source_in}
use Rattle.cir_write.proofs.NewCells.{put_same}

-- elements behind the end have none
pub source_longer : (xs : List Source) (k : ℕ)
    → source_in (map source_by (xs ++ source.Constant 0 ∷ [])) k ≡ source_in (map source_by xs) k
source_longer [] zero = refl
source_longer [] (suc k) = refl
source_longer (x ∷ xs) zero = refl
source_longer (x ∷ xs) (suc k) = source_longer xs k

source_got : (xs : List Source) (k : ℕ)
    → source_in (map source_by xs) k ≡ source_by (unwrap_or (slice_get xs k) (source.Constant 0))
source_got [] k = refl
source_got (x ∷ xs) zero = refl
source_got (x ∷ xs) (suc k) = source_got xs k

pub source_put : (xs : List Source) (p cell k : ℕ) → p < length xs
    → source_in (map source_by (set xs p (source.Cell cell))) k
    ≡ put_one p cell (source_in (map source_by xs)) k
source_put xs p cell k h =
    source_got (set xs p (source.Cell cell)) k ∙ at (same_or_not p k)
  where
    shown : Option Source → S.Source
    shown o = source_by (unwrap_or o (source.Constant 0))

    at : (p ≡ k) ⊎ (p ≢ k) → source_by (unwrap_or (slice_get (set xs p (source.Cell cell)) k)
        (source.Constant 0)) ≡ put_one p cell (source_in (map source_by xs)) k
    at (inl e) =
        ap (λ (i : ℕ). source_by (unwrap_or (slice_get (set xs p (source.Cell cell)) i)
        (source.Constant 0))) (sym e)
        ∙ ap (λ (o : Option Source). source_by (unwrap_or o (source.Constant 0)))
        (get_set xs p (get_or xs p (source.Constant 0)) (source.Cell cell)
        (slice_get-get_or xs p (source.Constant 0) h))
        ∙ sym (ap (λ (b : Bool). cond b (S.Cell cell) (source_in (map source_by xs) k))
        (eq-eqb p k e))
    at (inr ne) =
        ap (λ (o : Option Source). source_by (unwrap_or o (source.Constant 0)))
        (get_other xs p k (source.Cell cell) ne)
        ∙ sym (source_got xs k)
        ∙ sym (ap (λ (b : Bool). cond b (S.Cell cell) (source_in (map source_by xs) k))
        (ne_eqb p k ne))

-- one place after the other
pub put_more : (ps : List ℕ) (i first cell k : ℕ) (f g : ℕ → S.Source) → i < length ps
    → cell ≡ first + i → g k ≡ put_one (slice_index ps i) cell f k
    → put_at_places (drop i ps) (first + i) f k ≡ put_at_places (drop (i + 1) ps) (first + (i + 1))
    g k
put_more ps i first cell k f g h is put =
    let more : drop i ps ≡ slice_index ps i ∷ drop (i + 1) ps = drop_more ps i 0 h in
    let next : first + i + 1 ≡ first + (i + 1) = omega arith in
    ap (λ (l : List ℕ). put_at_places l (first + i) f k) more
    ∙ put_same (drop (i + 1) ps) (first + i + 1) (put_one (slice_index ps i) (first + i) f) g k
    (λ apart. ap (λ (c : ℕ). put_one (slice_index ps i) c f k) (sym is) ∙ sym put)
    ∙ ap (λ (c : ℕ). put_at_places (drop (i + 1) ps) c g k) next

-- the variable of this number
pub has_cells : (n first : ℕ) (places : List ℕ) (vs : List VariableCells) (u v : VariableCells)
    → n < length vs → u ≡ get_or vs n u → v.is_lost ≡ u.is_lost
    → ((k : ℕ) → source_in (map source_by v.sources.items) k
    ≡ put_at_places places first (source_in (map source_by u.sources.items)) k)
    → HasCells n places first vs (set vs n v)
has_cells n first places vs u v h is lost put = record {
  others = λ m ne. get_other vs n m v (λ e. ne (sym e));
  itself = λ w at_w kept.
      let there : slice_get vs n ≡ Some u =
      slice_get-get_or vs n u h ∙ ap (λ (x : VariableCells). Some x) (sym is) in
      let now : Some v ≡ Some w = sym (get_set vs n u v there) ∙ at_w in
      let same : v ≡ w = cc in (
        u,
        there,
        sym lost ∙ ap (λ (x : VariableCells). x.is_lost) same ∙ kept,
        λ k. ap (λ (x : VariableCells). source_in (map source_by x.sources.items) k) (sym same)
            ∙ put k,
      );
}

pub no_cells : (n first : ℕ) (places : List ℕ) (vs : List VariableCells)
    → (n < length vs → ⊥) → HasCells n places first vs vs
no_cells n first places vs h = record {
  others = λ m ne. refl;
  itself = λ w at_w kept.
      let none : Some w ≡ None =
      sym at_w ∙ slice_get_past vs n (omega (arith, h)) in absurd (cc);
}
