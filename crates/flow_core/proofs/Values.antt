-- A cell has at most one value
use Rattle.std.proofs.Common.{◌≡◌, ℕ, List, [], get_or, sym, ◌∙◌, ap, subst}
use Rattle.std.proofs.Common.{inl, inr, Option, Some, None, unwrap_or}
use Rattle.flow_core.specs.Counts.{IsIn}
use Rattle.flow_core.specs.Net.{IsNet, writes_of}
use Rattle.flow_core.specs.Flow.{Flow, IsFlow, Answer, Unreached, Refuses, Gives, Writes, HasValue}
use Rattle.flow_core.specs.Flow.{start_of}
use Rattle.flow_core.proofs.Totals.{is_in_at, place_once}

abbrev given : Answer → List ℕ
given Unreached = []
given Refuses = []
given (Gives xs) = xs

pub writes_in : (f : Flow) (c x k : ℕ) → Writes f c x k → IsIn c (writes_of f.net k)
writes_in f c x k w = let P : ℕ → Type 0 = λ d. IsIn d (writes_of f.net k) in
    subst P w.cell (is_in_at (writes_of f.net k) w.place w.near)

no_start : (o : Option ℕ) (x : ℕ) → o ≡ Some x → o ≡ None → ⊥
no_start o x e e' = cc

module _ (f : Flow) (ok : IsNet f.net) (flow : IsFlow f) (c : ℕ) where
  by_one : (x y k : ℕ) → Writes f c x k → Writes f c y k → x ≡ y
  by_one x y k v w =
      let ws : List ℕ = writes_of f.net k in
      let at : v.place ≡ w.place = place_once ws v.place w.place
      (ok.writes_once k (get_or ws v.place 0)) v.near w.near (v.cell ∙ sym w.cell) in
      let list : v.values ≡ w.values = ap given (sym v.gives ∙ w.gives) in
      sym v.value ∙ (λ i. get_or (list i) (at i) 0) ∙ w.value

  pub one_value : (x y : ℕ) → HasValue f c x → HasValue f c y → x ≡ y
  one_value x y h g = elim h [
    | inl a ↦ elim g [
      | inl b ↦ ap (λ (o : Option ℕ). unwrap_or o x) (sym a ∙ b)
      | inr w ↦ absurd (no_start (start_of f c) x a
          (flow.written_no_start w.0 c (writes_in f c y w.0 w.1)))
    ]
    | inr v ↦ elim g [
      | inl b ↦ absurd (no_start (start_of f c) y b
          (flow.written_no_start v.0 c (writes_in f c x v.0 v.1)))
      | inr w ↦ (
          let e : v.0 ≡ w.0 = ok.one_writer v.0 w.0 c (writes_in f c x v.0 v.1)
          (writes_in f c y w.0 w.1) in
          let P : ℕ → Type 0 = Writes f c x in by_one x y w.0 (subst P e v.1) w.1)
    ]
  ]
