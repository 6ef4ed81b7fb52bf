-- The start values of a state
use Rattle.std.proofs.Common.{◌≡◌, ◌≢◌, ℕ, zero, suc, ◌+◌, ◌<◌, true, false, List, []}
use Rattle.std.proofs.Common.{◌∷◌, length, take, get_or, refl, sym, ◌∙◌, ap, subst, inl, inr, arith}
use Rattle.std.proofs.Common.{Option, Some, None, is_some}
use Rattle.std.proofs.lemmas.Bool.{cases_eq}
use Rattle.flow_core.specs.Counts.{IsIn}
use Rattle.flow_core.specs.Net.{Net, IsNet, writes_of}
use Rattle.flow_core.specs.Events.{CanStart}
use Rattle.flow_core.proofs.Totals.{same_no, times_more, is_in_at}

pub read_at : {A : Type 0} (xs : List A) (i : ℕ) (x d : A) → i < length xs → x ≡ get_or xs i x
    → x ≡ get_or xs i d
read_at [] i x d near is = absurd (omega arith)
read_at (y ∷ ys) zero x d near is = is
read_at (y ∷ ys) (suc i) x d near is = read_at ys i x d (omega arith) is

none_if : (o : Option ℕ) → is_some o ≡ false → o ≡ None
none_if None e = refl
none_if (Some x) e = cc

some_not : (o : Option ℕ) → is_some o ≡ true → o ≢ None
some_not None e = cc
some_not (Some x) e = λ q. cc

module _ (n : Net) (ok : IsNet n) (k : ℕ) (cells : List ℕ) (at : cells ≡ writes_of n k) (i : ℕ)
    (near : i < length cells) where
  pub written_near : get_or cells i 0 < n.cells
  written_near = let P : List ℕ → Type 0 = λ ws. (c : ℕ) → IsIn c ws → c < n.cells in
      subst P (sym at) (ok.writes_near k) (get_or cells i 0) (is_in_at cells i near)

  pub started_no : (start : List (Option ℕ)) (o : Option ℕ) → length start ≡ n.cells
      → o ≡ get_or start (get_or cells i 0) o → is_some o ≡ true → CanStart n start → ⊥
  started_no start o each is some can = let l = written_near in
      let P : List ℕ → Type 0 = λ ws. (c : ℕ) → IsIn c ws → get_or start c None ≡ None in
      let none-there = subst P (sym at) (can.free k) (get_or cells i 0) (is_in_at cells i near) in
      some_not o some (read_at start (get_or cells i 0) o None (omega arith) is ∙ none-there)

  pub started_more : (start : List (Option ℕ)) (o : Option ℕ) → length start ≡ n.cells
      → o ≡ get_or start (get_or cells i 0) o → is_some o ≡ false
      → ((c : ℕ) → IsIn c (take i (writes_of n k)) → get_or start c None ≡ None)
      → (c : ℕ) → IsIn c (take (i + 1) (writes_of n k)) → get_or start c None ≡ None
  started_more start o each is none-here before = let l = written_near in
      let P : List ℕ → Type 0 = λ ws. ((c : ℕ) → IsIn c (take i ws) → get_or start c None ≡ None)
      → (c : ℕ) → IsIn c (take (i + 1) ws) → get_or start c None ≡ None in
      subst P at (λ h c here. let m = times_more c i cells near in
      elim (cases_eq c (get_or cells i 0)) [
        | inl e ↦ ap (λ (d : ℕ). get_or start d None) e
            ∙ sym (read_at start (get_or cells i 0) o None (omega arith) is) ∙ none_if o none-here
        | inr ne ↦ (let z = same_no c (get_or cells i 0) ne in h c (omega arith))
      ]) before
