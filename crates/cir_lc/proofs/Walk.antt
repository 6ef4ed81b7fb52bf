-- The steps of a sum, at the places of a walk over the lists.
use Rattle.std.proofs.Common.{◌≡◌, ℕ, ◌+◌, ◌*◌, ◌%◌, ◌<◌, ◌≤◌, List, [], ◌∷◌, ◌++◌, get_or, drop}
use Rattle.std.proofs.Common.{length, ◌⊎◌, inl, inr, ap, sym, ◌∙◌}
use Rattle.std.proofs.lemmas.List.{drop_more, drop_all, append-nil}
use Rattle.gold_field.specs.declared.form.Term.{Term}
use Rattle.gold_field.specs.declared.gold.TheConstants.{P}
use Rattle.cir_lc.specs.Terms.{term_of}
use Rattle.cir_lc.specs.Merge.{IsMerged}
use Rattle.cir_lc.proofs.Rising.{other_rest}
use Rattle.cir_lc.proofs.Steps.{step_left, step_right, step_both, last_left, before}

pub drop_at : (xs : List Term) (i : ℕ) (x : Term) → i < length xs → x ≡ get_or xs i x
    → drop i xs ≡ x ∷ drop (i + 1) xs
drop_at xs i x h e = drop_more xs i x h ∙ ap (λ (y : Term). y ∷ drop (i + 1) xs) (sym e)

pub walk_left : (k : ℕ) (a b out new : List Term) (i j : ℕ) (x y : Term) → i < length a
    → j < length b → x ≡ get_or a i x → y ≡ get_or b j y → x.signal < y.signal
    → new ≡ out ++ x ∷ [] → IsMerged k a b out (drop i a) (drop j b)
    → IsMerged k a b new (drop (i + 1) a) (drop j b)
walk_left k a b out new i j x y li lj ex ey l e m =
    let eb : drop j b ≡ y ∷ drop (j + 1) b = drop_at b j y lj ey in
    let n : IsMerged k a b out (x ∷ drop (i + 1) a) (y ∷ drop (j + 1) b) =
    rw (drop_at a i x li ex, eb) at m in
    rw (e, eb) (step_left k a b out (drop (i + 1) a) (drop (j + 1) b) x y l n)

pub walk_right : (k : ℕ) (a b out new : List Term) (i j : ℕ) (x y : Term) (c : ℕ) → i < length a
    → j < length b → x ≡ get_or a i x → y ≡ get_or b j y → y.signal < x.signal
    → c ≡ (y.coef * k) % P → new ≡ out ++ term_of y.signal c
    → IsMerged k a b out (drop i a) (drop j b) → IsMerged k a b new (drop i a) (drop (j + 1) b)
walk_right k a b out new i j x y c li lj ex ey l h e m =
    let ea : drop i a ≡ x ∷ drop (i + 1) a = drop_at a i x li ex in
    let n : IsMerged k a b out (x ∷ drop (i + 1) a) (y ∷ drop (j + 1) b) =
    rw (ea, drop_at b j y lj ey) at m in
    rw (e, ea)
    (step_right k a b out (x ∷ drop (i + 1) a) (drop (j + 1) b) y c h
    (before out (drop (i + 1) a) (drop (j + 1) b) x y l n.rises_left n.rises_right) n)

pub walk_both : (k : ℕ) (a b out new : List Term) (i j : ℕ) (x y : Term) (c d : ℕ)
    → i < length a → j < length b → x ≡ get_or a i x → y ≡ get_or b j y → x.signal ≡ y.signal
    → d ≡ (y.coef * k) % P → c ≡ (x.coef + d) % P → new ≡ out ++ term_of x.signal c
    → IsMerged k a b out (drop i a) (drop j b)
    → IsMerged k a b new (drop (i + 1) a) (drop (j + 1) b)
walk_both k a b out new i j x y c d li lj ex ey s g h e m =
    let n : IsMerged k a b out (x ∷ drop (i + 1) a) (y ∷ drop (j + 1) b) =
    rw (drop_at a i x li ex, drop_at b j y lj ey) at m in
    rw e (step_both k a b out (drop (i + 1) a) (drop (j + 1) b) x y c d s g h n)

-- the terms of b alone
pub walk_behind : (k : ℕ) (a b out new : List Term) (i : ℕ) (y : Term) (c : ℕ) → i < length b
    → y ≡ get_or b i y → c ≡ (y.coef * k) % P → new ≡ out ++ term_of y.signal c
    → IsMerged k a b out [] (drop i b) → IsMerged k a b new [] (drop (i + 1) b)
walk_behind k a b out new i y c l ey h e m =
    let n : IsMerged k a b out [] (y ∷ drop (i + 1) b) = rw (drop_at b i y l ey) at m in
    rw e
    (step_right k a b out [] (drop (i + 1) b) y c h
    (other_rest 0 out y (drop (i + 1) b) [] n.rises_right tt) n)

pub walk_past : (k : ℕ) (a b out : List Term) (i : ℕ) → length b ≤ i
    → IsMerged k a b out [] (drop i b) → IsMerged k a b out [] []
walk_past k a b out i l m = rw (drop_all i b l) at m

-- one of the lists is at its end, and the rest of a is appended
pub walk_end : (k : ℕ) (a b out mid : List Term) (i j : ℕ) → (length a ≤ i) ⊎ (length b ≤ j)
    → mid ≡ out ++ drop i a → IsMerged k a b out (drop i a) (drop j b)
    → IsMerged k a b mid [] (drop j b)
walk_end k a b out mid i j (inl h) e m =
    let n : IsMerged k a b out [] (drop j b) = rw (drop_all i a h) at m in
    let g : mid ≡ out = e ∙ ap (λ (r : List Term). out ++ r) (drop_all i a h) ∙ append-nil out in
    rw g n
walk_end k a b out mid i j (inr h) e m =
    let n : IsMerged k a b out (drop i a) [] = rw (drop_all j b h) at m in
    rw (e, drop_all j b h) (last_left k a b out (drop i a) n)
