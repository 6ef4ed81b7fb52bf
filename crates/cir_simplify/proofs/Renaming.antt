-- Terms renamed one after the other, and constraints.
use Rattle.std.proofs.Common.{◌≡◌, ℕ, zero, suc, ◌+◌, ◌<◌, ◌≤◌, ◌||◌, not, Bool, true, false, List}
use Rattle.std.proofs.Common.{[], ◌∷◌, ◌++◌, map, length, get_or, set, arith, refl, ap, sym, ◌∙◌}
use Rattle.std.proofs.Common.{append_assoc, subst}
use Rattle.gold_field.specs.Form.{SignalsBelow}
use Rattle.gold_field.specs.declared.form.Term.{Term}
use Rattle.gold_field.specs.declared.form.Constraint.{Constraint}
use Rattle.cir_simplify.specs.declared.types.Level.{Level}
use Rattle.cir_simplify.specs.declared.types.Level.TheVariants.{O0, O1, O2}
use Rattle.cir_simplify.specs.Turn.{dropped}
use Rattle.cir_simplify.specs.Shape.{is_empty}
use Rattle.cir_simplify.specs.Wires.{keeps_all, renamed}

-- the terms of which the first k are renamed
abbrev pub mixed : (ℕ → ℕ) → ℕ → List Term → List Term
mixed name zero ts = ts
mixed name (suc k) [] = []
mixed name (suc k) (t ∷ ts) = renamed name t ∷ mixed name k ts

mixed_get : (name : ℕ → ℕ) (k : ℕ) (ts : List Term) (d : Term)
    → get_or (mixed name k ts) k d ≡ get_or ts k d
mixed_get name zero ts d = refl
mixed_get name (suc k) [] d = refl
mixed_get name (suc k) (t ∷ ts) d = mixed_get name k ts d

set_mixed : (name : ℕ → ℕ) (k : ℕ) (ts : List Term) (d : Term) → k < length ts
    → set (mixed name k ts) k (renamed name (get_or ts k d)) ≡ mixed name (suc k) ts
set_mixed name zero [] d l = absurd (omega arith)
set_mixed name zero (u ∷ ts) d l = refl
set_mixed name (suc k) [] d l = absurd (omega arith)
set_mixed name (suc k) (u ∷ ts) d l =
    ap (λ (xs : List Term). renamed name u ∷ xs) (set_mixed name k ts d (omega arith))

-- one term more: the one that stands there
pub mixed_more : (name : ℕ → ℕ) (k : ℕ) (ts : List Term) (t : Term) (n : ℕ) → k < length ts
    → t ≡ get_or (mixed name k ts) k t → n ≡ name t.signal
    → set (mixed name k ts) k (record { signal = n; coef = t.coef }) ≡ mixed name (k + 1) ts
mixed_more name k ts t n l e f =
    let next : suc k ≡ k + 1 = omega arith in
    let same : t ≡ get_or ts k t = e ∙ mixed_get name k ts t in
    ap (λ (m : ℕ). set (mixed name k ts) k (record { signal = m; coef = t.coef })) f
    ∙ ap (λ (u : Term). set (mixed name k ts) k (renamed name u)) same
    ∙ set_mixed name k ts t l ∙ ap (λ (m : ℕ). mixed name m ts) next

-- whose signal is among those that have places
pub named_at : (name : ℕ → ℕ) (n k : ℕ) (ts : List Term) (t : Term) → k < length ts
    → t ≡ get_or (mixed name k ts) k t → SignalsBelow n ts → t.signal < n
named_at name n k ts t l e h =
    subst (λ (u : Term). u.signal < n) (sym (e ∙ mixed_get name k ts t)) (h k t l)

pub mixed_all : (name : ℕ → ℕ) (k : ℕ) (ts : List Term) → length ts ≤ k
    → mixed name k ts ≡ map (renamed name) ts
mixed_all name zero [] l = refl
mixed_all name zero (t ∷ ts) l = absurd (omega arith)
mixed_all name (suc k) [] l = refl
mixed_all name (suc k) (t ∷ ts) l =
    ap (λ (xs : List Term). renamed name t ∷ xs) (mixed_all name k ts (omega arith))

-- the first constraint stays in the list, or is dropped
kept_first : (l : Level) (q : Constraint) (qs : List Constraint)
    → (keeps_all l || not (is_empty q)) ≡ true → dropped l (q ∷ qs) ≡ q ∷ dropped l qs
kept_first O0 q qs h = refl
kept_first O1 q qs h = rw h refl
kept_first O2 q qs h = rw h refl

gone_first : (l : Level) (q : Constraint) (qs : List Constraint)
    → (keeps_all l || not (is_empty q)) ≡ false → dropped l (q ∷ qs) ≡ dropped l qs
gone_first O0 q qs h = cc
gone_first O1 q qs h = rw h refl
gone_first O2 q qs h = rw h refl

pub stays_more : (f : Constraint → Constraint) (l : Level) (q k : Constraint)
    (rest qs done new all : List Constraint) (b : Bool) → qs ≡ q ∷ rest → b ≡ true
    → b ≡ (keeps_all l || not (is_empty q)) → k ≡ f q → new ≡ done ++ k ∷ []
    → all ≡ done ++ map f (dropped l qs) → all ≡ new ++ map f (dropped l rest)
stays_more f l q k rest qs done new all b e t g h n a =
    a ∙ ap (λ (v : List Constraint). done ++ map f (dropped l v)) e
    ∙ ap (λ (v : List Constraint). done ++ map f v) (kept_first l q rest (sym g ∙ t))
    ∙ sym (append_assoc done (f q ∷ []) (map f (dropped l rest)))
    ∙ ap (λ (x : Constraint). (done ++ x ∷ []) ++ map f (dropped l rest)) (sym h)
    ∙ ap (λ (v : List Constraint). v ++ map f (dropped l rest)) (sym n)

pub goes_more : (f : Constraint → Constraint) (l : Level) (q : Constraint)
    (rest qs done all : List Constraint) (b : Bool) → qs ≡ q ∷ rest → b ≡ false
    → b ≡ (keeps_all l || not (is_empty q)) → all ≡ done ++ map f (dropped l qs)
    → all ≡ done ++ map f (dropped l rest)
goes_more f l q rest qs done all b e t g a =
    a ∙ ap (λ (v : List Constraint). done ++ map f (dropped l v)) e
    ∙ ap (λ (v : List Constraint). done ++ map f v) (gone_first l q rest (sym g ∙ t))

pub none_dropped : (l : Level) → dropped l [] ≡ []
none_dropped O0 = refl
none_dropped O1 = refl
none_dropped O2 = refl
