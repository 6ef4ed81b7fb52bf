-- Constraints over wires.
use Rattle.std.proofs.Common.{◌≡◌, ℕ, ◌*◌, ◌%◌, ◌↔◌, Bool, true, List, [], ◌∷◌, map, All, Ok, arith}
use Rattle.std.proofs.Common.{refl, ap, sym, ◌∙◌}
use Rattle.std.proofs.lemmas.List.Elements.{All-nil, All-cons, All-head, All-tail}
use Rattle.gold_field.specs.declared.form.Term.{Term}
use Rattle.gold_field.specs.declared.form.Constraint.{Constraint}
use Rattle.gold_field.specs.declared.gold.TheConstants.{P}
use Rattle.gold_field.specs.Form.{Holds, value_at}
use Rattle.cir_lc.specs.Number.{Assignment}
use Rattle.cir_lc.specs.Merge.{total}
use Rattle.cir_lc.proofs.Totals.{total-nil, total-cons}
use Rattle.cir_simplify.specs.declared.types.Rules.{Rules}
use Rattle.cir_simplify.specs.Turn.{Simplified, simplified}
use Rattle.cir_simplify.specs.Wires.{is_kept, wire_of, renamed, renamed_in}
use Rattle.cir_simplify.specs.Keeps.{HoldAll, WiresKeepSolutions}
use Rattle.cir_simplify.specs.Index.{IsGood}
use Rattle.cir_simplify.proofs.Law.{law}

total_renamed : (w f : ℕ → ℕ) (ts : List Term)
    → total w (map (renamed f) ts) ≡ total (λ x. w (f x)) ts
total_renamed w f [] = total-nil w ∙ sym (total-nil (λ x. w (f x)))
total_renamed w f (t ∷ ts) =
    omega (
      arith,
      total-cons w (renamed f t) (map (renamed f) ts),
      total-cons (λ x. w (f x)) t ts,
      total_renamed w f ts,
    )

value_total : (s : ℕ → ℕ) (ts : List Term) → value_at s ts ≡ total s ts % P
unfolding total
value_total s ts = refl

value_renamed : (w f : ℕ → ℕ) (ts : List Term) → value_at w (map (renamed f) ts)
    ≡ value_at (λ x. w (f x)) ts
value_renamed w f ts = value_total w (map (renamed f) ts)
    ∙ ap (λ (n : ℕ). n % P) (total_renamed w f ts) ∙ sym (value_total (λ x. w (f x)) ts)

holds_renamed : (w f : ℕ → ℕ) (k : Constraint) → Holds w (renamed_in f k) ↔ Holds (λ x. w (f x)) k
holds_renamed w f k =
    (λ h. sym product ∙ h ∙ value_renamed w f k.c, λ h. product ∙ h ∙ sym (value_renamed w f k.c))
  where
    product : (value_at w (map (renamed f) k.a) * value_at w (map (renamed f) k.b)) % P
        ≡ (value_at (λ x. w (f x)) k.a * value_at (λ x. w (f x)) k.b) % P
    product =
        ap (λ (n : ℕ). (n * value_at w (map (renamed f) k.b)) % P) (value_renamed w f k.a)
        ∙ ap (λ (n : ℕ). (value_at (λ x. w (f x)) k.a * n) % P) (value_renamed w f k.b)

all_forth : (w f : ℕ → ℕ) (ks : List Constraint) → All (λ k. Holds w k) (map (renamed_in f) ks)
    → All (λ k. Holds (λ x. w (f x)) k) ks
all_forth w f [] h = All-nil (λ (k : Constraint). Holds (λ x. w (f x)) k)
all_forth w f (k ∷ ks) h =
    All-cons (λ (k : Constraint). Holds (λ x. w (f x)) k) k ks
    ((holds_renamed w f k).0
    (All-head (λ (k : Constraint). Holds w k) (renamed_in f k) (map (renamed_in f) ks) h))
    (all_forth w f ks
    (All-tail (λ (k : Constraint). Holds w k) (renamed_in f k) (map (renamed_in f) ks) h))

all_back : (w f : ℕ → ℕ) (ks : List Constraint) → All (λ k. Holds (λ x. w (f x)) k) ks
    → All (λ k. Holds w k) (map (renamed_in f) ks)
all_back w f [] h = All-nil (λ (k : Constraint). Holds w k)
all_back w f (k ∷ ks) h =
    All-cons (λ (k : Constraint). Holds w k) (renamed_in f k) (map (renamed_in f) ks)
    ((holds_renamed w f k).1 (All-head (λ (k : Constraint). Holds (λ x. w (f x)) k) k ks h))
    (all_back w f ks (All-tail (λ (k : Constraint). Holds (λ x. w (f x)) k) k ks h))

pub over : (r : Rules) (list : List Constraint) (end : Simplified) → All (IsGood r.bound) list
    → simplified r list ≡ Ok end
    → WiresKeepSolutions (is_kept r.level r.kept end.list) list
    (map (renamed_in (wire_of (is_kept r.level r.kept end.list))) end.list)
over r list end g h w one below = (
  λ a. known.0 (all_forth w (wire_of keeps) end.list a),
  λ b. all_back w (wire_of keeps) end.list (known.1 b),
)
  where
    keeps : ℕ → Bool
    keeps = is_kept r.level r.kept end.list

    s : Assignment
    s = record { at = λ x. w (wire_of keeps x); one = one; below = λ x. below (wire_of keeps x) }

    known : HoldAll s end.list
        ↔ ((t : Assignment) × ((x : ℕ) → keeps x ≡ true → t.at x ≡ s.at x) × HoldAll t list)
    known = law r list end g h s
