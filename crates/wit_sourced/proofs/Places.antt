-- Where a cell stands among those that a step reads.
use Rattle.std.proofs.Common.{◌≡◌, ◌∙◌, ℕ, suc, Bool, true, false, List, [], ◌∷◌, ◌++◌}
use Rattle.std.proofs.Common.{length, ap, refl, sym, subst, ⊎_elim}
use Rattle.std.specs.Prelude.{◌==◌, ◌||◌, Option, Some, None, is_some, option_map, if◌then◌else◌}
use Rattle.std.specs.List.{list_any}
use Rattle.std.specs.BTreeMap.{BTreeMap, get, Updates}
use Rattle.std.specs.Ordering.{is_eq, nat_cmp}
use Rattle.std.specs.declared.cmp.Ordering.{Ordering}
use Rattle.std.specs.declared.cmp.Ordering.TheVariants.{Less, Equal, Greater}
use Rattle.std.proofs.lemmas.Bool.{cases_eq}
use Rattle.std.proofs.lemmas.Bool.Decides.{Decides-eqb}
use Rattle.std.proofs.lemmas.Map.Lookups.{exact_unsigned}
use Rattle.wit_lower.specs.Sources.{place_of}
use Rattle.wit_sourced.specs.Told.{place_in, AreTold}

-- the place, where the cell is there
step : (b any : Bool) (n : ℕ) → (if b then Some 0 else option_map (λ k. suc k)
    (if any then Some n else None))
    ≡ (if b || any then Some (if b then 0 else suc n) else None)
step true any n = refl
step false true n = refl
step false false n = refl

shows : (ds : List ℕ) (c : ℕ) → place_in ds c
    ≡ (if list_any (λ d. d == c) ds then Some (place_of c ds) else None)
shows [] c = refl
shows (d ∷ ds) c =
    ap (λ (o : Option ℕ). if d == c then Some 0 else option_map (λ k. suc k) o) (shows ds c)
    ∙ step (d == c) (list_any (λ e. e == c) ds) (place_of c ds)

some_if : (b : Bool) (n : ℕ) → is_some (if b then Some n else None) ≡ b
some_if true n = refl
some_if false n = refl

pub member : (ds : List ℕ) (c : ℕ) → is_some (place_in ds c) ≡ list_any (λ d. d == c) ds
member ds c = ap (λ (o : Option ℕ). is_some o) (shows ds c)
    ∙ some_if (list_any (λ d. d == c) ds) (place_of c ds)

there : (b : Bool) (p n : ℕ) → (if b then Some p else None) ≡ Some n → n ≡ p
there true p n e = cc
there false p n e = cc

pub found : (ds : List ℕ) (c n : ℕ) → place_in ds c ≡ Some n → n ≡ place_of c ds
found ds c n e =
    there (list_any (λ d. d == c) ds) (place_of c ds) n (sym (shows ds c) ∙ e)

pub none_if : (o : Option ℕ) → is_some o ≡ false → o ≡ None
none_if None e = refl
none_if (Some n) e = cc

-- a cell that isn't there would stand behind the others
missing_step : (b : Bool) (o : Option ℕ) (p n : ℕ)
    → (if b then Some 0 else option_map (λ k. suc k) o) ≡ None → (o ≡ None → p ≡ n)
    → (if b then 0 else suc p) ≡ suc n
missing_step true o p n e rest = cc
missing_step false None p n e rest = ap suc (rest refl)
missing_step false (Some m) p n e rest = cc

pub missing : (ds : List ℕ) (c : ℕ) → place_in ds c ≡ None → place_of c ds ≡ length ds
missing [] c e = refl
missing (d ∷ ds) c e =
    missing_step (d == c) (place_in ds c) (place_of c ds) (length ds) e (missing ds c)

-- one more cell
same_step : (b : Bool) (o p : Option ℕ) (n : ℕ)
    → (if b then Some 0 else option_map (λ k. suc k) o) ≡ None → (o ≡ None → p ≡ Some n)
    → (if b then Some 0 else option_map (λ k. suc k) p) ≡ Some (suc n)
same_step true o p n e rest = cc
same_step false None p n e rest = ap (λ (q : Option ℕ). option_map (λ k. suc k) q) (rest refl)
same_step false (Some m) p n e rest = cc

same_as : (x : ℕ) → (x == x) ≡ true
same_as x = (Decides-eqb x x).1 refl

pushed_same : (ds : List ℕ) (x : ℕ) → place_in ds x ≡ None
    → place_in (ds ++ x ∷ []) x ≡ Some (length ds)
pushed_same [] x e =
    ap (λ (b : Bool). if b then Some 0 else option_map (λ k. suc k) None) (same_as x)
pushed_same (d ∷ ds) x e =
    same_step (d == x) (place_in ds x) (place_in (ds ++ x ∷ []) x) (length ds) e
    (pushed_same ds x)

unless_true : (b : Bool) → (b ≡ true → ⊥) → b ≡ false
unless_true true never = absurd (never refl)
unless_true false never = refl

pushed_other : (ds : List ℕ) (x q : ℕ) → (x ≡ q → ⊥)
    → place_in (ds ++ x ∷ []) q ≡ place_in ds q
pushed_other [] x q other =
    ap (λ (b : Bool). if b then Some 0 else option_map (λ k. suc k) None)
    (unless_true (x == q) (λ e. other ((Decides-eqb x q).0 e)))
pushed_other (d ∷ ds) x q other =
    ap (λ (o : Option ℕ). if d == q then Some 0 else option_map (λ k. suc k) o)
    (pushed_other ds x q other)

unequal : (o : Ordering) → (o ≡ Equal → ⊥) → is_eq o ≡ false
unequal Less other = refl
unequal Equal other = absurd (other refl)
unequal Greater other = refl

pub told_more : (m n : BTreeMap ℕ ℕ) (ds : List ℕ) (x k : ℕ) → AreTold m ds
    → Updates nat_cmp m n x (Some k) → place_in ds x ≡ None → k ≡ length ds
    → AreTold n (ds ++ x ∷ [])
told_more m n ds x k told updates none at = λ q. ⊎_elim
    (λ e. subst (λ (y : ℕ). get nat_cmp n y ≡ place_in (ds ++ x ∷ []) y) e
    (updates.1 ∙ ap (λ (i : ℕ). Some i) at ∙ sym (pushed_same ds x none)))
    (λ other. updates.2 q (unequal (nat_cmp x q) (λ e. other (exact_unsigned x q e))) ∙ told q
    ∙ sym (pushed_other ds x q other))
    (cases_eq x q)
