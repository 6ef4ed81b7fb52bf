-- The home of a name is looked for among the code's homes, of which the newest are last.
use Rattle.std.proofs.Common.{◌≡◌, ◌∙◌, ℕ, zero, suc, ◌≤◌, false, List, [], ◌∷◌, ◌++◌}
use Rattle.std.proofs.Common.{length, take, drop, ap, refl, sym, arith, ⊎_elim}
use Rattle.std.specs.Prelude.{if◌then◌else◌, min, Some, option_map, slice_get}
use Rattle.std.specs.List.{AllByRecursion}
use Rattle.std.proofs.lemmas.Bool.{cases_lt}
use Rattle.std.proofs.lemmas.List.{take-append-drop, take_all}
use Rattle.std.proofs.lemmas.Option.{slice_get-map}
use Rattle.wit_lower.specs.Homes as L
use Rattle.wit_sourced.specs.declared.ends.Ends.{Ends}
use Rattle.wit_sourced.specs.declared.homes.Placed.{Placed}
use Rattle.wit_sourced.specs.declared.names.Key.{Key}
use Rattle.wit_sourced.specs.Ends.{end_of}
use Rattle.wit_sourced.specs.Named.{key_of}
use Rattle.wit_sourced.specs.Order.{AreEndsOf, key_cmp, placed_key}
use Rattle.wit_sourced.specs.Shown.{home_of, homes_above, homes_of, placed_of, sought_name}
use Rattle.wit_sourced.proofs.Left.{newest}
use Rattle.wit_sourced.proofs.Naming.{name_apart}

IsOther : L.Name → Placed → Type 0
IsOther x p = L.same_name x (sought_name p.name) ≡ false

-- the newest is looked at first
pub find_newest : (x : L.Name) (ps : List Placed) (p : Placed) → L.find x (homes_of (ps ++ p ∷ []))
    ≡ (if L.same_name x (sought_name p.name) then Some (home_of p.home)
    else L.find x (homes_of ps))
find_newest x ps p = ap (L.find x) (newest [] ps p)

-- those behind are others
pub all_behind : {A : Type 0} (P : A → Type 0) (n : ℕ) (xs : List A)
    → ((i : ℕ) (x : A) → n ≤ i → slice_get xs i ≡ Some x → P x) → AllByRecursion P (drop n xs)
all_behind P zero [] each = tt
all_behind P (suc n) [] each = tt
all_behind P zero (x ∷ xs) each = (
  each 0 x (omega arith) refl,
  all_behind P zero xs (λ i y past at.
      each (suc i) y (omega arith) at),
)
all_behind P (suc n) (x ∷ xs) each =
    all_behind P n xs (λ i y past at. each (suc i) y (omega (arith, past)) at)

find_others : (x : L.Name) (homes : L.Homes) (ps : List Placed) → AllByRecursion (IsOther x) ps
    → L.find x (homes_above homes ps) ≡ L.find x homes
unfolding IsOther
find_others x homes [] others = refl
find_others x homes (p ∷ ps) others =
    find_others x (placed_of p ∷ homes) ps others.1
    ∙ ap (λ b. if b then Some (home_of p.home) else L.find x homes) others.0

above_append : (homes : L.Homes) (ps qs : List Placed)
    → homes_above homes (ps ++ qs) ≡ homes_above (homes_above homes ps) qs
above_append homes [] qs = refl
above_append homes (p ∷ ps) qs = above_append (placed_of p ∷ homes) ps qs

-- so the list may be cut there
pub find_before : (x : L.Name) (ends : Ends Key) (ps : List Placed) (n : ℕ) → AreEndsOf ends ps
    → end_of key_cmp ends (key_of x) ≤ n
    → L.find x (homes_of (take n ps)) ≡ L.find x (homes_of ps)
unfolding IsOther
find_before x ends ps n are past =
    sym (find_others x (homes_of (take n ps)) (drop n ps) (all_behind (IsOther x) n ps
    (λ i p behind at. name_apart x (sought_name p.name) (are.before (key_of x) (placed_key p) i
    (omega (arith, past, behind))
    (slice_get-map placed_key ps i ∙ ap (λ o. option_map placed_key o) at)))))
    ∙ ap (L.find x) (sym (above_append [] (take n ps) (drop n ps))
    ∙ ap (homes_above []) (take-append-drop n ps))

pub find_cut : (x : L.Name) (ends : Ends Key) (ps : List Placed) (e n : ℕ) → AreEndsOf ends ps
    → e ≡ end_of key_cmp ends (key_of x) → n ≡ min e (length ps)
    → L.find x (homes_of (take n ps)) ≡ L.find x (homes_of ps)
find_cut x ends ps e n are is least = ⊎_elim
    (λ h. find_before x ends ps n are (omega (arith, h, is, least)))
    (λ h. ap (λ l. L.find x (homes_of l)) (take_all n ps (omega (arith, h, least))))
    (cases_lt e (length ps))
