-- The array of a name is the last of it, which is looked for from where the name stands last.
use Rattle.std.proofs.Common.{◌≡◌, ◌∙◌, ◌+◌, ◌-◌, ◌<◌, ◌≤◌, ℕ, List}
use Rattle.std.proofs.Common.{[], ◌∷◌, ◌++◌, length, map}
use Rattle.std.proofs.Common.{take, drop, get_or, ap, refl, subst, sym, arith, ⊎_elim}
use Rattle.std.specs.Prelude.{true, false, if◌then◌else◌, min, Option, Some, None, option_map}
use Rattle.std.specs.List.{AllByRecursion}
use Rattle.std.proofs.lemmas.Bool.{cases_lt}
use Rattle.std.proofs.lemmas.List.{map-append, take-append-drop, take_all, take_more}
use Rattle.std.proofs.lemmas.Option.{slice_get-map}
use Rattle.wit_lower.specs.Homes.{Name, same_name}
use Rattle.wit_sourced.specs.declared.ends.Ends.{Ends}
use Rattle.wit_sourced.specs.declared.names.Key.{Key}
use Rattle.wit_sourced.specs.Ends.{AreEnds, end_of}
use Rattle.wit_sourced.specs.Named.{key_of, sought_name}
use Rattle.wit_sourced.specs.Order.{key_cmp}
use Rattle.wit_sourced.proofs.Finding.{all_behind}
use Rattle.wit_sourced.proofs.Naming.{name_apart}
use Rattle.cir_make.specs.declared.arrays.StepArray.{StepArray}
use Rattle.cir_make.specs.Arrays.{array_key, last_named}

IsOther : Name → StepArray → Type 0
IsOther x a = same_name x (sought_name a.name) ≡ false

last_others : (x : Name) (found : Option StepArray) (arrays : List StepArray)
    → AllByRecursion (IsOther x) arrays → last_named x arrays found ≡ found
unfolding IsOther
last_others x found [] others = refl
last_others x found (a ∷ rest) others =
    ap (λ b. last_named x rest (if b then Some a else found)) others.0
    ∙ last_others x found rest others.1

last_append : (x : Name) (found : Option StepArray) (as' bs : List StepArray)
    → last_named x (as' ++ bs) found ≡ last_named x bs (last_named x as' found)
last_append x found [] bs = refl
last_append x found (a ∷ rest) bs =
    last_append x (if same_name x (sought_name a.name) then Some a else found) rest bs

last_before : (x : Name) (ends : Ends Key) (arrays : List StepArray) (n : ℕ)
    → AreEnds key_cmp ends (map array_key arrays) → end_of key_cmp ends (key_of x) ≤ n
    → last_named x (take n arrays) None ≡ last_named x arrays None
unfolding IsOther
last_before x ends arrays n are past =
    sym (last_others x (last_named x (take n arrays) None) (drop n arrays)
    (all_behind (IsOther x) n arrays (λ i a behind at. name_apart x (sought_name a.name)
    (are.before (key_of x) (array_key a) i (omega (arith, past, behind))
    (slice_get-map array_key arrays i ∙ ap (λ o. option_map array_key o) at)))))
    ∙ sym (last_append x None (take n arrays) (drop n arrays))
    ∙ ap (λ l. last_named x l None) (take-append-drop n arrays)

pub last_cut : (x : Name) (ends : Ends Key) (arrays : List StepArray) (e n : ℕ)
    → AreEnds key_cmp ends (map array_key arrays) → e ≡ end_of key_cmp ends (key_of x)
    → n ≡ min e (length arrays)
    → last_named x (take n arrays) None ≡ last_named x arrays None
last_cut x ends arrays e n are is least = ⊎_elim
    (λ h. last_before x ends arrays n are (omega (arith, h, is, least)))
    (λ h. ap (λ l. last_named x l None) (take_all n arrays (omega (arith, h, least))))
    (cases_lt e (length arrays))

looked : (x : Name) (arrays : List StepArray) (n : ℕ) (d : StepArray)
    → 0 < n → n ≤ length arrays
    → last_named x (take n arrays) None
    ≡ (if same_name x (sought_name (get_or arrays (n - 1) d).name)
    then Some (get_or arrays (n - 1) d) else last_named x (take (n - 1) arrays) None)
looked x arrays n d some within =
    let one : n ≡ (n - 1) + 1 = omega (arith, some) in
    let below : n - 1 < length arrays = omega (arith, some, within) in
    ap (λ m. last_named x (take m arrays) None) one
    ∙ ap (λ l. last_named x l None) (take_more arrays (n - 1) d below)
    ∙ last_append x None (take (n - 1) arrays) (get_or arrays (n - 1) d ∷ [])

module _ (x : Name) (arrays : List StepArray) (n : ℕ) (d : StepArray) (some : 0 < n)
    (within : n ≤ length arrays)
    (found : last_named x (take n arrays) None ≡ last_named x arrays None) where
  pub found_here : same_name x (sought_name (get_or arrays (n - 1) d).name) ≡ true
      → Some (get_or arrays (n - 1) d) ≡ last_named x arrays None
  found_here same =
      sym (ap (λ b. if b then Some (get_or arrays (n - 1) d)
      else last_named x (take (n - 1) arrays) None) same)
      ∙ sym (looked x arrays n d some within) ∙ found

  pub found_before : same_name x (sought_name (get_or arrays (n - 1) d).name) ≡ false
      → last_named x (take (n - 1) arrays) None ≡ last_named x arrays None
  found_before other =
      sym (ap (λ b. if b then Some (get_or arrays (n - 1) d)
      else last_named x (take (n - 1) arrays) None) other)
      ∙ sym (looked x arrays n d some within) ∙ found

-- one array more is noted
pub more_noted : (ends : Ends Key) (arrays : List StepArray) (n : ℕ) (d : StepArray) (k : Key)
    → n < length arrays → k ≡ array_key (get_or arrays n d)
    → AreEnds key_cmp ends (map array_key (take n arrays) ++ k ∷ [])
    → AreEnds key_cmp ends (map array_key (take (n + 1) arrays))
more_noted ends arrays n d k below is are =
    subst (AreEnds key_cmp ends)
    (ap (λ y. map array_key (take n arrays) ++ y ∷ []) is
    ∙ sym (map-append array_key (take n arrays) (get_or arrays n d ∷ []))
    ∙ ap (map array_key) (sym (take_more arrays n d below)))
    are
