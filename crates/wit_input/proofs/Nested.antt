-- Lists of JSON values that wait to be searched for values, the last first.
use Rattle.std.proofs.Common.{◌≡◌, ℕ, suc, ◌+◌, List, [], ◌∷◌, ◌++◌, Some, None, refl}
use Rattle.std.specs.Prelude.{fold}
use Rattle.std.proofs.lemmas.List.Sums.{fold_push}
use Rattle.serde_json.specs.Data.{Data, null, boolean, number, string, array, object, Items}
use Rattle.serde_json.specs.Data.{no_items, item}
use Rattle.serde_json.specs.Find.{as_array}
use Rattle.serde_json.specs.View.{items_of}
use Rattle.wit_input.specs.Values.{values_of, values_in}

-- the values of these lists
abbrev pub due : List (List Data) → List Data
due stack = fold (λ rest items. values_in (items_of items) ++ rest) [] stack

abbrev mutual
  pub size : Data → ℕ
  size (array ds) = 2 + sizes ds
  size null = 1
  size (boolean b) = 1
  size (number n) = 1
  size (string s) = 1
  size (object ms) = 1

  pub sizes : Items → ℕ
  sizes no_items = 0
  sizes (item d ds) = size d + sizes ds

-- how many steps they take
abbrev pub weight : List (List Data) → ℕ
weight stack = fold (λ n items. n + suc (sizes (items_of items))) 0 stack

pub due_push : (stack : List (List Data)) (items : List Data)
    → due (stack ++ items ∷ []) ≡ values_in (items_of items) ++ due stack
due_push stack items = fold_push (λ rest xs. values_in (items_of xs) ++ rest) [] stack items

pub weight_push : (stack : List (List Data)) (items : List Data)
    → weight (stack ++ items ∷ []) ≡ weight stack + suc (sizes (items_of items))
weight_push stack items = fold_push (λ n xs. n + suc (sizes (items_of xs))) 0 stack items

-- what is an array, and what is one value
pub is_array : (d : Data) (ds : Items) → as_array d ≡ Some ds → d ≡ array ds
is_array (array es) ds e = cc
is_array null ds e = cc
is_array (boolean b) ds e = cc
is_array (number n) ds e = cc
is_array (string s) ds e = cc
is_array (object ms) ds e = cc

pub one_value : (d : Data) → None ≡ as_array d → values_of d ≡ d ∷ []
one_value (array es) e = cc
one_value null e = refl
one_value (boolean b) e = refl
one_value (number n) e = refl
one_value (string s) e = refl
one_value (object ms) e = refl

pub one_step : (d : Data) → None ≡ as_array d → size d ≡ 1
one_step (array es) e = cc
one_step null e = refl
one_step (boolean b) e = refl
one_step (number n) e = refl
one_step (string s) e = refl
one_step (object ms) e = refl
