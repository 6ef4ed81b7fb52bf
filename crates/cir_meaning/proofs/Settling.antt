-- The numbers that the variables of a run have: known elements have their known numbers.
use Rattle.std.proofs.Common.{◌≡◌, ℕ, zero, suc, List, [], ◌∷◌, Option, Some, None, slice_get}
use Rattle.std.proofs.Common.{slice_set, refl, sym, subst}
use Rattle.std.specs.Prelude.{unwrap_or}
use Rattle.std.specs.List.{AllByRecursion}
use Rattle.cir_lc.specs.Number.{Assignment}
use Rattle.cir_meaning.specs.Arrays.{Datum, single, put_items}
use Rattle.cir_meaning.specs.Values.{Value, Known, Linear, Quadratic, Opaque}
use Rattle.cir_meaning.specs.RunValues.{Numbers, Store}
use Rattle.cir_meaning.specs.Run.{settled, settled_items, settled_store, put_numbers}
use Rattle.cir_meaning.proofs.Meaning.{Means}
use Rattle.cir_meaning.proofs.Same.{Rows, Same}
use Rattle.cir_meaning.proofs.KnownValues.{KnownValue, KnownDatum}

-- the numbers of one variable
abbrev pub settle_of : Datum → Option Numbers → Numbers
settle_of d None = record { dims = d.dims; items = settled_items d.items [] }
settle_of d (Some m) = record { dims = d.dims; items = settled_items d.items m.items }

module _ (E : Assignment → Type 0) where
  -- where numbers are those of the values, they settle as they are
  settled_means : (v : Value) (n : ℕ) → Means E v n → Means E v (settled v n)
  settled_means (Known k) n h = refl
  settled_means (Linear f) n h = h
  settled_means (Quadratic a b c) n h = h
  settled_means Opaque n h = tt

  rows_settled : (vs : List Value) (ns : List ℕ) → Rows E vs ns → Rows E vs (settled_items vs ns)
  rows_settled [] [] h = tt
  rows_settled [] (n ∷ ns) h = absurd h
  rows_settled (v ∷ vs) [] h = absurd h
  rows_settled (v ∷ vs) (n ∷ ns) h = (settled_means v n h.0, rows_settled vs ns h.1)

  pub same_settled : (d : Datum) (m : Numbers) → Same E d m → Same E d (settle_of d (Some m))
  same_settled d m h = (refl, rows_settled d.items m.items h.1)

  -- known elements need no numbers
  known_settles : (v : Value) (n : ℕ) → KnownValue v → Means E v (settled v n)
  known_settles (Known k) n h = refl
  known_settles (Linear f) n h = cc
  known_settles (Quadratic a b c) n h = cc
  known_settles Opaque n h = cc

  known_rows_settle : (vs : List Value) (ns : List ℕ) → AllByRecursion KnownValue vs
      → Rows E vs (settled_items vs ns)
  known_rows_settle [] ns h = tt
  known_rows_settle (v ∷ vs) [] h = (known_settles v 0 h.0, known_rows_settle vs [] h.1)
  known_rows_settle (v ∷ vs) (n ∷ ns) h = (known_settles v n h.0, known_rows_settle vs ns h.1)

  pub known_same : (d : Datum) (o : Option Numbers) → KnownDatum d → Same E d (settle_of d o)
  known_same d None h = (refl, known_rows_settle d.items [] h)
  known_same d (Some m) h = (refl, known_rows_settle d.items m.items h)

  -- nor do opaque ones
  opaque_rows : (vs : List Value) (ns : List ℕ) → AllByRecursion (λ v. v ≡ Opaque) vs
      → Rows E vs (settled_items vs ns)
  opaque_rows [] ns h = tt
  opaque_rows (v ∷ vs) [] h =
      (subst (λ a. Means E a (settled a 0)) (sym h.0) tt, opaque_rows vs [] h.1)
  opaque_rows (v ∷ vs) (n ∷ ns) h =
      (subst (λ a. Means E a (settled a n)) (sym h.0) tt, opaque_rows vs ns h.1)

  pub opaque_same : (d : Datum) (o : Option Numbers) → AllByRecursion (λ v. v ≡ Opaque) d.items
      → Same E d (settle_of d o)
  opaque_same d None h = (refl, opaque_rows d.items [] h)
  opaque_same d (Some m) h = (refl, opaque_rows d.items m.items h)

  -- known elements are put among others
  set_known : (vs : List Value) (ns : List ℕ) (k : ℕ) (v : Value) → KnownValue v
      → Rows E vs (settled_items vs ns)
      → Rows E (slice_set vs k v) (settled_items (slice_set vs k v) ns)
  set_known [] ns k v h g = tt
  set_known (x ∷ xs) [] zero v h g = (known_settles v 0 h, g.1)
  set_known (x ∷ xs) (n ∷ ns) zero v h g = (known_settles v n h, g.1)
  set_known (x ∷ xs) [] (suc k) v h g = (g.0, set_known xs [] k v h g.1)
  set_known (x ∷ xs) (n ∷ ns) (suc k) v h g = (g.0, set_known xs ns k v h g.1)

  put_known : (places : List ℕ) (new vs : List Value) (ns : List ℕ)
      → AllByRecursion KnownValue new → Rows E vs (settled_items vs ns)
      → Rows E (put_items places new vs) (settled_items (put_items places new vs) ns)
  put_known [] new vs ns h g = g
  put_known (k ∷ ks) [] vs ns h g = g
  put_known (k ∷ ks) (v ∷ new) vs ns h g =
      put_known ks new (slice_set vs k v) ns h.1 (set_known vs ns k v h.0 g)

  pub put_same : (places : List ℕ) (new : List Value) (d : Datum) (o : Option Numbers)
      → AllByRecursion KnownValue new → Same E d (settle_of d o)
      → Same E record { dims = d.dims; items = put_items places new d.items }
      (settle_of record { dims = d.dims; items = put_items places new d.items } o)
  put_same places new d None h g = (refl, put_known places new d.items [] h g.1)
  put_same places new d (Some m) h g = (refl, put_known places new d.items m.items h g.1)

  -- the variables, one by one
  abbrev pub Variable : List Datum → Store → ℕ → Type 0
  Variable vs ms n =
      Same E (unwrap_or (slice_get vs n) (single (Known 0)))
      (unwrap_or (slice_get (settled_store vs ms) n) (single 0))

  -- a variable that is there
  pub variable_of : (vs : List Datum) (ms : Store) (n : ℕ) (d : Datum) → slice_get vs n ≡ Some d
      → Variable vs ms n → Same E d (settle_of d (slice_get ms n))
  variable_of [] ms n d e h = cc
  variable_of (v ∷ vs) [] zero d e h =
      let same : v ≡ d = cc in
      subst (λ a. Same E a record { dims = a.dims; items = settled_items a.items [] }) same h
  variable_of (v ∷ vs) (m ∷ ms) zero d e h =
      let same : v ≡ d = cc in
      subst (λ a. Same E a record { dims = a.dims; items = settled_items a.items m.items }) same h
  variable_of (v ∷ vs) [] (suc n) d e h = variable_of vs [] n d e h
  variable_of (v ∷ vs) (m ∷ ms) (suc n) d e h = variable_of vs ms n d e h

  -- one variable is new, with the numbers that it had
  pub set_variables : (vs : List Datum) (ms : Store) (n : ℕ) (d : Datum)
      → ((old : Datum) → slice_get vs n ≡ Some old → Same E d (settle_of d (slice_get ms n)))
      → ((m : ℕ) → Variable vs ms m) → (m : ℕ) → Variable (slice_set vs n d) ms m
  set_variables [] ms n d h g m = g m
  set_variables (v ∷ vs) [] zero d h g zero = h v refl
  set_variables (v ∷ vs) [] zero d h g (suc m) = g (suc m)
  set_variables (v ∷ vs) [] (suc n) d h g zero = g 0
  set_variables (v ∷ vs) [] (suc n) d h g (suc m) =
      set_variables vs [] n d h (λ i. g (suc i)) m
  set_variables (v ∷ vs) (x ∷ ms) zero d h g zero = h v refl
  set_variables (v ∷ vs) (x ∷ ms) zero d h g (suc m) = g (suc m)
  set_variables (v ∷ vs) (x ∷ ms) (suc n) d h g zero = g 0
  set_variables (v ∷ vs) (x ∷ ms) (suc n) d h g (suc m) =
      set_variables vs ms n d h (λ i. g (suc i)) m

  -- a number that isn't there settles as 0
  settled_zero : (vs : List Value) → settled_items vs (0 ∷ []) ≡ settled_items vs []
  settled_zero [] = refl
  settled_zero (v ∷ vs) = refl

  -- and with new numbers
  pub put_variables : (vs : List Datum) (ms : Store) (n : ℕ) (d : Datum) (x : Numbers)
      → ((old : Datum) → slice_get vs n ≡ Some old → Same E d (settle_of d (Some x)))
      → ((m : ℕ) → Variable vs ms m) → (m : ℕ) → Variable (slice_set vs n d) (put_numbers n x ms) m
  put_variables [] ms n d x h g m = (refl, (refl, tt))
  put_variables (v ∷ vs) [] zero d x h g zero = h v refl
  put_variables (v ∷ vs) [] zero d x h g (suc m) = g (suc m)
  put_variables (v ∷ vs) [] (suc n) d x h g zero =
      (refl, subst (λ items. Rows E v.items items) (sym (settled_zero v.items)) (g 0).1)
  put_variables (v ∷ vs) [] (suc n) d x h g (suc m) =
      put_variables vs [] n d x h (λ i. g (suc i)) m
  put_variables (v ∷ vs) (y ∷ ms) zero d x h g zero = h v refl
  put_variables (v ∷ vs) (y ∷ ms) zero d x h g (suc m) = g (suc m)
  put_variables (v ∷ vs) (y ∷ ms) (suc n) d x h g zero = g 0
  put_variables (v ∷ vs) (y ∷ ms) (suc n) d x h g (suc m) =
      put_variables vs ms n d x h (λ i. g (suc i)) m
