-- Sources and numbers that are put at the same places.
use Rattle.std.proofs.Common.{◌≡◌, ◌≢◌, ◌⊎◌, inl, inr, ℕ, zero, suc, ◌+◌, ◌≤◌, Bool, true, false}
use Rattle.std.proofs.Common.{cond, List, [], ◌∷◌, map, length, Option, Some, None, refl, sym, ap}
use Rattle.std.proofs.Common.{subst, ◌∙◌, slice_get, slice_set, slice_index, arith}
use Rattle.std.specs.Prelude.{filter, slice_index_or, unwrap_or}
use Rattle.cir_meaning.specs.Places.{numbers_from}
use Rattle.cir_meaning.specs.Arrays.{Datum, item_at, is_known, put_items}
use Rattle.cir_meaning.specs.Values.{Value, Known, Linear, Quadratic, Opaque}
use Rattle.cir_meaning.specs.RunValues.{Numbers, Store, stored}
use Rattle.cir_meaning.specs.Run.{settled, settled_items, settled_store, put_numbers}
use Rattle.cir_meaning.proofs.Writing.{get_set}
use Rattle.cir_meaning.proofs.PartWrites.{get_other, same_or_not}
use Rattle.cir_steps.specs.Step.{Source, Constant, Cell, source_of, sources_of, put_sources}
use Rattle.cir_steps.specs.RunSteps.{Cells}
use Rattle.cir_steps.proofs.Templates.{Apart}
use Rattle.cir_steps.proofs.Related.{Gives, AllGive, items_at, Stored}
use Rattle.cir_steps.proofs.SimSteps.{Placed}

-- one variable has new sources and numbers
one_zero : (cells : Cells) (xs : List Source) → AllGive cells xs [] → AllGive cells xs (0 ∷ [])
one_zero cells xs h zero = h 0
one_zero cells xs h (suc k) = h (suc k)

no_sources : (cells : Cells) → AllGive cells [] []
no_sources cells k = refl

pub put_stored : (cells : Cells) (numbers : Store) (sources : List (List Source)) (n : ℕ)
    (d : Numbers) (xs : List Source) → Stored cells numbers sources → AllGive cells xs d.items
    → Stored cells (put_numbers n d numbers) (put_sources n xs sources)
put_stored cells [] [] zero d xs h g zero = g
put_stored cells [] [] zero d xs h g (suc m) = no_sources cells
put_stored cells [] (y ∷ ys) zero d xs h g zero = g
put_stored cells [] (y ∷ ys) zero d xs h g (suc m) = h (suc m)
put_stored cells (e ∷ es) [] zero d xs h g zero = g
put_stored cells (e ∷ es) [] zero d xs h g (suc m) = h (suc m)
put_stored cells (e ∷ es) (y ∷ ys) zero d xs h g zero = g
put_stored cells (e ∷ es) (y ∷ ys) zero d xs h g (suc m) = h (suc m)
put_stored cells [] [] (suc n) d xs h g zero = one_zero cells [] (no_sources cells)
put_stored cells [] [] (suc n) d xs h g (suc m) =
    put_stored cells [] [] n d xs (λ i. no_sources cells) g m
put_stored cells [] (y ∷ ys) (suc n) d xs h g zero = one_zero cells y (h 0)
put_stored cells [] (y ∷ ys) (suc n) d xs h g (suc m) =
    put_stored cells [] ys n d xs (λ i. h (suc i)) g m
put_stored cells (e ∷ es) [] (suc n) d xs h g zero = h 0
put_stored cells (e ∷ es) [] (suc n) d xs h g (suc m) =
    put_stored cells es [] n d xs (λ i. h (suc i)) g m
put_stored cells (e ∷ es) (y ∷ ys) (suc n) d xs h g zero = h 0
put_stored cells (e ∷ es) (y ∷ ys) (suc n) d xs h g (suc m) =
    put_stored cells es ys n d xs (λ i. h (suc i)) g m

-- elements by place
pub or_get : {A : Type 0} (xs : List A) (k : ℕ) (d : A)
    → slice_index_or xs k d ≡ unwrap_or (slice_get xs k) d
or_get [] k d = refl
or_get (x ∷ xs) zero d = refl
or_get (x ∷ xs) (suc k) d = or_get xs k d

none_back : {A : Type 0} (xs : List A) (p k : ℕ) (y : A) → slice_get (slice_set xs p y) k ≡ None
    → slice_get xs k ≡ None
none_back xs p k y e = at (slice_get xs k) refl (same_or_not p k)
  where
    at : (o : Option _) → slice_get xs k ≡ o → (p ≡ k) ⊎ (p ≢ k) → slice_get xs k ≡ None
    at None is d = is
    at (Some x) is (inl same) =
        let there : slice_get xs p ≡ Some x = ap (slice_get xs) same ∙ is in
        let now : slice_get (slice_set xs p y) k ≡ Some y =
        ap (slice_get (slice_set xs p y)) (sym same) ∙ get_set xs p x y there in
        let no : Some y ≡ None = sym now ∙ e in cc
    at (Some x) is (inr ne) = sym (get_other xs p k y ne) ∙ e

pub set_none : {A : Type 0} (xs : List A) (p : ℕ) (y : A) → slice_get xs p ≡ None
    → slice_get (slice_set xs p y) p ≡ None
set_none [] p y e = e
set_none (x ∷ xs) zero y e = cc
set_none (x ∷ xs) (suc p) y e = set_none xs p y e

pub put_aside : {A : Type 0} (places : List ℕ) (new old : List A) (k : ℕ) → Apart k places
    → slice_get (put_items places new old) k ≡ slice_get old k
put_aside [] new old k h = refl
put_aside (p ∷ ps) [] old k h = refl
put_aside (p ∷ ps) (x ∷ new) old k h =
    put_aside ps new (slice_set old p x) k h.1 ∙ get_other old p k x (λ e. h.0 (sym e))

-- cells that are put give the numbers at their places, where the others do
pub put_gives : (cells : Cells) (g : ℕ → ℕ) (places : List ℕ) (first : ℕ) (base : List Source)
    → Placed (numbers_from first (length places)) (map g places) cells
    → ((k : ℕ) → Apart k places → Gives cells (slice_index_or base k (Constant 0)) (g k))
    → ((k : ℕ) → slice_get base k ≡ None → 0 ≡ g k) → (k : ℕ)
    → Gives cells (slice_index_or (put_items places
    (map (λ c. Cell c) (numbers_from first (length places))) base) k (Constant 0)) (g k)
put_gives cells g [] first base h others none k = others k tt
put_gives cells g (p ∷ ps) first base h others none k =
    put_gives cells g ps (first + 1) (slice_set base p (Cell first)) h.1 now
    (λ i e. none i (none_back base p i (Cell first) e)) k
  where
    here : (o : Option Source) → slice_get base p ≡ o
        → Gives cells (unwrap_or (slice_get (slice_set base p (Cell first)) p) (Constant 0)) (g p)
    here (Some x) is =
        subst (λ o. Gives cells (unwrap_or o (Constant 0)) (g p))
        (sym (get_set base p x (Cell first) is)) h.0
    here None is = out (slice_get (slice_set base p (Cell first)) p) refl
      where
        out : (o : Option Source) → slice_get (slice_set base p (Cell first)) p ≡ o
            → Gives cells (unwrap_or (slice_get (slice_set base p (Cell first)) p) (Constant 0))
            (g p)
        out None e =
            subst (λ o. Gives cells (unwrap_or o (Constant 0)) (g p)) (sym e) (none p is)
        out (Some x) e = let no : Some x ≡ None = sym e ∙ set_none base p (Cell first) is in cc

    now : (i : ℕ) → Apart i ps
        → Gives cells (slice_index_or (slice_set base p (Cell first)) i (Constant 0)) (g i)
    now i apart =
        subst (λ s. Gives cells s (g i))
        (sym (or_get (slice_set base p (Cell first)) i (Constant 0))) (at (same_or_not p i))
      where
        at : (p ≡ i) ⊎ (p ≢ i)
            → Gives cells (unwrap_or (slice_get (slice_set base p (Cell first)) i) (Constant 0))
            (g i)
        at (inl same) =
            subst (λ (m : ℕ). Gives cells (unwrap_or (slice_get (slice_set base p (Cell first)) m)
            (Constant 0)) (g m)) same (here (slice_get base p) refl)
        at (inr ne) =
            subst (λ o. Gives cells (unwrap_or o (Constant 0)) (g i))
            (sym (get_other base p i (Cell first) ne))
            (subst (λ s. Gives cells s (g i)) (or_get base i (Constant 0))
            (others i ((λ e. ne (sym e)), apart)))

-- what isn't among those that pass
pub apart_filter : (test : ℕ → Bool) (k : ℕ) (xs : List ℕ) → test k ≡ true
    → Apart k (filter test xs) → Apart k xs
apart_filter test k [] t h = tt
apart_filter test k (x ∷ xs) t h = at (test x) refl h (apart_filter test k xs t)
  where
    at : (b : Bool) → test x ≡ b → Apart k (cond b (x ∷ filter test xs) (filter test xs))
        → (Apart k (filter test xs) → Apart k xs) → (k ≢ x) × Apart k xs
    at true e g go = (g.0, go g.1)
    at false e g go =
        ((λ same. let no : true ≡ false = sym t ∙ ap test same ∙ e in cc), go g)

pub apart_range : (first count k : ℕ) → first ≤ k → Apart k (numbers_from first count)
    → first + count ≤ k
apart_range first zero k h g = omega arith
apart_range first (suc count) k h g =
    let rest : first + 1 + count ≤ k = apart_range (first + 1) count k next g.1 in omega arith
  where
    next : first + 1 ≤ k
    next = at (same_or_not k first)
      where
        at : (k ≡ first) ⊎ (k ≢ first) → first + 1 ≤ k
        at (inl e) = absurd (g.0 e)
        at (inr ne) = omega arith

-- the source of an element
pub source_at : (vs : List Value) (xs : List Source) (k : ℕ)
    → slice_index_or (sources_of vs xs) k (Constant 0)
    ≡ source_of (item_at vs k) (slice_index_or xs k (Constant 0))
source_at [] xs zero = refl
source_at [] xs (suc k) = refl
source_at (v ∷ vs) [] zero = refl
source_at (v ∷ vs) [] (suc k) = source_at vs [] k
source_at (v ∷ vs) (x ∷ xs) zero = refl
source_at (v ∷ vs) (x ∷ xs) (suc k) = source_at vs xs k

pub sources_none : (vs : List Value) (xs : List Source) (k : ℕ)
    → slice_get (sources_of vs xs) k ≡ None → slice_get vs k ≡ None
sources_none [] xs k e = refl
sources_none (v ∷ vs) [] zero e = cc
sources_none (v ∷ vs) [] (suc k) e = sources_none vs [] k e
sources_none (v ∷ vs) (x ∷ xs) zero e = cc
sources_none (v ∷ vs) (x ∷ xs) (suc k) e = sources_none vs xs k e

-- an element that isn't known has the number that it got
as_it_is : (v : Value) (n : ℕ) → is_known v ≡ false → settled v n ≡ n
as_it_is (Known k) n u = cc
as_it_is (Linear f) n u = refl
as_it_is (Quadratic a b c) n u = refl
as_it_is Opaque n u = refl

pub stored_items : (vs : List Datum) (ms : Store) (n : ℕ) (d : Datum) → slice_get vs n ≡ Some d
    → (stored (settled_store vs ms) n).items ≡ settled_items d.items (items_at ms n)
stored_items [] ms n d e = cc
stored_items (v ∷ vs) [] zero d e =
    let same : v ≡ d = cc in ap (λ (a : Datum). settled_items a.items []) same
stored_items (v ∷ vs) (m ∷ ms) zero d e =
    let same : v ≡ d = cc in ap (λ (a : Datum). settled_items a.items m.items) same
stored_items (v ∷ vs) [] (suc n) d e = stored_items vs [] n d e
stored_items (v ∷ vs) (m ∷ ms) (suc n) d e = stored_items vs ms n d e

pub settled_at : (vs : List Value) (ns : List ℕ) (k : ℕ) → is_known (item_at vs k) ≡ false
    → slice_index (settled_items vs ns) k ≡ slice_index ns k
settled_at [] ns zero u = cc
settled_at [] ns (suc k) u = cc
settled_at (v ∷ vs) [] zero u = as_it_is v 0 u
settled_at (v ∷ vs) [] (suc k) u = settled_at vs [] k u
settled_at (v ∷ vs) (n ∷ ns) zero u = as_it_is v n u
settled_at (v ∷ vs) (n ∷ ns) (suc k) u = settled_at vs ns k u

pub settled_none : (vs : List Datum) (ms : Store) (n : ℕ) → slice_get vs n ≡ None
    → slice_get (settled_store vs ms) n ≡ None
settled_none [] ms n e = refl
settled_none (v ∷ vs) ms zero e = cc
settled_none (v ∷ vs) [] (suc n) e = settled_none vs [] n e
settled_none (v ∷ vs) (m ∷ ms) (suc n) e = settled_none vs ms n e

pub get_past : {A : Type 0} (xs : List A) (k : ℕ) → length xs ≤ k → slice_get xs k ≡ None
get_past [] k h = refl
get_past (x ∷ xs) zero h = absurd (let no : suc (length xs) ≤ 0 = h in omega arith)
get_past (x ∷ xs) (suc k) h =
    get_past xs k (let less : suc (length xs) ≤ suc k = h in omega arith)

pub map_none : {A B : Type 0} (f : A → B) (xs : List A) (k : ℕ) → slice_get xs k ≡ None
    → slice_get (map f xs) k ≡ None
map_none f [] k e = refl
map_none f (x ∷ xs) zero e = cc
map_none f (x ∷ xs) (suc k) e = map_none f xs k e
