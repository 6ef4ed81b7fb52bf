-- The cells that are read.
use Rattle.std.proofs.Common.{◌≡◌, ◌∙◌, ℕ, zero, suc, ◌+◌, List, [], ◌∷◌, ◌++◌, length, ap, sym}
use Rattle.std.proofs.Common.{arith, refl}
use Rattle.std.specs.Prelude.{Bool, true, false, not, if◌then◌else◌, map, filter, Option, Some, Ok}
use Rattle.std.specs.Prelude.{Err}
use Rattle.cir_ast.specs.declared.program.Meant.{Meant}
use Rattle.cir_ast.specs.declared.program.Meant.TheVariants as meant
use Rattle.cir_arrays.specs.declared.arrays.Datum.{Datum as CodeDatum}
use Rattle.cir_arrays.specs.Shown.{datum_of}
use Rattle.cir_evaluate.proofs.Literals.{sized_of}
use Rattle.cir_meaning.specs.Tried.{Where, Refused}
use Rattle.cir_meaning.specs.Arrays.{Datum, Whole, is_known, item_at, reach, single}
use Rattle.cir_meaning.specs.Values.{Known, Value}
use Rattle.cir_meaning.specs.Limits.{is_too_large}
use Rattle.cir_meaning.specs.Places.{elements, is_inside, left_of, numbers_from, places_of}
use Rattle.cir_arrays.specs.Reached.{places_within}
use Rattle.cir_meaning.specs.Frame.{SignalEntry}
use Rattle.cir_meaning.specs.Reading.{Lost, Stored, Wired}
use Rattle.cir_meaning.specs.Costs as M

abbrev unknown_places : Datum → List ℕ → List ℕ
unknown_places d = filter (λ k. not (is_known (item_at d.items k)))

unknown_first : (n x : ℕ) (d : Datum) (xs ys : List ℕ)
    → M.unknown_at n d (xs ++ ys) ≡ M.unknown_at n d xs ++ M.unknown_at n d ys → (b : Bool)
    → map (λ k. M.Element n k)
    (if b then x ∷ unknown_places d (xs ++ ys) else unknown_places d (xs ++ ys))
    ≡ map (λ k. M.Element n k) (if b then x ∷ unknown_places d xs else unknown_places d xs)
    ++ M.unknown_at n d ys
unknown_first n x d xs ys h true = ap (λ rest. M.Element n x ∷ rest) h
unknown_first n x d xs ys h false = h

pub unknown_append : (n : ℕ) (d : Datum) (xs ys : List ℕ)
    → M.unknown_at n d (xs ++ ys) ≡ M.unknown_at n d xs ++ M.unknown_at n d ys
unknown_append n d [] ys = refl
unknown_append n d (x ∷ xs) ys =
    unknown_first n x d xs ys (unknown_append n d xs ys) (not (is_known (item_at d.items x)))

-- of what is known nothing is read
pub unknown_none : (n : ℕ) (d : Datum) (places : List ℕ)
    → ((k : ℕ) → is_known (item_at d.items k) ≡ true) → M.unknown_at n d places ≡ []
unknown_none n d [] h = refl
unknown_none n d (k ∷ ks) h =
    let rest : List ℕ = filter (λ j. not (is_known (item_at d.items j))) ks in
    ap (λ b. map (λ j. M.Element n j) (if not b then k ∷ rest else rest)) (h k)
    ∙ unknown_none n d ks h

unmade_known : (items : List Value) → length items ≡ 0 → (k : ℕ)
    → is_known (item_at items k) ≡ true
unmade_known [] h zero = refl
unmade_known [] h (suc k) = refl
unmade_known (x ∷ xs) h k = absurd (omega arith)

-- of an array that isn't made nothing is unknown
pub unmade_none : (n : ℕ) (d : Datum) (places : List ℕ) → length d.items ≡ 0
    → M.unknown_at n d places ≡ []
unmade_none n d places h = unknown_none n d places (unmade_known d.items h)

zero_known : (k : ℕ) → is_known (item_at (Known 0 ∷ []) k) ≡ true
zero_known zero = refl
zero_known (suc k) = refl

none_known : (k : ℕ) → is_known (item_at [] k) ≡ true
none_known k = refl

pub unknown_zero : (n : ℕ) (places : List ℕ) → M.unknown_at n (single (Known 0)) places ≡ []
unknown_zero n places = unknown_none n (single (Known 0)) places zero_known

items_none : (n : ℕ) (d : Datum) (places : List ℕ) → d.items ≡ [] → M.unknown_at n d places ≡ []
items_none n d places e =
    unknown_none n d places (λ k. ap (λ items. is_known (item_at items k)) e ∙ none_known k)

no_items : {A : Type 0} (xs : List A) → length xs ≡ 0 → xs ≡ []
no_items [] h = refl
no_items (x ∷ xs) h = absurd (cc)

-- all elements of a variable: of an array that is too large there are none
pub unknown_all : (n : ℕ) (d : CodeDatum)
    → M.unknown_at n (datum_of d) (numbers_from 0 (length (datum_of d).items))
    ≡ M.unknown_at n (datum_of d) (numbers_from 0 (elements (datum_of d).dims))
unknown_all n d = at (is_too_large (datum_of d).dims) (sized_of d)
  where
    at : (large : Bool)
        → length (datum_of d).items ≡ (if large then 0 else elements (datum_of d).dims)
        → M.unknown_at n (datum_of d) (numbers_from 0 (length (datum_of d).items))
        ≡ M.unknown_at n (datum_of d) (numbers_from 0 (elements (datum_of d).dims))
    at true h =
        let none : (datum_of d).items ≡ [] = no_items (datum_of d).items h in
        items_none n (datum_of d) _ none ∙ sym (items_none n (datum_of d) _ none)
    at false h = ap (λ k. M.unknown_at n (datum_of d) (numbers_from 0 k)) h

-- ---- what is read of a source
pub reads_refused : (w : Where) (m : Meant) (indices : List (Option ℕ)) (e : Refused)
    → M.origin_reads w m indices (Err e) ≡ []
reads_refused w meant.Other indices e = refl
reads_refused w (meant.Variable n) indices e = refl
reads_refused w (meant.Signal direction n) indices e = refl
reads_refused w (meant.Component n) indices e = refl
reads_refused w (meant.Template n) indices e = refl
reads_refused w (meant.Function n) indices e = refl

pub reads_lost : (w : Where) (m : Meant) (indices : List (Option ℕ))
    → M.origin_reads w m indices (Ok Lost) ≡ []
reads_lost w meant.Other indices = refl
reads_lost w (meant.Variable n) indices = refl
reads_lost w (meant.Signal direction n) indices = refl
reads_lost w (meant.Component n) indices = refl
reads_lost w (meant.Template n) indices = refl
reads_lost w (meant.Function n) indices = refl

pub reads_zero : (w : Where) (m : Meant) (indices : List (Option ℕ))
    → M.origin_reads w m indices (Ok (Stored (single (Known 0)))) ≡ []
reads_zero w meant.Other indices = refl
reads_zero w (meant.Variable n) indices =
    unknown_zero n (M.places_in (reach w true Whole [] indices))
reads_zero w (meant.Signal direction n) indices = refl
reads_zero w (meant.Component n) indices = refl
reads_zero w (meant.Template n) indices = refl
reads_zero w (meant.Function n) indices = refl

pub reads_wired : (w : Where) (m : Meant) (indices : List (Option ℕ)) (may_read : Bool)
    (e : SignalEntry) → M.origin_reads w m indices (Ok (Wired may_read e))
    ≡ map (λ k. M.Wire (e.first + k)) (M.places_in (reach w true Whole e.dims indices))
reads_wired w meant.Other indices may_read e = refl
reads_wired w (meant.Variable n) indices may_read e = refl
reads_wired w (meant.Signal direction n) indices may_read e = refl
reads_wired w (meant.Component n) indices may_read e = refl
reads_wired w (meant.Template n) indices may_read e = refl
reads_wired w (meant.Function n) indices may_read e = refl

-- indices that mean one place
pub one_read : (w : Where) (dims : List ℕ) (indices : List (Option ℕ)) (place : ℕ)
    → left_of dims indices ≡ Some [] → is_inside dims indices ≡ true
    → places_within dims indices ≡ place ∷ []
    → M.places_in (reach w true Whole dims indices) ≡ place ∷ []
one_read w dims indices place l i e =
    let inside : places_of dims indices ≡ place ∷ [] = rw i at e in rw (l, i) inside
