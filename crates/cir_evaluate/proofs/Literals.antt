-- The items of an array literal: how many they are, and how they are moved.
use Rattle.std.proofs.Common.{◌++◌, append_assoc, drop, get_or, set}
use Rattle.std.proofs.Common.{◌≡◌, ◌∙◌, ℕ, zero, suc, ◌+◌, ◌*◌, ◌<◌, ◌≤◌, Bool, true, false, List}
use Rattle.std.proofs.Common.{[], ◌∷◌, length, ap, sym, refl, arith, zero-mul, Ok}
use Rattle.std.specs.Prelude.{max, map, flat_map, fold, ◌&&◌, ◌==◌, if◌then◌else◌}
use Rattle.std.specs.List.{list_all}
use Rattle.std.specs.Str.{bytes_eq}
use Rattle.std.proofs.Math.Nat.{le-mul_of_pos_right, mul_comm}
use Rattle.std.proofs.lemmas.Bool.{ltb-false, le-ltb}
use Rattle.std.proofs.lemmas.List.{append-nil, drop_all, drop-set-lt, length-append, length-map}
use Rattle.std.proofs.lemmas.Slice.Eq.{bytes_eq-Decides}
use Rattle.cir_arrays.proofs.Lists.{at_read}
use Rattle.cir_values.specs.declared.value.Value.{Value}
use Rattle.cir_values.specs.Meant.{meant}
use Rattle.cir_meaning.specs.Places.{elements}
use Rattle.cir_meaning.specs.Limits.{size_of, is_too_large, with_array}
use Rattle.cir_ast.specs.declared.refusal.Kind.TheVariants.{ShapeDiffers}
use Rattle.cir_meaning.specs.Tried.{Where, Tried, needed}
use Rattle.cir_meaning.specs.Arrays.{Datum, made, same_dims}
use Rattle.cir_meaning.specs.Frame.{State, adding}
use Rattle.cir_meaning.specs.Evaluate.{gathered}
use Rattle.cir_arrays.specs.declared.arrays.Datum.{Datum as CodeDatum}
use Rattle.cir_arrays.specs.declared.arrays.Datum.TheVariants.{Number, Array}
use Rattle.cir_arrays.specs.Made.{made_count}
use Rattle.cir_arrays.specs.Shown.{datum_of}
use Rattle.cir_evaluate.specs.Literal.{are_of_one_shape, dims_of}

pub sized_of : (d : CodeDatum) → length (datum_of d).items ≡ made_count (datum_of d).dims
sized_of (Number v) = refl
sized_of (Array a) = length-map a.items.items meant ∙ a.sized

-- a number has one item
pub one_item : (d : CodeDatum) → (datum_of d).dims ≡ [] → length (datum_of d).items ≡ 1
one_item d e = sized_of d ∙ ap made_count e

fold_more : (a b : ℕ) (ds : List ℕ) → a ≤ b → fold max a ds ≤ fold max b ds
fold_more a b [] h = h
fold_more a b (d ∷ ds) h = fold_more (max a d) (max b d) ds (omega arith)

-- an array is no larger than a list of it
size_more : (n : ℕ) (ds : List ℕ) → 0 < n → size_of ds ≤ size_of (n ∷ ds)
size_more n ds some =
    let times : elements ds ≤ elements ds * n = le-mul_of_pos_right (elements ds) some in
    let turned : elements ds * n ≡ n * elements ds = mul_comm (elements ds) n in
    let folds : fold max 0 ds ≤ fold max (max 0 n) ds = fold_more 0 (max 0 n) ds (omega arith) in
    omega arith

and_first : (a b : Bool) → (a && b) ≡ true → a ≡ true
and_first true b h = refl
and_first false b h = absurd (cc)

and_second : (a b : Bool) → (a && b) ≡ true → b ≡ true
and_second true b h = h
and_second false b h = absurd (cc)

bytes_eq-true : (xs ys : List ℕ) → bytes_eq xs ys ≡ true → xs ≡ ys
bytes_eq-true xs ys h = grind (arith, bytes_eq-Decides)

suc-mul_first : (n k : ℕ) → suc n * k ≡ k + n * k
suc-mul_first n k = grind arith

inner_made : (n : ℕ) (ds : List ℕ) → 0 < n → is_too_large (n ∷ ds) ≡ false
    → made_count ds ≡ elements ds
inner_made n ds some h =
    let small : size_of (n ∷ ds) ≤ 1048576 = ltb-false _ _ h in
    let fits : is_too_large ds ≡ false =
    le-ltb 1048576 (size_of ds) (omega (arith, size_more n ds some)) in
    ap (λ (b : Bool). if b then 0 else elements ds) fits

-- each of the same shape has as many
items_counted : (ds : List CodeDatum) (dims : List ℕ) → made_count dims ≡ elements dims
    → list_all (λ e. same_dims e.dims dims) (map datum_of ds) ≡ true
    → length (flat_map (λ e. e.items) (map datum_of ds)) ≡ length ds * elements dims
items_counted [] dims fit h = sym (zero-mul (elements dims))
items_counted (d ∷ ds) dims fit h =
    let first : (datum_of d).dims ≡ dims = bytes_eq-true _ _ (and_first _ _ h) in
    let here : length (datum_of d).items ≡ elements dims =
    sized_of d ∙ ap made_count first ∙ fit in
    let rest : length (flat_map (λ e. e.items) (map datum_of ds)) ≡ length ds * elements dims =
    items_counted ds dims fit (and_second _ _ h) in
    length-append (datum_of d).items (flat_map (λ e. e.items) (map datum_of ds))
    ∙ rw (here, rest) (sym (suc-mul_first (length ds) (elements dims)))

-- as many items as its dimensions make
pub literal_counted : (ds : List CodeDatum) → 0 < length ds
    → are_of_one_shape (map datum_of ds) ≡ true → is_too_large (dims_of (map datum_of ds)) ≡ false
    → length (flat_map (λ e. e.items) (map datum_of ds)) ≡ elements (dims_of (map datum_of ds))
literal_counted [] some h small = absurd (omega arith)
literal_counted (d ∷ ds) some h small =
    let dims : List ℕ = (datum_of d).dims in
    let n : ℕ = length (map datum_of (d ∷ ds)) in
    let fit : made_count dims ≡ elements dims = inner_made n dims (omega arith) small in
    length-append (datum_of d).items (flat_map (λ e. e.items) (map datum_of ds))
    ∙ rw (sized_of d, fit, items_counted ds dims fit h, length-map ds datum_of)
    (sym (suc-mul_first (length ds) (elements dims)))

pub some_items : (n : ℕ) → false ≡ (n == 0) → 0 < n
some_items zero h = absurd (cc)
some_items (suc n) h = omega arith

pub literal_made : (items : List Value) (all : List CodeDatum) (dims : List ℕ) → 0 < length all
    → are_of_one_shape (map datum_of all) ≡ true → dims ≡ dims_of (map datum_of all)
    → map meant items ≡ flat_map (λ e. e.items) (map datum_of all) → is_too_large dims ≡ false
    → length items ≡ elements dims
literal_made items all dims some alike is e small =
    sym (length-map items meant) ∙ ap length e
    ∙ literal_counted all some alike (ap is_too_large (sym is) ∙ small) ∙ ap elements (sym is)

pub gathered_is : (w : Where) (all : List Datum) (s : State) → 0 < length all
    → are_of_one_shape all ≡ true
    → gathered w all s
    ≡ Ok (made (dims_of all) (flat_map (λ e. e.items) all), adding (with_array (dims_of all)) s)
gathered_is w [] s some h = absurd (omega arith)
gathered_is w (d ∷ ds) s some h =
    let result : Tried (Datum × State) =
    Ok (
      made (dims_of (d ∷ ds)) (flat_map (λ e. e.items) (d ∷ ds)),
      adding (with_array (dims_of (d ∷ ds))) s,
    ) in
    ap (λ t. needed t w ShapeDiffers result) h

-- ---- elements that are moved, one after the other
pub moved : {X Y : Type 0} (F : List X → List Y) (g : X → List Y) (vs others : List X) (at : ℕ)
    (v x : X) (front back all : List Y) → ((rest : List X) → F (v ∷ rest) ≡ g v ++ F rest)
    → at < length vs → v ≡ get_or vs at v → others ≡ set vs at x → back ≡ front ++ g v
    → front ++ F (drop at vs) ≡ all → back ++ F (drop (at + 1) others) ≡ all
moved F g vs others at v x front back all step h is written e whole =
    let later : at < at + 1 = omega arith in
    rw (e, written, drop-set-lt (at + 1) vs at x later)
    (append_assoc front (g v) (F (drop (at + 1) vs))
    ∙ ap (λ ys. front ++ ys) (sym (step (drop (at + 1) vs)))
    ∙ sym (at_read (λ xs. front ++ F xs) vs at v h is) ∙ whole)

pub all_moved : {X Y : Type 0} (F : List X → List Y) (vs : List X) (at : ℕ) (front all : List Y)
    → F [] ≡ [] → length vs ≤ at → front ++ F (drop at vs) ≡ all → front ≡ all
all_moved F vs at front all none h whole =
    sym (append-nil front) ∙ ap (λ ys. front ++ ys) (sym none)
    ∙ ap (λ xs. front ++ F xs) (sym (drop_all at vs h)) ∙ whole
