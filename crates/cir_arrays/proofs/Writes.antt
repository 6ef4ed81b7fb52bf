-- What is written into the part that indices mean.
use Rattle.std.proofs.Common.{◌≡◌, ℕ, zero, suc, ◌+◌, ◌<◌, ◌≤◌, ◌⊎◌, inl, inr, Option, true, false}
use Rattle.std.proofs.Common.{List, [], ◌∷◌, ◌++◌, length, get_or, take, drop, set, ap, sym, ◌∙◌}
use Rattle.std.proofs.Common.{refl, add_assoc, arith}
use Rattle.std.specs.Prelude.{◌^◌, ◌-◌, min, map}
use Rattle.std.proofs.lemmas.Bool.{cases_lt}
use Rattle.std.proofs.lemmas.List.{append-nil, drop_all, drop_more, drop-set-lt, take_all}
use Rattle.cir_values.specs.declared.value.Value.{Value as CodeValue}
use Rattle.cir_values.specs.declared.value.Value.TheVariants.{Opaque as CodeOpaque}
use Rattle.cir_values.specs.Meant.{meant}
use Rattle.cir_meaning.specs.Limits.{standing, is_too_large}
use Rattle.cir_meaning.specs.Places.{numbers_from}
use Rattle.cir_meaning.specs.Values.{Value, Opaque}
use Rattle.cir_meaning.specs.Arrays.{Datum, Reach, put_items}
use Rattle.cir_meaning.specs.Writing.{written_datum}
use Rattle.cir_arrays.specs.declared.arrays.Datum.{Datum as CodeDatum}
use Rattle.cir_arrays.specs.declared.arrays.Datum.TheVariants.{Number, Array}
use Rattle.cir_arrays.specs.declared.reach.Part.TheVariants as part
use Rattle.cir_arrays.specs.declared.reach.Reach.{Reach as CodeReach}
use Rattle.cir_arrays.specs.Reached.{IsReach}
use Rattle.cir_arrays.specs.Shown.{datum_of}
use Rattle.cir_arrays.proofs.Lists.{set_standing}
use Rattle.cir_arrays.proofs.PartsRead.{by_bool, nothing_made}

pub put_nothing : {A : Type 0} (ks : List ℕ) (items : List A) → put_items ks [] items ≡ items
put_nothing [] items = refl
put_nothing (k ∷ ks) items = refl

pub put_nowhere : {A : Type 0} (ks : List ℕ) (new : List A) → put_items ks new [] ≡ []
put_nowhere [] new = refl
put_nowhere (k ∷ ks) [] = refl
put_nowhere (k ∷ ks) (a ∷ new) = put_nowhere ks new

pub put_one : (first count : ℕ) (a : Value) (items : List Value) → 0 < count
    → put_items (numbers_from first count) (a ∷ []) items ≡ set items first a
put_one first zero a items h = absurd (omega arith)
put_one first (suc n) a items h = put_nothing (numbers_from (first + 1) n) (set items first a)

-- one item more is put
pub put_more : (first at count : ℕ) (vs : List CodeValue) (items : List Value) (d : CodeValue)
    → at < count → at < length vs
    → put_items (numbers_from (first + at) (count - at)) (map meant (drop at vs)) items
    ≡ put_items (numbers_from (first + (at + 1)) (count - (at + 1))) (map meant (drop (at + 1) vs))
    (set items (first + at) (meant (get_or vs at d)))
put_more first at count vs items d h k =
    let left : count - at ≡ suc (count - (at + 1)) = omega arith in
    rw (left, drop_more vs at d k, add_assoc first at 1) refl

pub put_step : (first at count place : ℕ) (vs others : List CodeValue) (items new all : List Value)
    (v x : CodeValue) → at < count → at < length vs → length items ≤ 2 ^ 64 - 1
    → others ≡ set vs at x → new ≡ set items place (meant v) → place ≡ standing (first + at)
    → v ≡ get_or vs at v
    → put_items (numbers_from (first + at) (count - at)) (map meant (drop at vs)) items ≡ all
    → put_items (numbers_from (first + (at + 1)) (count - (at + 1)))
    (map meant (drop (at + 1) others))
    new ≡ all
put_step first at count place vs others items new all v x h k short o n stood is whole =
    let later : at < at + 1 = omega arith in
    let written : new ≡ set items (first + at) (meant (get_or vs at v)) =
    n ∙ (ap (λ j. set items j (meant v)) stood ∙ (set_standing items (first + at) (meant v) short
    ∙ ap (λ w. set items (first + at) (meant w)) is)) in
    rw (o, drop-set-lt (at + 1) vs at x later, written)
    (sym (put_more first at count vs items v h k) ∙ whole)

pub min_either : (a b n : ℕ) → min a b ≤ n → (a ≤ n) ⊎ (b ≤ n)
min_either a b n h = at (cases_lt n a)
  where
    at : (n < a) ⊎ (a ≤ n) → (a ≤ n) ⊎ (b ≤ n)
    at (inl k) = inr (omega arith)
    at (inr k) = inl k

pub put_end : (first at count : ℕ) (vs : List CodeValue) (items all : List Value)
    → (count ≤ at) ⊎ (length vs ≤ at)
    → put_items (numbers_from (first + at) (count - at)) (map meant (drop at vs)) items ≡ all
    → items ≡ all
put_end first at count vs items all (inl h) e =
    let none : count - at ≡ 0 = omega arith in rw none at e
put_end first at count vs items all (inr h) e =
    sym (ap (λ xs. put_items (numbers_from (first + at) (count - at)) (map meant xs) items)
    (drop_all at vs h) ∙ put_nothing (numbers_from (first + at) (count - at)) items) ∙ e

-- a known part is written
pub known_write : (old : CodeDatum) (new : Datum) (indices : List (Option ℕ)) (p : CodeReach)
    (first count : ℕ) (m : Reach) → p.part ≡ part.Known first count
    → IsReach (datum_of old).dims indices p m
    → ◌≡◌ {A = Datum} (record (datum_of old) {
      items = put_items (numbers_from first count) new.items (datum_of old).items;
    }) (written_datum (datum_of old) m new)
known_write old new indices p first count m k r =
    let sure : m.is_sure ≡ true = sym (rw k at r.sure) in
    rw sure (ap made (by_bool (is_too_large (datum_of old).dims) (large old) small))
  where
    made : List Value → Datum
    made items = record { dims = (datum_of old).dims; items = items }

    large : (d : CodeDatum) → is_too_large (datum_of d).dims ≡ true
        → put_items (numbers_from first count) new.items (datum_of d).items
        ≡ put_items m.places new.items (datum_of d).items
    large (Number v) h = absurd (cc)
    large (Array a) h =
        let none : a.items.items ≡ [] = nothing_made a.dims.items a.items.items a.sized h in
        rw none (put_nowhere (numbers_from first count) new.items
        ∙ sym (put_nowhere m.places new.items))

    small : is_too_large (datum_of old).dims ≡ false
        → put_items (numbers_from first count) new.items (datum_of old).items
        ≡ put_items m.places new.items (datum_of old).items
    small h = ap (λ ks. put_items ks new.items (datum_of old).items) (rw k at (r.places h))

-- every item is forgotten
all_forgotten : (vs : List CodeValue) → map meant (map (λ v. CodeOpaque) vs)
    ≡ map (λ v. Opaque) (map meant vs)
all_forgotten [] = refl
all_forgotten (v ∷ vs) = ap (λ xs. Opaque ∷ xs) (all_forgotten vs)

pub forgot : (vs new : List CodeValue) (n : ℕ) → length vs ≤ n
    → new ≡ map (λ v. CodeOpaque) (take n vs) ++ drop n vs
    → map meant new ≡ map (λ v. Opaque) (map meant vs)
forgot vs new n h e =
    ap (map meant) (e ∙ rw (take_all n vs h, drop_all n vs h) (append-nil _)) ∙ all_forgotten vs
