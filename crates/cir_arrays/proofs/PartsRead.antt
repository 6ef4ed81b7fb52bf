-- What is read of the part that indices mean.
use Rattle.std.proofs.Common.{◌≡◌, ℕ, Option, Bool, true, false, List, [], ◌∷◌, ◌++◌, ◌≤◌, ◌+◌}
use Rattle.std.proofs.Common.{length, ap, sym, ◌∙◌, refl, lit≤, arith}
use Rattle.std.specs.Prelude.{◌^◌, ◌-◌, map, replicate}
use Rattle.std.proofs.lemmas.List.{length-map, map_push, nil_from_length}
use Rattle.cir_values.specs.Meant.{meant}
use Rattle.cir_meaning.specs.Limits.{is_too_large}
use Rattle.cir_meaning.specs.Places.{elements, numbers_from}
use Rattle.cir_meaning.specs.Values.{Value, Known}
use Rattle.cir_meaning.specs.Arrays.{Datum, Reach, single, made, item_at, read_part}
use Rattle.cir_arrays.specs.declared.arrays.Datum.{Datum as CodeDatum}
use Rattle.cir_arrays.specs.declared.arrays.Datum.TheVariants.{Number, Array}
use Rattle.cir_arrays.specs.declared.reach.Part.TheVariants as part
use Rattle.cir_arrays.specs.declared.reach.Reach.{Reach as CodeReach}
use Rattle.cir_arrays.specs.Made.{made_count}
use Rattle.cir_arrays.specs.Reached.{IsReach}
use Rattle.cir_arrays.specs.Shown.{datum_of}
use Rattle.cir_arrays.proofs.Runs.{length_numbers, numbers_more}
use Rattle.cir_arrays.proofs.Reaching.{small_elements}
use Rattle.cir_values.specs.declared.value.Value.{Value as CodeValue}

pub by_bool : {P : Type 0} (b : Bool) → (b ≡ true → P) → (b ≡ false → P) → P
by_bool true one other = one refl
by_bool false one other = other refl

made_none : (dims : List ℕ) → is_too_large dims ≡ true → made_count dims ≡ 0
made_none dims h = rw h refl

made_all : (dims : List ℕ) → is_too_large dims ≡ false → made_count dims ≡ elements dims
made_all dims h = rw h refl

-- an array that is too large has no items
pub nothing_made : {X : Type 0} (dims : List ℕ) (items : List X) → length items ≡ made_count dims
    → is_too_large dims ≡ true → items ≡ []
nothing_made dims items e h = nil_from_length items (e ∙ made_none dims h)

pub unmade : (d : CodeDatum) → is_too_large (datum_of d).dims ≡ true → (k : ℕ)
    → item_at (datum_of d).items k ≡ Known 0
unmade (Number v) h k = absurd (cc)
unmade (Array a) h k =
    ap (λ xs. item_at (map meant xs) k) (nothing_made a.dims.items a.items.items a.sized h)

-- items that are all the same
pub same_items : {X : Type 0} (item : ℕ → X) (x : X) (ks : List ℕ) → ((k : ℕ) → item k ≡ x)
    → map item ks ≡ replicate (length ks) x
same_items item x [] h = refl
same_items item x (k ∷ ks) h =
    ap (λ y. y ∷ map item ks) (h k) ∙ ap (λ ys. x ∷ ys) (same_items item x ks h)

-- what is read from the first place on
run_read : (item : ℕ → Value) (dims : List ℕ) (indices : List (Option ℕ)) (p : CodeReach)
    (first count : ℕ) (m : Reach) → p.part ≡ part.Known first count → IsReach dims indices p m
    → (is_too_large dims ≡ true → (k : ℕ) → item k ≡ Known 0)
    → map item (numbers_from first (elements m.left)) ≡ map item m.places
run_read item dims indices p first count m k r none = by_bool (is_too_large dims) large small
  where
    many : length m.places ≡ elements m.left
    many = r.whole (sym (rw k at r.sure))

    large : is_too_large dims ≡ true
        → map item (numbers_from first (elements m.left)) ≡ map item m.places
    large h = same_items item (Known 0) (numbers_from first (elements m.left)) (none h)
        ∙ (ap (λ n. replicate n (Known 0)) (length_numbers first (elements m.left) ∙ sym many)
        ∙ sym (same_items item (Known 0) m.places (none h)))

    small : is_too_large dims ≡ false
        → map item (numbers_from first (elements m.left)) ≡ map item m.places
    small h =
        let places : numbers_from first count ≡ m.places = rw k at (r.places h) in
        let all : elements m.left ≡ count =
        sym many ∙ (ap length (sym places) ∙ length_numbers first count) in
        ap (λ n. map item (numbers_from first n)) all ∙ ap (map item) places

items_read : (item : ℕ → Value) (dims : List ℕ) (indices : List (Option ℕ)) (p : CodeReach)
    (first count : ℕ) (m : Reach) → p.part ≡ part.Known first count → IsReach dims indices p m
    → (is_too_large dims ≡ true → (k : ℕ) → item k ≡ Known 0)
    → map item (numbers_from first (made_count m.left)) ≡ (made m.left (map item m.places)).items
items_read item dims indices p first count m k r none =
    by_bool (is_too_large m.left) (λ h. rw h refl)
    (λ h. rw h (run_read item dims indices p first count m k r none))

pub known_read : (item : ℕ → Value) (dims : List ℕ) (indices : List (Option ℕ))
    (p : CodeReach) (first count : ℕ) (m : Reach) → p.part ≡ part.Known first count
    → IsReach dims indices p m
    → (is_too_large dims ≡ true → (k : ℕ) → item k ≡ Known 0) → (items : List Value)
    → items ≡ map item (numbers_from first (made_count p.left.items))
    → ◌≡◌ {A = Datum} record { dims = p.left.items; items = items } (read_part m item)
known_read item dims indices p first count m k r none items e =
    let all : items ≡ (made m.left (map item m.places)).items =
    e ∙ (ap (λ ds. map item (numbers_from first (made_count ds))) r.left
    ∙ items_read item dims indices p first count m k r none) in
    let sure : m.is_sure ≡ true = sym (rw k at r.sure) in
    rw sure (λ i. record { dims = r.left i; items = all i })

pub single_read : (item : ℕ → Value) (dims : List ℕ) (indices : List (Option ℕ))
    (p : CodeReach) (first count : ℕ) (m : Reach) → p.part ≡ part.Known first count
    → IsReach dims indices p m
    → (is_too_large dims ≡ true → (k : ℕ) → item k ≡ Known 0) → p.left.items ≡ []
    → single (item first) ≡ read_part m item
single_read item dims indices p first count m k r none e =
    ap (λ ds. made' ds) (sym e)
    ∙ known_read item dims indices p first count m k r none
    (map item (numbers_from first (made_count p.left.items))) refl
  where
    made' : List ℕ → Datum
    made' ds = record { dims = ds; items = map item (numbers_from first (made_count ds)) }

-- how many items and marks there are
pub few : (dims : List ℕ) → made_count dims ≤ 2 ^ 64 - 1
few dims = by_bool (is_too_large dims) (λ h. rw (made_none dims h) (lit≤ tt))
    (λ h. let small = small_elements dims h in rw (made_all dims h) (omega arith))

pub few_items : (d : CodeDatum) → length (datum_of d).items ≤ 2 ^ 64 - 1
few_items (Number v) = lit≤ tt
few_items (Array a) = rw (length-map a.items.items meant, a.sized) (few a.dims.items)

-- one item more is read
pub items_more : (item : ℕ → Value) (vs new : List CodeValue) (v : CodeValue) (first k : ℕ)
    → new ≡ vs ++ v ∷ [] → meant v ≡ item (first + k)
    → map meant vs ≡ map item (numbers_from first k)
    → map meant new ≡ map item (numbers_from first (k + 1))
items_more item vs new v first k e one all =
    ap (map meant) e ∙ (map_push meant vs v ∙ (ap (λ xs. xs ++ meant v ∷ []) all
    ∙ (ap (λ x. map item (numbers_from first k) ++ x ∷ []) one
    ∙ sym (ap (map item) (numbers_more first k)
    ∙ map_push item (numbers_from first k) (first + k)))))

pub items_count : (item : ℕ → Value) (vs : List CodeValue) (first n : ℕ)
    → map meant vs ≡ map item (numbers_from first n) → length vs ≡ n
items_count item vs first n e =
    sym (length-map vs meant) ∙ (ap length e
    ∙ (length-map (numbers_from first n) item ∙ length_numbers first n))
