-- Where calls stand in a table.
use Rattle.std.proofs.Common.{◌≡◌, ◌∙◌, ℕ, suc, Bool, true, false, List, [], ◌∷◌, ◌++◌, length}
use Rattle.std.proofs.Common.{refl, ap, ap₂, sym, subst, cond, append-nil}
use Rattle.std.specs.Prelude.{◌==◌, ◌||◌, if◌then◌else◌, map, Option, Some, None, is_some}
use Rattle.std.specs.Prelude.{option_map, Result, Ok, Err, is_err, OnOk}
use Rattle.std.specs.List.{list_any}
use Rattle.std.specs.BTreeMap.{BTreeMap, Updates, get}
use Rattle.std.specs.Ordering.{is_eq, nat_cmp}
use Rattle.std.specs.Cmp.{both_tied, unsigned_ties}
use Rattle.std.specs.Cmp.Lexicographic.{bytes_decides, slice_cmp, texts_ties}
use Rattle.std.specs.declared.cmp.Ordering.{Ordering}
use Rattle.std.specs.declared.vec.Vec.{Vec}
use Rattle.std.specs.declared.alloc.Global.{Global}
use Rattle.std.proofs.lemmas.List.{length-map, map-append}
use Rattle.std.proofs.lemmas.Bool.{and_parts, and_from, eqb-true, eq-eqb}
use Rattle.cir_meaning.specs.Arrays.{same_dims}
use Rattle.cir_meaning.specs.Costs as C
use Rattle.cir_meaning.specs.Functions.{same_shapes, same_made}
use Rattle.cir_rules.specs.declared.made.Made.{Made}
use Rattle.cir_rules.specs.Queue.{with_new}
use Rattle.cir_rules.specs.Shown.{made_of}
use Rattle.cir_rules.specs.Table.{place_in, made_cmp, AreTold}

-- ---- one more behind the others
none_step : (b : Bool) (o : Option ℕ)
    → (if b then Some 0 else option_map (λ n. suc n) o) ≡ None → (b ≡ false) × (o ≡ None)
none_step true o e = cc
none_step false None e = (refl, refl)
none_step false (Some n) e = cc

pushed_told : {A : Type 0} (told : A → Bool) (as' : List A) (x : A) → place_in told as' ≡ None
    → told x ≡ true → place_in told (as' ++ x ∷ []) ≡ Some (length as')
pushed_told told [] x none here =
    ap (λ b. if b then Some 0 else option_map (λ n. suc n) (place_in told [])) here
pushed_told told (a ∷ as') x none here =
    let e = none_step (told a) (place_in told as') none in
    ap (λ b. if b then Some 0 else option_map (λ n. suc n) (place_in told (as' ++ x ∷ []))) e.0
    ∙ ap (λ o. option_map (λ n. suc n) o) (pushed_told told as' x e.1 here)

pushed_other : {A : Type 0} (told : A → Bool) (as' : List A) (x : A) → told x ≡ false
    → place_in told (as' ++ x ∷ []) ≡ place_in told as'
pushed_other told [] x other =
    ap (λ b. if b then Some 0 else option_map (λ n. suc n) (place_in told [])) other
pushed_other told (a ∷ as') x other =
    ap (λ o. if told a then Some 0 else option_map (λ n. suc n) o)
    (pushed_other told as' x other)

any_step : (b c : Bool) (o : Option ℕ) → is_some o ≡ c
    → is_some (if b then Some 0 else option_map (λ n. suc n) o) ≡ (b || c)
any_step true c o e = refl
any_step false c None e = e
any_step false c (Some n) e = e

pub is_placed : {A : Type 0} (told : A → Bool) (as' : List A)
    → is_some (place_in told as') ≡ list_any told as'
is_placed told [] = refl
is_placed told (a ∷ as') = any_step (told a) (list_any told as') (place_in told as')
    (is_placed told as')

-- ---- calls are in order where they are the same
shapes_tied : (ds es : List (Vec ℕ Global))
    → same_shapes (map (λ d. d.items) ds) (map (λ d. d.items) es)
    ≡ is_eq (slice_cmp (λ d e. slice_cmp nat_cmp d.items e.items) ds es)
shapes_tied [] [] = refl
shapes_tied [] (e ∷ es) = refl
shapes_tied (d ∷ ds) [] = refl
shapes_tied (d ∷ ds) (e ∷ es) = both_tied _ _ (slice_cmp nat_cmp d.items e.items)
    (slice_cmp (λ d e. slice_cmp nat_cmp d.items e.items) ds es) (texts_ties d.items e.items)
    (shapes_tied ds es)

pub made_tied : (a b : Made) → same_made (made_of a) (made_of b) ≡ is_eq (made_cmp a b)
made_tied a b = both_tied _ _ (nat_cmp a.function b.function)
    (slice_cmp (λ d e. slice_cmp nat_cmp d.items e.items) a.shapes.items b.shapes.items)
    (unsigned_ties a.function b.function) (shapes_tied a.shapes.items b.shapes.items)

pub same_is : (a b : C.Made) → same_made a b ≡ true → a ≡ b
same_is a b h =
    let parts = and_parts (a.function == b.function) (same_shapes a.shapes b.shapes) h in
    ap₂ (λ f s. record { function = f; shapes = s }) (eqb-true a.function b.function parts.0)
    (shapes_are a.shapes b.shapes parts.1)
  where
    shapes_are : (ds es : List (List ℕ)) → same_shapes ds es ≡ true → ds ≡ es
    shapes_are [] [] h = refl
    shapes_are [] (e ∷ es) h = cc
    shapes_are (d ∷ ds) [] h = cc
    shapes_are (d ∷ ds) (e ∷ es) h =
        let parts = and_parts (same_dims d e) (same_shapes ds es) h in
        ap₂ (λ x xs. x ∷ xs) ((bytes_decides d e).0 parts.0) (shapes_are ds es parts.1)

pub same_itself : (a : C.Made) → same_made a a ≡ true
same_itself a =
    and_from (a.function == a.function) (same_shapes a.shapes a.shapes)
    (eq-eqb a.function a.function refl) (shapes_itself a.shapes)
  where
    shapes_itself : (ds : List (List ℕ)) → same_shapes ds ds ≡ true
    shapes_itself [] = refl
    shapes_itself (d ∷ ds) =
        and_from (same_dims d d) (same_shapes ds ds) ((bytes_decides d d).1 refl)
        (shapes_itself ds)

-- ---- a table with one call more
pub told_more : (m n : BTreeMap Made ℕ) (calls : List Made) (x : Made) (copy : Made) (k : ℕ)
    → AreTold m calls → Updates made_cmp m n copy (Some k) → made_of copy ≡ made_of x
    → place_in (λ c. same_made c (made_of x)) (map made_of calls) ≡ None → k ≡ length calls
    → AreTold n (calls ++ x ∷ [])
told_more m n calls x copy k told updates copied none at = λ q.
    updates.0 q ∙ sym (ap (λ l. place_in (λ c. same_made c (made_of q)) l)
    (map-append made_of calls (x ∷ []))
    ∙ one q (is_eq (made_cmp copy q)) refl)
  where
    here : (q : Made) → same_made (made_of x) (made_of q) ≡ is_eq (made_cmp copy q)
    here q = ap (λ c. same_made c (made_of q)) (sym copied) ∙ made_tied copy q

    one : (q : Made) (b : Bool) → is_eq (made_cmp copy q) ≡ b
        → place_in (λ c. same_made c (made_of q)) (map made_of calls ++ made_of x ∷ [])
        ≡ cond (is_eq (made_cmp copy q)) (Some k) (get made_cmp m q)
    one q true e =
        let is : made_of x ≡ made_of q = same_is (made_of x) (made_of q) (here q ∙ e) in
        pushed_told (λ c. same_made c (made_of q)) (map made_of calls) (made_of x)
        (subst (λ y. place_in (λ c. same_made c y) (map made_of calls) ≡ None) is none)
        (here q ∙ e)
        ∙ ap (λ i. Some i) (length-map calls made_of ∙ sym at)
        ∙ sym (ap (λ b. cond b (Some k) (get made_cmp m q)) e)
    one q false e =
        pushed_other (λ c. same_made c (made_of q)) (map made_of calls) (made_of x) (here q ∙ e)
        ∙ sym (told q)
        ∙ sym (ap (λ b. cond b (Some k) (get made_cmp m q)) e)

-- ---- what is new
same_back : (a b : C.Made) → same_made a b ≡ same_made b a
same_back a b = at (same_made a b) (same_made b a) refl refl
  where
    at : (x y : Bool) → same_made a b ≡ x → same_made b a ≡ y → x ≡ y
    at true y e f = sym (same_itself a) ∙ ap (λ c. same_made c a) (same_is a b e) ∙ f
    at false false e f = refl
    at false true e f =
        sym e ∙ ap (same_made a) (same_is b a f) ∙ same_itself a

any_back : (a : C.Made) (known : List C.Made)
    → list_any (λ m. same_made m a) known ≡ list_any (same_made a) known
any_back a [] = refl
any_back a (b ∷ bs) =
    ap₂ (λ x y. x || y) (same_back b a) (any_back a bs)

pub added : (known : List C.Made) (a : C.Made) (b : Bool)
    → is_some (place_in (λ m. same_made m a) known) ≡ b
    → with_new same_made known (a ∷ []) ≡ (if b then known else known ++ a ∷ [])
added known a b e =
    let any : list_any (same_made a) known ≡ b =
    sym (any_back a known) ∙ sym (is_placed (λ m. same_made m a) known) ∙ e in
    ap (λ x. known ++ (if x then [] else a ∷ [])) any ∙ at b
  where
    at : (x : Bool) → (known ++ (if x then [] else a ∷ []))
        ≡ (if x then known else known ++ a ∷ [])
    at true = append-nil known
    at false = refl

pub none_if : (o : Option ℕ) → is_some o ≡ false → o ≡ None
none_if None e = refl
none_if (Some n) e = cc

pub ok_of : {A E : Type 0} (r : Result A E) (P : Type 0) → is_err r ≡ false → OnOk r P → P
ok_of (Ok a) P e h = h
ok_of (Err x) P e h = cc
