-- Declared entries by their number, and which element of a component is created first.
use Rattle.std.proofs.Common.{◌≡◌, ℕ, zero, suc, ◌+◌, ◌<◌, ◌≤◌, Bool, true, false, ◌&&◌, eqb, List}
use Rattle.std.proofs.Common.{[], ◌∷◌, ◌++◌, length, get_or, set, Option, Some, None, is_some, ap}
use Rattle.std.proofs.Common.{sym, ◌∙◌, refl, add-zero, zero-add, arith}
use Rattle.std.specs.Prelude.{◌-◌, min, not, cond, if◌then◌else◌, map, option_map, replicate}
use Rattle.std.specs.Prelude.{slice_get, unwrap_or, count_by}
use Rattle.std.specs.List.{list_all, position_from}
use Rattle.std.proofs.Math.Dec.{eqb-suc-zero}
use Rattle.std.proofs.lemmas.List.{get_or-map, get_or_past, length-map}
use Rattle.std.proofs.lemmas.List.Folds.{sum_by-zero}
use Rattle.std.proofs.lemmas.Option.{none-some, same_Some, slice_get-map, unwrap_or-slice_get}
use Rattle.cir_meaning.specs.Arrays.{Datum}
use Rattle.cir_meaning.specs.Frame.{Part, Group, Outputs, PublicInputs, PrivateInputs, Others}
use Rattle.cir_meaning.specs.Frame.{Sizes, more_in, put_at, entry_at, is_fed, is_input}
use Rattle.cir_meaning.specs.Declaring.{template_of}
use Rattle.cir_arrays.specs.declared.arrays.Datum.{Datum as CodeDatum}
use Rattle.cir_frame.specs.declared.signal.SignalEntry.{SignalEntry}
use Rattle.cir_meaning.specs.Places.{elements}
use Rattle.cir_meaning.specs.Limits.{is_too_large, standing}
use Rattle.cir_arrays.specs.Made.{made_count}
use Rattle.cir_frame.specs.Missing.{missing_of, missing_in}
use Rattle.cir_arrays.specs.Shown.{datum_of}
use Rattle.cir_frame.specs.Shown.{signals_of}

-- the variable of a number
pub variable_is : (vs : List CodeDatum) (n : ℕ) (d : CodeDatum) (z : Datum) → n < length vs
    → d ≡ get_or vs n d → unwrap_or (slice_get (map datum_of vs) n) z ≡ datum_of d
variable_is vs n d z h e =
    unwrap_or-slice_get (map datum_of vs) n z
    ∙ (get_or-map datum_of vs n d z h ∙ ap datum_of (sym e))

-- entries that aren't declared change nothing
pub put_behind : {A : Type 0} (n : ℕ) (a : A) (xs : List (Option A)) → length xs ≤ n
    → put_at n a (xs ++ None ∷ []) ≡ put_at n a xs
put_behind zero a [] h = refl
put_behind zero a (x ∷ xs) h = absurd (omega arith)
put_behind (suc n) a [] h = refl
put_behind (suc n) a (x ∷ xs) h = ap (λ ys. x ∷ ys) (put_behind n a xs (omega arith))

pub put_set : {A : Type 0} (n : ℕ) (a : A) (xs : List (Option A)) → n < length xs
    → set xs n (Some a) ≡ put_at n a xs
put_set n a [] h = absurd (omega arith)
put_set zero a (x ∷ xs) h = refl
put_set (suc n) a (x ∷ xs) h = ap (λ ys. x ∷ ys) (put_set n a xs (omega arith))

pub put_map : {A B : Type 0} (f : A → B) (n : ℕ) (a : A) (xs : List (Option A))
    → map (option_map f) (put_at n a xs) ≡ put_at n (f a) (map (option_map f) xs)
put_map f zero a [] = refl
put_map f zero a (x ∷ xs) = refl
put_map f (suc n) a [] = ap (λ ys. None ∷ ys) (put_map f n a [])
put_map f (suc n) a (x ∷ xs) = ap (λ ys. option_map f x ∷ ys) (put_map f n a xs)

-- the first element that is created, with one more
first_from : (k f : ℕ) (xs : List (Option ℕ)) → position_from is_some k xs ≡ Some f → k ≤ f
first_from k f [] h = absurd (cc)
first_from k f (None ∷ xs) h = let later = first_from (k + 1) f xs h in omega arith
first_from k f (Some x ∷ xs) h = let same : k ≡ f = cc in omega arith

pub first_of_none : (k p j : ℕ) (xs : List (Option ℕ)) → p < length xs
    → position_from is_some k xs ≡ None → position_from is_some k (set xs p (Some j)) ≡ Some (k + p)
first_of_none k p j [] h e = absurd (omega arith)
first_of_none k p j (Some x ∷ xs) h e = absurd (cc)
first_of_none k zero j (None ∷ xs) h e = ap Some (sym (add-zero k))
first_of_none k (suc p) j (None ∷ xs) h e =
    first_of_none (k + 1) p j xs (omega arith) e ∙ ap Some (omega arith)

pub first_of_some : (k p j f : ℕ) (xs : List (Option ℕ)) → p < length xs
    → position_from is_some k xs ≡ Some f
    → position_from is_some k (set xs p (Some j)) ≡ Some (min f (k + p))
first_of_some k p j f [] h e = absurd (omega arith)
first_of_some k zero j f (Some x ∷ xs) h e =
    let same : k ≡ f = cc in ap Some (omega arith)
first_of_some k (suc p) j f (Some x ∷ xs) h e =
    let same : k ≡ f = cc in ap Some (omega arith)
first_of_some k zero j f (None ∷ xs) h e =
    let later = first_from (k + 1) f xs e in ap Some (omega arith)
first_of_some k (suc p) j f (None ∷ xs) h e =
    first_of_some (k + 1) p j f xs (omega arith) e ∙ ap (λ n. Some (min f n)) (omega arith)

-- the template is told by the first element that is created
pub none_led : (parts : List Part) (k : ℕ) (xs : List (Option ℕ))
    → position_from is_some k xs ≡ None → template_of parts xs ≡ None
none_led parts k [] h = refl
none_led parts k (None ∷ xs) h = none_led parts (k + 1) xs h
none_led parts k (Some j ∷ xs) h = absurd (cc)

led_from : (parts : List Part) (k f : ℕ) (xs : List (Option ℕ))
    → position_from is_some k xs ≡ Some f
    → (j : ℕ) × (slice_get xs (f - k) ≡ Some (Some j))
    × (template_of parts xs ≡ template_of parts (Some j ∷ []))
led_from parts k f [] h = absurd (cc)
led_from parts k f (Some j ∷ xs) h =
    let same : k ≡ f = cc in
    let here : f - k ≡ 0 = omega arith in
    (j, rw here refl, refl)
led_from parts k f (None ∷ xs) h =
    let later = led_from parts (k + 1) f xs h in
    let behind = first_from (k + 1) f xs h in
    let there : f - k ≡ suc (f - (k + 1)) = omega arith in
    (later.0, rw there later.1, later.2)

pub led : (parts : List Part) (f : ℕ) (xs : List (Option ℕ))
    → position_from is_some 0 xs ≡ Some f
    → (j : ℕ) × (entry_at xs f ≡ Some j)
    × (template_of parts xs ≡ template_of parts (Some j ∷ []))
led parts f xs h =
    let found = led_from parts 0 f xs h in
    let same : f ≡ f - 0 = omega arith in
    let there : entry_at xs f ≡ Some found.0 =
    ap (entry_at xs) same ∙ ap (λ o. unwrap_or o None) found.1 in
    (found.0, there, found.2)

-- all inputs are written where none is missing
sum_zero : (a b : ℕ) → eqb (a + b) 0 ≡ (eqb a 0 && eqb b 0)
sum_zero zero b = rw (zero-add b) refl
sum_zero (suc a) b =
    let e : suc a + b ≡ suc (a + b) = omega arith in
    rw (e, eqb-suc-zero (a + b), eqb-suc-zero a) refl

marks_zero : (marks : List Bool) → list_all (λ b. eqb (cond (not b) 1 0) 0) marks
    ≡ list_all (λ b. b) marks
marks_zero [] = refl
marks_zero (true ∷ marks) = marks_zero marks
marks_zero (false ∷ marks) = refl

entry_fed : (b : Bool) (marks : List Bool)
    → eqb (if b then count_by not marks else 0) 0 ≡ (if b then list_all (λ m. m) marks else true)
entry_fed true marks = sum_by-zero (λ m. cond (not m) 1 0) marks ∙ marks_zero marks
entry_fed false marks = refl

pub fed : (es : List (Option SignalEntry)) → eqb (missing_in es) 0 ≡ is_fed (signals_of es)
fed [] = refl
fed (None ∷ es) = fed es
fed (Some e ∷ es) =
    sum_zero (missing_of e) (missing_in es)
    ∙ (ap (λ b. b && eqb (missing_in es) 0) (entry_fed (is_input e.direction) e.written.items)
    ∙ ap (λ b. (if is_input e.direction then list_all (λ m. m) e.written.items else true) && b)
    (fed es))

-- a count that stands still
pub standing_sum : (a b : ℕ) → standing (a + standing b) ≡ standing (a + b)
standing_sum a b = omega arith

pub more_standing : (g : Group) (n : ℕ) (s : Sizes) → more_in g (standing n) s ≡ more_in g n s
more_standing Outputs n s = rw (standing_sum s.outputs n) refl
more_standing PublicInputs n s = rw (standing_sum s.public_inputs n) refl
more_standing PrivateInputs n s = rw (standing_sum s.private_inputs n) refl
more_standing Others n s = rw (standing_sum s.others n) refl

-- entries that aren't declared
pub none_seen : {A B : Type 0} (f : A → B) (n : ℕ)
    → map (option_map f) (replicate n None) ≡ replicate n None
none_seen f zero = refl
none_seen f (suc n) = ap (λ xs. None ∷ xs) (none_seen f n)

pub none_first : (k n : ℕ) → position_from (is_some {T = ℕ}) k (replicate n None) ≡ None
none_first k zero = refl
none_first k (suc n) = none_first (k + 1) n

-- as many as are made
pub made_same : {X : Type 0} (dims : List ℕ) (x : X) → replicate (made_count dims) x
    ≡ (if is_too_large dims then [] else replicate (elements dims) x)
made_same dims x = at (is_too_large dims)
  where
    at : (b : Bool) → replicate (if b then 0 else elements dims) x
        ≡ (if b then [] else replicate (elements dims) x)
    at true = refl
    at false = refl

-- an entry of a number, as it is seen
pub entry_seen : {A B : Type 0} (f : A → B) (xs : List (Option A)) (n : ℕ) (x : Option A)
    → n < length xs → x ≡ get_or xs n x → entry_at (map (option_map f) xs) n ≡ option_map f x
entry_seen f xs n x h e =
    unwrap_or-slice_get (map (option_map f) xs) n None
    ∙ (get_or-map (option_map f) xs n x None h ∙ ap (option_map f) (sym e))

pub entry_got : {A B : Type 0} (f : A → B) (xs : List (Option A)) (n : ℕ) (a : A)
    → slice_get xs n ≡ Some (Some a) → entry_at (map (option_map f) xs) n ≡ Some (f a)
entry_got f xs n a h =
    ap (λ o. unwrap_or o None)
    (slice_get-map (option_map f) xs n ∙ ap (option_map (option_map f)) h)

pub entry_past : {A B : Type 0} (f : A → B) (xs : List (Option A)) (n : ℕ) → length xs ≤ n
    → entry_at (map (option_map f) xs) n ≡ None
entry_past f xs n h =
    unwrap_or-slice_get (map (option_map f) xs) n None
    ∙ get_or_past (map (option_map f) xs) n None (rw (length-map xs (option_map f)) h)

pub same_entry : {A B : Type 0} (f : A → B) (xs : List (Option A)) (n : ℕ) (x : Option A) (a : A)
    (b : B) → n < length xs → x ≡ get_or xs n x → x ≡ Some a
    → entry_at (map (option_map f) xs) n ≡ Some b → f a ≡ b
same_entry f xs n x a b h e is there =
    same_Some (f a) b (ap (option_map f) (sym is) ∙ (sym (entry_seen f xs n x h e) ∙ there))

pub no_entry : {A B : Type 0} (f : A → B) (xs : List (Option A)) (n : ℕ) (x : Option A) (b : B)
    → n < length xs → x ≡ get_or xs n x → x ≡ None
    → entry_at (map (option_map f) xs) n ≡ Some b → ⊥
no_entry f xs n x b h e is there =
    none-some b (ap (option_map f) (sym is) ∙ (sym (entry_seen f xs n x h e) ∙ there))

pub put_seen : {A B : Type 0} (f : A → B) (xs : List (Option A)) (n : ℕ) (a : A) → n < length xs
    → map (option_map f) (set xs n (Some a)) ≡ put_at n (f a) (map (option_map f) xs)
put_seen f xs n a h = ap (map (option_map f)) (put_set n a xs h) ∙ put_map f n a xs
