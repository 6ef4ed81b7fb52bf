-- Keys in a table: each is found by its function and shapes, and stays where it is.
use Rattle.std.proofs.Common.{◌≡◌, ◌∙◌, ℕ, zero, suc, ◌+◌, ◌<◌, ◌≤◌, Bool, true, false, List, []}
use Rattle.std.proofs.Common.{◌∷◌, ◌++◌, length, refl, ap, ap₂, sym, subst, arith, append_assoc}
use Rattle.std.proofs.Common.{inl, inr, length-append}
use Rattle.std.specs.Prelude.{◌==◌, ◌||◌, if◌then◌else◌, Some, slice_get}
use Rattle.std.specs.List.{list_any, AllByRecursion}
use Rattle.std.proofs.lemmas.Bool.{cases_lt, or_left, or_right}
use Rattle.std.proofs.lemmas.Option.{slice_get_within}
use Rattle.cir_meaning.specs.Costs.{Made}
use Rattle.cir_ast.specs.Program.{Program}
use Rattle.cir_meaning.specs.Functions.{same_made, shaped_calls}
use Rattle.cir_meaning.specs.Reached.{new_ones}
use Rattle.cir_rules.proofs.Placing.{same_is, same_itself}
use Rattle.cir_rules.proofs.Reaching.{moved}
use Rattle.cir_rules.specs.Queue.{with_new, calls_of, visited}
use Rattle.wit_lower.specs.Fits.{HasKey}
use Rattle.wit_lower.specs.Values.{number_of}
use Rattle.wit_procs.proofs.Given.{same_given}
use Rattle.wit_procs.specs.Table.{Grows, HaveKeys}

-- ---- lists
pub front_get : {A : Type 0} (xs ys : List A) (n : ℕ) → n < length xs
    → slice_get (xs ++ ys) n ≡ slice_get xs n
front_get [] ys n lt = absurd (omega (arith, lt))
front_get (x ∷ xs) ys zero lt = refl
front_get (x ∷ xs) ys (suc n) lt = front_get xs ys n (omega (arith, lt))

any_at : {A : Type 0} (test : A → Bool) (xs : List A) (n : ℕ) (x : A) → slice_get xs n ≡ Some x
    → test x ≡ true → list_any test xs ≡ true
any_at test [] n x h t = cc
any_at test (y ∷ ys) zero x h t =
    or_left (test y) (list_any test ys) (ap test (same_given y x h) ∙ t)
any_at test (y ∷ ys) (suc n) x h t =
    or_right (test y) (list_any test ys) (any_at test ys n x h t)

any_front : {A : Type 0} (test : A → Bool) (xs ys : List A) → list_any test xs ≡ true
    → list_any test (xs ++ ys) ≡ true
any_front test [] ys h = cc
any_front test (x ∷ xs) ys h = at (any_front test xs ys) (test x) h
  where
    at : (list_any test xs ≡ true → list_any test (xs ++ ys) ≡ true) → (b : Bool)
        → (b || list_any test xs) ≡ true → (b || list_any test (xs ++ ys)) ≡ true
    at rest true e = refl
    at rest false e = rest e

-- ---- a key that is there
pub has_any : (keys : List Made) (key : Made) → HasKey keys key
    → list_any (same_made key) keys ≡ true
has_any keys key h =
    any_at (same_made key) keys (number_of keys key) h.found h.there
    (subst (λ k. same_made key k ≡ true) is (same_itself key))
  where
    is : key ≡ h.found
    is = ap₂ (λ f s. record { function = f; shapes = s }) (sym h.function) (sym h.shapes)

pub has_key : (keys : List Made) (key : Made) → list_any (same_made key) keys ≡ true
    → HasKey keys key
has_key [] key h = cc
has_key (k ∷ ks) key h =
    at (has_key ks key) (same_made k key) (same_made key k) refl refl h
  where
    place : Bool → ℕ
    place b = if b then 0 else suc (number_of ks key)

    at : (list_any (same_made key) ks ≡ true → HasKey ks key) → (b c : Bool)
        → same_made k key ≡ b → same_made key k ≡ c
        → (same_made key k || list_any (same_made key) ks) ≡ true → HasKey (k ∷ ks) key
    at earlier true c eb ec any =
        let is : k ≡ key = same_is k key eb in
        record {
          found = k;
          there = ap (λ b. slice_get (k ∷ ks) (place b)) eb;
          function = ap (λ m. m.function) is;
          shapes = ap (λ m. m.shapes) is;
        }
    at earlier false true eb ec any =
        absurd (differs (sym eb ∙ ap (λ m. same_made m key) (sym (same_is key k ec))
        ∙ same_itself key))
      where
        differs : false ≡ true → ⊥
        differs e = cc
    at earlier false false eb ec any =
        let rest : HasKey ks key =
        earlier (sym (ap (λ b. b || list_any (same_made key) ks) ec) ∙ any) in
        record {
          found = rest.found;
          there = ap (λ b. slice_get (k ∷ ks) (place b)) eb ∙ rest.there;
          function = rest.function;
          shapes = rest.shapes;
        }

pub grown_key : (keys later : List Made) (key : Made) → HasKey keys key
    → HasKey (keys ++ later) key
grown_key keys later key h =
    has_key (keys ++ later) key (any_front (same_made key) keys later (has_any keys key h))

pub grown_keys : (keys later calls : List Made) → HaveKeys keys calls
    → HaveKeys (keys ++ later) calls
grown_keys keys later [] h = tt
grown_keys keys later (c ∷ cs) h = (grown_key keys later c h.0, grown_keys keys later cs h.1)

-- a key keeps its number
pub same_number : (keys later : List Made) (key : Made) → number_of keys key < length keys
    → number_of (keys ++ later) key ≡ number_of keys key
same_number [] later key lt = absurd (omega (arith, lt))
same_number (k ∷ ks) later key lt = at (same_number ks later key) (same_made k key) refl lt
  where
    at : (number_of ks key < length ks → number_of (ks ++ later) key ≡ number_of ks key)
        → (b : Bool) → same_made k key ≡ b
        → (if b then 0 else suc (number_of ks key)) < suc (length ks)
        → (if same_made k key then 0 else suc (number_of (ks ++ later) key))
        ≡ (if same_made k key then 0 else suc (number_of ks key))
    at earlier true e lt =
        ap (λ b. if b then 0 else suc (number_of (ks ++ later) key)) e
        ∙ sym (ap (λ b. if b then 0 else suc (number_of ks key)) e)
    at earlier false e lt =
        ap (λ n. if same_made k key then 0 else suc n) (earlier (omega (arith, lt)))

-- one that has a number is there
pub numbered_key : (keys : List Made) (key : Made) → number_of keys key < length keys
    → HasKey keys key
numbered_key [] key lt = absurd (omega (arith, lt))
numbered_key (k ∷ ks) key lt = at (numbered_key ks key) (same_made k key) refl lt
  where
    at : (number_of ks key < length ks → HasKey ks key) → (b : Bool) → same_made k key ≡ b
        → (if b then 0 else suc (number_of ks key)) < suc (length ks) → HasKey (k ∷ ks) key
    at earlier true e lt =
        has_key (k ∷ ks) key
        (or_left (same_made key k) (list_any (same_made key) ks)
        (ap (same_made key) (same_is k key e) ∙ same_itself key))
    at earlier false e lt =
        has_key (k ∷ ks) key
        (or_right (same_made key k) (list_any (same_made key) ks)
        (has_any ks key (earlier (omega (arith, lt)))))

-- and one that is added behind the others has their count
pub added_number : (keys : List Made) (key : Made) → length keys ≤ number_of keys key
    → number_of (keys ++ key ∷ []) key ≡ length keys
added_number [] key le =
    ap (λ b. if b then 0 else suc (number_of [] key)) (same_itself key)
added_number (k ∷ ks) key le = at (added_number ks key) (same_made k key) refl le
  where
    at : (length ks ≤ number_of ks key → number_of (ks ++ key ∷ []) key ≡ length ks)
        → (b : Bool) → same_made k key ≡ b
        → suc (length ks) ≤ (if b then 0 else suc (number_of ks key))
        → (if same_made k key then 0 else suc (number_of (ks ++ key ∷ []) key))
        ≡ suc (length ks)
    at earlier true e le = absurd (omega (arith, le))
    at earlier false e le =
        ap (λ b. if b then 0 else suc (number_of (ks ++ key ∷ []) key)) e
        ∙ ap suc (earlier (omega (arith, le)))

most_number : (keys : List Made) (key : Made) → number_of keys key ≤ length keys
most_number [] key = omega arith
most_number (k ∷ ks) key = at (most_number ks key) (same_made k key)
  where
    at : number_of ks key ≤ length ks → (b : Bool)
        → (if b then 0 else suc (number_of ks key)) ≤ suc (length ks)
    at le true = omega arith
    at le false = omega (arith, le)

-- behind the others, and with more keys behind it
pub added_place : (keys all : List Made) (key : Made) (place : ℕ) → place ≡ number_of keys key
    → length keys ≤ place → Grows (keys ++ key ∷ []) all → place ≡ number_of all key
added_place keys all key place is le grows =
    let most = most_number keys key in
    let here : number_of (keys ++ key ∷ []) key ≡ length keys =
    added_number keys key (omega (arith, is, le)) in
    let longer : length (keys ++ key ∷ []) ≡ length keys + 1 = length-append keys (key ∷ []) in
    let same : number_of ((keys ++ key ∷ []) ++ grows.later) key
    ≡ number_of (keys ++ key ∷ []) key =
    same_number (keys ++ key ∷ []) grows.later key (omega (arith, here, longer)) in
    let all_is : number_of all key ≡ number_of ((keys ++ key ∷ []) ++ grows.later) key =
    ap (λ ks. number_of ks key) grows.is in
    omega (arith, is, le, most, here, same, all_is)

pub number_within : (keys : List Made) (key : Made) → number_of keys key ≤ length keys
number_within [] key = omega arith
number_within (k ∷ ks) key = at (number_within ks key) (same_made k key)
  where
    at : number_of ks key ≤ length ks → (b : Bool)
        → (if b then 0 else suc (number_of ks key)) ≤ suc (length ks)
    at earlier true = omega arith
    at earlier false = omega (arith, earlier)

-- a key that isn't there is one more
pub one_new : (keys : List Made) (key : Made) → number_of keys key ≡ length keys
    → with_new same_made keys (key ∷ []) ≡ keys ++ key ∷ []
one_new keys key end =
    ap (λ b. keys ++ (if b then [] else key ∷ [])) (none (list_any (same_made key) keys) refl)
  where
    none : (b : Bool) → list_any (same_made key) keys ≡ b → list_any (same_made key) keys ≡ false
    none false e = e
    none true e =
        let has : HasKey keys key = has_key keys key e in
        absurd (omega (arith, end, slice_get_within keys (number_of keys key) has.found has.there))

pub added_key : (keys all : List Made) (key : Made) → Grows (keys ++ key ∷ []) all
    → HasKey all key
added_key keys all key grows =
    subst (λ ks. HasKey ks key) (sym grows.is)
    (grown_key (keys ++ key ∷ []) grows.later key
    (has_key (keys ++ key ∷ []) key (at keys)))
  where
    at : (ks : List Made) → list_any (same_made key) (ks ++ key ∷ []) ≡ true
    at [] = or_left (same_made key key) false (same_itself key)
    at (k ∷ ks) =
        or_right (same_made key k) (list_any (same_made key) (ks ++ key ∷ [])) (at ks)

-- ---- what is new is there
module _ {A : Type 0} (same : A → A → Bool) (itself : (a : A) → same a a ≡ true) where
  abbrev pub AreThere : List A → List A → Type 0
  AreThere known calls = AllByRecursion (λ c. list_any (same c) known ≡ true) calls

  moved_there : (a : A) (xs ys calls : List A) → AreThere ((a ∷ xs) ++ ys) calls
      → AreThere (xs ++ a ∷ ys) calls
  moved_there a xs ys [] h = tt
  moved_there a xs ys (c ∷ cs) h =
      (sym (moved (same c) a xs ys) ∙ h.0, moved_there a xs ys cs h.1)

  in_middle : (c a : A) (xs ys : List A) → same c a ≡ true
      → list_any (same c) (xs ++ a ∷ ys) ≡ true
  in_middle c a [] ys h = or_left (same c a) (list_any (same c) ys) h
  in_middle c a (x ∷ xs) ys h =
      or_right (same c x) (list_any (same c) (xs ++ a ∷ ys)) (in_middle c a xs ys h)

  pub all_new : (calls known : List A) → AreThere (with_new same known calls) calls
  all_new [] known = tt
  all_new (a ∷ as') known =
      at (all_new as' known) (all_new as' (a ∷ known)) (list_any (same a) known) refl
    where
      rest : Bool → List A
      rest b = if b then new_ones same known as' else a ∷ new_ones same (a ∷ known) as'

      at : AreThere (with_new same known as') as'
          → AreThere (with_new same (a ∷ known) as') as'
          → (b : Bool) → list_any (same a) known ≡ b
          → AreThere (known ++ rest (list_any (same a) known)) (a ∷ as')
      at old new true e =
          subst (λ b. AreThere (known ++ rest b) (a ∷ as')) (sym e)
          (any_front (same a) known (new_ones same known as') e, old)
      at old new false e =
          subst (λ b. AreThere (known ++ rest b) (a ∷ as')) (sym e) (
            in_middle a a known (new_ones same (a ∷ known) as') (itself a),
            moved_there a known (new_ones same (a ∷ known) as') as' new,
          )

pub new_keys : (known calls : List Made) → HaveKeys (with_new same_made known calls) calls
new_keys known calls = each calls (all_new same_made same_itself calls known)
  where
    each : (cs : List Made) → AreThere same_made same_itself (with_new same_made known calls) cs
        → HaveKeys (with_new same_made known calls) cs
    each [] h = tt
    each (c ∷ cs) h = (has_key (with_new same_made known calls) c h.0, each cs h.1)

-- ---- one visit more
pub record Visited (p : Program) (from at : ℕ) (first known : List Made) : Type 0 where
  pub grows : Grows first known
  pub closed : (n : ℕ) (key : Made) → from ≤ n → n < at → slice_get known n ≡ Some key
      → HaveKeys known (shaped_calls p key)

pub visited_more : (p : Program) (from at : ℕ) (first known : List Made) → at < length known
    → Visited p from at first known
    → Visited p from (at + 1) first (visited same_made (shaped_calls p) at known)
visited_more p from at first known lt v = record {
  grows = record {
    later = v.grows.later ++ new;
    is = ap (λ k. k ++ new) v.grows.is ∙ append_assoc first v.grows.later new;
  };
  closed = λ n key le less there.
      elim (cases_lt n at) [
        | inl before ↦ grown_keys known new (shaped_calls p key)
            (v.closed n key le before
            (sym (front_get known new n (omega (arith, before, lt))) ∙ there))
        | inr here ↦
            let same : n ≡ at = omega (arith, less, here) in
            let old : slice_get known at ≡ Some key =
            ap (slice_get known) (sym same)
            ∙ sym (front_get known new n (omega (arith, same, lt))) ∙ there in
            let calls : calls_of (shaped_calls p) (slice_get known at) ≡ shaped_calls p key =
            ap (calls_of (shaped_calls p)) old in
            subst (λ cs. HaveKeys (with_new same_made known cs) (shaped_calls p key)) (sym calls)
            (new_keys known (shaped_calls p key))
      ];
}
  where
    new : List Made
    new = new_ones same_made known (calls_of (shaped_calls p) (slice_get known at))
