-- How frames lie on the stack of numbers: what is above the callers' frames is no part of them.
use Rattle.std.proofs.Common.{◌≡◌, ℕ, ◌+◌, ◌-◌, ◌≤◌, List, [], ◌∷◌, ◌++◌, length, take, drop, refl}
use Rattle.std.proofs.Common.{sym, ap, ◌∙◌, arith, append_assoc, length-drop}
use Rattle.std.specs.Prelude.{slice_set, slice_range}
use Rattle.std.proofs.lemmas.List.{take-take, drop-take, drop-drop, drop-set-add, take-set-le}
use Rattle.std.proofs.lemmas.List.{take-append-le, drop-append-le, take_at, drop_at}
use Rattle.wit_code.specs.declared.frames.Caller.{Caller}
use Rattle.wit_code.specs.Frames.{Open, Frames, open_of, opened, width_of}

-- the callers' frames depend on the numbers below the running frame alone
opened_same : (inner : List Open) (cs : List Caller) (a b : List ℕ)
    → take (width_of cs) a ≡ take (width_of cs) b → opened inner cs a ≡ opened inner cs b
opened_same inner [] a b h = refl
opened_same inner (c ∷ cs) a b h =
    let w : c.width ≤ width_of (c ∷ cs) = omega arith in
    let front : take c.width a ≡ take c.width b =
    sym (take-take c.width (width_of (c ∷ cs)) a w) ∙ ap (take c.width) h
    ∙ take-take c.width (width_of (c ∷ cs)) b w in
    let rest : take (width_of cs) (drop c.width a) ≡ take (width_of cs) (drop c.width b) =
    sym (drop-take c.width (width_of cs) a) ∙ ap (drop c.width) h
    ∙ drop-take c.width (width_of cs) b in
    ap (λ s. opened (open_of c s ∷ inner) cs (drop c.width a)) front
    ∙ opened_same (open_of c (take c.width b) ∷ inner) cs (drop c.width a) (drop c.width b) rest

-- the last caller is the innermost
opened_last : (inner : List Open) (cs : List Caller) (c : Caller) (a : List ℕ)
    → opened inner (cs ++ c ∷ []) a ≡ open_of c (take c.width (drop (width_of cs) a))
    ∷ opened inner cs a
opened_last inner [] c a = refl
opened_last inner (d ∷ cs) c a =
    opened_last (open_of d (take d.width a) ∷ inner) cs c (drop d.width a)
    ∙ ap (λ s. open_of c (take c.width s) ∷ opened (open_of d (take d.width a) ∷ inner) cs
    (drop d.width a)) (drop-drop (width_of cs) d.width a)

pub length_opened : (inner : List Open) (cs : List Caller) (a : List ℕ)
    → length (opened inner cs a) ≡ length inner + length cs
length_opened inner [] a = omega arith
length_opened inner (c ∷ cs) a =
    omega (arith, length_opened (open_of c (take c.width a) ∷ inner) cs (drop c.width a))

-- the same where the numbers of the frames begin behind others
opened_from : (first : ℕ) (cs : List Caller) (a b : List ℕ)
    → take (first + width_of cs) a ≡ take (first + width_of cs) b
    → opened [] cs (drop first a) ≡ opened [] cs (drop first b)
opened_from first cs a b h =
    opened_same [] cs (drop first a) (drop first b)
    (sym (drop-take first (width_of cs) a) ∙ ap (drop first) h ∙ drop-take first (width_of cs) b)

-- what the stack shows
abbrev pub shown : ℕ → ℕ → List Caller → List ℕ → Frames
shown first base callers numbers =
    record { slots = drop base numbers; open_calls = opened [] callers (drop first numbers) }

pub shown_set : (first base : ℕ) (cs : List Caller) (numbers : List ℕ) (slot v : ℕ)
    → base ≡ first + width_of cs
    → shown first base cs (slice_set numbers (base + slot) v)
    ≡ record {
      slots = slice_set (drop base numbers) slot v;
      open_calls = opened [] cs (drop first numbers);
    }
shown_set first base cs numbers slot v h =
    let below : first + width_of cs ≤ base + slot = omega arith in
    ap (λ s. record {
      slots = s;
      open_calls = opened [] cs (drop first (slice_set numbers (base + slot) v));
    }) (drop-set-add base numbers slot v)
    ∙ ap (λ o. record { slots = slice_set (drop base numbers) slot v; open_calls = o })
    (opened_from first cs _ _ (take-set-le (first + width_of cs) numbers (base + slot) v below))

pub width_of_push : (cs : List Caller) (c : Caller)
    → width_of (cs ++ c ∷ []) ≡ width_of cs + c.width
width_of_push [] c = omega arith
width_of_push (d ∷ cs) c = omega (arith, width_of_push cs c)

pub shown_close : (first base : ℕ) (all cs : List Caller) (c : Caller) (numbers : List ℕ)
    → base ≡ first + width_of all → all ≡ cs ++ c ∷ []
    → opened [] all (drop first numbers)
    ≡ record { resume = c.resume; slots = drop (base - c.width) (take base numbers) }
    ∷ opened [] cs (drop first (take base numbers))
shown_close first base all cs c numbers h split =
    let low : ℕ = first + width_of cs in
    let wide : width_of all ≡ width_of cs + c.width = ap width_of split ∙ width_of_push cs c in
    let b : base ≡ low + c.width = omega arith in
    let start : base - c.width ≡ low = omega arith in
    let below : low ≤ base = omega arith in
    let front : drop (base - c.width) (take base numbers)
    ≡ take c.width (drop (width_of cs) (drop first numbers)) =
    ap (λ n. drop n (take base numbers)) start ∙ ap (λ n. drop low (take n numbers)) b
    ∙ drop-take low c.width numbers
    ∙ ap (take c.width) (sym (drop-drop (width_of cs) first numbers)) in
    let rest : opened [] cs (drop first (take base numbers)) ≡ opened [] cs (drop first numbers) =
    opened_from first cs _ _ (take-take low base numbers below) in
    ap (λ l. opened [] l (drop first numbers)) split ∙ opened_last [] cs c (drop first numbers)
    ∙ ap (λ s. record { resume = c.resume; slots = s } ∷ opened [] cs (drop first numbers))
    (sym front)
    ∙ ap (λ o. record { resume = c.resume; slots = drop (base - c.width) (take base numbers) } ∷ o)
    (sym rest)

pub shown_open : (first base : ℕ) (cs : List Caller) (numbers : List ℕ) (c : Caller)
    (param params : ℕ) (zeros : List ℕ) → base ≡ first + width_of cs → base ≤ length numbers
    → c.width ≡ length numbers - base
    →
    shown first (base + c.width) (cs ++ c ∷ [])
    ((numbers ++ slice_range numbers (base + param) (base + param + params)) ++ zeros)
    ≡ record {
      slots = slice_range (drop base numbers) param (param + params) ++ zeros;
      open_calls = open_of c (drop base numbers) ∷ opened [] cs (drop first numbers);
    }
shown_open first base cs numbers c param params zeros h le wide =
    let given = slice_range numbers (base + param) (base + param + params) in
    let all : List ℕ = numbers ++ (given ++ zeros) in
    let low : ℕ = first + width_of cs in
    let end : base + c.width ≡ length numbers = omega arith in
    let n : length (drop base numbers) ≡ c.width = omega (arith, length-drop base numbers) in
    let below : low ≤ length numbers = omega arith in
    let regroup : (numbers ++ given) ++ zeros ≡ all = append_assoc numbers given zeros in
    let p : base + param + params - (base + param) ≡ param + params - param = omega arith in
    let params_are : given ≡ slice_range (drop base numbers) param (param + params) =
    ap (λ k. take k (drop (base + param) numbers)) p
    ∙ ap (take (param + params - param)) (sym (drop-drop param base numbers)) in
    let front : drop (base + c.width) all ≡ slice_range (drop base numbers) param (param + params)
    ++ zeros =
    ap (λ k. drop k all) end ∙ drop_at numbers (given ++ zeros) (length numbers) refl
    ∙ ap (λ g. g ++ zeros) params_are in
    let caller : take c.width (drop (width_of cs) (drop first all)) ≡ drop base numbers =
    ap (take c.width) (drop-drop (width_of cs) first all)
    ∙ ap (λ k. take c.width (drop k all)) (sym h)
    ∙ ap (take c.width) (drop-append-le base numbers (given ++ zeros) le)
    ∙ take_at (drop base numbers) (given ++ zeros) c.width n in
    let rest : opened [] cs (drop first all) ≡ opened [] cs (drop first numbers) =
    opened_from first cs _ _ (take-append-le low numbers (given ++ zeros) below) in
    ap (shown first (base + c.width) (cs ++ c ∷ [])) regroup
    ∙ ap (λ s. record {
      slots = s;
      open_calls = opened [] (cs ++ c ∷ []) (drop first all);
    }) front
    ∙ ap (λ o. record {
      slots = slice_range (drop base numbers) param (param + params) ++ zeros;
      open_calls = o;
    }) (opened_last [] cs c (drop first all)
    ∙ ap (λ s. open_of c s ∷ opened [] cs (drop first all)) caller
    ∙ ap (λ o. open_of c (drop base numbers) ∷ o) rest)
