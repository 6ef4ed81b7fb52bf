-- Reading a text line by line, as a loop does.
use Rattle.std.proofs.Common.{◌≡◌, ℕ, ◌+◌, ◌<◌, ◌≤◌, Bool, true, false, ltb}
use Rattle.std.proofs.Common.{List, [], ◌∷◌, ◌++◌, length, map}
use Rattle.std.proofs.Common.{cond, ◌&&◌, Option, Some, None, Result, Ok, Err, refl, sym, ap}
use Rattle.std.proofs.Common.{◌∙◌, arith}
use Rattle.std.proofs.Common.{append_assoc, ◌⊎◌, inl, inr}
use Rattle.std.specs.Option.{is_some}
use Rattle.std.specs.List.{filter_map, cons_option}
use Rattle.std.proofs.lemmas.Bool.{lt-ltb, le-ltb, and_from, and_left, and_right, cond-true}
use Rattle.std.proofs.lemmas.Bool.{cond-false, cases_lt}
use Rattle.std.specs.List.{All}
use Rattle.std.proofs.lemmas.List.{append-nil, length-map}
use Rattle.std.proofs.lemmas.List.Elements.{All-head, All-tail}
use Rattle.binary_format.specs.Reading.{◌>>=◌}
use Rattle.text_lines.specs.Reading.{LineRefusal, bad, over, good_lines, said}

module _ {A : Type 0} (form : List ℕ → Option A) (limit : ℕ) where
  -- what is said by the lines behind so many
  abbrev pub said_behind : ℕ → List (List ℕ) → Result (List A) LineRefusal
  said_behind n lines =
      cond (ltb (n + good_lines form lines) limit && ltb (good_lines form lines) (length lines))
      (Err (bad (n + good_lines form lines + 1)))
      (cond (ltb limit (n + length lines)) (Err (over (limit + 1))) (Ok (filter_map form lines)))

  is_bad : (n : ℕ) (lines : List (List ℕ)) → n + good_lines form lines < limit
      → good_lines form lines < length lines
      → said_behind n lines ≡ Err (bad (n + good_lines form lines + 1))
  is_bad n lines early there =
      cond-true _ _ _ (and_from _ _ (lt-ltb _ _ early) (lt-ltb _ _ there))

  is_over : (n : ℕ) (lines : List (List ℕ)) → limit ≤ n + good_lines form lines
      → limit < n + length lines → said_behind n lines ≡ Err (over (limit + 1))
  is_over n lines good many =
      cond-false _ _ _ (and_left _ _ (le-ltb _ _ good)) ∙ cond-true _ _ _ (lt-ltb _ _ many)

  is_said : (n : ℕ) (lines : List (List ℕ)) → length lines ≤ good_lines form lines
      → n + length lines ≤ limit → said_behind n lines ≡ Ok (filter_map form lines)
  is_said n lines good few =
      cond-false _ _ _ (and_right _ _ (le-ltb _ _ good)) ∙ cond-false _ _ _ (le-ltb _ _ few)

  -- with one more value in front
  abbrev pub put : A → Result (List A) LineRefusal → Result (List A) LineRefusal
  put value r = r >>= λ values. Ok (value ∷ values)

  one_more : (line : List ℕ) (lines : List (List ℕ)) (value : A) → form line ≡ Some value
      → good_lines form (line ∷ lines) ≡ good_lines form lines + 1
  one_more line lines value h =
      let e : good_lines form (line ∷ lines) ≡ 1 + good_lines form lines =
      ap (λ (o : Option A). cond (is_some o) (1 + good_lines form lines) 0) h in
      omega (arith, e)

  same_values : (line : List ℕ) (lines : List (List ℕ)) (value : A) → form line ≡ Some value
      → filter_map form (line ∷ lines) ≡ value ∷ filter_map form lines
  same_values line lines value h = ap (λ (o : Option A). cons_option o (filter_map form lines)) h

  more : (n : ℕ) (line : List ℕ) (lines : List (List ℕ)) (value : A) → form line ≡ Some value
      → said_behind n (line ∷ lines) ≡ put value (said_behind (n + 1) lines)
  more n line lines value h = cases (cases_lt limit (n + 1 + length lines))
      (cases_lt (n + 1 + good_lines form lines) limit)
      (cases_lt (good_lines form lines) (length lines))
    where
      e : good_lines form (line ∷ lines) ≡ good_lines form lines + 1
      e = one_more line lines value h

      at_bad : n + 1 + good_lines form lines < limit → good_lines form lines < length lines
          → said_behind n (line ∷ lines) ≡ put value (said_behind (n + 1) lines)
      at_bad early there =
          let number : n + good_lines form (line ∷ lines) + 1 ≡ n + 1 + good_lines form lines + 1 =
          omega (arith, e) in
          is_bad n (line ∷ lines) (omega (arith, e)) (omega (arith, e))
          ∙ (ap (λ (k : ℕ). Err (bad k)) number
          ∙ sym (ap (put value) (is_bad (n + 1) lines early there)))

      cases : (limit < n + 1 + length lines) ⊎ (n + 1 + length lines ≤ limit)
          → (n + 1 + good_lines form lines < limit) ⊎ (limit ≤ n + 1 + good_lines form lines)
          → (good_lines form lines < length lines) ⊎ (length lines ≤ good_lines form lines)
          → said_behind n (line ∷ lines) ≡ put value (said_behind (n + 1) lines)
      cases (inl many) (inl early) there = at_bad early (omega arith)
      cases (inl many) (inr late) there =
          is_over n (line ∷ lines) (omega (arith, e)) (omega arith)
          ∙ sym (ap (put value) (is_over (n + 1) lines late many))
      cases (inr few) early (inl there) = at_bad (omega arith) there
      cases (inr few) early (inr all) =
          is_said n (line ∷ lines) (omega (arith, e)) (omega arith)
          ∙ (ap Ok (same_values line lines value h)
          ∙ sym (ap (put value) (is_said (n + 1) lines all few)))

  -- with the values that were read before
  abbrev pub behind : List A → Result (List A) LineRefusal → Result (List A) LineRefusal
  behind front r = r >>= λ values. Ok (front ++ values)

  regroup : (front : List A) (value : A) (r : Result (List A) LineRefusal)
      → behind front (put value r) ≡ behind (front ++ value ∷ []) r
  regroup front value (Ok values) = ap Ok (simp append_assoc)
  regroup front value (Err e) = refl

  pub begins : (lines : List (List ℕ)) → behind [] (said_behind 0 lines) ≡ said form limit lines
  begins lines = alone (said_behind 0 lines) ∙ from_zero
    where
      alone : (r : Result (List A) LineRefusal) → behind [] r ≡ r
      alone (Ok values) = refl
      alone (Err e) = refl

      n : 0 + good_lines form lines ≡ good_lines form lines
      n = omega arith

      m : 0 + length lines ≡ length lines
      m = omega arith

      from_zero : said_behind 0 lines ≡ said form limit lines
      from_zero =
          ap (λ (k : ℕ). cond (ltb k limit && ltb (good_lines form lines) (length lines))
          (Err (bad (k + 1))) (cond (ltb limit (0 + length lines)) (Err (over (limit + 1)))
          (Ok (filter_map form lines)))) n
          ∙ ap (λ (k : ℕ). cond (ltb (good_lines form lines) limit
          && ltb (good_lines form lines) (length lines)) (Err (bad (good_lines form lines + 1)))
          (cond (ltb limit k) (Err (over (limit + 1))) (Ok (filter_map form lines)))) m

  pub goes_on : (front : List A) (n : ℕ) (lines rest : List (List ℕ)) (line : List ℕ) (value : A)
      (total : Result (List A) LineRefusal) → lines ≡ line ∷ rest → form line ≡ Some value
      → behind front (said_behind n lines) ≡ total
      → behind (front ++ value ∷ []) (said_behind (n + 1) rest) ≡ total
  goes_on front n lines rest line value total is h so_far =
      sym (regroup front value (said_behind (n + 1) rest))
      ∙ (sym (ap (behind front) (ap (said_behind n) is ∙ more n line rest value h)) ∙ so_far)

  pub fails : (front : List A) (n : ℕ) (lines rest : List (List ℕ)) (line : List ℕ)
      (total : Result (List A) LineRefusal) → n < limit → lines ≡ line ∷ rest → form line ≡ None
      → behind front (said_behind n lines) ≡ total → total ≡ Err (bad (n + 1))
  fails front n lines rest line total early is h so_far =
      let zero : good_lines form (line ∷ rest) ≡ 0 =
      ap (λ (o : Option A). cond (is_some o) (1 + good_lines form rest) 0) h in
      let number : n + good_lines form (line ∷ rest) + 1 ≡ n + 1 = omega (arith, zero) in
      let first = is_bad n (line ∷ rest) (omega (arith, zero)) (omega (arith, zero)) in
      sym so_far ∙ (ap (behind front) (ap (said_behind n) is ∙ first)
      ∙ ap (λ (k : ℕ). Err (bad k)) number)

  pub is_done : (front : List A) (n : ℕ) (lines : List (List ℕ))
      (total : Result (List A) LineRefusal) → n ≤ limit → lines ≡ []
      → behind front (said_behind n lines) ≡ total → total ≡ Ok front
  is_done front n lines total within is so_far =
      let last = is_said n [] (omega arith) (omega arith) in
      sym so_far ∙ (ap (behind front) (ap (said_behind n) is ∙ last)
      ∙ ap Ok (append-nil front))

  pub passes_limit : (front : List A) (n : ℕ) (lines rest : List (List ℕ)) (line : List ℕ)
      (total : Result (List A) LineRefusal) → limit ≤ n → lines ≡ line ∷ rest
      → behind front (said_behind n lines) ≡ total → total ≡ Err (over (limit + 1))
  passes_limit front n lines rest line total late is so_far =
      sym so_far
      ∙ ap (behind front) (ap (said_behind n) is
      ∙ is_over n (line ∷ rest) (omega arith) (omega arith))

-- each value is read back from its line
pub record ReadsBack {A : Type 0} (form : List ℕ → Option A) (line_of : A → List ℕ)
    (values : List A) : Type 0 where
  pub each : All (λ value. form (line_of value) ≡ Some value) values

all_good : {A : Type 0} (form : List ℕ → Option A) (line_of : A → List ℕ) (values : List A)
    → ReadsBack form line_of values → good_lines form (map line_of values) ≡ length values
all_good form line_of [] back = refl
all_good {A} form line_of (x ∷ xs) back =
    let P : A → Type 0 = λ value. form (line_of value) ≡ Some value in
    let first : form (line_of x) ≡ Some x = All-head P x xs back.each in
    let others : good_lines form (map line_of xs) ≡ length xs =
    all_good form line_of xs record { each = All-tail P x xs back.each } in
    let one : good_lines form (map line_of (x ∷ xs)) ≡ 1 + good_lines form (map line_of xs) =
    ap (λ (o : Option A). cond (is_some o) (1 + good_lines form (map line_of xs)) 0) first in
    omega (arith, one, others)

all_values : {A : Type 0} (form : List ℕ → Option A) (line_of : A → List ℕ) (values : List A)
    → ReadsBack form line_of values → filter_map form (map line_of values) ≡ values
all_values form line_of [] back = refl
all_values {A} form line_of (x ∷ xs) back =
    let P : A → Type 0 = λ value. form (line_of value) ≡ Some value in
    let first : form (line_of x) ≡ Some x = All-head P x xs back.each in
    let others : filter_map form (map line_of xs) ≡ xs =
    all_values form line_of xs record { each = All-tail P x xs back.each } in
    ap (λ (o : Option A). cons_option o (filter_map form (map line_of xs))) first
    ∙ ap (λ (l : List A). x ∷ l) others

-- where there are few enough, all are said
pub all_said : {A : Type 0} (form : List ℕ → Option A) (limit : ℕ) (line_of : A → List ℕ)
    (values : List A) → ReadsBack form line_of values → length values ≤ limit
    → said form limit (map line_of values) ≡ Ok values
all_said form limit line_of values back few =
    let all : good_lines form (map line_of values) ≡ length values =
    all_good form line_of values back in
    let long : length (map line_of values) ≡ length values = length-map values line_of in
    let lines : List (List ℕ) = map line_of values in
    cond-false _ _ _ (and_right (ltb (good_lines form lines) limit)
    (ltb (good_lines form lines) (length lines))
    (le-ltb (good_lines form lines) (length lines) (omega (arith, all, long))))
    ∙ (cond-false _ _ _ (le-ltb limit (length lines) (omega (arith, long)))
    ∙ ap Ok (all_values form line_of values back))

-- what is said is no more than the lines
filtered_few : {A : Type 0} (form : List ℕ → Option A) (lines : List (List ℕ))
    → length (filter_map form lines) ≤ length lines
filtered_few form [] = omega arith
filtered_few {A} form (line ∷ lines) = one (form line) (filtered_few form lines)
  where
    one : (o : Option A) → length (filter_map form lines) ≤ length lines
        → length (cons_option o (filter_map form lines)) ≤ length (line ∷ lines)
    one None others = omega (arith, others)
    one (Some x) others = omega (arith, others)

pub said_few : {A : Type 0} (form : List ℕ → Option A) (limit : ℕ) (lines : List (List ℕ))
    (values : List A) → said form limit lines ≡ Ok values → length values ≤ limit
said_few {A} form limit lines values h =
    from (ltb (good_lines form lines) limit && ltb (good_lines form lines) (length lines))
    (cases_lt limit (length lines)) h
  where
    few : (limit < length lines) ⊎ (length lines ≤ limit)
        → cond (ltb limit (length lines)) (Err (over (limit + 1))) (Ok (filter_map form lines))
        ≡ Ok values
        → length values ≤ limit
    few (inl many) e =
        let f : Err (over (limit + 1)) ≡ Ok values =
        sym (cond-true _ _ _ (lt-ltb limit (length lines) many)) ∙ e in cc
    few (inr within) e =
        let f : Ok (filter_map form lines) ≡ Ok values =
        sym (cond-false _ _ _ (le-ltb limit (length lines) within)) ∙ e in
        let same : filter_map form lines ≡ values = cc in
        omega (arith, filtered_few form lines, ap length same)

    from : (t : Bool) → (limit < length lines) ⊎ (length lines ≤ limit)
        → cond t (Err (bad (good_lines form lines + 1)))
        (cond (ltb limit (length lines)) (Err (over (limit + 1))) (Ok (filter_map form lines)))
        ≡ Ok values
        → length values ≤ limit
    from true c e = cc
    from false c e = few c e
