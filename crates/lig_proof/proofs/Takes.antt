-- What is read is spelled so.
use Rattle.std.proofs.Common.{◌≡◌, ℕ, zero, suc, ◌-◌, ◌+◌, ◌≤◌, ◌<◌, Bool, true, false, cond, ltb}
use Rattle.std.proofs.Common.{List, [], ◌∷◌, ◌++◌, length, take, drop, get_or, Result, Ok, Err}
use Rattle.std.proofs.Common.{refl, sym, ap, ◌∙◌, subst, append_assoc, arith, ⊎_elim}
use Rattle.std.specs.List.{flat_map, AllByRecursion}
use Rattle.std.specs.Int.{w64, from_le_bytes, to_le_bytes}
use Rattle.std.proofs.lemmas.List.{length-take, length-take-le, take-append-drop, get_or-drop}
use Rattle.std.proofs.lemmas.List.{get_or-take, get_or_past}
use Rattle.std.proofs.lemmas.Bool.{cases_lt, lt-ltb, le-ltb}
use Rattle.std.proofs.lemmas.Nat.{le_bytes_8}
use Rattle.binary_format.specs.Reading.{◌>>=◌, repeated, front_of, number_of, or_short, required}
use Rattle.gold_field.specs.declared.gold.TheConstants.{P}
use Rattle.lig_layout.specs.declared.params.Params.{Params}
use Rattle.lig_merkle.specs.Merkle.{column_bytes}
use Rattle.lig_proof.specs.ProofBytes.{hashes_bytes, openings_bytes, IsHash, AreValues, IsPath}
use Rattle.lig_proof.specs.Reading.{next_value, next_hash, next_openings}

-- each is a byte
abbrev pub IsBytes : List ℕ → Type 0
IsBytes bytes = (i : ℕ) → get_or bytes i 0 < 256

pub bytes_after : (n : ℕ) (bytes : List ℕ) → IsBytes bytes → IsBytes (drop n bytes)
bytes_after n bytes h = λ i. rw get_or-drop (h (n + i))

pub front_bytes : (n : ℕ) (bytes : List ℕ) → IsBytes bytes → IsBytes (take n bytes)
front_bytes n bytes h =
    λ i. ⊎_elim (λ within. omega (arith, get_or-take n bytes i 0 within, h i))
    (λ past. omega (arith, get_or_past (take n bytes) i 0 (omega (arith, length-take n bytes))))
    (cases_lt i n)

-- byte by byte
pub each_byte : (bytes : List ℕ) → IsBytes bytes → AllByRecursion (λ byte. byte < 256) bytes
each_byte [] h = tt
each_byte (b ∷ bytes) h = (h 0, each_byte bytes (λ i. h (suc i)))

pub bind_ok : {A B R : Type 0} (r : Result A R) (f : A → Result B R) (y : B) → (r >>= f) ≡ Ok y
    → (x : A) × (r ≡ Ok x) × (f x ≡ Ok y)
bind_ok (Ok x) f y e = (x, refl, e)
bind_ok (Err e) f y h = absurd (cc)

abbrev pub or_else : {X R : Type 0} → X → Result X R → X
or_else d (Ok x) = x
or_else d (Err e) = d

-- the parts of a pair in an Ok
pub ok_pair : {A B R : Type 0} (a b : A) (x y : B)
    → ◌≡◌ {A = Result (A × B) R} (Ok (a, x)) (Ok (b, y)) → (a ≡ b) × (x ≡ y)
ok_pair a b x y e = let p = ap (or_else (a, x)) e in (ap (λ q. q.0) p, ap (λ q. q.1) p)

-- a fact of two values along two equations
pub both : {A B : Type 0} (F : A → B → Type 0) {a b : A} {x y : B} → a ≡ b → x ≡ y → F a x → F b y
both F {a} {b} {x} {y} p q h = subst (λ z. F z y) p (subst (λ z. F a z) q h)

-- a value in an Ok, and what was asked for it
pub required_ok : {R : Type 0} (test : Bool) (refusal : R) (x : Unit {0})
    → required test refusal ≡ Ok x → test ≡ true
required_ok true refusal x e = refl
required_ok false refusal x e = absurd (cc)

-- the field x stands in front of the rest, and fits
pub record IsTaken {A : Type 0} (text : A → List ℕ) (Fits : A → Type 0) (bytes : List ℕ) (x : A)
    (rest : List ℕ) : Type 0 where
  pub whole : bytes ≡ text x ++ rest
  pub fits : Fits x
  pub left : IsBytes rest

-- A field that takes no other bytes than those of its value.
pub record TakesExactly {A : Type 0} (field : List ℕ → Result (A × List ℕ) ℕ) (text : A → List ℕ)
    (Fits : A → Type 0) : Type 0 where
  pub takes : (bytes : List ℕ) (x : A) (rest : List ℕ) → IsBytes bytes → field bytes ≡ Ok (x, rest)
      → IsTaken text Fits bytes x rest

pub repeated_takes : {A : Type 0} (field : List ℕ → Result (A × List ℕ) ℕ) (text : A → List ℕ)
    (Fits : A → Type 0) → TakesExactly field text Fits
    → (n : ℕ) (bytes : List ℕ) (xs : List A) (rest : List ℕ) → IsBytes bytes
    → repeated field n bytes ≡ Ok (xs, rest)
    → (bytes ≡ flat_map text xs ++ rest) × (length xs ≡ n) × AllByRecursion Fits xs × IsBytes rest
repeated_takes field text Fits exactly zero bytes xs rest h e =
    let pair = ok_pair [] xs bytes rest e in
    both (λ ys r. (bytes ≡ flat_map text ys ++ r) × (length ys ≡ 0) × AllByRecursion Fits ys
    × IsBytes r) pair.0 pair.1 (refl, refl, tt, h)
repeated_takes field text Fits exactly (suc n) bytes xs rest h e =
    let first = bind_ok (field bytes) (λ x. repeated field n x.1 >>= λ y. Ok (x.0 ∷ y.0, y.1))
    (xs, rest) e in
    let others =
    bind_ok (repeated field n first.0.1) (λ y. Ok (first.0.0 ∷ y.0, y.1)) (xs, rest) first.2 in
    let pair = ok_pair (first.0.0 ∷ others.0.0) xs others.0.1 rest others.2 in
    let taken = exactly.takes bytes first.0.0 first.0.1 h first.1 in
    let more =
    repeated_takes field text Fits exactly n first.0.1 others.0.0 others.0.1 taken.left
    others.1 in
    let whole : bytes ≡ (text first.0.0 ++ flat_map text others.0.0) ++ others.0.1 =
    taken.whole ∙ ap (λ x. text first.0.0 ++ x) more.0
    ∙ sym (append_assoc (text first.0.0) (flat_map text others.0.0) others.0.1) in
    both (λ ys r. (bytes ≡ flat_map text ys ++ r) × (length ys ≡ suc n) × AllByRecursion Fits ys
    × IsBytes r) pair.0 pair.1 (whole, ap suc more.1, (taken.fits, more.2), more.3)

-- n bytes in front of the others
front_takes : (n end : ℕ) (bytes x rest : List ℕ) → or_short (front_of n bytes) end ≡ Ok (x, rest)
    → (bytes ≡ x ++ rest) × (x ≡ take n bytes) × (rest ≡ drop n bytes) × (n ≤ length bytes)
front_takes n end bytes x rest e = ⊎_elim
    (λ short. let t : ltb (length bytes) n ≡ true = lt-ltb (length bytes) n short in
    let none : ◌≡◌ {A = Result (List ℕ × List ℕ) ℕ} (Err end) (Ok (x, rest)) = sym (rw t refl) ∙ e
    in absurd (cc))
    (λ long. let t : ltb (length bytes) n ≡ false = le-ltb (length bytes) n long in
    let some : ◌≡◌ {A = Result (List ℕ × List ℕ) ℕ} (Ok (take n bytes, drop n bytes))
    (Ok (x, rest)) = sym (rw t refl) ∙ e in
    let pair = ok_pair (take n bytes) x (drop n bytes) rest some in (
      sym (take-append-drop n bytes) ∙ ap (λ y. y ++ drop n bytes) pair.0 ∙ ap (λ y. x ++ y) pair.1,
      sym pair.0,
      sym pair.1,
      long,
    ))
    (cases_lt (length bytes) n)

pub hash_takes : (end : ℕ) → TakesExactly (next_hash end) (λ hash. hash) IsHash
unfolding next_hash
hash_takes end = record {
  takes = λ bytes x rest h e.
      let taken = front_takes 32 end bytes x rest e in
      record {
        whole = taken.0;
        fits = rw taken.1
            (record {
              count = length-take-le 32 bytes taken.3;
              each = each_byte (take 32 bytes) (front_bytes 32 bytes h);
            });
        left = rw taken.2 (bytes_after 32 bytes h);
      };
}

number_takes : (end n : ℕ) (bytes rest : List ℕ) → IsBytes bytes
    → or_short (number_of w64 bytes) end ≡ Ok (n, rest) → (bytes ≡ to_le_bytes w64 n ++ rest)
    × (rest ≡ drop 8 bytes)
number_takes end n bytes rest h e = ⊎_elim
    (λ short. let t : ltb (length bytes) 8 ≡ true = lt-ltb (length bytes) 8 short in
    let none : ◌≡◌ {A = Result (ℕ × List ℕ) ℕ} (Err end) (Ok (n, rest)) = sym (rw t refl) ∙ e
    in absurd (cc))
    (λ long. let t : ltb (length bytes) 8 ≡ false = le-ltb (length bytes) 8 long in
    let some : ◌≡◌ {A = Result (ℕ × List ℕ) ℕ} (Ok (from_le_bytes w64 (take 8 bytes), drop 8 bytes))
    (Ok (n, rest)) = sym (rw t refl) ∙ e in
    let pair = ok_pair (from_le_bytes w64 (take 8 bytes)) n (drop 8 bytes) rest some in
    let text : to_le_bytes w64 n ≡ take 8 bytes =
    le_bytes_8 (take 8 bytes) n (length-take-le 8 bytes long) (front_bytes 8 bytes h)
    (sym pair.0) in (
      sym (take-append-drop 8 bytes) ∙ ap (λ y. y ++ drop 8 bytes) (sym text)
          ∙ ap (λ y. to_le_bytes w64 n ++ y) pair.1,
      sym pair.1,
    ))
    (cases_lt (length bytes) 8)

pub value_takes : (end : ℕ) → TakesExactly (next_value end) (to_le_bytes w64) (λ value. value < P)
unfolding next_value
value_takes end = record {
  takes = λ bytes x rest h e.
      let found =
      bind_ok (or_short (number_of w64 bytes) end)
      (λ y. cond (ltb y.0 P) (Ok y) (Err (end - length bytes))) (x, rest) e in
      ⊎_elim
      (λ below. let t : ltb found.0.0 P ≡ true = lt-ltb found.0.0 P below in
      let passed : ◌≡◌ {A = Result (ℕ × List ℕ) ℕ} (Ok (found.0.0, found.0.1)) (Ok (x, rest)) =
      sym (rw t refl) ∙ found.2 in
      let pair = ok_pair found.0.0 x found.0.1 rest passed in
      let taken = number_takes end found.0.0 bytes found.0.1 h found.1 in
      both (λ y r. IsTaken (to_le_bytes w64) (λ value. value < P) bytes y r) pair.0 pair.1
      (record { whole = taken.0; fits = below; left = rw taken.1 (bytes_after 8 bytes h) }))
      (λ above. let t : ltb found.0.0 P ≡ false = le-ltb found.0.0 P above in
      let refused : ◌≡◌ {A = Result (ℕ × List ℕ) ℕ} (Err (end - length bytes)) (Ok (x, rest)) =
      sym (rw t refl) ∙ found.2 in absurd (cc))
      (cases_lt found.0.0 P);
}

four : (a b c d : List ℕ) → a ++ (b ++ (c ++ d)) ≡ (a ++ (b ++ c)) ++ d
four a b c d = sym (simp append_assoc)

-- opened columns and their paths stand in front of the rest
pub record AreOpened (p : Params) (n : ℕ) (bytes : List ℕ) (columns : List (List ℕ))
    (paths : List (List (List ℕ))) (rest : List ℕ) : Type 0 where
  pub whole : bytes ≡ openings_bytes columns paths ++ rest
  pub column_count : length columns ≡ n
  pub path_count : length paths ≡ n
  pub columns_fit : AllByRecursion (AreValues (p.rows + 6)) columns
  pub paths_fit : AllByRecursion (IsPath p.depth) paths
  pub left : IsBytes rest

pub openings_take : (p : Params) (end n : ℕ) (bytes : List ℕ) (columns : List (List ℕ))
    (paths : List (List (List ℕ))) (rest : List ℕ)
    → IsBytes bytes → next_openings p end n bytes ≡ Ok ((columns, paths), rest)
    → AreOpened p n bytes columns paths rest
unfolding next_openings
openings_take p end zero bytes columns paths rest h e =
    let pair = ok_pair ([], []) (columns, paths) bytes rest e in
    both (λ q r. AreOpened p 0 bytes q.0 q.1 r) pair.0 pair.1
    (record {
      whole = refl;
      column_count = refl;
      path_count = refl;
      columns_fit = tt;
      paths_fit = tt;
      left = h;
    })
openings_take p end (suc n) bytes columns paths rest h e =
    let column =
    bind_ok (repeated (next_value end) (p.rows + 6) bytes)
    (λ x. repeated (next_hash end) p.depth x.1 >>= λ y. next_openings p end n y.1 >>=
    λ z. Ok ((x.0 ∷ z.0.0, y.0 ∷ z.0.1), z.1)) ((columns, paths), rest) e in
    let path =
    bind_ok (repeated (next_hash end) p.depth column.0.1)
    (λ y. next_openings p end n y.1 >>= λ z. Ok ((column.0.0 ∷ z.0.0, y.0 ∷ z.0.1), z.1))
    ((columns, paths), rest) column.2 in
    let others =
    bind_ok (next_openings p end n path.0.1)
    (λ z. Ok ((column.0.0 ∷ z.0.0, path.0.0 ∷ z.0.1), z.1)) ((columns, paths), rest) path.2 in
    let pair =
    ok_pair (column.0.0 ∷ others.0.0.0, path.0.0 ∷ others.0.0.1)
    (columns, paths) others.0.1 rest others.2 in
    let first =
    repeated_takes (next_value end) (to_le_bytes w64) (λ value. value < P) (value_takes end)
    (p.rows + 6) bytes column.0.0 column.0.1 h column.1 in
    let second =
    repeated_takes (next_hash end) (λ hash. hash) IsHash (hash_takes end) p.depth column.0.1
    path.0.0 path.0.1 first.3 path.1 in
    let more =
    openings_take p end n path.0.1 others.0.0.0 others.0.0.1 others.0.1 second.3 others.1 in
    both (λ q r. AreOpened p (suc n) bytes q.0 q.1 r) pair.0 pair.1 (record {
      whole = first.0 ∙ ap (λ x. column_bytes column.0.0 ++ x) second.0
          ∙ ap (λ x. column_bytes column.0.0 ++ (hashes_bytes path.0.0 ++ x)) more.whole
          ∙ four (column_bytes column.0.0) (hashes_bytes path.0.0)
          (openings_bytes others.0.0.0 others.0.0.1) others.0.1;
      column_count = ap suc more.column_count;
      path_count = ap suc more.path_count;
      columns_fit = (record { count = first.1; each = first.2 }, more.columns_fit);
      paths_fit = (record { count = second.1; each = second.2 }, more.paths_fit);
      left = more.left;
    })
