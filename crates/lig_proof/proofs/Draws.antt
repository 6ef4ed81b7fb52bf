-- Drawing numbers one after another.
use Rattle.std.proofs.Common.{◌≡◌, ℕ, zero, suc, refl, length, ◌+◌, ◌-◌, ◌*◌, ◌<◌, List, [], ◌∷◌}
use Rattle.std.proofs.Common.{◌++◌, sym, ap, ◌∙◌, append_assoc, arith, All, map, ◌%◌, zero-add}
use Rattle.std.proofs.lemmas.List.FromFn.{length-map-range_with_len, get_or-map-range_with_len}
use Rattle.std.proofs.lemmas.Nat.{mod_below}
use Rattle.std.proofs.lemmas.List.{length-append}
use Rattle.std.specs.List.{range_with_len}
use Rattle.rand_chacha.specs.ChaCha.{ChaCha}
use Rattle.lig_proof.specs.Drawing.{number_at, numbers_of}

-- some of the numbers have been drawn; the others follow them
pub record Drawing (start : ChaCha) (before : List ℕ) (count i : ℕ) (words : ChaCha)
    (out : List ℕ) : Type 0 where
  pub state : words ≡ record start { word_pos = start.word_pos + 2 * i }
  pub so_far : out ++ numbers_of start.key start.stream (start.word_pos + 2 * i) (count - i)
      ≡ before ++ numbers_of start.key start.stream start.word_pos count

pub drawn_more : (start : ChaCha) (before : List ℕ) (count i : ℕ) (words next : ChaCha)
    (out : List ℕ) (n : ℕ) → i < count
    → n ≡ number_at words.key words.stream words.word_pos
    → next ≡ record words { word_pos = words.word_pos + 2 }
    → Drawing start before count i words out
    → Drawing start before count (i + 1) next (out ++ n ∷ [])
drawn_more start before count i words next out n within is after drawing =
    let place : start.word_pos + 2 * i + 2 ≡ start.word_pos + 2 * (i + 1) = omega arith in
    let left : count - i ≡ suc (count - (i + 1)) = omega arith in
    let here : n ≡ number_at start.key start.stream (start.word_pos + 2 * i) =
    is ∙ ap (λ (w : ChaCha). number_at w.key w.stream w.word_pos) drawing.state in
    let rest = numbers_of start.key start.stream (start.word_pos + 2 * (i + 1)) (count - (i + 1)) in
    let one : numbers_of start.key start.stream (start.word_pos + 2 * i) (count - i) ≡ n ∷ rest =
    ap (λ k. numbers_of start.key start.stream (start.word_pos + 2 * i) k) left
    ∙ ap (λ k. number_at start.key start.stream (start.word_pos + 2 * i)
    ∷ numbers_of start.key start.stream k (count - (i + 1))) place
    ∙ ap (λ x. x ∷ rest) (sym here) in
    record {
      state = after ∙ ap (λ (w : ChaCha). record w { word_pos = w.word_pos + 2 }) drawing.state
          ∙ ap (λ k. record start { word_pos = k }) place;
      so_far = append_assoc out (n ∷ []) rest ∙ ap (λ x. out ++ x) (sym one) ∙ drawing.so_far;
    }

-- what is drawn modulo a number is below it
pub each_below : (f : ℕ → ℕ) (n m : ℕ) → 0 < m
    → All (λ x. x < m) (map (λ q. f q % m) (range_with_len 0 n))
each_below f n m pos = λ k d within.
    let inside : k < n = omega (arith, length-map-range_with_len (λ q. f q % m) 0 n, within) in
    let is = get_or-map-range_with_len (λ q. f q % m) 0 n k k d inside (zero-add k) in
    let low = mod_below (f k) m pos in
    omega (arith, is, low)

-- as many as are asked for
pub length-numbers_of : (key : List ℕ) (stream place n : ℕ) → length (numbers_of key stream place n)
    ≡ n
length-numbers_of key stream place zero = refl
length-numbers_of key stream place (suc n) = ap suc (length-numbers_of key stream (place + 2) n)

-- numbers for two repetitions, in a list that was empty
pub length_twice : (n : ℕ) (first second : ChaCha) (start once twice : List ℕ) → start ≡ []
    → once ≡ start ++ numbers_of first.key first.stream first.word_pos n
    → twice ≡ once ++ numbers_of second.key second.stream second.word_pos n
    → length twice ≡ 2 * n
length_twice n first second start once twice e f g =
    let one = numbers_of first.key first.stream first.word_pos n in
    let two = numbers_of second.key second.stream second.word_pos n in
    let none = ap length e in
    let half = ap length f in
    let whole = ap length g in
    omega (
      arith,
      length-append start one,
      length-append once two,
      length-numbers_of first.key first.stream first.word_pos n,
      length-numbers_of second.key second.stream second.word_pos n,
    )
