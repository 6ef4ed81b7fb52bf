-- Code with jumps whose ends are told once what they lead over is there.
use Rattle.std.proofs.Common.{◌≡◌, ◌∙◌, ℕ, ◌+◌, ◌<◌, [], ◌∷◌, ◌++◌, length, ap, sym, arith}
use Rattle.std.proofs.Common.{append_assoc}
use Rattle.std.specs.Prelude.{slice_set}
use Rattle.std.proofs.lemmas.List.{length-append, length-set, set_at}
use Rattle.wit_code.specs.declared.code.Op.{Op}
use Rattle.wit_code.specs.declared.code.Op.TheVariants as op
use Rattle.wit_lower.specs.Pieces.{Code, unless_zero, either, turns}

behind_one : (old : Code) (x : Op) (piece : ℕ → Code)
    → (old ++ x ∷ []) ++ piece (length (old ++ x ∷ [])) ≡ old ++ x ∷ piece (length old + 1)
behind_one old x piece =
    append_assoc old (x ∷ []) (piece (length (old ++ x ∷ [])))
    ∙ ap (λ n. old ++ x ∷ piece n) (length-append old (x ∷ []))

behind_two : (old : Code) (x y : Op) (piece : ℕ → Code)
    → (old ++ x ∷ y ∷ []) ++ piece (length (old ++ x ∷ y ∷ []))
    ≡ old ++ x ∷ y ∷ piece (length old + 2)
behind_two old x y piece =
    append_assoc old (x ∷ y ∷ []) (piece (length (old ++ x ∷ y ∷ [])))
    ∙ ap (λ n. old ++ x ∷ y ∷ piece n) (length-append old (x ∷ y ∷ []))

-- the jump whose end is to be told stands within the code
pub jump_within : (old middle all piece : Code) (j : ℕ) (x : Op) → j ≡ length old
    → middle ≡ old ++ x ∷ [] → all ≡ middle ++ piece → j < length all
jump_within old middle all piece j x at begun made = omega (
  arith,
  ap length begun,
  length-append old (x ∷ []),
  ap length made,
  length-append middle piece,
)

pub turns_within : (old one two piece : Code) (j : ℕ) (x y : Op) → j ≡ length old
    → one ≡ old ++ x ∷ y ∷ [] → two ≡ one ++ piece → j < length two
turns_within old one two piece j x y at begun made = omega (
  arith,
  ap length begun,
  length-append old (x ∷ y ∷ []),
  ap length made,
  length-append one piece,
)

pub other_within : (one two three piece : Code) (j k : ℕ) (y z : Op) → k ≡ length one
    → two ≡ slice_set (one ++ y ∷ []) j z → three ≡ two ++ piece → k < length three
other_within one two three piece j k y z at told made = omega (
  arith,
  ap length told,
  length-set (one ++ y ∷ []) j z,
  length-append one (y ∷ []),
  ap length made,
  length-append two piece,
)

-- a piece that is left out where a slot is 0
pub unless_ended : (old middle all : Code) (s j : ℕ) (piece : ℕ → Code) (x : Op)
    → j ≡ length old → middle ≡ old ++ x ∷ [] → all ≡ middle ++ piece (length middle)
    → slice_set all j (op.JumpZero s (length all)) ≡ old ++ unless_zero s (length old) piece
unless_ended old middle all s j piece x at begun made =
    let p : Code = piece (length old + 1) in
    let whole : all ≡ old ++ x ∷ p =
    made ∙ ap (λ m. m ++ piece (length m)) begun ∙ behind_one old x piece in
    let long : length all ≡ length old + 1 + length p =
    omega (arith, ap length whole, length-append old (x ∷ p)) in
    ap (λ a. slice_set a j (op.JumpZero s (length all))) whole
    ∙ set_at old x p (op.JumpZero s (length all)) j (sym at)
    ∙ ap (λ n. old ++ op.JumpZero s n ∷ p) long

-- one of two pieces
pub either_ended : (old middle one two three : Code) (s j k : ℕ) (first second : ℕ → Code)
    (x y : Op) → j ≡ length old → middle ≡ old ++ x ∷ [] → one ≡ middle ++ first (length middle)
    → k ≡ length one → two ≡ slice_set (one ++ y ∷ []) j (op.JumpZero s (length one + 1))
    → three ≡ two ++ second (length two)
    → slice_set three k (op.Jump (length three)) ≡ old ++ either s (length old) first second
either_ended old middle one two three s j k first second x y at begun made there told then_made =
    let f : Code = first (length old + 1) in
    let m : ℕ = length old + 2 + length f in
    let g : Code = second m in
    let whole : one ≡ old ++ x ∷ f =
    made ∙ ap (λ c. c ++ first (length c)) begun ∙ behind_one old x first in
    let long : length one + 1 ≡ m = omega (arith, ap length whole, length-append old (x ∷ f)) in
    let front : Code = old ++ op.JumpZero s m ∷ f in
    let long_front : length front + 1 ≡ m =
    omega (arith, length-append old (op.JumpZero s m ∷ f)) in
    let same : length front ≡ k = omega (arith, long, long_front, there) in
    let told_so : two ≡ front ++ y ∷ [] =
    told ∙ ap (λ c. slice_set (c ++ y ∷ []) j (op.JumpZero s (length one + 1))) whole
    ∙ ap (λ c. slice_set c j (op.JumpZero s (length one + 1))) (append_assoc old (x ∷ f) (y ∷ []))
    ∙ set_at old x (f ++ y ∷ []) (op.JumpZero s (length one + 1)) j (sym at)
    ∙ ap (λ n. old ++ op.JumpZero s n ∷ (f ++ y ∷ [])) long
    ∙ sym (append_assoc old (op.JumpZero s m ∷ f) (y ∷ [])) in
    let all : three ≡ front ++ y ∷ g =
    then_made ∙ ap (λ c. c ++ second (length c)) told_so ∙ behind_one front y second
    ∙ ap (λ n. front ++ y ∷ second n) long_front in
    let long_all : length three ≡ m + length g =
    omega (arith, ap length all, length-append front (y ∷ g), long_front) in
    ap (λ c. slice_set c k (op.Jump (length three))) all
    ∙ set_at front y g (op.Jump (length three)) k same
    ∙ ap (λ n. front ++ op.Jump n ∷ g) long_all
    ∙ append_assoc old (op.JumpZero s m ∷ f) (op.Jump (m + length g) ∷ g)

-- turns of a loop
pub turns_ended : (old one two three four : Code) (s j : ℕ) (body test : ℕ → Code) (x : Op)
    → j ≡ length old → one ≡ old ++ x ∷ op.Turn ∷ [] → two ≡ one ++ body (length one)
    → three ≡ slice_set two j (op.Jump (length two)) → four ≡ three ++ test (length three)
    → four ++ op.JumpZero s (length four + 2) ∷ op.Jump (j + 1) ∷ []
    ≡ old ++ turns s (length old) body test
turns_ended old one two three four s j body test x at begun made told then_made =
    let n : ℕ = length old in
    let b : Code = body (n + 2) in
    let m : ℕ = n + 2 + length b in
    let t : Code = test m in
    let whole : two ≡ old ++ x ∷ op.Turn ∷ b =
    made ∙ ap (λ c. c ++ body (length c)) begun ∙ behind_two old x op.Turn body in
    let long : length two ≡ m =
    omega (arith, ap length whole, length-append old (x ∷ op.Turn ∷ b)) in
    let front : Code = old ++ op.Jump m ∷ op.Turn ∷ b in
    let long_front : length front ≡ m =
    omega (arith, length-append old (op.Jump m ∷ op.Turn ∷ b)) in
    let told_so : three ≡ front =
    told ∙ ap (λ c. slice_set c j (op.Jump (length two))) whole
    ∙ set_at old x (op.Turn ∷ b) (op.Jump (length two)) j (sym at)
    ∙ ap (λ k. old ++ op.Jump k ∷ op.Turn ∷ b) long in
    let all : four ≡ front ++ t =
    then_made ∙ ap (λ c. c ++ test (length c)) told_so
    ∙ ap (λ k. front ++ test k) long_front in
    let long_all : length four + 2 ≡ n + 4 + length b + length t =
    omega (arith, ap length all, length-append front t, long_front) in
    ap (λ c. c ++ op.JumpZero s (length four + 2) ∷ op.Jump (j + 1) ∷ []) all
    ∙ ap (λ k. (front ++ t) ++ op.JumpZero s k ∷ op.Jump (j + 1) ∷ []) long_all
    ∙ ap (λ k. (front ++ t) ++ op.JumpZero s (n + 4 + length b + length t) ∷ op.Jump (k + 1) ∷ [])
    at
    ∙ append_assoc front t (op.JumpZero s (n + 4 + length b + length t) ∷ op.Jump (n + 1) ∷ [])
    ∙ append_assoc old (op.Jump m ∷ op.Turn ∷ b)
    (t ++ op.JumpZero s (n + 4 + length b + length t) ∷ op.Jump (n + 1) ∷ [])
