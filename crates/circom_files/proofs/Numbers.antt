-- The values that a file of values holds are numbers of the field.
use Rattle.std.proofs.Common.{◌≡◌, ◌<◌, ◌-◌, ◌*◌, ◌==◌, length, ℕ, zero, suc, Bool, true, false}
use Rattle.std.proofs.Common.{List, [], ◌∷◌, All, Result, Ok, Err, if◌then◌else◌, nat_lt, refl}
use Rattle.std.proofs.Common.{subst, arith}
use Rattle.std.proofs.lemmas.Bool.Decides.{nat_tests}
use Rattle.std.proofs.lemmas.List.Elements.{All-nil, All-cons}
use Rattle.binary_format.specs.Reading.{◌>>=◌, number_of, or_short, repeated, required}
use Rattle.std.specs.Int.{w64}
use Rattle.gold_field.specs.declared.gold.TheConstants.{P}
use Rattle.iden_files.specs.declared.fault.FileCause.TheVariants.{ValueTooLarge, BadCount}
use Rattle.iden_files.specs.declared.sections.Format.TheVariants.{Wtns}
use Rattle.iden_files.specs.ReadWtns.{value_count, values_of, wtns_of}
use Rattle.iden_files.specs.Refusal.{Refusal, refusal}
use Rattle.iden_files.specs.Sections.{Section, needed, sections_of}
use Rattle.iden_files.specs.Values.{number_at}

-- what is read in two steps is read by both
both_read : {A B : Type 0} (x : Result A Refusal) (g : A → Result B Refusal) (b : B)
    → (x >>= g) ≡ Ok b → (a : A) × (x ≡ Ok a) × (g a ≡ Ok b)
both_read (Ok a) g b e = (a, refl, e)
both_read (Err r) g b e = let bad : ⊥ = cc in absurd bad

abbrev accept : {A : Type 0} → A → Result A Refusal
accept a = Ok a

passed : {A : Type 0} (b : Bool) (a x : A) (r : Refusal) → (if b then Ok a else Err r) ≡ Ok x
    → (b ≡ true) × (a ≡ x)
passed true a x r e = (refl, cc)
passed false a x r e = let bad : ⊥ = cc in absurd bad

one_ok : {A : Type 0} (a b : A) → accept a ≡ accept b → a ≡ b
one_ok a b e = cc

less : (m n : ℕ) → nat_lt m n ≡ true → m < n
less m n h = grind (arith, nat_tests)

value_below : (end : ℕ) (bytes : List ℕ) (x : ℕ × List ℕ) → number_at end bytes ≡ Ok x → x.0 < P
unfolding number_at
value_below end bytes x e =
    let r = refusal ValueTooLarge (end - length bytes) in
    let test = λ (y : ℕ × List ℕ). if nat_lt y.0 P then Ok y else Err r in
    let step = both_read (or_short (number_of w64 bytes) (refusal BadCount end)) test x e in
    let found = passed (nat_lt step.0.0 P) step.0 x r step.2 in
    subst (λ (y : ℕ × List ℕ). y.0 < P) found.1 (less step.0.0 P found.0)

abbrev joined : ℕ × List ℕ → List ℕ × List ℕ → List ℕ × List ℕ
joined a b = (a.0 ∷ b.0, b.1)

repeated_below : (end n : ℕ) (bytes : List ℕ) (found : List ℕ × List ℕ)
    → repeated (number_at end) n bytes ≡ Ok found → All (λ v. v < P) found.0
repeated_below end zero bytes found e =
    let none : ([], bytes) ≡ found = cc in
    subst (λ (y : List ℕ × List ℕ). All (λ v. v < P) y.0) none (All-nil (λ v. v < P))
repeated_below end (suc n) bytes found e =
    let rest = λ (a : ℕ × List ℕ). repeated (number_at end) n a.1 in
    let first = both_read (number_at end bytes) (λ a. rest a >>= λ b. Ok (joined a b)) found e in
    let others = both_read (rest first.0) (λ b. Ok (joined first.0 b)) found first.2 in
    let all : joined first.0 others.0 ≡ found = one_ok _ _ others.2 in
    subst (λ (y : List ℕ × List ℕ). All (λ v. v < P) y.0) all
    (All-cons (λ v. v < P) first.0.0 others.0.0 (value_below end bytes first.0 first.1)
    (repeated_below end n first.0.1 others.0 others.1))

section_below : (count : ℕ) (s : Section) (values : List ℕ) → values_of count s ≡ Ok values
    → All (λ v. v < P) values
unfolding values_of
section_below count s values e =
    let read = repeated (number_at s.end) count s.body in
    let sized = required (length s.body == 8 * count) (refusal BadCount (s.end - length s.body)) in
    let size = both_read sized (λ _. read >>= λ found. Ok found.0) values e in
    let found = both_read read (λ found. Ok found.0) values size.2 in
    subst (All (λ v. v < P)) (one_ok _ _ found.2)
    (repeated_below s.end count s.body found.0 found.1)

pub values_below : (bytes values : List ℕ) → wtns_of bytes ≡ Ok values → All (λ v. v < P) values
unfolding wtns_of
values_below bytes values e =
    let end = length bytes in
    let counted = λ (first second : Section). value_count first >>= λ n. values_of n second in
    let behind = λ (ss : List Section) (first : Section). needed 2 end ss >>= counted first in
    let sections = both_read (sections_of Wtns bytes) (λ ss. needed 1 end ss >>= behind ss) values
    e in
    let first = both_read (needed 1 end sections.0) (behind sections.0) values sections.2 in
    let second = both_read (needed 2 end sections.0) (counted first.0) values first.2 in
    let count = both_read (value_count first.0) (λ n. values_of n second.0) values second.2 in
    section_below count.0 second.0 values count.2
