-- A file that is read is within the limits.
use Rattle.std.proofs.Common.{◌≡◌, ℕ, zero, suc, ◌+◌, ◌-◌, ◌≤◌, Bool, true, false, leb, eqb, cond}
use Rattle.std.proofs.Common.{List, [], ◌∷◌, length, map, sum_by, Result, Ok, Err, refl, sym, ap}
use Rattle.std.proofs.Common.{subst, ◌∙◌, arith}
use Rattle.std.specs.Int.{w32}
use Rattle.std.proofs.lemmas.Bool.{leb-true}
use Rattle.std.proofs.lemmas.List.Sums.{sum_by-cons}
use Rattle.gold_field.specs.declared.form.Term.{Term}
use Rattle.gold_field.specs.declared.form.Constraint.{Constraint}
use Rattle.binary_format.specs.Reading.{◌>>=◌, number_of, or_short, required, tested, repeated}
use Rattle.iden_files.specs.declared.fault.FileCause.TheVariants.{BadCount, Limit}
use Rattle.iden_files.specs.declared.sections.Format.TheVariants.{R1cs}
use Rattle.iden_files.specs.declared.sizes.Sizes.{Sizes}
use Rattle.iden_files.specs.Limits.{most_wires, most_constraints, most_terms}
use Rattle.iden_files.specs.Refusal.{Refusal, refusal}
use Rattle.iden_files.specs.File.{File, InLimits, term_count}
use Rattle.iden_files.specs.Meaning.{meaning}
use Rattle.iden_files.specs.Sections.{Section, u32_at, u64_at, section_of, sections_of, needed}
use Rattle.iden_files.specs.ReadR1cs.{field_of, sizes_of, term_at, terms_at, constraint_at}
use Rattle.iden_files.specs.ReadR1cs.{constraints_at, meant, constraints_of, labels_of, r1cs_of}
use Rattle.iden_files.proofs.FormLaws.{meaning_len}

-- what is read in two steps is read by both
both_read : {A B : Type 0} (x : Result A Refusal) (g : A → Result B Refusal) (b : B)
    → (x >>= g) ≡ Ok b → (a : A) × (x ≡ Ok a) × (g a ≡ Ok b)
both_read (Ok a) g b e = (a, refl, e)
both_read (Err r) g b e = let bad : ⊥ = cc in absurd bad

abbrev accept : {A : Type 0} → A → Result A Refusal
accept a = Ok a

same_value : {A : Type 0} (a b : A) → accept a ≡ accept b → a ≡ b
same_value a b e = cc

-- what passed a test is what was tested
passed : {A : Type 0} (b : Bool) (a x : A) (r : Refusal) → cond b (Ok a) (Err r) ≡ Ok x
    → (b ≡ true) × (a ≡ x)
passed true a x r e = (refl, same_value a x e)
passed false a x r e = let bad : ⊥ = cc in absurd bad

-- ---- sizes

sizes_tested : (field : Result (Unit {0}) Refusal) (wires inputs constraints : Bool)
    (r s t : Refusal) (x z : Sizes)
    → (field >>= λ a. required wires r >>= λ b. required inputs s >>= λ c. required constraints t
    >>= λ d. Ok x) ≡ Ok z → (wires ≡ true) × (constraints ≡ true) × (x ≡ z)
sizes_tested (Err f) wires inputs constraints r s t x z e = let bad : ⊥ = cc in absurd bad
sizes_tested (Ok u) false inputs constraints r s t x z e = let bad : ⊥ = cc in absurd bad
sizes_tested (Ok u) true false constraints r s t x z e = let bad : ⊥ = cc in absurd bad
sizes_tested (Ok u) true true false r s t x z e = let bad : ⊥ = cc in absurd bad
sizes_tested (Ok u) true true true r s t x z e = (refl, refl, same_value x z e)

sizes_allowed : (s : Section) (z : Sizes) → sizes_of s ≡ Ok z
    → (z.wires ≤ most_wires) × (z.constraints ≤ most_constraints)
unfolding sizes_of
sizes_allowed s z e =
    let place = s.end - length s.body in
    let found : Sizes = record {
      wires = u32_at 12 s.body;
      outputs = u32_at 16 s.body;
      public_inputs = u32_at 20 s.body;
      private_inputs = u32_at 24 s.body;
      label_count = u64_at 28 s.body;
      constraints = u32_at 36 s.body;
    } in
    let tests =
    sizes_tested (field_of 40 s) (leb (u32_at 12 s.body) most_wires)
    (leb (1 + u32_at 16 s.body + u32_at 20 s.body + u32_at 24 s.body) (u32_at 12 s.body))
    (leb (u32_at 36 s.body) most_constraints) (refusal Limit (place + 12))
    (refusal BadCount (place + 12)) (refusal Limit (place + 36)) found z e in
    let wires = leb-true (u32_at 12 s.body) most_wires tests.0 in
    let constraints = leb-true (u32_at 36 s.body) most_constraints tests.1 in
    subst (λ (x : Sizes). (x.wires ≤ most_wires) × (x.constraints ≤ most_constraints)) tests.2
    (wires, constraints)

-- ---- terms

repeated_len : {A : Type 0} (field : List ℕ → Result (A × List ℕ) Refusal) (n : ℕ)
    (bytes : List ℕ) (x : List A × List ℕ) → repeated field n bytes ≡ Ok x → length x.0 ≡ n
repeated_len {A = A} field zero bytes x e =
    let none : List A × List ℕ = ([], bytes) in
    ap (λ (y : List A × List ℕ). length y.0) (sym (same_value none x e))
repeated_len {A = A} field (suc n) bytes x e =
    let others = λ (a : A × List ℕ). repeated field n a.1 in
    let first = both_read (field bytes)
    (λ a. others a >>= λ b. Ok (a.0 ∷ b.0, b.1)) x e in
    let last = both_read (others first.0) (λ b. Ok (first.0.0 ∷ b.0, b.1)) x first.2 in
    let all : List A × List ℕ = (first.0.0 ∷ last.0.0, last.0.1) in
    let whole = same_value all x last.2 in
    let len = repeated_len field n first.0.1 last.0 last.1 in
    omega (arith, len, ap (λ (y : List A × List ℕ). length y.0) whole)

terms_few : (wires end room : ℕ) (bytes : List ℕ) (x : List Term × List ℕ)
    → terms_at wires end room bytes ≡ Ok x → length x.0 ≤ room
unfolding terms_at
terms_few wires end room bytes x e =
    let limit = refusal Limit (end - length bytes) in
    let count = or_short (number_of w32 bytes) (refusal BadCount end) in
    let follow = λ (c : ℕ × List ℕ). repeated (term_at wires end) c.0 c.1 in
    let number = both_read (tested (λ n. leb n room) limit count) follow x e in
    let test = λ (c : ℕ × List ℕ). cond (leb c.0 room) (Ok c) (Err limit) in
    let read = both_read count test number.0 number.1 in
    let fits = passed (leb read.0.0 room) read.0 number.0 limit read.2 in
    omega (
      arith,
      leb-true read.0.0 room fits.0,
      ap (λ (c : ℕ × List ℕ). c.0) fits.1,
      repeated_len (term_at wires end) number.0.0 number.0.1 x number.2,
    )

-- ---- constraints

-- so many terms are written
abbrev written : Constraint → ℕ
written k = length k.a + length k.b + length k.c

constraint_few : (wires end room : ℕ) (bytes : List ℕ) (x : Constraint × List ℕ)
    → constraint_at wires end room bytes ≡ Ok x → written x.0 ≤ room
unfolding constraint_at
constraint_few wires end room bytes x e =
    let third = λ (a b : List Term × List ℕ).
    terms_at wires end (room - length a.0 - length b.0) b.1 in
    let second = λ (a : List Term × List ℕ). terms_at wires end (room - length a.0) a.1 in
    let whole : List Term × List ℕ → List Term × List ℕ → List Term × List ℕ
    → Constraint × List ℕ = λ a b c. (record { a = a.0; b = b.0; c = c.0 }, c.1) in
    let a = both_read (terms_at wires end room bytes)
    (λ a. second a >>= λ b. third a b >>= λ c. Ok (whole a b c)) x e in
    let b = both_read (second a.0) (λ b. third a.0 b >>= λ c. Ok (whole a.0 b c)) x a.2 in
    let c = both_read (third a.0 b.0) (λ c. Ok (whole a.0 b.0 c)) x b.2 in
    let same = same_value (whole a.0 b.0 c.0) x c.2 in
    omega (
      arith,
      terms_few wires end room bytes a.0 a.1,
      terms_few wires end (room - length a.0.0) a.0.1 b.0 b.1,
      terms_few wires end (room - length a.0.0 - length b.0.0) b.0.1 c.0 c.1,
      ap (λ (y : Constraint × List ℕ). written y.0) same,
    )

abbrev terms_in : ℕ → List Constraint → ℕ
terms_in wires ks = sum_by term_count (map (meaning wires) ks)

constraints_few : (wires end room n : ℕ) (bytes : List ℕ) (x : List Constraint × List ℕ)
    → constraints_at wires end room n bytes ≡ Ok x
    → (length x.0 ≡ n) × (terms_in wires x.0 ≤ room)
unfolding constraints_at
constraints_few wires end room zero bytes x e =
    let none : List Constraint × List ℕ = ([], bytes) in
    subst (λ (y : List Constraint × List ℕ). (length y.0 ≡ 0) × (terms_in wires y.0 ≤ room))
    (same_value none x e) (refl, omega arith)
constraints_few wires end room (suc n) bytes x e =
    let left = λ (k : Constraint). room - length k.a - length k.b - length k.c in
    let others = λ (a : Constraint × List ℕ). constraints_at wires end (left a.0) n a.1 in
    let first = both_read (constraint_at wires end room bytes)
    (λ a. others a >>= λ b. Ok (a.0 ∷ b.0, b.1)) x e in
    let last = both_read (others first.0) (λ b. Ok (first.0.0 ∷ b.0, b.1)) x first.2 in
    let k = first.0.0 in
    let rest = constraints_few wires end (left k) n first.0.1 last.0 last.1 in
    let one = constraint_few wires end room bytes first.0 first.1 in
    let all : List Constraint × List ℕ = (k ∷ last.0.0, last.0.1) in
    let len : length all.0 ≡ suc n = omega (arith, rest.0) in
    let sum : terms_in wires all.0 ≤ room = omega (
      arith,
      one,
      rest.1,
      meaning_len wires k,
      sum_by-cons term_count (meaning wires k) (map (meaning wires) last.0.0),
    ) in
    subst (λ (y : List Constraint × List ℕ). (length y.0 ≡ suc n) × (terms_in wires y.0 ≤ room))
    (same_value all x last.2) (len, sum)

map_len : (wires : ℕ) (ks : List Constraint) → length (map (meaning wires) ks) ≡ length ks
map_len wires [] = refl
map_len wires (k ∷ ks) = omega (arith, map_len wires ks)

section_few : (z : Sizes) (s : Section) (ks : List Constraint) → constraints_of z s ≡ Ok ks
    → (length ks ≡ z.constraints) × (sum_by term_count ks ≤ most_terms)
unfolding constraints_of
section_few z s ks e =
    let reading = constraints_at z.wires s.end most_terms z.constraints s.body in
    let end = λ (x : List Constraint × List ℕ).
    required (eqb (length x.1) 0) (refusal BadCount (s.end - length x.1)) in
    let found = both_read (meant z.wires reading) (λ x. end x >>= λ u. Ok x.0) ks e in
    let all = both_read (end found.0) (λ u. Ok found.0.0) ks found.2 in
    let raw = both_read reading (λ x. Ok (map (meaning z.wires) x.0, x.1)) found.0 found.1 in
    let few =
    constraints_few z.wires s.end most_terms z.constraints s.body raw.0 raw.1 in
    let meant_all : List Constraint × List ℕ = (map (meaning z.wires) raw.0.0, raw.0.1) in
    let same = same_value meant_all found.0 raw.2 in
    let list = ap (λ (x : List Constraint × List ℕ). x.0) same ∙ same_value found.0.0 ks all.2 in
    subst
    (λ (js : List Constraint). (length js ≡ z.constraints) × (sum_by term_count js ≤ most_terms))
    list (map_len z.wires raw.0.0 ∙ few.0, few.1)

-- ---- the file

abbrev file_of : Sizes → List ℕ → List Constraint → File
file_of z labels ks = record {
  wires = z.wires;
  outputs = z.outputs;
  public_inputs = z.public_inputs;
  private_inputs = z.private_inputs;
  label_count = z.label_count;
  labels = labels;
  constraints = ks;
}

pub read_file_in_limits : (bytes : List ℕ) (f : File) → r1cs_of bytes ≡ Ok f → InLimits f
unfolding r1cs_of
read_file_in_limits bytes f e =
    let end = length bytes in
    let after_list = λ (ss : List Section) (z : Sizes) (ks : List Constraint).
    labels_of z.wires (section_of 3 ss) >>= λ labels. accept (file_of z labels ks) in
    let after_sizes = λ (ss : List Section) (second : Section) (z : Sizes).
    constraints_of z second >>= λ ks. after_list ss z ks in
    let after_second = λ (ss : List Section) (first second : Section).
    sizes_of first >>= λ z. after_sizes ss second z in
    let after_first = λ (ss : List Section) (first : Section).
    needed 2 end ss >>= λ second. after_second ss first second in
    let found = both_read (sections_of R1cs bytes)
    (λ ss. needed 1 end ss >>= λ first. after_first ss first) f e in
    let ss = found.0 in
    let first = both_read (needed 1 end ss) (λ first. after_first ss first) f found.2 in
    let second =
    both_read (needed 2 end ss) (λ second. after_second ss first.0 second) f first.2 in
    let sizes = both_read (sizes_of first.0) (λ z. after_sizes ss second.0 z) f second.2 in
    let z = sizes.0 in
    let list = both_read (constraints_of z second.0) (λ ks. after_list ss z ks) f sizes.2 in
    let labels = both_read (labels_of z.wires (section_of 3 ss))
    (λ labels. accept (file_of z labels list.0)) f list.2 in
    let allowed = sizes_allowed first.0 z sizes.1 in
    let few = section_few z second.0 list.0 list.1 in
    let wide : length list.0 ≤ most_constraints = omega (arith, few.0, allowed.1) in
    let limits : InLimits (file_of z labels.0 list.0) =
    record { wires = allowed.0; constraints = wide; terms = few.1 } in
    subst InLimits (same_value (file_of z labels.0 list.0) f labels.2) limits
