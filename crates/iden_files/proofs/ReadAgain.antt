-- What is written is read again.
use Rattle.std.proofs.Common.{◌≡◌, ℕ, suc, ◌+◌, ◌-◌, ◌*◌, ◌^◌, ◌<◌, ◌≤◌, true, eqb, ltb, leb, List}
use Rattle.std.proofs.Common.{[], ◌∷◌, ◌++◌, length, map, drop, All, sum_by, Some, Ok, refl, sym}
use Rattle.std.proofs.Common.{ap, ◌∙◌, append_assoc, arith}
use Rattle.std.specs.Prelude.{codes}
use Rattle.std.specs.List.{flat_map}
use Rattle.std.specs.Int.{w32, w64, to_le_bytes}
use Rattle.std.proofs.lemmas.Bool.{lt-ltb, le-leb, eq-eqb}
use Rattle.std.proofs.lemmas.List.{append-nil}
use Rattle.std.proofs.lemmas.List.Elements.{All-head, All-tail}
use Rattle.std.proofs.lemmas.List.Sums.{sum_by-cons}
use Rattle.std.proofs.lemmas.Nat.{from_le_bytes-to_le_bytes_4, from_le_bytes-to_le_bytes_8}
use Rattle.gold_field.specs.declared.form.Term.{Term}
use Rattle.gold_field.specs.declared.form.Constraint.{Constraint}
use Rattle.gold_field.specs.declared.gold.TheConstants.{P}
use Rattle.gold_field.specs.Form.{ConstraintBelow}
use Rattle.binary_format.specs.Reading.{front_of, number_of, or_short, repeated}
use Rattle.binary_format.proofs.ReadBack.{Each, ReadsBack, front_again, u32_again, u64_again}
use Rattle.binary_format.proofs.ReadBack.{tested_again, repeated_again}
use Rattle.iden_files.specs.declared.fault.FileCause.TheVariants.{Truncated, WireOutOfRange}
use Rattle.iden_files.specs.declared.fault.FileCause.TheVariants.{ValueTooLarge, BadCount, Limit}
use Rattle.iden_files.specs.declared.sections.Format.{Format}
use Rattle.iden_files.specs.declared.sections.Format.TheVariants.{R1cs, Wtns}
use Rattle.iden_files.specs.declared.sizes.Sizes.{Sizes}
use Rattle.iden_files.specs.Limits.{most_wires, most_constraints, most_terms}
use Rattle.iden_files.specs.Refusal.{refusal}
use Rattle.iden_files.specs.File.{File, InLimits, IsWhole, HasForms, term_count}
use Rattle.iden_files.specs.Meaning.{IsTermOver, meaning}
use Rattle.iden_files.specs.Sections.{Section, u32_at, u64_at, section_count, section_at}
use Rattle.iden_files.specs.Sections.{with_section, sections_after, sections_of, needed}
use Rattle.iden_files.specs.Values.{number_at}
use Rattle.iden_files.specs.ReadR1cs.{field_of, sizes_of, term_at, terms_at, constraint_at}
use Rattle.iden_files.specs.ReadR1cs.{constraints_at, constraints_of, label_at, labels_of, r1cs_of}
use Rattle.iden_files.specs.ReadWtns.{value_count, values_of, wtns_of}
use Rattle.iden_files.specs.Spelling.{header_bytes, section_bytes, field_bytes, sizes_bytes}
use Rattle.iden_files.specs.Spelling.{term_bytes, form_bytes, constraint_bytes, r1cs_bytes}
use Rattle.iden_files.specs.Spelling.{wtns_bytes}
use Rattle.iden_files.proofs.Append.{words_len, constraints_len}
use Rattle.iden_files.proofs.FormLaws.{form_of_form}

Each-from_all : {A : Type 0} (Q : A → Type 0) (xs : List A) → All Q xs → Each Q xs
Each-from_all Q [] all = tt
Each-from_all Q (x ∷ xs) all = (All-head Q x xs all, Each-from_all Q xs (All-tail Q x xs all))

-- ---- numbers and terms

pub value_again : (end : ℕ) → ReadsBack (number_at end) (to_le_bytes w64) (λ n. n < P)
unfolding number_at
value_again end = record {
  again = λ n rest below.
      tested_again (λ m. ltb m P) (refusal ValueTooLarge (end - length (to_le_bytes w64 n ++ rest)))
      (or_short (number_of w64 (to_le_bytes w64 n ++ rest)) (refusal BadCount end)) n rest
      ((u64_again (refusal BadCount end)).again n rest (omega (arith, below))) (lt-ltb n P below);
}

term_reads : (wires end s c : ℕ) (b0 b1 b2 : List ℕ)
    → or_short (number_of w32 b0) (refusal BadCount end) ≡ Ok (s, b1) → s < wires
    → number_at end b1 ≡ Ok (c, b2)
    → term_at wires end b0 ≡ Ok (record { signal = s; coef = c }, b2)
unfolding term_at
term_reads wires end s c b0 b1 b2 first below second =
    let wire = tested_again (λ n. ltb n wires) (refusal WireOutOfRange (end - length b0))
    (or_short (number_of w32 b0) (refusal BadCount end)) s b1 first (lt-ltb s wires below) in
    rw (wire, second) refl

pub term_again : (wires end : ℕ) → wires ≤ 2 ^ 32
    → ReadsBack (term_at wires end) term_bytes (IsTermOver wires)
term_again wires end few = record {
  again = λ t rest over.
      ap (term_at wires end) (append_assoc (to_le_bytes w32 t.signal) (to_le_bytes w64 t.coef) rest)
      ∙ term_reads wires end t.signal t.coef
      (to_le_bytes w32 t.signal ++ (to_le_bytes w64 t.coef ++ rest))
      (to_le_bytes w64 t.coef ++ rest) rest
      ((u32_again (refusal BadCount end)).again t.signal (to_le_bytes w64 t.coef ++ rest)
      (omega (arith, over.signal, few))) over.signal
      ((value_again end).again t.coef rest over.coef);
}

terms_reads : (wires end room n : ℕ) (b0 b1 b2 : List ℕ) (ts : List Term)
    → or_short (number_of w32 b0) (refusal BadCount end) ≡ Ok (n, b1) → n ≤ room
    → repeated (term_at wires end) n b1 ≡ Ok (ts, b2)
    → terms_at wires end room b0 ≡ Ok (ts, b2)
unfolding terms_at
terms_reads wires end room n b0 b1 b2 ts first fits second =
    let count =
    tested_again (λ m. leb m room) (refusal Limit (end - length b0))
    (or_short (number_of w32 b0) (refusal BadCount end)) n b1 first (le-leb n room fits) in
    rw (count, second) refl

pub terms_again : (wires end room : ℕ) (ts : List Term) (rest : List ℕ) → wires ≤ 2 ^ 32
    → room < 2 ^ 32 → length ts ≤ room → All (IsTermOver wires) ts
    → terms_at wires end room (form_bytes ts ++ rest) ≡ Ok (ts, rest)
terms_again wires end room ts rest few small fits over =
    let body = flat_map term_bytes ts in
    ap (terms_at wires end room) (append_assoc (to_le_bytes w32 (length ts)) body rest)
    ∙ terms_reads wires end room (length ts) (to_le_bytes w32 (length ts) ++ (body ++ rest))
    (body ++ rest) rest ts
    ((u32_again (refusal BadCount end)).again (length ts) (body ++ rest)
    (omega (arith, fits, small))) fits
    (repeated_again (term_at wires end) term_bytes (IsTermOver wires)
    (term_again wires end few) ts rest (Each-from_all (IsTermOver wires) ts over))

-- ---- constraints

record IsRead (wires : ℕ) (k : Constraint) : Type 0 where
  a : All (IsTermOver wires) k.a
  b : All (IsTermOver wires) k.b
  c : All (IsTermOver wires) k.c

constraint_reads : (wires end room : ℕ) (k : Constraint) (b0 b1 b2 b3 : List ℕ)
    → terms_at wires end room b0 ≡ Ok (k.a, b1) → terms_at wires end (room - length k.a) b1
    ≡ Ok (k.b, b2) → terms_at wires end (room - length k.a - length k.b) b2 ≡ Ok (k.c, b3)
    → constraint_at wires end room b0 ≡ Ok (k, b3)
unfolding constraint_at
constraint_reads wires end room k b0 b1 b2 b3 first second third = rw (first, second, third) refl

constraint_again : (wires end room : ℕ) (k : Constraint) (rest : List ℕ) → wires ≤ 2 ^ 32
    → room < 2 ^ 32 → term_count k ≤ room → IsRead wires k
    → constraint_at wires end room (constraint_bytes k ++ rest) ≡ Ok (k, rest)
constraint_again wires end room k rest few small fits over =
    let fa = form_bytes k.a in
    let fb = form_bytes k.b in
    let fc = form_bytes k.c in
    let regrouped : constraint_bytes k ++ rest ≡ fa ++ (fb ++ (fc ++ rest)) =
    append_assoc fa (fb ++ fc) rest ∙ ap (λ (l : List ℕ). fa ++ l) (append_assoc fb fc rest) in
    ap (constraint_at wires end room) regrouped
    ∙ constraint_reads wires end room k (fa ++ (fb ++ (fc ++ rest))) (fb ++ (fc ++ rest))
    (fc ++ rest) rest
    (terms_again wires end room k.a (fb ++ (fc ++ rest)) few small (omega (arith, fits)) over.a)
    (terms_again wires end (room - length k.a) k.b (fc ++ rest) few (omega (arith, small))
    (omega (arith, fits)) over.b)
    (terms_again wires end (room - length k.a - length k.b) k.c rest few (omega (arith, small))
    (omega (arith, fits)) over.c)

one_more : (wires end room n : ℕ) (k : Constraint) (ks : List Constraint) (b0 b1 b2 : List ℕ)
    → constraint_at wires end room b0 ≡ Ok (k, b1)
    → constraints_at wires end (room - length k.a - length k.b - length k.c) n b1 ≡ Ok (ks, b2)
    → constraints_at wires end room (suc n) b0 ≡ Ok (k ∷ ks, b2)
unfolding constraints_at
one_more wires end room n k ks b0 b1 b2 first others = rw (first, others) refl

constraints_again : (wires end room : ℕ) (ks : List Constraint) (rest : List ℕ) → wires ≤ 2 ^ 32
    → room < 2 ^ 32 → sum_by term_count ks ≤ room → All (IsRead wires) ks
    → constraints_at wires end room (length ks) (flat_map constraint_bytes ks ++ rest)
    ≡ Ok (ks, rest)
unfolding constraints_at
constraints_again wires end room [] rest few small fits over = refl
constraints_again wires end room (k ∷ ks) rest few small fits over =
    let count = sum_by-cons term_count k ks in
    let after = flat_map constraint_bytes ks ++ rest in
    let first = constraint_again wires end room k after few small (omega (arith, fits, count))
    (All-head (IsRead wires) k ks over) in
    let left = room - length k.a - length k.b - length k.c in
    let others =
    constraints_again wires end left ks rest few (omega (arith, small))
    (omega (arith, fits, count)) (All-tail (IsRead wires) k ks over) in
    ap (constraints_at wires end room (suc (length ks)))
    (append_assoc (constraint_bytes k) (flat_map constraint_bytes ks) rest)
    ∙ one_more wires end room (length ks) k ks (constraint_bytes k ++ after) after rest first others

all_read : (wires : ℕ) (ks : List Constraint) → All (ConstraintBelow wires) ks → All HasForms ks
    → All (IsRead wires) ks
all_read wires ks below forms = λ k d lt.
    let under = below k d lt in
    let has = forms k d lt in
    record {
      a = λ j e jt. record { signal = under.a j e jt; coef = has.a.coefs j e jt };
      b = λ j e jt. record { signal = under.b j e jt; coef = has.b.coefs j e jt };
      c = λ j e jt. record { signal = under.c j e jt; coef = has.c.coefs j e jt };
    }

meaning_again : (wires : ℕ) (k : Constraint) → HasForms k → IsRead wires k → meaning wires k ≡ k
meaning_again wires k forms over =
    rw (
      ← form_of_form wires k.a forms.a.rises over.a,
      ← form_of_form wires k.b forms.b.rises over.b,
      ← form_of_form wires k.c forms.c.rises over.c,
    ) refl

meanings_again : (wires : ℕ) (ks : List Constraint) → All HasForms ks → All (IsRead wires) ks
    → map (meaning wires) ks ≡ ks
meanings_again wires [] forms over = refl
meanings_again wires (k ∷ ks) forms over =
    let first =
    meaning_again wires k (All-head HasForms k ks forms) (All-head (IsRead wires) k ks over) in
    let others =
    meanings_again wires ks (All-tail HasForms k ks forms)
    (All-tail (IsRead wires) k ks over) in
    rw (first, others) refl

-- ---- sections

section_reads : (end kind size : ℕ) (body b0 b1 b2 b3 : List ℕ)
    → or_short (number_of w32 b0) (refusal Truncated end) ≡ Ok (kind, b1)
    → or_short (number_of w64 b1) (refusal Truncated end) ≡ Ok (size, b2)
    → front_of size b2 ≡ Some (body, b3)
    → section_at end b0 ≡ Ok (record { kind = kind; end = end - length b3; body = body }, b3)
unfolding section_at
section_reads end kind size body b0 b1 b2 b3 first second third = rw (first, second, third) refl

section_again : (end kind : ℕ) (body rest : List ℕ) → kind < 2 ^ 32 → length body < 2 ^ 64
    → section_at end (section_bytes kind body ++ rest)
    ≡ Ok (record { kind = kind; end = end - length rest; body = body }, rest)
section_again end kind body rest small fits =
    let size = length body in
    let k = to_le_bytes w32 kind in
    let n = to_le_bytes w64 size in
    let regrouped : section_bytes kind body ++ rest ≡ k ++ (n ++ (body ++ rest)) =
    append_assoc (k ++ n) body rest ∙ append_assoc k n (body ++ rest) in
    ap (section_at end) regrouped
    ∙ section_reads end kind size body (k ++ (n ++ (body ++ rest))) (n ++ (body ++ rest))
    (body ++ rest) rest
    ((u32_again (refusal Truncated end)).again kind (n ++ (body ++ rest)) small)
    ((u64_again (refusal Truncated end)).again size (body ++ rest) fits)
    (front_again body rest size refl)

abbrev numbered : ℕ → ℕ → List ℕ → Section
numbered kind end body = record { kind = kind; end = end; body = body }

three_sections : (end e1 e2 e3 : ℕ) (y1 y2 y3 b0 b1 b2 : List ℕ)
    → section_at end b0 ≡ Ok (numbered 1 e1 y1, b1) → section_at end b1 ≡ Ok (numbered 2 e2 y2, b2)
    → section_at end b2 ≡ Ok (numbered 3 e3 y3, [])
    → sections_after R1cs end 3 [] b0
    ≡ Ok (numbered 1 e1 y1 ∷ numbered 2 e2 y2 ∷ numbered 3 e3 y3 ∷ [])
unfolding sections_after with_section
three_sections end e1 e2 e3 y1 y2 y3 b0 b1 b2 first second third = rw (first, second, third) refl

two_sections : (end e1 e2 : ℕ) (y1 y2 b0 b1 : List ℕ)
    → section_at end b0 ≡ Ok (numbered 1 e1 y1, b1) → section_at end b1 ≡ Ok (numbered 2 e2 y2, [])
    → sections_after Wtns end 2 [] b0 ≡ Ok (numbered 1 e1 y1 ∷ numbered 2 e2 y2 ∷ [])
unfolding sections_after with_section
two_sections end e1 e2 y1 y2 b0 b1 first second = rw (first, second) refl

-- ---- section 1

field_reads : (size : ℕ) (s : Section) → 12 ≤ size → length s.body ≡ size → u32_at 0 s.body ≡ 8
    → u64_at 4 s.body ≡ P → field_of size s ≡ Ok tt
unfolding field_of
field_reads size s long len width prime =
    let four : leb 4 (length s.body) ≡ true = le-leb 4 (length s.body) (omega (arith, len, long)) in
    let eight : eqb (u32_at 0 s.body) 8 ≡ true = eq-eqb (u32_at 0 s.body) 8 width in
    let whole : eqb (length s.body) size ≡ true = eq-eqb (length s.body) size len in
    let order : eqb (u64_at 4 s.body) P ≡ true = eq-eqb (u64_at 4 s.body) P prime in
    rw (four, eight, whole, order) refl

sizes_read : (s : Section) (z : Sizes) → field_of 40 s ≡ Ok tt → u32_at 12 s.body ≡ z.wires
    → u32_at 16 s.body ≡ z.outputs → u32_at 20 s.body ≡ z.public_inputs
    → u32_at 24 s.body ≡ z.private_inputs → u64_at 28 s.body ≡ z.label_count
    → u32_at 36 s.body ≡ z.constraints
    → z.wires ≤ most_wires → 1 + z.outputs + z.public_inputs + z.private_inputs ≤ z.wires
    → z.constraints ≤ most_constraints → sizes_of s ≡ Ok z
unfolding sizes_of
sizes_read s z field e12 e16 e20 e24 e28 e36 wires numbered constraints =
    let few : leb (u32_at 12 s.body) most_wires ≡ true =
    le-leb (u32_at 12 s.body) most_wires (omega (arith, e12, wires)) in
    let room : leb (1 + u32_at 16 s.body + u32_at 20 s.body + u32_at 24 s.body) (u32_at 12 s.body)
    ≡ true = le-leb (1 + u32_at 16 s.body + u32_at 20 s.body + u32_at 24 s.body)
    (u32_at 12 s.body) (omega (arith, e12, e16, e20, e24, numbered)) in
    let allowed : leb (u32_at 36 s.body) most_constraints ≡ true =
    le-leb (u32_at 36 s.body) most_constraints (omega (arith, e36, constraints)) in
    rw (field, few, room, allowed, e12, e16, e20, e24, e28, e36) refl

sizes_again : (f : File) (end : ℕ) → IsWhole f → InLimits f
    → sizes_of (record { kind = 1; end = end; body = sizes_bytes f })
    ≡ Ok (record {
      wires = f.wires;
      outputs = f.outputs;
      public_inputs = f.public_inputs;
      private_inputs = f.private_inputs;
      label_count = f.label_count;
      constraints = length f.constraints;
    })
sizes_again f end whole limits =
    let numbered = whole.file.numbered in
    let few = limits.wires in
    sizes_read (record { kind = 1; end = end; body = sizes_bytes f })
    (record {
      wires = f.wires;
      outputs = f.outputs;
      public_inputs = f.public_inputs;
      private_inputs = f.private_inputs;
      label_count = f.label_count;
      constraints = length f.constraints;
    })
    (field_reads 40 (record { kind = 1; end = end; body = sizes_bytes f })
    (omega arith) refl refl refl)
    (from_le_bytes-to_le_bytes_4 f.wires (omega (arith, few)))
    (from_le_bytes-to_le_bytes_4 f.outputs (omega (arith, few, numbered)))
    (from_le_bytes-to_le_bytes_4 f.public_inputs (omega (arith, few, numbered)))
    (from_le_bytes-to_le_bytes_4 f.private_inputs (omega (arith, few, numbered)))
    (from_le_bytes-to_le_bytes_8 f.label_count whole.label_count)
    (from_le_bytes-to_le_bytes_4 (length f.constraints) (omega (arith, limits.constraints)))
    limits.wires numbered limits.constraints

-- ---- sections 2 and 3

constraints_read : (z : Sizes) (s : Section) (written meant_so : List Constraint)
    → constraints_at z.wires s.end most_terms z.constraints s.body ≡ Ok (written, [])
    → map (meaning z.wires) written ≡ meant_so → constraints_of z s ≡ Ok meant_so
unfolding constraints_of
constraints_read z s written meant_so read means = rw (read, means) refl

labels_read : (wires : ℕ) (s : Section) (labels : List ℕ) → length s.body ≡ 8 * wires
    → repeated (label_at s.end) wires s.body ≡ Ok (labels, [])
    → labels_of wires (Some s) ≡ Ok labels
unfolding labels_of
labels_read wires s labels len read =
    let size : eqb (length s.body) (8 * wires) ≡ true = eq-eqb (length s.body) (8 * wires) len in
    rw (size, read) refl

r1cs_reads : (bytes : List ℕ) (f : File) (e1 e2 e3 : ℕ) (y1 y2 y3 : List ℕ)
    → sections_of R1cs bytes ≡ Ok (numbered 1 e1 y1 ∷ numbered 2 e2 y2 ∷ numbered 3 e3 y3 ∷ [])
    → sizes_of (numbered 1 e1 y1)
    ≡ Ok (record {
      wires = f.wires;
      outputs = f.outputs;
      public_inputs = f.public_inputs;
      private_inputs = f.private_inputs;
      label_count = f.label_count;
      constraints = length f.constraints;
    })
    → constraints_of
    (record {
      wires = f.wires;
      outputs = f.outputs;
      public_inputs = f.public_inputs;
      private_inputs = f.private_inputs;
      label_count = f.label_count;
      constraints = length f.constraints;
    }) (numbered 2 e2 y2) ≡ Ok f.constraints
    → labels_of f.wires (Some (numbered 3 e3 y3)) ≡ Ok f.labels → r1cs_of bytes ≡ Ok f
unfolding r1cs_of needed
r1cs_reads bytes f e1 e2 e3 y1 y2 y3 sections sizes constraints labels =
    rw (sections, sizes, constraints, labels) refl

sections_read : (format : Format) (bytes : List ℕ) (n : ℕ) (found : List Section)
    → section_count format bytes ≡ Ok n → sections_after format (length bytes) n [] (drop 12 bytes)
    ≡ Ok found → sections_of format bytes ≡ Ok found
unfolding sections_of
sections_read format bytes n found count found_so = rw (count, found_so) refl

r1cs_header : (rest : List ℕ) → section_count R1cs (header_bytes (codes "r1cs") 1 3 ++ rest) ≡ Ok 3
unfolding section_count
r1cs_header rest =
    let long : leb 12 (length (header_bytes (codes "r1cs") 1 3 ++ rest)) ≡ true =
    le-leb 12 (length (header_bytes (codes "r1cs") 1 3 ++ rest)) (omega arith) in
    rw long refl

wtns_header : (rest : List ℕ) → section_count Wtns (header_bytes (codes "wtns") 2 2 ++ rest) ≡ Ok 2
unfolding section_count
wtns_header rest =
    let long : leb 12 (length (header_bytes (codes "wtns") 2 2 ++ rest)) ≡ true =
    le-leb 12 (length (header_bytes (codes "wtns") 2 2 ++ rest)) (omega arith) in
    rw long refl

pub file_again : (f : File) → IsWhole f → InLimits f → r1cs_of (r1cs_bytes f) ≡ Ok f
unfolding r1cs_bytes
file_again f whole limits =
    let body1 = sizes_bytes f in
    let body2 = flat_map constraint_bytes f.constraints in
    let body3 = flat_map (to_le_bytes w64) f.labels in
    let rest2 = section_bytes 3 body3 in
    let rest1 = section_bytes 2 body2 ++ rest2 in
    let all = section_bytes 1 body1 ++ rest1 in
    let bytes = header_bytes (codes "r1cs") 1 3 ++ all in
    let end = length bytes in
    let s1 : Section = numbered 1 (end - length rest1) body1 in
    let s2 : Section = numbered 2 (end - length rest2) body2 in
    let s3 : Section = numbered 3 (end - 0) body3 in
    let few : f.wires ≤ 2 ^ 32 = omega (arith, limits.wires) in
    let small2 : length body2 < 2 ^ 64 =
    omega (arith, constraints_len f.constraints, limits.constraints, limits.terms) in
    let small3 : length body3 < 2 ^ 64 =
    omega (arith, words_len f.labels, whole.file.labelled, limits.wires) in
    let first = section_again end 1 body1 rest1 (omega arith) (omega arith) in
    let second = section_again end 2 body2 rest2 (omega arith) small2 in
    let third = ap (section_at end) (sym (append-nil rest2))
    ∙ section_again end 3 body3 [] (omega arith) small3 in
    let found =
    sections_read R1cs bytes 3 (s1 ∷ s2 ∷ s3 ∷ []) (r1cs_header all)
    (three_sections end (end - length rest1) (end - length rest2)
    (end - 0) body1 body2 body3 all rest1 rest2 first second third) in
    let over = all_read f.wires f.constraints whole.file.wired whole.forms in
    let z : Sizes =
    record {
      wires = f.wires;
      outputs = f.outputs;
      public_inputs = f.public_inputs;
      private_inputs = f.private_inputs;
      label_count = f.label_count;
      constraints = length f.constraints;
    } in
    let written =
    ap (constraints_at f.wires s2.end most_terms (length f.constraints))
    (sym (append-nil body2))
    ∙ constraints_again f.wires s2.end most_terms f.constraints [] few
    (omega arith) limits.terms over in
    let constraints =
    constraints_read z s2 f.constraints f.constraints written
    (meanings_again f.wires f.constraints whole.forms over) in
    let words = ap (repeated (label_at s3.end) f.wires) (sym (append-nil body3))
    ∙ ap (λ n. repeated (label_at s3.end) n (body3 ++ [])) (sym whole.file.labelled)
    ∙ repeated_again (label_at s3.end) (to_le_bytes w64) (λ n. n < 2 ^ 64)
    (u64_again (refusal BadCount s3.end)) f.labels []
    (Each-from_all (λ n. n < 2 ^ 64) f.labels whole.labels) in
    let labels =
    labels_read f.wires s3 f.labels (omega (arith, words_len f.labels, whole.file.labelled))
    words in
    r1cs_reads bytes f (end - length rest1) (end - length rest2) (end - 0) body1 body2 body3 found
    (sizes_again f s1.end whole limits) constraints labels

-- ---- values

count_read : (s : Section) (n : ℕ) → field_of 16 s ≡ Ok tt → u32_at 12 s.body ≡ n → n ≤ most_wires
    → value_count s ≡ Ok n
unfolding value_count
count_read s n field e few =
    let fits : leb (u32_at 12 s.body) most_wires ≡ true =
    le-leb (u32_at 12 s.body) most_wires (omega (arith, e, few)) in
    rw (field, fits, e) refl

values_read : (n : ℕ) (s : Section) (values : List ℕ) → length s.body ≡ 8 * n
    → repeated (number_at s.end) n s.body ≡ Ok (values, []) → values_of n s ≡ Ok values
unfolding values_of
values_read n s values len read =
    let size : eqb (length s.body) (8 * n) ≡ true = eq-eqb (length s.body) (8 * n) len in
    rw (size, read) refl

wtns_reads : (bytes : List ℕ) (n : ℕ) (values : List ℕ) (e1 e2 : ℕ) (y1 y2 : List ℕ)
    → sections_of Wtns bytes ≡ Ok (numbered 1 e1 y1 ∷ numbered 2 e2 y2 ∷ [])
    → value_count (numbered 1 e1 y1) ≡ Ok n → values_of n (numbered 2 e2 y2) ≡ Ok values
    → wtns_of bytes ≡ Ok values
unfolding wtns_of needed
wtns_reads bytes n values e1 e2 y1 y2 sections count read = rw (sections, count, read) refl

pub values_again : (values : List ℕ) → length values ≤ most_wires → All (λ v. v < P) values
    → wtns_of (wtns_bytes values) ≡ Ok values
unfolding wtns_bytes
values_again values few below =
    let n = length values in
    let body1 = field_bytes ++ to_le_bytes w32 n in
    let body2 = flat_map (to_le_bytes w64) values in
    let rest1 = section_bytes 2 body2 in
    let all = section_bytes 1 body1 ++ rest1 in
    let bytes = header_bytes (codes "wtns") 2 2 ++ all in
    let end = length bytes in
    let s1 : Section = numbered 1 (end - length rest1) body1 in
    let s2 : Section = numbered 2 (end - 0) body2 in
    let small2 : length body2 < 2 ^ 64 = omega (arith, words_len values, few) in
    let first = section_again end 1 body1 rest1 (omega arith) (omega arith) in
    let second = ap (section_at end) (sym (append-nil rest1))
    ∙ section_again end 2 body2 [] (omega arith) small2 in
    let found =
    sections_read Wtns bytes 2 (s1 ∷ s2 ∷ []) (wtns_header all)
    (two_sections end (end - length rest1) (end - 0) body1 body2 all rest1 first second) in
    let count =
    count_read s1 n (field_reads 16 s1 (omega arith) refl refl refl)
    (from_le_bytes-to_le_bytes_4 n (omega (arith, few))) few in
    let words = ap (repeated (number_at s2.end) n) (sym (append-nil body2))
    ∙ repeated_again (number_at s2.end) (to_le_bytes w64) (λ v. v < P)
    (value_again s2.end) values [] (Each-from_all (λ v. v < P) values below) in
    wtns_reads bytes n values (end - length rest1) (end - 0) body1 body2 found count
    (values_read n s2 values (words_len values) words)
