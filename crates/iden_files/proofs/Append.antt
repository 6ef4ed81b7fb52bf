-- Bytes that are written one after another, and how many there are.
use Rattle.std.proofs.Common.{◌≡◌, ℕ, ◌+◌, ◌*◌, ◌<◌, List, [], ◌∷◌, ◌++◌, length, get_or, take, All}
use Rattle.std.proofs.Common.{sum_by, refl, sym, ap, subst, ◌∙◌, append_assoc, arith}
use Rattle.std.specs.Prelude.{codes}
use Rattle.std.specs.List.{flat_map}
use Rattle.std.specs.Int.{w32, w64, to_le_bytes}
use Rattle.std.proofs.lemmas.List.{length-append, take_more, flat_map_more}
use Rattle.std.proofs.lemmas.List.Elements.{All-more}
use Rattle.std.proofs.lemmas.List.Sums.{sum_by-cons}
use Rattle.gold_field.specs.declared.form.Term.{Term}
use Rattle.gold_field.specs.declared.form.Constraint.{Constraint}
use Rattle.iden_files.specs.File.{File, term_count}
use Rattle.iden_files.specs.Spelling.{header_bytes, section_bytes, section_head, field_bytes}
use Rattle.iden_files.specs.Spelling.{sizes_bytes, term_bytes, form_bytes, constraint_bytes}
use Rattle.iden_files.specs.Spelling.{r1cs_bytes, wtns_bytes}

pub appended : (a x y b c : List ℕ) → b ≡ a ++ x → c ≡ b ++ y → c ≡ a ++ (x ++ y)
appended a x y b c p q = q ∙ ap (λ (l : List ℕ). l ++ y) p ∙ append_assoc a x y

pub words_len : (xs : List ℕ) → length (flat_map (to_le_bytes w64) xs) ≡ 8 * length xs
words_len [] = refl
words_len (x ∷ xs) =
    omega (arith, words_len xs, length-append (to_le_bytes w64 x) (flat_map (to_le_bytes w64) xs))

terms_len : (ts : List Term) → length (flat_map term_bytes ts) ≡ 12 * length ts
terms_len [] = refl
terms_len (t ∷ ts) =
    omega (arith, terms_len ts, length-append (term_bytes t) (flat_map term_bytes ts))

form_len : (ts : List Term) → length (form_bytes ts) ≡ 4 + 12 * length ts
form_len ts =
    omega (
      arith,
      terms_len ts,
      length-append (to_le_bytes w32 (length ts)) (flat_map term_bytes ts),
    )

constraint_len : (k : Constraint) → length (constraint_bytes k) ≡ 12 + 12 * term_count k
constraint_len k =
    omega (
      arith,
      form_len k.a,
      form_len k.b,
      form_len k.c,
      length-append (form_bytes k.a) (form_bytes k.b ++ form_bytes k.c),
      length-append (form_bytes k.b) (form_bytes k.c),
    )

pub constraints_len : (ks : List Constraint) → length (flat_map constraint_bytes ks)
    ≡ 12 * length ks + 12 * sum_by term_count ks
constraints_len [] = refl
constraints_len (k ∷ ks) =
    omega (
      arith,
      constraints_len ks,
      constraint_len k,
      length-append (constraint_bytes k) (flat_map constraint_bytes ks),
      sum_by-cons term_count k ks,
    )

pub sizes_put : (f : File) (a b1 b2 b3 b4 b5 b6 b7 b8 : List ℕ) → b1 ≡ a ++ section_head 1 40
    → b2 ≡ b1 ++ field_bytes → b3 ≡ b2 ++ to_le_bytes w32 f.wires
    → b4 ≡ b3 ++ to_le_bytes w32 f.outputs
    → b5 ≡ b4 ++ to_le_bytes w32 f.public_inputs → b6 ≡ b5 ++ to_le_bytes w32 f.private_inputs
    → b7 ≡ b6 ++ to_le_bytes w64 f.label_count
    → b8 ≡ b7 ++ to_le_bytes w32 (length f.constraints)
    → b8 ≡ a ++ section_bytes 1 (sizes_bytes f)
sizes_put f a b1 b2 b3 b4 b5 b6 b7 b8 e1 e2 e3 e4 e5 e6 e7 e8 =
    let x8 = to_le_bytes w32 (length f.constraints) in
    let x7 = to_le_bytes w64 f.label_count in
    let x6 = to_le_bytes w32 f.private_inputs in
    let x5 = to_le_bytes w32 f.public_inputs in
    let x4 = to_le_bytes w32 f.outputs in
    let x3 = to_le_bytes w32 f.wires in
    let t7 = appended b6 x7 x8 b7 b8 e7 e8 in
    let t6 = appended b5 x6 (x7 ++ x8) b6 b8 e6 t7 in
    let t5 = appended b4 x5 (x6 ++ (x7 ++ x8)) b5 b8 e5 t6 in
    let t4 = appended b3 x4 (x5 ++ (x6 ++ (x7 ++ x8))) b4 b8 e4 t5 in
    let t3 = appended b2 x3 (x4 ++ (x5 ++ (x6 ++ (x7 ++ x8)))) b3 b8 e3 t4 in
    let t2 = appended b1 field_bytes (x3 ++ (x4 ++ (x5 ++ (x6 ++ (x7 ++ x8))))) b2 b8 e2 t3 in
    appended a (section_head 1 40) (sizes_bytes f) b1 b8 e1 t2

pub file_put : (f : File) (b0 b1 b2 b3 b4 : List ℕ) → b0 ≡ []
    → b1 ≡ b0 ++ header_bytes (codes "r1cs") 1 3 → b2 ≡ b1 ++ section_bytes 1 (sizes_bytes f)
    → b3 ≡ b2 ++ section_bytes 2 (flat_map constraint_bytes f.constraints)
    → b4 ≡ b3 ++ section_bytes 3 (flat_map (to_le_bytes w64) f.labels) → b4 ≡ r1cs_bytes f
unfolding r1cs_bytes
file_put f b0 b1 b2 b3 b4 e0 e1 e2 e3 e4 =
    let s1 = section_bytes 1 (sizes_bytes f) in
    let s2 = section_bytes 2 (flat_map constraint_bytes f.constraints) in
    let s3 = section_bytes 3 (flat_map (to_le_bytes w64) f.labels) in
    let t3 = appended b2 s2 s3 b3 b4 e3 e4 in
    let t2 = appended b1 s1 (s2 ++ s3) b2 b4 e2 t3 in
    appended b0 (header_bytes (codes "r1cs") 1 3) (s1 ++ (s2 ++ s3)) b1 b4 e1 t2
    ∙ ap (λ (l : List ℕ). l ++ (header_bytes (codes "r1cs") 1 3 ++ (s1 ++ (s2 ++ s3)))) e0

pub values_put : (values b0 b1 b2 b3 : List ℕ) → b0 ≡ []
    → b1 ≡ b0 ++ header_bytes (codes "wtns") 2 2
    → b2 ≡ b1 ++ section_bytes 1 (field_bytes ++ to_le_bytes w32 (length values))
    → b3 ≡ b2 ++ section_bytes 2 (flat_map (to_le_bytes w64) values)
    → b3 ≡ wtns_bytes values
unfolding wtns_bytes
values_put values b0 b1 b2 b3 e0 e1 e2 e3 =
    let s1 = section_bytes 1 (field_bytes ++ to_le_bytes w32 (length values)) in
    let s2 = section_bytes 2 (flat_map (to_le_bytes w64) values) in
    let t2 = appended b1 s1 s2 b2 b3 e2 e3 in
    appended b0 (header_bytes (codes "wtns") 2 2) (s1 ++ s2) b1 b3 e1 t2
    ∙ ap (λ (l : List ℕ). l ++ (header_bytes (codes "wtns") 2 2 ++ (s1 ++ s2))) e0

-- a loop's step: one more element is written
pub wrote_more : {X : Type 0} (text : X → List ℕ) (xs : List X) (i : ℕ) (x : X)
    (before old new : List ℕ) → i < length xs → x ≡ get_or xs i x
    → old ≡ before ++ flat_map text (take i xs) → new ≡ old ++ text x
    → new ≡ before ++ flat_map text (take (i + 1) xs)
wrote_more text xs i x before old new lt is so_far put =
    let more : take (i + 1) xs ≡ take i xs ++ x ∷ [] =
    take_more xs i x lt ∙ ap (λ y. take i xs ++ y ∷ []) (sym is) in
    put ∙ ap (λ (l : List ℕ). l ++ text x) so_far ∙ flat_map_more text before (take i xs) x
    ∙ ap (λ ys. before ++ flat_map text ys) (sym more)

pub holds_more : {X : Type 0} (Q : X → Type 0) (xs : List X) (i : ℕ) (x : X) → i < length xs
    → x ≡ get_or xs i x → All Q (take i xs) → Q x → All Q (take (i + 1) xs)
holds_more Q xs i x lt is so_far here = All-more Q xs i x lt so_far (subst Q is here)
