-- Texts of rules: what is written reads back, and a line that is read is the one that is written.
use Rattle.std.proofs.Common.{◌≡◌, ◌≢◌, ℕ, ◌<◌, ◌≤◌, ◌^◌, Bool, true}
use Rattle.std.proofs.Common.{false, not, eqb, cond, List, []}
use Rattle.std.proofs.Common.{◌∷◌, ◌++◌, length, map, Option, Some, None, Ok, refl, ap}
use Rattle.std.proofs.Common.{◌∙◌, subst}
use Rattle.std.proofs.Common.{arith, decimal, ◌+◌, ◌↔◌, take, get_or}
use Rattle.std.specs.Prelude.{codes, bytes_eq, option_map}
use Rattle.std.specs.Int.{IsInRange}
use Rattle.std.specs.List.{All, list_all, flat_map}
use Rattle.std.proofs.lemmas.List.{take_more, map-append, append-nil}
use Rattle.std.proofs.lemmas.List.Concat.{flat_map-append}
use Rattle.std.proofs.lemmas.Bool.{and_parts, not-true, eqb-false}
use Rattle.std.proofs.lemmas.List.Elements.{All-nil, All-cons, All-append, All-map, All-weaker}
use Rattle.std.proofs.lemmas.Slice.Eq.{bytes_eq-Decides}
use Rattle.text_lines.specs.Lines.{split_once, text_of, HasNo}
use Rattle.text_lines.specs.Reading.{said}
use Rattle.text_lines.proofs.Numerals.{digits_have_no, is_written}
use Rattle.text_lines.proofs.Numerals as numerals
use Rattle.text_lines.proofs.Pieces.{split_again, split_parts}
use Rattle.text_lines.proofs.Pieces as pieces
use Rattle.text_lines.proofs.Steps.{all_said}
use Rattle.cir_determined.specs.declared.rule.Rule.{Rule}
use Rattle.cir_determined.specs.declared.rule.Rule.TheVariants.{Solve, Bool as Boolean, Bits}
use Rattle.cir_determined.specs.Text.{pair_text, line_of, rules_text, number_of, with_second}
use Rattle.cir_determined.specs.Text.{both_numbers, pair_of, rule_named, rule_in, rule_of, rules_of}
use Rattle.cir_determined.specs.Text.{IsNarrow}

-- by a test that computes
lacks : (byte : ℕ) (xs : List ℕ) → list_all (λ b. not (eqb b byte)) xs ≡ true → HasNo byte xs
lacks byte [] h = All-nil (λ b. b ≢ byte)
lacks byte (x ∷ xs) h =
    let p = and_parts (not (eqb x byte)) (list_all (λ b. not (eqb b byte)) xs) h in
    All-cons (λ b. b ≢ byte) x xs (eqb-false x byte (not-true (eqb x byte) p.0)) (lacks byte xs p.1)

no_space : (n : ℕ) → n < 2 ^ 32 → HasNo 32 (decimal n)
no_space n small =
    digits_have_no 32 n (λ (r : IsInRange 48 57 32). omega (arith, r.0)) (omega arith)

no_feed : (n : ℕ) → n < 2 ^ 32 → HasNo 10 (decimal n)
no_feed n small =
    digits_have_no 10 n (λ (r : IsInRange 48 57 10). omega (arith, r.0)) (omega arith)

pair_again : (m n : ℕ) → m < 2 ^ 32 → n < 2 ^ 32 → pair_of (pair_text m n) ≡ Some (m, n)
pair_again m n low high =
    let split = split_again 32 (decimal m) (decimal n) (no_space m low) in
    ap both_numbers split
    ∙ (ap (λ (o : Option ℕ). with_second o (number_of (decimal n))) (numerals.written_again m low)
    ∙ ap (with_second (Some m)) (numerals.written_again n high))

line_again : (r : Rule) → IsNarrow r → rule_of (line_of r) ≡ Some r
line_again (Solve constraint wire) h =
    let split = split_again 32 (codes "solve") (pair_text constraint wire)
    (lacks 32 (codes "solve") refl) in
    ap rule_in split
    ∙ ap (option_map (λ (n : ℕ × ℕ). Solve n.0 n.1)) (pair_again constraint wire h.0 h.1)
line_again (Boolean constraint wire) h =
    let split = split_again 32 (codes "bool") (pair_text constraint wire)
    (lacks 32 (codes "bool") refl) in
    ap rule_in split
    ∙ ap (option_map (λ (n : ℕ × ℕ). Boolean n.0 n.1)) (pair_again constraint wire h.0 h.1)
line_again (Bits constraint) h =
    let split = split_again 32 (codes "bits") (decimal constraint) (lacks 32 (codes "bits") refl) in
    ap rule_in split ∙ ap (option_map Bits) (numerals.written_again constraint h)

not_feed : (b : ℕ) → b ≡ 32 → b ≢ 10
not_feed b e f = omega (arith, e, f)

behind_name : (name numbers : List ℕ) → HasNo 10 name → HasNo 10 numbers
    → HasNo 10 (name ++ 32 ∷ numbers)
behind_name name numbers first second =
    All-append (λ b. b ≢ 10) name (32 ∷ numbers) first
    (All-cons (λ b. b ≢ 10) 32 numbers (not_feed 32 refl) second)

one_line : (r : Rule) → IsNarrow r → HasNo 10 (line_of r)
one_line (Solve constraint wire) h =
    behind_name (codes "solve") (pair_text constraint wire) (lacks 10 (codes "solve") refl)
    (behind_name (decimal constraint) (decimal wire) (no_feed constraint h.0) (no_feed wire h.1))
one_line (Boolean constraint wire) h =
    behind_name (codes "bool") (pair_text constraint wire) (lacks 10 (codes "bool") refl)
    (behind_name (decimal constraint) (decimal wire) (no_feed constraint h.0) (no_feed wire h.1))
one_line (Bits constraint) h =
    behind_name (codes "bits") (decimal constraint) (lacks 10 (codes "bits") refl)
    (no_feed constraint h)

pub rules_again : (rules : List Rule) → All IsNarrow rules → length rules ≤ 4194304
    → rules_of (rules_text rules) ≡ Ok rules
rules_again rules narrow few =
    let each : All (λ r. rule_of (line_of r) ≡ Some r) rules =
    All-weaker IsNarrow (λ r. rule_of (line_of r) ≡ Some r) line_again rules narrow in
    let lines : All (HasNo 10) (map line_of rules) =
    All-map (HasNo 10) line_of rules
    (All-weaker IsNarrow (λ r. HasNo 10 (line_of r)) one_line rules narrow) in
    ap (said rule_of 4194304) (pieces.written_again (map line_of rules) lines)
    ∙ all_said rule_of 4194304 line_of rules record { each = each } few

-- the other way
pub record IsPair (text : List ℕ) (m n : ℕ) : Type 0 where
  pub is : text ≡ pair_text m n
  pub first : m < 2 ^ 32
  pub second : n < 2 ^ 32

numbers_are : (text a b : List ℕ) (m n : ℕ) (x y : Option ℕ) → number_of a ≡ x → number_of b ≡ y
    → text ≡ a ++ 32 ∷ b → with_second x y ≡ Some (m, n) → IsPair text m n
numbers_are text a b m n None y p q e h = cc
numbers_are text a b m n (Some i) None p q e h = cc
numbers_are text a b m n (Some i) (Some j) p q e h =
    let one : ◌≡◌ {A = ℕ × ℕ} (i, j) (m, n) = cc in
    let im : i ≡ m = ap (λ (r : ℕ × ℕ). r.0) one in
    let jn : j ≡ n = ap (λ (r : ℕ × ℕ). r.1) one in
    let v = is_written i a p in
    let w = is_written j b q in
    let first : a ≡ decimal m = v.0 ∙ ap decimal im in
    let second : b ≡ decimal n = w.0 ∙ ap decimal jn in
    record {
      is =
          e ∙ (ap (λ (l : List ℕ). l ++ 32 ∷ b) first
          ∙ ap (λ (l : List ℕ). decimal m ++ 32 ∷ l) second);
      first = omega (arith, v.1, im);
      second = omega (arith, w.1, jn);
    }

parts_are : (text : List ℕ) (m n : ℕ) (o : Option (List ℕ × List ℕ)) → split_once 32 text ≡ o
    → both_numbers o ≡ Some (m, n) → IsPair text m n
parts_are text m n None e h = cc
parts_are text m n (Some parts) e h =
    numbers_are text parts.0 parts.1 m n (number_of parts.0) (number_of parts.1) refl refl
    (split_parts 32 text parts.0 parts.1 e) h

pair_is : (text : List ℕ) (m n : ℕ) → pair_of text ≡ Some (m, n) → IsPair text m n
pair_is text m n h = parts_are text m n (split_once 32 text) refl h

-- the line of a rule
pub record IsLine (line : List ℕ) (rule : Rule) : Type 0 where
  pub is : line ≡ line_of rule
  pub narrow : IsNarrow rule

mapped : {A B : Type 0} (f : A → B) (o : Option A) (b : B) → option_map f o ≡ Some b
    → (a : A) × (o ≡ Some a) × (f a ≡ b)
mapped f None b h = cc
mapped f (Some a) b h = (a, refl, cc)

by_test : (Goal : Type 0) (t : Bool) (x y : Option Rule) (rule : Rule)
    → (t ≡ true → x ≡ Some rule → Goal) → (y ≡ Some rule → Goal) → cond t x y ≡ Some rule → Goal
by_test Goal true x y rule f g h = f refl h
by_test Goal false x y rule f g h = g h

along : (line name text numbers : List ℕ) → line ≡ name ++ 32 ∷ numbers → (word : List ℕ)
    → bytes_eq name word ≡ true → numbers ≡ text → line ≡ word ++ 32 ∷ text
along line name text numbers e word same is =
    e ∙ (ap (λ (l : List ℕ). l ++ 32 ∷ numbers) ((bytes_eq-Decides name word).0 same)
    ∙ ap (λ (l : List ℕ). word ++ 32 ∷ l) is)

named : (line name numbers : List ℕ) (rule : Rule) → line ≡ name ++ 32 ∷ numbers
    → rule_named name numbers ≡ Some rule → IsLine line rule
named line name numbers rule e h =
    by_test (IsLine line rule) (bytes_eq name (codes "solve")) _ _ rule solve
    (by_test (IsLine line rule) (bytes_eq name (codes "bool")) _ _ rule boolean
    (by_test (IsLine line rule) (bytes_eq name (codes "bits")) _ _ rule bits (λ k. cc))) h
  where
    solve : bytes_eq name (codes "solve") ≡ true
        → option_map (λ (n : ℕ × ℕ). Solve n.0 n.1) (pair_of numbers) ≡ Some rule
        → IsLine line rule
    solve same k =
        let w = mapped (λ (n : ℕ × ℕ). Solve n.0 n.1) (pair_of numbers) rule k in
        let p = pair_is numbers w.0.0 w.0.1 w.1 in
        subst (IsLine line) w.2 (record {
          is = along line name (pair_text w.0.0 w.0.1) numbers e (codes "solve") same p.is;
          narrow = (p.first, p.second);
        })

    boolean : bytes_eq name (codes "bool") ≡ true
        → option_map (λ (n : ℕ × ℕ). Boolean n.0 n.1) (pair_of numbers) ≡ Some rule
        → IsLine line rule
    boolean same k =
        let w = mapped (λ (n : ℕ × ℕ). Boolean n.0 n.1) (pair_of numbers) rule k in
        let p = pair_is numbers w.0.0 w.0.1 w.1 in
        subst (IsLine line) w.2 (record {
          is = along line name (pair_text w.0.0 w.0.1) numbers e (codes "bool") same p.is;
          narrow = (p.first, p.second);
        })

    bits : bytes_eq name (codes "bits") ≡ true → option_map Bits (number_of numbers) ≡ Some rule
        → IsLine line rule
    bits same k =
        let w = mapped Bits (number_of numbers) rule k in
        let p = is_written w.0 numbers w.1 in
        subst (IsLine line) w.2 (record {
          is = along line name (decimal w.0) numbers e (codes "bits") same p.0;
          narrow = p.1;
        })

in_parts : (line : List ℕ) (rule : Rule) (o : Option (List ℕ × List ℕ)) → split_once 32 line ≡ o
    → rule_in o ≡ Some rule → IsLine line rule
in_parts line rule None e h = cc
in_parts line rule (Some parts) e h =
    named line parts.0 parts.1 rule (split_parts 32 line parts.0 parts.1 e) h

pub line_is : (line : List ℕ) (rule : Rule) → rule_of line ≡ Some rule
    → (line ≡ line_of rule) × IsNarrow rule
line_is line rule h =
    let w = in_parts line rule (split_once 32 line) refl h in
    (w.is, w.narrow)

pub text_more : (rules : List Rule) (i : ℕ) (d : Rule) → i < length rules
    → rules_text (take (i + 1) rules)
    ≡ rules_text (take i rules) ++ (line_of (get_or rules i d) ++ 10 ∷ [])
text_more rules i d low =
    let line : List ℕ → List ℕ = λ l. l ++ 10 ∷ [] in
    let front : List (List ℕ) = map line_of (take i rules) in
    let last : List ℕ = line_of (get_or rules i d) in
    let both : flat_map line (front ++ last ∷ [])
    ≡ flat_map line front ++ flat_map line (last ∷ []) =
    flat_map-append line front (last ∷ []) in
    let one : flat_map line (last ∷ []) ≡ line last = append-nil (line last) in
    ap rules_text (take_more rules i d low)
    ∙ (ap text_of (map-append line_of (take i rules) (get_or rules i d ∷ []))
    ∙ (both ∙ ap (λ (l : List ℕ). flat_map line front ++ l) one))

pub line_just : (line : List ℕ) (rule : Rule)
    → rule_of line ≡ Some rule ↔ (line ≡ line_of rule) × IsNarrow rule
line_just line rule = (
  line_is line rule,
  λ (h : (line ≡ line_of rule) × IsNarrow rule). ap rule_of h.0
      ∙ line_again rule h.1,
)
