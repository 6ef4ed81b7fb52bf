-- Where there is a certificate, the inputs determine the outputs.
use Rattle.std.proofs.Common.{◌≡◌, ℕ, ◌==◌, ◌≤◌, true, ◌||◌, List, [], ◌∷◌, map, All, Option}
use Rattle.std.proofs.Common.{Some, None, zero, suc, arith, ap, sym, ◌∙◌, inl, inr}
use Rattle.std.specs.Prelude.{slice_get, IfSome}
use Rattle.std.proofs.lemmas.Bool.{eqb-true, or_cases, cases_Bool, false≢true}
use Rattle.std.proofs.lemmas.List.Elements.{All-head, All-tail}
use Rattle.gold_field.specs.declared.form.Constraint.{Constraint}
use Rattle.gold_field.specs.Form.{Holds, ConstraintBelow}
use Rattle.cir_lc.specs.Number.{Assignment}
use Rattle.cir_determined.specs.declared.rule.Rule.{Rule}
use Rattle.cir_determined.specs.declared.rule.Rule.TheVariants.{Solve, Bool as Boolean, Bits}
use Rattle.cir_determined.specs.Circuit.{Circuit, is_input, normalized, in_normal_form}
use Rattle.cir_determined.specs.Marks.{Marks, opening}
use Rattle.cir_determined.specs.Rules.{AppliesTo, place_of, shown}
use Rattle.cir_determined.specs.Rules.{shown_from, is_named}
use Rattle.cir_determined.specs.Certificate.{AllApply, shown_by, IsCertificate}
use Rattle.cir_determined.specs.Determined.{Determines}
use Rattle.cir_determined.proofs.Normals.{normalized-means, normalized-rises, normalized-within}
use Rattle.cir_determined.proofs.Steps.{named_unknown, IsSound, IsMet, solved, boolean_wire}
use Rattle.cir_determined.proofs.Steps.{bits_same}

solve_at : (s t : Assignment) (n : ℕ) (m : Marks) (o : Option Constraint) (c w : ℕ)
    → IfSome o (IsMet s t n) → IsSound s t m → AppliesTo o m (Solve c w)
    → IsSound s t (shown_from o m (Solve c w))
solve_at s t n m None c w met h r = absurd r
solve_at s t n m (Some k) c w met h r = record { known = each; boolean = h.boolean }
  where
    each : (v : ℕ) → ((v == w) || m.known v) ≡ true → s.at v ≡ t.at v
    each v e =
        elim (or_cases (v == w) (m.known v) e) [
          | inl a ↦
              let same : v ≡ w = eqb-true v w a in
              ap s.at same ∙ solved s t m n k w met h r ∙ sym (ap t.at same)
          | inr b ↦ h.known v b
        ]

boolean_at : (s t : Assignment) (n : ℕ) (m : Marks) (o : Option Constraint) (c w : ℕ)
    → IfSome o (IsMet s t n) → IsSound s t m → AppliesTo o m (Boolean c w)
    → IsSound s t (shown_from o m (Boolean c w))
boolean_at s t n m None c w met h r = absurd r
boolean_at s t n m (Some k) c w met h r = record { known = h.known; boolean = each }
  where
    each : (v : ℕ) → ((v == w) || m.boolean v) ≡ true → (s.at v ≤ 1) × (t.at v ≤ 1)
    each v e =
        elim (or_cases (v == w) (m.boolean v) e) [
          | inl a ↦
              let same : v ≡ w = eqb-true v w a in (
                omega (arith, boolean_wire s k w met.first r.says, ap s.at same),
                omega (arith, boolean_wire t k w met.second r.says, ap t.at same),
              )
          | inr b ↦ h.boolean v b
        ]

bits_at : (s t : Assignment) (n : ℕ) (m : Marks) (o : Option Constraint) (c : ℕ)
    → IfSome o (IsMet s t n) → IsSound s t m → AppliesTo o m (Bits c)
    → IsSound s t (shown_from o m (Bits c))
bits_at s t n m None c met h r = absurd r
bits_at s t n m (Some k) c met h r = record { known = each; boolean = h.boolean }
  where
    each : (v : ℕ) → (is_named v k.c || m.known v) ≡ true → s.at v ≡ t.at v
    each v e =
        elim (cases_Bool (m.known v)) [
          | inl b ↦ h.known v b
          | inr b ↦
              elim (or_cases (is_named v k.c) (m.known v) e) [
                | inl a ↦ bits_same s t m n k v met h r (named_unknown m v k.c b a)
                | inr q ↦ h.known v q
              ]
        ]

-- a rule that applies keeps it
step : (s t : Assignment) (n : ℕ) (ks : List Constraint) (m : Marks) (r : Rule)
    → ((i : ℕ) → IfSome (slice_get ks i) (IsMet s t n)) → IsSound s t m
    → AppliesTo (slice_get ks (place_of r)) m r → IsSound s t (shown ks m r)
step s t n ks m (Solve c w) met h a = solve_at s t n m (slice_get ks c) c w (met c) h a
step s t n ks m (Boolean c w) met h a = boolean_at s t n m (slice_get ks c) c w (met c) h a
step s t n ks m (Bits c) met h a = bits_at s t n m (slice_get ks c) c (met c) h a

steps : (s t : Assignment) (n : ℕ) (ks : List Constraint) (rs : List Rule) (m : Marks)
    → ((i : ℕ) → IfSome (slice_get ks i) (IsMet s t n)) → IsSound s t m → AllApply ks m rs
    → IsSound s t (shown_by ks m rs)
steps s t n ks [] m met h a = h
steps s t n ks (r ∷ rs) m met h a =
    steps s t n ks rs (shown ks m r) met (step s t n ks m r met h a.0) a.1

-- the normal constraints hold too
all_met : (s t : Assignment) (n : ℕ) (ks : List Constraint) → All (ConstraintBelow n) ks
    → All (λ k. Holds s.at k) ks → All (λ k. Holds t.at k) ks
    → (i : ℕ) → IfSome (slice_get (map (normalized n) ks) i) (IsMet s t n)
all_met s t n [] below hs ht i = tt
all_met s t n (k ∷ ks) below hs ht zero = record {
  rises = normalized-rises n k;
  within = normalized-within n k first;
  first = (normalized-means n k first s).1 (All-head (λ (k : Constraint). Holds s.at k) k ks hs);
  second = (normalized-means n k first t).1 (All-head (λ (k : Constraint). Holds t.at k) k ks ht);
}
  where
    first : ConstraintBelow n k
    first = All-head (ConstraintBelow n) k ks below
all_met s t n (k ∷ ks) below hs ht (suc i) =
    all_met s t n ks (All-tail (ConstraintBelow n) k ks below)
    (All-tail (λ (k : Constraint). Holds s.at k) k ks hs)
    (All-tail (λ (k : Constraint). Holds t.at k) k ks ht) i

opening_sound : (c : Circuit) (s t : Assignment)
    → ((w : ℕ) → is_input c w ≡ true → s.at w ≡ t.at w) → IsSound s t (opening (in_normal_form c))
opening_sound c s t h = record { known = each; boolean = λ w e. absurd (false≢true e) }
  where
    each : (w : ℕ) → ((w == 0) || is_input c w) ≡ true → s.at w ≡ t.at w
    each w e =
        elim (or_cases (w == 0) (is_input c w) e) [
          | inl a ↦
              let same : w ≡ 0 = eqb-true w 0 a in
              ap s.at same ∙ s.one ∙ sym t.one ∙ sym (ap t.at same)
          | inr b ↦ h w b
        ]

pub certificate_determines : (c : Circuit) (rs : List Rule)
    → All (ConstraintBelow c.wires) c.constraints → IsCertificate (in_normal_form c) rs
    → Determines c
certificate_determines c rs below cert s t hs ht agree w out =
    (steps s t c.wires (map (normalized c.wires) c.constraints) rs (opening (in_normal_form c))
    (all_met s t c.wires c.constraints below hs ht) (opening_sound c s t agree) cert.apply).known w
    (cert.outputs w out)
